-- The messages of a history as commands on a map from keys to values, which are bytes.
use Rattle.std.specs.{Cmp.Lexicographic.slice_cmp, Ordering.nat_cmp}
use Rattle.std.specs.Prelude.{ℕ, ◌&&◌, ◌==◌, nat_le, Bool, if◌then◌else◌, List, [], ◌∷◌, length, take, drop, fold, Option, None, Some}
use Rattle.std.specs.FinMap as map
use Rattle.dr_entry.specs.declared.entry.Entry.{Entry, TheVariants.{View, Msg}}

-- what a store holds: a value for each of some keys, which come in the order of their bytes
abbrev pub Contents : Type 0
Contents = map.FinMap (slice_cmp nat_cmp) (List ℕ)

-- a command: from now on its key has this value, or none
abbrev pub StoreCommand : Type 0
StoreCommand = List ℕ × Option (List ℕ)

-- a key has 1 to 62 bytes
abbrev pub is_key_length : ℕ → Bool
is_key_length k = nat_le 1 k && nat_le k 62

-- the key is the first k of the bytes, and the value the others
abbrev pub put_in : ℕ → List ℕ → Option StoreCommand
put_in k bytes =
    if is_key_length k && nat_le k (length bytes) then Some (take k bytes, Some (drop k bytes)) else None

-- the key is all k of the bytes, and it has no value any more
abbrev pub removal_in : ℕ → List ℕ → Option StoreCommand
removal_in k bytes = if is_key_length k && (length bytes == k) then Some (bytes, None) else None

-- The command of a message: a put where its first byte is hexadecimal 50, a removal where it is 44. The
-- second byte is the length of the key. Any other message is no command.
abbrev pub command_in : List ℕ → Option StoreCommand
command_in [] = None
command_in (kind ∷ []) = None
command_in (kind ∷ k ∷ bytes) =
    if kind == 0x50 then put_in k bytes else (if kind == 0x44 then removal_in k bytes else None)

-- the contents after a command
abbrev pub after_command : Contents → Option StoreCommand → Contents
after_command m None = m
after_command m (Some (key, None)) = map.remove m key
after_command m (Some (key, Some value)) = map.insert m key value

-- the messages of a history, in order
abbrev pub messages : List Entry → List (List ℕ)
messages [] = []
messages (View age number members ∷ h) = messages h
messages (Msg sender index bytes ∷ h) = bytes ∷ messages h

-- what the first v messages of a history make of a store that held nothing
unfoldable pub contents : List Entry → ℕ → Contents
contents h v = fold (λ m bytes. after_command m (command_in bytes)) map.empty (take v (messages h))
