-- The pieces of an item, of 32 bits each: that of its head, and those of its body.
use Rattle.std.specs.{Int.{w32, div_ceil, from_be_bytes, to_be_bytes}, List.{flat_map, range_with_len}}
use Rattle.std.specs.Prelude.{ℕ, ◌-◌, ◌*◌, ◌^◌, Bool, ◌||◌, ◌==◌, nat_le, if◌then◌else◌, List, [], ◌∷◌, length, take, drop, map}
use Rattle.dr_entry.specs.declared.entry.Item.{Item, TheVariants.{Null, Text}}
use Rattle.dr_entry.specs.declared.limits.TheConstants.{MAX_MESSAGE_LENGTH}

-- the head of a null; the head of a message is its length
abbrev pub null_mark : ℕ
null_mark = 2 ^ 32 - 1

abbrev pub is_head : ℕ → Bool
is_head piece = piece == null_mark || nat_le piece MAX_MESSAGE_LENGTH

-- how many pieces the body has behind this head, four bytes each
abbrev pub body_len : ℕ → ℕ
body_len head = if head == null_mark then 0 else div_ceil head 4

-- four bytes of the body as a number, the greatest first; behind the end they are 0
abbrev pub body_piece : List ℕ → ℕ → ℕ
body_piece bytes part = from_be_bytes w32 (drop (4 * part) bytes)

abbrev pub head_piece : Item → ℕ
head_piece Null = null_mark
head_piece (Text bytes) = length bytes

abbrev pub body_pieces : Item → List ℕ
body_pieces Null = []
body_pieces (Text bytes) = map (body_piece bytes) (range_with_len 0 (div_ceil (length bytes) 4))

-- the pieces that an item needs
abbrev pub pieces : Item → List ℕ
pieces item = head_piece item ∷ body_pieces item

-- the bytes that pieces of a body hold
abbrev pub bytes_of : List ℕ → List ℕ
bytes_of body = flat_map (to_be_bytes w32) body

-- the item of a head and a body
abbrev pub item_of : ℕ → List ℕ → Item
item_of head body = if head == null_mark then Null else Text (take head (bytes_of body))
