-- How what is known of a source's or a sink's bytes goes on from call to call.
use Rattle.std.specs.{Io.KnownBytes.{Keeps, Consumes, Appends}, Prelude.{◌^◌}}
use Rattle.std.proofs.Common.{ℕ, List, ◌++◌, Option, Some, None, refl, sym, ap, ◌∙◌, append_assoc, ◌≡◌, ◌+◌, ◌-◌, length, take, drop, subst, arith, length-drop, [], ◌≤◌, le_trans}
use Rattle.std.proofs.{Math.{Nat.{le-min, min-le_left, min-le_right}, Seq.take-add}, lemmas.List.take_all}
use Rattle.dr_io.specs.{Faults.Rose, Sink.Gains, Source.Loses}

-- two writes gain what they gain together
pub gains_more : (old now new : Option (List ℕ)) (first next : List ℕ) → Gains old now first
    → Gains now new next → Gains old new (first ++ next)
gains_more None None None first next p q = tt
gains_more None None (Some new) first next p q = absurd q
gains_more None (Some now) new first next p q = absurd p
gains_more (Some old) None new first next p q = absurd p
gains_more (Some old) (Some now) None first next p q = absurd q
gains_more (Some old) (Some now) (Some new) first next p q = q ∙ ap (λ l. l ++ next) p ∙ append_assoc old first next

-- known bytes stay as they are where nothing happens
pub keeps_same : (known : Option (List ℕ)) → Keeps known known
keeps_same None = tt
keeps_same (Some xs) = refl

-- what stays twice stays
pub keeps_more : (old now new : Option (List ℕ)) → Keeps old now → Keeps now new → Keeps old new
keeps_more None now new p q = tt
keeps_more (Some xs) None new p q = absurd p
keeps_more (Some xs) (Some ys) None p q = absurd q
keeps_more (Some xs) (Some ys) (Some zs) p q = q ∙ p

-- what a reader loses behind calls that changed nothing
pub consumes_behind : (old now new : Option (List ℕ)) (bytes : List ℕ) → Keeps old now
    → Consumes now new bytes → Consumes old new bytes
consumes_behind None now new bytes p q = tt
consumes_behind (Some xs) None new bytes p q = absurd p
consumes_behind (Some xs) (Some ys) None bytes p q = absurd q
consumes_behind (Some xs) (Some ys) (Some zs) bytes p q = sym p ∙ q

-- what a writer gains behind calls that changed nothing
pub appends_behind : (old now new : Option (List ℕ)) (bytes : List ℕ) → Keeps old now
    → Appends now new bytes → Appends old new bytes
appends_behind None now new bytes p q = tt
appends_behind (Some xs) None new bytes p q = absurd p
appends_behind (Some xs) (Some ys) None bytes p q = absurd q
appends_behind (Some xs) (Some ys) (Some zs) bytes p q = q ∙ ap (λ l. l ++ bytes) p

-- the next bytes of the text, written behind its front part, make a longer front part
pub gains_front : (old now new : Option (List ℕ)) (text : List ℕ) (at n : ℕ) → Gains old now (take at text)
    → Gains now new (take n (take (length text - at) (drop at text))) → Gains old new (take (at + n) text)
gains_front old now new text at n first next =
    let rest : take (length text - at) (drop at text) ≡ drop at text = take_all (length text - at) (drop at text)
    (omega (arith, length-drop {A = ℕ})) in
    let P : List ℕ → Type 0 = λ bytes. Gains old new bytes in
    let Q : List ℕ → Type 0 = λ bytes. Gains now new (take n bytes) in
    subst P (sym (take-add at n text))
    (gains_more old now new (take at text) (take n (drop at text)) first (subst Q rest next))

-- a source that is not read
pub loses_nothing : (left : Option (List ℕ)) → Loses left left []
loses_nothing None = tt
loses_nothing (Some left) = refl

-- a count that rose from a later value rose from an earlier one
pub rose_since : (base old new : ℕ) → base ≤ old → Rose old new → Rose base new
rose_since base old new later rose =
    le_trans (le-min (omega (arith, min-le_left (base + 1) (2 ^ 64 - 1), later)) (min-le_right _ _)) rose

pub rose_between : (a b c d : ℕ) → a ≤ b → Rose b c → c ≤ d → Rose a d
rose_between a b c d low rose high = omega (arith, low, rose, high)
