use Rattle.std.specs.{Fmt.decimal, List.join_by}
use Rattle.std.proofs.Common.{◌≡◌, ◌++◌, Bool, true, false, List, [], ◌∷◌, string_bytes, codes}
use Rattle.dr_history.specs.Members.{members_below}
use Rattle.dr_text.proofs.entries.push_mask.Given as goal

abbrev is_none : {A : Type 0} → List A → Bool
is_none [] = true
is_none (x ∷ xs) = false

abbrev pub invariant-loop-number : goal.invariant-loop-number
invariant-loop-number l = (l.first ≡ is_none (members_below l.mask l.number))
    × (string_bytes l.out ≡ string_bytes l.initial.out ++ join_by decimal (codes ",") (members_below l.mask l.number))
