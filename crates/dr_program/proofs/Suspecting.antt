-- The masks of a replica that may suspect another member.
use Rattle.std.proofs.Common.{◌≡◌, ◌==◌, ◌&&◌, ◌||◌, ℕ, not, nat_lt, true, arith}
use Rattle.std.proofs.lemmas.Bool.{and_parts, eqb-false, not-true, Decides.nat_tests}
use Rattle.dr_history.specs.Members.{has}
use Rattle.dr_words.proofs.Masks.{IsSuspecting}
use Rattle.dr_program.specs.{Form.HasForm, Replica.{Replica, is_inside, may_suspect, me}}
use Rattle.dr_suspect.specs.Wishes.{may_wish}

-- what is known of them
pub suspecting : (r : Replica) (j : ℕ) → HasForm r → is_inside r ≡ true → may_suspect r j ≡ true
    → IsSuspecting r.roster r.members r.suspects (me r) j
suspecting r j f inside may = record {
  few = omega (arith, f.members, f.rows.few);
  roster = f.roster;
  named = f.named;
  present = inside;
  trusted = f.trusted;
  within = grind (arith, nat_tests, test.0);
  apart = λ e. eqb-false j (me r) (not-true (j == me r) (and_parts (not (j == me r)) _ test.1).0) e;
}
  where
    test : (nat_lt j r.roster ≡ true) × ((not (j == me r)
        && ((has r.members j || may_wish r.history r.age r.late j) && not (has r.suspects j))) ≡ true)
    test = and_parts (nat_lt j r.roster) _ may
