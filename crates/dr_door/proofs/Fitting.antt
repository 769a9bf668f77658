-- The test of letters is exact.
use Rattle.std.{specs.Prelude.{◌↔◌, IsTrue}, proofs.lemmas.Nat.Bits.bit_at_above}
use Rattle.std.proofs.Common.{◌⊎◌, inl, inr, ℕ, ◌-◌, ◌^◌, ◌<◌, ◌≤◌, ◌&&◌, nat_le, nat_lt, List, length, arith}
use Rattle.std.proofs.lemmas.{Bool.{and_from, and_parts, cases_lt, le-leb, leb-true, lt-ltb, ltb-true}, Nat.pow_pos}
use Rattle.dr_entry.specs.declared.entry.Entry.{Entry}
use Rattle.dr_form.specs.Letters.{IsFitting}
use Rattle.dr_history.specs.{History.last_view, Members.has, Order.messages_from}
use Rattle.dr_program.specs.Replica.{Replica, me}
use Rattle.dr_words.{specs.Masks.IsInRoster, proofs.Masks.in_roster_small}
use Rattle.dr_door.specs.Letters.{is_fitting, may_enter}

pub fits_exact : (r : Replica) (letter : List Entry) → length r.history ≤ length letter
    → IsTrue (is_fitting r letter) ↔ IsFitting r letter
fits_exact r letter more = (
  λ t.
      let room = and_parts (nat_le (length letter) r.room) (nat_le base most && may_enter r view) t in
      let few = and_parts (nat_le base most) (may_enter r view) room.1 in
      let later = and_parts (nat_lt 0 view.0) (nat_lt view.0 r.banks && (nat_le view.1 all && has view.1 (me r))) few.1 in
      let bank = and_parts (nat_lt view.0 r.banks) (nat_le view.1 all && has view.1 (me r)) later.1 in
      let roster = and_parts (nat_le view.1 all) (has view.1 (me r)) bank.1 in record {
        more = more;
        room = leb-true (length letter) r.room room.0;
        base = leb-true base most few.0;
        later = ltb-true 0 view.0 later.0;
        bank = ltb-true view.0 r.banks bank.0;
        roster = inside (leb-true view.1 all roster.0);
        inside = roster.1;
      },
  λ y. and_from (nat_le (length letter) r.room) (nat_le base most && may_enter r view) (le-leb (length letter) r.room y.room)
      (and_from (nat_le base most) (may_enter r view) (le-leb base most y.base)
      (and_from (nat_lt 0 view.0) (nat_lt view.0 r.banks && (nat_le view.1 all && has view.1 (me r))) (lt-ltb 0 view.0 y.later)
      (and_from (nat_lt view.0 r.banks) (nat_le view.1 all && has view.1 (me r)) (lt-ltb view.0 r.banks y.bank)
      (and_from (nat_le view.1 all) (has view.1 (me r)) (le-leb view.1 all (small y.roster)) y.inside)))),
)
  where
    view : ℕ × ℕ
    view = last_view (0, 0) letter

    base : ℕ
    base = length (messages_from (me r) letter)

    most : ℕ
    most = length r.messages

    all : ℕ
    all = 2 ^ r.roster - 1

    inside : view.1 ≤ all → IsInRoster r.roster view.1
    inside low i there = by (cases_lt i r.roster)
      where
        by : (i < r.roster) ⊎ (r.roster ≤ i) → i < r.roster
        by (inl less) = less
        by (inr past) = grind (
          arith,
          there,
          bit_at_above view.1 r.roster i (omega (arith, low, pow_pos r.roster)) past,
        )

    small : IsInRoster r.roster view.1 → view.1 ≤ all
    small within = omega (arith, in_roster_small r.roster view.1 within)
