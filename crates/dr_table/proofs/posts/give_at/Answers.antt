use Rattle.std.{specs.Prelude.vec_capacity, proofs.Common.{◌+◌, ◌≤◌, sym, ap, ◌∙◌, subst, arith}}
use Rattle.dr_history.specs.{History.up_to_view, Members.has}
use Rattle.dr_member.specs.Deeds.{table_size}
use Rattle.dr_program.specs.Running.{Running}
use Rattle.dr_table.{specs.Slots.slot_number, proofs.Holding.{giver_knows, letter_at}}
use Rattle.dr_table.proofs.posts.give_at.Goals as goal

pub overflow_add-word : goal.overflow_add-word
overflow_add-word g c =
    let k = giver_knows g.J.Posting.now g.J.Posting.errand.late c.requires.reached
    (c.requires.due.gives c.requires.errand.1) in
    omega (arith, k.within, k.few, k.small, c.table_words.ensures, c.requires.errand.0, ap table_size c.requires.now)

pub rank_of-requires-clause-number : goal.rank_of-requires-clause-number
rank_of-requires-clause-number g c =
    let k = giver_knows g.J.Posting.now g.J.Posting.errand.late c.requires.reached
    (c.requires.due.gives c.requires.errand.1) in
    omega (arith, k.within, k.few, c.requires.errand.0)

pub rank_of-requires-clause-member : goal.rank_of-requires-clause-member
rank_of-requires-clause-member g c =
    let k = giver_knows g.J.Posting.now g.J.Posting.errand.late c.requires.reached
    (c.requires.due.gives c.requires.errand.1) in
    ap (has c.late.result) (sym c.requires.errand.0) ∙ ap (λ mask. has mask g.J.Posting.errand.late)
    (c.late.ensures ∙ sym (ap (λ (r : Running). r.replica.late) c.requires.now)) ∙ k.late

pub open_at-letter-requires-clause-first : goal.open_at-letter-requires-clause-first
open_at-letter-requires-clause-first g c = c.requires.errand.1

pub open_at-letter-requires-clause-at : goal.open_at-letter-requires-clause-at
open_at-letter-requires-clause-at g c =
    let k = giver_knows g.J.Posting.now g.J.Posting.errand.late c.requires.reached
    (c.requires.due.gives c.requires.errand.1) in
    letter_at _ _ _ _ _ _ _ k c.requires.size c.requires.errand.0 c.requires.now
    (λ z. c.table_words.ensures z + c.from.ensures z)
    (c.from-slot.ensures ∙ c.rank_of.ensures.rank ∙ ap (λ mask. slot_number mask c.args.late) c.late.ensures)

pub letter-requires-clause-room : goal.letter-requires-clause-room
letter-requires-clause-room g c =
    subst (λ (r : Running). r.replica.room ≤ vec_capacity c.open_at-letter.result) c.requires.now
    c.open_at-letter.ensures.blank.fits

pub home_at-requires-clause-first : goal.home_at-requires-clause-first
home_at-requires-clause-first g c = c.requires.errand.1

pub home_at-requires-clause-at : goal.home_at-requires-clause-at
home_at-requires-clause-at g c =
    let k = giver_knows g.J.Posting.now g.J.Posting.errand.late c.requires.reached
    (c.requires.due.gives c.requires.errand.1) in
    letter_at _ _ _ _ _ _ _ k c.requires.size c.requires.errand.0 c.requires.now
    (λ z. c.table_words.ensures z + c.from.ensures z)
    (c.from-slot.ensures ∙ c.rank_of.ensures.rank ∙ ap (λ mask. slot_number mask c.args.late) c.late.ensures)

pub home_at-requires-clause-letter : goal.home_at-requires-clause-letter
home_at-requires-clause-letter g c =
    c.letter.ensures ∙ sym (ap (λ (r : Running). up_to_view r.replica.history) c.requires.now)
