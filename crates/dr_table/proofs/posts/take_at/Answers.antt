use Rattle.std.{specs.Prelude.None, proofs.Common.{◌+◌, ◌∷◌, [], sym, ap, ◌∙◌, subst, arith}}
use Rattle.atomic_table.specs.Table.{Me}
use Rattle.dr_history.specs.Members.{has}
use Rattle.dr_member.specs.Deeds.{table_size}
use Rattle.dr_program.specs.{Replica.me, Running.Running}
use Rattle.dr_table.specs.{Slots.{Slot, slot_number}, Steps.busy, declared.rule.View.View}
use Rattle.dr_table.proofs.Holding.{KnowsLate, letter_at, saw_letter, taker_knows}
use Rattle.dr_table.proofs.posts.take_at.Goals as goal

pub overflow_add-word : goal.overflow_add-word
overflow_add-word g c =
    let due = c.requires.due.takes (omega (arith, c.requires.errand.1)) in
    let k = subst (KnowsLate g.J.Posting.now) due.1 (taker_knows g.J.Posting.now c.requires.reached due.0) in
    omega (
      arith,
      k.within,
      k.few,
      k.small,
      c.table_words.ensures,
      c.me.ensures,
      c.requires.errand.0,
      ap table_size c.requires.now,
    )

pub peek_at-requires-clause-second : goal.peek_at-requires-clause-second
peek_at-requires-clause-second g c = c.requires.errand.1

pub peek_at-requires-clause-word : goal.peek_at-requires-clause-word
peek_at-requires-clause-word g c =
    omega (arith, c.table_words.ensures, c.me.ensures, c.requires.errand.0, ap table_size c.requires.now)

pub peek_at-requires-clause-within : goal.peek_at-requires-clause-within
peek_at-requires-clause-within g c =
    let due = c.requires.due.takes (omega (arith, c.requires.errand.1)) in
    let k = subst (KnowsLate g.J.Posting.now) due.1 (taker_knows g.J.Posting.now c.requires.reached due.0) in
    omega (
      arith,
      k.within,
      c.requires.size,
      c.table_words.ensures,
      c.me.ensures,
      c.requires.errand.0,
      ap table_size c.requires.now,
    )

pub rank_of-requires-clause-number : goal.rank_of-requires-clause-number
rank_of-requires-clause-number g c =
    let due = c.requires.due.takes (omega (arith, c.requires.errand.1)) in
    let k = subst (KnowsLate g.J.Posting.now) due.1 (taker_knows g.J.Posting.now c.requires.reached due.0) in
    omega (arith, k.within, k.few, c.me-2.ensures, c.requires.errand.0)

pub rank_of-requires-clause-member : goal.rank_of-requires-clause-member
rank_of-requires-clause-member g c =
    let due = c.requires.due.takes (omega (arith, c.requires.errand.1)) in
    let k = subst (KnowsLate g.J.Posting.now) due.1 (taker_knows g.J.Posting.now c.requires.reached due.0) in
    ap (has c.late.result) (c.me-2.ensures ∙ sym c.requires.errand.0) ∙ ap (λ mask. has mask g.J.Posting.errand.late)
    (c.late.ensures ∙ sym (ap (λ (r : Running). r.replica.late) c.requires.now)) ∙ k.late

pub fetch_at-letter-requires-clause-second : goal.fetch_at-letter-requires-clause-second
fetch_at-letter-requires-clause-second g c = c.requires.errand.1

pub fetch_at-letter-requires-clause-seen : goal.fetch_at-letter-requires-clause-seen
fetch_at-letter-requires-clause-seen g c = saw_letter _ _ c.peek_at.new.seat.me c.peek_at.ensures.peeked.0
    c.peek_at.result c.peek_at.ensures.peeked.1 c.if-not-peek_at.false c.peek_at.ensures.peeked.2

pub fetch_at-letter-requires-clause-at : goal.fetch_at-letter-requires-clause-at
fetch_at-letter-requires-clause-at g c =
    let due = c.requires.due.takes (omega (arith, c.requires.errand.1)) in
    let k = subst (KnowsLate g.J.Posting.now) due.1 (taker_knows g.J.Posting.now c.requires.reached due.0) in
    letter_at _ _ _ _ (me c.args.member.now.replica) _ _ k c.requires.size c.requires.errand.0 c.requires.now
    (λ z. c.table_words.ensures z + (c.from.ensures ∙ c.me.ensures) z)
    (c.from-slot.ensures ∙ c.rank_of.ensures.rank ∙ (λ z. slot_number (c.late.ensures z) (c.me-2.ensures z)))

pub return_at-requires-clause-second : goal.return_at-requires-clause-second
return_at-requires-clause-second g c = c.requires.errand.1

pub return_at-requires-clause-fetched : goal.return_at-requires-clause-fetched
return_at-requires-clause-fetched g c = (
  c.fetch_at-letter.result.items,
  c.fetch_at-letter.ensures.fetched ∙ ap (λ n. busy g.J.Posting.now
      (record g.J.Posting.errand { word = 3; letter = c.fetch_at-letter.result.items }) ((n, None) ∷ []))
      (c.from-slot.ensures ∙ c.rank_of.ensures.rank ∙ (λ z. slot_number (c.late.ensures z) (c.me-2.ensures z))
      ∙ sym (λ z. slot_number (c.requires.now z).replica.late (c.requires.errand.0 z))),
)

pub return_at-requires-clause-word : goal.return_at-requires-clause-word
return_at-requires-clause-word g c =
    omega (arith, c.table_words.ensures, c.me.ensures, c.requires.errand.0, ap table_size c.requires.now)

pub return_at-requires-clause-within : goal.return_at-requires-clause-within
return_at-requires-clause-within g c =
    let due = c.requires.due.takes (omega (arith, c.requires.errand.1)) in
    let k = subst (KnowsLate g.J.Posting.now) due.1 (taker_knows g.J.Posting.now c.requires.reached due.0) in
    omega (
      arith,
      k.within,
      c.requires.size,
      c.table_words.ensures,
      c.me.ensures,
      c.requires.errand.0,
      ap table_size c.requires.now,
    )

pub returns-clause-taken : goal.returns-clause-taken
returns-clause-taken g c = c.return_at.ensures.taken
    (record g.J.Posting.errand { word = 3; letter = c.fetch_at-letter.result.items })
    (ap (λ (m : Me Slot View). m.0.errand) c.fetch_at-letter.ensures.fetched)
