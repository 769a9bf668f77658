use Rattle.std.proofs.Common.{◌≡◌, ◌++◌, ℕ, List, slice_get, Some, inl, inr, refl, sym, ap, subst, ◌∙◌, arith, below_more}
use Rattle.std.proofs.lemmas.Option.{same_Some, slice_get_read, slice_get_within}
use Rattle.dr_entry.{specs.declared.entry.Entry.{Entry, TheVariants.Msg}, proofs.BoolFacts.refuted}
use Rattle.dr_history.specs.{History.IsPrefixOf, Order.{messages_from, numbered_messages}}
use Rattle.dr_history.proofs.Orders.{has_message_or_not}
use Rattle.dr_oracle.proofs.order.all_are_numbered.Goals as goal

pub returns-then-not-is_numbered : goal.returns-then-not-is_numbered
returns-then-not-is_numbered c = (
  λ t. absurd (cc),
  λ all. absurd (refuted c.is_numbered.result c.is_numbered.ensures c.if-not-is_numbered.true (all c.in-Msg.sender)),
)

pub loop-entry-preserved : goal.loop-entry-preserved
loop-entry-preserved c =
    let h = c.args.history.now in
    let read : slice_get h c.loop-entry.entry-index ≡ Some c.entry-item.result =
    slice_get_read h _ c.loop-entry.entry-index c.entry-item.result refl c.loop-entry-test.true c.entry-item.is in
    below_more _ _ c.loop-entry.invariant (λ s index b at.
    let same : Msg c.in-Msg.sender c.in-Msg.index c.in-Msg.bytes ≡ Msg s index b = sym c.in-Msg.is
    ∙ same_Some _ _ (sym read ∙ at) in
    let same_sender : c.in-Msg.sender ≡ s = cc in
    subst (λ (z : ℕ). IsPrefixOf (messages_from z h) (numbered_messages c.args.opening.now z)) same_sender
    (c.is_numbered.ensures.0 c.if-not-is_numbered.false))

pub returns : goal.returns
returns c =
    let h = c.args.history.now in (
      λ _ s. elim (has_message_or_not s h) [
        | inl none ↦ (
          numbered_messages c.args.opening.now s,
          ap (λ (es : List Entry). es ++ numbered_messages c.args.opening.now s) none,
        )
        | inr at ↦ c.loop-entry.invariant at.0 (omega (arith, slice_get_within h at.0 _ at.3)) s at.1 at.2 at.3
      ],
      λ _. refl,
    )
