use Rattle.std.proofs.Common.{◌≡◌, ◌++◌, ℕ, List, drop, get_or, slice_get, Some, refl, sym, ap, subst, ◌∙◌, take-append-drop, arith}
use Rattle.std.proofs.lemmas.{List.take_all, Option.slice_get_within}
use Rattle.dr_entry.{specs.declared.entry.Entry.{Entry, TheVariants.Msg}, proofs.BoolFacts.refuted}
use Rattle.dr_history.specs.{History.messages_of, Order.{messages_from, numbered_messages}}
use Rattle.dr_history.proofs.NumberedLemmas.{numbered_here, numbered_step}
use Rattle.dr_oracle.proofs.order.is_numbered.Goals as goal

pub returns-then-not-is_next : goal.returns-then-not-is_next
returns-then-not-is_next c =
    let o = c.args.opening.now in
    let h = c.args.history.now in
    let i : ℕ = c.loop-entry.entry-index in
    let message : c.entry-item.result ≡ Msg c.args.of c.in-Msg.index c.in-Msg.bytes =
    c.in-Msg.is ∙ ap (λ (s : ℕ). Msg s c.in-Msg.index c.in-Msg.bytes) c.if-sender-of.false in
    let read = subst (λ (e : Entry). e ≡ get_or h i e) message c.entry-item.is in (
      λ t. absurd (cc),
      λ p. absurd (refuted c.is_next.result c.is_next.ensures c.if-not-is_next.true
          (let here = numbered_here o c.args.of h i c.loop-entry.next c.in-Msg.index c.in-Msg.bytes
          c.loop-entry-test.true read c.loop-entry.invariant.so_far c.loop-entry.invariant.given p in (
            ap (λ (ms : List (List ℕ)). slice_get ms c.loop-entry.next) c.messages_of-messages.ensures ∙ here.0,
            here.1,
          ))),
    )

pub loop-entry-preserved : goal.loop-entry-preserved
loop-entry-preserved c =
    let o = c.args.opening.now in
    let h = c.args.history.now in
    let i : ℕ = c.loop-entry.entry-index in
    let message : c.entry-item.result ≡ Msg c.args.of c.in-Msg.index c.in-Msg.bytes =
    c.in-Msg.is ∙ ap (λ (s : ℕ). Msg s c.in-Msg.index c.in-Msg.bytes) c.if-sender-of.false in
    let read = subst (λ (e : Entry). e ≡ get_or h i e) message c.entry-item.is in
    let is = c.is_next.ensures.0 c.if-not-is_next.false in
    let at : slice_get (messages_of o c.args.of) c.loop-entry.next ≡ Some c.in-Msg.bytes =
    ap (λ (ms : List (List ℕ)). slice_get ms c.loop-entry.next) (sym c.messages_of-messages.ensures) ∙ is.0 in
    record {
      so_far = numbered_step o c.args.of h i c.loop-entry.next c.in-Msg.index c.in-Msg.bytes
          c.loop-entry-test.true read c.loop-entry.invariant.so_far at is.1;
      given = omega (arith, slice_get_within (messages_of o c.args.of) c.loop-entry.next c.in-Msg.bytes at);
    }

pub returns : goal.returns
returns c =
    let numbered : List Entry = numbered_messages c.args.opening.now c.args.of in
    let rest : List Entry = drop c.loop-entry.next numbered in (
      λ _. (
        rest,
        ap (λ (es : List Entry). messages_from c.args.of es ++ rest)
            (sym (take_all c.loop-entry.entry-index c.args.history.now c.loop-entry-test.false)) ∙
            (ap (λ (es : List Entry). es ++ rest) c.loop-entry.invariant.so_far
            ∙ take-append-drop c.loop-entry.next numbered),
      ),
      λ _. refl,
    )
