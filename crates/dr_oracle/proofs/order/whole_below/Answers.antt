use Rattle.std.proofs.{Common.{◌≡◌, length, take, Some, sym, ap, ◌∙◌, le_refl}, lemmas.List.take_all}
use Rattle.dr_entry.proofs.BoolFacts.{refuted}
use Rattle.dr_history.specs.History.{sent_of, view_of, place_at}
use Rattle.dr_oracle.proofs.order.whole_below.Goals as goal

pub returns-then-not-holds_delivered : goal.returns-then-not-holds_delivered
returns-then-not-holds_delivered c =
    let h = c.args.history.now in
    let at : place_at (sent_of c.args.ends.now) h c.args.i
    ≡ Some c.in-Some-Some.place = sym c.place_at.ensures ∙ c.in-Some-Some.is-0 in
    let last : view_of h ≡ Some c.in-Some-Some.view = sym c.view_of.ensures ∙ c.in-Some-Some.is-1 in
    let same : view_of (take c.args.i h)
    ≡ view_of (take (length h) h) = c.in_same_view.ensures.0 c.if-not-in_same_view.false in
    let before = same ∙ (ap view_of (take_all (length h) h (le_refl (length h))) ∙ last) in (
      λ t. absurd (cc),
      λ all. absurd (refuted c.holds_delivered.result c.holds_delivered.ensures c.if-not-holds_delivered.true
          (all c.in-Some-Some.place c.loop-lower.lower c.in-Some-Some.view before last at c.loop-lower-test.true)),
    )
