use Rattle.std.proofs.{Common.{ℕ, Some, None, append-nil, get_or, ap, sym, ◌∙◌}, lemmas.List.get_or_default}
use Rattle.dr_entry.proofs.ListPlaces.{filter_map_more}
use Rattle.dr_oracle.proofs.delivery.merge.Goals as goal
use Rattle.dr_oracle.proofs.delivery.merge.Goals.{in-Some+in_ok-push, in_default}

pub loop-place-preserved : goal.loop-place-preserved
loop-place-preserved c =
    let place : ℕ = get_or c.deref-place-items.result.now c.loop-place.place-index 0 in
    let read = get_or_default c.deref-place-items.result.now c.loop-place.place-index 0 place
    c.loop-place-test.true in
    elim c.match-entry_at.branch [
      | in-Some+in_ok-push w ↦ ap (λ v. v.items) w.entries-is ∙ w.in_ok-push.ensures.items ∙
          filter_map_more _ c.deref-place-items.result.now c.loop-place.place-index place
          c.loop-place.entries.items (Some w.in-Some.entry) c.loop-place-test.true read
          (sym c.entry_at.ensures ∙ w.in-Some.is) c.loop-place.invariant
      | in_default w ↦ ap (λ v. v.items) w.entries-is ∙ (sym (append-nil c.loop-place.entries.items)
          ∙ filter_map_more _ c.deref-place-items.result.now c.loop-place.place-index place
          c.loop-place.entries.items None c.loop-place-test.true read
          (sym c.entry_at.ensures ∙ w.in_default.is) c.loop-place.invariant)
    ]
