use Rattle.std.{specs.List.range_with_len, proofs.lemmas.Grind.common_steps}
use Rattle.std.proofs.Common.{◌≡◌, ℕ, ◌*◌, true, false, max, fold, length, filter, arith, subst, ap, ◌∙◌}
use Rattle.dr_entry.proofs.ListParts.{filter_range_more}
use Rattle.dr_history.specs.Places.{is_held, held_places}
use Rattle.dr_oracle.proofs.places.held_places.Goals as goal
use Rattle.dr_oracle.proofs.places.held_places.Goals.{then-is_held+in_ok-push, else-is_held}

pub loop-place-preserved : goal.loop-place-preserved
loop-place-preserved c = rw (filter_range_more (is_held c.args.counts.now) c.loop-place.place)
    (elim c.if-is_held.branch [
      | then-is_held+in_ok-push w ↦
          let held : is_held c.args.counts.now c.loop-place.place ≡ true = cc in
          grind (arith, common_steps, held, w.in_ok-push.ensures.items, c.loop-place.invariant)
      | else-is_held w ↦
          let gap : is_held c.args.counts.now c.loop-place.place ≡ false = cc in
          grind (arith, common_steps, gap, c.loop-place.invariant)
    ])

pub returns : goal.returns
unfolding held_places
returns c =
    let end : c.loop-place.place ≡ length c.args.counts.now * c.from.result = omega arith in
    let most : c.from.result ≡ fold max 0 c.args.counts.now = c.from.ensures ∙ c.greatest.ensures in
    subst (λ (n : ℕ). c.loop-place.places.items ≡ filter (is_held c.args.counts.now) (range_with_len 0 n))
    (end ∙ ap (λ (m : ℕ). length c.args.counts.now * m) most) c.loop-place.invariant
