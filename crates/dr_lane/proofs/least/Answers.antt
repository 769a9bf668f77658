use Rattle.std.specs.{Prelude.Contains, Simd.Lanes.chunk}
use Rattle.std.proofs.Common.{◌≡◌, ℕ, ◌+◌, ◌-◌, ◌≤◌, ◌<◌, get_or, length, inl, inr, sym, subst, ap, ◌∙◌, arith, le_trans}
use Rattle.std.proofs.lemmas.{Bool.cases_lt, List.get_or_default, Simd.get_or-chunk}
use Rattle.dr_lane.proofs.Blocks.{lower_below, lower_keeps, min_keeps, of_standing, stands}
use Rattle.dr_lane.proofs.least.Goals as goal

pub loop-at-preserved : goal.loop-at-preserved
loop-at-preserved c =
    let words = c.args.words.now in
    let at = c.loop-at.at in
    let before = c.loop-at.invariant in
    let after = c.lower-lanes.ensures in
    let block : (j : ℕ) → j < 4 → get_or (chunk at 4 words) j 0 ≡ get_or words (at + j) 0
    = λ j h. get_or-chunk at 4 words j 0 h in
    let lane = λ (j : ℕ). get_or c.loop-at.lanes j 0 in
    let other = λ (j : ℕ). get_or (chunk at 4 words) j 0 in
    record {
      within = omega arith;
      long = after.long;
      among = λ j h. subst (Contains words) (sym (after.each j h)) (lower_keeps (Contains words) (lane j) (other j)
          (before.among j h) (subst (Contains words) (sym (block j h)) (stands words (at + j) (omega (arith, h)))));
      below = λ k h. elim (cases_lt k at) [
        | inl early ↦
            let b = before.below k early in
            (b.0, b.1, omega (arith, after.each b.0 b.1, (lower_below (lane b.0) (other b.0)).0, b.2))
        | inr late ↦
            let near : k - at < 4 = omega arith in
            let place : at + (k - at) ≡ k = omega arith in
            let same = block (k - at) near ∙ ap (λ (i : ℕ). get_or words i 0) place in
            (k - at, near, omega (arith, after.each (k - at) near, (lower_below (lane (k - at)) (other (k - at))).1, same))
      ];
    }

pub loop-i-init : goal.loop-i-init
loop-i-init c =
    let words = c.args.words.now in
    let before = c.loop-at.invariant in
    let least = c.least_lane-least.ensures in
    record {
      within = before.within;
      among = of_standing (Contains words) c.loop-at.lanes c.least_lane-least.result
          (λ j h. before.among j (omega (arith, before.long))) least.among;
      below = λ k d h.
          let b = before.below k h in
          omega (
            arith,
            least.below b.0 0 (omega (arith, before.long, b.1)),
            b.2,
            get_or_default words k d 0 (omega (arith, h, before.within)),
          );
    }

pub loop-i-preserved : goal.loop-i-preserved
loop-i-preserved c =
    let words = c.args.words.now in
    let before = c.loop-i.invariant in
    let is = c.min-least.ensures in
    record {
      within = before.within;
      among = subst (Contains words) (sym is) (min_keeps (Contains words) c.loop-i.least (get_or words c.loop-i.i 0)
          before.among (stands words c.loop-i.i (omega arith)));
      below = λ k d h. elim (cases_lt k c.loop-i.i) [
        | inl early ↦ omega (arith, before.below k d early, is)
        | inr late ↦
            let here : k ≡ c.loop-i.i = omega arith in
            let same = ap (λ (i : ℕ). get_or words i 0) here in
            omega (arith, is, same, get_or_default words k d 0 (omega arith))
      ];
    }
