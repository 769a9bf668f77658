use Rattle.std.{specs.List.sum, proofs.lemmas.Bool.cases_lt}
use Rattle.std.proofs.Common.{◌≡◌, ◌<◌, Global, MatchOption, Option, Vec, arith, ℕ, inl, inr, subst, true}
use Rattle.dr_progress.proofs.Besides.{waits_at_rest, waits_both}
use Rattle.dr_tools.specs.Shrinking.{EndsUnder, IsLeastAt}
use Rattle.dr_tools.proofs.sweeps.lessening.lesser.Goals as goal

pub loop-place-init : goal.loop-place-init
loop-place-init g c = (λ k below. absurd (omega (arith, below)), waits_at_rest c.args.progress.now)

pub loop-place-preserved : goal.loop-place-preserved
loop-place-preserved g c =
    let script = c.args.script.now in
    let late = c.args.late in
    let wanted = c.args.wanted.now in
    let limits = c.args.limits.now in
    let least : IsLeastAt script late wanted limits c.loop-place.place =
    subst (λ (found : Option (Vec ℕ Global)). MatchOption found (IsLeastAt script late wanted limits c.loop-place.place)
    (λ v. EndsUnder script late wanted v.items true × (sum v.items < sum limits))) c.in-None.is
    c.in_ok-found.ensures.ends in (
      λ k below. elim (cases_lt k c.loop-place.place) [
        | inl old ↦ c.loop-place.invariant.0 k old
        | inr last ↦
            let same : c.loop-place.place ≡ k = omega (arith, last, below) in
            subst (IsLeastAt script late wanted limits) same least
      ],
      waits_both c.args.progress.now c.loop-place.progress c.lesser_at.new.progress c.loop-place.invariant.1
          c.lesser_at.ensures.waits,
    )

pub returns-clause-waits : goal.returns-clause-waits
returns-clause-waits g c = c.loop-place.invariant.1
