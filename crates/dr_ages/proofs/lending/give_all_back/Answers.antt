use Rattle.std.specs.{Option.option_map_or, Prelude.{Option, is_some}}
use Rattle.std.proofs.Common.{◌≡◌, ◌∙◌, refl, sym, ap, subst, rules, ℕ, ◌+◌, false, arith, List, [], ◌∷◌, ◌++◌, length, length-append}
use Rattle.dr_log.specs.State.{LogState}
use Rattle.dr_opening.specs.Lists.{log_of}
use Rattle.dr_yard.specs.Yards.{state_by}
use Rattle.dr_program.proofs.Present.{place_new}
use Rattle.dr_ages.proofs.{Backs.one_more_back, Loans.lent_less}
use Rattle.dr_ages.proofs.lending.give_all_back.Goals as goal

pub loop-place-preserved-in-Some-place : goal.loop-place-preserved-in-Some-place
loop-place-preserved-in-Some-place g c =
    let rest : List (Option (LogState g.row.Y-Store.Denot)) = c.pop.new.self.items in
    let place : Option (LogState g.row.Y-Store.Denot) = c.in-Some.place in
    let new = c.give_back.new.self in
    let parts : c.loop-place.logs.items ≡ rest ++ place ∷ [] = search rules in
    let last : c.len.result ≡ length rest = search rules in
    let told = c.give_back.ensures.told ∙ ap g.Y.Store.Disk.told c.unmount.ensures in
    let counted = c.give_back.ensures.counted ∙ ap g.Y.Store.Disk.faults c.unmount.ensures in
    let others = c.give_back.ensures.others in
    let k : ℕ = length rest in (
      lent_less g.Y.Yard.is_lent g.Y.Yard.faults g.Y.Store.Disk.faults c.loop-place.yard new c.loop-place.logs.items rest
          place c.loop-place.invariant.0 parts
          (subst (λ (j : ℕ). g.Y.Yard.is_lent new j ≡ false) last c.give_back.ensures.here)
          (λ m apart. let o = others m (λ e. apart (e ∙ last)) in (o.1, o.2)),
      one_more_back g.Y.Store.Disk.told g.Y.Store.Disk.faults
          (state_by g.Y.Yard.told g.Y.Yard.faults c.args.yard.now) c.args.logs.items
          (state_by g.Y.Yard.told g.Y.Yard.faults c.loop-place.yard) (state_by g.Y.Yard.told g.Y.Yard.faults new)
          c.loop-place.logs.items rest place c.loop-place.invariant.1 parts
          (subst (λ (j : ℕ). g.Y.Yard.told new j ≡ g.Y.Store.Disk.told c.in-Some-place.log.disk) last told
          ∙ ap (λ (o : Option (LogState g.row.Y-Store.Denot)).
          option_map_or (λ (log : LogState g.row.Y-Store.Denot). g.Y.Store.Disk.told log.disk) o
          (g.Y.Yard.told c.loop-place.yard k)) (sym c.in-Some-place.is))
          (subst (λ (j : ℕ). g.Y.Yard.faults new j ≡ g.Y.Store.Disk.faults c.in-Some-place.log.disk) last counted
          ∙ ap (λ (o : Option (LogState g.row.Y-Store.Denot)).
          option_map_or (λ (log : LogState g.row.Y-Store.Denot). g.Y.Store.Disk.faults log.disk) o
          (g.Y.Yard.faults c.loop-place.yard k)) (sym c.in-Some-place.is))
          (λ m apart. let o = others m (λ e. apart (e ∙ last)) in (o.0, o.2)),
    )

pub loop-place-preserved : goal.loop-place-preserved
loop-place-preserved g c =
    let D = g.row.Y-Store.Denot in
    let rest : List (Option (LogState D)) = c.pop.new.self.items in
    let place : Option (LogState D) = c.in-Some.place in
    let yard = c.loop-place.yard in
    let parts : c.loop-place.logs.items ≡ rest ++ place ∷ [] = search rules in
    let k : ℕ = length rest in
    let long : length c.loop-place.logs.items ≡ k + 1 = ap length parts ∙ length-append rest (place ∷ []) in
    let here : g.Y.Yard.is_lent yard k ≡ false = c.loop-place.invariant.0.lent k
    (omega (arith, c.loop-place.invariant.0.few, long))
    ∙ ap (λ (o : Option (LogState D)). is_some o) (ap (λ (xs : List (Option (LogState D))). log_of xs k) parts
    ∙ (place_new rest place k refl ∙ c.in_default-place.is)) in (
      lent_less g.Y.Yard.is_lent g.Y.Yard.faults g.Y.Store.Disk.faults yard yard c.loop-place.logs.items rest
          place c.loop-place.invariant.0 parts here (λ m apart. (refl, refl)),
      one_more_back g.Y.Store.Disk.told g.Y.Store.Disk.faults
          (state_by g.Y.Yard.told g.Y.Yard.faults c.args.yard.now) c.args.logs.items
          (state_by g.Y.Yard.told g.Y.Yard.faults yard) (state_by g.Y.Yard.told g.Y.Yard.faults yard)
          c.loop-place.logs.items rest place c.loop-place.invariant.1 parts (ap (λ (o : Option (LogState D)).
          option_map_or (λ (log : LogState D). g.Y.Store.Disk.told log.disk) o (g.Y.Yard.told yard k))
          (sym c.in_default-place.is)) (ap (λ (o : Option (LogState D)).
          option_map_or (λ (log : LogState D). g.Y.Store.Disk.faults log.disk) o (g.Y.Yard.faults yard k))
          (sym c.in_default-place.is)) (λ m apart. (refl, refl)),
    )

pub returns-clause-back : goal.returns-clause-back
returns-clause-back g c m =
    let none : length c.loop-place.logs.items ≡ 0 = search rules in
    c.loop-place.invariant.1.back m (omega (arith, none))
