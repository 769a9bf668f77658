use Rattle.std.{specs.Prelude.{IfSome, Option}, proofs.Common.{◌≡◌, Some, None, slice_get, sym, subst, refl, arith}}
use Rattle.std.proofs.lemmas.{Grind.common_steps, Option.gets}
use Rattle.dr_entry.specs.declared.entry.Entry.{Entry}
use Rattle.dr_check.proofs.entries.has_same.Goals as goal

pub returns-in-Some : goal.returns-in-Some
returns-in-Some c =
    let here : slice_get c.args.member.now.history c.args.at ≡ Some c.in-Some.own.now =
    grind (arith, common_steps, gets) in (
      λ t there. subst (λ (r : Option Entry). IfSome r (λ x. x ≡ c.args.entry.now)) (sym here)
          (c.is_same.ensures.0 t),
      λ all. c.is_same.ensures.1
          (subst (λ (r : Option Entry). IfSome r (λ x. x ≡ c.args.entry.now)) here (all c.if-not-member.false)),
    )

pub returns-in-None : goal.returns-in-None
returns-in-None c =
    let past : slice_get c.args.member.now.history c.args.at ≡ None = grind (arith, common_steps, gets) in
    (λ t there. subst (λ (r : Option Entry). IfSome r (λ x. x ≡ c.args.entry.now)) (sym past) tt, λ all. refl)
