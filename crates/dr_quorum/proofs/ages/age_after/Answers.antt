use Rattle.std.proofs.{Common.{◌≡◌, refl, sym, subst}, lemmas.Option.IfSome_then}
use Rattle.dr_entry.proofs.OptionFacts.{IfNone_then}
use Rattle.dr_restart.specs.Choosing.{HasAge, IsAgeAfter}
use Rattle.dr_quorum.{specs.{Handing.handed_by, Knowing.OfSomeLog}, proofs.Knowing.{after_none, after_some}}
use Rattle.dr_quorum.proofs.ages.age_after.Goals as goal

pub returns-in-Some-clause-some : goal.returns-in-Some-clause-some
returns-in-Some-clause-some c =
    let h = handed_by c.args.lists.now in
    IfSome_then c.next_of.result c.next_of.ensures.some
    (λ next e. subst (IsAgeAfter h) (sym e) (after_some h c.in-Some.age c.in-Some.ensures))

pub returns-in-Some-clause-none : goal.returns-in-Some-clause-none
returns-in-Some-clause-none c =
    let h = handed_by c.args.lists.now in
    IfNone_then c.next_of.result (c.in-Some.age ≡ 65535) (OfSomeLog HasAge h 65535) c.next_of.ensures.none
    (λ e. subst (OfSomeLog HasAge h) e (c.in-Some.ensures.one c.in-Some.age refl))

pub returns-in-None-clause-some : goal.returns-in-None-clause-some
returns-in-None-clause-some c = after_none (handed_by c.args.lists.now) c.in-None.ensures
