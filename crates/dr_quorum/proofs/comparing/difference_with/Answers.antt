use Rattle.std.proofs.{Common.{subst, List}, lemmas.Option.IfSome_then}
use Rattle.dr_entry.{specs.declared.entry.Entry.Entry, proofs.OptionFacts.IfNone_then}
use Rattle.dr_history.specs.Restarting.{AreAlong}
use Rattle.dr_restart.{specs.Refusing.IsHeldBy, proofs.Choosing.one_held}
use Rattle.dr_quorum.specs.Handing.{handed_by}
use Rattle.dr_quorum.proofs.comparing.difference_with.Goals as goal

pub returns-in-Some-clause-none : goal.returns-in-Some-clause-none
returns-in-Some-clause-none c =
    let h = handed_by c.args.lists.now in
    IfNone_then c.first_difference.result (AreAlong c.in-Some.own.now c.args.entries.now)
    ((f : List Entry) → IsHeldBy h c.args.age c.args.member f → AreAlong f c.args.entries.now)
    c.first_difference.ensures.none (λ p f x. subst (λ (g : List Entry). AreAlong g c.args.entries.now)
    (one_held h c.args.age c.args.member c.in-Some.own.now f c.in-Some.ensures.some x) p)

pub returns-in-Some-clause-some : goal.returns-in-Some-clause-some
returns-in-Some-clause-some c = IfSome_then c.first_difference.result c.first_difference.ensures.some
    (λ place d. (c.in-Some.own.now, c.in-Some.ensures.some, d))

pub returns-in-None-clause-none : goal.returns-in-None-clause-none
returns-in-None-clause-none c f x = absurd (c.in-None.ensures.none f x)
