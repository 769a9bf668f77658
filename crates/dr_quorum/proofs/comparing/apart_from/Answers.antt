use Rattle.std.proofs.{Common.{subst, List}, lemmas.Option.IfSome_then}
use Rattle.dr_entry.{specs.declared.entry.Entry.Entry, proofs.OptionFacts.IfNone_then}
use Rattle.dr_restart.{specs.Refusing.IsHeldBy, proofs.Choosing.one_held}
use Rattle.dr_quorum.specs.{Comparing.AreAlongBelow, Handing.handed_by}
use Rattle.dr_quorum.proofs.comparing.apart_from.Goals as goal

pub returns-in-Some-clause-none : goal.returns-in-Some-clause-none
returns-in-Some-clause-none c =
    let h = handed_by c.args.lists.now in
    IfNone_then c.first_apart.result (AreAlongBelow h c.args.age c.args.member c.in-Some.entries.now)
    ((es : List Entry) → IsHeldBy h c.args.age c.args.member es → AreAlongBelow h c.args.age c.args.member es)
    c.first_apart.ensures.none (λ p es x. subst (AreAlongBelow h c.args.age c.args.member)
    (one_held h c.args.age c.args.member c.in-Some.entries.now es c.in-Some.ensures.some x) p)

pub returns-in-Some-clause-some : goal.returns-in-Some-clause-some
returns-in-Some-clause-some c = IfSome_then c.first_apart.result c.first_apart.ensures.some
    (λ at d. (c.in-Some.entries.now, c.in-Some.ensures.some, d))

pub returns-in-None-clause-none : goal.returns-in-None-clause-none
returns-in-None-clause-none c es x = absurd (c.in-None.ensures.none es x)
