use Rattle.std.proofs.Common.{◌∙◌, subst, arith, List}
use Rattle.dr_folder.{specs.{Advice.CanNotGo, declared.file.LogFile.LogFile}, proofs.Advising.can_not_more}
use Rattle.dr_folder.proofs.advice.next_away.Goals as goal

pub loop-member-preserved : goal.loop-member-preserved
loop-member-preserved c =
    let here : CanNotGo c.args.script.now c.loop-member.files c.args.surveys.now c.loop-member.member =
    rw c.in_default.is at c.in_ok-start.ensures.start in (
      c.in_ok-start.ensures.kept ∙ c.loop-member.invariant.0,
      can_not_more c.args.script.now c.args.files.now c.args.surveys.now c.args.from c.loop-member.member
          c.loop-member.invariant.1
          (subst (λ (f : List LogFile). CanNotGo c.args.script.now f c.args.surveys.now c.loop-member.member)
          c.loop-member.invariant.0 here),
    )

pub returns-clause-next : goal.returns-clause-next
returns-clause-next c = λ m from below. c.loop-member.invariant.1 m from
    (omega (arith, below, c.loop-member-test.false, c.requires.all, c.requires.each))
