use Rattle.dr_progress.proofs.Besides.{waits_both}
use Rattle.std.proofs.Common.{IfOk, List, ap, arith, length, string_bytes, subst}
use Rattle.dr_script.specs.declared.script.Fault.{Fault}
use Rattle.dr_tools.specs.{SweepAnswer.IsSaidOfVariants, declared.sweeps.variants.Variants.TheVariants.Crashes}
use Rattle.dr_tools.proofs.SweepAnswers.{crashes_said}
use Rattle.dr_tools.proofs.sweeps.top.answer_to_crashes.Goals as goal

pub returns-clause-answer : goal.returns-clause-answer
returns-clause-answer g c = crashes_said c.answer_to_variants.result c.args.member c.args.task.now c.args.script.now
    c.in_ok-crashes.crashes.items (omega (arith, c.if-member-script.false))
    (omega (arith, c.if-as_slice-ge-MAX_FAULTS.false, ap length c.as_slice.ensures)) c.in_ok-crashes.ensures.crashes
    (subst (λ (faults : List Fault). IfOk c.answer_to_variants.result
    (λ a. IsSaidOfVariants (Crashes faults) c.args.task.now c.args.script.now (string_bytes a.text, a.status)))
    c.of.ensures c.answer_to_variants.ensures.answer)

pub returns-clause-waits : goal.returns-clause-waits
returns-clause-waits g c = waits_both c.args.progress.now c.crashes_of.new.progress c.answer_to_variants.new.progress
    c.crashes_of.ensures.waits c.answer_to_variants.ensures.waits
