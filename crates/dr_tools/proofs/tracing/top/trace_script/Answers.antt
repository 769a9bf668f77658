use Rattle.std.proofs.Common.{inl, inr, refl, subst}
use Rattle.dr_ages.specs.declared.part.Part.{Part}
use Rattle.dr_outcome.specs.Outcome.{AreAllLate}
use Rattle.dr_tools.specs.Trace.{IsRunTold, trace_usage}
use Rattle.dr_tools.proofs.tracing.top.trace_script.Goals as goal

pub returns-then-are_all_late-clause-wrote : goal.returns-then-are_all_late-clause-wrote
returns-then-are_all_late-clause-wrote g c = λ held fell told. record {
  text = trace_usage;
  due = 2;
  is = inr (record {
    all = subst (λ (p : Part). AreAllLate c.args.script.now p) c.with_late-part.ensures c.if-are_all_late.ensures;
    usage = refl;
    status = refl;
  });
  wrote = c.usage.ensures held fell told;
}

pub returns-clause-wrote : goal.returns-clause-wrote
returns-clause-wrote g c = λ held fell told.
    let ran = c.trace_run.ensures.wrote held fell told in
    record {
      text = ran.text;
      due = ran.due;
      is = inl (subst (λ (p : Part). IsRunTold c.args.asked.form c.args.script.now p ran.text ran.due)
          c.with_late-part.ensures ran.is);
      wrote = ran.wrote;
    }
