use Rattle.std.proofs.Common.{arith, ◌≡◌, ◌∙◌, ℕ, List, [], Some, refl, sym, subst}
use Rattle.dr_script.specs.Reading.{reading_of}
use Rattle.dr_text.specs.declared.last.Last.TheVariants as lasts
use Rattle.dr_text.specs.Report.{last_text}
use Rattle.dr_intake.specs.declared.call.Unread.TheVariants as reasons
use Rattle.dr_intake.specs.Answer.{done}
use Rattle.dr_tools.specs.{Trace.{IsTracedFor, trace_usage}, TraceWords.asked_by}
use Rattle.dr_tools.proofs.{TraceStatuses.{traced_known, wrote_known}, Traces.unread_traced}
use Rattle.dr_tools.proofs.tracing.top.trace.Goals as goal

pub returns-in-Ok-clause-told : goal.returns-in-Ok-clause-told
returns-in-Ok-clause-told g c =
    let wrote = c.trace_bytes.ensures.wrote (g.K.Sink.held c.args.sink) (g.K.Sink.faults c.args.sink)
    c.new-output.ensures in
    let asked : asked_by c.args.words.now ≡ Some c.in-Ok.asked = sym c.asked_of.ensures ∙ c.in-Ok.ensures.asked in
    record {
      text = wrote.text;
      due = wrote.due;
      is = done c.in-Ok.asked asked c.in-Ok.bytes.items c.in-Ok.ensures.bytes
          (subst (λ (l : List ℕ). IsTracedFor c.in-Ok.asked (reading_of l) wrote.text wrote.due)
          c.deref.ensures.value wrote.is);
      wrote = wrote.wrote;
    }

pub returns-in-Err-Usage-clause-told : goal.returns-in-Err-Usage-clause-told
returns-in-Err-Usage-clause-told g c = record {
  text = trace_usage;
  due = 2;
  is = unread_traced c.args.words.now c.asked_of.result (g.S.Source.left c.args.source.now)
      (g.S.Source.left c.read_for.new.source) (g.S.Source.faults c.args.source.now)
      (g.S.Source.faults c.read_for.new.source) c.in-Err-Usage.field-0 reasons.Usage trace_usage 2
      c.asked_of.ensures c.in-Err-Usage.field-0-is c.in-Err-Usage.ensures.unread (refl, refl);
  wrote = c.usage.ensures (g.K.Sink.held c.args.sink) (g.K.Sink.faults c.args.sink) c.new-output.ensures;
}

pub returns-in-Err-SourceFault-clause-told : goal.returns-in-Err-SourceFault-clause-told
returns-in-Err-SourceFault-clause-told g c = record {
  text = last_text lasts.SourceFault;
  due = 4;
  is = unread_traced c.args.words.now c.asked_of.result (g.S.Source.left c.args.source.now)
      (g.S.Source.left c.read_for.new.source) (g.S.Source.faults c.args.source.now)
      (g.S.Source.faults c.read_for.new.source) c.in-Err-SourceFault.field-0 reasons.SourceFault (last_text lasts.SourceFault) 4
      c.asked_of.ensures c.in-Err-SourceFault.field-0-is c.in-Err-SourceFault.ensures.unread (refl, refl);
  wrote = c.end.ensures.wrote (g.K.Sink.held c.args.sink) (g.K.Sink.faults c.args.sink) [] c.new-output.ensures;
}

pub returns-in-Err-OutOfMemory-clause-told : goal.returns-in-Err-OutOfMemory-clause-told
returns-in-Err-OutOfMemory-clause-told g c = record {
  text = [];
  due = 10;
  is = unread_traced c.args.words.now c.asked_of.result (g.S.Source.left c.args.source.now)
      (g.S.Source.left c.read_for.new.source) (g.S.Source.faults c.args.source.now)
      (g.S.Source.faults c.read_for.new.source) c.in-Err-OutOfMemory.field-0 reasons.OutOfMemory [] 10
      c.asked_of.ensures c.in-Err-OutOfMemory.field-0-is c.in-Err-OutOfMemory.ensures.unread (refl, refl);
  wrote = c.end-in-Err-OutOfMemory.ensures.wrote (g.K.Sink.held c.args.sink) (g.K.Sink.faults c.args.sink) []
      c.new-output.ensures;
}

pub returns-in-Err-Usage-clause-statuses : goal.returns-in-Err-Usage-clause-statuses
returns-in-Err-Usage-clause-statuses g c =
    wrote_known (g.K.Sink.held c.args.sink) (g.K.Sink.held c.usage.result.sink) (g.K.Sink.faults c.args.sink)
    (g.K.Sink.faults c.usage.result.sink) c.usage.result.status 2 trace_usage (1, omega arith, refl)
    (c.usage.ensures (g.K.Sink.held c.args.sink) (g.K.Sink.faults c.args.sink) c.new-output.ensures)

pub returns-in-Ok-clause-statuses : goal.returns-in-Ok-clause-statuses
returns-in-Ok-clause-statuses g c =
    let wrote = c.trace_bytes.ensures.wrote (g.K.Sink.held c.args.sink) (g.K.Sink.faults c.args.sink)
    c.new-output.ensures in
    let sink = c.trace_bytes.result.sink in
    wrote_known (g.K.Sink.held c.args.sink) (g.K.Sink.held sink) (g.K.Sink.faults c.args.sink)
    (g.K.Sink.faults sink) c.trace_bytes.result.status wrote.due wrote.text
    (traced_known c.in-Ok.asked (reading_of c.deref.result.now) wrote.text wrote.due wrote.is) wrote.wrote

pub returns-in-Err-SourceFault-clause-statuses : goal.returns-in-Err-SourceFault-clause-statuses
returns-in-Err-SourceFault-clause-statuses g c =
    let sink = c.end.result.sink in
    wrote_known (g.K.Sink.held c.args.sink) (g.K.Sink.held sink) (g.K.Sink.faults c.args.sink)
    (g.K.Sink.faults sink) c.end.result.status 4 (last_text lasts.SourceFault) (3, omega arith, refl)
    (c.end.ensures.wrote (g.K.Sink.held c.args.sink) (g.K.Sink.faults c.args.sink) [] c.new-output.ensures)

pub returns-in-Err-OutOfMemory-clause-statuses : goal.returns-in-Err-OutOfMemory-clause-statuses
returns-in-Err-OutOfMemory-clause-statuses g c =
    let sink = c.end-in-Err-OutOfMemory.result.sink in
    wrote_known (g.K.Sink.held c.args.sink) (g.K.Sink.held sink) (g.K.Sink.faults c.args.sink)
    (g.K.Sink.faults sink) c.end-in-Err-OutOfMemory.result.status 10 [] (7, omega arith, refl)
    (c.end-in-Err-OutOfMemory.ensures.wrote (g.K.Sink.held c.args.sink) (g.K.Sink.faults c.args.sink) []
    c.new-output.ensures)
