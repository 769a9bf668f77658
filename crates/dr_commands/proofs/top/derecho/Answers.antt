-- The clauses say in each case what the course of the call and what was written of it say.
use Rattle.std.{specs.declared.alloc.Global.Global, proofs.Common.{List, ℕ, String, inl, inr, refl}}
use Rattle.dr_entry.proofs.ListParts.{run_end}
use Rattle.dr_text.specs.declared.last.Last.TheVariants.{SourceFault}
use Rattle.dr_yard.specs.Yards.{state_by}
use Rattle.dr_outcome.specs.declared.outcome.Outcome.{Outcome}
use Rattle.dr_commands.{specs.Outcome.WroteOrNot, proofs.Judged.judged_so}
use Rattle.dr_commands.proofs.Course.{Call, IsCourse, Standing, disk_fault_of, disk_told_of, fault_told, late_told_of, log_full_of, logs_refused_of, no_majority_of, read_fault_of, standing_of, status_known, unfinished_of, usage_of, usage_told_of}
use Rattle.dr_commands.proofs.top.derecho.Given as given
use Rattle.dr_commands.proofs.top.derecho.Goals as goal

abbrev call : (g : given.Over) → List (String Global) → g.row.S.Denot → g.row.S.Denot → g.row.Y.Denot
    → g.row.Y.Denot → Outcome → Call
call g words old new before after outcome = record {
  words = words;
  old = g.S.Source.left old;
  new = g.S.Source.left new;
  failed = g.S.Source.faults old;
  fails = g.S.Source.faults new;
  before = state_by g.Y.Yard.told g.Y.Yard.faults before;
  after = state_by g.Y.Yard.told g.Y.Yard.faults after;
  outcome = outcome;
}

stands : (g : given.Over) (words : List (String Global)) (old new : g.row.S.Denot)
    (before after : g.row.Y.Denot) (outcome : Outcome) (held holds : g.row.K.Denot) (status : ℕ)
    → IsCourse (call g words old new before after outcome)
    → WroteOrNot (g.K.Sink.held held) (g.K.Sink.held holds) (g.K.Sink.faults held) (g.K.Sink.faults holds)
    status outcome → Standing (call g words old new before after outcome) status
stands g words old new before after outcome held holds status course wrote =
    standing_of (call g words old new before after outcome) (g.K.Sink.held held) (g.K.Sink.held holds)
    (g.K.Sink.faults held) (g.K.Sink.faults holds) status course wrote

pub returns-clause-course : goal.returns-clause-course
returns-clause-course g c = (
  c.outcome_of-outcome.result,
  c.outcome_of-outcome.ensures.course,
  c.tell-status.ensures.wrote,
  refl,
  refl,
)

pub returns-clause-judged : goal.returns-clause-judged
returns-clause-judged g c = λ play asked end.
    judged_so (call g c.args.words.now c.args.source.now c.outcome_of-outcome.new.source c.args.yard.now
    c.outcome_of-outcome.new.yard c.outcome_of-outcome.result) (g.K.Sink.held c.args.sink.now)
    (g.K.Sink.held c.tell-status.new.sink) (g.K.Sink.faults c.args.sink.now)
    (g.K.Sink.faults c.tell-status.new.sink) c.tell-status.result play c.outcome_of-outcome.ensures.course
    c.tell-status.ensures.wrote asked (run_end c.tell-status.result end)

pub returns-clause-statuses : goal.returns-clause-statuses
returns-clause-statuses g c =
    status_known (stands g c.args.words.now c.args.source.now c.outcome_of-outcome.new.source
    c.args.yard.now c.outcome_of-outcome.new.yard c.outcome_of-outcome.result c.args.sink.now
    c.tell-status.new.sink c.tell-status.result c.outcome_of-outcome.ensures.course c.tell-status.ensures.wrote)

pub returns-clause-usage : goal.returns-clause-usage
returns-clause-usage g c = usage_of (stands g c.args.words.now c.args.source.now c.outcome_of-outcome.new.source
    c.args.yard.now c.outcome_of-outcome.new.yard c.outcome_of-outcome.result c.args.sink.now
    c.tell-status.new.sink c.tell-status.result c.outcome_of-outcome.ensures.course c.tell-status.ensures.wrote)

pub returns-clause-usage_told : goal.returns-clause-usage_told
returns-clause-usage_told g c =
    usage_told_of (stands g c.args.words.now c.args.source.now c.outcome_of-outcome.new.source
    c.args.yard.now c.outcome_of-outcome.new.yard c.outcome_of-outcome.result c.args.sink.now
    c.tell-status.new.sink c.tell-status.result c.outcome_of-outcome.ensures.course c.tell-status.ensures.wrote)

pub returns-clause-late_told : goal.returns-clause-late_told
returns-clause-late_told g c = λ tells asks.
    late_told_of (call g c.args.words.now c.args.source.now c.outcome_of-outcome.new.source c.args.yard.now
    c.outcome_of-outcome.new.yard c.outcome_of-outcome.result) (g.K.Sink.held c.args.sink.now)
    (g.K.Sink.held c.tell-status.new.sink) (g.K.Sink.faults c.args.sink.now)
    (g.K.Sink.faults c.tell-status.new.sink) c.tell-status.result c.outcome_of-outcome.ensures.course
    c.tell-status.ensures.wrote tells asks

pub returns-clause-read_fault : goal.returns-clause-read_fault
returns-clause-read_fault g c =
    read_fault_of (stands g c.args.words.now c.args.source.now c.outcome_of-outcome.new.source
    c.args.yard.now c.outcome_of-outcome.new.yard c.outcome_of-outcome.result c.args.sink.now
    c.tell-status.new.sink c.tell-status.result c.outcome_of-outcome.ensures.course c.tell-status.ensures.wrote)

pub returns-clause-disk_fault : goal.returns-clause-disk_fault
returns-clause-disk_fault g c =
    disk_fault_of (stands g c.args.words.now c.args.source.now c.outcome_of-outcome.new.source
    c.args.yard.now c.outcome_of-outcome.new.yard c.outcome_of-outcome.result c.args.sink.now
    c.tell-status.new.sink c.tell-status.result c.outcome_of-outcome.ensures.course c.tell-status.ensures.wrote)

pub returns-clause-logs_refused : goal.returns-clause-logs_refused
returns-clause-logs_refused g c =
    logs_refused_of (stands g c.args.words.now c.args.source.now c.outcome_of-outcome.new.source
    c.args.yard.now c.outcome_of-outcome.new.yard c.outcome_of-outcome.result c.args.sink.now
    c.tell-status.new.sink c.tell-status.result c.outcome_of-outcome.ensures.course c.tell-status.ensures.wrote)

pub returns-clause-log_full : goal.returns-clause-log_full
returns-clause-log_full g c = log_full_of (stands g c.args.words.now c.args.source.now c.outcome_of-outcome.new.source
    c.args.yard.now c.outcome_of-outcome.new.yard c.outcome_of-outcome.result c.args.sink.now
    c.tell-status.new.sink c.tell-status.result c.outcome_of-outcome.ensures.course c.tell-status.ensures.wrote)

pub returns-clause-unfinished : goal.returns-clause-unfinished
returns-clause-unfinished g c =
    unfinished_of (stands g c.args.words.now c.args.source.now c.outcome_of-outcome.new.source
    c.args.yard.now c.outcome_of-outcome.new.yard c.outcome_of-outcome.result c.args.sink.now
    c.tell-status.new.sink c.tell-status.result c.outcome_of-outcome.ensures.course c.tell-status.ensures.wrote)

pub returns-clause-no_majority : goal.returns-clause-no_majority
returns-clause-no_majority g c =
    no_majority_of (stands g c.args.words.now c.args.source.now c.outcome_of-outcome.new.source
    c.args.yard.now c.outcome_of-outcome.new.yard c.outcome_of-outcome.result c.args.sink.now
    c.tell-status.new.sink c.tell-status.result c.outcome_of-outcome.ensures.course c.tell-status.ensures.wrote)

pub returns-clause-disk_fault_told : goal.returns-clause-disk_fault_told
returns-clause-disk_fault_told g c =
    disk_told_of (call g c.args.words.now c.args.source.now c.outcome_of-outcome.new.source c.args.yard.now
    c.outcome_of-outcome.new.yard c.outcome_of-outcome.result) (g.K.Sink.held c.args.sink.now)
    (g.K.Sink.held c.tell-status.new.sink) (g.K.Sink.faults c.args.sink.now)
    (g.K.Sink.faults c.tell-status.new.sink) c.tell-status.result c.outcome_of-outcome.ensures.course
    c.tell-status.ensures.wrote

pub returns-clause-read_fault_told : goal.returns-clause-read_fault_told
returns-clause-read_fault_told g c = elim c.outcome_of-outcome.ensures.told [
  | inl same ↦ inl same
  | inr fault ↦ inr (fault_told (g.K.Sink.held c.args.sink.now) (g.K.Sink.held c.tell-status.new.sink)
      (g.K.Sink.faults c.args.sink.now) (g.K.Sink.faults c.tell-status.new.sink) c.tell-status.result
      c.outcome_of-outcome.result SourceFault fault refl c.tell-status.ensures.wrote)
]
