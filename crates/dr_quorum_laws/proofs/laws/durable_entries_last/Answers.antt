use Rattle.std.proofs.Common.{inl}
use Rattle.dr_restart.specs.Groups.{group_of}
use Rattle.dr_quorum_laws.proofs.Lasting.{last-kept, last-others, last-pass, last-tried, none-last, since-age, start-durable}
use Rattle.dr_quorum_laws.proofs.laws.durable_entries_last.Goals as goal

pub returns : goal.returns
returns c = record {
  empty = none-last;
  tried = last-tried;
  kept = last-kept;
  others = last-others;
  left = λ script start w es logs is run most left durable.
      inl (start, w, since-age script start w logs is run most left, durable);
  begun = λ script start w es. start-durable (group_of script start) w es;
  refused = last-pass;
}
