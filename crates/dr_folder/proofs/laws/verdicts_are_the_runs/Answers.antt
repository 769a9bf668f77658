use Rattle.dr_folder.proofs.Reading.{damaged_read, disagree_read, foreign_read, short_read, start_read, used_up_read}
use Rattle.dr_folder.proofs.laws.verdicts_are_the_runs.Goals as goal

pub returns : goal.returns
returns c = record {
  start = start_read;
  damaged = damaged_read;
  foreign = foreign_read;
  no_quorum = short_read;
  disagree = disagree_read;
  used_up = used_up_read;
}
