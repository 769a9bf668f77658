use Rattle.dr_history.proofs.{Lengths.stood-short, Standing.history-stands}
use Rattle.dr_history_laws.proofs.Parts.{left_parts, parts_all_along, parts_sound}
use Rattle.dr_history_laws.proofs.restarting.standing_laws.Goals as goal

pub returns : goal.returns
returns c = record {
  stand = history-stands;
  sound = parts_sound;
  along = parts_all_along;
  left = left_parts;
  short = stood-short;
}
