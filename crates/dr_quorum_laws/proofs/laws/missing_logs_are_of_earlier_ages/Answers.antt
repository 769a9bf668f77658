use Rattle.dr_restart.specs.Groups.{group_of}
use Rattle.dr_world_laws.proofs.Worlds.{known}
use Rattle.dr_quorum_laws.proofs.Keeping.{since-held}
use Rattle.dr_quorum_laws.proofs.Missing.{held-stand, left-votes, others-left, tried-votes, try-sound}
use Rattle.dr_quorum_laws.proofs.laws.missing_logs_are_of_earlier_ages.Goals as goal

pub returns : goal.returns
returns c = record {
  sound = try-sound;
  votes = left-votes;
  voted = tried-votes;
  stand = λ g w choice logs tries m log is run held sounds at.
      held-stand g w choice logs tries m log is (known g w is run) held sounds at;
  others = λ script start w choice before after tries try m log is run most left held sounds below t none at.
      let g = group_of script start in
      let y = known g w is run in
      others-left script start w choice before after tries try m log
      (since-held g w choice before tries is y most left held) sounds below t none at;
}
