use Rattle.std.proofs.Common.{sym, ◌∙◌}
use Rattle.dr_member.proofs.Deeds.{beat_acts}
use Rattle.dr_door.proofs.door.Door.turn.Goals as goal

pub begin-requires : goal.begin-requires
begin-requires c = beat_acts c.args.self.now.member (sym c.at_turn.ensures ∙ c.if-not-at_turn.false)
