use Rattle.dr_words.proofs.Layouts.{AreNoted}
use Rattle.dr_member.proofs.bases.Bases.of.Given as goal

abbrev pub invariant-loop-other : goal.invariant-loop-other
invariant-loop-other l = AreNoted l.shape.members l.shape.window l.view l.me l.other l.looks l.pushes
