use Rattle.dr_play.specs.Sound.{IsSound}
use Rattle.dr_machine.specs.Group.{Group}
use Rattle.dr_examples.specs.Led.{LettersByNumber, over}
use Rattle.dr_examples.proofs.leaders.lead_round.Given as goal

abbrev pub invariant-loop-m : goal.invariant-loop-m
invariant-loop-m l = (g : Group) (letters : LettersByNumber) → IsSound g (over l.fn.members l.fn.words letters)
    → IsSound g (over l.members l.words letters)

abbrev pub invariant-loop : goal.invariant-loop
invariant-loop l = (g : Group) (letters : LettersByNumber) → IsSound g (over l.fn.members l.fn.words letters)
    → IsSound g (over l.members l.words letters)
