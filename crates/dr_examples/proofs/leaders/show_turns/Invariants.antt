use Rattle.dr_play.specs.Sound.{IsSound}
use Rattle.dr_machine.specs.Group.{Group}
use Rattle.dr_examples.specs.Led.{LettersByNumber, over}
use Rattle.dr_examples.proofs.leaders.show_turns.Given as goal

abbrev pub invariant-loop-turn : goal.invariant-loop-turn
invariant-loop-turn g l = (g : Group) (letters : LettersByNumber) → IsSound g (over l.fn.members l.fn.words letters)
    → IsSound g (over l.members l.words letters)
