use Rattle.dr_play.specs.Sound.{IsSound}
use Rattle.dr_machine.specs.Group.{Group}
use Rattle.dr_program_laws.specs.Carried.{IsCarried}
use Rattle.dr_examples.specs.Led.{LettersByNumber, over}
use Rattle.dr_examples.proofs.net.lead.Given as goal

abbrev pub invariant-loop-m : goal.invariant-loop-m
invariant-loop-m l = (g : Group) (letters : LettersByNumber) → IsSound g (over l.fn.members l.fn.words letters)
    → IsCarried g (over l.members l.words letters) l.net.items

abbrev pub invariant-loop-turn : goal.invariant-loop-turn
invariant-loop-turn l = (g : Group) (letters : LettersByNumber) → IsSound g (over l.fn.members l.fn.words letters)
    → IsCarried g (over l.members l.words letters) l.net.items
