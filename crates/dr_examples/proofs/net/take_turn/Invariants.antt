use Rattle.dr_machine.specs.Group.{Group}
use Rattle.dr_program_laws.specs.Carried.{IsCarried}
use Rattle.dr_examples.specs.Led.{LettersByNumber, over}
use Rattle.dr_examples.proofs.net.take_turn.Given as goal

abbrev pub invariant-loop : goal.invariant-loop
invariant-loop l = (g : Group) (letters : LettersByNumber)
    → IsCarried g (over l.fn.members l.fn.words letters) l.fn.net.items
    → IsCarried g (over l.members l.words letters) l.net.items
