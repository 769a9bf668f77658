use Rattle.std.proofs.Common.{All, Contains, List, Option}
use Rattle.dr_machine.specs.Group.{Group}
use Rattle.dr_program.specs.{Running.Running, declared.packet.Packet.Packet}
use Rattle.dr_program_laws.specs.Carried.{IsCarried}
use Rattle.dr_examples.specs.Led.{LettersByNumber, over}
use Rattle.dr_examples.proofs.net.arrive.Given as goal

abbrev pub invariant-loop-nth : goal.invariant-loop-nth
invariant-loop-nth l = (g : Group) (members : List (Option Running)) (letters : LettersByNumber) (net : List Packet)
    → All (Contains net) l.fn.packets → IsCarried g (over members l.fn.words letters) net
    → IsCarried g (over members l.words letters) net
