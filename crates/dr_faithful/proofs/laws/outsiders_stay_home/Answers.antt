use Rattle.std.proofs.Common.{refl}
use Rattle.dr_machine.specs.Events.{member_of, step_of}
use Rattle.dr_faithful.proofs.Outside.{none_comes}
use Rattle.dr_faithful.proofs.laws.outsiders_stay_home.Goals as goal

pub returns-clause-begins : goal.returns-clause-begins
returns-clause-begins c = λ g V v j i k apart out. refl

pub returns-clause-keeps : goal.returns-clause-keeps
returns-clause-keeps c = λ g V w e can f none. none_comes g V w (member_of e) (step_of e) can f none
