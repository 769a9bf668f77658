use Rattle.dr_program_laws.proofs.Letters.{letters_are, letters_have_room}
use Rattle.dr_program_laws.proofs.room.letters_fit.Goals as goal

pub returns : goal.returns
returns c = record {
  letters = λ g p group is reached. letters_are g p group is reached;
  room = λ g p m r letter group is reached there outside found.
      letters_have_room g p m r letter group is reached there outside found;
}
