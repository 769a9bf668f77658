use Rattle.dr_program_laws.proofs.Carried.{carried_among, carried_begins, carried_comes, carried_misses, carried_moves, carried_place, carried_pushes}
use Rattle.dr_program_laws.proofs.carried_words_do_no_harm.Goals as goal

pub returns : goal.returns
returns c = record {
  begins = carried_begins;
  moves = carried_moves;
  pushes = carried_pushes;
  among = carried_among;
  place = carried_place;
  comes = carried_comes;
  misses = carried_misses;
}
