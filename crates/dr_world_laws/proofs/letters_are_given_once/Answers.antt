use Rattle.dr_world_laws.proofs.{Joining.letter-begins, Letters.gives-once, Telling.head-for, Worlds.known}
use Rattle.dr_world_laws.proofs.letters_are_given_once.Goals as goal

pub returns : goal.returns
returns c = record {
  heads = λ g w j letter is r e. head-for g w j letter is (known g w is r) e;
  goes_on = λ g w j letter is r l e outside. let y = (known g w is r) in
      letter-begins g y.values w j letter is y.chosen.faithful y.chosen.laid l outside
      (y.chosen.letters.letters j letter e).0;
  once = λ g w m j is r can. let y = (known g w is r) in
      gives-once g y.values w m j is y.chosen.faithful y.chosen.laid y.chosen.letters can;
  stays = λ g w m j is r given. (known g w is r).chosen.letters.given m j given;
}
