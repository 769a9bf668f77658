use Rattle.std.proofs.{Common.{refl, sym}, lemmas.List.get_or-replicate}
use Rattle.dr_history.proofs.Following.{view_of-nil}
use Rattle.dr_check.proofs.past.Past.none.Goals as goal

pub returns : goal.returns
returns c = record { in_view = sym view_of-nil; places = refl; counted = λ s l. get_or-replicate 256 s 0 0 l }
