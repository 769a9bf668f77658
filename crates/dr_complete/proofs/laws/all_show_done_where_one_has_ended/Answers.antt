use Rattle.dr_complete.proofs.DoneWords.{done_shows_all}
use Rattle.dr_complete.proofs.laws.all_show_done_where_one_has_ended.Goals as goal

pub returns : goal.returns
returns c = done_shows_all
