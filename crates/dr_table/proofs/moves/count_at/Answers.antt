use Rattle.std.proofs.Common.{◌<◌, ◌≤◌, sym, ap, ◌∙◌, subst, length}
use Rattle.dr_table.{specs.Cards.Cards, proofs.Room.count_allowed}
use Rattle.dr_table.proofs.moves.count_at.Goals as goal

pub load-requires : goal.load-requires
load-requires g c = (
  c.requires.table ∙ sym (ap (λ (w : Cards). w.table.id) c.board.view_is),
  subst (λ (w : Cards). 0 < w.table.id.words) (sym c.board.view_is) c.requires.words,
  count_allowed _ _ _ _ c.args.seat.now.me (ap (λ (w : Cards). length w.members) c.board.view_is ∙ c.requires.at),
)

pub returns-clause-few : goal.returns-clause-few
returns-clause-few g c = subst (λ n. length c.args.seat.now.me.0.members ≤ n) (sym c.requires.at) c.load.ensures.2.1
