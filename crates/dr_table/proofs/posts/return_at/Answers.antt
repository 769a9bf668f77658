use Rattle.std.proofs.Common.{◌<◌, arith, sym, ap, ◌∙◌, subst}
use Rattle.dr_table.{specs.Cards.Cards, proofs.Exchanges.return_allowed}
use Rattle.dr_table.proofs.posts.return_at.Goals as goal

pub store-requires : goal.store-requires
store-requires g c =
    let due = c.requires.due.takes (omega (arith, c.requires.second)) in (
      c.requires.table ∙ sym (ap (λ (w : Cards). w.table.id) c.board.view_is),
      subst (λ (w : Cards). c.args.word < w.table.id.words) (sym c.board.view_is) c.requires.within,
      return_allowed _ _ _ _ c.args.seat.now.me g.J.Posting.errand g.J.Posting.now
          c.requires.fetched due.0 due.1 c.requires.word,
    )
