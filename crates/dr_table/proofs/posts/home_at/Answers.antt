use Rattle.std.{specs.Prelude.{None, Some}, proofs.Common.{◌<◌, sym, ap, ◌∙◌, subst}}
use Rattle.atomic_table.specs.Table.{Me}
use Rattle.dr_table.{specs.{Cards.Cards, Slots.Slot, declared.rule.View.View}, proofs.Exchanges.home_allowed}
use Rattle.dr_table.proofs.Holding.{exchanged, held}
use Rattle.dr_table.proofs.posts.home_at.Goals as goal

pub exchange-none-requires : goal.exchange-none-requires
exchange-none-requires g c = (
  c.requires.table ∙ sym (ap (λ (w : Cards). w.table.id) c.board.view_is),
  (None, held c.args.seat.now.me.1 (c.args.slot, None) (ap (λ (m : Me Slot View). m.1) c.requires.opened)),
)

pub store-requires : goal.store-requires
store-requires g c = (
  c.exchange-none.ensures.0 ∙ c.requires.table ∙ sym (ap (λ (w : Cards). w.table.id) c.board.view_is),
  subst (λ (w : Cards). c.args.word < w.table.id.words) (sym c.board.view_is) c.requires.at.within,
  home_allowed _ _ _ _ c.args.slot c.exchange-none.new.seat.me g.J.Posting.errand c.args.letter g.J.Posting.now
      (exchanged c.args.seat.now.me c.exchange-none.new.seat.me _ _ _ c.args.slot (Some c.args.letter)
      c.requires.opened c.exchange-none.ensures.3) c.requires.first (c.requires.due.gives c.requires.first)
      c.requires.at.word c.requires.at.home c.requires.letter,
)
