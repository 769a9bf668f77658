use Rattle.std.proofs.Common.{◌<◌, sym, ap, ◌∙◌, subst}
use Rattle.dr_member.specs.Deeds.{table_size}
use Rattle.dr_program.specs.Running.{next_deed}
use Rattle.dr_table.{specs.{Cards.Cards, Deeds.IsStore, Steps.IsAhead}, proofs.Keeping.store_allowed}
use Rattle.dr_table.proofs.moves.store_at.Goals as goal

pub store-requires : goal.store-requires
store-requires g c =
    let (r, only, ahead) = c.requires.alone in (
      c.requires.table ∙ sym (ap (λ (w : Cards). w.table.id) c.board.view_is),
      subst (λ (w : Cards). c.args.word < w.table.id.words) (sym c.board.view_is) c.requires.word,
      store_allowed _ _ _ _ _ c.args.seat.now.me r _ only (subst (IsAhead r) c.requires.now ahead)
          (subst (λ r. IsStore c.args.word c.args.new (next_deed r)) c.requires.now c.requires.deed)
          (subst (λ q. c.args.word < table_size q) c.requires.now c.requires.within),
    )
