use Rattle.std.proofs.Common.{◌<◌, ◌+◌, arith, sym, ap, ◌∙◌, subst}
use Rattle.dr_member.specs.Deeds.{table_size}
use Rattle.dr_table.{specs.Cards.Cards, proofs.Exchanges.peek_allowed}
use Rattle.dr_table.proofs.posts.peek_at.Goals as goal

pub load-requires : goal.load-requires
load-requires g c =
    let (r, only, ahead) = c.requires.alone in
    let due = c.requires.due.takes (omega (arith, c.requires.second)) in (
      c.requires.table ∙ sym (ap (λ (w : Cards). w.table.id) c.board.view_is),
      subst (λ (w : Cards). c.args.word < w.table.id.words) (sym c.board.view_is) c.requires.within,
      peek_allowed _ _ _ _ c.args.seat.now.me g.J.Posting.errand r g.J.Posting.now only c.requires.second ahead
          due.0 due.1 (c.requires.word ∙ ap (λ n. table_size g.J.Posting.now + n) (sym due.1)),
    )
