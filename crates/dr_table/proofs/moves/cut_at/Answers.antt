use Rattle.std.proofs.Common.{◌≡◌, ◌<◌, sym, ap, ◌∙◌, subst, take, drop}
use Rattle.dr_table.{specs.{Cards.Cards, Steps.idle}, proofs.{Cuts.cut_allowed, Keeping.{no_errand, no_slots}}}
use Rattle.dr_table.proofs.Posting.{free}
use Rattle.dr_table.proofs.moves.cut_at.Goals as goal

pub split_seat-requires : goal.split_seat-requires
split_seat-requires g c = (
  c.requires.table ∙ sym (ap (λ (w : Cards). w.table.id) c.board.view_is),
  subst (λ (w : Cards). 0 < w.table.id.words) (sym c.board.view_is) c.requires.words,
  cut_allowed _ _ g.J.WordPlace.at _ (no_errand c.args.seat.now.me _ c.requires.idle),
)

pub returns-clause-seat : goal.returns-clause-seat
returns-clause-seat g c = (
  c.split_seat.ensures.0 ∙ c.requires.table,
  subst (λ n. c.split_seat.new.seat.me ≡ idle (take n c.args.seat.now.me.0.members)) (sym c.requires.at)
      (c.split_seat.ensures.2 ∙ (λ z. (
        free (take g.J.WordPlace.at c.args.seat.now.me.0.members),
        no_slots c.args.seat.now.me c.args.seat.now.me.0.members c.requires.idle z,
      ))),
)

pub returns-clause-other : goal.returns-clause-other
returns-clause-other g c = (
  c.split_seat.ensures.3 ∙ c.requires.table,
  subst (λ n. c.split_seat.result.me ≡ idle (drop n c.args.seat.now.me.0.members)) (sym c.requires.at)
      c.split_seat.ensures.4,
)
