use Rattle.std.specs.{Prelude.{None, Some, Vec}, declared.alloc.Global.Global}
use Rattle.std.proofs.Common.{◌<◌, arith, ◌∷◌, [], sym, ap, ◌∙◌, subst}
use Rattle.dr_entry.specs.declared.entry.Entry.{Entry}
use Rattle.atomic_table.specs.Table.{Me}
use Rattle.dr_table.specs.{Cards.Cards, Slots.Slot, Steps.{MayTake, busy}, declared.rule.View.View}
use Rattle.dr_table.proofs.{Exchanges.fetch_allowed, Holding.{exchanged, first_is, held, same_list}}
use Rattle.dr_table.proofs.posts.fetch_at.Goals as goal

pub store-requires : goal.store-requires
store-requires g c = let due = c.requires.due.takes (omega (arith, c.requires.second)) in (
  c.requires.table ∙ sym (ap (λ (w : Cards). w.table.id) c.board.view_is),
  subst (λ (w : Cards). c.args.word < w.table.id.words) (sym c.board.view_is) c.requires.at.within,
  fetch_allowed _ _ _ _ c.args.seat.now.me g.J.Posting.errand g.J.Posting.now c.requires.seen
      c.requires.second due.0 due.1 c.requires.at.word,
)

pub exchange-requires : goal.exchange-requires
exchange-requires g c =
    let (list, may, is) = c.store.ensures.2 in (
      c.store.ensures.0 ∙ c.requires.table ∙ sym (ap (λ (w : Cards). w.table.id) c.board.view_is),
      (
        Some list,
        held c.store.new.seat.me.1 (c.args.slot, Some list)
            (ap (λ (m : Me Slot View). m.1) is ∙ ap (λ n. (n, Some list) ∷ []) (sym c.requires.at.home)),
      ),
    )

pub unreachable-requires : goal.unreachable-requires
unreachable-requires g c =
    let (list, may, is) = c.store.ensures.2 in
    absurd (cc (
      first_is c.store.new.seat.me.1 _ _ _ _ c.exchange.ensures.2 (ap (λ (m : Me Slot View). m.1) is),
      c.in_default.is,
    ))

pub returns-clause-may : goal.returns-clause-may
returns-clause-may g c =
    let (list, may, is) = c.store.ensures.2 in
    let same = first_is c.store.new.seat.me.1 _ _ _ _ c.exchange.ensures.2 (ap (λ (m : Me Slot View). m.1) is) in
    subst (λ (l : Vec Entry Global). MayTake g.J.Posting.now (Some l.items))
    (same_list c.exchange.result list c.in-Some.letter same c.in-Some.is) may

pub returns-clause-fetched : goal.returns-clause-fetched
returns-clause-fetched g c =
    let (list, may, is) = c.store.ensures.2 in
    let same = first_is c.store.new.seat.me.1 _ _ _ _ c.exchange.ensures.2 (ap (λ (m : Me Slot View). m.1) is) in
    exchanged c.store.new.seat.me c.exchange.new.seat.me _ _ _ c.args.slot None is c.exchange.ensures.3
    ∙ ap (λ (l : Vec Entry Global). busy g.J.Posting.now (record g.J.Posting.errand { word = 3; letter = l.items })
    ((c.args.slot, None) ∷ [])) (same_list c.exchange.result list c.in-Some.letter same c.in-Some.is)
