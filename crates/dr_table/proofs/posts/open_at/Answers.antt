use Rattle.std.{specs.Prelude.{None, Some}, proofs.Common.{◌<◌, ◌∷◌, [], sym, ap, ◌∙◌, subst}}
use Rattle.atomic_table.specs.Table.{Me}
use Rattle.dr_table.specs.{Cards.Cards, Slots.{IsBlankList, Slot}, declared.rule.View.View}
use Rattle.dr_table.proofs.{Exchanges.open_allowed, Holding.{exchanged, first_is, held, same_list}}
use Rattle.dr_table.proofs.posts.open_at.Goals as goal

pub store-requires : goal.store-requires
store-requires g c =
    let (r, only, ahead) = c.requires.alone in (
      c.requires.table ∙ sym (ap (λ (w : Cards). w.table.id) c.board.view_is),
      subst (λ (w : Cards). c.args.word < w.table.id.words) (sym c.board.view_is) c.requires.at.within,
      open_allowed _ _ _ _ c.args.seat.now.me g.J.Posting.errand r g.J.Posting.now only c.requires.first ahead
          (c.requires.due.gives c.requires.first) c.requires.at.word,
    )

pub exchange-requires : goal.exchange-requires
exchange-requires g c =
    let (list, blank, is) = c.store.ensures.2 in (
      c.store.ensures.0 ∙ c.requires.table ∙ sym (ap (λ (w : Cards). w.table.id) c.board.view_is),
      (
        Some list,
        held c.store.new.seat.me.1 (c.args.slot, Some list)
            (ap (λ (m : Me Slot View). m.1) is ∙ ap (λ n. (n, Some list) ∷ []) (sym c.requires.at.home)),
      ),
    )

pub unreachable-requires : goal.unreachable-requires
unreachable-requires g c =
    let (list, blank, is) = c.store.ensures.2 in
    absurd (cc (
      first_is c.store.new.seat.me.1 _ _ _ _ c.exchange.ensures.2 (ap (λ (m : Me Slot View). m.1) is),
      c.in_default.is,
    ))

pub returns-clause-blank : goal.returns-clause-blank
returns-clause-blank g c =
    let (list, blank, is) = c.store.ensures.2 in
    let same = first_is c.store.new.seat.me.1 _ _ _ _ c.exchange.ensures.2 (ap (λ (m : Me Slot View). m.1) is) in
    subst (IsBlankList g.J.Posting.now.replica.room) (same_list c.exchange.result list c.in-Some.list same c.in-Some.is)
    blank

pub returns-clause-opened : goal.returns-clause-opened
returns-clause-opened g c =
    let (list, blank, is) = c.store.ensures.2 in
    exchanged c.store.new.seat.me c.exchange.new.seat.me _ _ _ c.args.slot None is c.exchange.ensures.3
