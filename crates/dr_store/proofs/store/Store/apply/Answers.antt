use Rattle.std.proofs.Common.{◌+◌, ◌++◌, ◌∷◌, [], sym, subst}
use Rattle.dr_entry.specs.declared.entry.Entry.{Entry, TheVariants.Msg}
use Rattle.dr_store.specs.{Commands.command_in, Stock.{ChangesByKey, HasNothingLater, Stock, IsStoreOf}}
use Rattle.dr_store.{specs.Tables.changes_of, proofs.Standing.{kept-next, stands-next, stands-view}}
use Rattle.dr_store.proofs.store.Store.apply.Goals as goal

pub returns-in_default-clause-stands : goal.returns-in_default-clause-stands
returns-in_default-clause-stands c h stands = subst (λ e. IsStoreOf c.args.self.now (h ++ e ∷ []))
    (sym c.in_default.is) (stands-view c.args.self.now h _ _ _ stands)

pub invariant_of-self-2 : goal.invariant_of-self-2
invariant_of-self-2 c =
    let s : Stock = record {
      changes = changes_of c.self.inside.changes.entries;
      version = c.self.inside.version;
      oldest = c.self.inside.oldest;
    } in
    let at : ChangesByKey → Stock = λ m. record {
      changes = m;
      version = c.self.inside.version + 1;
      oldest = c.self.inside.oldest;
    } in (
      c.in_ok-follow.ensures.here,
      subst (λ m. HasNothingLater (at m)) (sym c.in_ok-follow.ensures.changed)
          (kept-next s c.self.invariant.1 (command_in c.in-Msg.bytes)),
    )

pub returns-clause-stands : goal.returns-clause-stands
returns-clause-stands c h stands =
    let s : Stock = record {
      changes = changes_of c.self.inside.changes.entries;
      version = c.self.inside.version;
      oldest = c.self.inside.oldest;
    } in
    let at : ChangesByKey → Stock = λ m. record {
      changes = m;
      version = c.self.inside.version + 1;
      oldest = c.self.inside.oldest;
    } in
    let stood : IsStoreOf s h = subst (λ (t : Stock). IsStoreOf t h) (sym c.self.view_is) stands in
    let next = stands-next s h c.self.invariant.1 stood c.in-Msg.sender c.in-Msg.index c.in-Msg.bytes in
    subst (λ (e : Entry). IsStoreOf (at (changes_of c.follow.new.changes.entries)) (h ++ e ∷ [])) (sym c.in-Msg.is)
    (subst (λ m. IsStoreOf (at m) (h ++ Msg c.in-Msg.sender c.in-Msg.index c.in-Msg.bytes ∷ []))
    (sym c.in_ok-follow.ensures.changed) next)
