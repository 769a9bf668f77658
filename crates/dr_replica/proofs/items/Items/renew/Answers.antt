use Rattle.std.proofs.Common.{ℕ, ◌<◌, ◌≤◌, ◌⊎◌, inl, inr, replicate, sym, ap, subst, ◌∙◌, arith}
use Rattle.std.proofs.lemmas.Bool.{cases_lt}
use Rattle.dr_history.specs.Members.{members_of}
use Rattle.dr_words.specs.Masks.{IsInRoster}
use Rattle.dr_replica.{specs.Items.{Held, none_held}, proofs.Places.{AreNone, begun_items, none_is, renewed_none}}
use Rattle.dr_replica.proofs.items.Items.renew.Goals.{After-first-self-inside}
use Rattle.dr_replica.proofs.items.Items.renew.Goals as goal

-- each place is one of the first so many, or one behind fewer
first_or_behind : (k first fewer : ℕ) → fewer ≤ first → (k < first) ⊎ (fewer ≤ k)
first_or_behind k first fewer le = elim (cases_lt k first) [
  | inl below ↦ inl below
  | inr past ↦ inr (omega (arith, past, le))
]

-- so they are where none is held
none : (c : After-first-self-inside)
    → AreNone (record c.loop-place.self-inside { front = c.first-self-inside.result }) c.args.view
    c.self.inside.roster c.self.inside.most
none c = renewed_none c.self.inside
    (record c.loop-place.self-inside { front = c.first-self-inside.result }) c.args.view c.self.invariant
    (ap (λ (x : _). x.items) c.loop-place.invariant.members ∙ c.members_of-self-inside.ensures
    ∙ ap members_of c.bits.ensures) c.loop-place.invariant.roster c.loop-place.invariant.most
    (ap (λ (x : _). x.items) c.loop-place.invariant.counts ∙ c.fill.ensures.items (λ y h. h)
    ∙ ap (λ (n : ℕ). replicate n 0) (omega arith)) c.loop-place.invariant.long (λ k l. c.loop-place.invariant.nulls k
    (first_or_behind k c.loop-place.place c.used-used.result c.loop-place-test.false))

pub invariant_of-self : goal.invariant_of-self
invariant_of-self c = begun_items _ c.args.view c.self.inside.roster c.self.inside.most
    (none (goal.at.invariant_of-self c).After-first-self-inside) c.first-self-inside.ensures
    c.self.invariant.form.roster (subst (λ (h : Held). IsInRoster h.roster c.args.view)
    (sym c.self.view_is) c.requires.members) c.requires.some c.self.invariant.form.most

pub returns : goal.returns
returns c = none_is _ c.args.view c.self.inside.roster c.self.inside.most
    (none (goal.at.returns c).After-first-self-inside)
    ∙ ap (λ (h : Held). none_held c.args.view h.roster h.most) c.self.view_is
