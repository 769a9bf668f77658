use Rattle.std.{specs.Prelude.slice_index_or, proofs.Common.{◌≡◌, ℕ, ◌*◌, ◌≤◌, length, subst}}
use Rattle.dr_entry.specs.declared.entry.Item.TheVariants.{Null}
use Rattle.dr_replica.{specs.Items.Held, proofs.Places.{nulls_past, used_within}}
use Rattle.dr_replica.proofs.items.Items.used.Goals as goal

pub returns-clause-within : goal.returns-clause-within
returns-clause-within c =
    let e = c.greatest.ensures in let f = c.as_slice.ensures.value in let r = c.from.ensures in
    subst (λ (h : Held). c.greatest.result * c.from.result ≤ length h.items) c.self.view_is
    (rw (e, f, r) (used_within c.self.inside c.self.invariant))

pub returns-clause-nulls : goal.returns-clause-nulls
returns-clause-nulls c =
    let e = c.greatest.ensures in let f = c.as_slice.ensures.value in let r = c.from.ensures in
    subst (λ (h : Held). (k : ℕ) → c.greatest.result * c.from.result ≤ k → slice_index_or h.items k Null ≡ Null)
    c.self.view_is (rw (e, f, r) (λ k l. nulls_past c.self.inside k c.self.invariant l))
