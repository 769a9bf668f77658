use Rattle.std.specs.List.{Any, list_any}
use Rattle.std.proofs.Common.{◌≡◌, ◌↔◌, ◌<◌, ℕ, Bool, true, subst, List, slice_index, arith, nat_lt}
use Rattle.std.proofs.lemmas.{Bool.{ltb-true, Decides.nat_tests}, List.Folds.{Any-from_list_any, list_any-from_Any}}
use Rattle.dr_entry.proofs.BoolFacts.{same_test}
use Rattle.dr_replica.specs.Items.{Held}
use Rattle.dr_replica.proofs.items.Items.is_behind.Goals as goal

-- the test of a list of numbers, told by its elements
test_is : (b : Bool) (k : ℕ) (xs : List ℕ) → (b ≡ true) ↔ Any (λ x. k < x) xs → b ≡ list_any (nat_lt k) xs
test_is b k xs told = same_test b (list_any (nat_lt k) xs) (λ e. let x = told.0 e in
    list_any-from_Any (nat_lt k) xs (x.0, x.1, x.2, x.3, grind (arith, nat_tests, x.4)))
    (λ e. let x = Any-from_list_any (nat_lt k) xs e in
    told.1 (x.0, x.1, x.2, x.3, ltb-true k x.1 x.4))

pub returns : goal.returns
returns c = subst (λ (h : Held). c.null_due.result
    ≡ list_any (nat_lt (slice_index h.counts c.args.member)) h.counts) c.self.view_is
    (test_is c.null_due.result (slice_index c.self.inside.counts.items c.args.member) c.self.inside.counts.items
    (subst (λ (xs : List ℕ). (c.null_due.result ≡ true)
    ↔ Any (λ count. slice_index xs c.args.member < count) xs) c.as_slice.ensures.value c.null_due.ensures))
