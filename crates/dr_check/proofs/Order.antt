-- The clauses in their order.
use Rattle.std.proofs.Common.{◌≡◌, ◌<◌, refl, arith, ℕ, zero, suc, get_or, List, [], ◌∷◌}
use Rattle.dr_text.specs.declared.last.Clause.{Clause}
use Rattle.dr_text.specs.declared.last.Clause.TheVariants.{Start, View, Sender, Index, Bytes, Prefix, Durable, Kept}
use Rattle.dr_check.specs.Flaws.{rank}

abbrev pub clauses : List Clause
clauses = Start ∷ View ∷ Sender ∷ Index ∷ Bytes ∷ Prefix ∷ Durable ∷ Kept ∷ []

-- each stands at its rank
pub at_rank : (c : Clause) → get_or clauses (rank c) Start ≡ c
at_rank Start = refl
at_rank View = refl
at_rank Sender = refl
at_rank Index = refl
at_rank Bytes = refl
at_rank Prefix = refl
at_rank Durable = refl
at_rank Kept = refl

pub rank_small : (c : Clause) → rank c < 8
rank_small Start = omega arith
rank_small View = omega arith
rank_small Sender = omega arith
rank_small Index = omega arith
rank_small Bytes = omega arith
rank_small Prefix = omega arith
rank_small Durable = omega arith
rank_small Kept = omega arith

-- and each place has the clause of this rank
pub rank_at : (k : ℕ) → k < 8 → rank (get_or clauses k Start) ≡ k
rank_at zero l = refl
rank_at (suc zero) l = refl
rank_at (suc (suc zero)) l = refl
rank_at (suc (suc (suc zero))) l = refl
rank_at (suc (suc (suc (suc zero)))) l = refl
rank_at (suc (suc (suc (suc (suc zero))))) l = refl
rank_at (suc (suc (suc (suc (suc (suc zero)))))) l = refl
rank_at (suc (suc (suc (suc (suc (suc (suc zero))))))) l = refl
rank_at (suc (suc (suc (suc (suc (suc (suc (suc k)))))))) l = absurd (omega (arith, l))
