-- What a member has put, as its end says it by views, is what its replica has of each view.
use Rattle.std.proofs.Common.{List, [], ◌∷◌, ◌++◌, ap, arith, inl, inr, length, refl, suc, sym, zero, ℕ, ◌+◌, ◌<◌, ◌==◌, ◌∙◌, ◌≡◌, ◌≢◌, ◌≤◌, ◌⊎◌, slice_index_or, if◌then◌else◌}
use Rattle.std.proofs.lemmas.{Bool.{cases_eq, cases_lt}, List.get_or_past}
use Rattle.dr_entry.{specs.declared.end.ViewSent.ViewSent, proofs.NumberFacts.{same_number, other_number}}
use Rattle.dr_history.specs.History.{items_in}
use Rattle.dr_program.specs.{Program.{member_end, sent_before}, Reading.{in_view, left_in}}
use Rattle.dr_program.specs.Replica.{LeftView, Replica, nothing_left}

-- the list says of each view that it has left what it keeps of it
sent_at : (ls : List LeftView) (from k : ℕ) (rest : List ViewSent) → k < length ls
    → items_in (from + k) (sent_before from ls ++ rest) ≡ (slice_index_or ls k nothing_left).sent
sent_at [] from k rest l = absurd (omega (arith, l))
sent_at (x ∷ ls) from zero rest l =
    let same : from + 0 ≡ from = omega arith in rw (same, same_number from) refl
sent_at (x ∷ ls) from (suc k) rest l =
    let next : from + suc k ≡ from + 1 + k = omega arith in
    rw (other_number from (from + suc k) (omega arith))
    (ap (λ v. items_in v (sent_before (from + 1) ls ++ rest)) next ∙ sent_at ls (from + 1) k rest (omega (arith, l)))

-- and of a later one what is said behind these
sent_past : (ls : List LeftView) (from v : ℕ) (rest : List ViewSent) → from + length ls ≤ v
    → items_in v (sent_before from ls ++ rest) ≡ items_in v rest
sent_past [] from v rest l = refl
sent_past (x ∷ ls) from v rest l = rw (other_number from v (λ e. absurd (omega (arith, l, e))))
    (sent_past ls (from + 1) v rest (omega (arith, l)))

-- so it says what the replica has
pub sent_there : (r : Replica) (v : ℕ) → length r.left ≡ r.view
    → in_view r v r.sent (left_in r v).sent ≡ items_in v (member_end r).sent
sent_there r v left = by (cases_lt v r.view) (cases_eq v r.view)
  where
    now : ViewSent
    now = record { number = r.view; items = r.sent }

    by : (v < r.view) ⊎ (r.view ≤ v) → (v ≡ r.view) ⊎ (v ≢ r.view)
        → (if v == r.view then r.sent else (left_in r v).sent) ≡ items_in v (member_end r).sent
    by (inl l) same =
        let start : 0 + v ≡ v = omega arith in
        rw (other_number v r.view (λ e. absurd (omega (arith, l, e))))
        (sym (sent_at r.left 0 v (record { number = r.view; items = r.sent } ∷ []) (omega (arith, l, left)))
        ∙ ap (λ u. items_in u (member_end r).sent) start)
    by (inr l) (inl same) = rw (same, same_number r.view)
        (sym (sent_past r.left 0 r.view (record { number = r.view; items = r.sent } ∷ []) (omega (arith, left))
        ∙ rw (same_number r.view) refl))
    by (inr l) (inr other) = rw (other_number v r.view other)
        (ap (λ (k : LeftView). k.sent) (get_or_past r.left v nothing_left (omega (arith, l, left)))
        ∙ sym (sent_past r.left 0 v (record { number = r.view; items = r.sent } ∷ []) (omega (arith, l, left))
        ∙ rw (other_number r.view v (λ e. other (sym e))) refl))
