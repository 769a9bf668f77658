-- A history that has come to a place of a view is short: it has what every history begins with, a View for
-- each later view, and no more messages than the script.
use Rattle.std.proofs.Common.{◌≡◌, refl, ap, sym, ◌∙◌, subst, ℕ, zero, suc, ◌+◌, ◌*◌, ◌<◌, ◌≤◌, arith, List, [], ◌∷◌, ◌++◌, length, map, Option, None, Some, Contains, append-nil, append_assoc, length-append}
use Rattle.dr_entry.specs.declared.{end.SentItem.{SentItem, TheVariants.{Null, Index}}, entry.Entry.TheVariants.Msg}
use Rattle.dr_entry.{specs.declared.entry.Entry.Entry, proofs.{ListFacts.top_place, ListPlaces.Contains-slice_get}}
use Rattle.dr_history.specs.{History.{GroupView, Sent, item_at, merge, messages_of}, declared.opening.Opening.Opening}
use Rattle.dr_history.{specs.Order.{first_entries, messages_from}, proofs.NumberedLemmas.length-numbered_messages}
use Rattle.dr_history.{specs.Soundness.Sound, proofs.Cutting.cut}
use Rattle.dr_history.proofs.{Indices.item_at-parts, Lengths.{messages_below-most, IsSized, sized-Msg, sized-View}}
use Rattle.dr_history_laws.specs.Courses.{ViewEnds, MayCome, MayReach, counts_taken, course, head_of, view_in}
use Rattle.dr_history_laws.{specs.Laid.{GoesOn, laid}, proofs.Counting.bytes_at}
use Rattle.dr_history_laws.proofs.{Courses.{InOrder-course, may_come-less}, Cutting.{cut_goes_on, cut_merge}}
use Rattle.dr_history_laws.proofs.LaidLemmas.{laid-absent, laid-message, laid-none, laid-null}

-- what is laid brings messages alone
sized-laid : (o : Opening) (sent : Sent) (before : List Entry) (v : GroupView) (n k : ℕ) (first : List Entry) (p : ℕ)
    → GoesOn o sent before v → ((s : ℕ) → Contains v.members s → s < n)
    → IsSized n k first before → IsSized n k first (before ++ laid o sent v p)
sized-laid o sent before v n k first zero goes members sized = subst (λ es. IsSized n k first (before ++ es))
    (sym (laid-none o sent v)) (subst (IsSized n k first) (sym (append-nil before)) sized)
sized-laid o sent before v n k first (suc p) goes members sized =
    by (item_at sent v p) refl (sized-laid o sent before v n k first p goes members sized)
  where
    by : (z : Option (ℕ × SentItem)) → item_at sent v p ≡ z → IsSized n k first (before ++ laid o sent v p)
        → IsSized n k first (before ++ laid o sent v (suc p))
    by None e r = subst (λ es. IsSized n k first (before ++ es)) (sym (laid-absent o sent v p e)) r
    by (Some (s, Null)) e r = subst (λ es. IsSized n k first (before ++ es)) (sym (laid-null o sent v p s e)) r
    by (Some (s, Index i)) e r =
        let b = bytes_at o sent before v p s i goes e in
        let parts = item_at-parts sent v p s (Index i) e in
        subst (IsSized n k first) (append_assoc before (laid o sent v p) (Msg s i b.0 ∷ [])
        ∙ ap (λ es. before ++ es) (sym (laid-message o sent v p s i b.0 e b.1))) (sized-Msg n k first
        (before ++ laid o sent v p) s i b.0 (members s (Contains-slice_get v.members _ s parts.0)) r)

-- and so does a merge
sized-merge : (o : Opening) (sent : Sent) (before : List Entry) (v : GroupView)
    (taken : ℕ → ℕ) (n k : ℕ) (first : List Entry) → GoesOn o sent before v → ((s : ℕ) → Contains v.members s → s < n)
    → IsSized n k first before → IsSized n k first (before ++ merge o sent v (map taken v.members))
sized-merge o sent before v taken n k first goes members sized = subst (λ es. IsSized n k first (before ++ es))
    (sym (cut_merge o sent v taken)) (sized-laid o (cut sent v taken) before v n k first
    (top_place (map taken v.members)) (cut_goes_on o sent before v taken goes) members sized)

-- the head of a view has as many Views behind the first entries as its number says
sized-head : (o : Opening) (sent : Sent) (endings : ViewEnds) (v n : ℕ) → MayCome o sent endings v
    → ((u s : ℕ) → u ≤ v → Contains (view_in o endings u).members s → s < n)
    → IsSized n v (first_entries o) (head_of o sent endings v)
unfolding head_of
sized-head o sent endings zero n may members = omega arith
sized-head o sent endings (suc v) n may members = sized-View n v (first_entries o)
    (head_of o sent endings v ++ merge o sent (view_in o endings v) (counts_taken o endings v)) o.age
    (suc v) (endings v).next (sized-merge o sent (head_of o sent endings v) (view_in o endings v)
    (endings v).taken n v (first_entries o) (may.goes v (omega arith)) (λ s. members v s (omega arith))
    (sized-head o sent endings v n (may_come-less o sent endings v may) (λ u s l. members u s (omega (arith, l)))))

-- so a history is no longer than the first entries, the later Views, and the messages of the script
pub short-course : (o : Opening) (sent : Sent) (endings : ViewEnds) (v p n most : ℕ) → Sound o
    → MayReach o sent endings v p → ((u s : ℕ) → u ≤ v → Contains (view_in o endings u).members s → s < n)
    → ((s : ℕ) → length (messages_of o s) ≤ most)
    → length (course o sent endings v p) ≤ length (first_entries o) + v + n * most
short-course o sent endings v p n most sound may members few = omega (
  arith,
  sized-laid o sent (head_of o sent endings v) (view_in o endings v) n v (first_entries o) p (may.view.goes v
      (omega arith)) (λ s. members v s (omega arith)) (sized-head o sent endings v n may.view members),
  messages_below-most n most (course o sent endings v p) each,
)
  where
    each : (s : ℕ) → length (messages_from s (course o sent endings v p)) ≤ most
    each s =
        let numbered = (InOrder-course o sent endings v p sound may).numbered s in
        omega (
          arith,
          ap length numbered.1,
          length-append (messages_from s (course o sent endings v p)) numbered.0,
          length-numbered_messages o s,
          few s,
        )
