-- Which Views the head of a view holds: one of each view up to it, its own one last, and no other of the age.
use Rattle.std.{specs.List.range_with_len, proofs.lemmas.List.Elements.{All-contains, Contains-append_cases}}
use Rattle.std.proofs.Common.{[], ◌∷◌, List, ◌≡◌, ◌⊎◌, Contains, ap, arith, inl, inr, refl, subst, suc, sym, zero, ℕ, ◌+◌, ◌++◌, ◌-◌, ◌∙◌, ◌≤◌, All, append_assoc}
use Rattle.dr_entry.{specs.declared.entry.Entry.{Entry, TheVariants.View}, proofs.Entries.{IsMessage, one_is}}
use Rattle.dr_entry.proofs.ListParts.{all-filter_map}
use Rattle.dr_history.specs.{History.{GroupView, Sent, item_at, last_view, merge, up_to_view}, Soundness.Sound}
use Rattle.dr_history.specs.declared.opening.Opening.{Opening}
use Rattle.dr_history.proofs.Heads.{place_message, merged_messages, start_none}
use Rattle.dr_history.proofs.Letters.{last_view-last, up_to_view-last, up_to_view-messages}
use Rattle.dr_history_laws.specs.Courses.{ViewEnds, counts_taken, course, head_of, members_in, view_in}
use Rattle.dr_history_laws.specs.Laid.{entry_at, laid}

-- ---- what is merged are messages

-- so is what is laid
pub laid_none : (o : Opening) (sent : Sent) (v : GroupView) (p : ℕ) → up_to_view (laid o sent v p) ≡ []
unfolding laid
laid_none o sent v p = up_to_view-messages (entry_at o sent v) (range_with_len 0 p)
    (λ q e is. place_message o (item_at sent v q) e is)

pub laid_messages : (o : Opening) (sent : Sent) (v : GroupView) (p : ℕ) → All IsMessage (laid o sent v p)
unfolding laid
laid_messages o sent v p = all-filter_map IsMessage (entry_at o sent v) (range_with_len 0 p)
    (λ q e is. place_message o (item_at sent v q) e is)

-- ---- heads and their Views

-- a head ends with its View
pub head-last : (o : Opening) (sent : Sent) (endings : ViewEnds) (v : ℕ) → (before : List Entry)
    × (head_of o sent endings v ≡ before ++ View o.age v (members_in o endings v) ∷ [])
unfolding head_of members_in
head-last o sent endings zero = (o.start, refl)
head-last o sent endings (suc v) =
    (head_of o sent endings v ++ merge o sent (view_in o endings v) (counts_taken o endings v), refl)

-- so a history that has come to a place of a view goes up to the head by its last View
pub course_up_to : (o : Opening) (sent : Sent) (endings : ViewEnds) (v p : ℕ)
    → up_to_view (course o sent endings v p) ≡ head_of o sent endings v
course_up_to o sent endings v p =
    let t = head-last o sent endings v in
    let last = View o.age v (members_in o endings v) in
    let here = laid o sent (view_in o endings v) p in
    ap (λ es. up_to_view (es ++ here)) t.1 ∙ ap up_to_view (append_assoc t.0 (last ∷ []) here)
    ∙ up_to_view-last t.0 here o.age v (members_in o endings v) (laid_none o sent (view_in o endings v) p) ∙ sym t.1

-- and that View tells the view and its members
pub head_view : (o : Opening) (sent : Sent) (endings : ViewEnds) (v : ℕ) (x : ℕ × ℕ)
    → last_view x (head_of o sent endings v) ≡ (v, members_in o endings v)
head_view o sent endings v x =
    let t = head-last o sent endings v in ap (last_view x) t.1 ∙ last_view-last t.0 x o.age v (members_in o endings v)

-- ---- which Views there are

-- a head has those of the views up to its own
pub head_views : (o : Opening) (sent : Sent) (endings : ViewEnds) (v u members : ℕ) → Sound o
    → Contains (head_of o sent endings v) (View o.age u members) → (u ≤ v) × (members_in o endings u ≡ members)
unfolding head_of members_in
head_views o sent endings zero u members is c = by (Contains-append_cases o.start
    (View o.age 0 o.members ∷ []) (View o.age u members) c)
  where
    by : Contains o.start (View o.age u members) ⊎ Contains (View o.age 0 o.members ∷ []) (View o.age u members)
        → (u ≤ 0) × (members_in o endings u ≡ members)
    by (inl before) = absurd (start_none o u members is before)
    by (inr here) =
        let e = one_is (View o.age 0 o.members) (View o.age u members) here in
        let first : u ≡ 0 = cc in
        let same : members ≡ o.members = cc in
        (omega (arith, first), subst (λ n. members_in o endings n ≡ members) (sym first) (sym same))
head_views o sent endings (suc v) u members is c = by (λ before. head_views o sent endings v u members is before)
    (Contains-append_cases (head_of o sent endings v ++ merge o sent (view_in o endings v) (counts_taken o endings v))
    (View o.age (suc v) (endings v).next ∷ []) (View o.age u members) c)
  where
    merged : List Entry
    merged = merge o sent (view_in o endings v) (counts_taken o endings v)

    earlier : (Contains (head_of o sent endings v) (View o.age u members)
        → (u ≤ v) × (members_in o endings u ≡ members)) → Contains (head_of o sent endings v) (View o.age u members)
        ⊎ Contains (merge o sent (view_in o endings v) (counts_taken o endings v)) (View o.age u members)
        → (u ≤ suc v) × (members_in o endings u ≡ members)
    earlier rest (inl before) = let r = rest before in (omega (arith, r.0), r.1)
    earlier rest (inr here) = absurd (All-contains IsMessage merged (View o.age u members)
        (merged_messages o sent (view_in o endings v) (counts_taken o endings v)) here)

    by : (Contains (head_of o sent endings v) (View o.age u members) → (u ≤ v) × (members_in o endings u ≡ members))
        → Contains (head_of o sent endings v ++ merge o sent (view_in o endings v)
        (counts_taken o endings v)) (View o.age u members) ⊎ Contains (View o.age (suc v) (endings v).next
        ∷ []) (View o.age u members) → (u ≤ suc v) × (members_in o endings u ≡ members)
    by rest (inl before) = earlier rest (Contains-append_cases (head_of o sent endings v) merged
        (View o.age u members) before)
    by rest (inr here) =
        let e = one_is (View o.age (suc v) (endings v).next) (View o.age u members) here in
        let last : u ≡ suc v = cc in
        let same : members ≡ (endings v).next = cc in
        (omega (arith, last), subst (λ n. members_in o endings n ≡ members) (sym last) (sym same))

-- and so has a history that has come to a place of a view
pub course_views : (o : Opening) (sent : Sent) (endings : ViewEnds) (v p u members : ℕ) → Sound o
    → Contains (course o sent endings v p) (View o.age u members) → (u ≤ v) × (members_in o endings u ≡ members)
course_views o sent endings v p u members is c = by (Contains-append_cases (head_of o sent endings v)
    (laid o sent (view_in o endings v) p) (View o.age u members) c)
  where
    by : Contains (head_of o sent endings v) (View o.age u members) ⊎ Contains (laid o sent
        (view_in o endings v) p) (View o.age u members) → (u ≤ v) × (members_in o endings u ≡ members)
    by (inl head) = head_views o sent endings v u members is head
    by (inr here) = absurd (All-contains IsMessage (laid o sent (view_in o endings v) p) (View o.age u members)
        (laid_messages o sent (view_in o endings v) p) here)
