-- Where members stand after one of them changes, after a hand is cut in two, and after two are put together.
use Rattle.std.specs.Prelude.{Some, slice_get, slice_set, Option}
use Rattle.std.proofs.Common.{◌≡◌, ◌≢◌, ◌⊎◌, inl, inr, refl, sym, ap, ◌∙◌, ℕ, ◌+◌, ◌-◌, ◌≤◌, List, [], ◌∷◌, ◌++◌, length, take, drop, length-set, arith, eq-eqb, ne_eqb, lt-ltb, le-ltb, eqb, cond}
use Rattle.std.proofs.lemmas.{Bool.{cases_eq, cases_lt}, Option.{same_Some, slice_get_within}}
use Rattle.dr_program.specs.{Presence.{present_at, with_present}, Running.Running}
use Rattle.dr_program.proofs.Present.{present_within, present_set, present_kept, place_append, place_behind, place_drop, place_front, place_take, take_place, only_one}
use Rattle.dr_table.specs.Rule.{Found, Stands, number}
use Rattle.dr_entry.proofs.ListPlaces.{replica_kept, replica_set, at_set, slice_get-left, slice_get-push_cases, slice_get-seam}
use Rattle.dr_entry.proofs.NumberFacts.{cut_back}

-- ---- one member changes

-- what stands where the member of a hand of one was replaced: the new one there, or what stood in another hand
found_set : (views : List (List (Option Running))) (id : ℕ) (x : Running) (s a : ℕ) (q : Running)
    → Found (slice_set views id (Some x ∷ [])) s a q → ((s ≡ id) × (a ≡ 0) × (x ≡ q)) ⊎ (Found views s a q × (s ≢ id))
found_set views id x s a q (w, there, stands) = elim (at_set views id s (Some x ∷ []) w there) [
  | inl here ↦ let one = only_one x q a (ap (λ u. present_at u a) here.1 ∙ stands) in inl (here.0, one.0, one.1)
  | inr other ↦ inr ((w, other.1, stands), other.0)
]

-- the members stand so where one of them is replaced in its hand and in the program
pub stands_set : (views : List (List (Option Running))) (members : List (Option Running)) (id : ℕ) (r x : Running)
    → slice_get views id ≡ Some (Some r ∷ []) → number x ≡ number r → Stands views members
    → Stands (slice_set views id (Some x ∷ [])) (with_present members (number r) x)
stands_set views members id r x is same h = record { each = each; once = once; all = all }
  where
    after : List (List (Option Running))
    after = slice_set views id (Some x ∷ [])

    mine : Found views id 0 r
    mine = (Some r ∷ [], is, refl)

    new : Found after id 0 x
    new = (Some x ∷ [], replica_set views id (Some x ∷ []) (slice_get_within views id (Some r ∷ []) is), refl)

    other : (s a : ℕ) (q : Running) → s ≢ id → Found views s a q → number q ≢ number r
    other s a q apart f e = apart (h.once s a id 0 q r f mine e).0

    each : (s a : ℕ) (q : Running) → Found after s a q
        → present_at (with_present members (number r) x) (number q) ≡ Some q
    each s a q f = elim (found_set views id x s a q f) [
      | inl now ↦ ap (present_at (with_present members (number r) x)) (ap number (sym now.2) ∙ same)
          ∙ present_set members (number r) x (present_within members (number r) r (h.each id 0 r mine))
          ∙ ap (λ y. Some y) now.2
      | inr old ↦ present_kept members (number r) (number q) x (other s a q old.1 old.0) ∙ h.each s a q old.0
    ]

    once : (s a t b : ℕ) (q u : Running) → Found after s a q → Found after t b u → number q ≡ number u
        → (s ≡ t) × (a ≡ b)
    once s a t b q u f g e = elim (found_set views id x s a q f) [
      | inl now ↦ elim (found_set views id x t b u g) [
        | inl too ↦ (now.0 ∙ sym too.0, now.1 ∙ sym too.1)
        | inr old ↦ absurd (other t b u old.1 old.0 (sym e ∙ ap number (sym now.2) ∙ same))
      ]
      | inr old ↦ elim (found_set views id x t b u g) [
        | inl now ↦ absurd (other s a q old.1 old.0 (e ∙ ap number (sym now.2) ∙ same))
        | inr too ↦ h.once s a t b q u old.0 too.0 e
      ]
    ]

    all : (k : ℕ) (u : Running) → present_at (with_present members (number r) x) k ≡ Some u
        → (s a : ℕ) × (q : Running) × Found after s a q × (number q ≡ k)
    all k u stood = elim (cases_eq k (number r)) [
      | inl here ↦ (id, 0, x, new, same ∙ sym here)
      | inr apart ↦
          let (s, a, q, (w, there, stands), named) =
          h.all k u (sym (present_kept members (number r) k x apart) ∙ stood) in
          let kept : s ≢ id = λ at. apart (sym named ∙ ap number (sym (only_one r q a
          (ap (λ l. present_at l a) (same_Some (Some r ∷ []) w (sym is ∙ ap (slice_get views) (sym at) ∙ there))
          ∙ stands)).1)) in
          (s, a, q, (w, replica_kept views id s (Some x ∷ []) kept ∙ there, stands), named)
    ]

-- ---- members change their places

-- each place in the new hands comes from one in the old, which `back` leads there, and each member still
-- stands somewhere
stands_moved : (views views' : List (List (Option Running))) (members : List (Option Running)) (back : ℕ → ℕ → ℕ × ℕ)
    → ((s a : ℕ) (r : Running) → Found views' s a r → (t b : ℕ) × Found views t b r × (back t b ≡ (s, a)))
    → ((s a : ℕ) (r : Running) → Found views s a r → (t b : ℕ) × Found views' t b r)
    → Stands views members → Stands views' members
stands_moved views views' members back way on h = record {
  each = λ s a r f. let x = way s a r f in h.each x.0 x.1 r x.2;
  once = λ s a t b r q f g e.
      let x = way s a r f in
      let y = way t b q g in
      let o = h.once x.0 x.1 y.0 y.1 r q x.2 y.2 e in
      let same : (s, a) ≡ (t, b) = sym x.3 ∙ (λ k. back (o.0 k) (o.1 k)) ∙ y.3 in
      (ap (λ (z : ℕ × ℕ). z.0) same, ap (λ (z : ℕ × ℕ). z.1) same);
  all = λ k q there.
      let (s, a, r, f, named) = h.all k q there in
      let (t, b, g) = on s a r f in (t, b, r, g, named);
}

pub stands_cut : (views : List (List (Option Running))) (members : List (Option Running)) (id at : ℕ) (v : List (Option Running))
    → slice_get views id ≡ Some v → Stands views members
    → Stands (slice_set views id (take at v) ++ drop at v ∷ []) members
unfolding cut_back
stands_cut views members id at v is h = stands_moved views after members (cut_back id at (length views)) way on h
  where
    after : List (List (Option Running))
    after = slice_set views id (take at v) ++ drop at v ∷ []

    way : (s a : ℕ) (r : Running) → Found after s a r
        → (t b : ℕ) × Found views t b r × (cut_back id at (length views) t b ≡ (s, a))
    way s a r (w, there, stands) =
        elim (slice_get-push_cases (slice_set views id (take at v)) (drop at v) w s there) [
          | inl first ↦ elim (at_set views id s (take at v) w first.1) [
            | inl here ↦
                let t = place_take at v a r (ap (λ l. present_at l a) here.1 ∙ stands) in
                (id, a, (v, is, t.1), (rw (eq-eqb id id refl, lt-ltb a at t.0) (λ k. (sym here.0 k, a))))
            | inr other ↦ (s, a, (w, other.1, stands), rw (ne_eqb s id other.0) refl)
          ]
          | inr last ↦
              let t = sym (place_drop at v a) ∙ (ap (λ l. present_at l a) last.1 ∙ stands) in
              let le : at ≤ at + a = omega arith in
              let here : at + a - at ≡ a = omega arith in (
                id,
                at + a,
                (v, is, t),
                rw (eq-eqb id id refl, le-ltb (at + a) at le)
                    (λ k. (sym (last.0 ∙ length-set views id (take at v)) k, here k)),
              )
        ]

    on : (s a : ℕ) (r : Running) → Found views s a r → (t b : ℕ) × Found after t b r
    on s a r (w, there, stands) = elim (cases_eq s id) [
      | inl here ↦
          let same : w ≡ v = same_Some w v (sym there ∙ ap (slice_get views) here ∙ is) in
          elim (cases_lt a at) [
            | inl below ↦ (
              id,
              a,
              (
                take at v,
                slice_get-left (slice_set views id (take at v)) (drop at v ∷ []) id
                    (omega (arith, length-set views id (take at v), slice_get_within views id v is))
                    ∙ replica_set views id (take at v) (slice_get_within views id v is),
                take_place at v a below ∙ ap (λ l. present_at l a) (sym same) ∙ stands,
              ),
            )
            | inr past ↦
                let back : at + (a - at) ≡ a = omega arith in (
                  length (slice_set views id (take at v)),
                  a - at,
                  (
                    drop at v,
                    slice_get-seam (slice_set views id (take at v)) (drop at v) [],
                    place_drop at v (a - at) ∙ ap (present_at v) back ∙ ap (λ l. present_at l a) (sym same) ∙ stands,
                  ),
                )
          ]
      | inr other ↦ (
        s,
        a,
        (
          w,
          slice_get-left (slice_set views id (take at v)) (drop at v ∷ []) s
              (omega (arith, length-set views id (take at v), slice_get_within views s w there))
              ∙ replica_kept views id s (take at v) other ∙ there,
          stands,
        ),
      )
    ]

-- where a place of the two lists was before they were joined
abbrev joined_back : ℕ → ℕ → ℕ → ℕ → ℕ → ℕ × ℕ
joined_back id other n s a = cond (eqb s other) (id, n + a) (s, a)

pub stands_joined : (views : List (List (Option Running))) (members : List (Option Running)) (id : ℕ) (v : List (Option Running))
    (other : ℕ) (w : List (Option Running)) → slice_get views id ≡ Some v → other ≢ id → slice_get views other ≡ Some w
    → Stands views members → Stands (slice_set (slice_set views id (v ++ w)) other []) members
stands_joined views members id v other w is apart there h =
    stands_moved views after members (joined_back id other (length v)) way on h
  where
    both : List (List (Option Running))
    both = slice_set views id (v ++ w)

    after : List (List (Option Running))
    after = slice_set both other []

    way : (s a : ℕ) (r : Running) → Found after s a r
        → (t b : ℕ) × Found views t b r × (joined_back id other (length v) t b ≡ (s, a))
    way s a r (u, at, stands) = elim (at_set both other s [] u at) [
      | inl spent ↦ absurd (cc (ap (λ l. present_at l a) spent.1 ∙ stands))
      | inr old ↦ elim (at_set views id s (v ++ w) u old.1) [
        | inl here ↦ elim (place_append v w a r (ap (λ l. present_at l a) here.1 ∙ stands)) [
          | inl first ↦
              let ne : id ≢ other = λ e. apart (sym e) in
              (id, a, (v, is, first), rw (ne_eqb id other ne) (λ k. (sym here.0 k, a)))
          | inr second ↦
              let le = second.0 in
              let back : length v + (a - length v) ≡ a = omega arith in (
                other,
                a - length v,
                (w, there, second.1),
                rw (eq-eqb other other refl) (λ k. (sym here.0 k, back k)),
              )
        ]
        | inr third ↦ (s, a, (u, third.1, stands), rw (ne_eqb s other old.0) refl)
      ]
    ]

    home : slice_get after id ≡ Some (v ++ w)
    home = replica_kept both other id [] (λ e. apart (sym e))
        ∙ replica_set views id (v ++ w) (slice_get_within views id v is)

    on : (s a : ℕ) (r : Running) → Found views s a r → (t b : ℕ) × Found after t b r
    on s a r (u, at, stands) = elim (cases_eq s id) [
      | inl here ↦
          let mine = ap (λ l. present_at l a)
          (same_Some v u (sym is ∙ ap (slice_get views) (sym here) ∙ at)) ∙ stands in
          (id, a, (v ++ w, home, place_front v w a (present_within v a r mine) ∙ mine))
      | inr away ↦ elim (cases_eq s other) [
        | inl second ↦
            let its = ap (λ l. present_at l a)
            (same_Some w u (sym there ∙ ap (slice_get views) (sym second) ∙ at)) ∙ stands in
            (id, length v + a, (v ++ w, home, place_behind v w a ∙ its))
        | inr third ↦ (
          s,
          a,
          (u, replica_kept both other s [] third ∙ replica_kept views id s (v ++ w) away ∙ at, stands),
        )
      ]
    ]
