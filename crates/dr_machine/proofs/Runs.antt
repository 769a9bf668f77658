-- Runs one after another, ways, and the inductions over them.
use Rattle.std.proofs.Common.{◌≡◌, ◌⊎◌, le_refl, refl, sym, subst, inl, inr, List, [], ◌∷◌, ◌++◌, ℕ, All, Contains, arith}
use Rattle.std.proofs.lemmas.List.Elements.{All-tail, Contains-append_cases, Contains-append_left, Contains-append_right, Contains-push, Contains-push_cases}
use Rattle.dr_machine.specs.{Acts.{Guard, effect}, Group.Group}
use Rattle.dr_machine.specs.Run.{ComesNext, ComesOfEvents, Happens, HaveArrived, IsReached, MayArrive, Run, WasOwn, Way, with_table}
use Rattle.dr_machine.specs.{World.{Table, World, opening_world, own_word}, declared.event.Event.Event}

-- a run may go on where another has ended
pub run_on : (g : Group) (w mid after : World) (a b : List Event) → Run g w a mid → Run g mid b after
    → Run g w (a ++ b) after
run_on g w mid after [] b r q = subst (λ x. Run g x b after) r q
run_on g w mid after (e ∷ es) b r q = (r.0, r.1, run_on g r.0 mid after es b r.2 q)

-- ---- moments

-- the last one, and those before it
pub is_last : (us : List World) (w : World) → Contains (w ∷ us) w
is_last us w = Contains-append_left (w ∷ []) us w (Contains-push [] w)

pub is_before : (us : List World) (w u : World) → Contains us u → Contains (w ∷ us) u
is_before us w u c = Contains-append_right (w ∷ []) us u c

none_before : (u : World) → Contains [] u → ⊥
none_before u c = omega (arith, c.1)

pub last_or_before : (us : List World) (w u : World) → Contains (w ∷ us) u → (w ≡ u) ⊎ Contains us u
last_or_before us w u c = by (Contains-append_cases (w ∷ []) us u c)
  where
    last : Contains [] u ⊎ (w ≡ u) → (w ≡ u) ⊎ Contains us u
    last (inl none) = absurd (none_before u none)
    last (inr same) = inl same

    by : Contains (w ∷ []) u ⊎ Contains us u → (w ≡ u) ⊎ Contains us u
    by (inl c) = last (Contains-push_cases [] w u c)
    by (inr c) = inr c

-- no word was an own one before the opening
pub none_was : (B : ℕ → ℕ → ℕ → ℕ → Type 0) (v i c word : ℕ) → WasOwn [] v i c word → B v i c word
none_was B v i c word was = absurd (none_before was.0 was.1)

-- what holds of the own words of a world, and of those that were own ones before, holds of all of them
pub were_all : (us : List World) (w : World) (B : ℕ → ℕ → ℕ → ℕ → Type 0)
    → ((i c : ℕ) → B (w.past.view i) i c (own_word w i c)) → ((v i c word : ℕ) → WasOwn us v i c word → B v i c word)
    → (v i c word : ℕ) → WasOwn (w ∷ us) v i c word → B v i c word
were_all us w B now before v i c word was = by (last_or_before us w was.0 was.1)
  where
    by : (w ≡ was.0) ⊎ Contains us was.0 → B v i c word
    by (inl same) = subst (B v i c) was.3 (subst (λ n. B n i c (was.0.past.own i n c)) was.2
        (subst (λ (x : World). B (x.past.view i) i c (own_word x i c)) same (now i c)))
    by (inr earlier) = before v i c word (was.0, earlier, was.2, was.3)

-- what holds of those and of the words of the table holds of a word that may arrive
pub arrived : (moments : List World) (w : World) (v i c word : ℕ) (P : ℕ → Type 0) → MayArrive moments w v i c word
    → ((x : ℕ) → WasOwn moments v i c x → P x) → ((k : ℕ) → P (w.table v k i c)) → P word
arrived moments w v i c word P (inl was) own table = own word was
arrived moments w v i c word P (inr (k, same)) own table = subst P same (table k)

-- ---- the inductions

-- what each event keeps on a way, and each arrival of words, holds of each world with the worlds before it,
-- where of these something is known
pub by_way : (g : Group) (Q : World → Type 0) (P : List World → World → Type 0) → ((us : List World) (w : World)
    (e : Event) → Way g us w → All Q (w ∷ us) → Guard g w e → P us w → P (w ∷ us) (effect g w e)) → ((us : List World)
    (w : World) (table : Table) → Way g us w → All Q (w ∷ us) → HaveArrived (w ∷ us) w table → P us w → P (w ∷ us)
    (with_table w table)) → P [] (opening_world g) → (us : List World) (w : World) → Way g us w → All Q us → P us w
by_way g Q P step arrive begun [] w r all = subst (P []) (sym r) begun
by_way g Q P step arrive begun (u ∷ us) w r all =
    once (by_way g Q P step arrive begun us u r.0 (All-tail Q u us all)) r.1
  where
    once : P us u → ComesNext g us u w → P (u ∷ us) w
    once old (inl (e, can, same)) = subst (P (u ∷ us)) (sym same) (step us u e r.0 all can old)
    once old (inr (table, come, same)) = subst (P (u ∷ us)) (sym same) (arrive us u table r.0 all come old)

-- what each event keeps, and no table changes, holds of every world on a way
along : (g : Group) (P : World → Type 0)
    → ((w : World) (e : Event) → IsReached g w → Guard g w e → P w → P (effect g w e))
    → ((w : World) (table : Table) → P w → P (with_table w table))
    → P (opening_world g) → (us : List World) (w : World) → Way g us w → P w
along g P step arrive begun [] w r = subst P (sym r) begun
along g P step arrive begun (u ∷ us) w r = once (along g P step arrive begun us u r.0) r.1
  where
    once : P u → ComesNext g us u w → P w
    once old (inl (e, can, same)) = subst P (sym same) (step u e (us, r.0) can old)
    once old (inr (table, come, same)) = subst P (sym same) (arrive u table old)

-- and so of every world that is reached
pub reached : (g : Group) (P : World → Type 0)
    → ((w : World) (e : Event) → IsReached g w → Guard g w e → P w → P (effect g w e)) → ((w : World)
    (table : Table) → P w → P (with_table w table)) → P (opening_world g) → (w : World) → IsReached g w → P w
reached g P step arrive begun w r = along g P step arrive begun r.0 w r.1

-- ---- ways that go on

-- one event more leads to a reached world, whether it was taken or refused
pub reached_more : (g : Group) (w after : World) (e : Event) → IsReached g w → Happens g w e after → IsReached g after
reached_more g w after e r (inl (can, same)) = (w ∷ r.0, (r.1, inl (e, can, same)))
reached_more g w after e r (inr (refused, same)) = subst (IsReached g) (sym same) r

-- nothing at all may come next, as no word arrives
pub stays_next : (g : Group) (us : List World) (w : World) → ComesNext g us w w
stays_next g us w =
    inr (w.table, record { source = λ v j i c. inr (j, refl); rises = λ v j i c. le_refl (w.table v j i c) }, refl)

-- a run goes on a way, on which the worlds before it stand
pub run_way : (g : Group) (us : List World) (w after : World) (es : List Event) → Way g us w → Run g w es after
    → (before : List World) × Way g before after × ((u : World) → Contains (w ∷ us) u → Contains (after ∷ before) u)
run_way g us w after [] way run = subst (λ x. (before : List World)
    × Way g before x × ((u : World) → Contains (w ∷ us) u → Contains (x ∷ before) u)) (sym run) (us, way, λ u c. c)
run_way g us w after (e ∷ es) way run = by (λ vs on. run_way g vs run.0 after es on run.2) run.1
  where
    by : ((vs : List World) → Way g vs run.0 → (before : List World) × Way g before after
        × ((u : World) → Contains (run.0 ∷ vs) u → Contains (after ∷ before) u)) → Happens g w e run.0
        → (before : List World) × Way g before after
        × ((u : World) → Contains (w ∷ us) u → Contains (after ∷ before) u)
    by rest (inl (can, same)) =
        let t = rest (w ∷ us) (way, inl (e, can, same)) in (t.0, t.1, λ u c. t.2 u (is_before (w ∷ us) run.0 u c))
    by rest (inr (refused, same)) =
        let t = rest us (subst (Way g us) (sym same) way) in
        (t.0, t.1, λ u c. t.2 u (subst (λ x. Contains (x ∷ us) u) (sym same) c))

-- the world that a run from the opening comes to is reached
pub run_reached : (g : Group) (w : World) (es : List Event) → Run g (opening_world g) es w → IsReached g w
run_reached g w es run =
    let t = run_way g [] (opening_world g) w es refl run in (t.0, t.1)

-- so is one that comes of events, and one event more leads to such a world
pub events_reached : (g : Group) (w : World) → ComesOfEvents g w → IsReached g w
events_reached g w (es, run) = run_reached g w es run

pub events_more : (g : Group) (w after : World) (e : Event) → ComesOfEvents g w → Happens g w e after
    → ComesOfEvents g after
events_more g w after e (es, run) happens =
    (es ++ e ∷ [], run_on g (opening_world g) w after es (e ∷ []) run (after, happens, refl))

-- a word that may come where one moment is added is the own one of that moment, or could come before
pub one_more_moment : (us : List World) (w : World) (v i c x : ℕ) → MayArrive (w ∷ us) w v i c x
    → MayArrive us w v i c x ⊎ (x ≡ w.past.own i v c)
one_more_moment us w v i c x (inr t) = inl (inr t)
one_more_moment us w v i c x (inl was) = by (last_or_before us w was.0 was.1)
  where
    by : (w ≡ was.0) ⊎ Contains us was.0 → MayArrive us w v i c x ⊎ (x ≡ w.past.own i v c)
    by (inl same) = inr (subst (λ (u : World). x ≡ u.past.own i v c) (sym same) (sym was.3))
    by (inr earlier) = inl (inl (was.0, earlier, was.2, was.3))

-- the opening is one of the worlds on the way
pub opening-in : (g : Group) (us : List World) (w : World) → Way g us w → Contains (w ∷ us) (opening_world g)
opening-in g [] w way = subst (λ (u : World). Contains (w ∷ []) u) way (is_last [] w)
opening-in g (u ∷ us) w way = is_before (u ∷ us) w (opening_world g) (opening-in g us u way.0)
