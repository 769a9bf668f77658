-- Logs that hold have nothing foreign, and those that a further try lacks are of ages before it.
use Rattle.std.proofs.Common.{◌≡◌, refl, ap, sym, ◌∙◌, ◌⊎◌, inl, inr, subst, ℕ, ◌+◌, ◌-◌, ◌<◌, ◌≤◌, arith, Bool, true, false, List, [], ◌∷◌, ◌++◌, length, length-append, length-take, take, drop, Contains, Some, slice_get, append_assoc, take_at}
use Rattle.std.proofs.lemmas.{Bool.cases_lt, Option.{same_Some, slice_get_within}}
use Rattle.dr_entry.specs.declared.entry.Entry.{Entry}
use Rattle.dr_entry.proofs.ListPlaces.{slice_get-left, slice_get-push_cases, slice_get-seam, slice_get-some, around}
use Rattle.dr_history.{specs.{Members.has, declared.opening.Opening.Opening}, proofs.Standing.{all-by, part-stands}}
use Rattle.dr_history.{specs.{Restarting.AllStand, Soundness.{MayStand, Sound}}, proofs.Lists.take-prefix}
use Rattle.dr_machine.specs.{Group.{Group, IsGroup}, World.World}
use Rattle.dr_restart.specs.{Groups.group_of, Left.{AreLeft, IsLeftByOther}, Trying.{IsTry, first_view_of, opened_by}}
use Rattle.dr_restart.specs.declared.{lists.{Attempt.Attempt, LogLists.LogLists}, start.Start.Start}
use Rattle.dr_restart.proofs.Sounding.{choice-sound}
use Rattle.dr_script.specs.declared.script.Script.{Script}
use Rattle.dr_world_laws.proofs.{Ended.stands, Worlds.Known}
use Rattle.dr_quorum_laws.specs.Holding.{AreSoundTries, GoesOnFrom, HaveNoLaterVotes, HoldSince, IsKeptBy, IsOfAgeOrEarlier, IsOpenedTry}
use Rattle.dr_quorum_laws.proofs.{Chosen.chosen-keeps, Grown.ages-below, Handing.Since}

-- ---- the starts of tries

pub try-sound : (o : Opening) (before after : List LogLists) (tries : List Attempt) (try : Attempt)
    → AreSoundTries o tries → IsTry o before after try → AreSoundTries o (tries ++ try ∷ [])
try-sound o before after tries try sounds t k one at = by (slice_get-push_cases tries try one k at)
  where
    by : ((k < length tries) × (slice_get tries k ≡ Some one)) ⊎ ((k ≡ length tries) × (try ≡ one))
        → Sound (opened_by o one.start)
    by (inl (l, old)) = sounds k one old
    by (inr (l, same)) = subst (λ (a : Attempt). Sound (opened_by o a.start)) same
        (choice-sound o _ try.start t.choice)

-- ---- what holds may stand

-- entries that go on from a front of the history with Views of opened tries
goes-stand : (g : Group) (w : World) (choice logs : List LogLists) (tries : List Attempt) (m : ℕ)
    (log : LogLists) (front : List Entry) → IsGroup g → Known g w → (held : HoldSince g w choice tries logs)
    → AreSoundTries g.opening tries → slice_get logs m ≡ Some log
    → GoesOnFrom held.history tries front log.entries → AllStand g.opening log.entries
goes-stand g w choice logs tries m log front is y held sounds at goes i e here = by (cases_lt i (length front))
  where
    history : AllStand g.opening held.history
    history = subst (AllStand g.opening) held.longest.one.2 (stands g w held.longest.one.0 is y held.longest.one.1)

    whole : log.entries ≡ front ++ goes.views
    whole = goes.is

    before : i < length front → MayStand g.opening (take i log.entries) e
    before l = subst (λ es. MayStand g.opening es e)
        (sym (take-prefix front log.entries i (goes.views, sym goes.is) (omega (arith, l))))
        (part-stands g.opening front held.history goes.delivered history i e
        (sym (slice_get-left front goes.views i l) ∙ (ap (λ es. slice_get es i) (sym goes.is) ∙ here)))

    behind : length front ≤ i → MayStand g.opening (take i log.entries) e
    behind l = at-view (slice_get-some goes.views (i - length front) (omega (
      arith,
      l,
      slice_get_within log.entries i e here,
      ap length whole,
      length-append front goes.views,
    )))
      where
        at-view : (x : Entry) × (slice_get goes.views (i - length front) ≡ Some x)
            → MayStand g.opening (take i log.entries) e
        at-view (x, there) = subst (MayStand g.opening (take i log.entries)) (sym t.2 ∙ same)
            (subst (λ es. MayStand g.opening es (first_view_of t.0.start))
            (sym (held.started t.0 m log (front ++ take k goes.views) (drop (k + 1) goes.views) t.1 at
            (split ∙ ap (λ z. (front ++ take k goes.views) ++ z ∷ drop (k + 1) goes.views) t.2)) ∙ sym start)
            (sound.members, inl (record { later = sound.later; first = refl })))
          where
            k : ℕ
            k = i - length front

            split : log.entries ≡ (front ++ take (i - length front) goes.views)
                ++ x ∷ drop (i - length front + 1) goes.views
            split = goes.is ∙ (ap (λ vs. front ++ vs) (around goes.views (i - length front) x there)
                ∙ sym (append_assoc front (take (i - length front) goes.views)
                (x ∷ drop (i - length front + 1) goes.views)))

            place : length (front ++ take (i - length front) goes.views) ≡ i
            place = omega (
              arith,
              l,
              length-append front (take (i - length front) goes.views),
              length-take (i - length front) goes.views,
              slice_get_within goes.views (i - length front) x there,
            )

            same : x ≡ e
            same = same_Some x e (sym (slice_get-seam (front ++ take (i - length front) goes.views) x
                (drop (i - length front + 1) goes.views))
                ∙ (ap (slice_get ((front ++ take (i - length front) goes.views)
                ++ x ∷ drop (i - length front + 1) goes.views)) place
                ∙ (ap (λ es. slice_get es i) (sym split) ∙ here)))

            start : take i log.entries ≡ front ++ take (i - length front) goes.views
            start = ap (take i) split ∙ take_at (front ++ take (i - length front) goes.views)
                (x ∷ drop (i - length front + 1) goes.views) i place

            t : (try : Attempt) × IsOpenedTry tries try × (x ≡ first_view_of try.start)
            t = goes.opened (i - length front) x there

            sound : Sound (opened_by g.opening t.0.start)
            sound = sounds t.1.0 t.0 t.1.1

    by : (i < length front) ⊎ (length front ≤ i) → MayStand g.opening (take i log.entries) e
    by (inl l) = before l
    by (inr l) = behind l

pub held-stand : (g : Group) (w : World) (choice logs : List LogLists) (tries : List Attempt) (m : ℕ)
    (log : LogLists) → IsGroup g → Known g w → HoldSince g w choice tries logs → AreSoundTries g.opening tries
    → slice_get logs m ≡ Some log → AllStand g.opening log.entries
held-stand g w choice logs tries m log is y held sounds at = by (held.grown m log at)
  where
    by : IsOfAgeOrEarlier g held.history tries log → AllStand g.opening log.entries
    by (inl t) = goes-stand g w choice logs tries m log t.1 is y held sounds at t.2
    by (inr t) = t.0

-- ---- the logs that a further try lacks

-- the votes on the logs that were left are of the age that has ended, or of earlier ones
pub left-votes : (g : Group) (w : World) (choice : List LogLists) → AreLeft g w choice
    → HaveNoLaterVotes g.opening.age choice
left-votes g w choice left m log x at c = by (has g.opening.present m) refl
  where
    by : (b : Bool) → has g.opening.present m ≡ b → x.age ≤ g.opening.age
    by true there = (left.members m log there at).votes x c
    by false none =
        let other = left.others m log (λ there. absurd (cc (there, none))) at in
        omega (arith, other.earlier.votes x c)

-- so they stay through tries
pub tried-votes : (o : Opening) (before after : List LogLists) (try : Attempt) (age : ℕ) → IsTry o before after try
    → HaveNoLaterVotes age before → HaveNoLaterVotes age after
tried-votes o before after try age t below m log x at c =
    let old = slice_get-some before m (omega (arith, slice_get_within after m log at, t.places)) in
    below m old.0 x old.1 (subst (λ l. Contains l x) (t.votes m old.0 log old.1 at).0 c)

pub others-left : (script : Script) (start : Start)
    (w : World) (choice before after : List LogLists) (tries : List Attempt) (try : Attempt) (m : ℕ) (log : LogLists)
    → Since (group_of script start) w choice tries before → AreSoundTries (group_of script start).opening tries
    → HaveNoLaterVotes start.age before → IsTry (group_of script start).opening before after try
    → has try.set m ≡ false → slice_get after m ≡ Some log → IsLeftByOther (group_of script try.start) log
others-left script start w choice before after tries try m log s sounds below t none at = record {
  stands = all-by (group_of script start).opening (group_of script try.start).opening log.entries refl
      (held-stand (group_of script start) w choice before tries m log s.group s.known s.held sounds here);
  earlier = record {
    views = λ a n k c. ages-below (group_of script start) w choice before tries s try.start kept m log a n k here c;
    votes = λ x c. omega (arith, below m log x here c, kept.later);
  };
}
  where
    here : slice_get before m ≡ Some log
    here = sym (t.others m none) ∙ at

    kept : IsKeptBy (group_of script start) w s.held.history tries try.start
    kept = chosen-keeps (group_of script start) w choice before tries try.set try.start s t.choice
