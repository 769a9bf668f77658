-- Without any try: an age that starts with what the logs that are left make keeps all that was durable.
use Rattle.std.proofs.Common.{◌≡◌, refl, ap, sym, ◌∙◌, subst, ℕ, ◌<◌, List, [], ◌∷◌, ◌++◌, append-nil, take}
use Rattle.std.proofs.lemmas.Option.{none-some}
use Rattle.dr_entry.specs.declared.entry.Entry.{Entry}
use Rattle.dr_history.specs.{History.IsPrefixOf, Restarting.Kept, Soundness.whole_roster}
use Rattle.dr_history.specs.declared.opening.Opening.{Opening}
use Rattle.dr_machine.{specs.{Group.{Group, IsGroup}, Run.accounts_in, World.World}, proofs.Presence.present-part}
use Rattle.dr_restart.specs.{Choosing.{IsChosenStart, of_set}, Left.AreLeft, declared.lists.Attempt.Attempt}
use Rattle.dr_restart.specs.declared.{lists.LogLists.LogLists, start.Start.Start}
use Rattle.dr_words.specs.Masks.{IsMajorityOf}
use Rattle.dr_world_laws.proofs.Worlds.{Known}
use Rattle.dr_quorum_laws.specs.Holding.{AreTheirViews, HoldSince, IsKeptBy, IsLongestHistory}
use Rattle.dr_quorum_laws.proofs.{Beginning.left-held, Chosen.chosen-keeps, Handing.Since}

-- what is known before any try, and after some
pub since-held : (g : Group) (w : World) (choice logs : List LogLists) (tries : List Attempt) → IsGroup g
    → Known g w → IsMajorityOf g.opening.present (whole_roster g.opening) → AreLeft g w choice
    → HoldSince g w choice tries logs → Since g w choice tries logs
since-held g w choice logs tries is y most left held = record {
  group = is;
  known = y;
  part = present-part g is;
  majority = most;
  left = left;
  held = held;
}

pub since-left : (g : Group) (w : World) (choice : List LogLists) → IsGroup g → Known g w
    → IsMajorityOf g.opening.present (whole_roster g.opening) → AreLeft g w choice → Since g w choice [] choice
since-left g w choice is y most left = since-held g w choice choice [] is y most left
    (left-held g w choice is y (present-part g is) most left)

-- no try has a View
no_views : (views : List Entry) → AreTheirViews [] views → views ≡ []
no_views [] theirs = refl
no_views (x ∷ views) theirs = let t = theirs 0 x refl in absurd (none-some t.0 t.1.1)

pub choice-keeps : (g : Group) (w : World) (choice : List LogLists) (set : ℕ) (chosen : Start) (next : Opening)
    → Since g w choice [] choice → IsChosenStart g.opening (of_set choice set) chosen
    → next.start ≡ chosen.entries → g.opening.age < next.age → Kept g.opening (accounts_in w) next
choice-keeps g w choice set chosen next s c same later = record {
  later = later;
  delivered = (
    s.held.longest.one.0,
    s.held.longest.one.1,
    subst (IsPrefixOf next.start) (sym s.held.longest.one.2)
        (subst (λ es. IsPrefixOf es s.held.history) (sym whole) kept.keeps.goes.delivered),
  );
  durable = λ m there. subst (IsPrefixOf (take (w.past.durable m) (w.past.history m))) (sym whole) (kept.keeps.durable m there);
}
  where
    kept : IsKeptBy g w s.held.history [] chosen
    kept = chosen-keeps g w choice choice [] set chosen s c

    whole : next.start ≡ kept.keeps.front
    whole = same ∙ kept.keeps.goes.is ∙ ap (λ vs. kept.keeps.front ++ vs)
        (no_views kept.keeps.goes.views kept.keeps.goes.opened) ∙ append-nil kept.keeps.front

-- so it is for whatever logs hold
pub majority-keeps : (g : Group) (w : World) (choice logs : List LogLists) (tries : List Attempt) (set : ℕ)
    (chosen : Start) → Since g w choice tries logs → IsChosenStart g.opening (of_set logs set) chosen
    → (history : List Entry) × IsLongestHistory g w history × IsKeptBy g w history tries chosen
majority-keeps g w choice logs tries set chosen s c =
    (s.held.history, s.held.longest, chosen-keeps g w choice logs tries set chosen s c)
