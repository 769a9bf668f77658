-- Where no log is missing, and all are fronts of one list, the longest of all is chosen.
use Rattle.std.proofs.Common.{◌≡◌, refl, ap, sym, ◌∙◌, ◌⊎◌, inl, inr, subst, ℕ, ◌<◌, ◌≤◌, arith, true, List, [], length, Some, slice_get}
use Rattle.std.proofs.lemmas.Option.{same_Some, slice_get_within}
use Rattle.dr_entry.specs.declared.entry.Entry.{Entry}
use Rattle.dr_history.specs.{History.IsPrefixOf, Members.has, Restarting.{AreAllAlong, AreAlong, IsLongest}}
use Rattle.dr_history.specs.{Soundness.whole_roster, declared.opening.Opening.Opening}
use Rattle.dr_history.proofs.{Keeping.prefix_shorter, LastViews.ends_later, Stood.nothing_without}
use Rattle.dr_restart.specs.Choosing.{AreOfHolders, AreOfNobody, EndsInAge, IsChosenStart, of_set}
use Rattle.dr_restart.specs.{Left.entries_on_logs, declared.{lists.LogLists.LogLists, start.Start.Start}}
use Rattle.dr_restart.proofs.{Handing.{log-of_set, quorum-some, set-log}, Listed.{listed, log-listed}}

pub longest-chosen : (o : Opening) (logs : List LogLists) (set : ℕ) (start : Start)
    → IsChosenStart o (of_set logs set) start → ((m : ℕ) → m < length logs → has set m ≡ true)
    → AreAllAlong (entries_on_logs logs) → IsLongest (entries_on_logs logs) start.entries
longest-chosen o logs set start c all along = by c.entries
  where
    handed : (m : ℕ) (log : LogLists) → slice_get logs m ≡ Some log → of_set logs set m ≡ Some log
    handed m log at = log-of_set logs set m log (all m (slice_get_within logs m log at)) at

    holders : AreOfHolders o (of_set logs set) start.entries → IsLongest (entries_on_logs logs) start.entries
    holders h = record { place = h.held.0; one = mine; longest = λ m l at. shorter m l at (apart m h.held.0) }
      where
        apart : (i j : ℕ) → (i < j) ⊎ ((i ≡ j) ⊎ (j < i))
        apart i j = grind arith

        mine : slice_get (entries_on_logs logs) h.held.0 ≡ Some start.entries
        mine = listed logs h.held.0 h.held.1 (set-log logs set h.held.0 h.held.1 h.held.2).1 ∙ ap Some (sym h.held.4)

        longer : (m : ℕ) (l : List Entry) → slice_get (entries_on_logs logs) m ≡ Some l
            → IsPrefixOf start.entries l → length l ≤ length start.entries
        longer m l at p =
            let t = log-listed logs m l at in
            let here = handed m t.0 t.1 in
            let u = ends_later o h.held.1.entries t.0.entries h.held.3.0 (c.sound m t.0 here)
            (subst (λ es. IsPrefixOf es t.0.entries) h.held.4 (subst (IsPrefixOf start.entries) (sym t.2) p))
            h.held.3.1 in
            let most = h.last.greatest m u.0.age t.0 here (u.0, u.1, refl) in
            let same : u.0.age ≡ h.age = omega (arith, u.2, most, h.held.3.2) in
            h.longest l (m, t.0, here, subst (EndsInAge t.0) same (u.0, u.1, refl), sym t.2)

        ways : (m : ℕ) (l : List Entry) → slice_get (entries_on_logs logs) m ≡ Some l
            → IsPrefixOf l start.entries ⊎ IsPrefixOf start.entries l → length l ≤ length start.entries
        ways m l at (inl p) = prefix_shorter l start.entries p
        ways m l at (inr p) = longer m l at p

        turned : (f g : List Entry) → AreAlong f g → AreAlong g f
        turned f g (inl p) = inr p
        turned f g (inr p) = inl p

        shorter : (m : ℕ) (l : List Entry) → slice_get (entries_on_logs logs) m ≡ Some l
            → (m < h.held.0) ⊎ ((m ≡ h.held.0) ⊎ (h.held.0 < m)) → length l ≤ length start.entries
        shorter m l at (inl less) = ways m l at (along m h.held.0 l start.entries less at mine)
        shorter m l at (inr (inl same)) = omega (
          arith,
          ap length (same_Some l start.entries (sym at ∙ (ap (slice_get (entries_on_logs logs)) same ∙ mine))),
        )
        shorter m l at (inr (inr more)) =
            ways m l at (turned start.entries l (along h.held.0 m start.entries l more mine at))

    nobody : AreOfNobody (of_set logs set) start.entries → IsLongest (entries_on_logs logs) start.entries
    nobody n = record {
      place = t.0;
      one = listed logs t.0 t.2 (set-log logs set t.0 t.2 t.3).1 ∙ ap Some (none t.0 t.2 t.3 ∙ sym n.none);
      longest = λ m l at. let x = log-listed logs m l at in
          omega (arith, ap length (sym x.2 ∙ none m x.0 (handed m x.0 x.1)));
    }
      where
        t : (m : ℕ) × (has (whole_roster o) m ≡ true) × (log : LogLists) × (of_set logs set m ≡ Some log)
        t = quorum-some (of_set logs set) (whole_roster o) c.quorum

        none : (m : ℕ) (log : LogLists) → of_set logs set m ≡ Some log → log.entries ≡ []
        none m log here = nothing_without o log.entries (c.sound m log here) (n.nobody m log here)

    by : AreOfHolders o (of_set logs set) start.entries ⊎ AreOfNobody (of_set logs set) start.entries
        → IsLongest (entries_on_logs logs) start.entries
    by (inl h) = holders h
    by (inr n) = nobody n
