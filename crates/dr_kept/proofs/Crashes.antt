-- A run behind a crash begins with what was logged.
use Rattle.std.{specs.Prelude.{Option, None, Some, option_map}, proofs.lemmas.Option.{none-some, same_Some}}
use Rattle.std.proofs.Common.{◌≡◌, ◌⊎◌, inl, inr, ⊎_elim, refl, sym, ap, ◌∙◌, subst, ℕ, arith, List, ◌++◌}
use Rattle.dr_history.specs.{History.{IsPrefixOf, view_of}, Restarting.AreAlong, declared.opening.Opening.Opening}
use Rattle.dr_history.proofs.{LastViews.ends_later, Lists.no_longer, Stood.nothing_without}
use Rattle.dr_log_bytes.specs.Content.{OnLog}
use Rattle.dr_program.proofs.Present.{present_map}
use Rattle.dr_restart.specs.Choosing.{AreOfHolders, AreOfNobody, EndsInAge, Handed}
use Rattle.dr_restart.specs.declared.{lists.LogLists.LogLists, start.Start.Start}
use Rattle.dr_quorum.specs.Handing.{handed_by}
use Rattle.dr_opening.specs.{Lists.{all_as_lists, as_lists}, Tries.{IsChosenOf, content_at}}

-- each log that is handed in is a first part of it
pub front_of_start : (o : Opening) (contents : List (Option OnLog)) (start : Start) (m : ℕ) (c : OnLog)
    → IsChosenOf o contents start
    → ((i j : ℕ) (f g : OnLog) → content_at contents i ≡ Some f → content_at contents j ≡ Some g
    → AreAlong f.entries g.entries) → content_at contents m ≡ Some c → IsPrefixOf c.entries start.entries
front_of_start o contents start m c is along at = by is.chosen.entries
  where
    h : Handed
    h = handed_by (all_as_lists contents)

    here : h m ≡ Some (as_lists c)
    here = present_map as_lists contents m ∙ ap (option_map as_lists) at

    -- what is on a log that is handed in
    on : (k : ℕ) (log : LogLists) → h k ≡ Some log → (d : OnLog) × (content_at contents k ≡ Some d) × (as_lists d ≡ log)
    on k log there = of (content_at contents k) refl (sym (present_map as_lists contents k) ∙ there)
      where
        of : (z : Option OnLog) → content_at contents k ≡ z → option_map as_lists z ≡ Some log
            → (d : OnLog) × (content_at contents k ≡ Some d) × (as_lists d ≡ log)
        of None none made = absurd (none-some log made)
        of (Some d) some made = (d, some, same_Some (as_lists d) log made)

    longer : AreOfHolders o h start.entries → IsPrefixOf start.entries c.entries → IsPrefixOf c.entries start.entries
    longer held p =
        let end = held.held.3 in
        let u = ends_later o start.entries c.entries end.0 (is.chosen.sound m (as_lists c) here) p
        (ap view_of held.held.4 ∙ end.1) in
        let most = held.last.greatest m u.0.age (as_lists c) here (u.0, u.1, refl) in
        let same : u.0.age ≡ held.age = omega (arith, u.2, most, end.2) in
        no_longer start.entries c.entries p
        (held.longest c.entries (m, as_lists c, here, subst (EndsInAge (as_lists c)) same (u.0, u.1, refl), refl))

    by : AreOfHolders o h start.entries ⊎ AreOfNobody h start.entries → IsPrefixOf c.entries start.entries
    by (inl held) =
        let d = on held.held.0 held.held.1 held.held.2 in
        let same : d.0.entries ≡ start.entries = ap (λ (l : LogLists). l.entries) d.2 ∙ sym held.held.4 in
        ⊎_elim (λ p. subst (IsPrefixOf c.entries) same p)
        (λ p. longer held (subst (λ es. IsPrefixOf es c.entries) same p)) (along m held.held.0 c d.0 at d.1)
    by (inr nobody) =
        let none = nothing_without o c.entries (is.chosen.sound m (as_lists c) here)
        (nobody.nobody m (as_lists c) here) in
        (start.entries, ap (λ es. es ++ start.entries) none)
