-- Seeded runs: what the generator has chosen, and who goes on.
use Rattle.std.specs.{List.{range_with_len, filter, remove}, Prelude.{Option, Some, None}}
use Rattle.std.proofs.Common.{◌≡◌, refl, sym, ap, ◌∙◌, subst, ℕ, ◌+◌, ◌<◌, not, true, false, List, [], ◌∷◌, ◌++◌, length, slice_index, inl, inr, ◌⊎◌}
use Rattle.std.proofs.lemmas.{Bool.cases_eq, List.Elements.filter_agree}
use Rattle.dr_entry.proofs.ListPlaces.{one_fails}
use Rattle.dr_script.specs.declared.script.Schedule.TheVariants.{Seed}
use Rattle.dr_program.specs.declared.outcome.Outcome.TheVariants as outcomes
use Rattle.dr_program.{specs.{Presence.present_at, Running.Running}, proofs.Runs.ran_more}
use Rattle.dr_program.specs.{Program.{Move, Program, has_ended, ran, step_of}, declared.outcome.Outcome.Outcome}
use Rattle.dr_program.{specs.Schedule.{next_state, going, AreChosen}, proofs.Present.{others_go, nobody_goes}}
use Rattle.dr_program.proofs.{Programs.{ran_one, state_after, state_more, chosen_more, goes}, Schedules.IsChoice}
use Rattle.dr_sim.specs.{Simulated.{HasRun, SomeFailed, WentWell}, Sound.move, Watched.WasTold}
use Rattle.dr_sim.proofs.{Outcomes.{none_well, well_both, well_one}, Tellings.told_more}
use Rattle.dr_served.specs.Served.{AtMember}

-- ---- the choices

-- these have been chosen, and have taken their deeds, of which the watcher was told
pub record HasChosen {W : Type 0} (sees : W → Running → List ℕ → W → Type 0) (old new : W) (seed : ℕ)
    (begun : Program) (x : ℕ) (p : Program) : Type 0 where
  pub chosen : List Move
  pub are : AreChosen seed begun chosen
  pub well : WentWell chosen p
  pub state : x ≡ state_after seed chosen
  pub taken : p ≡ ran begun chosen
  pub told : WasTold sees begun chosen old new

-- before the first choice the state is the seed
pub nothing_chosen : {W : Type 0} (sees : W → Running → List ℕ → W → Type 0) (w : W) (seed x : ℕ)
    (p : Program) → x ≡ seed → HasChosen sees w w seed p x p
unfolding state_after ran
nothing_chosen sees w seed x p e = record {
  chosen = [];
  are = tt;
  well = none_well p;
  state = e;
  taken = refl;
  told = refl;
}

-- one more choice goes on from what was chosen so far
pub chosen_again : {W : Type 0} {sees : W → Running → List ℕ → W → Type 0} {old mid : W} (new : W) (seed : ℕ)
    (begun : Program) (x y : ℕ) (p q : Program) (m : ℕ) (o : Outcome)
    → HasChosen sees old mid seed begun x p → IsChoice x p m → y ≡ next_state x → q ≡ step_of p (move m o)
    → (o ≡ outcomes.Ok) ⊎ SomeFailed q → has_ended (present_at p.members m) ≡ false
    → AtMember p m (λ r. sees mid r p.table new) → HasChosen sees old new seed begun y q
chosen_again {W} {sees} {old} {mid} new seed begun x y p q m o has next to step well going seen = record {
  chosen = has.chosen ++ move m o ∷ [];
  are = chosen_more seed begun has.chosen (move m o) has.are
      (subst (λ (v : Program). IsChoice (state_after seed has.chosen) v m) has.taken
      (subst (λ s. IsChoice s p m) has.state next));
  well = well_both has.chosen (move m o ∷ []) p q has.well (well_one m o q well) (step ∙ sym (ran_one p (move m o)));
  state = to ∙ ap next_state has.state ∙ sym (state_more seed has.chosen (move m o));
  taken = step ∙ ap (λ (v : Program). step_of v (move m o)) has.taken ∙ sym (ran_more begun has.chosen (move m o));
  told = by (present_at p.members m) refl going;
}
  where
    by : (r : Option Running) → present_at p.members m ≡ r → has_ended r ≡ false
        → WasTold sees begun (has.chosen ++ move m o ∷ []) old new
    by None is goes = absurd (cc)
    by (Some r) is goes = told_more sees begun has.chosen p m o r old mid new has.taken has.told is (seen r is)

-- ---- who goes on

-- where the chosen member has not ended, the members that go on are the same
pub going_on : (p q : Program) (m : ℕ) (o : Outcome) → q ≡ step_of p (move m o) → length q.members ≡ length p.members
    → has_ended (present_at p.members m) ≡ false → has_ended (present_at q.members m) ≡ false → going q ≡ going p
going_on p q m o step same before after = ap (λ n. filter (goes q) (range_with_len 0 n)) same
    ∙ filter_agree (goes q) (goes p) each (range_with_len 0 (length p.members))
  where
    each : (k : ℕ) → goes q k ≡ goes p k
    each k = elim (cases_eq k m) [
      | inl here ↦ ap (goes q) here ∙ ap not after ∙ sym (ap (goes p) here ∙ ap not before)
      | inr other ↦ ap (λ (v : Program). goes v k) step ∙ others_go p (move m o) k other
    ]

-- where the chosen member has ended, the others go on
pub one_has_ended : (p q : Program) (m j : ℕ) (o : Outcome) → q ≡ step_of p (move m o) → length q.members
    ≡ length p.members → j < length (going p) → m ≡ slice_index (going p) j
    → has_ended (present_at q.members m) ≡ true → going q ≡ remove (going p) j
one_has_ended p q m j o step same within at after = ap (λ n. filter (goes q) (range_with_len 0 n)) same
    ∙ one_fails (goes p) (goes q) m 0 (length p.members) j (ap not after)
    (λ k other. ap (λ (v : Program). goes v k) step ∙ others_go p (move m o) k other) within at

-- ---- the choice that the code makes

-- the program has run by the seed, and the watcher was told of it
abbrev pub HasRunTold : {W : Type 0} → (W → Running → List ℕ → W → Type 0) → W → W → ℕ → Program → Program → Type 0
HasRunTold sees old new seed begun p = (run : HasRun (Seed seed) begun p) × WasTold sees begun run.moves old new

-- once nobody is left, the run is one of the seed
pub seeded : {W : Type 0} {sees : W → Running → List ℕ → W → Type 0} {old new : W} (seed : ℕ)
    (begun : Program) (x : ℕ) (p : Program) (xs : List ℕ)
    → HasChosen sees old new seed begun x p → xs ≡ going p → length xs ≡ 0 → HasRunTold sees old new seed begun p
seeded seed begun x p xs has listed none = (
  record {
    moves = has.chosen;
    by = record { chosen = has.are; ran = has.taken; ended = nobody_goes p (ap length (sym listed) ∙ none) };
    well = has.well;
  },
  has.told,
)
