-- Schedules: what goes on, and that no other program comes of the same ones.
use Rattle.std.specs.Prelude.{Some, is_some}
use Rattle.std.proofs.Common.{◌≡◌, ℕ, ◌<◌, length, slice_index, sym, ap, ◌∙◌, refl, Bool, true, false, ◌||◌}
use Rattle.dr_program.specs.{Program.Program, Running.Running}
use Rattle.dr_program.specs.{Schedule.{next_state, choice_of, going, is_between_turns}, Turn.{is_beat, part_of}}

-- the member is the next choice from this state on
pub record IsChoice (x : ℕ) (p : Program) (m : ℕ) : Type 0 where
  pub some : 0 < length (going p)
  pub choice : m ≡ slice_index (going p) (choice_of (next_state x) (length (going p)))

-- the state that the generator is left in chooses this place once more
pub chosen_place : (x y s n k j : ℕ) → s ≡ y → y ≡ next_state x → n ≡ k → j ≡ choice_of (next_state x) n
    → choice_of s k ≡ j
chosen_place x y s n k j kept next counted chosen =
    ap (λ z. choice_of z k) (kept ∙ next) ∙ ap (choice_of (next_state x)) (sym counted) ∙ sym chosen

-- a member amid its turn has not ended
pub amid_goes : (r : Running) → is_between_turns (Some r) ≡ false → is_some r.replica.end ≡ false
amid_goes r amid = by (is_some r.replica.end) amid
  where
    by : (b : Bool) → (b || is_beat (part_of r.place)) ≡ false → b ≡ false
    by true e = absurd (cc)
    by false e = refl
