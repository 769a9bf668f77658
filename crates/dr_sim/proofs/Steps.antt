-- A member of a sound program takes its next deed.
use Rattle.std.{specs.Prelude.{Option, Some, None}, proofs.lemmas.List.{get_or_read, Sums.sum_by-set}}
use Rattle.std.proofs.Common.{◌≡◌, refl, sym, ap, ◌∙◌, subst, inl, inr, ◌⊎◌, ℕ, ◌<◌, false, List, length, get_or, arith}
use Rattle.dr_machine.specs.Group.{Group}
use Rattle.dr_program.specs.{Presence.{present_at, with_present}, declared.outcome.Outcome.{Outcome, TheVariants.Ok}}
use Rattle.dr_program.specs.Program.{Program, after_deed, has_ended, letter_for, next_sight, step_of}
use Rattle.dr_program.{specs.{Reading.letters_of, declared.outcome.LogWhy.LogWhy}, proofs.Deeds.step_is}
use Rattle.dr_program.{specs.Running.{Running, next_step}, proofs.Present.{present_within, present_set, going_within}}
use Rattle.dr_entry.specs.declared.entry.Entry.{Entry}
use Rattle.dr_program_laws.proofs.Keeping.{sees}
use Rattle.dr_turn.specs.Work.{deeds_left}
use Rattle.dr_sim.specs.Deeds.{IsTaken, SeesWell, outcome_by, own_letter, posted, stores, went_so}
use Rattle.dr_sim.specs.{Simulated.SomeFailed, Sound.{IsAmong, TookDeed, move, left_at, program_over}}
use Rattle.dr_play.{specs.Sound.IsSound, proofs.Sound.move_sound}

-- member m took its next deed, and the program stays sound
pub record HasStepped (g : Group) (p : Program) (m : ℕ) (q : Program) : Type 0 where
  pub outcome : Outcome
  pub step : q ≡ step_of p (move m outcome)
  pub well : (outcome ≡ Ok) ⊎ SomeFailed q
  pub sound : IsSound g q

-- the letter for it is its own
pub own_there : (g : Group) (p : Program) (m : ℕ) (r : Running) → IsSound g p → present_at p.members m ≡ Some r
    → own_letter p.letters r ≡ letter_for p m
own_there g p m r is there = ap (letters_of p.letters) (is.form.of m r there).number

-- a member takes its step, and the others stay
pub stepped : (g : Group) (p : Program) (m : ℕ) (r x : Running) (cells : List ℕ) (mails : List (Option (List Entry)))
    → IsSound g p → present_at p.members m ≡ Some r → r.replica.end ≡ None → IsTaken p.table p.letters r cells mails x
    → HasStepped g p m (program_over (with_present p.members m x) cells mails)
stepped g p m r x cells mails is there none taken = record {
  outcome = outcome_by x.failed;
  step = step;
  well = well x.failed refl;
  sound = subst (IsSound g) (sym step) (move_sound g p (move m (outcome_by x.failed)) is);
}
  where
    member : x ≡ after_deed (next_sight p.table r) (letter_for p m) (outcome_by x.failed) r (next_step r)
    member = taken.member ∙ ap (went_so p.table (own_letter p.letters r) (outcome_by x.failed) r) none
        ∙ ap (λ l. after_deed (next_sight p.table r) l (outcome_by x.failed) r (next_step r)) (own_there g p m r is there)

    step : program_over (with_present p.members m x) cells mails ≡ step_of p (move m (outcome_by x.failed))
    step = (λ z. program_over (with_present p.members m (member z))
        ((taken.table ∙ ap (stores p.table r) none) z) ((taken.letters ∙ ap (posted p.letters r) none) z))
        ∙ sym (step_is p (move m (outcome_by x.failed)) r there none)

    well : (o : Option LogWhy) → x.failed ≡ o → (outcome_by o ≡ Ok)
        ⊎ SomeFailed (program_over (with_present p.members m x) cells mails)
    well None at = inl refl
    well (Some why) at = inr (m, x, why, present_set p.members m x (present_within p.members m r there), at)

-- and where its deeds left fall, those of all do
pub took : (g : Group) (p : Program) (m : ℕ) (r x : Running) (cells : List ℕ) (mails : List (Option (List Entry)))
    → IsSound g p → present_at p.members m ≡ Some r → r.replica.end ≡ None → IsTaken p.table p.letters r cells mails x
    → deeds_left x < deeds_left r → TookDeed g p m (program_over (with_present p.members m x) cells mails)
took g p m r x cells mails is there none taken falls =
    let now = stepped g p m r x cells mails is there none taken in
    record {
      outcome = now.outcome;
      step = now.step;
      well = now.well;
      sound = now.sound;
      falls = omega (
        arith,
        sum_by-set left_at p.members m (Some x) None (present_within p.members m r there),
        ap left_at there,
        falls,
      );
    }

-- in a sound program every member sees well
pub sees_well : (g : Group) (p : Program) (m : ℕ) (r : Running) → IsSound g p → present_at p.members m
    ≡ Some r → SeesWell p.table r
sees_well g p m r is there = λ i c due. sees g p m r i c is.group is.form is.reached there due

-- so there is one at its number
pub going_there : (rs : List (Option Running)) (cells : List ℕ) (posts : List (Option (List Entry))) (now : Program)
    (m : ℕ) → program_over rs cells posts ≡ now → has_ended (present_at now.members m) ≡ false → m < length rs
going_there rs cells posts now m is going =
    subst (λ (v : Program). has_ended (present_at v.members m) ≡ false → m < length rs) is (going_within rs m) going

-- the place that is read at its number, and the member that stands there
pub place_read : (rs : List (Option Running)) (cells : List ℕ) (posts : List (Option (List Entry)))
    (now : Program) (m : ℕ) (o : Option Running) → program_over rs cells posts ≡ now → m < length now.members → o ≡ get_or rs m o
    → present_at now.members m ≡ o
place_read rs cells posts now m o is within read =
    subst (λ (v : Program). m < length v.members → present_at v.members m ≡ o) is
    (λ below. sym (get_or_read rs m o below read None)) within

pub member_read : (rs : List (Option Running)) (cells : List ℕ) (posts : List (Option (List Entry)))
    (now : Program) (m : ℕ) (o : Option Running) (r : Running) → program_over rs cells posts ≡ now
    → has_ended (present_at now.members m) ≡ false → o ≡ get_or rs m o → o ≡ Some r
    → present_at now.members m ≡ Some r
member_read rs cells posts now m o r is going read some =
    subst (λ (v : Program). has_ended (present_at v.members m) ≡ false → present_at v.members m ≡ Some r) is
    (λ goes. sym (get_or_read rs m o (going_within rs m goes) read None) ∙ some) going

-- a member that has not ended stands at its place
pub goes_there : (rs : List (Option Running)) (cells : List ℕ) (posts : List (Option (List Entry)))
    (now : Program) (m : ℕ) (o : Option Running) → program_over rs cells posts ≡ now → has_ended (present_at now.members m) ≡ false
    → o ≡ get_or rs m o → o ≡ None → ⊥
goes_there rs cells posts now m o is going read none = absurd (cc (
  going,
  ap has_ended (place_read rs cells posts now m o is
      (subst (λ (v : Program). m < length v.members) is (going_there rs cells posts now m is going)) read ∙ none),
))

-- so it is one of the program
pub among_read : (g : Group) (rs : List (Option Running)) (cells words : List ℕ)
    (posts : List (Option (List Entry))) (now : Program) (m : ℕ) (o : Option Running) (r : Running)
    → program_over rs cells posts ≡ now → IsSound g now → has_ended (present_at now.members m) ≡ false
    → o ≡ get_or rs m o → o ≡ Some r → words ≡ cells → IsAmong g now m r words posts
among_read g rs cells words posts now m o r is sound going read some same = record {
  sound = sound;
  there = member_read rs cells posts now m o r is going read some;
  table = sym (same ∙ ap (λ (v : Program). v.table) is);
  letters = sym (ap (λ (v : Program). v.letters) is);
}
