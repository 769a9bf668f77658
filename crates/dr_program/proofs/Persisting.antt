-- A member that logs an entry is to publish it, amid its turn.
use Rattle.std.specs.Prelude.{Bool, None, Some, ◌||◌, false, is_some}
use Rattle.std.proofs.{Common.{◌≡◌, refl, sym, ap, ◌∙◌, ℕ, ◌+◌, true, nat_lt, arith}, lemmas.Bool.Decides.nat_tests}
use Rattle.dr_entry.proofs.BoolFacts.{together}
use Rattle.dr_machine.specs.declared.{event.Act.TheVariants.Beat, step.Step.TheVariants.{Append, Do}}
use Rattle.dr_words.specs.declared.column.TheConstants.{LOGGED_COLUMN}
use Rattle.dr_rows.specs.Words.{own}
use Rattle.dr_program.specs.{Form.IsRunningMember, Replica.{appended, is_inside}}
use Rattle.dr_program.specs.Running.{Running, after_step, applies, columns, crashes_now, goes, members, next_step, settled, step_at, took}
use Rattle.dr_program.specs.{Schedule.is_between_turns, Turn.{is_beat, part_of}, declared.place.{Part.Part, Place.Place}}
use Rattle.dr_program.specs.declared.place.Part.TheVariants as parts
use Rattle.dr_program.proofs.{Order.append_next, Parts.begin, RunningPrograms.{in_view, stays}, Search.beat_test}
use Rattle.dr_program.proofs.StepsAt.{push_either, vote_either}

-- entries are appended at their own part
entry_at : (r : Running) (part : Part) (i c : ℕ) → step_at r part i c ≡ Append → part ≡ parts.Append
entry_at r parts.Append i c is = refl
entry_at r parts.Look i c is = absurd (cc (is))
entry_at r parts.Vote i c is =
    absurd (vote_either (λ s. s ≡ Append → ⊥) r.failed _ (λ e. cc (e)) (λ why e. cc (e)) is)
entry_at r parts.Push i c is =
    absurd (push_either (λ s. s ≡ Append → ⊥) (crashes_now r) i c (λ e. cc (e)) (λ e. cc (e)) is)
entry_at r part i c is = absurd (cc (is))

-- the member once it has logged an entry
abbrev pub logged_one : Running → Running
logged_one r = record r { replica = appended r.replica; place = begin 8 }

pub to_publish : (r : Running) → IsRunningMember r → r.replica.end ≡ None → next_step r ≡ Append
    → after_step 0 r ≡ logged_one r
to_publish r form none is =
    ap (λ s. settled (took 0 r s)) is
    ∙ ap (λ (p : Place). settled (record r { replica = appended r.replica; place = p }))
    (ap (λ part. goes (members r) (columns r) part r.place) at
    ∙ append_next (members r) (columns r) r.place form.place at)
    ∙ sym (stays (logged_one r) publishes)
  where
    at : part_of r.place ≡ parts.Append
    at = entry_at r (part_of r.place) r.place.row r.place.column is

    inside : is_inside r.replica ≡ true
    inside = in_view r form none Append is refl

    publishes : applies (logged_one r) (begin 8) ≡ true
    publishes = together (is_inside r.replica) (nat_lt (own r.replica.rows LOGGED_COLUMN) (r.replica.logged + 1))
        inside (grind (arith, nat_tests, form.replica.published))

-- whoever is not to begin a turn stands amid one
amid_at : (r : Running) (part : Part) (i c : ℕ) → (step_at r part i c ≡ Do Beat → ⊥) → is_beat part ≡ false
amid_at r part i c other = by (is_beat part) refl
  where
    by : (b : Bool) → is_beat part ≡ b → is_beat part ≡ false
    by false e = e
    by true e = absurd (other (ap (λ x. step_at r x i c) (beat_test part e)))

pub amid : (r : Running) → r.replica.end ≡ None → (next_step r ≡ Do Beat → ⊥) → is_between_turns (Some r) ≡ false
amid r none other = ap (λ o. is_some o || is_beat (part_of r.place)) none
    ∙ amid_at r (part_of r.place) r.place.row r.place.column other
