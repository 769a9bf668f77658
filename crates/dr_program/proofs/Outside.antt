-- Members that are none of their view: no append of one has failed, and it ends by a fault alone.
use Rattle.std.{specs.Prelude.{None, Some, Option, option_map}, proofs.lemmas.{Bool.and_parts, Option.same_Some}}
use Rattle.std.proofs.Common.{◌≡◌, false, ℕ, arith, ◌+◌, true, refl, sym, ap, ◌∙◌, Bool, subst, ◌||◌, List}
use Rattle.dr_entry.specs.declared.end.End.TheVariants as ends
use Rattle.dr_entry.specs.declared.{end.End.End, entry.Entry.Entry}
use Rattle.dr_history.specs.Members.{has}
use Rattle.dr_machine.specs.{Group.Group, Guards.IsFault, declared.step.Step.{Step, TheVariants.Do}}
use Rattle.dr_machine.proofs.Ends.{IsFaulty}
use Rattle.dr_program.{specs.Acts.may, proofs.{Deeds.due_allowed, Parts.ends_view, Runs.joins_outside}}
use Rattle.dr_program.{specs.Form.{HasForm, IsRunningMember}, proofs.{Fixed.{Told, step_told}, Present.present_map}}
use Rattle.dr_program.specs.{Presence.present_at, Steps.{stepped, allows, IsAppend, is_outside_step, allows_inside}}
use Rattle.dr_program.specs.{Program.{Program, begun_program}, declared.{outcome.LogWhy.LogWhy, setup.Setup.Setup}}
use Rattle.dr_program.{specs.Replica.{is_inside, Replica, me, is_fault}, proofs.Search.{settle_only, take_leaves}}
use Rattle.dr_program.specs.Running.{Running, after_step, next_step, took, broken_off, AsksForLetter, settled, took_letter, begun_running}
use Rattle.dr_machine.specs.declared.event.Act.TheVariants as acts

abbrev pub IsApart : Running → Type 0
IsApart r = is_inside r.replica ≡ false → (r.failed ≡ None) × IsFaulty r.replica.end

-- it is so with every member
abbrev pub AreApart : Program → Type 0
AreApart p = (m : ℕ) (r : Running) → present_at p.members m ≡ Some r → IsApart r

members_stay : (word : ℕ) (r : Replica) (s : Step) → ends_view s ≡ false → (stepped word r s).members ≡ r.members
members_stay word r s stays = grind (arith, stays)

view_ends : (word : ℕ) (r : Replica) (s : Step) → ends_view s ≡ true → (stepped word r s).view ≡ r.view + 1
view_ends word r s ends = grind (arith, ends)

-- who is none of its view behind a step was none of it before
was_outside : (word : ℕ) (r : Replica) (s : Step) → HasForm (stepped word r s)
    → is_inside (stepped word r s) ≡ false → is_inside r ≡ false
was_outside word r s form outside = by (ends_view s) refl
  where
    by : (b : Bool) → ends_view s ≡ b → is_inside r ≡ false
    by true ends = absurd (omega (arith, view_ends word r s ends, (form.outside outside).first))
    by false stays = ap (has r.members) (ap (λ (t : Told). t.number) (sym (step_told word r s)))
        ∙ ap (λ mask. has mask (me (stepped word r s))) (sym (members_stay word r s stays)) ∙ outside

fault_so : (end : End) → is_fault end ≡ true → IsFault end
fault_so ends.Crashed e = tt
fault_so ends.DiskFault e = tt
fault_so (ends.LogFull len) e = tt
fault_so (ends.Spent turns) e = tt
fault_so end e = absurd (cc e)

-- what it may do ends it by a fault alone
outside_fault : (word : ℕ) (r : Replica) (s : Step) → allows r s ≡ true → is_inside r ≡ false → r.end ≡ None
    → IsFaulty (stepped word r s).end
outside_fault word r (Do (acts.Crash end)) allowed outside none = fault_so end allowed
outside_fault word r (Do acts.Beat) allowed outside none = subst IsFaulty (sym none) tt
outside_fault word r (Do a) allowed outside none =
    absurd (cc ((and_parts (is_inside r) (may r a) allowed).0, outside))
outside_fault word r s allowed outside none = subst IsFaulty (sym none) tt

pub takes : (word : ℕ) (r : Running) → IsRunningMember r → r.replica.end ≡ None
    → HasForm (stepped word r.replica (next_step r)) → IsApart r → IsApart (after_step word r)
takes word r member none form is outside = (
  ap (λ (x : Running). x.failed) only ∙ (is before).0,
  subst IsFaulty (ap (λ (x : Running). x.replica.end) (sym only))
      (outside_fault word r.replica (next_step r) (due_allowed r (member.due none)) before none),
)
  where
    only : after_step word r ≡ record (took word r (next_step r)) { place = (after_step word r).place }
    only = settle_only _ (took word r (next_step r))

    before : is_inside r.replica ≡ false
    before = was_outside word r.replica (next_step r) form
        (sym (ap (λ (x : Running). is_inside x.replica) only) ∙ outside)

-- an append is for a member of its view
no_outside_step : (s : Step) → IsAppend s → is_outside_step s ≡ false
no_outside_step s is = grind (arith, is)

append_inside : (r : Replica) (s : Step) → IsAppend s → allows r s ≡ true → is_inside r ≡ true
append_inside r s is allowed = sym (ap (λ b. b || is_inside r) (no_outside_step s is))
    ∙ (and_parts (is_outside_step s || is_inside r) (allows_inside r s) allowed).0

pub breaks : (why : LogWhy) (r : Running) → IsRunningMember r → r.replica.end ≡ None → IsAppend (next_step r)
    → IsApart (broken_off why r)
breaks why r member none due outside = absurd (cc (
  append_inside r.replica (next_step r) due (due_allowed r (member.due none)),
  outside,
))

pub takes_letter : (letter : Option (List Entry)) (r : Running) → IsRunningMember r → AsksForLetter r → IsApart r
    → IsApart (settled (took_letter letter r))
takes_letter letter r member asks is outside = (
  (take_leaves letter r).1 ∙ (is before).0,
  subst IsFaulty (sym ((take_leaves letter r).0 ∙ asks.unended)) tt,
)
  where
    before : is_inside r.replica ≡ false
    before = joins_outside r.replica (next_step r) asks.due (due_allowed r (member.due asks.unended))

pub begun_apart : (g : Group) (setups : List (Option Setup)) → AreApart (begun_program g setups)
begun_apart g setups m r there = by (present_at setups m) (sym (present_map begun_running setups m) ∙ there)
  where
    begun : (s : Setup) → IsApart (begun_running s)
    begun s outside = (refl, tt)

    by : (o : Option Setup) → option_map begun_running o ≡ Some r → IsApart r
    by None same = absurd (cc)
    by (Some s) same = subst IsApart (same_Some (begun_running s) r same) (begun s)
