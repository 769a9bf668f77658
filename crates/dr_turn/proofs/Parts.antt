-- What each part of a turn and each act is: whether it ends a view or the member, which task it lowers, and
-- where the member goes on.
use Rattle.std.{specs.Prelude.{None, slice_index_or}, proofs.lemmas.Bool.and_parts}
use Rattle.std.proofs.Common.{◌≡◌, refl, ap, ℕ, ◌+◌, ◌<◌, ◌≤◌, ◌||◌, Bool, true, false, length, arith, ◌^◌}
use Rattle.dr_entry.specs.declared.end.End.TheVariants as ends
use Rattle.dr_machine.{specs.declared.step.Step.Step, proofs.{Events.least, Worlds.{one_act, one_turn}}}
use Rattle.dr_machine.specs.declared.event.Act.TheVariants as acts
use Rattle.dr_machine.specs.declared.step.Step.TheVariants as steps
use Rattle.dr_program.{specs.Acts.taken, proofs.{Fixed.{Told, step_told}, Replicas.risen}}
use Rattle.dr_program.specs.{Form.HasForm, Steps.{NoWordFell, allows, allows_inside, is_outside_step, stepped}}
use Rattle.dr_program.{specs.Replica.{Replica, is_inside}, proofs.Parts.{ends_view, view_stays, no_task, begins_turn}}
use Rattle.dr_turn.{specs.Work.{tasks, work}, proofs.Fewer.{NoneRises, sum_falls, sum_keeps}}
use Rattle.dr_turn.proofs.Tasks.{accepted_less, decided_less, delivered_less, finished_less, gave_less, marked_less, none_rises, proposed_less, published_less, put_less, received_less, reported_less, suspected_less, views_keep}

-- ---- the task that an act lowers

abbrev pub Lowers : Step → ℕ → ℕ → Type 0
Lowers s old new = new + least s ≤ old

-- the task with this number is less by so much
less_by : (word : ℕ) (r : Replica) (s : Step) → ends_view s ≡ false → NoneRises r (stepped word r s) tasks
    → (i by : ℕ) → i < length tasks
    → slice_index_or tasks i no_task (stepped word r s) + by ≤ slice_index_or tasks i no_task r
    → work (stepped word r s) + by ≤ work r
unfolding work
less_by word r s stays none i by within less = omega (
  arith,
  views_keep word r s stays,
  sum_falls r (stepped word r s) tasks i by no_task none within less,
)

less : (word : ℕ) (r : Replica) (s : Step) → ends_view s ≡ false → NoneRises r (stepped word r s) tasks → (i : ℕ)
    → i < length tasks → slice_index_or tasks i no_task (stepped word r s) < slice_index_or tasks i no_task r
    → work (stepped word r s) + 1 ≤ work r
less word r s stays none i within l = less_by word r s stays none i 1 within (omega (arith, l))

no_more : (word : ℕ) (r : Replica) (s : Step) → ends_view s ≡ false → NoneRises r (stepped word r s) tasks
    → work (stepped word r s) + 0 ≤ work r
unfolding work
no_more word r s stays none = omega (arith, views_keep word r s stays, sum_keeps r (stepped word r s) tasks none)

lowers_task : (word : ℕ) (r : Replica) (s : Step) → ends_view s ≡ false → HasForm r → allows_inside r s ≡ true
    → HasForm (stepped word r s) → NoneRises r (stepped word r s) tasks → Lowers s (work r) (work (stepped word r s))
lowers_task word r (steps.Do acts.Beat) stays f may form none = no_more word r (steps.Do acts.Beat) stays none
lowers_task word r (steps.Do (acts.Receive s)) stays f may form none =
    less word r (steps.Do (acts.Receive s)) stays none 0 (omega arith) (received_less r s f may form)
lowers_task word r (steps.Do acts.Send) stays f may form none =
    less word r (steps.Do acts.Send) stays none 0 (omega arith) (put_less r _ _ f form)
lowers_task word r (steps.Do acts.Null) stays f may form none =
    less word r (steps.Do acts.Null) stays none 0 (omega arith) (put_less r _ _ f form)
lowers_task word r (steps.Do acts.Deliver) stays f may form none =
    less word r (steps.Do acts.Deliver) stays none 1 (omega arith) (delivered_less r may)
lowers_task word r (steps.Do acts.Publish) stays f may form none =
    less_by word r (steps.Do acts.Publish) stays none 2 2 (omega arith) (published_less r f may)
lowers_task word r (steps.Do acts.Report) stays f may form none =
    less word r (steps.Do acts.Report) stays none 3 (omega arith) (reported_less r may)
lowers_task word r (steps.Do acts.Mark) stays f may form none =
    less word r (steps.Do acts.Mark) stays none 4 (omega arith) (marked_less r f may)
lowers_task word r (steps.Do (acts.Suspect j)) stays f may form none =
    less word r (steps.Do (acts.Suspect j)) stays none 5 (omega arith) (suspected_less r j f may)
lowers_task word r (steps.Do acts.Propose) stays f may form none =
    less word r (steps.Do acts.Propose) stays none 6 (omega arith) (proposed_less r f may)
lowers_task word r (steps.Do acts.Accept) stays f may form none =
    less word r (steps.Do acts.Accept) stays none 6 (omega arith) (accepted_less r f may)
lowers_task word r (steps.Do acts.Commit) stays f may form none =
    less word r (steps.Do acts.Commit) stays none 7 (omega arith) (decided_less r may)
lowers_task word r (steps.Do acts.Finish) stays f may form none = absurd (cc stays)
lowers_task word r (steps.Do a) stays f may form none = no_more word r (steps.Do a) stays none
lowers_task word r (steps.Welcome j) stays f may form none =
    less word r (steps.Welcome j) stays none 8 (omega arith) (gave_less r j f may)
lowers_task word r s stays f may form none = no_more word r s stays none

-- the end of a view lowers it
ending_lowers : (word : ℕ) (r : Replica) (s : Step) → ends_view s ≡ true → HasForm r
    → Lowers s (work r) (work (stepped word r s))
ending_lowers word r (steps.Do acts.Finish) ends f = omega (arith, finished_less r f)
ending_lowers word r (steps.Do a) ends f = absurd (cc ends)
ending_lowers word r s ends f = absurd (cc ends)

-- an allowed step lowers the work that it does
pub lowers : (word : ℕ) (r : Replica) (s : Step) → HasForm r → allows r s ≡ true → HasForm (stepped word r s)
    → ((stepped word r s).view ≡ r.view → NoWordFell r (stepped word r s))
    → Lowers s (work r) (work (stepped word r s))
lowers word r s f may form grown = by (ends_view s) refl
  where
    inner : allows_inside r s ≡ true
    inner = (and_parts (is_outside_step s || is_inside r) (allows_inside r s) may).1

    by : (b : Bool) → ends_view s ≡ b → Lowers s (work r) (work (stepped word r s))
    by true ends = ending_lowers word r s ends f
    by false stays = lowers_task word r s stays f inner form
        (none_rises word r s stays f inner form (risen r (stepped word r s)
        (ap (λ (t : Told). t.number) (step_told word r s)) (grown (view_stays word r s stays))))

-- ---- votes

-- what a step does is paid for
pub worked_on : (word n : ℕ) (r : Replica) (s : Step) → HasForm r → allows r s ≡ true
    → HasForm (stepped word r s) → ((stepped word r s).view ≡ r.view → NoWordFell r (stepped word r s))
    → (begins_turn s ≡ true → r.turns + 1 < 2 ^ 32) → r.acts + work r ≤ n + r.turns → (stepped word r s).end ≡ None
    → (stepped word r s).acts + work (stepped word r s) ≤ n + (stepped word r s).turns
worked_on word n r (steps.Do acts.Beat) form may keeps grown turn old going = omega (
  arith,
  lowers word r (steps.Do acts.Beat) form may keeps grown,
  one_act r.acts,
  one_turn r.turns (r.turns + 1) (omega arith) (turn refl),
  old,
)
worked_on word n r (steps.Do (acts.Halt end)) form may keeps grown turn old going = absurd (cc going)
worked_on word n r (steps.Do (acts.Crash end)) form may keeps grown turn old going = absurd (cc going)
worked_on word n r (steps.Do a) form may keeps grown turn old going =
    omega (arith, lowers word r (steps.Do a) form may keeps grown, one_act r.acts, old)
worked_on word n r s form may keeps grown turn old going = omega (arith, lowers word r s form may keeps grown, old)
