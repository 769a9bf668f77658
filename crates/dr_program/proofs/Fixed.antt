-- What no step changes of a replica.
use Rattle.dr_entry.specs.declared.entry.Entry.{Entry}
use Rattle.std.specs.Prelude.{Option, None, Some}
use Rattle.std.proofs.Common.{◌≡◌, refl, ap, sym, subst, ◌∙◌, ℕ, ◌+◌, ◌*◌, ◌<◌, List, length, slice_index, arith}
use Rattle.dr_machine.specs.{Group.{Group, banks, roster}, declared.step.Step.Step}
use Rattle.dr_program.specs.{Form.IsOf, Running.{Running, took_letter, next_step, took, columns, members, after_step}}
use Rattle.dr_program.specs.{Program.{after_deed, next_sight, appended_as}, Replica.{Replica, greatest, joined, me}}
use Rattle.dr_program.specs.Steps.{stepped}
use Rattle.dr_program.{specs.Turn.places_in, proofs.{OpeningForm.of_settled, Runs.after_either, Search.settled_same}}
use Rattle.dr_program.{specs.declared.{outcome.Outcome.Outcome, place.TheConstants.TURN}, proofs.Deeds.settle_replica}
use Rattle.dr_program.specs.declared.outcome.Outcome.TheVariants as outcomes

-- what a replica was told as its age opened
pub record Told : Type 0 where
  pub number : ℕ
  pub age : ℕ
  pub roster : ℕ
  pub window : ℕ
  pub banks : ℕ
  pub messages : List (List ℕ)
  pub totals : List ℕ
  pub room : ℕ
  pub late : ℕ

abbrev pub told : Replica → Told
told r = record {
  number = me r;
  age = r.age;
  roster = r.roster;
  window = r.window;
  banks = r.banks;
  messages = r.messages;
  totals = r.totals;
  room = r.room;
  late = r.late;
}

-- a step leaves it, whatever it sees
pub step_told : (word : ℕ) (r : Replica) (s : Step) → told (stepped word r s) ≡ told r
step_told word r s = grind arith

-- nor does a join
pub join_told : (r : Replica) (letter : List Entry) → told (joined r letter) ≡ told r
join_told r letter = refl

-- a replica that was told the same is still that of the member
pub of_told : (g : Group) (m : ℕ) (r q : Replica) → told q ≡ told r → IsOf g m r → IsOf g m q
of_told g m r q same of = record {
  present = of.present;
  number = ap (λ (t : Told). t.number) same ∙ of.number;
  age = ap (λ (t : Told). t.age) same ∙ of.age;
  members = ap (λ (t : Told). t.roster) same ∙ of.members;
  window = ap (λ (t : Told). t.window) same ∙ of.window;
  banks = ap (λ (t : Told). t.banks) same ∙ of.banks;
  messages = ap (λ (t : Told). t.messages) same ∙ of.messages;
  totals = λ s. ap (λ (t : Told). slice_index t.totals s) same ∙ of.totals s;
  late = ap (λ (t : Told). t.late) same ∙ of.late;
  room = subst (λ (t : Told). length g.opening.start + banks g + greatest t.totals * roster g < t.room)
      (sym same) of.room;
}

pub took_told : (letter : Option (List Entry)) (r : Running) → told (took_letter letter r).replica ≡ told r.replica
took_told None r = refl
took_told (Some letter) r = join_told r.replica letter

-- a deed leaves the member the one that it was, however its append went
pub of_deed : (g : Group) (m : ℕ) (table : List ℕ) (letter : Option (List Entry)) (o : Outcome) (r : Running)
    → IsOf g m r.replica → IsOf g m (after_deed (next_sight table r) letter o r (next_step r)).replica
of_deed g m table letter o r of = after_either (λ (x : Running). IsOf g m x.replica) table letter o r (next_step r)
    (of_settled g m (took (next_sight table r) r (next_step r)) (of_told g m r.replica
    (stepped (next_sight table r) r.replica (next_step r))
    (step_told (next_sight table r) r.replica (next_step r)) of))
    (λ why due. of) (λ join. of_settled g m (took_letter letter r) (taken letter))
  where
    taken : (letter : Option (List Entry)) → IsOf g m (took_letter letter r).replica
    taken None = of
    taken (Some es) = of_told g m r.replica (joined r.replica es) (join_told r.replica es) of

pub deed_told : (table : List ℕ) (letter : Option (List Entry)) (o : Outcome) (r : Running)
    → told (after_deed (next_sight table r) letter o r (next_step r)).replica ≡ told r.replica
deed_told table letter o r = after_either (λ x. told x.replica ≡ told r.replica) table letter o r (next_step r)
    (ap (λ (x : Running). told x.replica) (settled_same (next_sight table r) r)
    ∙ step_told (next_sight table r) r.replica (next_step r)) (λ why due. refl)
    (λ due. ap told (settle_replica (places_in (members (took_letter letter r)) (columns (took_letter letter r)) TURN)
    (took_letter letter r)) ∙ took_told letter r)

pub after_told : (word : ℕ) (r : Running) → told (after_step word r).replica ≡ told r.replica
after_told word r = ap told (settle_replica _ (took word r (next_step r))) ∙ step_told word r.replica (next_step r)

pub appended_told : (o : Outcome) (r : Running) → told (appended_as o r).replica ≡ told r.replica
appended_told outcomes.Ok r = after_told 0 r
appended_told (outcomes.Failed why) r = refl
