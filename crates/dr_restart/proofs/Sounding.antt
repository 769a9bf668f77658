-- A start that logs make is one that an age may start with.
use Rattle.std.{specs.Prelude.Some, proofs.lemmas.Option.{none-some, slice_get-get_or}}
use Rattle.std.proofs.Common.{ap, sym, ◌∙◌, ◌⊎◌, inl, inr, subst, slice_get, ◌≡◌, ℕ, ◌<◌, arith, length, Contains, nat_lt, true, refl, ◌^◌, List, All, take, get_or}
use Rattle.dr_entry.specs.{Spelling.IsValidEntry, declared.entry.Entry.{Entry, TheVariants.View}}
use Rattle.dr_history.specs.{History.{GroupView, view_of}, Members.has, Restarting.AllStand}
use Rattle.dr_history.specs.{Soundness.{whole_roster, Sound}, declared.opening.Opening.Opening}
use Rattle.dr_history.proofs.{Bits.{has_ones, has_zero}, LastViews.last-view, Standing.all-by}
use Rattle.dr_script.specs.{Ranges.HasGroupRanges, declared.script.Script.Script}
use Rattle.dr_machine.specs.Group.{IsGroup}
use Rattle.dr_restart.specs.Choosing.{AreOfHolders, AreOfNobody, Handed, IsChosenStart, HasQuorum, handed_of, IsAgeAfter}
use Rattle.dr_restart.specs.{Groups.{first_group_of, group_of}, Refusing.AreEnough, Trying.opened_by}
use Rattle.dr_restart.specs.declared.{lists.LogLists.LogLists, start.Start.Start}
use Rattle.dr_restart.proofs.{Groups.{first_group, valid_entry}, Handing.{handed-part, quorum-meets}}

-- all entries of the start may stand
start-stands : (o : Opening) (h : Handed) (start : Start) → IsChosenStart o h start → AllStand o start.entries
start-stands o h start c = by c.entries
  where
    by : AreOfHolders o h start.entries ⊎ AreOfNobody h start.entries → AllStand o start.entries
    by (inl held) = subst (AllStand o) (sym held.held.4) (c.sound held.held.0 held.held.1 held.held.2)
    by (inr nobody) = λ i e at. absurd (none-some e (ap (λ es. slice_get es i) (sym nobody.none) ∙ at))

-- its last View is of an earlier age
start-later : (o : Opening) (h : Handed) (start : Start) (v : GroupView) → IsChosenStart o h start
    → view_of start.entries ≡ Some v → v.age < start.age
start-later o h start v c e = by c.entries (last-view start.entries v e)
  where
    by : AreOfHolders o h start.entries ⊎ AreOfNobody h start.entries
        → (members : ℕ) × Contains start.entries (View v.age v.number members) → v.age < start.age
    by (inl held) (members, there) = c.age.above held.held.0 v.age held.held.1 held.held.2
        (inl (v.number, members, subst (λ es. Contains es (View v.age v.number members)) held.held.4 there))
    by (inr nobody) (members, there) = absurd (omega (arith, there.1, ap length nobody.none))

-- who is there is of the roster
start-present : (o : Opening) (h : Handed) (start : Start) (m : ℕ) → IsChosenStart o h start
    → has start.present m ≡ true → m < length o.messages
start-present o h start m c e = by (has_ones (length o.messages) m)
    (handed-part h (whole_roster o) m (subst (λ mask. has mask m ≡ true) c.present e))
  where
    by : has (whole_roster o) m ≡ nat_lt m (length o.messages) → has (whole_roster o) m ≡ true → m < length o.messages
    by is there = grind (arith, is, there)

-- where more than half of the roster have handed in their logs, somebody has
pub handed-some : (o : Opening) (h : Handed) → HasQuorum h (whole_roster o) → 0 < handed_of h (whole_roster o)
handed-some o h quorum = nonzero (handed_of h (whole_roster o)) t.0 t.2
  where
    t : (m : ℕ) × (has (whole_roster o) m ≡ true) × (has (handed_of h (whole_roster o)) m ≡ true)
        × (log : LogLists) × (h m ≡ Some log)
    t = quorum-meets h (whole_roster o) (handed_of h (whole_roster o)) quorum (handed-part h (whole_roster o)) quorum

    nonzero : (mask i : ℕ) → has mask i ≡ true → 0 < mask
    nonzero mask i h = grind (arith, h, has_zero i)

pub choice-sound : (o : Opening) (h : Handed) (start : Start) → IsChosenStart o h start → Sound (opened_by o start)
choice-sound o h start c = record {
  entries = all-by o (opened_by o start) start.entries refl (start-stands o h start c);
  later = λ v e. start-later o h start v c e;
  members = record { some = c.some; within = λ m e. start-present o h start m c (c.members m e) };
  part = c.members;
  present = λ m e. start-present o h start m c e;
}

-- with a script it makes a group
pub choice-group : (script : Script) (h : Handed) (start : Start) → HasGroupRanges script
    → IsChosenStart (first_group_of script).opening h start → IsGroup (group_of script start)
choice-group script h start ranges c = record {
  some_member = first.some_member;
  most_members = first.most_members;
  some_slot = first.some_slot;
  most_slots = first.most_slots;
  messages = first.messages;
  short = first.short;
  bytes = first.bytes;
  age = c.left;
  sound = choice-sound (first_group_of script).opening h start c;
}
  where
    first : IsGroup (first_group_of script)
    first = first_group script ranges

-- a start is chosen that has what the steps have found
pub chosen_start : (o : Opening) (h : Handed) (start : Start) (es : List Entry) → AreEnough o h
    → AreOfHolders o h es ⊎ AreOfNobody h es → start.entries ≡ es → IsAgeAfter h start.age → start.age < 2 ^ 16
    → start.present ≡ handed_of h (whole_roster o) → start.members ≡ start.present → IsChosenStart o h start
chosen_start o h start es enough chosen same age left present members = record {
  sound = enough.0;
  quorum = enough.1;
  entries = subst (λ x. AreOfHolders o h x ⊎ AreOfNobody h x) (sym same) chosen;
  age = age;
  left = left;
  present = present;
  members = λ m there. subst (λ mask. has mask m ≡ true) members there;
  some = subst (λ mask. 0 < mask) (sym (members ∙ present)) (handed-some o h enough.1);
}

pub chosen_valid : (script : Script) (h : Handed) (start : Start) → HasGroupRanges script
    → IsChosenStart (first_group_of script).opening h start → All IsValidEntry start.entries
chosen_valid script h start ranges c i d l = valid_entry script start (take i start.entries)
    (get_or start.entries i d) ranges ((choice-sound (first_group_of script).opening h start c).entries i
    (get_or start.entries i d) (slice_get-get_or start.entries i d l))
