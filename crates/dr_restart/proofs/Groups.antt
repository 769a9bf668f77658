-- A script and a first start make a group.
use Rattle.std.{specs.Prelude.All, proofs.Common.{◌≡◌, true, sym, ap, ℕ, ◌-◌, ◌^◌, ◌<◌, ◌≤◌, List, [], length, arith}}
use Rattle.std.proofs.lemmas.Option.{slice_get_within, none-some}
use Rattle.dr_entry.specs.{Spelling.IsValidEntry, declared.entry.Entry.{Entry, TheVariants.{View, Msg}}}
use Rattle.dr_entry.proofs.{Bits.few_at, ListParts.in-nothing, ListPlaces.{each_at, byte_at}, NumberFacts.above_whole}
use Rattle.dr_script.{specs.{Ranges.HasGroupRanges, declared.script.Script.Script}, proofs.Ranges.sender_small}
use Rattle.dr_history.{specs.{Members.has, Soundness.MayStand}, proofs.{Bits.has_ones, Histories.no_view}}
use Rattle.dr_machine.specs.Group.{IsGroup, AllPresent}
use Rattle.dr_restart.specs.{Groups.{first_group_of, group_of}, Left.IsLeftByOther, Trying.opened_by}
use Rattle.dr_restart.{specs.declared.start.Start.Start, proofs.Trying.nothing_on}

-- a script is a group in its first age
pub first_group : (script : Script) → HasGroupRanges script → IsGroup (first_group_of script)
first_group script ranges = record {
  some_member = omega (arith, ranges.some_member, ranges.lists);
  most_members = omega (arith, ranges.most_members, ranges.lists);
  some_slot = ranges.some_slot;
  most_slots = ranges.most_slots;
  messages = λ s. few_at script.messages s 4096 ranges.few;
  short = λ s i bytes e. each_at (λ b. length b ≤ 64) script.messages s i bytes ranges.short e;
  bytes = λ s i bytes e k. byte_at bytes k
      (each_at (All (λ byte. byte < 256)) script.messages s i bytes ranges.bytes e);
  age = omega arith;
  sound = record {
    entries = λ i e there. absurd (omega (arith, slice_get_within [] i e there));
    later = λ v is. absurd (no_view v is);
    members = record { some = above_whole script.members ranges.some_member; within = within };
    part = λ m h. h;
    present = within;
  };
}
  where
    within : (m : ℕ) → has (2 ^ script.members - 1) m ≡ true → m < length script.messages
    within m h = grind (arith, has_ones script.members m, h, ranges.lists)

-- what may stand is valid
pub valid_entry : (script : Script) (start : Start) (before : List Entry) (e : Entry) → HasGroupRanges script
    → MayStand (opened_by (first_group_of script).opening start) before e → IsValidEntry e
valid_entry script start before (View age number members) ranges stands = stands.0.some
valid_entry script start before (Msg s i b) ranges stands =
    (sender_small script s i b ranges stands.2, (first_group script ranges).short s i b stands.2)

-- nobody is absent in the first age of a script
pub all_present : (script : Script) → length script.messages ≡ script.members → AllPresent (first_group_of script)
all_present script lists = ap (λ n. 2 ^ n - 1) (sym lists)

pub nothing_left : (script : Script) (start : Start) → IsLeftByOther (group_of script start) nothing_on
nothing_left script start = record {
  stands = λ i e at. absurd (none-some e at);
  earlier = record {
    views = λ a number members c. absurd (in-nothing (View a number members) c);
    votes = λ x c. absurd (in-nothing x c);
  };
}
