-- A script and a first start of a part of its roster make a group.
use Rattle.std.proofs.{Common.{◌≡◌, ℕ, ◌<◌, [], length, arith, true}, lemmas.Option.slice_get_within}
use Rattle.dr_history.specs.Members.{has}
use Rattle.dr_machine.specs.Group.{IsGroup}
use Rattle.dr_restart.{specs.Groups.{first_group_of, group_of}, proofs.Groups.first_group}
use Rattle.dr_script.specs.{Ranges.HasGroupRanges, declared.script.Script.Script}

pub part_group : (script : Script) (first present : ℕ) → HasGroupRanges script → 0 < first
    → ((m : ℕ) → has first m ≡ true → has present m ≡ true) → ((m : ℕ) → has present m ≡ true → m < script.members)
    → IsGroup (group_of script (record { age = 0; members = first; present = present; entries = [] }))
part_group script first present ranges some part within =
    let whole : IsGroup (first_group_of script) = first_group script ranges in
    record {
      some_member = whole.some_member;
      most_members = whole.most_members;
      some_slot = whole.some_slot;
      most_slots = whole.most_slots;
      messages = whole.messages;
      short = whole.short;
      bytes = whole.bytes;
      age = whole.age;
      sound = record {
        entries = λ i e there. absurd (omega (arith, slice_get_within [] i e there));
        later = whole.sound.later;
        members = record { some = some; within = λ m h. below m (part m h) };
        part = part;
        present = below;
      };
    }
  where
    below : (m : ℕ) → has present m ≡ true → m < length script.messages
    below m h = omega (arith, within m h, ranges.lists)
