-- A group stays one where some of its members are late.
use Rattle.std.proofs.{Common.{◌≡◌, true, ℕ, ◌-◌, ◌^◌, ◌≤◌, [], arith}, lemmas.Option.slice_get_within}
use Rattle.dr_entry.proofs.NumberFacts.{above_whole}
use Rattle.dr_script.specs.{Ranges.HasGroupRanges, declared.script.Script.Script}
use Rattle.dr_history.{specs.Members.has, proofs.Bits.has_ones}
use Rattle.dr_machine.specs.Group.{IsGroup}
use Rattle.dr_restart.specs.Groups.{first_group_of, first_start_of, group_of}

-- the first members make a view, and the others may be late
pub late_group : (script : Script) (k : ℕ) → HasGroupRanges script → IsGroup (first_group_of script)
    → 1 ≤ k → k ≤ script.members → IsGroup (group_of script (record (first_start_of script) { members = 2 ^ k - 1 }))
late_group script k ranges g some most = record {
  some_member = g.some_member;
  most_members = g.most_members;
  some_slot = g.some_slot;
  most_slots = g.most_slots;
  messages = g.messages;
  short = g.short;
  bytes = g.bytes;
  age = g.age;
  sound = record {
    entries = λ i e there. absurd (omega (arith, slice_get_within [] i e there));
    later = g.sound.later;
    members = record { some = above_whole k some; within = λ m h. g.sound.present m (whole m h) };
    part = whole;
    present = g.sound.present;
  };
}
  where
    whole : (m : ℕ) → has (2 ^ k - 1) m ≡ true → has (2 ^ script.members - 1) m ≡ true
    whole m h = grind (arith, has_ones k m, has_ones script.members m, h, most)
