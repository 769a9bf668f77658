use Rattle.std.{specs.{List.{range_with_len, filter}, Prelude.Option}, proofs.Common.{◌≡◌, ◌≤◌, ℕ, List, length}}
use Rattle.dr_entry.specs.declared.entry.Entry.{Entry}
use Rattle.dr_program.proofs.Programs.{goes}
use Rattle.dr_sim.specs.Sound.{program_over}
use Rattle.dr_sim.proofs.seeded.going.Given as goal

abbrev pub invariant-loop-m : goal.invariant-loop-m
invariant-loop-m l = record {
  found : (words : List ℕ) (letters : List (Option (List Entry)))
      → l.going.items ≡ filter (goes (program_over l.members words letters)) (range_with_len 0 l.m);
  few : length l.going.items ≤ l.m;
}
