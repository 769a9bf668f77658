use Rattle.std.proofs.Common.{◌≡◌, ◌++◌, string_bytes, take}
use Rattle.dr_summary.specs.Objects.{entry_objects}
use Rattle.dr_summary.proofs.objects.push_entries.Given as goal

abbrev pub invariant-loop-place : goal.invariant-loop-place
invariant-loop-place l =
    string_bytes l.out ≡ string_bytes l.initial.out ++ entry_objects l.first (take l.place l.entries)
