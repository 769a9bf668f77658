use Rattle.std.proofs.Common.{◌≡◌, ◌++◌, take, string_bytes}
use Rattle.dr_commands.specs.StoreLines.{values_text}
use Rattle.dr_commands.proofs.store.values.push_members.Given as goal

abbrev pub invariant-loop-number : goal.invariant-loop-number
invariant-loop-number l =
    string_bytes l.out ≡ string_bytes l.initial.out ++ values_text l.key l.version (take l.number l.members)
