use Rattle.std.proofs.Common.{◌≡◌, ◌++◌, take, string_bytes}
use Rattle.dr_commands.specs.LiveLines.{senders_text}
use Rattle.dr_commands.proofs.live.lines.push_senders.Given as goal

abbrev pub invariant-loop-number : goal.invariant-loop-number
invariant-loop-number l =
    string_bytes l.out ≡ string_bytes l.initial.out ++ senders_text (take l.number l.pushed) l.history
