use Rattle.std.proofs.Common.{string_bytes}
use Rattle.dr_text.specs.Printed.{ArePrinted}
use Rattle.dr_text.proofs.printed.Printed.of.Given as goal

abbrev pub invariant-loop-entry : goal.invariant-loop-entry
invariant-loop-entry l = ArePrinted l.entries l.entry-index (string_bytes l.text) l.ends.items
