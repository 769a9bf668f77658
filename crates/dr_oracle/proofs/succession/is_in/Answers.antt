use Rattle.std.proofs.Common.{arith, tests}
use Rattle.dr_history.proofs.Masks.{none_above}
use Rattle.dr_oracle.proofs.succession.is_in.Goals as goal

pub returns-else-number : goal.returns-else-number
returns-else-number c =
    grind (arith, tests, none_above c.args.members c.args.number (omega arith) c.if-number.false, c.if-number.false)
