use Rattle.std.proofs.Common.{◌≡◌, ◌≤◌, sym, ◌∙◌, arith, nat_lt, false}
use Rattle.dr_history.{specs.Members.has, proofs.Masks.none_above}
use Rattle.dr_check.proofs.members.is_in.Goals as goal

pub returns-else-from-lt-MAX_MEMBERS : goal.returns-else-from-lt-MAX_MEMBERS
returns-else-from-lt-MAX_MEMBERS c =
    let above : 16 ≤ c.args.s = omega (arith, c.if-from-lt-MAX_MEMBERS.false, c.from.ensures) in
    let none : has c.args.mask c.args.s ≡ false =
    none_above c.args.mask c.args.s (omega (arith, c.ranges.mask.fits)) above in
    let out : nat_lt c.from.result 16 ≡ false = grind (arith, c.if-from-lt-MAX_MEMBERS.false) in out ∙ sym none
