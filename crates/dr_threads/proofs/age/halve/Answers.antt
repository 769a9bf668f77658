use Rattle.std.proofs.Common.{◌/◌, sym, subst, take, drop}
use Rattle.dr_threads.{specs.Logs.AreFor, proofs.Halves.{for_drop, for_take}}
use Rattle.dr_threads.proofs.age.halve.Goals as goal

pub returns-in-Ok-split_off-clause-logs : goal.returns-in-Ok-split_off-clause-logs
returns-in-Ok-split_off-clause-logs g c =
    let n = c.len-half.result / 2 in
    let logs = c.args.logs.items in
    let members = c.args.hand.members in
    let halves = c.in-Ok.ensures.members in (
      subst (λ l. AreFor l c.in-Ok.halves.0.members) (sym c.in-Ok-split_off.ensures.items)
          (subst (AreFor (take n logs)) (sym halves.0) (for_take n logs members c.requires.logs)),
      subst (λ l. AreFor l c.in-Ok.halves.1.members) (sym c.in-Ok-split_off.ensures.tail)
          (subst (AreFor (drop n logs)) (sym halves.1) (for_drop n logs members c.requires.logs)),
    )
