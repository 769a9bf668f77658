use Rattle.std.proofs.Common.{rules, arith}
use Rattle.dr_entry.proofs.RoundTrip.{accepted}
use Rattle.dr_entry.proofs.reading.decode.Goals as goal

pub returns-in-1-clause-accepted : goal.returns-in-1-clause-accepted
returns-in-1-clause-accepted c =
    accepted c.args.from.now c.view_from.result (λ i. omega (arith, c.type_inv.from i)) (search rules)

pub returns-in-2-clause-accepted : goal.returns-in-2-clause-accepted
returns-in-2-clause-accepted c =
    accepted c.args.from.now c.message_from.result (λ i. omega (arith, c.type_inv.from i)) (search rules)

pub returns-in-3-clause-accepted : goal.returns-in-3-clause-accepted
returns-in-3-clause-accepted c =
    accepted c.args.from.now c.vote_from.result (λ i. omega (arith, c.type_inv.from i)) (search rules)

pub returns-in-4-clause-accepted : goal.returns-in-4-clause-accepted
returns-in-4-clause-accepted c =
    accepted c.args.from.now c.age_vote_from.result (λ i. omega (arith, c.type_inv.from i)) (search rules)

pub returns-in-5-clause-accepted : goal.returns-in-5-clause-accepted
returns-in-5-clause-accepted c =
    accepted c.args.from.now c.cut_from.result (λ i. omega (arith, c.type_inv.from i)) (search rules)
