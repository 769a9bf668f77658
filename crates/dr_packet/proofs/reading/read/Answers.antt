use Rattle.std.proofs.Common.{arith, subst, sym, IsTrue}
use Rattle.dr_packet.specs.{Packets.IsPacket, Reading.IsSaidIn}
use Rattle.dr_packet.proofs.Parts.{body-of, form-of, group-of, one-packet, packet-of, plan-of, sum-of, zero-of}
use Rattle.dr_packet.proofs.reading.read.Goals as goal

pub returns-then-not-has_form-clause-written : goal.returns-then-not-has_form-clause-written
returns-then-not-has_form-clause-written c way says p =
    let yes : IsTrue c.has_form.result = c.has_form.ensures.1
    (form-of c.args.seal.now c.args.bytes.now way says (omega arith, omega arith) p) in
    absurd (cc (yes, c.if-not-has_form.true))

pub returns-then-not-is_summed-clause-written : goal.returns-then-not-is_summed-clause-written
returns-then-not-is_summed-clause-written c way says p =
    let yes : IsTrue c.is_summed.result = c.is_summed.ensures.1
    (sum-of c.args.seal.now c.args.bytes.now way says p) in
    absurd (cc (yes, c.if-not-is_summed.true))

pub returns-then-not-is_of_group-clause-written : goal.returns-then-not-is_of_group-clause-written
returns-then-not-is_of_group-clause-written c way says p =
    let yes : IsTrue c.is_of_group.result = c.is_of_group.ensures.1
    (group-of c.args.seal.now c.args.bytes.now way says (omega arith, omega arith) p) in
    absurd (cc (yes, c.if-not-is_of_group.true))

pub returns-then-not-is_of_plan-clause-written : goal.returns-then-not-is_of_plan-clause-written
returns-then-not-is_of_plan-clause-written c way says p =
    let yes : IsTrue c.is_of_plan.result = c.is_of_plan.ensures.1
    (plan-of c.args.seal.now c.args.bytes.now way says (omega arith, omega arith) p) in
    absurd (cc (yes, c.if-not-is_of_plan.true))

-- where something was read
read-so : (c : goal.After-way_of) → IsPacket c.args.seal.now c.args.bytes.now c.way_of.result c.in-Some.says
read-so c =
    let said = subst (IsSaidIn c.args.bytes.now) c.in-Some.is c.said_in.ensures in
    subst (λ way. IsPacket c.args.seal.now c.args.bytes.now way c.in-Some.says) (sym c.way_of.ensures)
    (packet-of c.args.seal.now c.args.bytes.now c.in-Some.says (λ i. omega (arith, c.type_inv.bytes i))
    (c.has_form.ensures.0 c.if-not-has_form.false) (c.is_summed.ensures.0 c.if-not-is_summed.false)
    (c.is_of_group.ensures.0 c.if-not-is_of_group.false) (c.is_of_plan.ensures.0 c.if-not-is_of_plan.false)
    said.0 said.1)

pub returns-in-Some-clause-packet : goal.returns-in-Some-clause-packet
returns-in-Some-clause-packet c = read-so c

pub returns-in-Some-clause-written : goal.returns-in-Some-clause-written
returns-in-Some-clause-written c way says p = one-packet c.args.seal.now c.args.bytes.now c.way_of.result way
    c.in-Some.says says (omega arith, omega arith) (read-so c) p

pub returns-in-None-clause-written : goal.returns-in-None-clause-written
returns-in-None-clause-written c way says p = (subst (IsSaidIn c.args.bytes.now) c.in-None.is c.said_in.ensures) says
    (zero-of c.args.seal.now c.args.bytes.now way says p)
    (body-of c.args.seal.now c.args.bytes.now way says (omega arith, omega arith) p)

pub returns-in-None-clause-fault : goal.returns-in-None-clause-fault
returns-in-None-clause-fault c = (
  c.has_form.ensures.0 c.if-not-has_form.false,
  c.is_summed.ensures.0 c.if-not-is_summed.false,
  c.is_of_group.ensures.0 c.if-not-is_of_group.false,
  c.is_of_plan.ensures.0 c.if-not-is_of_plan.false,
  λ way says p. (subst (IsSaidIn c.args.bytes.now) c.in-None.is c.said_in.ensures) says
      (zero-of c.args.seal.now c.args.bytes.now way says p)
      (body-of c.args.seal.now c.args.bytes.now way says (omega arith, omega arith) p),
)
