use Rattle.std.proofs.Common.{IsTrue, inl, inr, refl}
use Rattle.std.proofs.lemmas.Result.{IfErr-weaker, on_ok_weaker}
use Rattle.dr_seat.specs.Seats.{IsRefused, IsUnheard}
use Rattle.dr_seat.proofs.seat.Seat.came.Goals as goal

pub returns-in-Err-clause-fault : goal.returns-in-Err-clause-fault
returns-in-Err-clause-fault c = inl (c.in-Err.fault, refl, c.in-Err.ensures.fault)

pub returns-then-not-is_mine-clause-fault : goal.returns-then-not-is_mine-clause-fault
returns-then-not-is_mine-clause-fault c = inr (
  c.in-Ok.read.0,
  c.in-Ok.read.1,
  c.in-Ok.ensures.packet,
  inl (
    refl,
    λ mine. let yes : IsTrue c.is_mine.result = c.is_mine.ensures.mine.1 mine in
        absurd (cc (yes, c.if-not-is_mine.true)),
  ),
)

pub returns-then-not-is_open-clause-fault : goal.returns-then-not-is_open-clause-fault
returns-then-not-is_open-clause-fault c = inr (
  c.in-Ok.read.0,
  c.in-Ok.read.1,
  c.in-Ok.ensures.packet,
  inr (
    c.is_mine.ensures.mine.0 c.if-not-is_mine.false,
    inl (
      refl,
      λ whole. let yes : IsTrue c.is_open.result = c.is_open.ensures.1 whole in
          absurd (cc (yes, c.if-not-is_open.true)),
    ),
  ),
)

pub returns-clause-fault : goal.returns-clause-fault
returns-clause-fault c = IfErr-weaker c.hear.result
    (IsUnheard c.args.self.now c.in-Ok.read.0.from c.in-Ok.read.1) (IsRefused c.args.self.now c.args.packet.now)
    (λ fault unheard. inr (
      c.in-Ok.read.0,
      c.in-Ok.read.1,
      c.in-Ok.ensures.packet,
      inr (
        c.is_mine.ensures.mine.0 c.if-not-is_mine.false,
        inr (c.is_open.ensures.0 c.if-not-is_open.false, unheard),
      ),
    ))
    c.hear.ensures.fault

pub returns-clause-taken : goal.returns-clause-taken
returns-clause-taken c = on_ok_weaker c.hear.result
    (λ heard. (
      c.in-Ok.read.0,
      c.in-Ok.read.1,
      c.in-Ok.ensures.packet,
      c.is_mine.ensures.mine.0 c.if-not-is_mine.false,
      c.is_open.ensures.0 c.if-not-is_open.false,
      heard,
    ))
    c.hear.ensures.heard
