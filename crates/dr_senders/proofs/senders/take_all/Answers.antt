use Rattle.std.proofs.Common.{refl, ◌∙◌, arith, length-set}
use Rattle.dr_senders.{specs.Senders.taken_in, proofs.Growth.{given_set, grown_same, taken_set}}
use Rattle.dr_senders.proofs.senders.take_all.Goals as goal

pub loop-m-init : goal.loop-m-init
loop-m-init g c = record { all = refl; given = refl; grown = grown_same (taken_in c.args.senders.now) }

pub returns-in_err-take-clause-given : goal.returns-in_err-take-clause-given
returns-in_err-take-clause-given g c =
    given_set g.A.App.left c.args.senders.now c.loop-m.senders c.loop-m.m c.take.new.self c.index-senders-m.result
    (omega (arith, c.loop-m-test.true, c.loop-m.invariant.all)) c.in_err-take.ensures.given c.loop-m.invariant.given

pub returns-in_err-take-clause-grown : goal.returns-in_err-take-clause-grown
returns-in_err-take-clause-grown g c =
    taken_set (taken_in c.args.senders.now) c.loop-m.senders c.loop-m.m c.take.new.self c.index-senders-m.result
    (omega (arith, c.loop-m-test.true, c.loop-m.invariant.all)) c.in_err-take.ensures.grown c.loop-m.invariant.grown

pub loop-m-preserved : goal.loop-m-preserved
loop-m-preserved g c = record {
  all = length-set c.loop-m.senders c.loop-m.m c.take.new.self ∙ c.loop-m.invariant.all;
  given = given_set g.A.App.left c.args.senders.now c.loop-m.senders c.loop-m.m c.take.new.self
      c.index-senders-m.result (omega (arith, c.loop-m-test.true, c.loop-m.invariant.all))
      c.in_ok-take.ensures.given c.loop-m.invariant.given;
  grown = taken_set (taken_in c.args.senders.now) c.loop-m.senders c.loop-m.m c.take.new.self c.index-senders-m.result
      (omega (arith, c.loop-m-test.true, c.loop-m.invariant.all)) c.in_ok-take.ensures.grown c.loop-m.invariant.grown;
}
