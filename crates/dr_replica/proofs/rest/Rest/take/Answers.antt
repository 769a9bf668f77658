use Rattle.std.proofs.Common.{◌≡◌, ℕ, ◌<◌, ◌^◌, length, sym, ap, subst, ◌∙◌, arith, nat_lt, slice_index, true, false, List, Some}
use Rattle.dr_history.proofs.Places.{none_to}
use Rattle.dr_order.specs.Merge.{IsNextHeld}
use Rattle.dr_replica.proofs.Rests.{taken_read, taken_small}
use Rattle.dr_replica.proofs.rest.Rest.take.Goals as goal

pub step-requires-clause-small : goal.step-requires-clause-small
step-requires-clause-small c =
    let low : c.loop-self.self.next.number < 2 ^ 32 =
    omega (arith, c.loop-self-test.true, c.from.ensures, c.loop-self.self.most_fits) in
    let small = taken_small (length c.loop-self.self.trims.items) (2 ^ 32)
    c.loop-self.self.next c.loop-self.self.spot low in
    omega (arith, small, c.len.ensures.fits, c.len.ensures.value)

pub returns-then-spot-from-clause-next : goal.returns-then-spot-from-clause-next
returns-then-spot-from-clause-next c =
    let trims : c.loop-self.self.trims.items ≡ c.args.self.now.trims.items =
    ap (λ (v : _). v.items) c.loop-self.invariant.trims in
    let read : c.from-in-loop-self.result ≡ slice_index c.loop-self.self.trims.items c.loop-self.self.next.rank =
    c.from-in-loop-self.ensures
    ∙ ap (λ (xs : List ℕ). slice_index xs c.loop-self.self.next.rank) c.as_slice.ensures.value in
    let held : nat_lt c.loop-self.self.next.number c.from-in-loop-self.result ≡ true =
    grind (arith, c.if-spot-from.true) in
    let there = sym (taken_read c.loop-self.self.trims.items c.loop-self.self.next c.from-in-loop-self.result
    c.loop-self.self.spot read) ∙ held in
    subst (λ (xs : List ℕ). IsNextHeld xs c.args.self.now.next.place (Some c.loop-self.self.next.place)) trims
    (c.loop-self.invariant.after, there, c.loop-self.invariant.none)

pub loop-self-smaller : goal.loop-self-smaller
loop-self-smaller c =
    let low : c.loop-self.self.next.number < 2 ^ 32 =
    omega (arith, c.loop-self-test.true, c.from.ensures, c.loop-self.self.most_fits) in
    let small = taken_small (length c.loop-self.self.trims.items) (2 ^ 32)
    c.loop-self.self.next c.loop-self.self.spot low in
    omega (arith, small, c.step.ensures.place)

pub loop-self-preserved : goal.loop-self-preserved
loop-self-preserved c =
    let read : c.from-in-loop-self.result ≡ slice_index c.loop-self.self.trims.items c.loop-self.self.next.rank =
    c.from-in-loop-self.ensures
    ∙ ap (λ (xs : List ℕ). slice_index xs c.loop-self.self.next.rank) c.as_slice.ensures.value in
    let gap : nat_lt c.loop-self.self.next.number c.from-in-loop-self.result ≡ false =
    grind (arith, c.if-spot-from.false) in
    record {
      trims = c.loop-self.invariant.trims;
      after = omega (arith, c.loop-self.invariant.after, c.step.ensures.place);
      none = let e = c.step.ensures.place in
          rw e (none_to c.loop-self.self.trims.items c.args.self.now.next.place c.loop-self.self.next.place
          c.loop-self.invariant.none
          (sym (taken_read c.loop-self.self.trims.items c.loop-self.self.next c.from-in-loop-self.result
          c.loop-self.self.spot read) ∙ gap));
    }
