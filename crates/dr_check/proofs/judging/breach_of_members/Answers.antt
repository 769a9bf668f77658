use Rattle.std.specs.Prelude.{IfNone, IfSome}
use Rattle.std.proofs.Common.{◌+◌, ◌<◌, ◌≤◌, ap, subst, refl, length, arith, Option, ℕ}
use Rattle.dr_entry.proofs.ListPlaces.{below_more, slice_get-some}
use Rattle.dr_check.{specs.Flaws.{MemberKeeps, MemberBreaks}, proofs.Loops.{below_all, first_breaks}}
use Rattle.dr_check.proofs.judging.breach_of_members.Goals as goal

pub returns-in-Some-clause-some : goal.returns-in-Some-clause-some
returns-in-Some-clause-some c =
    let within : c.loop-n.n < length c.args.age.now.members =
    omega (arith, c.loop-n-test.true, ap length c.as_slice-n-end.ensures) in
    let there = slice_get-some c.args.age.now.members c.loop-n.n within in
    first_breaks (MemberKeeps c.args.clause c.args.script.now c.args.age.now)
    (MemberBreaks c.args.clause c.args.script.now c.args.age.now) c.args.age.now.members c.loop-n.n c.in-Some.line
    there.0 there.1 (subst (λ (r : Option ℕ). IfSome r (MemberBreaks c.args.clause c.args.script.now c.args.age.now
    c.loop-n.n there.0)) c.in-Some.is (c.breach_of_member.ensures.some there.0 there.1)) c.loop-n.invariant

pub loop-n-preserved : goal.loop-n-preserved
loop-n-preserved c =
    let within : c.loop-n.n < length c.args.age.now.members =
    omega (arith, c.loop-n-test.true, ap length c.as_slice-n-end.ensures) in
    let there = slice_get-some c.args.age.now.members c.loop-n.n within in
    below_more (MemberKeeps c.args.clause c.args.script.now c.args.age.now) c.args.age.now.members c.loop-n.n
    (c.loop-n.n + 1) there.0 refl there.1
    (subst (λ (r : Option ℕ). IfNone r (MemberKeeps c.args.clause c.args.script.now c.args.age.now
    c.loop-n.n there.0)) c.in_default.is (c.breach_of_member.ensures.none there.0 there.1)) c.loop-n.invariant

pub returns-clause-none : goal.returns-clause-none
returns-clause-none c =
    let past : length c.args.age.now.members ≤ c.loop-n.n =
    omega (arith, c.loop-n-test.false, ap length c.as_slice-n-end.ensures) in
    below_all (MemberKeeps c.args.clause c.args.script.now c.args.age.now) c.args.age.now.members c.loop-n.n
    past c.loop-n.invariant
