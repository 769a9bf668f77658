use Rattle.std.specs.Prelude.{IfNone, IfSome}
use Rattle.std.proofs.Common.{◌≡◌, ◌+◌, ◌<◌, ◌≤◌, Some, slice_get, ap, ◌∙◌, subst, refl, length, arith, Option, ℕ, List}
use Rattle.dr_entry.proofs.ListPlaces.{below_more, slice_get-some}
use Rattle.dr_check.specs.{Flaws.{AgeKeeps, AgeBreaks}, declared.report.ReportAge.ReportAge}
use Rattle.dr_check.proofs.Loops.{below_all, first_breaks}
use Rattle.dr_check.proofs.judging.breach_of_report.Goals as goal

pub returns-in-Some-clause-some : goal.returns-in-Some-clause-some
returns-in-Some-clause-some c =
    let within : c.loop-i.i < length c.args.report.now.ages =
    omega (arith, c.loop-i-test.true, ap length c.as_slice-ages.ensures) in
    let there = slice_get-some c.args.report.now.ages c.loop-i.i within in
    let read : slice_get c.as_slice-ages.result.now c.loop-i.i ≡ Some there.0 =
    ap (λ (xs : List ReportAge). slice_get xs c.loop-i.i) c.as_slice-ages.ensures ∙ there.1 in
    first_breaks (AgeKeeps c.args.clause c.args.script.now c.args.report.now.ages)
    (AgeBreaks c.args.clause c.args.script.now c.args.report.now.ages) c.args.report.now.ages c.loop-i.i
    c.in-Some.line there.0 there.1
    (subst (λ (r : Option ℕ). IfSome r (AgeBreaks c.args.clause c.args.script.now c.args.report.now.ages
    c.loop-i.i there.0)) c.in-Some.is (subst (λ (xs : List ReportAge). IfSome c.breach_of_age.result
    (AgeBreaks c.args.clause c.args.script.now xs c.loop-i.i there.0)) c.as_slice-ages.ensures
    (c.breach_of_age.ensures.some there.0 read))) c.loop-i.invariant

pub loop-i-preserved : goal.loop-i-preserved
loop-i-preserved c =
    let within : c.loop-i.i < length c.args.report.now.ages =
    omega (arith, c.loop-i-test.true, ap length c.as_slice-ages.ensures) in
    let there = slice_get-some c.args.report.now.ages c.loop-i.i within in
    let read : slice_get c.as_slice-ages.result.now c.loop-i.i ≡ Some there.0 =
    ap (λ (xs : List ReportAge). slice_get xs c.loop-i.i) c.as_slice-ages.ensures ∙ there.1 in
    below_more (AgeKeeps c.args.clause c.args.script.now c.args.report.now.ages) c.args.report.now.ages c.loop-i.i
    (c.loop-i.i + 1) there.0 refl there.1
    (subst (λ (r : Option ℕ). IfNone r (AgeKeeps c.args.clause c.args.script.now c.args.report.now.ages
    c.loop-i.i there.0)) c.in_default.is (subst (λ (xs : List ReportAge). IfNone c.breach_of_age.result
    (AgeKeeps c.args.clause c.args.script.now xs c.loop-i.i there.0)) c.as_slice-ages.ensures
    (c.breach_of_age.ensures.none there.0 read))) c.loop-i.invariant

pub returns-clause-none : goal.returns-clause-none
returns-clause-none c =
    let past : length c.args.report.now.ages ≤ c.loop-i.i =
    omega (arith, c.loop-i-test.false, ap length c.as_slice-ages.ensures) in
    below_all (AgeKeeps c.args.clause c.args.script.now c.args.report.now.ages) c.args.report.now.ages c.loop-i.i
    past c.loop-i.invariant
