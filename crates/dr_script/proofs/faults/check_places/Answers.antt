use Rattle.std.proofs.Common.{◌≡◌, false, true, rules, tests, arith}
use Rattle.serde_json.specs.View.{view}
use Rattle.dr_script.specs.{Places.unless, Rules.is_placed, declared.passage.Passage.TheVariants.Fault}
use Rattle.dr_script.proofs.EachLemmas.{each_more, each_stops, unless_kept, unless_broken}
use Rattle.dr_script.proofs.faults.check_places.Goals as goal

pub returns-then-not-is_placed-clause-broken : goal.returns-then-not-is_placed-clause-broken
returns-then-not-is_placed-clause-broken c =
    let x = c.index-values-index.result in
    let fails : is_placed c.args.sizes.now (view x) ≡ false = search (rules, tests) in
    each_stops 12 (λ index value. unless (is_placed c.args.sizes.now value) (Fault index)) view
    c.args.values.now c.loop-index.index x _
    (omega arith) c.index-values-index.is c.loop-index.invariant (unless_broken 12 _ _ fails)

pub loop-index-preserved : goal.loop-index-preserved
loop-index-preserved c =
    let x = c.index-values-index.result in
    let holds : is_placed c.args.sizes.now (view x) ≡ true = search (rules, tests) in
    each_more 12 (λ index value. unless (is_placed c.args.sizes.now value) (Fault index)) view
    c.args.values.now c.loop-index.index x (omega arith) c.index-values-index.is c.loop-index.invariant
    (unless_kept 12 _ _ holds)
