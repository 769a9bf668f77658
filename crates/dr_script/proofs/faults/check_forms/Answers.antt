use Rattle.std.proofs.Common.{◌≡◌, false, true, rules, tests, arith}
use Rattle.serde_json.specs.View.{view}
use Rattle.dr_script.specs.{Places.unless, Rules.is_fault, declared.passage.Passage.TheVariants.Fault}
use Rattle.dr_script.proofs.EachLemmas.{each_more, each_stops, unless_kept, unless_broken}
use Rattle.dr_script.proofs.faults.check_forms.Goals as goal

pub returns-then-not-is_fault-clause-broken : goal.returns-then-not-is_fault-clause-broken
returns-then-not-is_fault-clause-broken c =
    let x = c.index-values-index.result in
    let fails : is_fault (view x) ≡ false = search (rules, tests) in
    each_stops 11 (λ index value. unless (is_fault value) (Fault index)) view c.args.values.now
    c.loop-index.index x _ (omega arith) c.index-values-index.is c.loop-index.invariant (unless_broken 11 _ _ fails)

pub loop-index-preserved : goal.loop-index-preserved
loop-index-preserved c =
    let x = c.index-values-index.result in
    let holds : is_fault (view x) ≡ true = search (rules, tests) in
    each_more 11 (λ index value. unless (is_fault value) (Fault index)) view c.args.values.now
    c.loop-index.index x (omega arith) c.index-values-index.is c.loop-index.invariant (unless_kept 11 _ _ holds)
