use Rattle.std.proofs.Common.{◌≡◌, false, true, rules, tests, arith}
use Rattle.serde_json.specs.View.{view}
use Rattle.dr_script.specs.{Places.unless, Rules.is_short, declared.passage.Passage.TheVariants.Texts}
use Rattle.dr_script.proofs.EachLemmas.{each_more, each_stops, unless_kept, unless_broken}
use Rattle.dr_script.proofs.messages.check_lengths.Goals as goal

pub returns-then-not-is_short-clause-broken : goal.returns-then-not-is_short-clause-broken
returns-then-not-is_short-clause-broken c =
    let x = c.index-lists-member.result in
    let fails : is_short (view x) ≡ false = search (rules, tests) in
    each_stops 9 (λ index value. unless (is_short value) (Texts index)) view c.args.lists.now
    c.loop-member.member x _ (omega arith) c.index-lists-member.is c.loop-member.invariant (unless_broken 9 _ _ fails)

pub loop-member-preserved : goal.loop-member-preserved
loop-member-preserved c =
    let x = c.index-lists-member.result in
    let holds : is_short (view x) ≡ true = search (rules, tests) in
    each_more 9 (λ index value. unless (is_short value) (Texts index)) view c.args.lists.now
    c.loop-member.member x (omega arith) c.index-lists-member.is c.loop-member.invariant (unless_kept 9 _ _ holds)
