use Rattle.std.{specs.Prelude.is_some, proofs.Common.{◌≡◌, ◌++◌, ◌∙◌, [], ◌∷◌, ap, sym, Some, rules, tests, arith}}
use Rattle.serde_json.specs.View.{view}
use Rattle.dr_entry.proofs.{ListFacts.filter_map_more, OptionFacts.ok_or_err}
use Rattle.dr_script.specs.{Places.unless, Rules.fault_of, declared.passage.Passage.TheVariants.Fault}
use Rattle.dr_script.proofs.{EachLemmas.{each_more, each_stops, unless_kept, unless_broken}, StopLemmas.rule_of}
use Rattle.dr_script.proofs.faults.faults_in.Goals as goal

pub returns-in_err-fault-clause-broken : goal.returns-in_err-fault-clause-broken
returns-in_err-fault-clause-broken c = λ broken is.
    let x = c.index-values-index.result in
    let named = rule_of c.from_residual.result c.in_err-fault.field-0.0 broken c.from_residual.ensures.1 is in
    let none = ok_or_err c.fault_of.result _ c.in_err-fault.field-0.0
    (sym c.ok_or.ensures.value ∙ c.in_err-fault.was) in
    each_stops 13 (λ index fault. unless (is_some (fault_of c.args.sizes.now fault)) (Fault index)) view
    c.args.values.now c.loop-index.index x broken (omega arith) c.index-values-index.is c.loop-index.invariant.kept
    (unless_broken 13 _ _ (ap is_some (sym c.fault_of.ensures ∙ none.0)) ∙ ap Some (none.1 ∙ named))

pub loop-index-preserved : goal.loop-index-preserved
loop-index-preserved c =
    let x = c.index-values-index.result in
    let read : fault_of c.args.sizes.now (view x) ≡ Some c.in_ok-fault.fault = search (rules, tests) in
    record {
      kept = each_more 13 (λ index fault. unless (is_some (fault_of c.args.sizes.now fault)) (Fault index))
          view c.args.values.now c.loop-index.index x
          (omega arith) c.index-values-index.is c.loop-index.invariant.kept (unless_kept 13 _ _ (ap is_some read));
      faults = c.in_ok-push.ensures.items ∙ ap
          (λ faults. faults ++ c.in_ok-fault.fault ∷ []) c.loop-index.invariant.faults
          ∙ sym (filter_map_more (fault_of c.args.sizes.now) view c.args.values.now c.loop-index.index x
          c.in_ok-fault.fault (omega arith) c.index-values-index.is read);
    }
