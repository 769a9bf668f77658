use Rattle.std.{specs.Prelude.is_some, proofs.Common.{rules, tests, sym, ◌∙◌}}
use Rattle.std.proofs.lemmas.{Iterator.{YieldsList-from_slice, Search.all_from_yields_List}, List.Folds.list_all-map}
use Rattle.serde_json.specs.{Find.get, View.view}
use Rattle.dr_script.proofs.json.has_every.Goals as goal

pub returns : goal.returns
returns c = all_from_yields_List (λ name. is_some (get name.now (view c.args.value.now))) _ _ c.all.result
    c.all.ensures.ran (YieldsList-from_slice _ c.iter.ensures.rest) (λ x b q k. search (rules, tests))
    ∙ sym (list_all-map (λ name. is_some (get name (view c.args.value.now))) (λ name. name.now) c.args.names.now)
