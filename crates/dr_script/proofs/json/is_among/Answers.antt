use Rattle.std.{specs.Str.bytes_eq, proofs.{Common.{rules, tests, sym, ◌∙◌}, lemmas.Iterator.YieldsList-from_slice}}
use Rattle.std.proofs.lemmas.Iterator.Search.{any_from_yields_List}
use Rattle.dr_entry.proofs.ListFacts.{list_any_map}
use Rattle.dr_script.proofs.json.is_among.Goals as goal

pub returns : goal.returns
returns c = any_from_yields_List (λ name. bytes_eq name.now c.args.key.now) _ _ c.any.result c.any.ensures.ran
    (YieldsList-from_slice _ c.iter.ensures.rest) (λ x b q k. search (rules, tests))
    ∙ sym (list_any_map (λ name. bytes_eq name c.args.key.now) (λ name. name.now) c.args.names.now)
