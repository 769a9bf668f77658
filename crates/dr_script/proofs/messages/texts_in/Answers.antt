use Rattle.std.specs.{List.All, Prelude.is_some}
use Rattle.std.proofs.Common.{◌≡◌, ◌<◌, ◌++◌, ◌∙◌, [], ◌∷◌, ap, sym, subst, Some, rules, tests, arith}
use Rattle.serde_json.specs.View.{view}
use Rattle.dr_entry.proofs.{ListFacts.filter_map_more, ListParts.all_more, OptionFacts.{ok_or_err, if_some_at}}
use Rattle.dr_script.specs.{Places.unless, Rules.text_of, declared.passage.Passage.TheVariants.Text}
use Rattle.dr_script.proofs.{EachLemmas.{each_more, each_stops, unless_kept, unless_broken}, StopLemmas.rule_of}
use Rattle.dr_script.proofs.messages.texts_in.Goals as goal

pub returns-in_err-message-clause-broken : goal.returns-in_err-message-clause-broken
returns-in_err-message-clause-broken c = λ broken is.
    let x = c.index-texts-index.result in
    let named = rule_of c.from_residual.result c.in_err-message.field-0.0 broken c.from_residual.ensures.1 is in
    let none = ok_or_err c.text_of.result _ c.in_err-message.field-0.0
    (sym c.ok_or.ensures.value ∙ c.in_err-message.was) in
    each_stops 10 (λ index text. unless (is_some (text_of text)) (Text c.args.member index)) view
    c.args.texts.now c.loop-index.index x broken (omega arith) c.index-texts-index.is c.loop-index.invariant.kept
    (unless_broken 10 _ _ (ap is_some (sym c.text_of.ensures.text ∙ none.0)) ∙ ap Some (none.1 ∙ named))

pub loop-index-preserved : goal.loop-index-preserved
loop-index-preserved c =
    let x = c.index-texts-index.result in
    let read : text_of (view x) ≡ Some c.in_ok-message.message = search (rules, tests) in
    record {
      kept = each_more 10 (λ index text. unless (is_some (text_of text)) (Text c.args.member index)) view
          c.args.texts.now c.loop-index.index x (omega arith) c.index-texts-index.is c.loop-index.invariant.kept
          (unless_kept 10 _ _ (ap is_some read));
      messages = c.in_ok-push.ensures.items ∙ ap
          (λ ms. ms ++ c.in_ok-message.message ∷ []) c.loop-index.invariant.messages
          ∙ sym (filter_map_more text_of view c.args.texts.now c.loop-index.index x
          c.in_ok-message.message (omega arith) c.index-texts-index.is read);
      bytes = subst (All (All (λ byte. byte < 256))) (sym c.in_ok-push.ensures.items)
          (all_more (All (λ byte. byte < 256)) c.loop-index.messages.items c.in_ok-message.message
          c.loop-index.invariant.bytes (if_some_at
          (All (λ byte. byte < 256)) c.text_of.result c.in_ok-message.message c.text_of.ensures.bytes
          (c.text_of.ensures.text ∙ read)));
    }
