use Rattle.std.specs.List.{All, filter_map}
use Rattle.std.proofs.Common.{◌≡◌, ◌<◌, ◌++◌, ◌∙◌, [], ◌∷◌, ap, sym, subst, Some, None, map, take, arith}
use Rattle.serde_json.specs.View.{view}
use Rattle.dr_entry.proofs.{ListFacts.map_more, ListParts.all_more}
use Rattle.dr_script.specs.{Json.elements_of, Places.broken_at, Reading.messages_in, Rules.{text_of, member_breaks}}
use Rattle.dr_script.proofs.{EachLemmas.{each_more, each_stops}, StopLemmas.handed_on}
use Rattle.dr_script.proofs.messages.lists_in.Goals as goal

pub returns-in_err-texts-clause-broken : goal.returns-in_err-texts-clause-broken
returns-in_err-texts-clause-broken c = λ broken is.
    let x = c.index-lists-member.result in
    let here = c.texts_in.ensures.broken broken
    (handed_on c.from_residual.result c.texts_in.result c.in_err-texts.field-0.0 broken
    c.from_residual.ensures.1 c.in_err-texts.was is) in
    each_stops 10 (λ member list. member_breaks member (elements_of list)) view c.args.lists.now
    c.loop-member.member x broken (omega arith) c.index-lists-member.is c.loop-member.invariant.kept
    (subst (λ es. broken_at 10 (member_breaks c.loop-member.member es) ≡ Some broken) c.elements_of.ensures here)

pub loop-member-preserved : goal.loop-member-preserved
loop-member-preserved c =
    let x = c.index-lists-member.result in
    let told = c.in_ok-texts.ensures in
    record {
      kept = each_more 10 (λ member list. member_breaks member (elements_of list)) view c.args.lists.now
          c.loop-member.member x (omega arith) c.index-lists-member.is c.loop-member.invariant.kept
          (subst (λ texts. broken_at 10 (member_breaks c.loop-member.member texts) ≡ None)
          c.elements_of.ensures told.kept);
      messages = c.in_ok-push.ensures.items ∙ ap
          (λ lists. lists ++ c.in_ok-texts.texts ∷ []) c.loop-member.invariant.messages
          ∙ ap (λ texts. messages_in (map view (take c.loop-member.member c.args.lists.now)) ++ texts
          ∷ []) (told.messages ∙ ap (filter_map text_of) c.elements_of.ensures)
          ∙ sym (map_more (λ list. filter_map text_of (elements_of list)) view c.args.lists.now
          c.loop-member.member x (omega arith) c.index-lists-member.is);
      bytes = subst (All (All (All (λ byte. byte < 256)))) (sym c.in_ok-push.ensures.items)
          (all_more (All (All (λ byte. byte < 256))) c.loop-member.messages.items c.in_ok-texts.texts
          c.loop-member.invariant.bytes told.bytes);
    }
