use Rattle.std.{specs.Prelude.{map, slice_index_or}, proofs.lemmas.{Bool.{eq-eqb, ne_eqb}, List.get_or_read}}
use Rattle.std.proofs.Common.{◌++◌, ◌∷◌, [], false, true, get_or, ap, sym, ◌∙◌, append-nil, arith}
use Rattle.dr_shards.{specs.Layout.shard_members, proofs.Laying.messages_more}
use Rattle.dr_shards.proofs.layout.shard_messages.Goals as goal

pub loop-m-preserved-then-m-shards : goal.loop-m-preserved-then-m-shards
loop-m-preserved-then-m-shards c =
    let script = c.args.script.now in let shards = c.args.shards in let k = c.args.k in let n = c.loop-m.m in
    c.loop-m.invariant ∙ sym (messages_more script shards k n false (ne_eqb _ _ c.if-m-shards.true)
    ∙ append-nil (map (λ m. slice_index_or script.messages m []) (shard_members shards k n)))

pub loop-m-preserved : goal.loop-m-preserved
loop-m-preserved c =
    let script = c.args.script.now in let shards = c.args.shards in let k = c.args.k in let n = c.loop-m.m in
    let list = c.index-as_slice-from.result in
    let at = c.index-as_slice-from.is ∙ ap (λ xs. get_or xs c.from-in-loop-m.result list) c.as_slice.ensures
    ∙ ap (λ i. get_or script.messages i list) c.from-in-loop-m.ensures in
    let read = get_or_read script.messages n list (omega (arith, c.loop-m-test.true, c.requires.lists)) at [] in
    c.in_ok-push.ensures.items ∙ ap (λ x. c.loop-m.messages.items ++ x ∷ []) (c.in_ok-copy_messages.ensures ∙ read)
    ∙ ap (λ xs. xs ++ slice_index_or script.messages n [] ∷ []) c.loop-m.invariant
    ∙ sym (messages_more script shards k n true (eq-eqb _ _ c.if-m-shards.false))
