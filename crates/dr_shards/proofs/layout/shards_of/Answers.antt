use Rattle.std.{specs.{List.range_with_len, Prelude.map}, proofs.Common.{◌++◌, ◌∷◌, [], ap, sym, ◌∙◌, arith}}
use Rattle.std.proofs.lemmas.List.FromFn.{map-range_with_len_more}
use Rattle.dr_shards.specs.Layout.{shard_of}
use Rattle.dr_shards.proofs.layout.shards_of.Goals as goal

pub loop-k-preserved : goal.loop-k-preserved
loop-k-preserved c =
    let n = c.loop-k.k in let script = c.args.script.now in let shards = c.args.shards in
    c.in_ok-push.ensures.items ∙ ap (λ xs. xs ++ c.in_ok-shard_of.field-0 ∷ []) c.loop-k.invariant
    ∙ ap (λ s. map (shard_of script shards) (range_with_len 0 n) ++ s ∷ []) c.in_ok-shard_of.ensures
    ∙ sym (map-range_with_len_more (shard_of script shards) 0 n n (omega arith))
