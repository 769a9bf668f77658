use Rattle.std.proofs.Common.{◌∙◌, ap, ◌++◌}
use Rattle.dr_packet.specs.Packets.{body, head, summed}
use Rattle.dr_packet.proofs.Puts.{with_sum}
use Rattle.dr_packet.proofs.writing.write.Goals as goal

pub returns : goal.returns
returns c = with_sum _ _ _ _ _ _ _ c.put_head.ensures.head c.put_body.ensures.body c.as_slice.ensures.value
    c.sum_of-sum.ensures c.put.ensures
    ∙ ap (λ k. summed (head c.args.seal.now c.args.way.now k ++ body c.args.says.now)) c.kind_of.ensures
