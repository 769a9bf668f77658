use Rattle.std.proofs.Common.{ℕ, ◌+◌, ◌*◌, sym, ap, ◌∙◌, inl, inr, arith, slice_index, slice_set}
use Rattle.std.proofs.lemmas.{Bool.cases_eq, List.{get_or-set_other, get_or-set_same, length-set}}
use Rattle.dr_packet.specs.Packets.{long_at}
use Rattle.dr_packet.proofs.reading.lengths_of.Goals as goal

pub loop-m-preserved : goal.loop-m-preserved
loop-m-preserved c = (
  length-set c.loop-m.lengths c.loop-m.m c.u64_at.result ∙ c.loop-m.invariant.0,
  λ j below. elim (cases_eq j c.loop-m.m) [
    | inl same ↦ ap (slice_index (slice_set c.loop-m.lengths c.loop-m.m c.u64_at.result)) same
        ∙ get_or-set_same c.loop-m.lengths c.loop-m.m c.u64_at.result 0
        (omega (arith, c.loop-m.invariant.0, c.loop-m-test.true))
        ∙ c.u64_at.ensures ∙ ap (λ (m : ℕ). long_at (5 + 8 * m) c.args.bytes.now) (sym same)
    | inr other ↦ get_or-set_other c.loop-m.lengths c.loop-m.m j c.u64_at.result 0 other
        ∙ c.loop-m.invariant.1 j (omega (arith, below, other))
  ],
)
