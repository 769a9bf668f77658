use Rattle.std.proofs.Common.{ap, subst, inr, arith, length, take}
use Rattle.dr_opening.{specs.CuttingBack.IsCommonFront, proofs.Cutting.due_if_less}
use Rattle.dr_opening.proofs.cutting_back.cut_back.Goals as goal

pub returns-clause-cut : goal.returns-clause-cut
returns-clause-cut g c =
    let own = c.args.log.now.content.entries in
    let entries = c.args.start.now.entries in
    let keep = c.common_length-keep.result in
    let common : IsCommonFront own entries (take keep own) =
    subst (λ l. IsCommonFront own l (take keep own)) c.as_slice.ensures
    (subst (λ l. IsCommonFront l c.as_slice.result.now (take keep l)) c.entries-own.ensures
    c.common_length-keep.ensures.common) in
    inr (
      keep,
      due_if_less entries c.args.log.now.content keep common (omega (
        arith,
        c.if-keep-own.false,
        c.common_length-keep.ensures.within_one,
        ap length c.entries-own.ensures,
      )),
      record {
        ok = c.append.ensures.ok;
        fault = c.append.ensures.fault;
        full = c.append.ensures.full;
        limit = c.append.ensures.limit;
        any_moment = c.append.ensures.any_moment;
        lasting = c.append.ensures.lasting;
        durable = c.append.ensures.durable;
        calls = c.append.ensures.calls;
        calm = c.append.ensures.calm;
        cause = c.append.ensures.cause;
        later = c.append.ensures.faults;
      },
    )
