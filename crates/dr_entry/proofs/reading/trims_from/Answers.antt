use Rattle.std.proofs.Common.{◌≡◌, refl, ◌∙◌, ap, arith, Ok}
use Rattle.dr_entry.{specs.Grammar.trims_at, proofs.Trims.{none_cut_off, one_cut_off, set-trims_at}}
use Rattle.dr_entry.proofs.reading.trims_from.Goals as goal

pub loop-s-preserved : goal.loop-s-preserved
loop-s-preserved c =
    let more = set-trims_at c.loop-s.s c.args.from.now (omega arith) in cc (c.whole_u32_at.ensures)

pub returns-then-from : goal.returns-then-from
returns-then-from c =
    let place = c.first_cut_off.ensures in
    let fault = one_cut_off c.args.members place.0 c.args.from.now (omega (arith, place.1, place.2))
    (omega (arith, place.1, place.3)) (omega (arith, c.if-from.true)) in
    rw (fault, place.1) refl

pub returns : goal.returns
returns c =
    let all : c.loop-s.s ≡ c.args.members = omega (arith, c.loop-s-test.false, c.loop-s.auto.s-end) in
    rw (none_cut_off c.args.members c.args.from.now (omega (arith, c.if-from.false)))
    (ap Ok (c.loop-s.invariant ∙ ap (λ n. trims_at n c.args.from.now) all))
