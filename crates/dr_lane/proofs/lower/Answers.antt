use Rattle.std.specs.Simd.Lanes.{zip2, sel_l}
use Rattle.std.proofs.Common.{false, cond, ltb, length, get_or, ap, ◌∙◌, sym, arith, w64}
use Rattle.std.proofs.lemmas.Simd.{tops_compared, length-zip2, length-sel_l, get_or-sel_l, get_or-zip2}
use Rattle.dr_lane.proofs.lower.Goals as goal

pub returns-clause-long : goal.returns-clause-long
returns-clause-long c =
    let a = c.args.lanes in
    let b = c.args.others in
    let long = length-zip2 ltb a b (c.fits-lanes.0 ∙ sym c.fits-others.0) ∙ c.fits-lanes.0 in
    ap (λ ms. length (sel_l ms a b)) (tops_compared w64 ltb a b)
    ∙ length-sel_l (zip2 ltb a b) a b (long ∙ sym c.fits-lanes.0) (long ∙ sym c.fits-others.0) ∙ long

pub returns-clause-each : goal.returns-clause-each
returns-clause-each c i lt =
    let a = c.args.lanes in
    let b = c.args.others in
    let la = c.fits-lanes.0 in
    let lb = c.fits-others.0 in
    let long = length-zip2 ltb a b (la ∙ sym lb) ∙ la in
    ap (λ ms. get_or (sel_l ms a b) i 0) (tops_compared w64 ltb a b)
    ∙ get_or-sel_l (zip2 ltb a b) a b i 0 (omega (arith, long)) (omega (arith, la)) (omega (arith, lb))
    ∙ ap (λ t. cond t (get_or a i 0) (get_or b i 0)) (get_or-zip2 ltb a b i 0 0 false (omega (arith, la)) (omega (arith, lb)))
