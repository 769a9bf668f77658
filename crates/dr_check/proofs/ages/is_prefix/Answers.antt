use Rattle.std.proofs.{Common.{rules, sym, drop, length}, lemmas.Slice.Eq.starts_is}
use Rattle.dr_check.proofs.ages.is_prefix.Goals as goal

pub returns : goal.returns
returns c =
    let is = starts_is (λ a b. search rules) c.args.other.now c.args.one.now c.starts_with.result
    c.starts_with.ensures.value in
    (λ r. (drop (length c.args.one.now) c.args.other.now, sym (is.0 r)), λ p. is.1 p.0 (sym p.1))
