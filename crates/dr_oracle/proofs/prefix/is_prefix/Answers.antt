use Rattle.std.proofs.{Common.{rules, sym, drop, length}, lemmas.Slice.Eq.starts_is}
use Rattle.dr_oracle.proofs.prefix.is_prefix.Goals as goal

pub returns : goal.returns
returns c =
    let is = starts_is (λ a b. search rules) c.args.of.now c.args.entries.now c.starts_with.result
    c.starts_with.ensures.value in
    (λ r. (drop (length c.args.entries.now) c.args.of.now, sym (is.0 r)), λ p. is.1 p.0 (sym p.1))
