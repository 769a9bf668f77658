use Rattle.std.specs.Prelude.{option_to_list}
use Rattle.std.proofs.Common.{◌≡◌, ◌+◌, ◌++◌, ◌∷◌, [], sym, ap, ◌∙◌, arith, append-nil, append_assoc, length, length-append}
use Rattle.dr_check.proofs.Reversing.{put_front, read_none}
use Rattle.dr_check.proofs.assembling.report_of.Goals as goal

pub loop-line-init : goal.loop-line-init
loop-line-init c = (
  [],
  sym (append-nil c.args.lines.items),
  c.none-read.ensures ∙ sym (read_none (1 + length c.args.lines.items)),
)

pub loop-line-preserved : goal.loop-line-preserved
loop-line-preserved c =
    let rest = c.loop-line.invariant.0 in
    let l = c.in-Some.line in
    let popped : c.loop-line.lines.items ≡ c.pop.new.self.items ++ l ∷ [] =
    c.pop.ensures.items ∙ ap (λ o. c.pop.new.self.items ++ option_to_list o) c.in-Some.is in (
      l ∷ rest,
      c.loop-line.invariant.1 ∙ (ap (λ xs. xs ++ rest) popped ∙ append_assoc c.pop.new.self.items (l ∷ []) rest),
      c.in_ok-put.ensures ∙ put_front (c.len.result + 1) (1 + length c.pop.new.self.items)
          (1 + length c.loop-line.lines.items) l rest c.loop-line.read (omega (arith, c.len.ensures))
          (omega (arith, ap length popped, length-append c.pop.new.self.items (l ∷ []))) c.loop-line.invariant.2,
    )
