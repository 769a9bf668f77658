use Rattle.std.proofs.Common.{◌≡◌, ℕ, Bool, cond, get_or, arith, sym, ap, ◌∙◌}
use Rattle.std.proofs.lemmas.List.Filters.{length-filter_more}
use Rattle.dr_history.specs.Members.{has}
use Rattle.dr_oracle.proofs.succession.count_in.Goals as goal
use Rattle.dr_oracle.proofs.succession.count_in.Goals.{then-is_in, else-is_in}

pub loop-member-preserved : goal.loop-member-preserved
loop-member-preserved c =
    let member : ℕ = get_or c.args.list.now c.loop-member.member-index 0 in
    let more = length-filter_more (has c.args.members) c.args.list.now c.loop-member.member-index 0
    c.loop-member-test.true in
    elim c.if-is_in.branch [
      | then-is_in w ↦
          let one : ◌≡◌ {A = ℕ} (cond (has c.args.members member) 1 0) 1 =
          ap (λ (b : Bool). cond b 1 0) (sym c.is_in.ensures ∙ w.if-is_in.true) in record {
            counted = omega (arith, w.count-is, one, more, c.loop-member.invariant.counted);
            few = omega (arith, w.count-is, c.loop-member.invariant.few);
          }
      | else-is_in w ↦
          let none : ◌≡◌ {A = ℕ} (cond (has c.args.members member) 1 0) 0 =
          ap (λ (b : Bool). cond b 1 0) (sym c.is_in.ensures ∙ w.if-is_in.false) in record {
            counted = omega (arith, w.count-is, none, more, c.loop-member.invariant.counted);
            few = omega (arith, w.count-is, c.loop-member.invariant.few);
          }
    ]
