use Rattle.std.{specs.Prelude.None, proofs.{Common.{◌≡◌, sym, ap, ◌∙◌, ℕ, length, arith}, lemmas.List.get_or_read}}
use Rattle.arrayvec.specs.ArrayVec.{ArrayVec}
use Rattle.dr_program.{specs.{Presence.present_at, Program.has_ended}, proofs.Programs.{found_one, found_none}}
use Rattle.dr_sim.{specs.Sound.program_over, proofs.seeded.going.Goals.{then-not-has_ended, else-not-has_ended}}
use Rattle.dr_sim.proofs.seeded.going.Goals as goal

pub loop-m-preserved : goal.loop-m-preserved
loop-m-preserved c = elim c.if-not-has_ended.branch [
  | then-not-has_ended w ↦
      let items = ap (λ (v : ArrayVec ℕ). v.items) w.going-is ∙ w.push.ensures.items in record {
        found = λ words letters. found_one (program_over c.args.members.now words letters) c.loop-m.m c.loop-m.going.items c.if-not-has_ended.going.items
            (c.loop-m.invariant.found words letters)
            (ap has_ended (sym read) ∙ sym c.has_ended.ensures ∙ w.if-not-has_ended.true) items;
        few = omega (arith, ap length items, w.push.ensures.len, ap (λ (v : ArrayVec ℕ). length v.items) w.going-is);
      }
  | else-not-has_ended w ↦
      let items = ap (λ (v : ArrayVec ℕ). v.items) w.going-is in record {
        found = λ words letters. items ∙ found_none (program_over c.args.members.now words letters) c.loop-m.m c.loop-m.going.items
            (c.loop-m.invariant.found words letters)
            (ap has_ended (sym read) ∙ sym c.has_ended.ensures ∙ w.if-not-has_ended.false);
        few = omega (arith, ap length items);
      }
]
  where
    read : c.index-members-m.result ≡ present_at c.args.members.now c.loop-m.m
    read = get_or_read c.args.members.now c.loop-m.m c.index-members-m.result (omega (arith, c.loop-m-test.true))
        c.index-members-m.is None
