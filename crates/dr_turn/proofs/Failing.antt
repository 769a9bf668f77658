-- An append that fails is done once: the member stays where it is, and what is due there then is its end.
use Rattle.std.{specs.Prelude.None, proofs.Common.{◌≡◌, refl, ap, ◌<◌, arith}}
use Rattle.dr_words.proofs.Order.{Grown_refl}
use Rattle.dr_program.specs.{Form.IsRunningMember, Running.{Running, broken_off, next_step}, Steps.IsAppend}
use Rattle.dr_program.{specs.{Turn.part_of, declared.outcome.LogWhy.LogWhy}, proofs.StepsAt.append_at}
use Rattle.dr_turn.{specs.Work.{IsAfterDeed, left_to, may_fail}, proofs.Deeds.lower}

-- it then has a deed fewer to do
pub failed_done : (why : LogWhy) (r : Running) → IsRunningMember r → r.replica.end ≡ None
    → IsAppend (next_step r) → IsAfterDeed r (broken_off why r)
failed_done why r m none e = record {
  underway = record { replica = m.replica; place = m.place; turns = m.turns; waits = m.waits; free = m.free; left = m.left };
  grown = λ e. Grown_refl r.replica.roster r.replica.rows.words r.replica.rows.frozen;
  fewer = lower r (broken_off why r) none refl fewer;
  still = λ g number is. is;
}
  where
    unfailed : may_fail r.failed ≡ 1
    unfailed = ap may_fail (append_at r (part_of r.place) r.place.row r.place.column e).1

    fewer : left_to (broken_off why r) None < left_to r None
    fewer = omega (arith, unfailed)
