use Rattle.std.proofs.Common.{◌<◌, refl, sym, ◌∙◌, subst, arith}
use Rattle.atomic_table.specs.Seated.{TableId}
use Rattle.dr_program.specs.Running.{after_step}
use Rattle.dr_table.{specs.{Deeds.IsStore, Sweeps.HasComeBySweep}, proofs.Keeping.store_reached}
use Rattle.dr_table.proofs.Sweeps.{come_on, push_finds, push_swept}
use Rattle.dr_table.proofs.access.SeatSlotViewAccessBoard.push.Goals as goal

pub store_at-requires-clause-alone : goal.store_at-requires-clause-alone
store_at-requires-clause-alone c = c.requires.came.2.1.seat

pub returns-clause-came : goal.returns-clause-came
returns-clause-came c = λ first from came.
    let q = c.args.now.now in (
      c.store_at.ensures.table ∙ came.0,
      subst (λ (t : TableId). HasComeBySweep t.words from c.store_at.new.seat.me (after_step 0 q))
          (sym c.store_at.ensures.table)
          (come_on c.args.self.now.table_id.words from c.args.self.now.me c.store_at.new.seat.me q 0 came.1
          (push_swept q c.args.word c.args.new c.requires.deed)
          (push_finds q c.args.word c.args.new c.requires.deed came.1.reached) c.store_at.ensures.stored
          (store_reached q c.args.word c.args.new
          (subst (IsStore c.args.word c.args.new) (sym c.requires.deed) (refl, refl)) came.1.reached)),
    )

-- the words of the board are more than those of the table
pub store_at-requires-clause-word : goal.store_at-requires-clause-word
store_at-requires-clause-word c =
    let came = c.requires.came in
    subst (λ (t : TableId). c.args.word < t.words) c.requires.home (omega (arith, c.requires.within, came.2.1.of))
