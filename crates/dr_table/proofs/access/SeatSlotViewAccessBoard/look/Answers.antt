use Rattle.std.proofs.Common.{◌<◌, sym, ◌∙◌, subst, arith}
use Rattle.atomic_table.specs.Seated.{TableId}
use Rattle.dr_program.specs.Running.{after_step}
use Rattle.dr_table.{specs.Sweeps.HasComeBySweep, proofs.Keeping.{find_seen, look_reached}}
use Rattle.dr_table.proofs.Sweeps.{come_on, look_swept}
use Rattle.dr_table.proofs.access.SeatSlotViewAccessBoard.look.Goals as goal

pub look_at-requires-clause-alone : goal.look_at-requires-clause-alone
look_at-requires-clause-alone c = c.requires.came.2.1.seat

pub returns-clause-sees : goal.returns-clause-sees
returns-clause-sees c =
    find_seen c.args.now.now c.args.word c.look_at.result c.requires.deed c.look_at.ensures.looked.1

pub returns-clause-came : goal.returns-clause-came
returns-clause-came c = λ first from came. (
  c.look_at.ensures.table ∙ came.0,
  subst (λ (t : TableId). HasComeBySweep t.words from c.look_at.new.seat.me
      (after_step c.look_at.result c.args.now.now)) (sym c.look_at.ensures.table)
      (come_on c.args.self.now.table_id.words from c.args.self.now.me c.look_at.new.seat.me c.args.now.now
      c.look_at.result came.1 (look_swept c.args.now.now c.args.word c.requires.deed) c.look_at.ensures.looked.1
      c.look_at.ensures.looked.0
      (look_reached c.args.now.now c.args.word c.look_at.result c.requires.deed c.look_at.ensures.looked.1)),
)

-- the words of the board are more than those of the table
pub look_at-requires-clause-word : goal.look_at-requires-clause-word
look_at-requires-clause-word c =
    let came = c.requires.came in
    subst (λ (t : TableId). c.args.word < t.words) c.requires.home (omega (arith, c.requires.within, came.2.1.of))
