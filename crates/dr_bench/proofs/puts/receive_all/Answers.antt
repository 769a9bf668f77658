use Rattle.std.proofs.Common.{◌<◌, rules, arith}
use Rattle.dr_words.specs.Form.{IsInForm}
use Rattle.dr_bench.proofs.{Items.received_one, puts.receive_all.Goals.{then-row-ne-ME, else-row-ne-ME}}
use Rattle.dr_bench.proofs.puts.receive_all.Goals as goal

pub loop-row-preserved : goal.loop-row-preserved
loop-row-preserved c =
    let known = c.loop-row.invariant in
    let fits = known.rows.rows.fits in
    let some : 0 < c.loop-row.rows.members = omega (arith, known.rows.rows.form.present) in
    let form : IsInForm c.loop-row.rows.members c.recv_column-column.result c.pack_recv-word.result =
    rw c.recv_column-column.ensures.value (c.pack_recv-word.ensures.in_form c.loop-row.rows.members 0 some) in
    elim c.if-row-ne-ME.branch [
      | then-row-ne-ME w ↦ rw w.rows-is
          (received_one c.args.shape.now c.pack_recv-word.result c.loop-row.rows w.look.new.self
          c.loop-row.row c.recv_column-column.result
          known w.look.ensures.after w.look.ensures.form (search rules) (search rules) (search rules) form)
      | else-row-ne-ME w ↦ rw w.rows-is known
    ]
