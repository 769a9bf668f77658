use Rattle.dr_bench.proofs.Items.{put_kept}
use Rattle.dr_bench.proofs.puts.put_if_free.Goals as goal

pub returns-then-is_free : goal.returns-then-is_free
returns-then-is_free c =
    put_kept c.args.shape.now c.args.rows.now c.put.new.rows c.args.k c.args.item.now c.requires.rows c.requires.item
    c.put.ensures.after c.put.ensures.form c.put.ensures.in_form
