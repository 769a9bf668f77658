use Rattle.std.proofs.{Common.string_bytes, lemmas.Result.on_ok_weaker}
use Rattle.dr_picture.proofs.Layers.{shows}
use Rattle.dr_picture.proofs.sheet.Sheet.push_to.Goals as goal

pub returns : goal.returns
returns c = on_ok_weaker c.push_foot.result (shows c.args.self.now
    (string_bytes c.args.out.now) (string_bytes c.push_head.new.out) (string_bytes c.push_layers.new.out)
    (string_bytes c.push_foot.new.out) c.in_ok-push_head.ensures c.in_ok-push_layers.ensures) c.push_foot.ensures
