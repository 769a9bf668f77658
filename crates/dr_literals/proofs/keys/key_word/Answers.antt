use Rattle.std.proofs.{Common.{length, ap, arith}, lemmas.List.{length_push, length-drop}}
use Rattle.dr_literals.proofs.Digits.{key_more}
use Rattle.dr_literals.proofs.keys.key_word.Goals as goal

pub loop-left-preserved : goal.loop-left-preserved
loop-left-preserved c =
    let left = c.loop-left.left.now in let inv = c.loop-left.invariant in let key = c.loop-left.key.items in
    let pushed = c.push.ensures.items in (
      key_more c.args.word.now left key c.split_at.result.0.now c.split_at.result.1.now
          c.push.new.self.items c.in_ok-byte.byte inv.0 c.loop-left-test.true c.split_at.ensures.front
          c.split_at.ensures.back c.in_ok-byte.ensures pushed,
      omega (
        arith,
        inv.1,
        ap length pushed,
        length_push key c.in_ok-byte.byte,
        ap length c.split_at.ensures.back,
        length-drop 2 left,
        c.loop-left-test.true,
      ),
    )
