use Rattle.std.specs.{List.range_with_len, Prelude.map}
use Rattle.std.proofs.Common.{◌+◌, ◌*◌, ◌++◌, ◌∷◌, [], ap, sym, ◌∙◌, arith}
use Rattle.dr_entry.proofs.NumberFacts.{moved}
use Rattle.dr_drill.specs.Drill.{message, state_after}
use Rattle.dr_drill.proofs.Letters.{message_more, messages_whole, state_after-none, state_more}
use Rattle.dr_drill.proofs.script.messages.Goals as goal

pub loop-init : goal.loop-init
loop-init c = (state_after-none c.args.letters.now, c.in_ok-list.ensures.items)

pub loop-preserved : goal.loop-preserved
loop-preserved c =
    let x = c.args.letters.now in let n = c.loop.counter in let inv = c.loop.invariant in (
      c.message.ensures.state ∙ state_more x c.loop.letters (32 * n) 32 inv.0
          ∙ moved (state_after x) (32 * n + 32) (32 * (n + 1)) (omega arith),
      c.in_ok-push.ensures.items ∙ ap (λ m. c.loop.list.items ++ m ∷ []) (c.message.ensures.message
          ∙ ap (λ y. message y 0) inv.0)
          ∙ ap (λ ms. ms ++ message (state_after x (32 * n)) 0 ∷ []) inv.1 ∙ sym (message_more x n),
    )

pub returns-clause-messages : goal.returns-clause-messages
returns-clause-messages c =
    let x = c.args.letters.now in let n = c.loop.counter in
    c.of.ensures ∙ c.loop.invariant.1 ∙ moved (λ k. map (message x) (range_with_len 0 k)) n 400
    (omega (arith, c.loop-test.false, c.loop.auto.counter-end)) ∙ sym (messages_whole x)
