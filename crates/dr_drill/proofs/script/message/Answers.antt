use Rattle.std.{specs.Prelude.MatchOption, proofs.lemmas.List.Edits.fill_by_more}
use Rattle.std.proofs.Common.{◌≡◌, ◌+◌, ◌<◌, ap, subst, ◌∙◌, arith, get_or, length, set, refl, length-set}
use Rattle.dr_entry.proofs.NumberFacts.{moved}
use Rattle.dr_drill.{specs.Drill.letter, proofs.Letters.{letter-add, message_filled, state_after-none, state_one}}
use Rattle.dr_drill.proofs.script.message.Goals as goal

pub loop-i-init : goal.loop-i-init
loop-i-init c = (state_after-none c.args.letters.now, refl, λ k below. absurd (omega (arith, below)))

pub loop-i-preserved : goal.loop-i-preserved
loop-i-preserved c =
    let x = c.args.letters.now in let i = c.loop-i.i in let inv = c.loop-i.invariant in
    let is = c.letter.ensures.letter ∙ ap (λ y. letter y 0) inv.0 ∙ letter-add x i 0
    ∙ moved (letter x) (i + 0) i (omega arith) in (
      c.letter.ensures.state ∙ state_one x c.loop-i.letters i inv.0,
      length-set c.loop-i.bytes i c.letter.result ∙ inv.1,
      λ k below. ap (λ b. get_or (set c.loop-i.bytes i b) k 0) is
          ∙ fill_by_more (letter x) c.loop-i.bytes i 0 (omega (arith, inv.1, c.loop-i-test.true)) inv.2 k below,
    )

pub returns-clause-message : goal.returns-clause-message
returns-clause-message c =
    let bytes = c.loop-i.bytes in
    let filled = message_filled c.args.letters.now bytes c.loop-i-test.array_long
    (λ k below. c.loop-i.invariant.2 k (omega (arith, below, c.loop-i-test.false))) in
    subst (λ o. MatchOption o (64 < length bytes) (λ m. m ≡ bytes)) c.unwrap.ensures c.of.ensures.value ∙ filled
