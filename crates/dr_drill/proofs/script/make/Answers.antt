use Rattle.std.proofs.Common.{◌≡◌, ◌+◌, ◌*◌, ◌++◌, ◌∷◌, [], ap, sym, subst, ◌∙◌, arith, rules}
use Rattle.dr_entry.proofs.NumberFacts.{moved}
use Rattle.dr_script.specs.{Ranges.HasRanges, declared.script.{Schedule.TheVariants.Lockstep, Script.Script}}
use Rattle.dr_drill.specs.Drill.{drill, messages_of_member, state_after}
use Rattle.dr_drill.proofs.{Letters.{messages_more, state_after-none, state_more}, Ranges.drill_ranges}
use Rattle.dr_drill.proofs.script.make.Goals as goal

pub loop-init : goal.loop-init
loop-init c = (c.new-letters.ensures ∙ state_after-none c.args.seed, c.in_ok-lists.ensures.items)

pub loop-preserved : goal.loop-preserved
loop-preserved c =
    let x = c.args.seed in let n = c.loop.counter in let inv = c.loop.invariant in (
      c.in_ok-messages.ensures.state ∙ state_more x c.loop.letters (32 * 400 * n) (32 * 400) inv.0
          ∙ moved (state_after x) (32 * 400 * n + 32 * 400) (32 * 400 * (n + 1)) (omega arith),
      c.in_ok-push.ensures.items ∙ ap (λ m. c.loop.lists.items ++ m ∷ []) (c.in_ok-messages.ensures.messages
          ∙ ap (λ y. messages_of_member y 0) inv.0)
          ∙ ap (λ ms. ms ++ messages_of_member (state_after x (32 * 400 * n)) 0 ∷ []) inv.1 ∙ sym (messages_more x n),
    )

pub returns-clause-ranges : goal.returns-clause-ranges
returns-clause-ranges c =
    let made : Script = record {
      members = 5;
      window = 8;
      turns = 1808;
      patience = 3;
      ages = 1;
      messages = c.of.result;
      faults = c.of-2.result;
      schedule = Lockstep;
    } in
    let is : made ≡ drill c.args.seed = search rules in subst HasRanges (sym is) (drill_ranges c.args.seed)
