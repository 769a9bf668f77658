use Rattle.std.proofs.{Common.{◌∙◌, ◌+◌, ap, drop, fold, map, max, rules}, lemmas.List.at_drop_more}
use Rattle.dr_tools.specs.Summary.{turns_in}
use Rattle.dr_tools.proofs.summary.turns.most_turns.Goals as goal

pub loop-age-preserved : goal.loop-age-preserved
loop-age-preserved c = c.loop-age.invariant ∙ at_drop_more (λ xs. fold max c.loop-age.most
    (map turns_in xs)) c.args.ages.now c.loop-age.age-index c.age-item.result (search rules)
    ∙ ap (λ n. fold max n (map turns_in (drop (c.loop-age.age-index + 1) c.args.ages.now))) (search rules)
