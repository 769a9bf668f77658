use Rattle.std.proofs.Common.{◌&&◌, not, sym, ap, ◌∙◌}
use Rattle.dr_entry.proofs.BoolFacts.{newcomer_test}
use Rattle.dr_history.specs.Members.{has}
use Rattle.dr_program.specs.Replica.{Replica}
use Rattle.dr_replica.proofs.replica.Replica.lacks_letter.Goals as goal

pub returns-then-has : goal.returns-then-has
returns-then-has c =
    let a = c.self.inside in
    let j = c.args.member in
    ap (λ b. b && not c.has-then-has.result) (sym c.if-has.true)
    ∙ ap (λ b. c.has.result && not b) c.has-then-has.ensures ∙ newcomer_test (has a.members j)
    (has a.came_from j) (has a.given j) c.has.result (c.has.ensures ∙ c.newcomers.ensures.members j)
    ∙ ap (λ (r : Replica). has r.members j && (not (has r.came_from j) && not (has r.given j))) c.self.view_is

pub returns-else-has : goal.returns-else-has
returns-else-has c =
    let a = c.self.inside in
    let j = c.args.member in
    c.if-has.false ∙ sym (ap (λ b. b && not (has a.given j)) c.if-has.false) ∙ newcomer_test (has a.members j)
    (has a.came_from j) (has a.given j) c.has.result (c.has.ensures ∙ c.newcomers.ensures.members j)
    ∙ ap (λ (r : Replica). has r.members j && (not (has r.came_from j) && not (has r.given j))) c.self.view_is
