use Rattle.std.proofs.Common.{◌≡◌, ◌==◌, ◌&&◌, true, false, sym, ap, ap₂, ◌∙◌}
use Rattle.dr_history.specs.Members.{has}
use Rattle.dr_program.{specs.Replica.is_welcomer, proofs.Voting.view_small}
use Rattle.dr_replica.specs.Inside.{replica_inside}
use Rattle.dr_words.{specs.Masks.least_of, proofs.Masks.{both_of, welcomer_is}}
use Rattle.dr_replica.proofs.replica.Replica.is_welcomer.Goals as goal

pub returns-then-has : goal.returns-then-has
returns-then-has c =
    let a = c.self.inside in
    let here : has a.came_from a.rows.me ≡ true =
    ap (has a.came_from) (sym c.me-me.ensures.me) ∙ sym c.has.ensures ∙ c.if-has.true in
    ap₂ (λ x m. x == m) (c.unwrap_or.ensures ∙ welcomer_is a.came_from a.members c.welcomer.result
    (view_small (replica_inside a) c.self.invariant.form) c.welcomer.ensures.none c.welcomer.ensures.both
    c.welcomer.ensures.least) c.me-me.ensures.me
    ∙ sym (ap (λ b. b && (least_of (both_of a.came_from a.members) == a.rows.me)) here)
    ∙ ap is_welcomer c.self.view_is

pub returns-else-has : goal.returns-else-has
returns-else-has c =
    let a = c.self.inside in
    let here : has a.came_from a.rows.me ≡ false =
    ap (has a.came_from) (sym c.me-me.ensures.me) ∙ sym c.has.ensures ∙ c.if-has.false in
    c.if-has.false ∙ sym (ap (λ b. b && (least_of (both_of a.came_from a.members) == a.rows.me)) here)
    ∙ ap is_welcomer c.self.view_is
