use Rattle.std.proofs.Common.{List, ap, ◌∙◌}
use Rattle.dr_entry.specs.declared.entry.Entry.{Entry}
use Rattle.dr_program.specs.Running.{told}
use Rattle.dr_suspect.specs.{Suspicion.{Suspicion, spread_of}, Wishes.may_wish}
use Rattle.dr_replica.proofs.replica.Replica.told.Goals as goal

pub returns : goal.returns
returns c =
    let a = c.self.inside in
    c.next_spread.ensures.value ∙ ap (λ (es : List Entry). spread_of a.suspects
    (may_wish es a.age a.late) a.rows) c.entries-history.ensures.entries ∙ ap (λ (s : Suspicion). spread_of s
    (may_wish a.history.entries a.age a.late) a.rows) c.self.invariant.suspicion ∙ ap told c.self.view_is
