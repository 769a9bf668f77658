use Rattle.std.proofs.Common.{◌≡◌, ◌+◌, ℕ, IfSome, rules, subst}
use Rattle.dr_entry.proofs.OptionFacts.{next_due}
use Rattle.dr_io.specs.Sink.{Gains}
use Rattle.dr_progress.proofs.progress.Progress.say.Goals as goal

pub returns-in-Ok-write_all-clause-next : goal.returns-in-Ok-write_all-clause-next
returns-in-Ok-write_all-clause-next g c =
    let later : IfSome c.checked_add-self-inside.result (λ (due : ℕ). due ≡ c.args.now + 1000) = search rules in
    rw (← c.self.view_is)
    (next_due c.checked_add-self-inside.result c.args.now (g.T.Timer.told c.self.inside.timer) later (search rules)
    (subst (Gains (g.K.Sink.held c.self.inside.sink) (g.K.Sink.held c.write_all.new.sink)) (search rules)
    c.in-Ok-write_all.ensures.ok))
