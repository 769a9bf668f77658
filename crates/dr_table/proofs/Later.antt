-- No step leads a member to an earlier view.
use Rattle.std.proofs.Common.{subst, ◌≤◌, List, [], ◌∷◌, arith}
use Rattle.dr_program.specs.{Program.appended_as, Running.Running, declared.outcome.Outcome.Outcome}
use Rattle.dr_program.proofs.Deeds.{appended_later}
use Rattle.dr_table.specs.Steps.{HasAppended}

pub appends_later : (os : List Outcome) (r q : Running) → HasAppended os r q → r.replica.view ≤ q.replica.view
appends_later [] r q same = subst (λ (x : Running). r.replica.view ≤ x.replica.view) same (omega arith)
appends_later (o ∷ os) r q (due, more) =
    let first = appended_later o r in
    let rest = appends_later os (appended_as o r) q more in omega (arith, first, rest)
