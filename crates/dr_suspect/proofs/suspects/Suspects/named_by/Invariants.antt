use Rattle.std.proofs.Common.{◌≡◌, ℕ, ◌<◌, false}
use Rattle.dr_suspect.specs.Suspicion.{names_me}
use Rattle.dr_suspect.proofs.suspects.Suspects.named_by.Given as goal

abbrev pub invariant-loop-row : goal.invariant-loop-row
invariant-loop-row l = (i : ℕ) → i < l.row → names_me l.self l.rows i ≡ false
