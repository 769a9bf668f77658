use Rattle.std.proofs.Common.{◌≡◌, Contains, true}
use Rattle.dr_entry.proofs.ListFacts.{KeepBelow}
use Rattle.dr_check.specs.Clauses.{first_members}
use Rattle.dr_check.proofs.members.is_nobody_late.Given as goal

abbrev pub invariant-loop-s : goal.invariant-loop-s
invariant-loop-s l = KeepBelow (λ s m. m.present ≡ true → Contains (first_members l.age l.member) s) l.age.members l.s
