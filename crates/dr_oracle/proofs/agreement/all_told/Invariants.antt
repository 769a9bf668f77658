use Rattle.std.proofs.Common.{◌≤◌, All, length, take}
use Rattle.dr_entry.specs.declared.end.MemberEnd.{MemberEnd}
use Rattle.dr_oracle.proofs.agreement.all_told.Given as goal

abbrev pub invariant-loop-end : goal.invariant-loop-end
invariant-loop-end l = All (λ (e : MemberEnd). e.logged ≤ length e.history) (take l.end-index l.ends)
