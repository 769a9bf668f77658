use Rattle.std.{specs.List.list_all, proofs.Common.{◌≡◌, ◌==◌, drop}}
use Rattle.dr_program.specs.Replica.{all_done}
use Rattle.dr_rows.specs.Words.{seen}
use Rattle.dr_words.specs.declared.column.TheConstants.{DONE_COLUMN}
use Rattle.dr_replica.proofs.replica.Replica.all_done.Given as goal

abbrev pub invariant-loop-member : goal.invariant-loop-member
invariant-loop-member l = list_all (λ i. seen l.self.rows i DONE_COLUMN == 1)
    (drop l.member-index l.member-items) ≡ all_done l.self
