use Rattle.std.{specs.List.list_all, proofs.Common.{◌≡◌, ℕ, ◌&&◌, take}}
use Rattle.dr_history.specs.Members.{has}
use Rattle.dr_suspect.specs.Wishes.{is_silent}
use Rattle.dr_suspect.proofs.wish.wishable.Given as goal

abbrev pub invariant-loop-entry : goal.invariant-loop-entry
invariant-loop-entry l = (i : ℕ)
    → has l.left i ≡ (has l.fn.late i && list_all (is_silent l.age i) (take l.entry-index l.history))
