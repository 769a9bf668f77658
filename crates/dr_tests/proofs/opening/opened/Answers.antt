use Rattle.std.proofs.Common.{◌≡◌, ◌∙◌, sym, subst, ℕ, false, List, Option, Some}
use Rattle.dr_disk.specs.declared.memory_disk.MemoryDisk.{MemoryDisk}
use Rattle.dr_log.specs.State.{LogState}
use Rattle.dr_opening.specs.Lists.{SomebodyPrompt, log_of}
use Rattle.dr_tests.proofs.opening.opened.Goals as goal

pub open_age-answer-requires-clause-whole : goal.open_age-answer-requires-clause-whole
open_age-answer-requires-clause-whole c κs =
    subst (λ (l : List (Option (LogState MemoryDisk))). (m : ℕ) (log : LogState MemoryDisk)
    → log_of l m ≡ Some log → log.failed ≡ false) (sym c.as_mut_slice.ensures.value) c.in_ok-logs.ensures.whole

pub open_age-answer-requires-clause-prompt : goal.open_age-answer-requires-clause-prompt
open_age-answer-requires-clause-prompt c κs = λ m log at.
    subst (λ (l : List (Option (LogState MemoryDisk))). SomebodyPrompt c.in_ok-late.late l)
    (c.as_slice-2.ensures.value ∙ sym c.as_mut_slice.ensures.value) c.in_ok-late.ensures
