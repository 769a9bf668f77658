-- How a disk in memory keeps its calls: each without its bytes, and the bytes of all of them behind
-- one another.
use Rattle.std.specs.Prelude.{◌≡◌, ℕ, ◌+◌, List, [], ◌∷◌, length, take, drop}
use Rattle.dr_disk.specs.Calls as calls
use Rattle.dr_disk.specs.{Calls.{Call, content_after}, declared.kept.Step.Step}
use Rattle.dr_disk.specs.declared.kept.Step.TheVariants.{Write, FailedWrite, Cut, FailedCut, Sync}

-- how many bytes of the text belong to a step
abbrev pub bytes_of_step : Step → ℕ
bytes_of_step (Write at count) = count
bytes_of_step (FailedWrite at count) = 0
bytes_of_step (Cut to) = 0
bytes_of_step (FailedCut to) = 0
bytes_of_step Sync = 0

-- the call of a step whose bytes begin the text
abbrev pub call_of : Step → List ℕ → Call
call_of (Write at count) text = calls.Write at (take count text)
call_of (FailedWrite at count) text = calls.FailedWrite at count
call_of (Cut to) text = calls.Cut to
call_of (FailedCut to) text = calls.FailedCut to
call_of Sync text = calls.Sync

-- how long the text of these steps is
abbrev pub text_length : List Step → ℕ
text_length [] = 0
text_length (s ∷ steps) = bytes_of_step s + text_length steps

abbrev pub calls_of : List Step → List ℕ → List Call
calls_of [] text = []
calls_of (s ∷ steps) text = call_of s text ∷ calls_of steps (drop (bytes_of_step s) text)

-- the text is that of the steps, and the bytes are what their calls leave
pub record IsWhole (steps : List Step) (text bytes : List ℕ) : Type 0 where
  pub whole : length text ≡ text_length steps
  pub same : bytes ≡ content_after (calls_of steps text)
