-- What comes of a log that was read.
use Rattle.std.proofs.Common.{◌≡◌, ℕ, List, [], Option, Result, Ok, Err, IfErr, IfOk, string_bytes}
use Rattle.dr_intake.specs.{Reading.WasReadTo, Status.WroteText, declared.answer.Answer.Answer}
use Rattle.dr_io.specs.Sink.{Gains}
use Rattle.dr_tools.specs.{LogPrinted.{Printed, no_memory, printed}, LogText.IsSaid}

pub log_told : {E : Type 0} (r : Result Answer E) (bytes : List ℕ) (old new held holds : Option (List ℕ))
    (failed fails fell falls status : ℕ) → WasReadTo 2147483649 old new bytes
    → IfOk r (λ a. IsSaid bytes (string_bytes a.text) a.status)
    → IfOk r (λ a. WroteText held holds fell falls status a.status (string_bytes a.text))
    → IfErr r (λ _. (status ≡ 10) × Gains held holds []) → Printed old new failed fails held holds fell falls status
log_told (Ok a) bytes old new held holds failed fails fell falls status was told wrote wanting = printed (record {
  bytes = bytes;
  was_read = was;
  text = string_bytes a.text;
  due = a.status;
  told = told;
  wrote = wrote;
})
log_told (Err e) bytes old new held holds failed fails fell falls status was told wrote wanting =
    no_memory wanting.0 wanting.1
