-- What is certain of the last line behind the ages of shards.
use Rattle.std.proofs.Common.{◌≡◌, sym, ap, ◌∙◌, arith, Some, refl, false, None}
use Rattle.std.proofs.lemmas.Option.{same_Some, none-some}
use Rattle.dr_entry.{specs.declared.end.End.End, proofs.NumberFacts.{IsRunEnd, apart}}
use Rattle.dr_entry.specs.declared.end.End.TheVariants as ends
use Rattle.dr_text.specs.declared.last.Last.{Last}
use Rattle.dr_text.specs.declared.last.Last.TheVariants as lasts
use Rattle.dr_yard.specs.Yards.{YardState}
use Rattle.dr_intake.specs.Status.{status_of}
use Rattle.dr_play.specs.Logged.{why_ended}
use Rattle.dr_outcome.specs.{Last.is_of, Outcome.SaysOnly, declared.last.Kind.TheVariants.{DiskFault, LogFull}}
use Rattle.dr_outcome.specs.declared.outcome.Outcome.{Outcome}

pub unplayed : (last : Last) (before after : YardState) (o : Outcome) → SaysOnly (Some lasts.Usage) before after o
    → o.last ≡ Some last → IsRunEnd (status_of last) → ⊥
unplayed last before after o says is end = apart 2 (status_of last) (λ e. omega (arith, e)) (λ e. omega (arith, e))
    (λ e. omega (arith, e)) (ap status_of (same_Some last lasts.Usage (sym is ∙ says.line))) end

-- an end that no log brought about is none of these
pub by_no_disk : (e : End) → why_ended e ≡ None → is_of DiskFault e ≡ false
by_no_disk ends.Done is = refl
by_no_disk ends.Crashed is = refl
by_no_disk (ends.Suspected by) is = refl
by_no_disk (ends.Excluded view) is = refl
by_no_disk (ends.NoMajority mask) is = refl
by_no_disk ends.DiskFault is = absurd (none-some _ (sym is))
by_no_disk (ends.LogFull len) is = refl
by_no_disk (ends.Spent turns) is = refl
by_no_disk ends.Absent is = refl

pub by_no_full_log : (e : End) → why_ended e ≡ None → is_of LogFull e ≡ false
by_no_full_log ends.Done is = refl
by_no_full_log ends.Crashed is = refl
by_no_full_log (ends.Suspected by) is = refl
by_no_full_log (ends.Excluded view) is = refl
by_no_full_log (ends.NoMajority mask) is = refl
by_no_full_log ends.DiskFault is = refl
by_no_full_log (ends.LogFull len) is = absurd (none-some _ (sym is))
by_no_full_log (ends.Spent turns) is = refl
by_no_full_log ends.Absent is = refl
