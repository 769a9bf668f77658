-- An append that an opening makes, or is refused.
use Rattle.std.{specs.Prelude.Err, proofs.Common.{◌≡◌, refl, ap, sym, ◌∙◌, subst, ◌⊎◌, ℕ, arith, Option}}
use Rattle.dr_entry.specs.declared.record.Record.{Record}
use Rattle.dr_disk.{specs.{Disk.Told, Images.{Goes, IsLeft}}, proofs.Moments.Goes-last}
use Rattle.dr_io.specs.Faults.{Rose}
use Rattle.dr_log.specs.{Standing.IsBeforeOrAfter, State.{LogState, broken_off}, Voting.WasAppended}
use Rattle.dr_log.specs.declared.fault.LogFault.{LogFault}
use Rattle.dr_log.specs.declared.fault.LogFault.TheVariants as logs
use Rattle.dr_log_bytes.specs.{Content.{OnLog, with_record}, Grammar.StandFor}
use Rattle.dr_opening.specs.{Contents.StandSo, Logs.{Explains, HasStuck, IsWell}}
use Rattle.dr_opening.specs.declared.catching_up.CatchFault.{CatchFault, TheVariants.{DiskFault, LogFull}}

-- a log from which an append is made: it is well since `old`
pub record IsFrom {D : Type 0} (told : D → Option Told) (faults : D → ℕ) (old log : LogState D) : Type 0 where
  pub limit : log.limit ≡ old.limit
  pub well : IsWell told faults old log

-- an append that was refused
pub stuck_by : {D : Type 0} (T : Type 0) (told : D → Option Told) (faults : D → ℕ) (Step : OnLog → OnLog → Type 0)
    (Way : OnLog → Type 0) (old log new : LogState D) (r : Record) (why : LogFault) (answer : CatchFault)
    → WasAppended {T = T} told faults log new r (Err why)
    → IsFrom told faults old log → Step log.content (with_record r log.content)
    → Goes (told old.disk) (told new.disk) (λ s. StandSo Way) → (why ≡ logs.DiskFault → answer ≡ DiskFault)
    → ((len : ℕ) → why ≡ logs.LogFull len → answer ≡ LogFull len) → HasStuck told faults Step Way old new answer
stuck_by {D} T told faults Step Way old log new r logs.DiskFault answer did is step moments disk full = record {
  next = with_record r log.content;
  step = subst (λ c. Step c (with_record r log.content)) (sym content) step;
  limit = ap (λ (s : LogState D). s.limit) same ∙ is.limit;
  later = omega (arith, did.later, is.well.calm);
  reason = subst (Explains told faults new.content (with_record r log.content) old new) (sym (disk refl)) (
    ap (λ (s : LogState D). s.failed) same,
    subst (λ n. Rose n (faults new.disk)) is.well.calm (did.cause refl),
    subst (λ c. IsLeft (told new.disk) (λ image. StandFor image c ⊎ StandFor image (with_record r log.content)))
        (sym content) (Goes-last (told log.disk) (told new.disk) (IsBeforeOrAfter log.content r) did.any_moment),
  );
  moments = moments;
}
  where
    same : new ≡ broken_off log r new.disk
    same = did.fault refl

    content : new.content ≡ log.content
    content = ap (λ (s : LogState D). s.content) same
stuck_by {D} T told faults Step Way old log new r (logs.LogFull len) answer did is step moments disk full = record {
  next = with_record r log.content;
  step = subst (λ c. Step c (with_record r log.content)) (sym content) step;
  limit = ap (λ (s : LogState D). s.limit) same ∙ is.limit;
  later = omega (arith, did.later, is.well.calm);
  reason = subst (Explains told faults new.content (with_record r log.content) old new) (sym (full len refl)) (
    subst (IsWell told faults old) (sym same) is.well,
    did.limit.0 ∙ ap (λ (c : OnLog). c.length) (sym content),
    omega (arith, did.limit.0, did.limit.1, is.limit),
  );
  moments = moments;
}
  where
    same : new ≡ log
    same = did.full len refl

    content : new.content ≡ log.content
    content = ap (λ (s : LogState D). s.content) same
