-- What a seat tells of what is due.
use Rattle.std.proofs.Common.{◌≡◌, ◌∙◌, ap, sym, ℕ}
use Rattle.dr_seat.specs.{Duties.HasNumber, Seats.{IsFree, IsTold, SeatOf}}
use Rattle.dr_seat.specs.declared.due.{Due.Due, Duty.Duty}
use Rattle.dr_seat.specs.declared.due.Due.TheVariants as due

-- it has the number of what is due
pub told-number : (s : SeatOf) (n : ℕ) (told : Due) → IsTold s told → (¬ IsFree s → s.duty.number ≡ n)
    → HasNumber n told
told-number s n (due.Write number at bytes) t k =
    sym (ap (λ (d : Duty). d.number) t.1) ∙ k (λ free. cc (free, ap (λ (d : Duty). d.pending) t.1))
told-number s n (due.Sync number) t k =
    sym (ap (λ (d : Duty). d.number) t) ∙ k (λ free. cc (free, ap (λ (d : Duty). d.pending) t))
told-number s n (due.Send number to packet) t k =
    sym (ap (λ (d : Duty). d.number) t.0) ∙ k (λ free. cc (free, ap (λ (d : Duty). d.pending) t.0))
told-number s n (due.End number end) t k =
    sym (ap (λ (d : Duty). d.number) t) ∙ k (λ free. cc (free, ap (λ (d : Duty). d.pending) t))
told-number s n due.Wait t k = tt
