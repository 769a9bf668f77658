-- Members of a mask, and what the ends of an age tell of their logs.
use Rattle.std.proofs.Common.{◌≡◌, ℕ, ◌≤◌, Bool, true, Decides, All, List, slice_get, length}
use Rattle.dr_entry.specs.declared.end.MemberEnd.{MemberEnd}
use Rattle.dr_history.specs.{Agreement.EndsAgreed, Members.has, declared.opening.Opening.Opening}
use Rattle.dr_history.proofs.Histories.{log_is_front}
use Rattle.dr_oracle.specs.Agreeing.{AgreesWithAll}

-- the members of an age that has ended agree where each that is there agrees with all
pub EndsAgreed-decides : (o : Opening) (ends : List MemberEnd) (b : Bool)
    → Decides b (All (λ (e : MemberEnd). e.logged ≤ length e.history) ends
    × ((i : ℕ) → has o.present i ≡ true → AgreesWithAll o ends i)) → Decides b (EndsAgreed o ends)
EndsAgreed-decides o ends b is = (
  λ t. let all = is.0 t in
      record {
        told = all.0;
        agreed = record {
          prefix = λ i j here there. ((all.1 i here).consistent j there).1;
          ordered = λ i here. (all.1 i here).ordered;
          same_past = λ i j here there. ((all.1 i here).consistent j there).0;
          logged = λ i here. log_is_front (slice_get ends i);
          durable = λ i here. (all.1 i here).durable;
        };
      },
  λ f. is.1 (
    f.told,
    λ i here. record {
      ordered = f.agreed.ordered i here;
      consistent = λ j there. (f.agreed.same_past i j here there, f.agreed.prefix i j here there);
      durable = f.agreed.durable i here;
    },
  ),
)
