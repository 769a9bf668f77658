-- Room on the log of a member.
use Rattle.std.specs.Prelude.{Option, None, slice_set}
use Rattle.std.proofs.Common.{◌≡◌, sym, ap, ◌∙◌, ℕ, ◌*◌, ◌-◌, max, false, length, arith, ◌<◌, List, ◌+◌, inl, inr, ◌++◌, drop, [], append-nil}
use Rattle.std.proofs.{Math.Nat.le-max_right, lemmas.List.{get_or-set_same, get_or-set_other, take-append-drop}}
use Rattle.dr_entry.specs.declared.{end.MemberEnd.MemberEnd, entry.Entry.Entry}
use Rattle.dr_disk.specs.Disk.{Told}
use Rattle.dr_history.specs.History.{IsPrefixOf}
use Rattle.dr_log.specs.State.{LogState}
use Rattle.dr_program.specs.{Presence.present_at, Running.Running}
use Rattle.dr_served.specs.{Left.IsLeftOf, Served.{IsRoomy, IsSafe}}

-- a log that got room for what a member may still append
pub roomy : {D : Type 0} (told : D → Option Told) (count : D → ℕ) (r : Running) (old new : LogState D)
    (n k : ℕ) → n ≡ r.replica.room - r.replica.logged
    → k ≡ r.replica.banks * r.replica.roster - length r.replica.votes → new ≡ record old {
      disk = new.disk;
      spare_entries = max old.spare_entries n;
      spare_votes = max old.spare_votes k;
      spare_others = max old.spare_others 3;
    } → told new.disk ≡ told old.disk → count new.disk ≡ count old.disk
    → (old.failed ≡ false → IsSafe told new) → IsRoomy told count r old new
roomy {D} told count r old new n k is are made tells calm safe = record {
  spare = omega (arith, is, ap (λ (l : LogState D). l.spare_entries) made, le-max_right old.spare_entries n);
  votes = omega (arith, are, ap (λ (l : LogState D). l.spare_votes) made, le-max_right old.spare_votes k);
  is = made ∙ (λ z. record old {
    disk = new.disk;
    spare_entries = sym (ap (λ (l : LogState D). l.spare_entries) made) z;
    spare_votes = sym (ap (λ (l : LogState D). l.spare_votes) made) z;
    spare_others = sym (ap (λ (l : LogState D). l.spare_others) made) z;
  });
  tells = tells;
  calm = calm;
  safe = safe;
}

-- what stands at place k once it was set, and at the others
pub here_set : {D : Type 0} (news : List (Option (LogState D))) (k : ℕ) (new : Option (LogState D)) → k < length news
    → present_at (slice_set news k new) k ≡ new
here_set news k new within = get_or-set_same news k new None within

pub others_set : {D : Type 0} (news : List (Option (LogState D))) (m k : ℕ) (new : Option (LogState D))
    → (m ≡ k → ⊥) → present_at (slice_set news k new) m ≡ present_at news m
others_set news m k new other = get_or-set_other news k m new None other

-- it is a part of the history
pub left_part : (e : MemberEnd) (es : List Entry) → IsLeftOf e.history e.logged es → IsPrefixOf es e.history
left_part e es (inl same) = (
  drop e.logged e.history,
  ap (λ (l : List Entry). l ++ drop e.logged e.history) same ∙ take-append-drop e.logged e.history,
)
left_part e es (inr (inl more)) = more.2
left_part e es (inr (inr whole)) = ([], append-nil es ∙ whole)
