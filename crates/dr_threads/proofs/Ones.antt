-- The run of one member: its log before, and behind it.
use Rattle.std.specs.Prelude.{None, Option, Some, option_map}
use Rattle.std.proofs.Common.{◌≡◌, refl, sym, ap, ◌∙◌, subst, inl, ℕ, ◌*◌, ◌-◌, max, false, List, [], ◌∷◌, length, map, arith}
use Rattle.dr_disk.{specs.Disk.Told, proofs.Moments.lasts_still}
use Rattle.dr_log.{specs.{Standing.{HasAllOf, LosesNone}, State.LogState}, proofs.Ordinary.has_itself}
use Rattle.dr_served.{specs.Served.{HasServed, IsReady, IsSafe}, proofs.{Rooms.roomy, Served.put_places}}
use Rattle.dr_served.proofs.Serving.{begins}
use Rattle.dr_program.{specs.{Presence.present_at, Running.Running}, proofs.Present.{nobody, only_one}}
use Rattle.dr_table.specs.{Cards.{AreAtEnd, Cards, DealtTable, IsAtEnd}, Rule.number}
use Rattle.dr_threads.specs.{Course.{HasGone, HaveRun}, Logs.{AreLonger, IsFor, IsLonger}}

-- ---- lists of one place

module _ {D : Type 0} (told : D → Option Told) (faults : D → ℕ) where
  -- the log got room for all that its member may append: it is ready, and has served it so far
  pub opened_ready : (old new : LogState D) (r : Running) (n k : ℕ) → IsFor old r
      → n ≡ r.replica.room - r.replica.logged → k ≡ r.replica.banks * r.replica.roster - length r.replica.votes
      → new ≡ record old {
        disk = new.disk;
        spare_entries = max old.spare_entries n;
        spare_votes = max old.spare_votes k;
        spare_others = max old.spare_others 3;
      } → told new.disk ≡ told old.disk → faults new.disk ≡ faults old.disk
      → (old.failed ≡ false → IsSafe told new) → HasServed told faults old new r × IsReady new r
  opened_ready old new r n k is left votes made tells calm safe = begins told faults old new r
      (roomy told faults r old new n k left votes made tells calm safe) is.whole is.entries is.logged is.votes is.none

  -- no room was got
  pub reserve_longer : (old new : LogState D) → new ≡ record old { disk = new.disk } → told new.disk ≡ told old.disk
      → faults new.disk ≡ faults old.disk → AreLonger told faults (Some old ∷ []) (Some new ∷ [])
  reserve_longer old new made tells calm = record {
    places = put_places (Some old ∷ []) old new 0 refl;
    each = λ k was now from to. subst (λ x. IsLonger told faults x now) (only_one old was k from).1
        (subst (λ x. IsLonger told faults old x) (only_one new now k to).1 (record {
          has = subst (HasAllOf old.content) (sym (ap (λ (l : LogState D). l.content) made)) (has_itself old.content);
          moments = inl tells;
          lasting = λ first. rw tells (lasts_still (told old.disk) (LosesNone first));
          later = omega (arith, calm);
        }));
  }

  -- the member has run to its end
  pub run_served : (table : DealtTable) (r q : Running) (old log new : LogState D) (after : Cards)
      → after.table ≡ table → after.members ≡ Some q ∷ [] → IsAtEnd q → HasGone told faults r log q new
      → HasServed told faults old log r
      → HaveRun told faults table (Some r ∷ []) (Some old ∷ []) after (Some new ∷ [])
  run_served table r q old log new after home is ended gone served = record {
    over = record {
      home = home;
      same = ap (map (option_map number)) is ∙ ap (λ n. Some n ∷ []) gone.same;
      ended = subst AreAtEnd (sym is) (λ k x there. subst IsAtEnd (only_one q x k there).1 ended);
    };
    places = put_places (Some old ∷ []) old new 0 refl;
    served = λ k base now x from to there. subst (λ z. HasServed told faults z now x) (only_one old base k from).1
        (subst (λ z. HasServed told faults old z x) (only_one new now k to).1
        (subst (HasServed told faults old new) (only_one q x k (ap (λ l. present_at l k) (sym is) ∙ there)).1
        (gone.served old served)));
  }

  -- nobody is there: there is nothing to run
  pub none_run : (table : DealtTable) (hand : Cards) (logs : List (Option (LogState D))) → hand.table ≡ table
      → hand.members ≡ None ∷ [] → HaveRun told faults table hand.members logs hand logs
  none_run table hand logs home empty = record {
    over = record { home = home; same = refl; ended = λ k r there. absurd (nobody hand.members k r empty there) };
    places = record { all = refl; each = λ k. refl };
    served = λ k base now r from to there. absurd (nobody hand.members k r empty there);
  }
