-- What doors do with their logs.
use Rattle.std.specs.Prelude.{Option, None, Some, slice_index_or}
use Rattle.std.proofs.Common.{◌≡◌, refl, ap, sym, ◌∙◌, inl, subst, ℕ, ◌≤◌, true, false, [], ◌∷◌, ◌++◌, append_assoc, length, take}
use Rattle.std.proofs.lemmas.{List.{take-append-le, take_more}, Option.slice_get_within}
use Rattle.dr_door.specs.Lone.{Lone, after_alone, after_asking, after_push, done_alone, is_alone, pushed_on, went_on}
use Rattle.dr_entry.specs.declared.{end.End.End, entry.Entry.{Entry, TheVariants.View}}
use Rattle.dr_entry.specs.declared.record.{Record.Record}
use Rattle.dr_kept.specs.Leaving.{HasJustLogged}
use Rattle.dr_log_bytes.specs.Content.{OnLog, with_record}
use Rattle.dr_machine.specs.declared.step.Step.{Step}
use Rattle.dr_machine.specs.declared.step.Step.TheVariants as steps
use Rattle.dr_program.specs.{Form.IsRunningMember, Replica.{Replica, vote_of}, Steps.stepped}
use Rattle.dr_program.specs.Running.{Running, after_step, deed, deed_of, next_deed, next_step}
use Rattle.dr_program.specs.declared.deed.Deed.{Deed}
use Rattle.dr_program.specs.declared.deed.Deed.TheVariants as deeds
use Rattle.dr_program.proofs.Search.{settled_same, settled_took}
use Rattle.dr_served.proofs.{Served.{IsAppendOf, to_append}, Serving.{Grows, grows}}
use Rattle.dr_served.specs.Appended.{is_append}
use Rattle.dr_program.proofs.Replicas.{MayCome}
use Rattle.dr_kept.proofs.Appending.{may_come}

-- what was logged is logged while more is delivered
just-grown : (base : OnLog) (r q : Replica) (c : OnLog) → Grows r q → r.logged ≤ length r.history
    → HasJustLogged base r c → HasJustLogged base q c
just-grown base r q c g within j = record {
  entries = j.entries ∙ sym (ap (λ k. take k q.history) g.logged ∙ ap (take r.logged) g.history
      ∙ take-append-le r.logged r.history g.more within);
  votes = j.votes ∙ ap (λ vs. base.votes ++ vs) (sym g.votes);
  age_votes = j.age_votes;
}

-- a step that is no append
just-step : (word : ℕ) (base : OnLog) (r : Running) (c : OnLog) → is_append (next_step r) ≡ false
    → IsRunningMember r → HasJustLogged base r.replica c → HasJustLogged base (after_step word r).replica c
just-step word base r c other form j = subst (λ (x : Running). HasJustLogged base x.replica c)
    (sym (settled_same word r))
    (just-grown base r.replica (stepped word r.replica (next_step r)) c (grows word r.replica (next_step r) other)
    form.replica.logged j)

-- an append
pub just-append : (base : OnLog) (r : Running) (what : Record) (c : OnLog) → next_deed r ≡ deeds.Append what
    → IsRunningMember r → HasJustLogged base r.replica c
    → HasJustLogged base (after_step 0 r).replica (with_record what c)
just-append base r what c due form j = subst (λ (x : Running). HasJustLogged base x.replica (with_record what c))
    (sym (settled_same 0 r)) (by (next_step r) (to_append r what due).step (may_come r what form (inl due)))
  where
    by : (s : Step) → IsAppendOf r s what → MayCome r.replica what
        → HasJustLogged base (stepped 0 r.replica s) (with_record what c)
    by steps.Append is may =
        let e : Entry = slice_index_or r.replica.history r.replica.logged (View 0 0 0) in
        subst (λ x. HasJustLogged base (stepped 0 r.replica steps.Append) (with_record x c)) (sym is) (record {
          entries = ap (λ xs. xs ++ e ∷ []) j.entries ∙ sym (take_more r.replica.history r.replica.logged (View 0 0 0)
              (slice_get_within r.replica.history r.replica.logged e (subst (MayCome r.replica) is may)));
          votes = j.votes;
          age_votes = j.age_votes;
        })
    by (steps.LogVote v) is may = subst (λ x. HasJustLogged base (stepped 0 r.replica (steps.LogVote v))
        (with_record x c)) (sym is) (record {
          entries = j.entries;
          votes = ap (λ vs. vs ++ vote_of r.replica v ∷ []) j.votes
              ∙ append_assoc base.votes r.replica.votes (vote_of r.replica v ∷ []);
          age_votes = j.age_votes;
        })
    by s is may = absurd is

-- ---- deeds

-- a deed that is neither an append nor a rest
abbrev is-other : Deed → Type 0
is-other (deeds.Append what) = ⊥
is-other (deeds.Rest end) = ⊥
is-other d = Unit {0}

no-append : (r : Running) (d : Deed) → next_deed r ≡ d → is-other d → is_append (next_step r) ≡ false
no-append r d due other = by r.replica.end refl
  where
    step : (s : Step) → deed_of r s ≡ d → is_append s ≡ false
    step steps.Append e = absurd (subst is-other (sym e) other)
    step (steps.LogVote v) e = absurd (subst is-other (sym e) other)
    step (steps.Do a) e = refl
    step (steps.Look i c) e = refl
    step (steps.Push j c) e = refl
    step (steps.Welcome j) e = refl
    step steps.Join e = refl

    by : (o : Option End) → r.replica.end ≡ o → is_append (next_step r) ≡ false
    by None none = step (next_step r) (sym (ap (deed r) none) ∙ due)
    by (Some end) ended = absurd (subst is-other (sym (sym (ap (deed r) ended) ∙ due)) other)

pub just-alone : (base : OnLog) (d : Lone) (c : OnLog) → is_alone (next_deed d.member) ≡ true
    → IsRunningMember d.member → HasJustLogged base d.member.replica c
    → HasJustLogged base (done_alone d).member.replica c
just-alone base d c alone form j = by (next_deed d.member) refl alone
  where
    by : (due : Deed) → next_deed d.member ≡ due → is_alone due ≡ true
        → HasJustLogged base (after_alone d due).member.replica c
    by (deeds.Look index) e a = just-step _ base d.member c (no-append d.member _ e tt) form j
    by (deeds.Act index word) e a = just-step 0 base d.member c (no-append d.member _ e tt) form j
    by due e a = absurd (cc a)

pub just-push : (base : OnLog) (d : Lone) (c : OnLog) (index word : ℕ) → next_deed d.member ≡ deeds.Push index word
    → IsRunningMember d.member → HasJustLogged base d.member.replica c
    → HasJustLogged base (pushed_on d).member.replica c
just-push base d c index word due form j = subst (λ x. HasJustLogged base (after_push d x).member.replica c) (sym due)
    (just-step 0 base d.member c (no-append d.member _ due tt) form j)

pub just-give : (base : OnLog) (d : Lone) (c : OnLog) (late : ℕ) → next_deed d.member ≡ deeds.Give late
    → IsRunningMember d.member → HasJustLogged base d.member.replica c
    → HasJustLogged base (went_on d).member.replica c
just-give base d c late due form j = just-step 0 base d.member c (no-append d.member _ due tt) form j

pub just-ask : (base : OnLog) (d : Lone) (c : OnLog) → HasJustLogged base d.member.replica c
    → HasJustLogged base (after_asking None d).member.replica c
just-ask base d c j = subst (λ (x : Running). HasJustLogged base x.replica c) (sym (settled_took None d.member)) j
