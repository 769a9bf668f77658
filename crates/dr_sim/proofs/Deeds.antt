-- What the next deed of a member makes of it and of the table.
use Rattle.std.specs.Prelude.{None, Option, Some, slice_set}
use Rattle.std.proofs.Common.{◌≡◌, sym, ap, ◌∙◌, subst, ℕ, false, List, slice_index}
use Rattle.dr_entry.specs.{declared.entry.Entry.Entry, declared.record.Record.Record}
use Rattle.dr_history.specs.History.{up_to_view}
use Rattle.dr_program.specs.declared.deed.Deed.TheVariants as deeds
use Rattle.dr_program.specs.{Program.{after_deed, next_sight}, Reading.{step_due, step_of_member}}
use Rattle.dr_program.specs.Running.{Running, after_step, broken_off, next_deed, next_step, settled, took_letter}
use Rattle.dr_program.specs.{Sight.MaySee, Steps.{IsNoJoin, stored, stored_letters}, declared.outcome.LogWhy.LogWhy}
use Rattle.dr_program.{specs.declared.outcome.Outcome.TheVariants.{Failed, Ok}, proofs.Deeds.{append_gives, table_at}}
use Rattle.dr_program.proofs.{Programs.after_append, RunningPrograms.after_take, Search.settled_same}
use Rattle.dr_program.proofs.StepsAt.{none_failed}
use Rattle.dr_served.specs.Appended.{is_append}
use Rattle.dr_play.proofs.Deeds.{IsStoreAt, any_outcome, deed_tells}
use Rattle.dr_sim.specs.Deeds.{IsTaken, SeesWell, outcome_by, own_letter, posted, stores, went_so}

-- ---- a look

-- a member at a look may see the word that the table holds
pub look_seen : (table : List ℕ) (r : Running) (index : ℕ) → SeesWell table r
    → next_deed r ≡ deeds.Look index → MaySee r (step_of_member r) (slice_index table index)
look_seen table r index well is =
    let t = deed_tells table r (deeds.Look index) is in
    subst (MaySee r (step_of_member r)) t.says.sees
    (well t.says.row t.says.column (ap (step_due r) t.none ∙ ap Some t.says.look))

-- ---- what a deed makes of the member and the table

is_taken : (table : List ℕ) (posts : List (Option (List Entry))) (r : Running) (cells : List ℕ)
    (mails : List (Option (List Entry))) (x : Running) → r.replica.end ≡ None
    → x ≡ after_deed (next_sight table r) (own_letter posts r) (outcome_by x.failed) r (next_step r)
    → cells ≡ stored table r.replica (next_step r) → mails ≡ stored_letters posts r.replica (next_step r)
    → IsTaken table posts r cells mails x
is_taken table posts r cells mails x none member words letters = record {
  member = member ∙ sym (ap (went_so table (own_letter posts r) (outcome_by x.failed) r) none);
  table = words ∙ sym (ap (stores table r) none);
  letters = letters ∙ sym (ap (posted posts r) none);
}

-- by a deed that is no append and no take
pub other_taken : (table : List ℕ) (posts : List (Option (List Entry))) (r : Running) (cells : List ℕ)
    (mails : List (Option (List Entry))) (x : Running) → r.replica.end ≡ None → is_append (next_step r) ≡ false
    → IsNoJoin (next_step r) → x ≡ after_step (next_sight table r) r → cells ≡ stored table r.replica (next_step r)
    → mails ≡ stored_letters posts r.replica (next_step r) → IsTaken table posts r cells mails x
other_taken table posts r cells mails x none other stays member words letters =
    is_taken table posts r cells mails x none
    (member ∙ sym (any_outcome (next_sight table r) (own_letter posts r) (outcome_by x.failed) r (next_step r) other
    stays)) words letters

-- a member at a look takes it with the word that the table holds
pub look_taken : (table : List ℕ) (posts : List (Option (List Entry))) (r : Running) (index : ℕ) (x : Running)
    → next_deed r ≡ deeds.Look index → x ≡ after_step (slice_index table index) r
    → IsTaken table posts r table posts x
look_taken table posts r index x is member =
    let t = deed_tells table r (deeds.Look index) is in
    other_taken table posts r table posts x t.none (ap is_append t.says.look) t.says.no_join
    (member ∙ ap (λ w. after_step w r) (sym t.says.sees))
    (sym (ap (stored table r.replica) t.says.look)) (sym (t.says.posts posts))

-- a member at a push or an act takes it, and the word stands in the table
store_taken : (table : List ℕ) (posts : List (Option (List Entry))) (r : Running) (index word : ℕ)
    (cells : List ℕ) (x : Running) → r.replica.end ≡ None → IsStoreAt table r (next_step r) index word
    → ((seen : ℕ) → x ≡ after_step seen r) → cells ≡ slice_set table index word → IsTaken table posts r cells posts x
store_taken table posts r index word cells x none says member words =
    other_taken table posts r cells posts x none says.other says.no_join (member (next_sight table r))
    (words ∙ sym says.stores) (sym (says.posts posts))

pub push_taken : (table : List ℕ) (posts : List (Option (List Entry))) (r : Running) (index word : ℕ)
    (cells : List ℕ) (x : Running) → next_deed r ≡ deeds.Push index word
    → ((seen : ℕ) → x ≡ after_step seen r) → cells ≡ slice_set table index word → IsTaken table posts r cells posts x
push_taken table posts r index word cells x is = let t = deed_tells table r (deeds.Push index word) is in
    store_taken table posts r index word cells x t.none t.says

pub act_taken : (table : List ℕ) (posts : List (Option (List Entry))) (r : Running) (index word : ℕ)
    (cells : List ℕ) (x : Running) → next_deed r ≡ deeds.Act index word
    → ((seen : ℕ) → x ≡ after_step seen r) → cells ≡ slice_set table index word → IsTaken table posts r cells posts x
act_taken table posts r index word cells x is = let t = deed_tells table r (deeds.Act index word) is in
    store_taken table posts r index word cells x t.none t.says

-- a member at an append takes it where it goes well
pub append_taken : (table : List ℕ) (posts : List (Option (List Entry))) (r : Running) (due : Record) (x : Running)
    → next_deed r ≡ deeds.Append due → ((seen : ℕ) → x ≡ after_step seen r) → IsTaken table posts r table posts x
append_taken table posts r due x is member =
    let t = deed_tells table r (deeds.Append due) is in
    let well : x.failed ≡ None = ap (λ (y : Running). y.failed) (member 0 ∙ settled_same 0 r)
    ∙ none_failed r t.says.0 in
    is_taken table posts r table posts x t.none
    (member 0 ∙ sym (ap (λ o. after_deed (next_sight table r) (own_letter posts r) (outcome_by o) r (next_step r)) well
    ∙ after_append (next_sight table r) (own_letter posts r) Ok r (next_step r) t.says.0))
    (table_at table r t.says.0) (sym (append_gives posts r.replica (next_step r) t.says.0))

-- and where it fails
pub failure_taken : (table : List ℕ) (posts : List (Option (List Entry))) (r : Running) (due : Record) (why : LogWhy)
    (x : Running) → next_deed r ≡ deeds.Append due → x ≡ broken_off why r → IsTaken table posts r table posts x
failure_taken table posts r due why x is broken =
    let t = deed_tells table r (deeds.Append due) is in
    subst (IsTaken table posts r table posts) (sym broken) (is_taken table posts r table posts (broken_off why r) t.none
    (sym (after_append (next_sight table r) (own_letter posts r) (Failed why) r (next_step r) t.says.0))
    (table_at table r t.says.0) (sym (append_gives posts r.replica (next_step r) t.says.0)))

-- a member that gives a letter takes that deed, and the letter is there
pub give_taken : (table : List ℕ) (posts : List (Option (List Entry))) (r : Running) (j : ℕ)
    (mails : List (Option (List Entry))) (x : Running) → next_deed r ≡ deeds.Give j
    → ((seen : ℕ) → x ≡ after_step seen r) → mails ≡ slice_set posts j (Some (up_to_view r.replica.history))
    → IsTaken table posts r table mails x
give_taken table posts r j mails x is member letters =
    let t = deed_tells table r (deeds.Give j) is in
    other_taken table posts r table mails x t.none (ap is_append t.says) (subst IsNoJoin (sym t.says) tt)
    (member (next_sight table r)) (sym (ap (stored table r.replica) t.says))
    (letters ∙ sym (ap (stored_letters posts r.replica) t.says))

-- and a member that takes one goes by it
pub take_taken : (table : List ℕ) (posts : List (Option (List Entry))) (r x : Running) → next_deed r ≡ deeds.Take
    → x ≡ settled (took_letter (own_letter posts r) r) → IsTaken table posts r table posts x
take_taken table posts r x is member =
    let t = deed_tells table r deeds.Take is in
    is_taken table posts r table posts x t.none
    (member ∙ sym (after_take (next_sight table r) (own_letter posts r) (outcome_by x.failed) r (next_step r) t.says))
    (sym (ap (stored table r.replica) t.says)) (sym (ap (stored_letters posts r.replica) t.says))
