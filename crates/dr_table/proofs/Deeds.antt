-- Deeds that store, appends, and which program a deed makes.
use Rattle.std.specs.Prelude.{None, Some, Option, slice_index_or}
use Rattle.std.proofs.Common.{◌≡◌, refl, sym, ap, ◌∙◌, subst, ℕ, List, [], ◌∷◌, set-set, ◌<◌, arith}
use Rattle.dr_entry.specs.declared.entry.Entry.{Entry}
use Rattle.dr_program.specs.{Form.HasForm, Program.{IsRanFrom, Program, after_deed, appended_as, next_sight, ran}}
use Rattle.dr_program.specs.{Presence.{present_at, with_present}, declared.{deed.Deed.Deed, outcome.Outcome.Outcome}}
use Rattle.dr_program.specs.Running.{after_step, settled, took, took_letter, Running, next_deed, next_step, deed, deed_of}
use Rattle.dr_program.{specs.Steps.{stored, stored_letters}, proofs.Present.{present_within, present_set, set_itself}}
use Rattle.dr_program.proofs.{Deeds.{append_gives, append_stores, deed_ran, settle_replica}, Programs.after_append}
use Rattle.dr_program.proofs.Fixed.{told, appended_told, join_told, step_told, Told}
use Rattle.dr_program.specs.declared.deed.Deed.TheVariants as deeds
use Rattle.dr_program.specs.declared.outcome.Outcome.TheVariants as outcomes
use Rattle.dr_play.proofs.{Deeds.{IsStoreAt, deed_tells}, LoggedMembers.append_due}
use Rattle.dr_table.specs.{Deeds.IsStore, Rule.number, Steps.{HasAppended, IsReachedMember}}
use Rattle.dr_member.specs.Deeds.{table_size}
use Rattle.dr_words.proofs.Places.{word_index_within}
use Rattle.dr_machine.specs.declared.step.Step.{Step, TheVariants.Do}

-- ---- a step, by its deed

-- a deed that stores, be it a push or an act
pub record StoresAt (words : List ℕ) (r : Running) (index word : ℕ) : Type 0 where
  pub none : r.replica.end ≡ None
  pub says : IsStoreAt words r (next_step r) index word

pub stores : (words : List ℕ) (r : Running) (index word : ℕ) → IsStore index word (next_deed r)
    → StoresAt words r index word
stores words r index word is = by (next_deed r) refl is
  where
    at : (i w : ℕ) → r.replica.end ≡ None → IsStoreAt words r (next_step r) i w → (i ≡ index) × (w ≡ word)
        → StoresAt words r index word
    at i w none says (there, same) = record {
      none = none;
      says = subst (λ k. IsStoreAt words r (next_step r) k word) there
          (subst (IsStoreAt words r (next_step r) i) same says);
    }

    by : (d : Deed) → next_deed r ≡ d → IsStore index word d → StoresAt words r index word
    by (deeds.Push i w) e is = let t = deed_tells words r (deeds.Push i w) e in at i w t.none t.says is
    by (deeds.Act i w) e is = let t = deed_tells words r (deeds.Act i w) e in at i w t.none t.says is
    by d e is = absurd is

-- an act of a reached member stores a word of the table
pub act_within : (r : Running) (index word : ℕ) → IsReachedMember r → next_deed r ≡ deeds.Act index word
    → index < table_size r
act_within r index word (g, p, is) next =
    by (next_step r) (sym (ap (deed r) (deed_tells p.table r (deeds.Act index word) next).none) ∙ next)
  where
    form : HasForm r.replica
    form = (is.sound.form.form (number r) r is.there).replica

    index_of : Deed → ℕ
    index_of (deeds.Act i w) = i
    index_of d = 0

    by : (s : Step) → deed_of r s ≡ deeds.Act index word → index < table_size r
    by (Do a) e =
        let mine : number r < r.replica.roster = omega (arith, form.rows.present, form.members) in
        subst (λ i. i < table_size r) (ap index_of e)
        (word_index_within r.replica.roster r.replica.window r.replica.banks r.replica.view (number r) (number r) 0
        form.bank mine mine (omega arith))
    by s e = absurd (cc e)

-- ---- what a member was told stays

pub appends_told : (os : List Outcome) (r q : Running) → HasAppended os r q → told q.replica ≡ told r.replica
appends_told [] r q same = ap (λ (x : Running). told x.replica) (sym same)
appends_told (o ∷ os) r q (due, more) = appends_told os (appended_as o r) q more ∙ appended_told o r

pub same_number : (r x : Running) → told x.replica ≡ told r.replica → number x ≡ number r
same_number r x same = ap (λ (t : Told). t.number) same

-- ---- programs

-- appends, one after the other
pub appends_ran : (begun : Program) (words : List ℕ) (letters : List (Option (List Entry))) (os : List Outcome) (members : List (Option Running)) (m : ℕ)
    (r q : Running) → HasAppended os r q → present_at members m ≡ Some r
    → IsRanFrom begun (record { members = members; table = words; letters = letters })
    → IsRanFrom begun (record { members = with_present members m q; table = words; letters = letters })
appends_ran begun words letters [] members m r q same there ran =
    subst (λ x. IsRanFrom begun (record { members = with_present members m x; table = words; letters = letters })) same
    (subst (λ l. IsRanFrom begun (record { members = l; table = words; letters = letters })) (sym (set_itself members m r there))
    ran)
appends_ran begun words letters (o ∷ os) members m r q (due, more) there ran =
    let (none, step) = append_due r due in
    let x = appended_as o r in
    let once : IsRanFrom begun (record { members = with_present members m x; table = words; letters = letters }) =
    subst (λ t. IsRanFrom begun (record { members = with_present members m x; table = t; letters = letters }))
    (append_stores words r.replica (next_step r) step) (subst (λ ls. IsRanFrom begun (record {
      members = with_present members m x;
      table = stored words r.replica (next_step r);
      letters = ls;
    })) (append_gives letters r.replica (next_step r) step) (subst (λ y. IsRanFrom begun (record {
      members = with_present members m y;
      table = stored words r.replica (next_step r);
      letters = stored_letters letters r.replica (next_step r);
    })) (after_append (next_sight words r) (slice_index_or letters m None) o r (next_step r) step)
    (deed_ran begun words letters members m o r there none ran))) in
    subst (λ l. IsRanFrom begun (record { members = l; table = words; letters = letters })) (set-set members m (Some x) (Some q))
    (appends_ran begun words letters os (with_present members m x) m x q more
    (present_set members m x (present_within members m r there)) once)

-- appends, and then a deed
pub deeds_ran : (begun : Program) (words cells : List ℕ) (letters : List (Option (List Entry))) (os : List Outcome) (members : List (Option Running)) (m : ℕ)
    (r q x : Running) → HasAppended os r q → present_at members m ≡ Some r → q.replica.end ≡ None
    → after_deed (next_sight words q) (slice_index_or letters m None) outcomes.Ok q (next_step q) ≡ x
    → stored words q.replica (next_step q) ≡ cells → stored_letters letters q.replica (next_step q) ≡ letters
    → IsRanFrom begun (record { members = members; table = words; letters = letters })
    → IsRanFrom begun (record { members = with_present members m x; table = cells; letters = letters })
deeds_ran begun words cells letters os members m r q x more there none to stores posts ran =
    let caught = appends_ran begun words letters os members m r q more there ran in
    let here = present_set members m q (present_within members m r there) in
    subst (λ l. IsRanFrom begun (record { members = l; table = cells; letters = letters })) (set-set members m (Some q) (Some x))
    (subst (λ t. IsRanFrom begun (record { members = with_present (with_present members m q) m x; table = t; letters = letters }))
    stores (subst (λ ls. IsRanFrom begun (record {
      members = with_present (with_present members m q) m x;
      table = stored words q.replica (next_step q);
      letters = ls;
    })) posts (subst (λ y. IsRanFrom begun (record {
      members = with_present (with_present members m q) m y;
      table = stored words q.replica (next_step q);
      letters = stored_letters letters q.replica (next_step q);
    })) to (deed_ran begun words letters (with_present members m q) m outcomes.Ok q here none caught))))
