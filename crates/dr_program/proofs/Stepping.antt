-- A member behind its next step: what of it stays, and what of the table and of the other members.
use Rattle.std.{specs.Prelude.{None, Some}, proofs.lemmas.Bool.cases_eq}
use Rattle.std.proofs.Common.{◌≡◌, ap, ◌≢◌, ℕ, ◌<◌, sym, ◌∙◌, inl, inr, ◌⊎◌, slice_index, arith, ◌+◌, refl, Bool, true, false}
use Rattle.dr_rows.specs.Words.{last_pushed, IsWords, own, with_word, word_at}
use Rattle.dr_rows.proofs.Grids.{with_word-same, with_word-row, with_word-column}
use Rattle.dr_words.proofs.Layouts.{begun_unpushed}
use Rattle.dr_machine.specs.{Acts.effect_of, Effects.pushes, Group.{Group, columns, roster}, World.{World, own_word}}
use Rattle.dr_machine.{specs.{Writes.at₄, declared.step.Step.{Step, TheVariants.Do}}, proofs.Worlds.act_cells}
use Rattle.dr_program.specs.{Acts.taken, Steps.{stepped, IsAppend, stored, stored_letters}, declared.place.Part.Part}
use Rattle.dr_program.specs.{Presence.{present_at, with_present}, Program.{Program, next_sight, letter_for, step_of}}
use Rattle.dr_program.{specs.{Replica.{Replica, pushed}, Turn.is_beat}, proofs.Programs.fails}
use Rattle.dr_program.specs.Running.{Running, after_step, next_step, took, crashes_now, judged, step_at, broken_off}
use Rattle.dr_program.{specs.declared.outcome.LogWhy.LogWhy, proofs.StepsAt.{append_either, push_either, vote_either}}
use Rattle.dr_program.proofs.{Deeds.{settle_replica, step_is}, Present.replaced_either, Search.settle_only}
use Rattle.dr_program.proofs.Parts.{taken_pushed, ends_view, view_stays, begins_anew, verdict_no_beat, verdict_of, begins_turn}
use Rattle.dr_program.specs.declared.place.Part.TheVariants as parts
use Rattle.dr_program.specs.declared.outcome.Outcome.TheVariants as outcomes

-- a member after its next step
abbrev pub stepped_on : Program → Running → Running
stepped_on p r = after_step (next_sight p.table r) r

-- the search leaves the replica of the one that moved
pub stepped_replica : (p : Program) (r : Running)
    → (stepped_on p r).replica ≡ stepped (next_sight p.table r) r.replica (next_step r)
stepped_replica p r = settle_replica _ (took (next_sight p.table r) r (next_step r))

-- the limit
pub stepped_limit : (p : Program) (r : Running) → (stepped_on p r).limit ≡ r.limit
stepped_limit p r = ap (λ (x : Running). x.limit) (settle_only _ (took (next_sight p.table r) r (next_step r)))

-- whether an append has failed
pub stepped_failed : (p : Program) (r : Running) → (stepped_on p r).failed ≡ r.failed
stepped_failed p r = ap (λ (x : Running). x.failed) (settle_only _ (took (next_sight p.table r) r (next_step r)))

-- the own words that stand in the table as they were pushed
abbrev pub ArePushed : Group → World → ℕ → Replica → Type 0
ArePushed g w m r = (j c : ℕ) → j < roster g → j ≢ m → c < columns g → last_pushed r.rows j c ≡ w.table r.view j m c

push_stands : (g : Group) (w : World) (m : ℕ) (r : Replica) (k d : ℕ) → IsWords r.rows
    → r.rows.members ≡ roster g → r.rows.columns ≡ columns g → w.past.view m ≡ r.view
    → own_word w m d ≡ own r.rows d → ArePushed g w m r → ArePushed g (pushes w m k d) m (pushed r k d)
push_stands g w m r k d form rows wide view word old j c l other low = by (cases_eq j k) (cases_eq c d)
  where
    here : (t : ℕ → ℕ → ℕ → ℕ → ℕ) (x b v : ℕ) → b ≡ v → at₄ t b k m d x v k m d ≡ x
    here t x b v same = rw same (grind arith)

    copy_apart : (t : ℕ → ℕ → ℕ → ℕ → ℕ) (x b v : ℕ) → j ≢ k → at₄ t b k m d x v j m c ≡ t v j m c
    copy_apart t x b v apart = grind (arith, apart)

    column_apart : (t : ℕ → ℕ → ℕ → ℕ → ℕ) (x b v : ℕ) → c ≢ d → at₄ t b k m d x v j m c ≡ t v j m c
    column_apart t x b v apart = grind (arith, apart)

    by : (j ≡ k) ⊎ (j ≢ k) → (c ≡ d) ⊎ (c ≢ d) → word_at (with_word r.rows.sent k d (own r.rows d)) j c
        ≡ at₄ w.table (w.past.view m) k m d (own_word w m d) r.view j m c
    by (inr apart) column = ap (λ row. slice_index row c) (with_word-row r.rows.sent k d (own r.rows d) j apart)
        ∙ old j c l other low ∙ sym (copy_apart w.table (own_word w m d) (w.past.view m) r.view apart)
    by (inl row) (inr apart) = with_word-column r.rows.sent k d (own r.rows d) j c apart ∙ old j c l other low
        ∙ sym (column_apart w.table (own_word w m d) (w.past.view m) r.view apart)
    by (inl row) (inl column) = rw (row, column) (with_word-same r.rows.members r.rows.columns r.rows.sent k d
        (own r.rows d) form.pushes (omega (arith, l, row, rows)) (omega (arith, low, column, wide))
        ∙ sym word ∙ sym (here w.table (own_word w m d) (w.past.view m) r.view view))

-- what a world has of a member, and the shape of its rows
pub record HasShown (g : Group) (w : World) (m : ℕ) (r : Replica) : Type 0 where
  pub form : IsWords r.rows
  pub rows : r.rows.members ≡ roster g
  pub wide : r.rows.columns ≡ columns g
  pub view : w.past.view m ≡ r.view
  pub own : (c : ℕ) → own_word w m c ≡ own r.rows c
  pub unwritten : (j c : ℕ) → w.table (r.view + 1) j m c ≡ 0

-- no step changes that: in a view that it has not come to, the member has written nothing
pub step_stands : (g : Group) (w : World) (m word : ℕ) (r : Replica) (s : Step) → HasShown g w m r
    → ArePushed g w m r → ArePushed g (effect_of g w m s) m (stepped word r s)
step_stands g w m word r (Do a) shown old j c l other low = by (ends_view (Do a)) refl
  where
    same : w.table (taken r a).view j m c ≡ (effect_of g w m (Do a)).table (taken r a).view j m c
    same = sym (act_cells g w m a (taken r a).view j m c (inl other))

    by : (b : Bool) → ends_view (Do a) ≡ b
        → last_pushed (taken r a).rows j c ≡ (effect_of g w m (Do a)).table (taken r a).view j m c
    by false stays = ap (λ rows. word_at rows j c) (taken_pushed r a stays) ∙ old j c l other low
        ∙ ap (λ v. w.table v j m c) (sym (view_stays word r (Do a) stays)) ∙ same
    by true ends =
        let anew = begins_anew r a ends in
        ap (λ rows. last_pushed rows j c) anew.0 ∙ begun_unpushed r.rows.members r.rows.columns r.rows.me r.logged j c
        ∙ sym (shown.unwritten j c) ∙ ap (λ v. w.table v j m c) (sym anew.1) ∙ same
step_stands g w m word r s shown old j c l other low = grind (arith, old j c l other low, here)
  where
    here : (k d : ℕ) → last_pushed (pushed r k d).rows j c ≡ (pushes w m k d).table r.view j m c
    here k d = push_stands g w m r k d shown.form shown.rows shown.wide shown.view (shown.own d) old j c l other low

-- only one part begins a turn
pub plain_begins : (r : Running) (part : Part) (i c : ℕ) → is_beat part ≡ false → begins_turn (step_at r part i c) ≡ false
plain_begins r parts.Judge i c other = verdict_no_beat (judged r) (verdict_of r)
plain_begins r parts.Append i c other = append_either (λ s. begins_turn s ≡ false) r.failed refl (λ why. refl)
plain_begins r parts.Vote i c other = vote_either (λ s. begins_turn s ≡ false) r.failed _ refl (λ why. refl)
plain_begins r parts.Push i c other = push_either (λ s. begins_turn s ≡ false) (crashes_now r) i c refl refl
plain_begins r (parts.Do a) i c other = other
plain_begins r part i c other = refl

-- the program after a move whose append fails
pub failed_made : (p : Program) (m : ℕ) (why : LogWhy) (r : Running) → present_at p.members m ≡ Some r
    → r.replica.end ≡ None → IsAppend (next_step r)
    → step_of p (record { member = m; outcome = outcomes.Failed why }) ≡ record {
      members = with_present p.members m (broken_off why r);
      table = stored p.table r.replica (next_step r);
      letters = stored_letters p.letters r.replica (next_step r);
    }
failed_made p m why r there unended due =
    step_is p (record { member = m; outcome = outcomes.Failed why }) r there unended ∙ ap (λ x. record {
      members = with_present p.members m x;
      table = stored p.table r.replica (next_step r);
      letters = stored_letters p.letters r.replica (next_step r);
    }) (fails (next_sight p.table r) (letter_for p m) why r (next_step r) due).0

-- it leaves each member its replica and its limit
pub failed_leaves : (p : Program) (m : ℕ) (why : LogWhy) (r : Running) → present_at p.members m ≡ Some r
    → (i : ℕ) (y : Running) → present_at (with_present p.members m (broken_off why r)) i ≡ Some y
    → (x : Running) × (present_at p.members i ≡ Some x) × (x.replica ≡ y.replica) × (x.limit ≡ y.limit)
failed_leaves p m why r there i y at = elim (replaced_either p.members m r (broken_off why r) there i y at) [
  | inl here ↦ (r, rw here.0 there, ap (λ (x : Running). x.replica) here.1, ap (λ (x : Running). x.limit) here.1)
  | inr other ↦ (y, other.1, refl, refl)
]
