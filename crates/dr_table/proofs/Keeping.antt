-- The steps of a hand's members keep the rule, and what they tell.
use Rattle.std.specs.Prelude.{None, Some, slice_get, slice_index, slice_index_or, slice_set, Option}
use Rattle.std.proofs.Common.{◌≡◌, refl, sym, ap, ◌∙◌, subst, ℕ, ◌<◌, true, [], ◌∷◌, List, set-set, arith}
use Rattle.std.proofs.lemmas.{List.set-get_or, Option.slice_get_within}
use Rattle.atomic_table.specs.Table.{keeps, Allows, Me}
use Rattle.dr_entry.specs.declared.entry.Entry.{Entry}
use Rattle.dr_entry.proofs.ListPlaces.{by_table, front_read, front_set, replica_set}
use Rattle.dr_machine.specs.Group.{Group}
use Rattle.dr_member.specs.Deeds.{is_append, table_size}
use Rattle.dr_program.specs.declared.deed.Deed.TheVariants as deeds
use Rattle.dr_program.{specs.Presence.{present_at, with_present}, proofs.Present.{present_within, present_set}}
use Rattle.dr_program.specs.Program.{Move, Program, after_deed, appended_as, begun_program, letter_for, next_sight, step_of}
use Rattle.dr_program.specs.{Reading.{step_due, step_of_member}, declared.outcome.Outcome.Outcome}
use Rattle.dr_program.specs.{Running.{Running, after_step, next_deed, next_step, settled, took_letter}, Sight.MaySee}
use Rattle.dr_program.{specs.Steps.{sight, stored}, proofs.{Accepting.took_told, RunningPrograms.after_take}}
use Rattle.dr_program.proofs.{Deeds.{step_is, after_later}, Fixed.{after_told, appended_told}, Programs.after_append}
use Rattle.dr_program.specs.declared.outcome.Outcome.TheVariants as outcomes
use Rattle.dr_program_laws.proofs.Keeping.{move_kept, sees}
use Rattle.dr_play.proofs.{Deeds.{any_outcome, at_look, deed_tells}, LoggedMembers.append_due}
use Rattle.dr_table.specs.{Deeds.IsStore, Rule.{HasSuchProgram, number}, Slots.Slot}
use Rattle.dr_table.specs.Steps.{IsAhead, IsOfProgram, IsReachedMember, Looked, MayFind, MayTake, Stored, alone, idle}
use Rattle.dr_table.{specs.declared.rule.View.View, proofs.Deeds.{deeds_ran, same_number, stores}}
use Rattle.dr_table.proofs.Posting.{caught_up, kept, member_on, one, sized, sound, stood}
use mathlib.Core.Option.{Option as Maybe, some}
use lib.ListN.{get_elem?}

-- ---- members of programs that are reached

-- a member goes on by a deed
goes_on : (g : Group) (p : Program) (r x : Running) (o : Outcome) → IsOfProgram g p r → r.replica.end ≡ None
    → after_deed (next_sight p.table r) (letter_for p (number r)) o r (next_step r) ≡ x → number x ≡ number r → IsReachedMember x
goes_on g p r x o is none to same =
    let e : Move = record { member = number r; outcome = o } in
    let kept = move_kept g p e is.sound.group is.sound.form is.sound.reached in (
      g,
      step_of p e,
      record {
        sound = record { group = is.sound.group; form = kept.0; reached = kept.1 };
        there = ap (λ (q : Program). present_at q.members (number x)) (step_is p e r is.there none)
            ∙ ap (present_at (with_present p.members (number r)
            (after_deed (next_sight p.table r) (letter_for p (number r)) o r (next_step r)))) same
            ∙ present_set p.members (number r) (after_deed (next_sight p.table r) (letter_for p (number r)) o r (next_step r))
            (present_within p.members (number r) r is.there) ∙ ap (λ y. Some y) to;
      },
    )

-- by a look, with the word that it may find
pub look_reached : (r : Running) (index word : ℕ) → next_deed r ≡ deeds.Look index → MayFind r word
    → IsReachedMember (after_step word r)
look_reached r index word next (g, p, is, found) =
    let t = deed_tells p.table r (deeds.Look index) next in
    goes_on g p r (after_step word r) outcomes.Ok is t.none (any_outcome (next_sight p.table r)
    (letter_for p (number r)) outcomes.Ok r (next_step r) (at_look r index next) t.says.no_join
    ∙ ap (λ w. after_step w r) found) (same_number r (after_step word r) (after_told word r))

-- by a deed that stores
pub store_reached : (r : Running) (index word : ℕ) → IsStore index word (next_deed r) → IsReachedMember r
    → IsReachedMember (after_step 0 r)
store_reached r index word next (g, p, is) =
    let t = stores p.table r index word next in
    goes_on g p r (after_step 0 r) outcomes.Ok is t.none
    (any_outcome (next_sight p.table r) (letter_for p (number r)) outcomes.Ok r (next_step r) t.says.other
    t.says.no_join ∙ ap (λ w. after_step w r) t.says.sees) (same_number r (after_step 0 r) (after_told 0 r))

-- by an append
pub append_reached : (r : Running) (o : Outcome) → is_append (next_deed r) ≡ true → IsReachedMember r
    → IsReachedMember (appended_as o r)
append_reached r o due (g, p, is) =
    let (none, step) = append_due r due in
    goes_on g p r (appended_as o r) o is none (after_append (next_sight p.table r)
    (letter_for p (number r)) o r (next_step r) step) (same_number r (appended_as o r) (appended_told o r))

-- by giving a letter
pub give_reached : (r : Running) (j : ℕ) → next_deed r ≡ deeds.Give j → IsReachedMember r
    → IsReachedMember (after_step 0 r)
give_reached r j next (g, p, is) =
    let t = deed_tells p.table r (deeds.Give j) next in
    goes_on g p r (after_step 0 r) outcomes.Ok is t.none
    (ap (λ s. after_deed (sight p.table r.replica s) (letter_for p (number r)) outcomes.Ok r s) t.says)
    (same_number r (after_step 0 r) (after_told 0 r))

-- by a take, of the letter that it may take
pub take_reached : (r : Running) (letter : Option (List Entry)) → next_deed r ≡ deeds.Take → MayTake r letter
    → IsReachedMember (settled (took_letter letter r))
take_reached r letter next (g, p, is, found) =
    let t = deed_tells p.table r deeds.Take next in
    goes_on g p r (settled (took_letter letter r)) outcomes.Ok is t.none
    (after_take (next_sight p.table r) (letter_for p (number r)) outcomes.Ok r (next_step r) t.says
    ∙ ap (λ o. settled (took_letter o r)) found) (same_number r (settled (took_letter letter r)) (took_told letter r))

-- the word that a look may find, its member may see
pub find_seen : (r : Running) (index word : ℕ) → next_deed r ≡ deeds.Look index → MayFind r word
    → MaySee r (step_of_member r) word
find_seen r index word next (g, p, is, found) =
    let t = deed_tells p.table r (deeds.Look index) next in
    subst (MaySee r (step_of_member r)) found
    (sees g p (number r) r t.says.row t.says.column is.sound.group is.sound.form is.sound.reached is.there
    (ap (step_due r) t.none ∙ ap (λ s. Some s) t.says.look))

-- ---- the rule

-- the rule with a seat's member as it is, all its appends counted
pub record Caught (dealt : List (Option Running)) (words : List ℕ) (homes : List (Maybe Slot)) (views : List View)
    (id : ℕ) (q : Running) : Type 0 where
  pub rule : HasSuchProgram dealt words homes (slice_set views id (one q))
  pub is : slice_get (slice_set views id (one q)) id ≡ Some (one q)
  pub there : present_at rule.members (number q) ≡ Some q

pub catch_up : (dealt : List (Option Running)) (words : List ℕ) (homes : List (Maybe Slot)) (views : List View)
    (id : ℕ) (me : Me Slot View) (r q : Running) → get_elem? views id ≡ some me.0 → me ≡ alone r → IsAhead r q
    → HasSuchProgram dealt words homes views → Caught dealt words homes views id q
catch_up dealt words homes views id me r q at only (os, more) k =
    let is : slice_get views id ≡ Some (one r) =
    by_table views id me.0 at ∙ ap (λ (m : Me Slot View). Some m.0) only in
    let rule = caught_up k id r q os is more in
    let mine = replica_set views id (one q) (slice_get_within views id (one r) is) in
    record { rule = rule; is = mine; there = stood rule id (one q) q mine refl }

-- the seat has its member further on
pub went_on : (dealt : List (Option Running)) (words : List ℕ) (homes : List (Maybe Slot)) (views : List View)
    (id : ℕ) (q x : Running) → HasSuchProgram dealt words homes (slice_set (slice_set views id (one q)) id (one x))
    → HasSuchProgram dealt words homes (slice_set views id (one x))
went_on dealt words homes views id q x =
    subst (λ vs. HasSuchProgram dealt words homes vs) (set-set views id (one q) (one x))

-- a seat that is about nothing has these members
pub idle_is : (me : Me Slot View) (members : List (Option Running)) → me ≡ idle members → me ≡ idle me.0.members
idle_is me members is = is ∙ ap idle (sym (ap (λ (m : Me Slot View). m.0.members) is))

-- it holds no slot
pub no_errand : (me : Me Slot View) (members : List (Option Running)) → me ≡ idle members → me.0.errand ≡ None
no_errand me members is = ap (λ (m : Me Slot View). m.0.errand) is

pub no_slots : (me : Me Slot View) (members : List (Option Running)) → me ≡ idle members → me.1 ≡ []
no_slots me members is = ap (λ (m : Me Slot View). m.1) is

pub look_allowed : (dealt : List (Option Running)) (slots id index : ℕ) (me : Me Slot View) (r q : Running)
    → me ≡ alone r → IsAhead r q → next_deed q ≡ deeds.Look index → index < table_size q
    → Allows {S = Slot} {V = View} (λ s. HasSuchProgram dealt s.words s.homes s.views) slots id me index (λ n. n)
    (λ n w. Looked q n w)
look_allowed dealt slots id index me r q only ahead next within s k _ is _ =
    let c = catch_up dealt s.words s.homes s.views id me r q is only ahead k in
    let n = slice_index s.words index in
    let x = after_step n q in
    let t = deed_tells c.rule.table q (deeds.Look index) next in
    let read : n ≡ slice_index c.rule.table index = ap (λ ws. slice_index ws index) c.rule.laid
    ∙ front_read c.rule.table c.rule.flags index (omega (arith, within, sized c.rule q c.there)) in
    let on = member_on c.rule id q x c.rule.table s.words c.is (after_told n q) (after_later n q) c.rule.laid
    (deeds_ran (begun_program c.rule.opening.group c.rule.opening.setups) c.rule.table c.rule.table c.rule.letters []
    c.rule.members (number q) q q x refl c.there t.none
    (any_outcome (next_sight c.rule.table q) (slice_index_or c.rule.letters (number q) None) outcomes.Ok q
    (next_step q) (at_look q index next) t.says.no_join ∙ ap (λ w. after_step w q) (t.says.sees ∙ sym read))
    (ap (stored c.rule.table q.replica) t.says.look) (t.says.posts c.rule.letters) c.rule.ran) in (
      one x,
      keeps,
      tt,
      subst (λ ws. HasSuchProgram dealt ws s.homes (slice_set s.views id (one x))) (sym (set-get_or s.words index 0))
          (went_on dealt s.words s.homes s.views id q x on),
      (
        λ z. (one x, no_slots me (Some r ∷ []) only z),
        (c.rule.opening.group, kept c.rule, record { sound = sound c.rule; there = c.there }, t.says.sees ∙ sym read),
      ),
    )

pub store_allowed : (dealt : List (Option Running)) (slots id index new : ℕ) (me : Me Slot View)
    (r q : Running) → me ≡ alone r → IsAhead r q → IsStore index new (next_deed q) → index < table_size q
    → Allows {S = Slot} {V = View} (λ s. HasSuchProgram dealt s.words s.homes s.views) slots id me index (λ _. new)
    (λ _ w. Stored q w)
store_allowed dealt slots id index new me r q only ahead next within s k _ is _ =
    let c = catch_up dealt s.words s.homes s.views id me r q is only ahead k in
    let x = after_step 0 q in
    let t = stores c.rule.table q index new next in
    let on = member_on c.rule id q x (slice_set c.rule.table index new) (slice_set s.words index new) c.is
    (after_told 0 q) (after_later 0 q) (ap (λ ws. slice_set ws index new) c.rule.laid
    ∙ front_set c.rule.table c.rule.flags index new (omega (arith, within, sized c.rule q c.there)))
    (deeds_ran (begun_program c.rule.opening.group c.rule.opening.setups) c.rule.table
    (slice_set c.rule.table index new) c.rule.letters [] c.rule.members (number q) q q x refl c.there t.none
    (any_outcome (next_sight c.rule.table q) (slice_index_or c.rule.letters (number q) None) outcomes.Ok q
    (next_step q) t.says.other t.says.no_join ∙ ap (λ w. after_step w q) t.says.sees) t.says.stores
    (t.says.posts c.rule.letters) c.rule.ran) in (
      one x,
      keeps,
      tt,
      went_on dealt (slice_set s.words index new) s.homes s.views id q x on,
      λ z. (one x, no_slots me (Some r ∷ []) only z),
    )
