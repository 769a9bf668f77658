-- Where looks and pushes of a member leave the words of its door as they were, all of them are looks.
use Rattle.std.proofs.Common.{◌≡◌, ◌≢◌, ◌⊎◌, ◌∙◌, inl, inr, refl, sym, ap, subst, ℕ, zero, suc, ◌<◌, ◌==◌, true, List, length, slice_index, slice_set, arith}
use Rattle.std.proofs.lemmas.{Bool.{cases_eq, cond-true, eq-eqb}, List.{get_or-set_other, get_or-set_same}}
use Rattle.dr_member.specs.{Alone.{LeadsTo, SeesAlong}, Deeds.{is_look, is_push}}
use Rattle.dr_member.proofs.Deeds.{at_place, push_at, look_there, push_there, looks_or_pushes}
use Rattle.dr_program.specs.{Form.{HasForm, IsRunningMember}, Running.{Running, after_step, next_deed, next_step}}
use Rattle.dr_program.specs.{Program.next_sight, Sight.MaySee}
use Rattle.dr_program.{specs.Reading.step_of_member, proofs.{Search.settled_same, StepsAt.{look_due, push_changes}}}
use Rattle.dr_program.{specs.Replica.{Replica, looked, me, pushed}, proofs.Keeps.{looked_keeps, pushed_keeps}}
use Rattle.dr_program.{specs.Steps.{index_in, sight, stepped, stored}, proofs.RunningPrograms.{IsAtPlace, IsPushAt}}
use Rattle.dr_program.specs.declared.deed.Deed.TheVariants as deeds
use Rattle.dr_rows.{specs.Words.{last_pushed, own}, proofs.Grids.own_seen}
use Rattle.dr_turn.proofs.Deeds.{deeds_keep_form}
use Rattle.dr_words.{specs.Columns.columns_of, proofs.Places.{word_index_one_to_one, word_index_within}}
use Rattle.dr_door.{specs.{Inside.IsKept, Lone.{LeadsBy, Lone, after_alone}}, proofs.Deeds.look_goes}
use Rattle.dr_door.proofs.Kept.{kept_look, kept_push, kept_sees}

-- ---- a look

module _ (words : List ℕ) (r : Running) (index : ℕ) (m : IsRunningMember r) (kept : IsKept r.replica words)
    (due : next_deed r ≡ deeds.Look index) where
  here : IsAtPlace r index
  here = at_place r index m due

  look_sees : next_sight words r ≡ slice_index words index
  look_sees = ap (sight words r.replica) here.step ∙ ap (slice_index words) here.place

  look_stores : stored words r.replica (next_step r) ≡ words
  look_stores = ap (stored words r.replica) here.step

  look_replica : (after_step (slice_index words index) r).replica
      ≡ looked r.replica here.row here.column (slice_index words index)
  look_replica = ap (λ (x : Running). x.replica) (settled_same (slice_index words index) r)
      ∙ ap (stepped (slice_index words index) r.replica) here.step

  look_runs : IsRunningMember (after_step (slice_index words index) r)
  look_runs =
      let l = look_due r (slice_index words index) m (kept_sees r words index m kept due) in
      deeds_keep_form (slice_index words index) r m here.none (subst HasForm (sym l.step)
      (looked_keeps r.replica r.place.row r.place.column (slice_index words index) m.replica l.cell.other
      l.cell.column l.seen.form))

-- ---- a push

module _ (words : List ℕ) (r : Running) (index word : ℕ) (m : IsRunningMember r) (kept : IsKept r.replica words)
    (due : next_deed r ≡ deeds.Push index word) where
  to : IsPushAt r index word
  to = push_at r index word m due

  push_stores : stored words r.replica (next_step r) ≡ slice_set words index word
  push_stores = ap (stored words r.replica) to.step ∙ (λ z. slice_set words (to.place z) (to.own z))

  push_sees : next_sight words r ≡ 0
  push_sees = ap (sight words r.replica) to.step

  push_replica : (after_step 0 r).replica ≡ pushed r.replica to.to to.column
  push_replica = ap (λ (x : Running). x.replica) (settled_same 0 r) ∙ ap (stepped 0 r.replica) to.step

  push_runs : IsRunningMember (after_step 0 r)
  push_runs = deeds_keep_form 0 r m to.none (subst HasForm (sym (ap (stepped 0 r.replica) to.step))
      (pushed_keeps r.replica to.to to.column m.replica to.among))

-- ---- the words that it has pushed stay

-- the member's word of a column stands in the copy of j
abbrev pub Stands : List ℕ → Replica → ℕ → ℕ → Type 0
Stands words r j c = slice_index words (index_in r j (me r) c) ≡ own r.rows c

stands_on : (n : ℕ) (words cells : List ℕ) (r q : Running) (j c : ℕ) → IsRunningMember r → IsKept r.replica words
    → j < r.replica.roster → c < columns_of r.replica.roster r.replica.window → Stands words r.replica j c
    → LeadsTo n words r cells q → slice_index cells (index_in r.replica j (me r.replica) c) ≡ own r.replica.rows c
stands_on zero words cells r q j c m kept row column stands led =
    ap (λ ws. slice_index ws (index_in r.replica j (me r.replica) c)) (sym led.0) ∙ stands
stands_on (suc n) words cells r q j c m kept row column stands led =
    by (looks_or_pushes r led.0) (λ ws x. stands_on n ws cells x q j c)
  where
    Ends : Replica → Type 0
    Ends x = slice_index cells (index_in x j (me x) c) ≡ own x.rows c

    -- so it is from wherever it goes on
    Goes : Type 0
    Goes = (ws : List ℕ) (x : Running) → IsRunningMember x → IsKept x.replica ws → j < x.replica.roster
        → c < columns_of x.replica.roster x.replica.window → Stands ws x.replica j c → LeadsTo n ws x cells q
        → Ends x.replica

    by : (is_look (next_deed r) ≡ true) ⊎ (is_push (next_deed r) ≡ true) → Goes → Ends r.replica
    by (inl look) goes =
        let one = look_there (next_deed r) look in
        let w = slice_index words one.0 in
        let x = after_step w r in
        let at = here words r one.0 m kept one.1 in
        let same = look_replica words r one.0 m kept one.1 in
        let own_is = own_seen r.replica.rows at.row at.column w c at.other in
        let before : Stands words x.replica j c = subst (λ y. Stands words y j c) (sym same) (stands ∙ sym own_is) in
        let rest : LeadsTo n words x cells q = subst (λ (z : List ℕ × Running). LeadsTo n z.0 z.1 cells q)
        (λ z. (look_stores words r one.0 m kept one.1 z, after_step (look_sees words r one.0 m kept one.1 z) r)) led.1 in
        subst (λ y. slice_index cells (index_in r.replica j (me r.replica) c) ≡ y) own_is
        (subst Ends same (goes words x (look_runs words r one.0 m kept one.1)
        (kept_look r words one.0 m kept one.1) (subst (λ (y : Replica). j < y.roster) (sym same) row)
        (subst (λ (y : Replica). c < columns_of y.roster y.window) (sym same) column) before rest))
    by (inr push) goes =
        let one = push_there (next_deed r) push in
        let x = after_step 0 r in
        let at = to words r one.0 one.1 m kept one.2 in
        let same = push_replica words r one.0 one.1 m kept one.2 in
        let new = slice_set words one.0 one.1 in
        let before : Stands new x.replica j c =
        subst (λ y. Stands new y j c) (sym same) (stays one.0 one.1 at (cases_eq (index_in r.replica j (me r.replica) c) one.0)) in
        let rest : LeadsTo n new x cells q = subst (λ (z : List ℕ × Running). LeadsTo n z.0 z.1 cells q)
        (λ z. (push_stores words r one.0 one.1 m kept one.2 z, after_step (push_sees words r one.0 one.1 m kept one.2 z) r))
        led.1 in
        subst Ends same (goes new x (push_runs words r one.0 one.1 m kept one.2)
        (kept_push r words one.0 one.1 m kept one.2) (subst (λ (y : Replica). j < y.roster) (sym same) row)
        (subst (λ (y : Replica). c < columns_of y.roster y.window) (sym same) column) before rest)
      where
        stays : (index word : ℕ) → IsPushAt r index word
            → (index_in r.replica j (me r.replica) c ≡ index) ⊎ (index_in r.replica j (me r.replica) c ≢ index)
            → slice_index (slice_set words index word) (index_in r.replica j (me r.replica) c) ≡ own r.replica.rows c
        stays index word at (inl e) =
            let r' = r.replica in
            let cell = word_index_one_to_one r'.roster r'.window r'.view at.to (me r') at.column r'.view j (me r') c
            at.among m.replica.number at.within row m.replica.number column (e ∙ sym at.place) in
            ap (slice_index (slice_set words index word)) e ∙ get_or-set_same words index word 0 (omega (
              arith,
              kept.whole,
              sym at.place,
              word_index_within r'.roster r'.window r'.banks r'.view at.to (me r') at.column m.replica.bank at.among
                  m.replica.number at.within,
            )) ∙ sym at.own ∙ ap (own r'.rows) (sym cell.3)
        stays index word at (inr other) =
            get_or-set_other words index (index_in r.replica j (me r.replica) c) word 0 other ∙ stands

-- ---- so all are looks

pub along : (n : ℕ) (words : List ℕ) (r q : Running) → IsRunningMember r → IsKept r.replica words
    → LeadsTo n words r words q → IsRunningMember q × IsKept q.replica words
    × LeadsBy n (record { member = r; words = words }) (record { member = q; words = words })
along zero words r q m kept led = (
  subst IsRunningMember led.1 m,
  subst (λ (x : Running). IsKept x.replica words) led.1 kept,
  λ z. record { member = led.1 z; words = words },
)
along (suc n) words r q m kept led = by (looks_or_pushes r led.0) (λ x. along n words x q)
  where
    d : Lone
    d = record { member = r; words = words }

    Goes : Type 0
    Goes = (x : Running) → IsRunningMember x → IsKept x.replica words → LeadsTo n words x words q
        → IsRunningMember q × IsKept q.replica words
        × LeadsBy n (record { member = x; words = words }) (record { member = q; words = words })

    by : (is_look (next_deed r) ≡ true) ⊎ (is_push (next_deed r) ≡ true) → Goes
        → IsRunningMember q × IsKept q.replica words × LeadsBy (suc n) d (record { member = q; words = words })
    by (inl look) goes =
        let one = look_there (next_deed r) look in
        let x = after_step (slice_index words one.0) r in
        let rest : LeadsTo n words x words q = subst (λ (z : List ℕ × Running). LeadsTo n z.0 z.1 words q)
        (λ z. (look_stores words r one.0 m kept one.1 z, after_step (look_sees words r one.0 m kept one.1 z) r)) led.1 in
        let on = goes x (look_runs words r one.0 m kept one.1) (kept_look r words one.0 m kept one.1) rest in (
          on.0,
          on.1,
          (
            look_goes d one.0 one.1,
            subst (λ y. LeadsBy n y (record { member = q; words = words })) (sym (ap (after_alone d) one.1)) on.2,
          ),
        )
    by (inr push) goes =
        let one = push_there (next_deed r) push in
        let x = after_step 0 r in
        let r' = r.replica in
        let at = to words r one.0 one.1 m kept one.2 in
        let same = push_replica words r one.0 one.1 m kept one.2 in
        let new = slice_set words one.0 one.1 in
        let inside : one.0 < length words = omega (
          arith,
          kept.whole,
          sym at.place,
          word_index_within r'.roster r'.window r'.banks r'.view at.to (me r') at.column m.replica.bank at.among
              m.replica.number at.within,
        ) in
        let there : Stands new r' at.to at.column = ap (slice_index new) at.place
        ∙ get_or-set_same words one.0 one.1 0 inside ∙ sym at.own in
        let rest : LeadsTo n new x words q = subst (λ (z : List ℕ × Running). LeadsTo n z.0 z.1 words q)
        (λ z. (push_stores words r one.0 one.1 m kept one.2 z, after_step (push_sees words r one.0 one.1 m kept one.2 z) r))
        led.1 in
        let ends = subst (λ (y : Replica). slice_index words (index_in y at.to (me y) at.column) ≡ own y.rows at.column)
        same (stands_on n new words x q at.to at.column (push_runs words r one.0 one.1 m kept one.2)
        (kept_push r words one.0 one.1 m kept one.2) (subst (λ (y : Replica). at.to < y.roster) (sym same) at.among)
        (subst (λ (y : Replica). at.column < columns_of y.roster y.window) (sym same) at.within)
        (subst (λ y. Stands new y at.to at.column) (sym same) there) rest) in
        let last = kept.sent r'.view at.to at.column (omega arith) at.among at.other at.within
        ∙ cond-true (r'.view == r'.view) (last_pushed r'.rows at.to at.column) 0 (eq-eqb r'.view r'.view refl) in
        absurd (push_changes r at.to at.column m at.none at.step (sym ends ∙ last))

-- and it sees what stands there
pub sees_along : (words : List ℕ) (r : Running) → IsRunningMember r → IsKept r.replica words → SeesAlong words r
sees_along words r m kept n q led look =
    let on = along n words r q m kept led in
    let one = look_there (next_deed q) look in
    subst (MaySee q (step_of_member q)) (sym (look_sees words q one.0 on.0 on.1 one.1))
    (kept_sees q words one.0 on.0 on.1 one.1)
