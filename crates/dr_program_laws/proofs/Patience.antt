-- How long a member waits for news of others, over its deeds.
use Rattle.std.{specs.Prelude.None, proofs.lemmas.Bool.{cases_eq, cases_lt, Decides.nat_tests}}
use Rattle.std.proofs.Common.{◌≡◌, ◌≢◌, ◌⊎◌, refl, sym, ap, ◌∙◌, subst, inl, inr, ℕ, ◌+◌, ◌-◌, ◌<◌, ◌≤◌, ◌==◌, Bool, true, false, nat_lt, if◌then◌else◌, length, le_trans, arith, suc, ◌^◌, ◌||◌, not, min, replicate}
use Rattle.std.proofs.lemmas.List.{get_or-replicate, get_or_past, get_or-set_same, get_or-set_other}
use Rattle.dr_entry.proofs.NumberFacts.{is_below}
use Rattle.dr_program.specs.{Form.IsRunningMember, Turn.{after, columns_in, is_beat, part_of, rows_in, turn_begins}}
use Rattle.dr_program.specs.Running.{Running, after_step, columns, goes, members, next_step, settled, step_at, took, took_letter, waits_after, applies, crashes_now}
use Rattle.dr_program.specs.{Steps.IsNoJoin, declared.place.{Part.Part, Place.Place, TheConstants.TURN}}
use Rattle.dr_program.proofs.Fixed.{step_told, Told}
use Rattle.dr_program.proofs.{Going.goes_back_or_stays, StepsAt.{no_join_at, append_either, push_either, vote_either}}
use Rattle.dr_program.proofs.{Parts.{ends_view, numbered, is_publish}, Search.{beat_test, settle_only, idle_part}}
use Rattle.dr_program.proofs.Patience.{is_looks, looks_first, last_begins, looks_before, no_take, plain_looks, waits_stay}
use Rattle.dr_machine.specs.declared.step.Step.{Step, TheVariants.Look}
use Rattle.dr_program.specs.declared.place.Part.TheVariants as parts
use Rattle.dr_rows.specs.Words.{looked}
use Rattle.dr_suspect.specs.Waits.{Waits, begun, compared, turns_without_news}
use Rattle.dr_suspect.proofs.Waiting.{compared_count, compared_other, no_news}
use Rattle.dr_turn.{specs.Search.{Passed, here, on}, proofs.Search.settled_passed}
use Rattle.dr_program_laws.specs.Trusting.{IsOthers, IsPatient, MayWait, to_come}

-- ---- the rows that are still to be compared in the turn of a place

abbrev pub comes : Place → ℕ → ℕ
comes p i = to_come (part_of p) p.row i

-- none is behind the looks
pub none_comes : (part : Part) (row i : ℕ) → is_looks part ≡ false → to_come part row i ≡ 0
none_comes parts.Take row i other = absurd (cc other)
none_comes parts.Look row i other = absurd (cc other)
none_comes part row i other = refl

pub one_comes : (part : Part) (row i : ℕ) → to_come part row i ≤ 1
one_comes parts.Look row i = by (nat_lt i row)
  where
    by : (b : Bool) → (if b then 0 else 1) ≤ 1
    by true = omega arith
    by false = omega arith
one_comes part row i = omega arith

-- a row further on leaves no more
row_less : (part : Part) (row i : ℕ) → to_come part (row + 1) i ≤ to_come part row i
row_less parts.Look row i = by (cases_lt i row)
  where
    by : (i < row) ⊎ (row ≤ i) → (if nat_lt i (row + 1) then 0 else 1) ≤ (if nat_lt i row then 0 else 1)
    by (inl l) = grind (arith, l)
    by (inr l) = grind (arith, l)
row_less part row i = omega arith

-- so the place after leaves no more, but where the next turn begins
pub after_less : (n k : ℕ) (p : Place) (i : ℕ) → is_beat (part_of p) ≡ false → comes (after n k p) i ≤ comes p i
after_less n k p i amid = by (nat_lt (p.column + 1) (columns_in k (part_of p)))
    (nat_lt (p.row + 1) (rows_in n (part_of p))) (cases_lt (p.part + 1) (length TURN))
  where
    looked : (b : Bool) → is_looks (numbered (p.part + 1)) ≡ b → p.part + 1 < length TURN
        → to_come (numbered (p.part + 1)) 0 i ≤ comes p i
    looked true e l = omega (
      arith,
      one_comes (numbered (p.part + 1)) 0 i,
      ap (λ part. to_come part p.row i) (looks_first p.part l e),
    )
    looked false e l = omega (arith, none_comes (numbered (p.part + 1)) 0 i e)

    next : (p.part + 1 < length TURN) ⊎ (length TURN ≤ p.part + 1)
        → comes (record { part = if nat_lt (p.part + 1) (length TURN) then p.part + 1 else 0; row = 0; column = 0 })
        i ≤ comes p i
    next (inl l) =
        let within : nat_lt (p.part + 1) (length TURN) ≡ true = grind (arith, l) in
        rw within (looked (is_looks (numbered (p.part + 1))) refl l)
    next (inr l) = absurd (cc (last_begins p.part l, amid))

    by : (x y : Bool) → (p.part + 1 < length TURN) ⊎ (length TURN ≤ p.part + 1)
        → comes (if x then record p { column = p.column + 1 } else (if y then record p { row = p.row + 1; column = 0 }
        else record { part = if nat_lt (p.part + 1) (length TURN) then p.part + 1 else 0; row = 0; column = 0 }))
        i ≤ comes p i
    by true y l = omega arith
    by false true l = row_less (part_of p) p.row i
    by false false l = next l

pub passed_less : (r : Running) (p q : Place) (i : ℕ) → Passed r p q → comes q i ≤ comes p i
passed_less r _ _ i (here p) = omega arith
passed_less r _ _ i (on p q fails rest) = le_trans (passed_less r (after (members r) (columns r) p) q i rest)
    (after_less (members r) (columns r) p i (idle_part r p fails))

-- ---- a deed

-- behind the looks no deed but the one that begins a turn goes back to them
pub goes_less : (n k : ℕ) (part : Part) (p : Place) (i : ℕ) → part_of p ≡ part → is_beat part ≡ false
    → is_looks part ≡ false → comes (goes n k part p) i ≤ comes p i
goes_less n k parts.Take p i at amid other = absurd (cc other)
goes_less n k parts.Look p i at amid other = absurd (cc other)
goes_less n k parts.Append p i at amid other = after_less n k p i (ap is_beat at)
goes_less n k parts.Vote p i at amid other = after_less n k p i (ap is_beat at)
goes_less n k parts.Push p i at amid other = after_less n k p i (ap is_beat at)
goes_less n k (parts.Do a) p i at amid other = by (goes_back_or_stays n k a p amid)
  where
    back : (p.part < length TURN) ⊎ (length TURN ≤ p.part) → is_publish (parts.Do a) ≡ true
        → to_come (numbered (p.part - 1)) p.row i ≤ comes p i
    back (inl l) e = omega (
      arith,
      none_comes (numbered (p.part - 1)) p.row i (looks_before p.part l (ap is_publish at ∙ e)),
    )
    back (inr l) e = absurd (cc (last_begins p.part (omega (arith, l)), ap is_beat at, amid))

    by : ((is_publish (parts.Do a) ≡ true) × (goes n k (parts.Do a) p ≡ record p { part = p.part - 1 }))
        ⊎ ((is_publish (parts.Do a) ≡ false) × (goes n k (parts.Do a) p ≡ p))
        → comes (goes n k (parts.Do a) p) i ≤ comes p i
    by (inl t) = rw t.1 (back (cases_lt p.part (length TURN)) t.0)
    by (inr t) = rw t.1 (omega arith)
goes_less n k part p i at amid other = omega arith

-- the looks: with the last word of a row one is counted, and none is to come for it
looks_less : (word : ℕ) (r : Running) (i : ℕ) → IsRunningMember r → part_of r.place ≡ parts.Look
    → turns_without_news (waits_after word r (step_at r parts.Look r.place.row r.place.column)) i
    + comes (after (members r) (columns r) r.place) i ≤ turns_without_news r.waits i + comes r.place i
looks_less word r i member at = by (r.place.column + 1 == columns r) refl (cases_eq i r.place.row)
  where
    less : comes (after (members r) (columns r) r.place) i ≤ comes r.place i
    less = after_less (members r) (columns r) r.place i (ap is_beat at)

    here_comes : i ≡ r.place.row → comes r.place i ≡ 1
    here_comes same = ap (λ part. to_come part r.place.row i) at ∙ grind (arith, same)

    done : i ≡ r.place.row → (r.place.column + 1 == columns r) ≡ true
        → comes (after (members r) (columns r) r.place) i ≡ 0
    done same e = past (nat_lt (r.place.column + 1) (columns_in (columns r) (part_of r.place)))
        (nat_lt (r.place.row + 1) (rows_in (members r) (part_of r.place)))
        (ap (λ part. nat_lt (r.place.column + 1) (columns_in (columns r) part)) at ∙ grind (arith, nat_tests, e))
        (cases_lt (r.place.part + 1) (length TURN))
      where
        no_looks : (b : Bool) → is_looks (numbered (r.place.part + 1)) ≡ b → r.place.part + 1 < length TURN
            → is_looks (numbered (r.place.part + 1)) ≡ false
        no_looks true e l = absurd (cc (sym (looks_first r.place.part l e) ∙ at))
        no_looks false e l = e

        next : (r.place.part + 1 < length TURN) ⊎ (length TURN ≤ r.place.part + 1) → comes (record {
          part = if nat_lt (r.place.part + 1) (length TURN) then r.place.part + 1 else 0;
          row = 0;
          column = 0;
        }) i ≡ 0
        next (inl l) =
            let within = is_below (r.place.part + 1) (length TURN) l in
            rw within (none_comes (numbered (r.place.part + 1)) 0 i
            (no_looks (is_looks (numbered (r.place.part + 1))) refl l))
        next (inr l) = absurd (cc (last_begins r.place.part l, ap is_beat at))

        past : (x y : Bool) → x ≡ false → (r.place.part + 1 < length TURN) ⊎ (length TURN ≤ r.place.part + 1)
            → comes (if x then record r.place { column = r.place.column + 1 }
            else (if y then record r.place { row = r.place.row + 1; column = 0 } else record {
              part = if nat_lt (r.place.part + 1) (length TURN) then r.place.part + 1 else 0;
              row = 0;
              column = 0;
            })) i ≡ 0
        past true y f l = absurd (cc f)
        past false true f l = ap (λ part. to_come part (r.place.row + 1) i) at ∙ grind (arith, same)
        past false false f l = next l

    within : r.place.row < length r.waits.counts
    within = omega (
      arith,
      member.waits.counts,
      subst (λ part. r.place.row < rows_in (members r) part) at member.place.row,
      member.replica.rows.few,
      member.replica.members,
    )

    by : (b : Bool) → (r.place.column + 1 == columns r) ≡ b
        → (i ≡ r.place.row) ⊎ (i ≢ r.place.row) → turns_without_news (if b then compared r.waits
        (looked r.replica.rows r.place.row r.place.column word) r.place.row else r.waits) i + comes (after (members r)
        (columns r) r.place) i ≤ turns_without_news r.waits i + comes r.place i
    by true e (inl same) = omega (
      arith,
      compared_count r.waits (looked r.replica.rows r.place.row r.place.column word) r.place.row i within,
      done same e,
      here_comes same,
    )
    by true e (inr other) = omega (
      arith,
      compared_other r.waits (looked r.replica.rows r.place.row r.place.column word) r.place.row i other,
      less,
    )
    by false e side = omega (arith, less)

-- ---- a member after its next deed

-- the deed of a part leaves no more looks and turns together
abbrev Lessens : ℕ → Running → ℕ → Part → Type 0
Lessens word r i part = turns_without_news (waits_after word r (step_at r part r.place.row r.place.column)) i
    + comes (goes (members r) (columns r) part r.place) i ≤ turns_without_news r.waits i + comes r.place i

-- so it is where no turn begins by it
took_less : (word : ℕ) (r : Running) (i : ℕ) → IsRunningMember r → ends_view (next_step r) ≡ false
    → is_beat (part_of r.place) ≡ false → turns_without_news (took word r (next_step r)).waits i + comes (took word r
    (next_step r)).place i ≤ turns_without_news r.waits i + comes r.place i
took_less word r i member stays amid = by (part_of r.place) refl
  where
    plain : (part : Part) → part_of r.place ≡ part → is_looks part ≡ false → Lessens word r i part
    plain part at other = omega (
      arith,
      ap (λ (w : Waits). turns_without_news w i) (waits_stay word r (step_at r part r.place.row r.place.column)
          (plain_looks r part r.place.row r.place.column other)
          (no_join_at r part r.place.row r.place.column (no_take part other))
          (ap (λ x. ends_view (step_at r x r.place.row r.place.column)) (sym at) ∙ stays)),
      goes_less (members r) (columns r) part r.place i at (sym (ap is_beat at) ∙ amid) other,
    )

    by : (part : Part) → part_of r.place ≡ part → Lessens word r i (part_of r.place)
    by parts.Look at = subst (Lessens word r i) (sym at) (looks_less word r i member at)
    by parts.Take at = subst (Lessens word r i) (sym at) (omega (arith, no_news r.waits.limit i))
    by part at = subst (Lessens word r i) (sym at) (plain part at refl)

-- a patient member stays so over a take that finds no letter
pub patient_take : (r : Running) → IsPatient r → IsPatient (settled (took_letter None r))
patient_take r patient = subst IsPatient (sym (settle_only _ y)) (by patient)
  where
    y : Running
    y = took_letter None r

    by : IsPatient r → IsPatient (record (took_letter None r) { place = (settled (took_letter None r)).place })
    by (inl none) = inl none
    by (inr enough) = inr (λ i is. omega (
      arith,
      enough i is,
      passed_less (settled y) y.place (settled y).place i (settled_passed y),
    ))

-- so a patient member stays so, where it may wait as its turn begins
pub patient_on : (word : ℕ) (r : Running) → IsRunningMember r → ends_view (next_step r) ≡ false
    → (is_beat (part_of r.place) ≡ true → MayWait r) → (waits_after word r (next_step r)).limit ≡ r.waits.limit
    → IsPatient r → IsPatient (after_step word r)
patient_on word r member stays may limit patient =
    subst IsPatient (sym (settle_only _ y)) (by (is_beat (part_of r.place)) refl patient)
  where
    y : Running
    y = took word r (next_step r)

    less : (i : ℕ) → comes (settled (took word r (next_step r))).place i ≤ comes (took word r (next_step r)).place i
    less i = passed_less (settled y) y.place (settled y).place i (settled_passed y)

    other : (i : ℕ) → IsOthers y.replica i → IsOthers r.replica i
    other i is = (
      subst (λ (t : Told). i < t.roster) (step_told word r.replica (next_step r)) is.0,
      subst (λ (t : Told). i ≢ t.number) (step_told word r.replica (next_step r)) is.1,
    )

    begun : MayWait r → is_beat (part_of r.place) ≡ true → IsPatient (record y { place = (settled y).place })
    begun (inl none) beat = inl (limit ∙ none)
    begun (inr enough) beat = inr (λ i is. omega (
      arith,
      enough i (other i is),
      limit,
      one_comes (part_of (settled y).place) (settled y).place.row i,
      ap (λ (w : Waits). turns_without_news w i) (subst (λ part.
          waits_after word r (step_at r part r.place.row r.place.column) ≡ r.waits)
          (sym (beat_test (part_of r.place) beat)) refl),
    ))

    by : (b : Bool) → is_beat (part_of r.place) ≡ b → IsPatient r → IsPatient (record y { place = (settled y).place })
    by true beat was = begun (may beat) beat
    by false amid (inl none) = inl (limit ∙ none)
    by false amid (inr enough) = inr (λ i is. omega (
      arith,
      enough i (other i is),
      limit,
      less i,
      took_less word r i member stays amid,
    ))

-- behind the looks none is to come
pub next_none : (p : Place) (i : ℕ) → part_of p ≡ parts.Look
    → comes (record { part = if nat_lt (p.part + 1) (length TURN) then p.part + 1 else 0; row = 0; column = 0 }) i ≡ 0
next_none p i at = by (cases_lt (p.part + 1) (length TURN))
  where
    no_looks : (b : Bool) → is_looks (numbered (p.part + 1)) ≡ b → p.part + 1 < length TURN
        → is_looks (numbered (p.part + 1)) ≡ false
    no_looks true e l = absurd (cc (sym (looks_first p.part l e) ∙ at))
    no_looks false e l = e

    by : (p.part + 1 < length TURN) ⊎ (length TURN ≤ p.part + 1)
        → comes (record { part = if nat_lt (p.part + 1) (length TURN) then p.part + 1 else 0; row = 0; column = 0 })
        i ≡ 0
    by (inl l) =
        let within : nat_lt (p.part + 1) (length TURN) ≡ true = grind (arith, l) in
        rw within (none_comes (numbered (p.part + 1)) 0 i (no_looks (is_looks (numbered (p.part + 1))) refl l))
    by (inr l) = absurd (cc (last_begins p.part l, ap is_beat at))

-- a look at another column stays in its row
pub wide_after : (n k : ℕ) (p : Place) (i : ℕ) → part_of p ≡ parts.Look → p.column < k
    → (p.column + 1 == k) ≡ false → comes (after n k p) i ≡ comes p i
wide_after n k p i at low e = by (nat_lt (p.column + 1) (columns_in k (part_of p)))
    (ap (λ part. nat_lt (p.column + 1) (columns_in k part)) at ∙ grind (arith, nat_tests, e, low))
  where
    by : (x : Bool) → x ≡ true → comes (if x then record p { column = p.column + 1 }
        else (if nat_lt (p.row + 1) (rows_in n (part_of p)) then record p { row = p.row + 1; column = 0 }
        else record { part = if nat_lt (p.part + 1) (length TURN) then p.part + 1 else 0; row = 0; column = 0 })) i
        ≡ comes p i
    by true t = refl
    by false t = absurd (cc t)

pub here_comes : (p : Place) (i : ℕ) → part_of p ≡ parts.Look → comes p i ≡ to_come parts.Look p.row i
here_comes p i at = ap (λ part. to_come part p.row i) at
