-- In its turn a member compares the beat of each other member once.
use Rattle.std.{specs.Prelude.{Option, None, Some, is_some}, proofs.lemmas.{Bool.cases_eq, List.get_or-set_same}}
use Rattle.std.proofs.Common.{◌≡◌, ◌≢◌, refl, sym, ap, ◌∙◌, subst, inl, inr, ◌⊎◌, ℕ, ◌+◌, ◌<◌, ◌==◌, Bool, true, false, if◌then◌else◌, arith}
use Rattle.dr_entry.specs.declared.end.End.{End}
use Rattle.dr_machine.{specs.{Acts.effect_of, Group.{Group, columns, roster}, World.World}, proofs.Events.is_look}
use Rattle.dr_program.specs.{Form.{IsOf, IsRunningMember}, Program.{Program, next_sight, ok, step_of}}
use Rattle.dr_program.specs.{Reading.{table_of, world}, Replica.Replica}
use Rattle.dr_program.specs.Running.{Running, applies, goes, members, next_step, step_at, took, waits_after}
use Rattle.dr_program.specs.{Steps.{stepped, IsNoJoin}, Turn.{IsIn, after, columns_in, is_beat, part_of, rows_in}}
use Rattle.dr_program.{specs.declared.place.{Part.Part, Place.Place}, proofs.Deeds.replicas}
use Rattle.dr_program.proofs.{Fixed.{of_told, step_told}, Order.after_in, Parts.{ends_view, seen_stays}}
use Rattle.dr_program.proofs.{Patience.{is_looks, plain_looks, waits_stay}, RunningPrograms.settled_end}
use Rattle.dr_program.proofs.{Search.{applies_at, settle_only, idle_part}, Stepping.{stepped_on, stepped_replica}}
use Rattle.dr_program.specs.declared.place.Part.TheVariants as parts
use Rattle.dr_program.specs.Running as running
use Rattle.dr_refine.proofs.{Deeds.program_member, Guards.seen_is}
use Rattle.dr_rows.specs.Words.{looked, seen}
use Rattle.dr_suspect.specs.Waits.{Waits, beat_of, compared, next_count, turns_without_news}
use Rattle.dr_suspect.proofs.Waiting.{compared_other, compared_beat}
use Rattle.dr_turn.{specs.Search.{Passed, here, on}, proofs.{Deeds.deed_done, Search.settled_passed}}
use Rattle.dr_words.specs.{Columns.columns_of, declared.column.TheConstants.BEAT_COLUMN}
use Rattle.dr_faithful.proofs.ChosenViews.{seen_other}
use Rattle.dr_turn_laws.{specs.Rested.HasCompared, proofs.Passing.{IsGoing, among, in_view, unasked}}
use Rattle.dr_turn_laws.proofs.Steadying.{moved_member, steady_moves, takes_none, world_on}
use Rattle.dr_program_laws.{specs.Trusting.AreAtEase, proofs.{Keeping.next_form, Sight.next_grown}}
use Rattle.dr_program_laws.proofs.Patience.{after_less, comes, goes_less, none_comes, wide_after, here_comes}
use Rattle.dr_program_laws.proofs.Trusting.{never_ends, rows_after, take_after, last_after, row_come}

-- what member m knows amid its turn: of the rows that it has compared in it, and of those that are to come
pub record HasLooked (g : Group) (w : World) (m : ℕ) (old : Waits) (y : Running) : Type 0 where
  pub limit : y.waits.limit ≡ old.limit
  pub still : (i : ℕ) → i < roster g → i ≢ m → comes y.place i ≡ 1
      → (turns_without_news y.waits i ≡ turns_without_news old i) × (beat_of y.waits i ≡ beat_of old i)
  pub news : (i : ℕ) → i < roster g → i ≢ m → comes y.place i ≡ 0 → HasCompared old y.waits i (w.seen m i BEAT_COLUMN)

-- ---- the search

-- it passes no look at another member's row
passes_none : (g : Group) (q : Program) (m : ℕ) (z : Running) (a : Place) (i : ℕ) → IsGoing g q m z
    → IsIn (roster g) (columns g) a → applies z a ≡ false → i < roster g → i ≢ m
    → comes (after (roster g) (columns g) a) i ≡ comes a i
passes_none g q m z a i is inside fails within other = by (part_of a) refl
  where
    looks : part_of a ≡ parts.Look → (a.row ≡ m) ⊎ (a.row ≢ m) → comes (after (roster g) (columns g) a) i ≡ comes a i
    looks at (inl own) = rows_after (roster g) (columns g) a i at
        (subst (λ part. a.column < columns_in (columns g) part) at inside.column) (λ same. other (same ∙ own)) within
    looks at (inr apart) = absurd (unasked g q m z (step_at z parts.Look a.row a.column) is
        (sym (ap (λ part. applies_at z part a.row a.column) at) ∙ fails) (
          record {
            member = in_view g q m z a.row is (subst (λ part. a.row < rows_in (roster g) part) at inside.row);
            other = apart;
          },
          subst (λ part. a.column < columns_in (columns g) part) at inside.column,
        ))

    by : (part : Part) → part_of a ≡ part → comes (after (roster g) (columns g) a) i ≡ comes a i
    by parts.Look at = looks at (cases_eq a.row m)
    by parts.Take at = take_after (roster g) (columns g) a i inside at
    by part at = omega (
      arith,
      after_less (roster g) (columns g) a i (idle_part z a fails),
      none_comes (part_of a) a.row i (ap is_looks at),
    )

-- so the rows that are to come are the same behind it
search_same : (g : Group) (q : Program) (m : ℕ) (z : Running) (a b : Place) (i : ℕ) → IsGoing g q m z
    → IsIn (roster g) (columns g) a → Passed z a b → i < roster g → i ≢ m → comes b i ≡ comes a i
search_same g q m z _ _ i is inside (here a) within other = refl
search_same g q m z _ _ i is inside (on a b fails rest) within other = search_same g q m z
    (after (members z) (running.columns z) a) b i is (subst (IsIn (roster g) (columns g))
    (sym next) (after_in (roster g) (columns g) a (omega (arith, within)) wide inside)) rest within other
    ∙ ap (λ p. comes p i) next ∙ passes_none g q m z a i is inside fails within other
  where
    of : IsOf g m z.replica
    of = is.steady.program.of m z is.there

    next : after (members z) (running.columns z) a ≡ after (roster g) (columns g) a
    next = λ x. after (of.members x) (columns_of (of.members x) (of.window x)) a

    wide : 0 < columns g
    wide = omega arith

-- ---- a deed

-- amid its turn, and behind a deed of it before the search
abbrev Behind : Group → Program → ℕ → Waits → Running → Type 0
Behind g p m old r = HasLooked g (world g (step_of p (ok m))) m old (took (next_sight p.table r) r (next_step r))

moved : (g : Group) (p : Program) (m : ℕ) (r : Running) → IsGoing g p m r
    → world g (step_of p (ok m)) ≡ effect_of g (world g p) m (next_step r)
moved g p m r is = (world_on g p m r is.steady is.there is.unended).1

-- a deed that is no look
plain_behind : (g : Group) (p : Program) (m : ℕ) (r : Running) (old : Waits) → IsGoing g p m r
    → is_beat (part_of r.place) ≡ false → is_looks (part_of r.place) ≡ false → HasLooked g (world g p) m old r
    → Behind g p m old r
plain_behind g p m r old is amid other was = record {
  limit = ap (λ (w : Waits). w.limit) waits ∙ was.limit;
  still = λ i l d one. absurd (omega (arith, one, none i));
  news = λ i l d come. subst (λ w. HasCompared old w i ((world g (step_of p (ok m))).seen m i BEAT_COLUMN))
      (sym waits) (subst (HasCompared old r.waits i) (sym (seen_same i))
      (was.news i l d (none_comes (part_of r.place) r.place.row i other)));
}
  where
    look : is_look (next_step r) ≡ false
    look = plain_looks r (part_of r.place) r.place.row r.place.column other

    no_join : IsNoJoin (next_step r)
    no_join = takes_none g p m r is.steady is.there is.unended

    stays : ends_view (next_step r) ≡ false
    stays = never_ends g p m r (among g p m r is) is.unended

    waits : waits_after (next_sight p.table r) r (next_step r) ≡ r.waits
    waits = waits_stay (next_sight p.table r) r (next_step r) look no_join stays

    seen_same : (i : ℕ) → (world g (step_of p (ok m))).seen m i BEAT_COLUMN ≡ (world g p).seen m i BEAT_COLUMN
    seen_same i = ap (λ (w : World). w.seen m i BEAT_COLUMN) (moved g p m r is)
        ∙ seen_stays g (world g p) m i (next_step r) look no_join stays

    none : (i : ℕ) → comes (took (next_sight p.table r) r (next_step r)).place i ≡ 0
    none i = omega (
      arith,
      goes_less (members r) (running.columns r) (part_of r.place) r.place i refl amid other,
      none_comes (part_of r.place) r.place.row i other,
    )

-- a look
look_behind : (g : Group) (p : Program) (m : ℕ) (r : Running) (old : Waits) → IsGoing g p m r
    → part_of r.place ≡ parts.Look → HasLooked g (world g p) m old r → Behind g p m old r
look_behind g p m r old is at was = by (r.place.column + 1 == running.columns r) refl
  where
    word : ℕ
    word = next_sight p.table r

    n : ℕ
    n = members r

    k : ℕ
    k = running.columns r

    j : ℕ
    j = r.place.row

    form : IsRunningMember r
    form = is.steady.program.form m r is.there

    low : r.place.column < running.columns r
    low = subst (λ part. r.place.column < columns_in (running.columns r) part) at form.place.column

    row : r.place.row < members r
    row = subst (λ part. r.place.row < rows_in (members r) part) at form.place.row

    step : next_step r ≡ step_at r parts.Look r.place.row r.place.column
    step = ap (λ part. step_at r part r.place.row r.place.column) at

    all : members r ≡ roster g
    all = (is.steady.program.of m r is.there).members

    waits : (b : Bool) → (r.place.column + 1 == running.columns r) ≡ b
        → (took (next_sight p.table r) r (next_step r)).waits ≡ (if b then compared r.waits
        (looked r.replica.rows r.place.row r.place.column (next_sight p.table r)) r.place.row else r.waits)
    waits b e = ap (waits_after word r) step
        ∙ ap (λ x. if x then compared r.waits (looked r.replica.rows j r.place.column word) j else r.waits) e

    place : (took (next_sight p.table r) r (next_step r)).place ≡ after (members r) (running.columns r) r.place
    place = ap (λ part. goes n k part r.place) at

    -- the row of the look is still to come before it
    own_comes : (i : ℕ) → i ≡ r.place.row → comes r.place i ≡ 1
    own_comes i same = here_comes r.place i at ∙ grind (arith, same)

    seen_same : (i : ℕ) → i ≢ r.place.row
        → (world g (step_of p (ok m))).seen m i BEAT_COLUMN ≡ (world g p).seen m i BEAT_COLUMN
    seen_same i other = ap (λ (w : World). w.seen m i BEAT_COLUMN) (moved g p m r is)
        ∙ ap (λ s. (effect_of g (world g p) m s).seen m i BEAT_COLUMN) step
        ∙ seen_other (world g p).seen m j r.place.column
        ((world g p).table ((world g p).past.view m) m j r.place.column) i BEAT_COLUMN other

    -- what is seen of the row is what the look has left
    seen_here : r.place.row ≢ m → (world g (step_of p (ok m))).seen m r.place.row BEAT_COLUMN
        ≡ seen (looked r.replica.rows r.place.row r.place.column (next_sight p.table r)) r.place.row BEAT_COLUMN
    seen_here other =
        let steady = steady_moves g p (ok m) is.steady in
        seen_is g (replicas (step_of p (ok m)).members) (table_of (step_of p (ok m))) m (stepped_on p r).replica j
        BEAT_COLUMN (program_member g (step_of p (ok m)) m (stepped_on p r) steady.group steady.program
        (moved_member g p m r is.steady is.there is.unended)) other
        ∙ ap (λ (q : Replica). seen q.rows j BEAT_COLUMN) (stepped_replica p r ∙ ap (stepped word r.replica) step)

    within : r.place.row < 16
    within = omega (arith, row, form.replica.rows.few, form.replica.members)

    by : (b : Bool) → (r.place.column + 1 == running.columns r) ≡ b → Behind g p m old r
    by false e = record {
      limit = ap (λ (w : Waits). w.limit) (waits false e) ∙ was.limit;
      still = λ i l d one. subst (λ (w : Waits). (turns_without_news w i ≡ turns_without_news old i) ×
          (beat_of w i ≡ beat_of old i)) (sym (waits false e)) (was.still i l d (same i ∙ one));
      news = λ i l d come.
          let before : comes r.place i ≡ 0 = same i ∙ come in
          let other : i ≢ r.place.row = λ z. absurd (omega (arith, own_comes i z, before)) in
          subst (λ w. HasCompared old w i ((world g (step_of p (ok m))).seen m i BEAT_COLUMN)) (sym (waits false e))
          (subst (HasCompared old r.waits i) (sym (seen_same i other)) (was.news i l d before));
    }
      where
        same : (i : ℕ) → comes r.place i ≡ comes (took (next_sight p.table r) r (next_step r)).place i
        same i = sym (ap (λ q. comes q i) place ∙ wide_after n k r.place i at low e)
    by true e = record {
      limit = ap (λ (w : Waits). w.limit) (waits true e) ∙ was.limit;
      still = λ i l d one. still i l d one (cases_eq i r.place.row);
      news = λ i l d come. subst (λ w. HasCompared old w i ((world g (step_of p (ok m))).seen m i BEAT_COLUMN))
          (sym (waits true e)) (news i l d come (cases_eq i r.place.row));
    }
      where
        rest : (i : ℕ) → i < roster g → i ≢ r.place.row
            → comes r.place i ≡ comes (took (next_sight p.table r) r (next_step r)).place i
        rest i l other = sym (ap (λ q. comes q i) place
            ∙ rows_after n k r.place i at low other (omega (arith, l, all)))

        own : (i : ℕ) → i ≡ r.place.row → comes (took (next_sight p.table r) r (next_step r)).place i ≡ 0
        own i z = ap (λ q. comes q i) place ∙ last_after n k r.place i at e ∙ row_come r.place.row n i z

        still : (i : ℕ) → i < roster g → i ≢ m → comes (took (next_sight p.table r) r (next_step r)).place i ≡ 1
            → (i ≡ r.place.row) ⊎ (i ≢ r.place.row)
            → (turns_without_news (took (next_sight p.table r) r (next_step r)).waits i ≡ turns_without_news old i)
            × (beat_of (took (next_sight p.table r) r (next_step r)).waits i ≡ beat_of old i)
        still i l d one (inl z) = absurd (omega (arith, one, own i z))
        still i l d one (inr other) =
            let before = was.still i l d (rest i l other ∙ one) in (
              ap (λ (w : Waits). turns_without_news w i) (waits true e)
                  ∙ compared_other r.waits (looked r.replica.rows j r.place.column word) j i other ∙ before.0,
              ap (λ (w : Waits). beat_of w i) (waits true e)
                  ∙ compared_beat r.waits (looked r.replica.rows j r.place.column word) j i other ∙ before.1,
            )

        news : (i : ℕ) → i < roster g → i ≢ m → comes (took (next_sight p.table r) r (next_step r)).place i ≡ 0
            → (i ≡ r.place.row) ⊎ (i ≢ r.place.row)
            → HasCompared old (compared r.waits (looked r.replica.rows r.place.row r.place.column
            (next_sight p.table r)) r.place.row) i ((world g (step_of p (ok m))).seen m i BEAT_COLUMN)
        news i l d come (inr other) =
            let before = was.news i l d (rest i l other ∙ come) in record {
              beat = compared_beat r.waits (looked r.replica.rows j r.place.column word) j i other
                  ∙ before.beat ∙ sym (seen_same i other);
              count = compared_other r.waits (looked r.replica.rows j r.place.column word) j i other
                  ∙ before.count ∙ ap (next_count (turns_without_news old i) (beat_of old i)) (sym (seen_same i other));
            }
        news i l d come (inl z) = rw z (here_news (λ s. d (z ∙ s)))
          where
            here_news : r.place.row ≢ m → HasCompared old (compared r.waits
                (looked r.replica.rows r.place.row r.place.column (next_sight p.table r)) r.place.row) r.place.row
                ((world g (step_of p (ok m))).seen m r.place.row BEAT_COLUMN)
            here_news other =
                let before = was.still j (omega (arith, row, all)) other (own_comes j refl) in record {
                  beat = get_or-set_same r.waits.beats j
                      (seen (looked r.replica.rows j r.place.column word) j BEAT_COLUMN) 0
                      (omega (arith, within, form.waits.beats)) ∙ sym (seen_here other);
                  count = get_or-set_same r.waits.counts j (next_count (turns_without_news r.waits j)
                      (beat_of r.waits j) (seen (looked r.replica.rows j r.place.column word) j BEAT_COLUMN)) 0
                      (omega (arith, within, form.waits.counts)) ∙ ap (λ c. next_count c
                      (beat_of r.waits j) (seen (looked r.replica.rows j r.place.column word) j BEAT_COLUMN)) before.0
                      ∙ ap (λ b. next_count (turns_without_news old j) b
                      (seen (looked r.replica.rows j r.place.column word) j BEAT_COLUMN)) before.1
                      ∙ ap (next_count (turns_without_news old j) (beat_of old j)) (sym (seen_here other));
                }

-- each deed by which no turn begins
pub deed_behind : (g : Group) (p : Program) (m : ℕ) (r : Running) (old : Waits) → IsGoing g p m r
    → is_beat (part_of r.place) ≡ false → HasLooked g (world g p) m old r → Behind g p m old r
deed_behind g p m r old is amid was = by (part_of r.place) refl
  where
    by : (part : Part) → part_of r.place ≡ part → Behind g p m old r
    by parts.Look at = look_behind g p m r old is at was
    by parts.Take at = absurd (subst IsNoJoin
        (ap (λ part. step_at r part r.place.row r.place.column) at) (takes_none g p m r is.steady is.there is.unended))
    by part at = plain_behind g p m r old is amid (ap is_looks at) was

-- and the search behind it
pub settled_behind : (g : Group) (p : Program) (m : ℕ) (r : Running) (old : Waits) → IsGoing g p m r
    → AreAtEase (step_of p (ok m)) → Behind g p m old r
    → HasLooked g (world g (step_of p (ok m))) m old (stepped_on p r)
settled_behind g p m r old is ease was = by (stepped_on p r).replica.end refl
  where
    word : ℕ
    word = next_sight p.table r

    only : (stepped_on p r).replica ≡ (took (next_sight p.table r) r (next_step r)).replica
    only = ap (λ (x : Running). x.replica) (settle_only _ (took (next_sight p.table r) r (next_step r)))

    waits : (stepped_on p r).waits ≡ (took (next_sight p.table r) r (next_step r)).waits
    waits = ap (λ (x : Running). x.waits) (settle_only _ (took (next_sight p.table r) r (next_step r)))

    inside : IsIn (roster g) (columns g) (took (next_sight p.table r) r (next_step r)).place
    inside =
        let of = of_told g m r.replica (took word r (next_step r)).replica
        (step_told word r.replica (next_step r)) (is.steady.program.of m r is.there) in
        let done = deed_done word r (is.steady.program.form m r is.there) (is.steady.limits m r is.there) is.unended
        (next_form g p m r is.steady.group is.steady.program is.steady.reached is.there is.unended)
        (next_grown g p m r is.steady.group is.steady.program is.steady.reached is.there is.unended) in
        subst (λ x. IsIn x (columns g) (took word r (next_step r)).place) of.members
        (subst (λ x. IsIn (members (took word r (next_step r))) x (took word r (next_step r)).place)
        (λ z. columns_of (of.members z) (of.window z)) done.underway.place)

    by : (o : Option End) → (stepped_on p r).replica.end ≡ o
        → HasLooked g (world g (step_of p (ok m))) m old (stepped_on p r)
    by (Some end) e = subst (HasLooked g (world g (step_of p (ok m))) m old)
        (sym (settled_end (took word r (next_step r))
        (ap (λ (q : Replica). is_some q.end) (sym only) ∙ ap is_some e))) was
    by None e = record {
      limit = ap (λ (w : Waits). w.limit) waits ∙ was.limit;
      still = λ i l d one. subst (λ (w : Waits). (turns_without_news w i ≡ turns_without_news old i) ×
          (beat_of w i ≡ beat_of old i)) (sym waits) (was.still i l d (sym (same i l d) ∙ one));
      news = λ i l d come. subst (λ w. HasCompared old w i ((world g (step_of p (ok m))).seen m i BEAT_COLUMN))
          (sym waits) (was.news i l d (sym (same i l d) ∙ come));
    }
      where
        same : (i : ℕ) → i < roster g → i ≢ m
            → comes (stepped_on p r).place i ≡ comes (took (next_sight p.table r) r (next_step r)).place i
        same i l d = search_same g (step_of p (ok m)) m (stepped_on p r) (took word r (next_step r)).place
            (stepped_on p r).place i (record {
              steady = steady_moves g p (ok m) is.steady;
              ease = ease;
              there = moved_member g p m r is.steady is.there is.unended;
              unended = e;
            }) inside (settled_passed (took word r (next_step r))) l d
