-- A member along a row that it takes whole: one deed after the other.
use Rattle.std.proofs.Common.{◌≡◌, refl, sym, ap, ◌∙◌, subst, ℕ, zero, suc, ◌+◌, ◌-◌, ◌<◌, ◌≤◌, ◌||◌, Bool, true, false, List, length, min, ◌^◌, slice_index, slice_set, None, Some, inl, inr, arith}
use Rattle.std.proofs.lemmas.Bool.{and_parts, cases_lt}
use Rattle.dr_entry.proofs.NumberFacts.{untrue}
use Rattle.dr_rows.specs.{Along.{Pushes, looked_along, pushed_along, with_push}, Words.{changed, own, seen}}
use Rattle.dr_rows.proofs.Along.{looked_more, push_is, push_is_none, pushed_more, seen_behind}
use Rattle.dr_rows.specs.Words as words
use Rattle.dr_words.{specs.{Columns.columns_of, Form.IsInForm, Grown.HasGrown}, proofs.Order.Grown_refl}
use Rattle.dr_program.specs.declared.deed.Deed.TheVariants as deeds
use Rattle.dr_program.specs.declared.place.Part.TheVariants as parts
use Rattle.dr_program.specs.{Form.{HasForm, IsRunningMember}, Program.next_sight, Reading.{step_due, step_of_member}}
use Rattle.dr_program.specs.Replica.{Replica, is_inside, is_other, looked, me, pushed}
use Rattle.dr_program.specs.Running.{Running, after_step, asks, crashes_now, next_deed, next_step, push_or_crash, settled, step_at}
use Rattle.dr_program.specs.{Sight.MaySee, Steps.{NoWordFell, allows, index_in, sight, stored}, Turn.{IsIn, part_of}}
use Rattle.dr_program.{specs.declared.place.Place.Place, proofs.Keeps.{looked_keeps, looked_rises, pushed_keeps}}
use Rattle.dr_program.proofs.Replicas.{may_look, IsLookOf}
use Rattle.dr_machine.specs.declared.step.Step.TheVariants as steps
use Rattle.dr_machine.{specs.Effects.one_more, proofs.Worlds.{raised, raised_by}}
use Rattle.dr_suspect.specs.Waits.{Waits, compared}
use Rattle.dr_turn.{specs.{Search.IsUnderway, Work.{IsStill, deeds_left}}, proofs.Works.IsAnswer}
use Rattle.dr_member.specs.{Alone.{IsAtSweep, LeadsTo, SeesAlong}, Deeds.{is_look, is_push, table_size}}
use Rattle.dr_member.specs.{Fate.{IsTimely, is_push_now}, Inside.{IsInsideMember, member_inside}, Ready.KeepsReady}
use Rattle.dr_member.specs.{Search.{next_row, standing}, declared.{bases.Bases.Bases, fate.Fate.Fate}}
use Rattle.dr_member.{specs.declared.member.Member.TheInside.Inside, proofs.Crashes.some_at_push}
use Rattle.dr_member.proofs.{Dues.{at_look, push_due}, Indices.{columns_after, look_at, push_at}}
use Rattle.dr_member.proofs.Moves.{IsLooked, IsPushed, IsWaited, counted, look_left, looked_inside, looked_row_timely, push_left, pushed_behind, pushed_inside, pushed_timely, waited}
use Rattle.dr_member.proofs.Sweeps.{IsOnRow, look_index, look_on, look_takes, looks_begin, looks_end, push_index, push_on, pushes_begin, pushes_end, saw, stale_in, was_waited, wrote}

-- one deed more
pub leads_more : (n : ℕ) (words : List ℕ) (r : Running) (cells : List ℕ) (q : Running) (next : List ℕ)
    (x : Running) → LeadsTo n words r cells q → IsAtSweep q → stored cells q.replica (next_step q) ≡ next
    → after_step (next_sight cells q) q ≡ x → LeadsTo (n + 1) words r next x
leads_more n words r cells q next x taken due to after =
    subst (λ k. LeadsTo k words r next x) one (by n words r taken)
  where
    one : suc n ≡ n + 1
    one = omega arith

    by : (n : ℕ) (words : List ℕ) (r : Running) → LeadsTo n words r cells q → LeadsTo (suc n) words r next x
    by zero words r (same, is) = (
      subst IsAtSweep (sym is) due,
      (
        (λ z. stored (same z) (is z).replica (next_step (is z))) ∙ to,
        (λ z. after_step (next_sight (same z) (is z)) (is z)) ∙ after,
      ),
    )
    by (suc n) words r (first, rest) = (first, by n _ _ rest)

-- a push is one of them
pub push_sweeps : (r : Running) → is_push (next_deed r) ≡ true → IsAtSweep r
push_sweeps r due = either (is_look (next_deed r)) (is_push (next_deed r)) due
  where
    either : (x y : Bool) → y ≡ true → (x || y) ≡ true
    either true y e = refl
    either false y e = e

-- ---- looks

-- a member at a look, which has come to it over a table
module _ (table : List ℕ) (from : Running) (first : ℕ) (b : Inside)
    (on : IsOnRow (deeds.Look (first + b.place.column)) from b) where
  sight_there : next_sight table (member_inside b) ≡ slice_index table (first + b.place.column)
  sight_there =
      let at = at_look (member_inside b) on.inside.form (ap is_look on.due) in
      ap (λ part. sight table b.replica (step_at (member_inside b) part b.place.row b.place.column)) at.at
      ∙ ap (slice_index table) (sym (look_index from b _ on).index)

  stays_there : stored table b.replica (next_step (member_inside b)) ≡ table
  stays_there =
      let at = at_look (member_inside b) on.inside.form (ap is_look on.due) in
      ap (λ part. stored table b.replica (step_at (member_inside b) part b.place.row b.place.column)) at.at

  module _ (n : ℕ) (lead : LeadsTo n table from table (member_inside b)) (sees : SeesAlong table from) where
    may_there : MaySee (member_inside b) (step_of_member (member_inside b)) (slice_index table (first + b.place.column))
    may_there = subst (MaySee (member_inside b) (step_of_member (member_inside b))) sight_there
        (sees n (member_inside b) lead (ap is_look on.due))

    takes_there : IsLookOf b.replica b.place.row b.place.column (slice_index table (first + b.place.column))
    takes_there = look_takes b b.place.row (slice_index table (first + b.place.column)) on.inside may_there refl

    looked_there : IsLooked b.replica (looked b.replica b.place.row b.place.column
        (slice_index table (first + b.place.column))) b.fate b.place (slice_index table (first + b.place.column))
    looked_there =
        let at = at_look (member_inside b) on.inside.form (ap is_look on.due) in
        let t = takes_there in
        let form = on.inside.form.replica in
        let v = slice_index table (first + b.place.column) in
        saw b (looked b.replica b.place.row b.place.column v) b.place.row v on.inside may_there refl refl
        (looked_keeps b.replica b.place.row b.place.column v form t.other at.cell.column t.in_form)
        (looked_rises b.replica b.place.row b.place.column v form t.other (untrue _ _ t.may) at.cell.column t.grown)

    -- one look more
    looks_on : b.place.column + 1 < b.bases.columns
        → let q = looked b.replica b.place.row b.place.column (slice_index table (first + b.place.column)) in
        let next : Inside = record b { replica = q; place = record b.place { column = b.place.column + 1 } } in
        IsOnRow (deeds.Look (first + (b.place.column + 1))) from next
        × LeadsTo (n + 1) table from table (member_inside next)
    looks_on within =
        let v = slice_index table (first + b.place.column) in
        let q = looked b.replica b.place.row b.place.column v in
        let on_row = look_on from b q first v on looked_there within in (
          on_row.0,
          leads_more n table from table (member_inside b) table _ lead (ap (λ d. is_look d || is_push d) on.due)
              stays_there (ap (λ w. after_step w (member_inside b)) sight_there ∙ sym on_row.1.after),
        )

-- the member behind its looks up to a column
abbrev pub along : List ℕ → ℕ → Inside → ℕ → ℕ → Inside
along table first a n column = record a {
  replica = record a.replica { rows = looked_along a.place.row table first a.replica.rows a.place.column n };
  place = record a.place { column = column };
}

-- a member that is to take the looks of a row
pub record IsLooking (table : List ℕ) (from : Running) (first : ℕ) (a : Inside) : Type 0 where
  pub view : member_inside a ≡ from
  pub inside : IsInsideMember a
  pub due : is_look (next_deed from) ≡ true
  pub begins : first ≡ index_in from.replica (me from.replica) a.place.row 0
  pub sees : SeesAlong table from

-- it looks along the row
pub record LooksAt (table : List ℕ) (from : Running) (first : ℕ) (b : Inside) (n : ℕ) : Type 0 where
  pub on : IsOnRow (deeds.Look (first + b.place.column)) from b
  pub lead : LeadsTo n table from table (member_inside b)

looks_next : (table : List ℕ) (from : Running) (first : ℕ) (a : Inside) (n c column : ℕ)
    → IsLooking table from first a → a.place.column + n ≡ c → column ≡ c + 1 → column < a.bases.columns
    → LooksAt table from first (along table first a n c) n
    → LooksAt table from first (along table first a (suc n) column) (suc n)
looks_next table from first a n c column is e next within at =
    let more = looks_on table from first (along table first a n c) at.on n at.lead is.sees
    (omega (arith, next, within)) in
    subst (λ d. LooksAt table from first (along table first a (suc n) d) (suc n)) (sym next)
    (subst (λ m. LooksAt table from first (along table first a m (c + 1)) m) one
    (subst (λ rows. LooksAt table from first (record a {
      replica = record a.replica { rows = rows };
      place = record a.place { column = c + 1 };
    }) (n + 1)) (sym (looked_more a.place.row table first a.replica.rows a.place.column n c e))
    (record { on = more.0; lead = more.1 })))
  where
    one : n + 1 ≡ suc n
    one = omega arith

pub looks_along : (table : List ℕ) (from : Running) (first : ℕ) (a : Inside) (n column : ℕ)
    → IsLooking table from first a → a.place.column + n ≡ column → column < a.bases.columns
    → LooksAt table from first (along table first a n column) n
looks_along table from first a zero column is e within =
    subst (λ c. LooksAt table from first (along table first a 0 c) 0) here (record {
      on = looks_begin from a first is.view is.inside is.due is.begins;
      lead = (refl, sym is.view);
    })
  where
    here : a.place.column ≡ column
    here = omega (arith, e)
looks_along table from first a (suc n) column is e within =
    looks_next table from first a n (a.place.column + n) column is refl (omega (arith, e)) within
    (looks_along table from first a n (a.place.column + n) is refl (omega (arith, e, within)))

-- what its replica asks of the looks
pub record AsksOfLooks (table : List ℕ) (first : ℕ) (a : Inside) : Type 0 where
  pub row : a.place.row < a.replica.roster
  pub other : is_other a.replica a.place.row ≡ true
  pub may : may_look a.replica a.place.row a.place.column ≡ true
  pub column : a.place.column < a.bases.columns
  pub in_form : (c : ℕ) → a.place.column ≤ c → c < a.bases.columns
      → IsInForm a.replica.roster c (slice_index table (first + c))
  pub grown : (c : ℕ) → a.place.column ≤ c → c < a.bases.columns
      → HasGrown a.replica.roster c (seen a.replica.rows a.place.row c) (slice_index table (first + c))

-- the columns of the row
pub columns_here : (a : Inside) → IsInsideMember a → a.bases.columns ≡ columns_of a.replica.roster a.replica.window
columns_here a is = columns_after a a.replica a.replica is refl refl

pub looks_asked : (table : List ℕ) (from : Running) (first : ℕ) (a : Inside) → IsLooking table from first a
    → AsksOfLooks table first a
looks_asked table from first a is = record {
  row = here.row;
  other = here.other;
  may = here.may;
  column = column;
  in_form = λ c l h. (takes c l h).in_form;
  grown = λ c l h. subst (λ x. HasGrown a.replica.roster c x (slice_index table (first + c)))
      (seen_behind a.place.row table first a.replica.rows a.place.column (c - a.place.column) a.place.row c
      (omega (arith, l))) (takes c l h).grown;
}
  where
    column : a.place.column < a.bases.columns
    column =
        let at = at_look (member_inside a) is.inside.form
        (subst (λ r. is_look (next_deed r) ≡ true) (sym is.view) is.due) in
        omega (arith, at.cell.column, columns_here a is.inside)

    here : IsLookOf a.replica a.place.row a.place.column (slice_index table (first + a.place.column))
    here =
        let at = looks_along table from first a 0 a.place.column is (omega arith) column in
        takes_there table from first (along table first a 0 a.place.column) at.on 0 at.lead is.sees

    takes : (c : ℕ) → a.place.column ≤ c → c < a.bases.columns
        → IsLookOf (along table first a (c - a.place.column) c).replica a.place.row c (slice_index table (first + c))
    takes c l h =
        let at = looks_along table from first a (c - a.place.column) c is (omega (arith, l)) h in
        takes_there table from first (along table first a (c - a.place.column) c) at.on (c - a.place.column)
        at.lead is.sees

-- a member has come by looks and pushes over a table
pub record HasComeAlone (table : List ℕ) (from : Running) (cells : List ℕ) (b : Inside) : Type 0 where
  pub inside : IsInsideMember b
  pub taken : (n : ℕ) × LeadsTo n table from cells (member_inside b)
  pub form : IsRunningMember (member_inside b)
  pub grown : NoWordFell from.replica b.replica
  pub falls : deeds_left (member_inside b) < deeds_left from
  pub still : IsStill from (member_inside b)

-- a member behind the last deed of a row, with this replica and this fate
pub record IsBehindRow (table : List ℕ) (from : Running) (a : Inside) (cells : List ℕ) (q : Replica) (fate : Fate) :
    Type 0 where
  pub place : IsIn q.roster (columns_of q.roster q.window) a.place
  pub underway : IsUnderway (standing q fate (next_row q.roster a.place))
  pub timely : IsTimely fate q.turns
  pub inside : is_inside q ≡ true
  pub left : (p : Place) (ready : ℕ)
      → standing q fate p ≡ settled (standing q fate (next_row q.roster a.place)) → KeepsReady q p ready
      → HasComeAlone table from cells (record a { replica = q; place = p; fate = fate; ready = ready })

pub looks_done : (table : List ℕ) (from : Running) (first : ℕ) (a : Inside) (q : Replica) (w : Waits)
    → IsLooking table from first a → q ≡ record a.replica {
      rows = looked_along a.place.row table first a.replica.rows a.place.column
          (a.replica.rows.columns - a.place.column);
    } → w ≡ compared a.fate.waits q.rows a.place.row → IsBehindRow table from a table q (waited a.fate w)
looks_done table from first a q w is e waits = record {
  place = stale_in a q a.place.column is.inside (ap (λ (r : Replica). r.roster) e)
      (ap (λ (r : Replica). r.window) e) (omega arith);
  underway = look_left b.replica q b.fate b.place v w l past;
  timely = looked_row_timely b q a.place.row last v w at.on.inside l.after;
  inside = looked_inside b.replica q b.fate b.place v l;
  left = λ p ready settles keeps.
      let end = looks_end from b q p (first + last) v ready w at.on l past settles keeps in record {
        inside = end.inside;
        taken = (
          n + 1,
          leads_more n table from table (member_inside b) table _ at.lead (ap (λ d. is_look d || is_push d) at.on.due)
              (stays_there table from first b at.on)
              (ap (λ x. after_step x (member_inside b)) (sight_there table from first b at.on) ∙ sym end.answer.after),
        );
        form = end.answer.form;
        grown = end.grown;
        falls = end.falls;
        still = end.still;
      };
}
  where
    asked : AsksOfLooks table first a
    asked = looks_asked table from first a is

    last : ℕ
    last = a.bases.columns - 1

    n : ℕ
    n = last - a.place.column

    b : Inside
    b = along table first a n last

    v : ℕ
    v = slice_index table (first + last)

    at : LooksAt table from first b n
    at = looks_along table from first a n last is (omega (arith, asked.column)) (omega (arith, asked.column))

    all : a.replica.rows.columns - a.place.column ≡ n + 1
    all = omega (arith, asked.column, columns_here a is.inside, is.inside.form.replica.columns)

    after : looked b.replica a.place.row last v ≡ q
    after = ap (λ rows. record a.replica { rows = rows })
        (sym (looked_more a.place.row table first a.replica.rows a.place.column n last (omega (arith, asked.column))))
        ∙ ap (λ m. record a.replica {
          rows = looked_along a.place.row table first a.replica.rows a.place.column m;
        }) (sym all) ∙ sym e

    l : IsLooked b.replica q b.fate b.place v
    l = subst (λ x. IsLooked b.replica x b.fate b.place v) after
        (looked_there table from first b at.on n at.lead is.sees)

    past : IsWaited q a.fate b.place w
    past = was_waited b q a.place.row v w at.on.inside l (omega (arith, asked.column)) refl waits

-- ---- pushes

-- a member that is to take the pushes of a row, in a turn in which it does not crash
pub record IsPushing (table : List ℕ) (from : Running) (first : ℕ) (a : Inside) : Type 0 where
  pub view : member_inside a ≡ from
  pub inside : IsInsideMember a
  pub due : is_push (next_deed from) ≡ true
  pub begins : first ≡ index_in from.replica a.place.row (me from.replica) 0
  pub safe : a.fate.crash ≡ None

-- the columns below this one were pushed where they had changed, of which this one was the last
pub record PushedTo (table : List ℕ) (from : Running) (first : ℕ) (a : Inside) (s : Pushes) (column : ℕ) :
    Type 0 where
  -- the member before its last push, and the words of the table then
  pub last : Inside
  pub cells : List ℕ
  pub before : ℕ
  pub on : IsOnRow (deeds.Push (first + last.place.column) (own last.replica.rows last.place.column)) from last
  pub lead : (n : ℕ) × LeadsTo n table from cells (member_inside last)
  pub place : last.place ≡ record a.place { column = last.place.column }
  pub bases : last.bases ≡ a.bases
  pub fate : last.fate ≡ counted a.fate (raised before a.fate.pushes)
  pub replica : record a.replica { rows = s.words } ≡ pushed last.replica a.place.row last.place.column
  pub stores : s.table ≡ slice_set cells (first + last.place.column) (own last.replica.rows last.place.column)
  pub count : s.count ≡ before + 1
  pub below : last.place.column + 1 ≤ column
  pub unchanged : (x : ℕ) → last.place.column + 1 ≤ x → x < column → changed s.words a.place.row x ≡ false

module _ (table : List ℕ) (from : Running) (first : ℕ) (a : Inside) (is : IsPushing table from first a) (s : Pushes)
    (column : ℕ) (to : PushedTo table from first a s column) where
  row_is : to.last.place.row ≡ a.place.row
  row_is = ap (λ (p : Place). p.row) to.place

  behind_columns : a.bases.columns ≡ columns_of a.replica.roster a.replica.window
  behind_columns = columns_here a is.inside

  -- what is known of it, where the next changed column is sought up to t
  behind_pushed : (q : Replica) (n t : ℕ) → q ≡ record a.replica { rows = s.words }
      → n ≡ one_more 32 to.last.fate.pushes
      → ((x : ℕ) → to.last.place.column + 1 ≤ x → x < t → changed s.words a.place.row x ≡ false)
      → to.last.place.column + 1 ≤ t → t ≤ a.bases.columns → IsPushed to.last.replica q to.last.fate to.last.place n t
  behind_pushed q n t e pushes unchanged above within =
      let b = to.last in
      let due = push_due (member_inside b) to.on.inside.form (ap is_push to.on.due) in
      let after = e ∙ to.replica in
      wrote from b q a.place.row _ _ n t to.on row_is after
      (subst HasForm (sym after) (pushed_keeps b.replica a.place.row b.place.column to.on.inside.form.replica
      (omega (arith, due.cell.row, row_is))))
      (subst (NoWordFell b.replica) (sym after) (Grown_refl b.replica.roster b.replica.rows.words b.replica.rows.frozen))
      pushes (λ x l h. ap (λ (r : Replica). changed r.rows a.place.row x) e ∙ unchanged x l h) above
      (omega (arith, within, behind_columns, ap (λ (r : Replica). columns_of r.roster r.window) e))

  -- the push that leads there
  step_is : next_step (member_inside to.last) ≡ steps.Push to.last.place.row to.last.place.column
  step_is =
      let b = to.last in
      let due = push_due (member_inside b) to.on.inside.form (ap is_push to.on.due) in
      ap (λ part. step_at (member_inside b) part b.place.row b.place.column) due.at
      ∙ ap (λ c. push_or_crash c b.place.row b.place.column) due.later

  leads_behind : (x : Running) → IsAnswer 0 (member_inside to.last) x → (n : ℕ) × LeadsTo n table from s.table x
  leads_behind x answer =
      let b = to.last in
      let (n, lead) = to.lead in (
        n + 1,
        leads_more n table from to.cells (member_inside b) s.table x lead
            (push_sweeps (member_inside b) (ap is_push to.on.due)) (ap (stored to.cells b.replica) step_is
            ∙ ap (λ i. slice_set to.cells i (own b.replica.rows b.place.column))
            (sym (push_index from b _ _ to.on).index) ∙ sym to.stores)
            (ap (λ t. after_step (sight to.cells b.replica t) (member_inside b)) step_is ∙ sym answer.after),
      )

  -- the next column: it has not changed
  skip_next : changed s.words a.place.row column ≡ false → PushedTo table from first a s (column + 1)
  skip_next same = record {
    last = to.last;
    cells = to.cells;
    before = to.before;
    on = to.on;
    lead = to.lead;
    place = to.place;
    bases = to.bases;
    fate = to.fate;
    replica = to.replica;
    stores = to.stores;
    count = to.count;
    below = omega (arith, to.below);
    unchanged = λ x l h. elim (cases_lt x column) [
      | inl before ↦ to.unchanged x l before
      | inr late ↦ subst (λ y. changed s.words a.place.row y ≡ false) (omega (arith, h, late)) same
    ];
  }

  -- or it has, and is pushed
  push_next : column < a.bases.columns → changed s.words a.place.row column ≡ true
      → PushedTo table from first a (record {
        words = words.pushed s.words a.place.row column;
        table = slice_set s.table (first + column) (own s.words column);
        count = s.count + 1;
      }) (column + 1)
  unfolding raised
  push_next within differs =
      let b = to.last in
      let n = one_more 32 b.fate.pushes in
      let l = behind_pushed (record a.replica { rows = s.words }) n column refl refl to.unchanged to.below
      (omega (arith, within)) in
      let later : crashes_now (standing (record a.replica { rows = s.words }) (counted b.fate n)
      (record b.place { column = column })) ≡ false = sym (some_at_push (counted b.fate n) a.replica.turns
      (pushed_timely b.replica (record a.replica { rows = s.words }) b.fate b.place n column l))
      ∙ ap (is_push_now n) (ap (λ (f : Fate). f.crash) to.fate ∙ is.safe) in
      let on_row = push_on from b (record a.replica { rows = s.words }) first n column to.on l
      (omega (arith, within, ap (λ (x : Bases). x.columns) to.bases))
      (λ inner. ap (λ i. changed s.words i column) row_is ∙ differs) later in
      record {
        last = record b {
          replica = record a.replica { rows = s.words };
          fate = counted b.fate n;
          place = record b.place { column = column };
        };
        cells = s.table;
        before = suc to.before;
        on = on_row.0;
        lead = leads_behind _ on_row.1;
        place = ap (λ (p : Place). record p { column = column }) to.place;
        bases = to.bases;
        fate = ap (λ (f : Fate). counted f (one_more 32 f.pushes)) to.fate;
        replica = refl;
        stores = refl;
        count = omega (arith, to.count);
        below = omega arith;
        unchanged = λ x l h. absurd (omega (arith, l, h));
      }

  -- either way
  pushed_next : column < a.bases.columns
      → PushedTo table from first a (with_push a.place.row first s column) (column + 1)
  pushed_next within = by (changed s.words a.place.row column) refl
    where
      by : (b : Bool) → changed s.words a.place.row column ≡ b
          → PushedTo table from first a (with_push a.place.row first s column) (column + 1)
      by true e = subst (λ t. PushedTo table from first a t (column + 1))
          (sym (push_is a.place.row first s column e)) (push_next within e)
      by false e = subst (λ t. PushedTo table from first a t (column + 1))
          (sym (push_is_none a.place.row first s column e)) (skip_next e)

  -- behind the last column
  pushes_end_row : (q : Replica) (n : ℕ) → q ≡ record a.replica { rows = s.words }
      → n ≡ min (a.fate.pushes + s.count) (2 ^ 32 - 1) → column ≡ a.bases.columns
      → IsBehindRow table from a s.table q (counted a.fate n)
  unfolding raised
  pushes_end_row q n e pushes whole = record {
    place = stale_in a q a.place.column is.inside (ap (λ (r : Replica). r.roster) e)
        (ap (λ (r : Replica). r.window) e) (omega arith);
    underway = subst IsUnderway (λ z. standing q (counted (to.fate z) n) (next_row q.roster (to.place z)))
        (push_left b.replica q b.fate b.place n column l past);
    timely = subst (λ f. IsTimely (counted f n) q.turns) to.fate
        (pushed_timely b.replica q b.fate b.place n column l);
    inside = pushed_inside b.replica q b.fate b.place n column l;
    left = λ p ready settles keeps.
        let back : standing q (counted b.fate n) p ≡ settled (standing q
        (counted b.fate n) (next_row q.roster b.place)) = ap (λ f. standing q (counted f n) p) to.fate
        ∙ settles ∙ (λ z. settled (standing q (counted (sym to.fate z) n) (next_row q.roster (sym to.place z)))) in
        let answer = pushed_behind (member_inside b) b.replica q b.fate b.place p n column 0 refl l past back in
        let end = pushes_end from b q p _ _ n column ready to.on l answer keeps in
        let same : record b { replica = q; place = p; fate = counted b.fate n; ready = ready }
        ≡ record a { replica = q; place = p; fate = counted a.fate n; ready = ready } =
        (λ z. record { replica = q; place = p; fate = counted (to.fate z) n; bases = to.bases z; ready = ready }) in
        subst (HasComeAlone table from s.table) same (record {
          inside = end.inside;
          taken = leads_behind _ answer;
          form = answer.form;
          grown = end.grown;
          falls = end.falls;
          still = end.still;
        });
  }
    where
      b : Inside
      b = to.last

      number : n ≡ one_more 32 b.fate.pushes
      number = pushes ∙ ap (λ k. min (a.fate.pushes + k) (2 ^ 32 - 1)) to.count
          ∙ sym (raised_by to.before a.fate.pushes) ∙ ap (λ (f : Fate). one_more 32 f.pushes) (sym to.fate)

      l : IsPushed b.replica q b.fate b.place n column
      l = behind_pushed q n column e number to.unchanged to.below (omega (arith, whole))

      past : columns_of q.roster q.window ≤ column
      past = omega (arith, whole, behind_columns, ap (λ (r : Replica). columns_of r.roster r.window) e)

-- the first push
pub pushed_first : (table : List ℕ) (from : Running) (first : ℕ) (a : Inside) → IsPushing table from first a
    → let s : Pushes = record { words = a.replica.rows; table = table; count = 0 } in
    (a.place.column < a.bases.columns)
    × PushedTo table from first a (with_push a.place.row first s a.place.column) (a.place.column + 1)
unfolding raised
pushed_first table from first a is =
    let due = push_due (member_inside a) is.inside.form
    (subst (λ r. is_push (next_deed r) ≡ true) (sym is.view) is.due) in
    let asked : asks (member_inside a) parts.Push a.place.row a.place.column ≡ true =
    ap (λ part. asks (member_inside a) part a.place.row a.place.column) (sym due.at)
    ∙ (and_parts (asks (member_inside a) (part_of a.place) a.place.row a.place.column)
    (allows a.replica (next_step (member_inside a))) (is.inside.form.due due.none)).0 in
    let differs : changed a.replica.rows a.place.row a.place.column ≡ true =
    (and_parts (is_other a.replica a.place.row) _ asked).1 in (
      omega (arith, due.cell.column, columns_here a is.inside),
      subst (λ t. PushedTo table from first a t (a.place.column + 1))
          (sym (push_is a.place.row first (record { words = a.replica.rows; table = table; count = 0 })
          a.place.column differs)) (record {
            last = a;
            cells = table;
            before = 0;
            on = pushes_begin from a first is.view is.inside is.due is.begins;
            lead = (0, (refl, sym is.view));
            place = refl;
            bases = refl;
            fate = refl;
            replica = refl;
            stores = refl;
            count = omega arith;
            below = omega arith;
            unchanged = λ x l h. absurd (omega (arith, l, h));
          }),
    )

-- and so many more
pub pushes_along : (table : List ℕ) (from : Running) (first : ℕ) (a : Inside) (n column : ℕ)
    → IsPushing table from first a → a.place.column + (n + 1) ≡ column → column ≤ a.bases.columns
    → PushedTo table from first a (pushed_along a.place.row first
    (record { words = a.replica.rows; table = table; count = 0 }) a.place.column (n + 1)) column
pushes_along table from first a zero column is e within =
    subst (PushedTo table from first a _) e (pushed_first table from first a is).1
pushes_along table from first a (suc n) column is e within =
    let s : Pushes = record { words = a.replica.rows; table = table; count = 0 } in
    let c = a.place.column + (n + 1) in
    subst (λ m. PushedTo table from first a (pushed_along a.place.row first s a.place.column m) column) one
    (subst (PushedTo table from first a _) next (subst (λ t. PushedTo table from first a t (c + 1))
    (sym (pushed_more a.place.row first s a.place.column (n + 1) c refl)) (pushed_next table from first a is _ c
    (pushes_along table from first a n c is refl (omega (arith, next, within))) (omega (arith, next, within)))))
  where
    one : n + 1 + 1 ≡ suc n + 1
    one = omega arith

    next : a.place.column + (n + 1) + 1 ≡ column
    next = omega (arith, e)

pub pushes_done : (table : List ℕ) (from : Running) (first : ℕ) (a : Inside) (q : Replica) (n : ℕ)
    → IsPushing table from first a
    → let s = pushed_along a.place.row first (record { words = a.replica.rows; table = table; count = 0 })
    a.place.column (a.replica.rows.columns - a.place.column) in
    q ≡ record a.replica { rows = s.words } → n ≡ min (a.fate.pushes + s.count) (2 ^ 32 - 1)
    → IsBehindRow table from a s.table q (counted a.fate n)
pushes_done table from first a q n is =
    let s : Pushes = record { words = a.replica.rows; table = table; count = 0 } in
    subst (λ m. let t = pushed_along a.place.row first s a.place.column m in
    q ≡ record a.replica { rows = t.words } → n ≡ min (a.fate.pushes + t.count) (2 ^ 32 - 1)
    → IsBehindRow table from a t.table q (counted a.fate n)) all
    (λ e number. pushes_end_row table from first a is _ a.bases.columns
    (pushes_along table from first a k a.bases.columns is whole (omega arith)) q n e number refl)
  where
    column : a.place.column < a.bases.columns
    column = (pushed_first table from first a is).0

    k : ℕ
    k = a.bases.columns - 1 - a.place.column

    whole : a.place.column + (k + 1) ≡ a.bases.columns
    whole = omega (arith, column)

    all : k + 1 ≡ a.replica.rows.columns - a.place.column
    all = omega (arith, column, columns_here a is.inside, is.inside.form.replica.columns)

-- ---- the table

-- it has all words of the row
pub looks_fit : (table : List ℕ) (from : Running) (first : ℕ) (a : Inside) → IsLooking table from first a
    → table_size from ≤ length table → first + a.replica.rows.columns ≤ length table
looks_fit table from first a is size =
    let asked = looks_asked table from first a is in
    let columns = ap (λ (r : Running). columns_of r.replica.roster r.replica.window) is.view in
    let rows = ap (λ (r : Running). r.replica.roster) is.view in
    let last = a.bases.columns - 1 in
    let at = look_at from a a.place.row last is.view is.inside (omega (arith, asked.row, rows))
    (omega (arith, asked.column, columns_here a is.inside, columns)) in
    omega (arith, at.within, size, is.begins, asked.column, columns_here a is.inside, is.inside.form.replica.columns)

pub record PushesFit (table : List ℕ) (first : ℕ) (a : Inside) : Type 0 where
  pub column : a.place.column < a.bases.columns
  pub row : a.place.row < a.replica.roster
  pub within : first + a.replica.rows.columns ≤ length table
  pub small : first + a.place.column < 2 ^ 64

pub pushes_fit : (table : List ℕ) (from : Running) (first : ℕ) (a : Inside) → member_inside a ≡ from → IsInsideMember a
    → is_push (next_deed from) ≡ true → first ≡ index_in from.replica a.place.row (me from.replica) 0
    → table_size from ≤ length table → PushesFit table first a
pushes_fit table from first a view inside is begins size =
    let due = push_due (member_inside a) inside.form (subst (λ r. is_push (next_deed r) ≡ true) (sym view) is) in
    let columns = ap (λ (r : Running). columns_of r.replica.roster r.replica.window) view in
    let rows = ap (λ (r : Running). r.replica.roster) view in
    let last = a.bases.columns - 1 in
    let at = push_at from a a.place.row last view inside (omega (arith, due.cell.row, rows))
    (omega (arith, due.cell.column, columns_here a inside, columns)) in
    let here = push_at from a a.place.row a.place.column view inside (omega (arith, due.cell.row, rows))
    (omega (arith, due.cell.column, columns)) in
    record {
      column = omega (arith, due.cell.column, columns_here a inside);
      row = due.cell.row;
      within = omega (
        arith,
        at.within,
        size,
        begins,
        due.cell.column,
        columns_here a inside,
        inside.form.replica.columns,
      );
      small = omega (arith, here.index, here.small, begins);
    }

-- where a push alone stores its word
pub push_stores : (words : List ℕ) (from : Running) (first : ℕ) (a : Inside) → member_inside a ≡ from → IsInsideMember a
    → is_push (next_deed from) ≡ true → first ≡ index_in from.replica a.place.row (me from.replica) 0
    → stored words from.replica (next_step from)
    ≡ slice_set words (first + a.place.column) (own a.replica.rows a.place.column)
push_stores words from first a view inside is begins =
    let due = push_due (member_inside a) inside.form (subst (λ r. is_push (next_deed r) ≡ true) (sym view) is) in
    let step : next_step (member_inside a) ≡ steps.Push a.place.row a.place.column =
    ap (λ part. step_at (member_inside a) part a.place.row a.place.column) due.at
    ∙ ap (λ c. push_or_crash c a.place.row a.place.column) due.later in
    let start : first ≡ index_in a.replica a.place.row (me a.replica) 0 =
    begins ∙ ap (λ (r : Running). index_in r.replica a.place.row (me r.replica) 0) (sym view) in
    subst (λ (r : Running). stored words r.replica (next_step r) ≡ slice_set words
    (first + a.place.column) (own a.replica.rows a.place.column)) view (ap (stored words a.replica) step
    ∙ ap (λ i. slice_set words i (own a.replica.rows a.place.column)) (omega (arith, start)))

-- ---- what its callers know

-- a member whose next deed is a look has it due
pub look_step : (r : Running) → IsRunningMember r → is_look (next_deed r) ≡ true
    → step_of_member r ≡ Some (steps.Look r.place.row r.place.column)
look_step r form due =
    let at = at_look r form due in
    ap (step_due r) at.none ∙ ap (λ part. Some (step_at r part r.place.row r.place.column)) at.at
