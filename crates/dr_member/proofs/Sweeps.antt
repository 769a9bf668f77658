-- A member along a row of its looks or of its pushes, in the terms of the code's fields.
use Rattle.std.proofs.Common.{◌≡◌, refl, sym, ap, ◌∙◌, subst, ℕ, ◌+◌, ◌<◌, ◌≤◌, true, false, arith}
use Rattle.dr_rows.specs.Words.{changed, own}
use Rattle.dr_suspect.specs.Waits.{Waits, compared}
use Rattle.dr_words.{specs.{Columns.columns_of, Grown.Grown}, proofs.Order.{Grown_refl, Grown_trans}}
use Rattle.dr_machine.specs.Effects.{one_more}
use Rattle.dr_program.specs.{Form.HasForm, Reading.step_of_member, Replica.{Replica, looked, me, pushed}}
use Rattle.dr_program.specs.{Running.{Running, crashes_now, next_deed, settled}, Sight.MaySee}
use Rattle.dr_program.specs.{Steps.{NoWordFell, index_in}, Turn.{IsIn, columns_in, part_of, rows_in}}
use Rattle.dr_program.{specs.declared.{deed.Deed.Deed, place.Place.Place}, proofs.Parts.{same_look, same_push}}
use Rattle.dr_program.proofs.{Replicas.IsLookOf, RunningPrograms.{look_deed, push_deed}, StepsAt.look_due}
use Rattle.dr_program.specs.declared.deed.Deed.TheVariants as deeds
use Rattle.dr_program.specs.declared.place.Part.TheVariants as parts
use Rattle.dr_turn.{specs.Work.{IsStill, deeds_left}, proofs.Works.IsAnswer}
use Rattle.dr_member.specs.{Deeds.{is_look, is_push}, Inside.{IsInsideMember, member_inside}, Ready.KeepsReady}
use Rattle.dr_member.specs.{Search.{next_row, standing}, declared.member.Member.TheInside.Inside}
use Rattle.dr_member.proofs.{Dues.{at_look, push_due}, Indices.{IsIndex, columns_after, is_index, me_within}}
use Rattle.dr_member.proofs.Moves.{IsLooked, IsPushed, IsWaited, counted, inside_after, is_looked, is_pushed, looked_past, looked_row_timely, looked_within, pushed_timely, pushed_within, stays_timely, waited}
use Rattle.dr_member.proofs.Ready.{elsewhere}

-- the member inside has come from another one, and this deed is due to it
pub record IsOnRow (d : Deed) (from : Running) (a : Inside) : Type 0 where
  pub inside : IsInsideMember a
  pub due : next_deed (member_inside a) ≡ d
  pub roster : a.replica.roster ≡ from.replica.roster
  pub grown : NoWordFell from.replica a.replica
  pub still : IsStill from (member_inside a)
  pub left : deeds_left (member_inside a) ≤ deeds_left from

-- the member inside, at this column of its row
abbrev pub at_column : Inside → ℕ → Inside
at_column a column = record a { place = record a.place { column = column } }

-- so it is where it sets out
row_begins : (d : Deed) (from : Running) (a : Inside) → member_inside a ≡ from → IsInsideMember a
    → next_deed (member_inside a) ≡ d → IsOnRow d from a
row_begins d from a view is due = subst (λ r. IsOnRow d r a) view (record {
  inside = is;
  due = due;
  roster = refl;
  grown = Grown_refl a.replica.roster a.replica.rows.words a.replica.rows.frozen;
  still = λ g m of. of;
  left = omega arith;
})

module _ (d : Deed) (from : Running) (a : Inside) (is : IsOnRow d from a) where
  -- what is so behind one more deed
  row_grown : (q : Replica) → NoWordFell a.replica q → NoWordFell from.replica q
  row_grown q grown = Grown_trans from.replica.roster from.replica.rows.words a.replica.rows.words q.rows.words
      from.replica.rows.frozen a.replica.rows.frozen q.rows.frozen is.grown
      (subst (λ n. Grown n a.replica.rows.words q.rows.words a.replica.rows.frozen q.rows.frozen) is.roster grown)

  row_falls : (word : ℕ) (x : Running) → IsAnswer word (member_inside a) x → deeds_left x < deeds_left from
  row_falls word x done = let fewer = done.done.fewer in let left = is.left in omega (arith, fewer, left)

  row_still : (word : ℕ) (x : Running) → IsAnswer word (member_inside a) x → IsStill from x
  row_still word x done g m of = done.done.still g m (is.still g m of)

  -- where that one left another due to it
  row_on : (word : ℕ) (e : Deed) (b : Inside) → IsInsideMember b → IsAnswer word (member_inside a) (member_inside b)
      → b.replica.roster ≡ a.replica.roster → NoWordFell a.replica b.replica → next_deed (member_inside b) ≡ e
      → IsOnRow e from b
  row_on word e b inside done roster grown due = record {
    inside = inside;
    due = due;
    roster = roster ∙ is.roster;
    grown = row_grown b.replica grown;
    still = row_still word (member_inside b) done;
    left = let less = row_falls word (member_inside b) done in omega (arith, less);
  }

-- ---- the deed that is due

-- ---- as a row begins

-- the deed that is due names the index of the row's first word, and so many words more
pub looks_begin : (from : Running) (a : Inside) (first : ℕ) → member_inside a ≡ from → IsInsideMember a
    → is_look (next_deed from) ≡ true → first ≡ index_in from.replica (me from.replica) a.place.row 0
    → IsOnRow (deeds.Look (first + a.place.column)) from a
looks_begin from a first view is due index =
    let at = at_look (member_inside a) is.form (subst (λ r. is_look (next_deed r) ≡ true) (sym view) due) in
    let start : first ≡ index_in a.replica (me a.replica) a.place.row 0 =
    index ∙ ap (λ (r : Running). index_in r.replica (me r.replica) a.place.row 0) (sym view) in
    row_begins (deeds.Look (first + a.place.column)) from a view is
    (look_deed (member_inside a) at.none at.at ∙ ap deeds.Look (omega (arith, start)))

pub pushes_begin : (from : Running) (a : Inside) (first : ℕ) → member_inside a ≡ from → IsInsideMember a
    → is_push (next_deed from) ≡ true → first ≡ index_in from.replica a.place.row (me from.replica) 0
    → IsOnRow (deeds.Push (first + a.place.column) (own a.replica.rows a.place.column)) from a
pushes_begin from a first view is due index =
    let at = push_due (member_inside a) is.form (subst (λ r. is_push (next_deed r) ≡ true) (sym view) due) in
    let start : first ≡ index_in a.replica a.place.row (me a.replica) 0 =
    index ∙ ap (λ (r : Running). index_in r.replica a.place.row (me r.replica) 0) (sym view) in
    row_begins (deeds.Push (first + a.place.column) (own a.replica.rows a.place.column)) from a view is
    (push_deed (member_inside a) at.none at.at at.later
    ∙ ap (λ i. deeds.Push i (own a.replica.rows a.place.column)) (omega (arith, start)))

-- ---- at a deed of a row

-- the index that the deed names is one of the table
pub look_index : (from : Running) (a : Inside) (sum : ℕ) → IsOnRow (deeds.Look sum) from a
    → IsIndex (member_inside a) sum (me a.replica) a.place.row a.place.column
look_index from a sum is =
    let at = at_look (member_inside a) is.inside.form (ap is_look is.due) in
    is_index (member_inside a) sum (me a.replica) a.place.row a.place.column is.inside.form.replica
    is.inside.bases.small (me_within a is.inside) at.cell.row at.cell.column
    (same_look _ _ (sym is.due ∙ look_deed (member_inside a) at.none at.at))

pub push_index : (from : Running) (a : Inside) (sum word : ℕ) → IsOnRow (deeds.Push sum word) from a
    → IsIndex (member_inside a) sum a.place.row (me a.replica) a.place.column
push_index from a sum word is =
    let at = push_due (member_inside a) is.inside.form (ap is_push is.due) in
    is_index (member_inside a) sum a.place.row (me a.replica) a.place.column is.inside.form.replica
    is.inside.bases.small at.cell.row (me_within a is.inside) at.cell.column
    (same_push _ _ _ _ (sym is.due ∙ push_deed (member_inside a) at.none at.at at.later))

-- a word that the member may see is such a one
pub look_takes : (a : Inside) (row word : ℕ) → IsInsideMember a
    → MaySee (member_inside a) (step_of_member (member_inside a)) word → a.place.row ≡ row
    → IsLookOf a.replica row a.place.column word
look_takes a row word is may same =
    let due = look_due (member_inside a) word is.form may in
    subst (λ i. IsLookOf a.replica i a.place.column word) same (record {
      row = due.cell.row;
      other = due.cell.other;
      may = due.may;
      in_form = due.seen.form;
      grown = due.seen.grown;
    })

pub push_row_stays : (from : Running) (a : Inside) (q : Replica) (row sum word : ℕ)
    → IsOnRow (deeds.Push sum word) from a → a.place.row ≡ row → q ≡ pushed a.replica row a.place.column
    → row < q.roster
push_row_stays from a q row sum word is same after =
    let within = (push_due (member_inside a) is.inside.form (ap is_push is.due)).cell.row in
    subst (λ (x : Replica). row < x.roster) (sym after) (omega (arith, within, same))

-- what is known once the look, or the push, was done
pub saw : (a : Inside) (q : Replica) (row word : ℕ) → IsInsideMember a
    → MaySee (member_inside a) (step_of_member (member_inside a)) word → a.place.row ≡ row
    → q ≡ looked a.replica row a.place.column word → HasForm q → NoWordFell a.replica q
    → IsLooked a.replica q a.fate a.place word
saw a q row word is may same after form grown = is_looked (member_inside a) a q word refl is may
    (after ∙ ap (λ i. looked a.replica i a.place.column word) (sym same)) form grown

pub wrote : (from : Running) (a : Inside) (q : Replica) (row sum word n t : ℕ) → IsOnRow (deeds.Push sum word) from a
    → a.place.row ≡ row → q ≡ pushed a.replica row a.place.column → HasForm q → NoWordFell a.replica q
    → n ≡ one_more 32 a.fate.pushes → ((x : ℕ) → a.place.column + 1 ≤ x → x < t → changed q.rows row x ≡ false)
    → a.place.column + 1 ≤ t → t ≤ columns_of q.roster q.window → IsPushed a.replica q a.fate a.place n t
wrote from a q row sum word n t is same after form grown pushes unchanged above within =
    is_pushed (member_inside a) a q n t refl is.inside (ap is_push is.due)
    (after ∙ ap (λ i. pushed a.replica i a.place.column) (sym same)) form grown pushes
    (λ x l h. ap (λ i. changed q.rows i x) same ∙ unchanged x l h) above within

-- behind a push the next column is one of the row, or behind the last
pub pushed_from : (from : Running) (a : Inside) (q : Replica) (row sum word : ℕ)
    → IsOnRow (deeds.Push sum word) from a → q ≡ pushed a.replica row a.place.column
    → a.place.column + 1 ≤ columns_of q.roster q.window
pushed_from from a q row sum word is after =
    let within = (push_due (member_inside a) is.inside.form (ap is_push is.due)).cell.column in
    subst (λ (x : Replica). a.place.column + 1 ≤ columns_of x.roster x.window) (sym after) (omega (arith, within))

-- the place as it was written down, at a column that the member has left behind
pub stale_in : (a : Inside) (q : Replica) (column : ℕ) → IsInsideMember a → q.roster ≡ a.replica.roster
    → q.window ≡ a.replica.window → column ≤ a.place.column
    → IsIn q.roster (columns_of q.roster q.window) (record a.place { column = column })
stale_in a q column is roster window behind =
    let in_turn = is.form.place in record {
      part = in_turn.part;
      row = subst (λ n. a.place.row < rows_in n (part_of a.place)) (sym roster) in_turn.row;
      column =
          let within : column < columns_in (columns_of a.replica.roster a.replica.window) (part_of a.place) =
          let inner = in_turn.column in omega (arith, inner, behind) in
          subst (λ n. column < columns_in n (part_of a.place)) (λ z. columns_of (sym roster z) (sym window z)) within;
    }

-- ---- the next column

-- a look leaves a member on the row, where there is a next column
pub look_on : (from : Running) (a : Inside) (q : Replica) (first word : ℕ)
    → IsOnRow (deeds.Look (first + a.place.column)) from a → IsLooked a.replica q a.fate a.place word
    → a.place.column + 1 < a.bases.columns → IsOnRow (deeds.Look (first + (a.place.column + 1))) from
    (record a { replica = q; place = record a.place { column = a.place.column + 1 } })
    × IsAnswer word (member_inside a) (standing q a.fate (record a.place { column = a.place.column + 1 }))
look_on from a q first word is l within = (
  row_on (deeds.Look (first + a.place.column)) from a is word _ b
      (inside_after a q _ a.fate b.place a.ready is.inside l.after refl answer.form
      (stays_timely a q _ is.inside l.after refl) refl (elsewhere q b.place parts.Look a.ready l.due.at refl))
      answer (ap (λ (r : Replica). r.roster) l.after) l.grown due,
  answer,
)
  where
    b : Inside
    b = record a { replica = q; place = record a.place { column = a.place.column + 1 } }

    inner : a.place.column + 1 < columns_of q.roster q.window
    inner = omega (arith, within, columns_after a q _ is.inside l.after refl)

    answer : IsAnswer word (member_inside a) (member_inside b)
    answer = looked_within (member_inside a) a.replica q a.fate a.place word refl l inner

    was : first + a.place.column ≡ index_in a.replica (me a.replica) a.place.row a.place.column
    was = same_look _ _ (sym is.due ∙ look_deed (member_inside a) l.due.none l.due.at)

    now : index_in q (me q) a.place.row (a.place.column + 1) ≡ first + (a.place.column + 1)
    now = ap (λ (r : Replica). index_in r (me r) a.place.row (a.place.column + 1)) l.after ∙ omega (arith, was)

    due : next_deed (member_inside b) ≡ deeds.Look (first + (a.place.column + 1))
    due = look_deed (member_inside b) (ap (λ (r : Replica). r.end) l.after ∙ l.due.none) l.due.at ∙ ap deeds.Look now

-- a push leaves it there, where there is a next changed column t and it doesn't crash before that one's push
pub push_on : (from : Running) (a : Inside) (q : Replica) (first n t : ℕ)
    → IsOnRow (deeds.Push (first + a.place.column) (own a.replica.rows a.place.column)) from a
    → IsPushed a.replica q a.fate a.place n t → t < a.bases.columns
    → (t < columns_of q.roster q.window → changed q.rows a.place.row t ≡ true) → crashes_now (standing q
    (counted a.fate n) (record a.place { column = t })) ≡ false → IsOnRow (deeds.Push (first + t) (own q.rows t)) from
    (record a { replica = q; fate = counted a.fate n; place = record a.place { column = t } })
    × IsAnswer 0 (member_inside a) (standing q (counted a.fate n) (record a.place { column = t }))
push_on from a q first n t is l within changes later = (
  row_on (deeds.Push (first + a.place.column) (own a.replica.rows a.place.column)) from a is 0 _ b
      (inside_after a q _ b.fate b.place a.ready is.inside l.after refl answer.form
      (pushed_timely a.replica q a.fate a.place n t l) refl (elsewhere q b.place parts.Push a.ready l.due.at refl))
      answer (ap (λ (r : Replica). r.roster) l.after) l.grown due,
  answer,
)
  where
    b : Inside
    b = record a { replica = q; fate = counted a.fate n; place = record a.place { column = t } }

    inner : t < columns_of q.roster q.window
    inner = omega (arith, within, columns_after a q _ is.inside l.after refl)

    answer : IsAnswer 0 (member_inside a) (member_inside b)
    answer = pushed_within (member_inside a) a.replica q a.fate a.place n t 0 refl l inner (changes inner)

    was : first + a.place.column ≡ index_in a.replica a.place.row (me a.replica) a.place.column
    was = same_push _ _ _ _ (sym is.due ∙ push_deed (member_inside a) l.due.none l.due.at l.due.later)

    now : index_in q a.place.row (me q) t ≡ first + t
    now = ap (λ (r : Replica). index_in r a.place.row (me r) t) l.after ∙ omega (arith, was)

    due : next_deed (member_inside b) ≡ deeds.Push (first + t) (own q.rows t)
    due = push_deed (member_inside b) (ap (λ (r : Replica). r.end) l.after ∙ l.due.none) l.due.at later
        ∙ ap (λ i. deeds.Push i (own q.rows t)) now

-- ---- the end of a row

-- the member inside took one more deed of the row, and left it
pub record HasLeft (word : ℕ) (from r : Running) (b : Inside) : Type 0 where
  pub inside : IsInsideMember b
  pub answer : IsAnswer word r (member_inside b)
  pub grown : NoWordFell from.replica b.replica
  pub falls : deeds_left (member_inside b) < deeds_left from
  pub still : IsStill from (member_inside b)

-- the row was waited for behind its last column
pub was_waited : (a : Inside) (q : Replica) (row word : ℕ) (w : Waits) → IsInsideMember a
    → IsLooked a.replica q a.fate a.place word → a.bases.columns ≤ a.place.column + 1 → a.place.row ≡ row
    → w ≡ compared a.fate.waits q.rows row → IsWaited q a.fate a.place w
was_waited a q row word w is l past same waits = record {
  past = omega (arith, past, columns_after a q _ is l.after refl);
  waits = waits ∙ ap (compared a.fate.waits q.rows) (sym same);
}

-- after a look at the last column
pub looks_end : (from : Running) (a : Inside) (q : Replica) (s : Place) (sum word ready : ℕ) (w : Waits)
    → IsOnRow (deeds.Look sum) from a → IsLooked a.replica q a.fate a.place word → IsWaited q a.fate a.place w
    → standing q (waited a.fate w) s ≡ settled (standing q (waited a.fate w) (next_row q.roster a.place))
    → KeepsReady q s ready → HasLeft word from (member_inside a)
    (record a { replica = q; place = s; fate = waited a.fate w; ready = ready })
looks_end from a q s sum word ready w is l past e keeps =
    let answer : IsAnswer word (member_inside a) (standing q (waited a.fate w) s) =
    looked_past (member_inside a) a.replica q a.fate a.place s word w refl l past e in record {
      inside = inside_after a q _ (waited a.fate w) s ready is.inside l.after refl answer.form
          (looked_row_timely a q a.place.row a.place.column word w is.inside l.after) refl keeps;
      answer = answer;
      grown = row_grown (deeds.Look sum) from a is q l.grown;
      falls = row_falls (deeds.Look sum) from a is word _ answer;
      still = row_still (deeds.Look sum) from a is word _ answer;
    }

-- after a push behind which no column has changed, or the member crashes at the next one
pub pushes_end : (from : Running) (a : Inside) (q : Replica) (s : Place) (sum word n t ready : ℕ)
    → IsOnRow (deeds.Push sum word) from a → IsPushed a.replica q a.fate a.place n t
    → IsAnswer 0 (member_inside a) (standing q (counted a.fate n) s) → KeepsReady q s ready
    → HasLeft 0 from (member_inside a) (record a { replica = q; place = s; fate = counted a.fate n; ready = ready })
pushes_end from a q s sum word n t ready is l answer keeps = record {
  inside = inside_after a q _ (counted a.fate n) s ready is.inside l.after refl answer.form
      (pushed_timely a.replica q a.fate a.place n t l) refl keeps;
  answer = answer;
  grown = row_grown (deeds.Push sum word) from a is q l.grown;
  falls = row_falls (deeds.Push sum word) from a is 0 _ answer;
  still = row_still (deeds.Push sum word) from a is 0 _ answer;
}
