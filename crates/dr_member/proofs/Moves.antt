-- What a running member is after each kind of deed, in the terms of the code's fields.
use Rattle.std.{specs.Prelude.None, proofs.lemmas.Bool.{and_parts, Decides.nat_tests}}
use Rattle.std.proofs.Common.{◌≡◌, ◌≢◌, refl, sym, ap, ◌∙◌, subst, ℕ, ◌+◌, ◌^◌, ◌<◌, ◌≤◌, ◌||◌, true, false, nat_lt, arith}
use Rattle.dr_rows.specs.Words.{changed, own}
use Rattle.dr_suspect.specs.Waits.{Waits, compared}
use Rattle.dr_words.specs.{Columns.columns_of, declared.column.TheConstants.LOGGED_COLUMN}
use Rattle.dr_machine.specs.{Effects.one_more, declared.{event.Act.Act, step.Step.TheVariants.Do}}
use Rattle.dr_machine.specs.declared.event.Act.TheVariants as acts
use Rattle.dr_program.specs.{Acts.{is_outside_act, may, taken}, Form.{HasForm, IsRunningMember}}
use Rattle.dr_program.specs.{Reading.step_of_member, Replica.{Replica, appended, is_inside, is_other, looked, pushed}}
use Rattle.dr_program.specs.Running.{Running, applies, crashes_now, goes, next_deed, next_step, settled}
use Rattle.dr_program.specs.{Sight.MaySee, Steps.{NoWordFell, allows, has_cell, is_free, stepped}}
use Rattle.dr_program.specs.{Turn.{after, columns_in, part_of}, declared.place.{Part.Part, Place.Place}}
use Rattle.dr_program.proofs.{Order.append_next, Parts.begin, Replicas.{may_look, cell_test}}
use Rattle.dr_program.proofs.RunningPrograms.{IsLookDue, allowed, allowed_inside, deed_due, stays}
use Rattle.dr_program.proofs.{Search.{look_applies, push_applies}, StepsAt.look_due, Waiting.free_step}
use Rattle.dr_program.specs.declared.place.Part.TheVariants as parts
use Rattle.dr_entry.proofs.BoolFacts.{together}
use Rattle.dr_turn.{specs.Search.IsUnderway, proofs.Works.{IsAnswer, answer_at}}
use Rattle.dr_member.{specs.Deeds.{is_act, is_append, is_push}, proofs.Indices.{bases_stay, footing}}
use Rattle.dr_member.{specs.{Fate.{IsTimely, is_of_view}, Ready.KeepsReady}, proofs.Fates.{IsFateBy, fate_told}}
use Rattle.dr_member.specs.{Inside.{IsInsideMember, member_inside}, declared.member.Member.TheInside.Inside}
use Rattle.dr_member.specs.{Search.{next_row, standing}, declared.fate.Fate.Fate}
use Rattle.dr_member.proofs.Answers.{IsFateAfter, IsTaken, fate_stays, is_answer, is_done, pushes_searched}
use Rattle.dr_member.proofs.{Crashes.{some_at_push, timely_push}, Passing.{from_behind, from_column, from_here}}
use Rattle.dr_member.proofs.Dues.{IsEntryDue, IsPushDue, IsVoteDue, append_due, append_inside, entry_due, push_due, vote_due}

-- ---- rows

-- the place behind a look or a push
behind : (replica q : Replica) (p : Place) (part : Part) → part_of p ≡ part → q.roster ≡ replica.roster
    → q.window ≡ replica.window
    → goes replica.roster (columns_of replica.roster replica.window) part p ≡ from_column replica.roster
    (columns_of replica.roster replica.window) p (p.column + 1)
    → from_column q.roster (columns_of q.roster q.window) p (p.column + 1) ≡ goes replica.roster
    (columns_of replica.roster replica.window) (part_of p) p
behind replica q p part at roster window is = (λ z. from_column (roster z) (columns_of (roster z) (window z)) p
    (p.column + 1)) ∙ sym (ap (λ x. goes replica.roster (columns_of replica.roster replica.window) x p) at ∙ is)

-- behind the last column of a look or a push the next row comes
pub row_left : (q : Replica) (p : Place) (part : Part) (c : ℕ) → part_of p ≡ part
    → columns_in (columns_of q.roster q.window) part ≡ columns_of q.roster q.window → columns_of q.roster q.window ≤ c
    → from_column q.roster (columns_of q.roster q.window) p c ≡ next_row q.roster p
row_left q p part c at all past = from_behind q.roster (columns_of q.roster q.window) p c
    (omega (arith, ap (columns_in (columns_of q.roster q.window)) at, all, past))

-- ---- looks

-- what is known once a look was done
pub record IsLooked (replica q : Replica) (fate : Fate) (p : Place) (word : ℕ) : Type 0 where
  pub running : IsRunningMember (standing replica fate p)
  pub due : IsLookDue (standing replica fate p) word
  pub fits : fate.limit < 2 ^ 32
  pub after : q ≡ looked replica p.row p.column word
  pub form : HasForm q
  pub grown : NoWordFell replica q

-- who looked is in its view
pub looked_inside : (replica q : Replica) (fate : Fate) (p : Place) (word : ℕ)
    → IsLooked replica q fate p word → is_inside q ≡ true
looked_inside replica q fate p word l = ap (λ (x : Replica). is_inside x) l.after ∙ l.due.inside

-- the fate with these waits
abbrev pub waited : Fate → Waits → Fate
waited fate w = record fate { waits = w }

-- what is known once the row was waited for behind its last column
pub record IsWaited (q : Replica) (fate : Fate) (p : Place) (w : Waits) : Type 0 where
  pub past : columns_of q.roster q.window ≤ p.column + 1
  pub waits : w ≡ compared fate.waits q.rows p.row

-- the fate within a row, and behind its last column
told_within : (replica q : Replica) (fate : Fate) (p : Place) (word : ℕ)
    → IsLooked replica q fate p word → p.column + 1 < columns_of q.roster q.window
    → IsFateAfter word (standing replica fate p) (next_step (standing replica fate p)) fate
told_within replica q fate p word l within =
    fate_stays word replica fate p (next_step (standing replica fate p)) l.due.pushes
    (l.due.within (subst (λ (x : Replica). p.column + 1 < columns_of x.roster x.window) l.after within))

told_past : (replica q : Replica) (fate : Fate) (p : Place) (word : ℕ) (w : Waits)
    → IsLooked replica q fate p word → IsWaited q fate p w
    → IsFateAfter word (standing replica fate p) (next_step (standing replica fate p)) (waited fate w)
told_past replica q fate p word w l is = record {
  limit = refl;
  waits = is.waits ∙ ap (λ (x : Replica). compared fate.waits x.rows p.row) l.after ∙ l.due.past
      (subst (λ (x : Replica). columns_of x.roster x.window ≤ p.column + 1) l.after is.past);
  crashes = refl;
  suspicions = refl;
  pushes = l.due.pushes;
  failed = refl;
}

-- a replica that has looked took its look, and stands at the next column
pub look_taken : (replica q : Replica) (fate told : Fate) (p : Place) (word : ℕ) → IsLooked replica q fate p word
    → IsFateAfter word (standing replica fate p) (next_step (standing replica fate p)) told
    → IsTaken word (standing replica fate p) q told
    (from_column q.roster (columns_of q.roster q.window) p (p.column + 1))
look_taken replica q fate told p word l is = record {
  running = l.running;
  fits = l.fits;
  none = l.due.none;
  replica = l.after ∙ sym l.due.step;
  form = l.form;
  grown = λ same. l.grown;
  place = behind replica q p parts.Look l.due.at (ap (λ (x : Replica). x.roster) l.after)
      (ap (λ (x : Replica). x.window) l.after) refl;
  told = is;
}

-- within a row the search stays at the next column
pub looked_within : (now : Running) (replica q : Replica) (fate : Fate) (p : Place) (word : ℕ)
    → standing replica fate p ≡ now → IsLooked replica q fate p word → p.column + 1 < columns_of q.roster q.window
    → IsAnswer word now (standing q fate (record p { column = p.column + 1 }))
looked_within now replica q fate p word view l within = answer_at word
    (standing replica fate p) now (standing q fate next) view (is_answer word
    (standing replica fate p) q fate (from_column q.roster (columns_of q.roster q.window) p (p.column + 1)) next
    (look_taken replica q fate fate p word l (told_within replica q fate p word l within))
    (stays (standing q fate next) (look_applies (standing q fate next) next l.due.at inside may)
    ∙ ap (λ (x : Place). settled (standing q fate x)) (sym here)))
  where
    next : Place
    next = record p { column = p.column + 1 }

    here : from_column q.roster (columns_of q.roster q.window) p (p.column + 1) ≡ record p { column = p.column + 1 }
    here = from_here q.roster (columns_of q.roster q.window) p (p.column + 1)
        (omega (arith, within, ap (columns_in (columns_of q.roster q.window)) l.due.at))

    inside : is_inside q ≡ true
    inside = ap (λ (x : Replica). is_inside x) l.after ∙ l.due.inside

    cell : has_cell q p.row (p.column + 1) ≡ true
    cell = cell_test q p.row (p.column + 1) (omega (arith, ap (λ (x : Replica). x.roster) l.after, l.due.cell.row))
        (ap (λ (x : Replica). is_other x p.row) l.after ∙ l.due.cell.other) within

    may : may_look q p.row (p.column + 1) ≡ true
    may = subst (λ (x : Replica). may_look x p.row (p.column + 1) ≡ true) (sym l.after)
        (together _ _ (and_parts _ (has_cell replica p.row p.column) l.due.may).0
        (subst (λ (x : Replica). has_cell x p.row (p.column + 1) ≡ true) l.after cell))

-- behind the last column it goes on with the next row
pub look_left : (replica q : Replica) (fate : Fate) (p : Place) (word : ℕ) (w : Waits)
    → IsLooked replica q fate p word → IsWaited q fate p w
    → IsUnderway (standing q (waited fate w) (next_row q.roster p))
look_left replica q fate p word w l is = subst (λ (x : Place). IsUnderway (standing q (waited fate w) x))
    (row_left q p parts.Look (p.column + 1) l.due.at refl is.past) (is_done word _ _ _ _
    (look_taken replica q fate (waited fate w) p word l (told_past replica q fate p word w l is))).underway

pub looked_past : (now : Running) (replica q : Replica) (fate : Fate) (p s : Place) (word : ℕ)
    (w : Waits) → standing replica fate p ≡ now → IsLooked replica q fate p word → IsWaited q fate p w
    → standing q (waited fate w) s ≡ settled (standing q (waited fate w) (next_row q.roster p))
    → IsAnswer word now (standing q (waited fate w) s)
looked_past now replica q fate p s word w view l is e = answer_at word _ now _ view (is_answer word _ _ _ _ s
    (look_taken replica q fate (waited fate w) p word l (told_past replica q fate p word w l is))
    (e ∙ ap (λ (x : Place). settled (standing q (waited fate w) x))
    (sym (row_left q p parts.Look (p.column + 1) l.due.at refl is.past))))

-- ---- pushes

-- the fate with so many more pushes of this turn
abbrev pub counted : Fate → ℕ → Fate
counted fate n = record fate { pushes = n }

-- what is known once a push was done, and the next changed column sought
pub record IsPushed (replica q : Replica) (fate : Fate) (p : Place) (n t : ℕ) : Type 0 where
  pub running : IsRunningMember (standing replica fate p)
  pub due : IsPushDue (standing replica fate p)
  pub timely : IsTimely fate replica.turns
  pub fits : fate.limit < 2 ^ 32
  pub after : q ≡ pushed replica p.row p.column
  pub form : HasForm q
  pub grown : NoWordFell replica q
  pub pushes : n ≡ one_more 32 fate.pushes
  pub unchanged : (x : ℕ) → p.column + 1 ≤ x → x < t → changed q.rows p.row x ≡ false
  pub above : p.column + 1 ≤ t
  pub within : t ≤ columns_of q.roster q.window

-- who pushed is in its view
pub pushed_inside : (replica q : Replica) (fate : Fate) (p : Place) (n t : ℕ)
    → IsPushed replica q fate p n t → is_inside q ≡ true
pushed_inside replica q fate p n t l = ap (λ (x : Replica). is_inside x) l.after ∙ l.due.inside

-- a replica that has pushed took its push, and stands at the next column
pub push_taken : (replica q : Replica) (fate : Fate) (p : Place) (n t word : ℕ) → IsPushed replica q fate p n t
    → IsTaken word (standing replica fate p) q (counted fate n)
    (from_column q.roster (columns_of q.roster q.window) p (p.column + 1))
push_taken replica q fate p n t word l = record {
  running = l.running;
  fits = l.fits;
  none = l.due.none;
  replica = l.after ∙ sym (l.due.step word);
  form = l.form;
  grown = λ same. l.grown;
  place = behind replica q p parts.Push l.due.at (ap (λ (x : Replica). x.roster) l.after)
      (ap (λ (x : Replica). x.window) l.after) refl;
  told = record {
    limit = refl;
    waits = l.due.waits word;
    crashes = refl;
    suspicions = refl;
    pushes = l.pushes ∙ l.due.pushes;
    failed = refl;
  };
}

-- the search from the next column goes by the columns up to t
pub push_searched : (replica q : Replica) (fate : Fate) (p : Place) (n t : ℕ) → IsPushed replica q fate p n t
    → IsUnderway (standing q (counted fate n) (from_column q.roster (columns_of q.roster q.window) p t))
    × (settled (standing q (counted fate n) (from_column q.roster (columns_of q.roster q.window) p t))
    ≡ settled (standing q (counted fate n) (from_column q.roster (columns_of q.roster q.window) p (p.column + 1))))
push_searched replica q fate p n t l =
    pushes_searched q (counted fate n) p (p.column + 1) t l.due.at (ap (λ (x : Replica). x.end) l.after ∙ l.due.none)
    (is_done 0 _ _ _ _ (push_taken replica q fate p n t 0 l)).underway l.unchanged l.above l.within

-- a member that pushed and then settled stands where the answer says
pushed_past : (now : Running) (replica q : Replica) (fate : Fate) (p s : Place) (n t word : ℕ)
    → standing replica fate p ≡ now → IsPushed replica q fate p n t → standing q (counted fate n) s ≡ settled
    (standing q (counted fate n) (from_column q.roster (columns_of q.roster q.window) p t))
    → IsAnswer word now (standing q (counted fate n) s)
pushed_past now replica q fate p s n t word view l e = answer_at word
    (standing replica fate p) now (standing q (counted fate n) s) view (is_answer word (standing replica fate p) q
    (counted fate n) (from_column q.roster (columns_of q.roster q.window) p (p.column + 1)) s
    (push_taken replica q fate p n t word l) (e ∙ (push_searched replica q fate p n t l).1))

-- it stays at the next changed column, where there is one
pub pushed_within : (now : Running) (replica q : Replica) (fate : Fate) (p : Place) (n t word : ℕ)
    → standing replica fate p ≡ now → IsPushed replica q fate p n t → t < columns_of q.roster q.window
    → changed q.rows p.row t ≡ true → IsAnswer word now (standing q (counted fate n) (record p { column = t }))
pushed_within now replica q fate p n t word view l within word_changed =
    pushed_past now replica q fate p next n t word view l
    (stays x (push_applies x next l.due.at other (ap (λ b. b || crashes_now x) inside) word_changed
    (cell_test q p.row t (omega (arith, ap (λ (y : Replica). y.roster) l.after, l.due.cell.row)) other within))
    ∙ ap (λ (y : Place). settled (standing q (counted fate n) y)) (sym here))
  where
    next : Place
    next = record p { column = t }

    x : Running
    x = standing q (counted fate n) next

    here : from_column q.roster (columns_of q.roster q.window) p t ≡ record p { column = t }
    here = from_here q.roster (columns_of q.roster q.window) p t
        (omega (arith, within, ap (columns_in (columns_of q.roster q.window)) l.due.at))

    other : is_other q p.row ≡ true
    other = ap (λ (y : Replica). is_other y p.row) l.after ∙ l.due.cell.other

    inside : is_inside q ≡ true
    inside = ap (λ (y : Replica). is_inside y) l.after ∙ l.due.inside

-- and goes on with the next row, where there is none
pub push_left : (replica q : Replica) (fate : Fate) (p : Place) (n t : ℕ) → IsPushed replica q fate p n t
    → columns_of q.roster q.window ≤ t → IsUnderway (standing q (counted fate n) (next_row q.roster p))
push_left replica q fate p n t l past = subst (λ (x : Place). IsUnderway (standing q (counted fate n) x))
    (row_left q p parts.Push t l.due.at refl past) (push_searched replica q fate p n t l).0

pub pushed_behind : (now : Running) (replica q : Replica) (fate : Fate) (p s : Place) (n t word : ℕ)
    → standing replica fate p ≡ now → IsPushed replica q fate p n t → columns_of q.roster q.window ≤ t
    → standing q (counted fate n) s ≡ settled (standing q (counted fate n) (next_row q.roster p))
    → IsAnswer word now (standing q (counted fate n) s)
pushed_behind now replica q fate p s n t word view l past e = pushed_past now replica q fate p s n t word view l
    (e ∙ ap (λ (x : Place). settled (standing q (counted fate n) x))
    (sym (row_left q p parts.Push t l.due.at refl past)))

-- and what it keeps of its script stays timely
pub pushed_timely : (replica q : Replica) (fate : Fate) (p : Place) (n t : ℕ)
    → IsPushed replica q fate p n t → IsTimely (counted fate n) q.turns
pushed_timely replica q fate p n t l = subst (λ (x : Replica). IsTimely (counted fate n) x.turns) (sym l.after)
    (subst (λ (x : ℕ). IsTimely (counted fate x) replica.turns) (sym l.pushes)
    (timely_push fate replica.turns l.timely (some_at_push fate replica.turns l.timely ∙ l.due.later)))

-- ---- the code's fields after a step

-- a step within its view leaves the member in good order inside
pub inside_after : (a : Inside) (q x : Replica) (fate : Fate) (place : Place) (ready : ℕ) → IsInsideMember a
    → q ≡ x → footing x ≡ footing a.replica → IsRunningMember (standing q fate place)
    → IsTimely fate q.turns → fate.limit ≡ a.fate.limit → KeepsReady q place ready
    → IsInsideMember (record { replica = q; place = place; fate = fate; bases = a.bases; ready = ready })
inside_after a q x fate place ready is e stays form timely limit keeps = record {
  form = form;
  fate = timely;
  limit = omega (arith, limit, is.limit);
  bases = bases_stay a.bases a.replica q x e stays is.bases;
  ready = keeps;
}

-- and its fate timely, where no turn begins
pub stays_timely : (a : Inside) (q x : Replica) → IsInsideMember a → q ≡ x → x.turns ≡ a.replica.turns
    → IsTimely a.fate q.turns
stays_timely a q x is e turn = subst (IsTimely a.fate) (sym (ap (λ (r : Replica). r.turns) e ∙ turn)) is.fate

-- of a look
pub look_due_at : (now : Running) (a : Inside) (word : ℕ) → member_inside a ≡ now → IsInsideMember a
    → MaySee now (step_of_member now) word → IsLookDue (member_inside a) word
look_due_at now a word view is may = look_due (member_inside a) word is.form
    (subst (λ (x : Running). MaySee x (step_of_member x) word) (sym view) may)

-- a member that sees a word looks at it so
pub is_looked : (now : Running) (a : Inside) (q : Replica) (word : ℕ) → member_inside a ≡ now
    → IsInsideMember a → MaySee now (step_of_member now) word → q ≡ looked a.replica a.place.row a.place.column word
    → HasForm q → NoWordFell a.replica q → IsLooked a.replica q a.fate a.place word
is_looked now a q word view is may after form grown = record {
  running = is.form;
  due = look_due_at now a word view is may;
  fits = is.limit;
  after = after;
  form = form;
  grown = grown;
}

-- a turn of waiting leaves it timely, too
pub looked_row_timely : (a : Inside) (q : Replica) (i c word : ℕ) (w : Waits) → IsInsideMember a
    → q ≡ looked a.replica i c word → IsTimely (waited a.fate w) q.turns
looked_row_timely a q i c word w is e =
    let t = stays_timely a q _ is e refl in record { crash = t.crash; ahead = t.ahead }

-- of an act, which is due and so is one that it may do
pub act_none : (now : Running) (a : Inside) → member_inside a ≡ now → is_act (next_deed now) ≡ true
    → a.replica.end ≡ None
act_none now a view acts = (deed_due is_act (λ end. refl) (member_inside a)
    (subst (λ (x : Running). is_act (next_deed x) ≡ true) (sym view) acts)).0

pub act_allowed : (now : Running) (a : Inside) (act : Act) → member_inside a ≡ now → IsInsideMember a
    → is_act (next_deed now) ≡ true → next_step (member_inside a) ≡ Do act → allows a.replica (Do act) ≡ true
act_allowed now a act view is acts due = allowed (member_inside a) is.form (act_none now a view acts) (Do act) due

pub act_may : (now : Running) (a : Inside) (act : Act) → member_inside a ≡ now → IsInsideMember a
    → is_act (next_deed now) ≡ true → next_step (member_inside a) ≡ Do act → may a.replica act ≡ true
act_may now a act view is acts due = allowed_inside (member_inside a) is.form (act_none now a view acts) (Do act) due

-- an act of those that come up most leaves a member in its view
kept_in_view : (r : Replica) (act : Act) → is_of_view act ≡ true → (is_outside_act act || is_inside r) ≡ true
    → is_inside (taken r act) ≡ true
kept_in_view r (acts.Receive s) of e = e
kept_in_view r acts.Send of e = e
kept_in_view r acts.Null of e = e
kept_in_view r acts.Deliver of e = e
kept_in_view r acts.Publish of e = e
kept_in_view r acts.Report of e = e
kept_in_view r act of e = absurd (cc)

pub act_in_view : (r q : Replica) (act : Act) → allows r (Do act) ≡ true → q ≡ taken r act
    → is_of_view act ≡ true → is_inside q ≡ true
act_in_view r q act allowed after of = ap (λ (x : Replica). is_inside x) after
    ∙ kept_in_view r act of (and_parts (is_outside_act act || is_inside r) (may r act) allowed).0

-- a vote waits only where the act is the vote's
pub act_free : (a : Inside) (act : Act) → IsInsideMember a → next_step (member_inside a) ≡ Do act
    → is_free a.replica (Do act) ≡ true
act_free a act is due = subst (λ s. is_free a.replica s ≡ true) due (free_step (member_inside a) is.form.free)

-- so it makes of the fate what it is to be, and leaves it timely
pub act_told : (word : ℕ) (a : Inside) (q : Replica) (fate : Fate) (act : Act) → IsInsideMember a
    → q ≡ taken a.replica act → IsFateBy act q.turns a.fate fate
    → IsFateAfter word (member_inside a) (Do act) fate × IsTimely fate q.turns
act_told word a q fate act is after by =
    let turn : q.turns ≡ (taken a.replica act).turns = ap (λ (x : Replica). x.turns) after in
    subst (λ (n : ℕ). IsFateAfter word (member_inside a) (Do act) fate × IsTimely fate n) (sym turn)
    (fate_told word a.replica a.fate fate a.place act is.fate (subst (λ (n : ℕ). IsFateBy act n a.fate fate) turn by))

pub act_taken : (word : ℕ) (now : Running) (a : Inside) (q : Replica) (fate : Fate) (from : Place) (act : Act)
    → member_inside a ≡ now → IsInsideMember a → is_act (next_deed now) ≡ true → next_step (member_inside a) ≡ Do act
    → q ≡ taken a.replica act → HasForm q → (q.view ≡ a.replica.view → NoWordFell a.replica q)
    → from ≡ goes a.replica.roster (columns_of a.replica.roster a.replica.window) (part_of a.place) a.place
    → IsFateBy act q.turns a.fate fate → IsTaken word (member_inside a) q fate from
act_taken word now a q fate from act view is acts due after form grown place by = record {
  running = is.form;
  fits = is.limit;
  none = act_none now a view acts;
  replica = after ∙ ap (stepped word a.replica) (sym due);
  form = form;
  grown = grown;
  place = place;
  told = subst (λ s. IsFateAfter word (member_inside a) s fate) (sym due) (act_told word a q fate act is after by).0;
}

-- of an append
pub append_taken : (word : ℕ) (now : Running) (a : Inside) (q : Replica) (from : Place)
    → member_inside a ≡ now → IsInsideMember a → is_append (next_deed now) ≡ true
    → q ≡ stepped word a.replica (next_step (member_inside a)) → HasForm q → NoWordFell a.replica q
    → from ≡ goes a.replica.roster (columns_of a.replica.roster a.replica.window) (part_of a.place) a.place
    → IsTaken word (member_inside a) q a.fate from
append_taken word now a q from view is append after form grown place =
    let due = append_due (member_inside a)
    (subst (λ (x : Running). is_append (next_deed x) ≡ true) (sym view) append) in
    record {
      running = is.form;
      fits = is.limit;
      none = due.none;
      replica = after;
      form = form;
      grown = λ same. grown;
      place = place;
      told = fate_stays word a.replica a.fate a.place (next_step (member_inside a)) due.pushes (due.waits word);
    }

-- with one entry more on its log, it has that to publish
publishes : (r q : Replica) (fate : Fate) → HasForm r → is_inside r ≡ true → q ≡ appended r
    → applies (standing q fate (begin 8)) (begin 8) ≡ true
publishes r q fate f inside after = together (is_inside q) (nat_lt (own q.rows LOGGED_COLUMN) q.logged)
    (ap (λ (x : Replica). is_inside x) after ∙ inside)
    (subst (λ (x : Replica). nat_lt (own x.rows LOGGED_COLUMN) x.logged ≡ true) (sym after)
    (grind (arith, nat_tests, f.published)))

-- so behind the append of an entry the search stays
pub entry_answer : (word : ℕ) (now : Running) (a : Inside) (q : Replica) (from : Place) → member_inside a ≡ now
    → IsInsideMember a → is_append (next_deed now) ≡ true → part_of now.place ≢ parts.Vote
    → q ≡ appended a.replica → HasForm q → NoWordFell a.replica q
    → from ≡ goes a.replica.roster (columns_of a.replica.roster a.replica.window) (part_of a.place) a.place
    → IsAnswer word now (standing q a.fate from)
entry_answer word now a q from view is append other after form grown place =
    let due = subst IsEntryDue (sym view) (entry_due now append other) in
    let next : from ≡ begin 8 = place
    ∙ ap (λ x. goes a.replica.roster (columns_of a.replica.roster a.replica.window) x a.place) due.at
    ∙ append_next a.replica.roster (columns_of a.replica.roster a.replica.window) a.place is.form.place due.at in
    answer_at word _ now _ view (is_answer word _ _ _ _ from
    (append_taken word now a q from view is append (after ∙ sym (due.step word)) form grown place)
    (stays (standing q a.fate from) (subst (λ (x : Place). applies (standing q a.fate x) x ≡ true) (sym next)
    (publishes a.replica q a.fate is.form.replica (append_inside (member_inside a) is.form
    (subst (λ (x : Running). is_append (next_deed x) ≡ true) (sym view) append)) after))))

-- of a vote
pub vote_due_at : (now : Running) (a : Inside) → member_inside a ≡ now → IsInsideMember a
    → is_append (next_deed now) ≡ true → part_of now.place ≡ parts.Vote → IsVoteDue (member_inside a)
vote_due_at now a view is append at = vote_due (member_inside a) is.form
    (subst (λ (x : Running). is_append (next_deed x) ≡ true) (sym view) append)
    (subst (λ (x : Running). part_of x.place ≡ parts.Vote) (sym view) at)

-- of a push, where t is the next changed column
pub is_pushed : (now : Running) (a : Inside) (q : Replica) (n t : ℕ) → member_inside a ≡ now
    → IsInsideMember a → is_push (next_deed now) ≡ true → q ≡ pushed a.replica a.place.row a.place.column
    → HasForm q → NoWordFell a.replica q → n ≡ one_more 32 a.fate.pushes
    → ((x : ℕ) → a.place.column + 1 ≤ x → x < t → changed q.rows a.place.row x ≡ false)
    → a.place.column + 1 ≤ t → t ≤ columns_of q.roster q.window → IsPushed a.replica q a.fate a.place n t
is_pushed now a q n t view is push after form grown pushes unchanged above within = record {
  running = is.form;
  due = push_due (member_inside a) is.form (subst (λ (x : Running). is_push (next_deed x) ≡ true) (sym view) push);
  timely = is.fate;
  fits = is.limit;
  after = after;
  form = form;
  grown = grown;
  pushes = pushes;
  unchanged = unchanged;
  above = above;
  within = within;
}
