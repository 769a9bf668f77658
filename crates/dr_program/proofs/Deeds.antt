-- The next deed of a running member, and what it makes of it.
use Rattle.std.specs.{List.list_any, Option.option_map_or}
use Rattle.std.specs.Prelude.{is_some, Option, option_map, Some, None, slice_set, slice_index_or, Any}
use Rattle.std.proofs.Common.{◌≡◌, refl, ℕ, zero, suc, ◌||◌, Bool, true, false, if◌then◌else◌, List, map, ap, [], ◌∷◌, ◌∙◌, arith, inl, inr, sym, ◌++◌, subst, ◌≤◌, ◌-◌, ◌<◌, ◌&&◌, not, nat_lt, length, ◌*◌}
use Rattle.std.proofs.lemmas.{Bool.{and_parts, Decides.nat_tests}, List.{set-get_or, Folds.Any-from_list_any}}
use Rattle.dr_entry.specs.{declared.{end.End.End, entry.Entry.Entry}, declared.record.Record.Record}
use Rattle.dr_entry.proofs.{BoolFacts.implied, ListParts.of_map, NumberFacts.{all_below, each_below, same_view}}
use Rattle.dr_history.specs.Members.{has}
use Rattle.dr_rows.specs.Words.{is_frozen, own}
use Rattle.dr_machine.specs.{Group.Group, Run.WasOwn, World.{opening_world, World}, declared.step.Step.Step}
use Rattle.dr_machine.proofs.Runs.{is_last}
use Rattle.dr_program.{specs.{Form.IsRunningMember, Net.{FindsNone, HadWord}}, proofs.Programs.worlds}
use Rattle.dr_program.specs.{Presence.{with_present, present_at}, declared.place.{Place.Place, TheConstants.TURN}}
use Rattle.dr_program.specs.Program.{Program, Move, after_deed, letter_for, moved_by, next_sight, step_of, went, comes_to, IsRanFrom, ran, appended_as}
use Rattle.dr_program.specs.Reading.{Shared, world, world_of, step_by, step_due, table_of, of_member, kept_word, in_view}
use Rattle.dr_program.{specs.Replica.{Replica, is_inside}, proofs.{Going.publish_size, Runs.{comes_to_none, ran_on}}}
use Rattle.dr_program.specs.Running.{Running, applies, moved, settle, settled, asks, next_step, took_letter, after_step, took, columns, is_at_push, is_in_turn}
use Rattle.dr_program.specs.Steps.{allows, stored, stored_letters, IsAppend, sight, AtLook, has_cell}
use Rattle.dr_program.specs.{Turn.{part_of, turn_begins, rows_in, columns_in, IsIn}, declared.outcome.Outcome.Outcome}
use Rattle.dr_program.{specs.declared.{deed.Deed.Deed, place.Part.Part}, proofs.Holdings.{held, held_same}}
use Rattle.dr_program.{specs.declared.setup.CrashPoint.CrashPoint, proofs.Present.{present_map, replaced_either}}
use Rattle.dr_program.proofs.{Parts.{is_behind_crash, is_publish, is_append_part}, Replicas.{step_later, replicas_of}}
use Rattle.dr_program.specs.declared.outcome.Outcome.TheVariants as outcomes
use Rattle.dr_program.specs.declared.place.Part.TheVariants as parts
use Rattle.dr_program.specs.declared.deed.Deed.TheVariants as deeds

-- the search for the next place leaves the replica
pub settle_replica : (n : ℕ) (r : Running) → (settle n r).replica ≡ r.replica
unfolding settle
settle_replica zero r = refl
settle_replica (suc n) r = by (is_some r.replica.end || applies r r.place) (settle_replica n (moved r))
  where
    by : (b : Bool) → (settle n (moved r)).replica ≡ r.replica
        → ◌≡◌ {A = Replica} (if b then r else settle n (moved r)).replica r.replica
    by true e = refl
    by false e = e

-- the replicas of a program's members
abbrev pub replicas : List (Option Running) → List (Option Replica)
replicas rs = map (option_map (λ (r : Running). r.replica)) rs

replicas_set : (rs : List (Option Running)) (m : ℕ) (r : Running) (q : Replica) → r.replica ≡ q
    → replicas (with_present rs m r) ≡ with_present (replicas rs) m q
replicas_set [] m r q e = refl
replicas_set (x ∷ rs) zero r q e = ap (λ p. Some p ∷ replicas rs) e
replicas_set (x ∷ rs) (suc m) r q e =
    ap (λ ps. option_map (λ (r : Running). r.replica) x ∷ ps) (replicas_set rs m r q e)

-- the world after a deed that leaves the member as r, before it goes on to its next place
pub settled_world : (g : Group) (rs : List (Option Running)) (table : Shared) (m : ℕ) (r : Running)
    → world g (record { members = with_present rs m (settled r); table = table.words; letters = table.letters })
    ≡ world_of g (with_present (replicas rs) m r.replica) table
settled_world g rs table m r =
    ap (λ qs. world_of g qs table) (replicas_set rs m (settled r) r.replica (settle_replica _ r))

pub replica_there : (p : Program) (m : ℕ) (r : Running) → present_at p.members m ≡ Some r
    → present_at (replicas p.members) m ≡ Some r.replica
replica_there p m r there = present_map (λ (x : Running). x.replica) p.members m
    ∙ ap (option_map (λ (x : Running). x.replica)) there

-- what a member without an end is due to do, it may do
pub due_allowed : (r : Running) → applies r r.place ≡ true → allows r.replica (next_step r) ≡ true
due_allowed r due = (and_parts (asks r (part_of r.place) r.place.row r.place.column)
    (allows r.replica (next_step r)) due).1

-- the program after a move of a member without an end
pub step_is : (p : Program) (e : Move) (r : Running) → present_at p.members e.member ≡ Some r → r.replica.end ≡ None
    → step_of p e ≡ record {
      members = with_present p.members e.member
          (after_deed (next_sight p.table r) (letter_for p e.member) e.outcome r (next_step r));
      table = stored p.table r.replica (next_step r);
      letters = stored_letters p.letters r.replica (next_step r);
    }
step_is p e r there unended = ap (λ o. moved_by p o e) there ∙ ap (went p r e) unended

-- a member at rest changes nothing
pub rest_changes_nothing : (p : Program) (e : Move) (r : Running) → present_at p.members e.member
    ≡ Some r → is_some r.replica.end ≡ true → step_of p e ≡ p
rest_changes_nothing p e r there rests = by r.replica.end refl rests
  where
    by : (o : Option End) → r.replica.end ≡ o → is_some o ≡ true → step_of p e ≡ p
    by None ended t = absurd (cc)
    by (Some x) ended t = ap (λ o. moved_by p o e) there ∙ ap (went p r e) ended

-- an append leaves the table and the letters
pub append_stores : (table : List ℕ) (q : Replica) (s : Step) → IsAppend s → stored table q s ≡ table
append_stores table q s is = grind (arith, is)

pub append_gives : (letters : List (Option (List Entry))) (q : Replica) (s : Step) → IsAppend s
    → stored_letters letters q s ≡ letters
append_gives letters q s is = grind (arith, is)

-- what comes to no step is an append that failed, or a take that finds no letter: it leaves the replica and the
-- table
fails_alone : (table : List ℕ) (letters : List (Option (List Entry))) (letter : Option (List Entry))
    (o : Outcome) (r : Running) (due : Step) → comes_to letter (Some due) o ≡ None
    → ((after_deed (sight table r.replica due) letter o r due).replica ≡ r.replica)
    × (stored table r.replica due ≡ table) × (stored_letters letters r.replica due ≡ letters)
fails_alone table letters letter o r due none = elim (comes_to_none (sight table r.replica due) letter o r due none) [
  | inl append ↦ (
    ap (λ (x : Running). x.replica) append.1.1,
    append_stores table r.replica due append.0,
    append_gives letters r.replica due append.0,
  )
  | inr join ↦ (
    ap (λ (x : Running). x.replica) join.1 ∙ settle_replica _ (took_letter None r),
    ap (stored table r.replica) join.0,
    ap (stored_letters letters r.replica) join.0,
  )
]

-- a move that is no step leaves the world
pub no_step_no_change : (g : Group) (p : Program) (e : Move) (r : Running) → present_at p.members e.member
    ≡ Some r → step_by (letter_for p e.member) r e.outcome ≡ None → world g (step_of p e) ≡ world g p
no_step_no_change g p e r there named = by r.replica.end refl named
  where
    letter : Option (List Entry)
    letter = letter_for p e.member

    after : Running
    after = after_deed (next_sight p.table r) letter e.outcome r (next_step r)

    by : (o : Option End) → r.replica.end ≡ o → comes_to letter (step_due r o) e.outcome ≡ None
        → world g (step_of p e) ≡ world g p
    by None unended none =
        let alone = fails_alone p.table p.letters letter e.outcome r (next_step r) none in
        ap (world g) (step_is p e r there unended) ∙ ap (λ cells. world g (record {
          members = with_present p.members e.member after;
          table = cells;
          letters = stored_letters p.letters r.replica (next_step r);
        })) alone.1 ∙ ap (λ posts. world g (record {
          members = with_present p.members e.member after;
          table = p.table;
          letters = posts;
        })) alone.2
        ∙ ap (λ rs. world_of g rs (table_of p)) (replicas_set p.members e.member after r.replica alone.0
        ∙ sym (ap (slice_set (replicas p.members) e.member) (replica_there p e.member r there))
        ∙ set-get_or (replicas p.members) e.member None)
    by (Some x) ended none = ap (world g) (rest_changes_nothing p e r there (ap is_some ended))

-- nor does a take that doesn't find the letter that was given
pub missed_stays : (g : Group) (p q : Program) → FindsNone p q → world g q ≡ world g p
missed_stays g p q t = ap (world g) t.made
    ∙ settled_world g p.members (table_of p) t.number (took_letter None t.member)
    ∙ ap (λ rs. world_of g rs (table_of p)) (sym (ap (slice_set (replicas p.members) t.number)
    (replica_there p t.number t.member t.there)) ∙ set-get_or (replicas p.members) t.number None)

-- the table stays at an append
pub table_at : (table : List ℕ) (r : Running) → IsAppend (next_step r) → table ≡ stored table r.replica (next_step r)
table_at table r is = sym (append_stores table r.replica (next_step r) is)

-- one deed more
pub deed_ran : (begun : Program) (words : List ℕ) (letters : List (Option (List Entry))) (members : List (Option Running)) (m : ℕ) (o : Outcome)
    (r : Running) → present_at members m ≡ Some r → r.replica.end ≡ None
    → IsRanFrom begun (record { members = members; table = words; letters = letters }) → IsRanFrom begun (record {
      members = with_present members m
          (after_deed (next_sight words r) (slice_index_or letters m None) o r (next_step r));
      table = stored words r.replica (next_step r);
      letters = stored_letters letters r.replica (next_step r);
    })
unfolding ran
deed_ran begun words letters members m o r there none (es, is) = (
  es ++ e ∷ [],
  sym (ran_on begun es (e ∷ []) ∙ ap (λ p. step_of p e) (sym is)
      ∙ step_is (record { members = members; table = words; letters = letters }) e r there none),
)
  where
    e : Move
    e = record { member = m; outcome = o }

pub after_later : (word : ℕ) (r : Running) → r.replica.view ≤ (after_step word r).replica.view
after_later word r = subst (λ (q : Replica). r.replica.view ≤ q.view)
    (sym (settle_replica _ (took word r (next_step r)))) (step_later word r.replica (next_step r))

pub appended_later : (o : Outcome) (r : Running) → r.replica.view ≤ (appended_as o r).replica.view
appended_later outcomes.Ok r = after_later 0 r
appended_later (outcomes.Failed why) r = omega arith

append_test : (part : Part) → is_append_part part ≡ true → part ≡ parts.Append
append_test part e = grind (arith, e)

append_before : (i : ℕ) → i < length TURN → is_publish (slice_index_or TURN i turn_begins) ≡ true
    → (1 ≤ i) × (slice_index_or TURN (i - 1) turn_begins ≡ parts.Append)
unfolding all_below
append_before i l e =
    let test = each_below (length TURN) i (λ j. not (is_publish (slice_index_or TURN j turn_begins))
    || (nat_lt 0 j && is_append_part (slice_index_or TURN (j - 1) turn_begins))) refl l in
    let both = and_parts (nat_lt 0 i) (is_append_part (slice_index_or TURN (i - 1) turn_begins)) (implied _ _ test e) in
    (grind (arith, nat_tests, both.0), append_test _ both.1)

-- a place of publishing, and that before it
pub record IsPublishing (n k : ℕ) (p : Place) : Type 0 where
  pub some : 1 ≤ p.part
  pub before : slice_index_or TURN (p.part - 1) turn_begins ≡ parts.Append
  pub row : p.row < 1
  pub column : p.column < 1
  pub size : rows_in n (part_of p) * columns_in k (part_of p) ≡ 1

pub publishing : (n k : ℕ) (p : Place) → IsIn n k p → is_publish (part_of p) ≡ true → IsPublishing n k p
publishing n k p is at =
    let before = append_before p.part is.part at in
    let size = publish_size n k (part_of p) at in
    record {
      some = before.0;
      before = before.1;
      row = subst (λ rows. p.row < rows) size.0 is.row;
      column = subst (λ columns. p.column < columns) size.1 is.column;
      size = rw (size.0, size.1) refl;
    }

-- no member looks at a row that is frozen for it
pub unfrozen_read : (r : Running) → IsRunningMember r → r.replica.end ≡ None
    → AtLook (next_step r) (λ i c. is_frozen r.replica.rows i ≡ false)
unfrozen_read r m none = λ i c look.
    let may : allows r.replica (next_step r) ≡ true = (and_parts (asks r (part_of r.place) r.place.row r.place.column)
    (allows r.replica (next_step r)) (m.due none)).1 in
    let test = and_parts (is_inside r.replica) (not (has r.replica.suspects i) && has_cell r.replica i c)
    (subst (λ (s : Step). allows r.replica s ≡ true) look may) in
    let other = and_parts (not (has r.replica.suspects i)) (has_cell r.replica i c) test.1 in
    m.replica.frozen i ∙ grind (arith, other.0)

pub named_at_push : (points : List CrashPoint) (turns push : ℕ) → list_any (is_at_push turns push) points
    ≡ true → Any (λ (c : CrashPoint). c.turn ≡ turns) points
named_at_push points turns push e = by (Any-from_list_any (is_at_push turns push) points e)
  where
    by : Any (λ (c : CrashPoint). is_at_push turns push c ≡ true) points
        → Any (λ (c : CrashPoint). c.turn ≡ turns) points
    by (k, c, within, there, is) = (k, c, within, there, grind (arith, nat_tests, is))

pub named_in_turn : (points : List CrashPoint) (turns : ℕ) → list_any (is_in_turn turns) points ≡ true
    → Any (λ (c : CrashPoint). c.turn ≡ turns) points
named_in_turn points turns e = by (Any-from_list_any (is_in_turn turns) points e)
  where
    by : Any (λ (c : CrashPoint). is_in_turn turns c ≡ true) points → Any (λ (c : CrashPoint). c.turn ≡ turns) points
    by (k, c, within, there, is) = (k, c, within, there, grind (arith, nat_tests, is))

-- what is known of a member as its deed is due
pub record IsDue (r : Running) (part : Part) : Type 0 where
  pub at : part_of r.place ≡ part
  pub member : IsRunningMember r
  pub none : r.replica.end ≡ None
  pub asked : asks r part r.place.row r.place.column ≡ true

-- the part before the one that goes back is not behind the crash
pub early_before : (r : Running) (part : Part) → IsDue r part → is_publish part ≡ true
    → is_behind_crash (slice_index_or TURN (r.place.part - 1) turn_begins) ≡ false
unfolding all_below
early_before r part d e =
    let back : is_publish (slice_index_or TURN r.place.part turn_begins) ≡ true = ap is_publish d.at ∙ e in
    implied _ _ (each_below (length TURN) r.place.part (λ i. not (is_publish (slice_index_or TURN i turn_begins))
    || not (is_behind_crash (slice_index_or TURN (i - 1) turn_begins))) refl d.member.place.part) back
  where
    implied : (a b : Bool) → (not a || not b) ≡ true → a ≡ true → b ≡ false
    implied true true t e = absurd (cc)
    implied true false t e = refl
    implied false b t e = absurd (cc)

-- what a member of the program has of something, in the world
pub of_there : {A : Type 0} (p : Program) (f : Replica → A) (opening : ℕ → A) (m : ℕ) (r : Running)
    → present_at p.members m ≡ Some r → of_member (replicas_of p) f opening m ≡ f r.replica
of_there p f opening m r there = ap (λ o. option_map_or f o (opening m)) (replica_there p m r there)

-- the own word of a member of a program is its own one in the program's world
view_there : (g : Group) (p : Program) (m : ℕ) (r : Running) → present_at p.members m ≡ Some r
    → (world g p).past.view m ≡ r.replica.view
view_there g p m r there = of_there p (λ q. q.view) (opening_world g).past.view m r there

own_there : (g : Group) (p : Program) (m : ℕ) (r : Running) (c : ℕ) → present_at p.members m ≡ Some r
    → (world g p).past.own m r.replica.view c ≡ own r.replica.rows c
own_there g p m r c there = ap (λ (f : ℕ → ℕ → ℕ). f r.replica.view c)
    (of_there p (λ q n k. in_view q n (own q.rows k) (kept_word q n k)) (opening_world g).past.own m r there)
    ∙ same_view r.replica.view (own r.replica.rows c) (kept_word r.replica r.replica.view c)

pub own_now : (g : Group) (p : Program) (m : ℕ) (r : Running) (c : ℕ) (before : List World)
    → present_at p.members m ≡ Some r → WasOwn (world g p ∷ before) r.replica.view m c (own r.replica.rows c)
own_now g p m r c before there =
    (world g p, is_last before (world g p), view_there g p m r there, own_there g p m r c there)

-- and a word that a member of a program had was so then
pub had_own : (g : Group) (programs : List Program) (m v c word : ℕ) → HadWord programs m v c word
    → WasOwn (worlds g programs) v m c word
had_own g programs m v c word (p, among, r, there, view, is) = (
  world g p,
  of_map (world g) programs p among,
  view_there g p m r there ∙ view,
  subst (λ n. (world g p).past.own m n c ≡ word) view (own_there g p m r c there ∙ is),
)

-- what holds of each member, and of the one that moves after its deed, holds after a move
pub moved_all : (P : Running → Type 0) (p : Program) (e : Move)
    → ((k : ℕ) (y : Running) → present_at p.members k ≡ Some y → P y)
    → ((r : Running) → present_at p.members e.member ≡ Some r → r.replica.end ≡ None
    → P (after_deed (next_sight p.table r) (letter_for p e.member) e.outcome r (next_step r)))
    → (k : ℕ) (y : Running) → present_at (step_of p e).members k ≡ Some y → P y
moved_all P p e all deed = by (present_at p.members e.member) refl
  where
    Holds : Program → Type 0
    Holds q = (k : ℕ) (y : Running) → present_at q.members k ≡ Some y → P y

    at : (r : Running) → present_at p.members e.member ≡ Some r → (o : Option End) → r.replica.end ≡ o
        → Holds (step_of p e)
    at r there (Some x) ended = subst (λ (q : Program). (k : ℕ) (y : Running) → present_at q.members k ≡ Some y
        → P y) (sym (rest_changes_nothing p e r there (ap is_some ended))) all
    at r there None unended = subst (λ (q : Program). (k : ℕ) (y : Running) → present_at q.members k ≡ Some y → P y)
        (sym (step_is p e r there unended)) (λ k y here. elim (replaced_either p.members e.member r
        (after_deed (next_sight p.table r) (letter_for p e.member) e.outcome r (next_step r)) there k y here) [
          | inl moved ↦ subst P moved.1 (deed r there unended)
          | inr other ↦ all k y other.1
        ])

    by : (o : Option Running) → present_at p.members e.member ≡ o → Holds (step_of p e)
    by None none = subst (λ (q : Program). (k : ℕ) (y : Running) → present_at q.members k ≡ Some y → P y)
        (sym (ap (λ o. moved_by p o e) none)) all
    by (Some r) there = at r there r.replica.end refl

-- what the world has of a member is the same where the member is
pub same_held : (g : Group) (p q : Program) (i : ℕ) → present_at q.members i ≡ present_at p.members i
    → held (world g q) i ≡ held (world g p) i
same_held g p q i same = held_same g (replicas q.members) (replicas p.members) (table_of q) (table_of p) i
    (present_map (λ (r : Running). r.replica) q.members i ∙ ap (option_map (λ (r : Running). r.replica)) same
    ∙ sym (present_map (λ (r : Running). r.replica) p.members i))

pub no_points : {P : CrashPoint → Type 0} → Any P [] → ⊥
no_points (k, c, within, there, is) = absurd (omega (arith, within))

abbrev pub record_in : Record → Deed → Record
record_in other (deeds.Append x) = x
record_in other d = other
