-- Replicas: what stays from one step to the next.
use Rattle.std.{specs.Prelude.{Option, None, max, Some, slice_get, option_map, unwrap_or}, proofs.Math.Nat.mul-le-mul}
use Rattle.std.proofs.Common.{◌≡◌, ap, ◌∙◌, if◌then◌else◌, ◌&&◌, ◌||◌, not, is_some, ℕ, ◌+◌, ◌<◌, ◌≤◌, true, false, List, slice_index, sym, subst, Bool, length, refl, arith, ◌*◌, ◌^◌, inl, inr, get_or, ◌==◌, nat_lt, ◌≢◌, map, slice_set, ◌⊎◌, replicate, [], ◌∷◌, ◌++◌, slice_index_or, zero, suc, ◌↔◌, ◌-◌, le_refl, fold, ◌/◌}
use Rattle.std.proofs.lemmas.Bool.{and_parts, cases_lt, ltb-true, cases_eq, eq-eqb, Decides.nat_tests}
use Rattle.std.proofs.lemmas.List.{get_or_past, get_or_read_under, length-set, get_or-map, length-map, get_or-set_other}
use Rattle.std.proofs.lemmas.Nat.{div_below}
use Rattle.dr_entry.specs.declared.end.End.{End, TheVariants.{Crashed, DiskFault, LogFull, Spent}}
use Rattle.dr_entry.specs.declared.{end.SentItem.{SentItem, TheVariants.Index}, entry.{Entry.Entry, Item.Item}}
use Rattle.dr_entry.specs.{declared.entry.Item.TheVariants.{Null, Text}, declared.record.{Record.Record, Value.Value}}
use Rattle.dr_entry.{specs.declared.record.Vote.Vote, proofs.BoolFacts.{all_true, all_three}}
use Rattle.dr_entry.proofs.ListPlaces.{greatest_within, count_max}
use Rattle.dr_entry.proofs.NumberFacts.{product_within, same_number, other_number, cell_inside, greater, no_less, falls_no}
use Rattle.dr_entry.specs.declared.record.Record.TheVariants as records
use Rattle.dr_entry.specs.declared.end.SentItem.TheVariants as sent_items
use Rattle.dr_history.specs.{History.last_view, Members.{has, members_of}, Places.front_of}
use Rattle.dr_history.proofs.{Fronts.front_within, MemberLemmas.few_members, Ranks.some_member}
use Rattle.dr_rows.specs.Along.{looked_along, Pushes, pushed_along}
use Rattle.dr_rows.specs.Words.{seen, Words, with_own, own, changed, row_of, begun, last_pushed}
use Rattle.dr_rows.proofs.{Along.pushed_stays, Grids.{seen_with, with_word-same, with_word-column}}
use Rattle.dr_rows.proofs.{Rewrites.seen_rewritten, WordsLemmas.{IsFresh-begun, begun_sent}}
use Rattle.dr_words.{specs.Columns.{leavers_column, columns_of, recv_column}, proofs.Columns.{AreAlike, beats_alike}}
use Rattle.dr_words.{specs.Form.IsInForm, proofs.Accepts.leavers_accept}
use Rattle.dr_words.specs.{Grown.{HasGrown, Grown}, Masks.{IsInRoster, least_of, with_member, without, next_members}}
use Rattle.dr_words.specs.{Layout.{words_of, word_index_of}, Rewrites.{is_accept_of, accepted_word, wedged_word}}
use Rattle.dr_words.{specs.Packing.{accept_promise, recv_word, ring_word}, proofs.Places.word_index_within}
use Rattle.dr_words.specs.declared.column.TheConstants.{BEAT_COLUMN, RECEIVED_COLUMN, DONE_COLUMN, LOGGED_COLUMN}
use Rattle.dr_words.proofs.{Choices.{propose_alike, accept_alike, shown_alike, proposal_alike}, Order.Grown_refl}
use Rattle.dr_words.specs.Choices as choices
use Rattle.dr_ring.specs.{Pieces.pieces, Slots.{IsReady, slot_of, slot_column, with_item, written}}
use Rattle.dr_ring.proofs.Readiness.{ready_test}
use Rattle.dr_machine.specs.declared.step.Step.TheVariants as steps
use Rattle.dr_machine.specs.declared.event.Act.TheVariants as acts
use Rattle.dr_machine.specs.{Acts.effect_of, Effects.{one_more, row_with}, Group.{Group, roster, banks, columns}}
use Rattle.dr_machine.specs.{Guards.IsFault, Run.{HaveArrived, MayArrive, WasOwn}, World.{World, no_vote, no_value}}
use Rattle.dr_machine.specs.{Writes.{at₂, at₄}, declared.{event.Act.Act, step.Step.Step}}
use Rattle.dr_machine.specs.declared.step.Step.TheVariants.{Append, LogVote, Do, Look, Push}
use Rattle.dr_machine.proofs.{Looking.{is_looking, is_pushing}, Writes.at₄_case}
use Rattle.dr_program.specs.{Acts.{may, done, leaves_view, taken}, Program.Program, Turn.{part_of, is_beat, after}}
use Rattle.dr_program.specs.{Form.{HasForm, CanBegin, IsOf}, Reading.{Shared, in_view, kept_word, word_of, world}}
use Rattle.dr_program.{specs.{Presence.present_at, declared.setup.Setup.Setup}, proofs.Parts.{crashed, is_take}}
use Rattle.dr_program.specs.Replica.{Replica, may_propose, may_accept, value_due, is_value, is_wedged, may_append, may_vote, is_other, count, ready_item, may_receive, LeftView, entered, me, greatest, is_inside, acted, received, looked, is_others, item, sent, is_fault, promise, members_in_view, vote_of, pushed, gained, put, next_index, finished_history, left_now, joined, nothing_left}
use Rattle.dr_program.specs.Running.{Running}
use Rattle.dr_program.specs.Steps.{NoWordFell, allows_inside, allows, is_outside_step, has_cell, is_free, may_take, IsAppend, stepped, stored, stored_letters, given_to}
use Rattle.dr_program.specs.declared.place.Part.TheVariants as parts

alike : (r : Replica) (end : End) → AreAlike r.roster (seen (crashed r end).rows) (seen r.rows)
alike r end = beats_alike r.roster r.rows _

proposes_still : (r : Replica) (end : End) → may_propose (crashed r end) ≡ may_propose r
proposes_still r end = propose_alike r.roster (seen (crashed r end).rows) (seen r.rows) r.members r.suspects
    r.rows.me (alike r end)

accepts_still : (r : Replica) (end : End) → may_accept (crashed r end) ≡ may_accept r
accepts_still r end = accept_alike r.roster (seen (crashed r end).rows) (seen r.rows) r.members r.suspects
    r.rows.me (alike r end)

pub value_still : (r : Replica) (end : End) → value_due (crashed r end) ≡ value_due r
value_still r end = (λ z. if proposes_still r end z then proposal_alike r.roster
    (seen (crashed r end).rows) (seen r.rows) r.members r.suspects (alike r end) z else choices.shown_value r.roster
    (seen (crashed r end).rows) r.members (accept_promise ((alike r end).leavers r.rows.me z)))
    ∙ ap (λ (x : Value). if may_propose r then choices.proposal r.roster (seen r.rows) r.members r.suspects else x)
    (shown_alike r.roster (seen (crashed r end).rows)
    (seen r.rows) r.members (accept_promise (seen r.rows r.rows.me (leavers_column r.roster))) (alike r end))

pub votes_still : (r : Replica) (end : End)
    → may_vote (crashed r end) (value_due (crashed r end)) ≡ may_vote r (value_due r)
votes_still r end = λ z. is_wedged r && (not (is_some r.committed) && (not (may_append r)
    && ((proposes_still r end z || accepts_still r end z) && is_value (value_still r end z) (value_still r end z))))

-- what a replica is asked to look along a row, at the words of these columns
pub record MayLook (r : Replica) (i : ℕ) (table : List ℕ) (first from m : ℕ) : Type 0 where
  pub form : HasForm r
  pub other : is_other r i ≡ true
  pub unsuspected : has r.suspects i ≡ false
  pub within : from + m ≤ columns_of r.roster r.window
  pub in_form : (c : ℕ) → from ≤ c → c < from + m → IsInForm r.roster c (slice_index table (first + c))
  pub grown : (c : ℕ) → from ≤ c → c < from + m
      → HasGrown r.roster c (seen r.rows i c) (slice_index table (first + c))

-- the replica after the looks
abbrev pub looked_on : Replica → ℕ → List ℕ → ℕ → ℕ → ℕ → Replica
looked_on r i table first from m = record r { rows = looked_along i table first r.rows from m }

-- and no word falls
pub pushes_grow : (r : Replica) (j first : ℕ) (s : Pushes) (from m : ℕ) → s.words ≡ r.rows
    → NoWordFell r (record r { rows = (pushed_along j first s from m).words })
pushes_grow r j first s from m is = subst (λ (w : Words). Grown r.roster r.rows.words w.words r.rows.frozen w.frozen)
    (sym (pushed_stays j first s from m))
    (subst (λ (w : Words). Grown r.roster r.rows.words w.words r.rows.frozen w.frozen) (sym is)
    (Grown_refl r.roster r.rows.words r.rows.frozen))

pub vote_told : (r : Replica) (v : Value) → may_vote r (value_due r) ≡ true → may_vote r v ≡ is_value v (value_due r)
vote_told r v e =
    let a = and_parts (is_wedged r) _ e in
    let b = and_parts (not (is_some r.committed)) _ a.1 in
    let c = and_parts (not (may_append r)) _ b.1 in
    let d = and_parts (may_propose r || may_accept r) (is_value (value_due r) (value_due r)) c.1 in
    all_true (is_wedged r) (not (is_some r.committed)) (not (may_append r)) (may_propose r || may_accept r)
    (is_value v (value_due r)) a.0 b.0 c.0 d.0

-- the words that the next item of a sender needs are there, where it may be taken
pub item_waits : (r : Replica) (s : ℕ) → may_receive r s ≡ true
    → IsReady (count r s) (slot_of r.window r.rows s (count r s))
item_waits r s may =
    let other = and_parts (is_other r s) _ (and_parts (not (is_wedged r)) _ may).1 in
    (ready_test (count r s) (slot_of r.window r.rows s (count r s))).0
    (and_parts (is_some (ready_item r s)) _ other.1).0

-- what holds of the value that the fields mean
pub form_to : (new q : Replica) → new ≡ q → HasForm q → HasForm new
form_to new q to form = subst HasForm (sym to) form

-- words that grew in the views have grown in the replicas
pub grown_to : (old new v q : Replica) → v ≡ old → new ≡ q
    → Grown v.roster v.rows.words q.rows.words v.rows.frozen q.rows.frozen
    → Grown old.roster old.rows.words new.rows.words old.rows.frozen new.rows.frozen
grown_to old new v q from to grown =
    subst (λ (o : Replica). Grown o.roster o.rows.words new.rows.words o.rows.frozen new.rows.frozen) from
    (subst (λ (n : Replica). Grown v.roster v.rows.words n.rows.words v.rows.frozen n.rows.frozen) (sym to) grown)

-- what the replica may do, its view may do
pub may_of : (f : Replica → Bool) (v now : Replica) → v ≡ now → f now ≡ true → f v ≡ true
may_of f v now same may = ap f same ∙ may

-- in a later view that a replica goes on in with its form there is somebody, each of the roster, and itself
pub entered_some : (r : Replica) (view members : ℕ) (entries : List Entry) (kept : List LeftView) → 0 < view
    → HasForm (entered r view members entries kept) → (0 < length (members_of members)) × IsInRoster r.roster members
entered_some r view members entries kept later f = (
  some_member members (me r) (omega (arith, f.rows.present, f.rows.few)) (by (has members (me r)) refl),
  f.roster,
)
  where
    by : (b : Bool) → has members (me r) ≡ b → has members (me r) ≡ true
    by true e = e
    by false e = absurd (omega (arith, later, (f.outside e).first))

-- the ranges of what is taken
pub few_messages_each : (s : Setup) → CanBegin s → greatest s.totals ≤ 4096
few_messages_each s can = greatest_within s.totals 0 4096 (omega arith) can.few

-- the history of a member that can begin, with all messages and a View for each bank, has fewer
-- than 2 ^ 32 entries
pub small_room : (s : Setup) (most : ℕ) → CanBegin s → most ≡ greatest s.totals
    → length s.start + s.shape.banks + most * s.shape.members + 1 < 2 ^ 32
small_room s most can is =
    let few : most ≤ 4096 = omega (arith, is, few_messages_each s can) in
    let product = product_within most s.shape.members few s.shape.most_members in
    omega (arith, product, can.start, can.banks, few_members s.late, s.shape.most_members)

-- no number is above the greatest
pub greatest_most : (xs : List ℕ) (i : ℕ) → get_or xs i 0 ≤ greatest xs
greatest_most xs i = elim (cases_lt i (length xs)) [
  | inl within ↦ count_max xs 0 i within
  | inr past ↦ omega (arith, get_or_past xs i 0 past)
]

-- a replica in its view may look at this cell
abbrev pub may_look : Replica → ℕ → ℕ → Bool
may_look r i c = allows_inside r (steps.Look i c)

-- which no member may
pub itself : (r : Replica) → may r (acts.Suspect (me r)) ≡ false
itself r = by (may r (acts.Suspect (me r))) refl
  where
    by : (b : Bool) → may r (acts.Suspect (me r)) ≡ b → may r (acts.Suspect (me r)) ≡ false
    by false e = e
    by true e =
        let apart = (and_parts (not (me r == me r)) _ (and_parts (nat_lt (me r) r.roster) _ e).1).0 in
        absurd (grind (arith, nat_tests, apart))

-- a member in its view may do what it may do at all
pub all_allowed : (r : Replica) (s : Step) → is_inside r ≡ true → allows r s ≡ allows_inside r s
all_allowed r s inside =
    ap (λ b. (is_outside_step s || b) && allows_inside r s) inside ∙ by (is_outside_step s) (allows_inside r s)
  where
    by : (b x : Bool) → ((b || true) && x) ≡ x
    by true x = refl
    by false x = refl

pub cell_test : (replica : Replica) (i c : ℕ) → i < replica.roster → is_other replica i ≡ true
    → c < columns_of replica.roster replica.window → has_cell replica i c ≡ true
cell_test replica i c row other column = all_three (nat_lt i replica.roster) (is_other replica i)
    (nat_lt c (columns_of replica.roster replica.window)) (grind (arith, nat_tests, row)) other
    (grind (arith, nat_tests, column))

-- an act's own words leave the slots of the others
pub slots_stay : (r : Replica) (s n : ℕ) → s ≢ me r
    → slot_of r.window (acted (received r s)).rows s n ≡ slot_of r.window r.rows s n
slots_stay r s n other = λ z part. words (slot_column r.rows.members r.window n + part) z
  where
    one : Words
    one = with_own r.rows (recv_column s) (recv_word (count r s + 1) false)

    words : (c : ℕ) → seen (acted (received r s)).rows s c ≡ seen r.rows s c
    words c = seen_with (received r s).rows BEAT_COLUMN (one_more 64 r.acts) s c other
        ∙ (seen_with one RECEIVED_COLUMN
        (front_of (map (slice_index (slice_set r.counts s (count r s + 1))) (members_of r.members))) s c other
        ∙ seen_with r.rows (recv_column s) (recv_word (count r s + 1) false) s c other)

-- what its replica asks of a look at a word in a row and a column
pub record IsLookOf (r : Replica) (i c word : ℕ) : Type 0 where
  pub row : i < r.roster
  pub other : is_other r i ≡ true
  pub may : may_look r i c ≡ true
  pub in_form : IsInForm r.roster c word
  pub grown : HasGrown r.roster c (seen r.rows i c) word

-- the row of a look, or of a push, is one of its roster, behind it as well
pub look_row_stays : (r q : Replica) (i c word : ℕ) → IsLookOf r i c word → q ≡ looked r i c word → i < q.roster
look_row_stays r q i c word is after = subst (λ (x : Replica). i < x.roster) (sym after) is.row

-- no vote waits before one goes on the log
pub none_waits : (o : Option Vote) (me : ℕ) → ((o ≡ None) ⊎ ((parts.Vote ≡ parts.Do acts.Propose)
    ⊎ ((parts.Vote ≡ parts.Do acts.Accept) × (is_others me o ≡ true)))) → o ≡ None
none_waits o me (inl none) = none
none_waits o me (inr (inl e)) = absurd (cc e)
none_waits o me (inr (inr t)) = absurd (cc t.0)

-- what the members share as a group opens: a table of zeros, and no letters
abbrev pub shared_at : Group → Shared
shared_at g = record {
  words = replicate (words_of (roster g) g.window (banks g)) 0;
  letters = replicate (roster g) None;
}

-- a step that may be taken is allowed
pub allowed : (r : Replica) (s : Step) → may_take r s ≡ true → allows r s ≡ true
allowed r s may = (and_parts (is_free r s) (allows r s) (and_parts (not (is_some r.end)) _ may).1).1

-- the place that is read at a number
pub place_at : (rs : List (Option Replica)) (m n : ℕ) (o : Option Replica) → n ≡ length rs
    → m < n → o ≡ get_or rs m o → present_at rs m ≡ o
place_at rs m n o long within read = sym (get_or_read_under rs m n o None read within long)

-- and it ends nobody
pub unended_append : (word : ℕ) (r : Replica) (s : Step) → IsAppend s → (stepped word r s).end ≡ r.end
unended_append word r Append is = refl
unended_append word r (LogVote v) is = refl
unended_append word r s is = absurd is

pub step_later : (word : ℕ) (r : Replica) (s : Step) → r.view ≤ (stepped word r s).view
step_later word r s = grind arith

-- a cell that a step names: another member's row, and a column
pub record IsCell (r : Replica) (i c : ℕ) : Type 0 where
  pub row : i < r.roster
  pub other : is_other r i ≡ true
  pub column : c < columns_of r.roster r.window

pub cell : (r : Replica) (i c : ℕ) → has_cell r i c ≡ true → IsCell r i c
cell r i c e =
    let two = and_parts (nat_lt i r.roster) (is_other r i && nat_lt c (columns_of r.roster r.window)) e in
    let three = and_parts (is_other r i) (nat_lt c (columns_of r.roster r.window)) two.1 in
    record {
      row = ltb-true i r.roster two.0;
      other = three.0;
      column = ltb-true c (columns_of r.roster r.window) three.1;
    }

pub kept_last : (xs : List LeftView) (y d : LeftView) → slice_index_or (xs ++ y ∷ []) (length xs) d ≡ y
kept_last [] y d = refl
kept_last (x ∷ xs) y d = kept_last xs y d

pub kept_other : (xs : List LeftView) (y d : LeftView) (v : ℕ) → v ≢ length xs
    → slice_index_or (xs ++ y ∷ []) v d ≡ slice_index_or xs v d
kept_other [] y d zero other = absurd (other refl)
kept_other [] y d (suc v) other = refl
kept_other (x ∷ xs) y d zero other = refl
kept_other (x ∷ xs) y d (suc v) other = kept_other xs y d v (λ e. other (ap suc e))

-- what a replica needs for an item more of s
pub record MayGain (g : Group) (r : Replica) (s : ℕ) : Type 0 where
  pub roster : r.roster ≡ roster g
  pub counts : length r.counts ≡ r.roster
  pub items : length r.items ≡ greatest r.totals * r.roster
  pub sender : s < r.roster
  pub few : count r s < greatest r.totals

-- it is wedged exactly where the world says that it suspects somebody
pub not_wedged : (r : Replica) → (not (is_wedged r) ≡ true) ↔ (r.suspects ≡ 0)
not_wedged r = (λ e. grind (arith, e), λ none. grind (arith, none))

-- the word of a row, as the replica has it
pub shown_word : (r : Replica) (m i c : ℕ) → me r ≡ m → (if i == m then in_view r r.view
    (own r.rows c) (kept_word r r.view c) else (if i == me r then 0 else seen r.rows i c)) ≡ seen r.rows i c
shown_word r m i c number = elim (cases_eq i m) [
  | inl same ↦ rw (same, same_number m, same_number r.view) (ap (λ k. seen r.rows k c) number)
  | inr other ↦ rw (other_number i m other, other_number i (me r) (λ e. other (e ∙ number))) refl
]

-- the world with the words of an item put, and its name
abbrev pub places : Group → World → ℕ → SentItem → Item → World
places g w m name item =
    let v = w.past.view m in
    let k = w.past.count m v m in record w {
      past = record w.past {
        own = at₂ w.past.own m v (row_with (w.past.own m v) (slot_column (roster g) g.window k) k (pieces item));
        sent = at₂ w.past.sent m v (w.past.sent m v ++ name ∷ []);
      };
    }

-- the table keeps its length
pub stored_length : (table : List ℕ) (q : Replica) (s : Step) → length (stored table q s) ≡ length table
stored_length table q s = grind (arith, length-set table)

pub posts_length : (letters : List (Option (List Entry))) (q : Replica) (s : Step)
    → length (stored_letters letters q s) ≡ length letters
posts_length letters q s = grind (arith, length-set letters)

-- the word of a cell
pub word_inside : (g : Group) (table : List ℕ) (v j i c : ℕ) → v < banks g → j < roster g → i < roster g
    → c < columns g → word_of g table v j i c ≡ slice_index table (word_index_of (roster g) g.window v j i c)
word_inside g table v j i c bank copy row column = elim (cell_inside (banks g) (roster g) (columns g) v j i c) [
  | inl inside ↦ rw inside.1 refl
  | inr out ↦ absurd (grind (arith, nat_tests, out, bank, copy, row, column))
]

pub fault_test : (end : End) → (is_fault end ≡ true) ↔ IsFault end
fault_test Crashed = (λ e. tt, λ f. refl)
fault_test DiskFault = (λ e. tt, λ f. refl)
fault_test (LogFull len) = (λ e. tt, λ f. refl)
fault_test (Spent turns) = (λ e. tt, λ f. refl)
fault_test end = (λ e. absurd (cc), λ f. absurd f)

-- a step gives somebody a letter, or leaves all letters
pub letters_then : (letters : List (Option (List Entry))) (r : Replica) (s : Step)
    → ((j : ℕ) × (s ≡ steps.Welcome j)) ⊎ ((given_to s ≡ None) × (stored_letters letters r s ≡ letters))
letters_then letters r (steps.Welcome j) = inl (j, refl)
letters_then letters r s = inr (refl, refl)

-- what is known of a member whose take is due
pub record IsTaking (r : Running) : Type 0 where
  pub at : is_take (part_of r.place) ≡ true
  pub idle : r.replica.pending ≡ None
  pub outside : is_inside r.replica ≡ false
  pub first : r.replica.view ≡ 0

-- no own word has fallen
pub record HasRisen (r q : Replica) : Type 0 where
  pub rise : (c : ℕ) → own r.rows c ≤ own q.rows c

-- where no word fell, the words have risen
pub risen : (r q : Replica) → me q ≡ me r → NoWordFell r q → HasRisen r q
risen r q same grown =
    record { rise = λ c. subst (λ (i : ℕ). own r.rows c ≤ seen q.rows i c) (sym same) (grown.words (me r) c).number }

-- an own word that was set before the stamp
pub stamped_own : (r : Replica) (c word : ℕ) → HasForm r → 0 < c → c < r.rows.columns
    → own (acted (record r { rows = with_own r.rows c word })).rows c ≡ word
stamped_own r c word form above within =
    with_word-column (with_own r.rows c word).words r.rows.me BEAT_COLUMN _ r.rows.me c
    (λ (e : c ≡ BEAT_COLUMN). absurd (omega arith))
    ∙ with_word-same r.rows.members r.rows.columns r.rows.words r.rows.me c word form.rows.rows
    form.rows.present within

-- the member that a replica has promised is of its roster
pub promise_small : (r : Replica) → HasForm r → promise r < 16
promise_small r form =
    let c : ℕ = leavers_column r.rows.members in
    let there : is_accept_of r.roster r.members c ≡ true = rw form.members (leavers_accept r.roster r.members) in
    omega (arith, (form.words r.rows.me c).promise (inl refl), form.accept c there, form.rows.few)

pub greatest_at : (totals : List ℕ) (i : ℕ) → slice_index totals i ≤ greatest totals
greatest_at totals i = elim (cases_lt i (length totals)) [
  | inl within ↦ count_max totals 0 i within
  | inr past ↦ omega (arith, get_or_past totals i 0 past)
]

pub word_arrives : (g : Group) (us : List World) (p : Program) (v j i c word : ℕ) → v < banks g → j < roster g
    → i < roster g → c < columns g → WasOwn us v i c word
    → HaveArrived us (world g p) (at₄ (word_of g p.table) v j i c
    (max (slice_index p.table (word_index_of (roster g) g.window v j i c)) word))
word_arrives g us p v j i c word bank to from cell was = record {
  source = at₄_case (λ b k n d z. MayArrive us (world g p) b n d z) (word_of g p.table)
      v j i c (max stood word) (λ b k n d. inr (k, refl)) (by (greater stood word));
  rises = at₄_case (λ b k n d z. word_of g p.table b k n d ≤ z) (word_of g p.table) v j i
      c (max stood word) (λ b k n d. le_refl (word_of g p.table b k n d))
      (subst (λ x. x ≤ max stood word) (sym stands) (no_less stood word));
}
  where
    stood : ℕ
    stood = slice_index p.table (word_index_of (roster g) g.window v j i c)

    stands : word_of g p.table v j i c ≡ stood
    stands = word_inside g p.table v j i c bank to from cell

    by : (max stood word ≡ stood) ⊎ (max stood word ≡ word) → MayArrive us (world g p) v i c (max stood word)
    by (inl old) = inr (j, stands ∙ sym old)
    by (inr new) = inl (subst (WasOwn us v i c) (sym new) was)

-- no member has come to more places than all messages have
pub places_few : (r : Replica) → HasForm r → front_of (map (slice_index r.counts) (members_in_view r)) ≤ 16 * 4096
places_few r form = omega (
  arith,
  front_within counts,
  mul-le-mul {n₁ = length counts} {m₁ = fold max 0 counts} {n₂ = 16} {m₂ = 4096} (omega (
    arith,
    length-map (members_in_view r) (slice_index r.counts),
    few_members r.members,
  )) (greatest_within counts 0 4096 (omega arith) each),
)
  where
    counts : List ℕ
    counts = map (slice_index r.counts) (members_in_view r)

    each : (i : ℕ) → slice_index (map (slice_index r.counts) (members_in_view r)) i ≤ 4096
    each i = by (cases_lt i (length (members_in_view r)))
      where
        by : (i < length (members_in_view r)) ⊎ (length (members_in_view r) ≤ i)
            → slice_index (map (slice_index r.counts) (members_in_view r)) i ≤ 4096
        by (inl within) = omega (
          arith,
          get_or-map (slice_index r.counts) (members_in_view r) i 0 0 within,
          form.bounded (slice_index (members_in_view r) i),
          form.few,
        )
        by (inr past) = omega (
          arith,
          get_or_past (map (slice_index r.counts) (members_in_view r)) i 0
              (omega (arith, past, length-map (members_in_view r) (slice_index r.counts))),
        )

-- the record is the next entry of the history, or a vote that the member may cast
abbrev pub MayCome : Replica → Record → Type 0
MayCome r (records.Entry e) = slice_get r.history r.logged ≡ Some e
MayCome r (records.Vote x) = (v : Value) × (may_vote r v ≡ true) × (x ≡ vote_of r v)
MayCome r (records.AgeVote x) = ⊥
MayCome r (records.Cut keep) = ⊥
MayCome r records.Upgrade = ⊥

-- the replicas of the members of a program
abbrev pub replicas_of : Program → List (Option Replica)
replicas_of p = map (option_map (λ (r : Running). r.replica)) p.members

-- a replica as if its member had no end
abbrev pub unended : Replica → Replica
unended r = record r { end = None }

pub unended_of : (g : Group) (m : ℕ) (r : Replica) → IsOf g m r → IsOf g m (unended r)
unended_of g m r of = record {
  present = of.present;
  number = of.number;
  age = of.age;
  members = of.members;
  window = of.window;
  banks = of.banks;
  messages = of.messages;
  totals = of.totals;
  late = of.late;
  room = of.room;
}

-- only a beat counts a turn
pub turns_stay : (g : Group) (w : World) (m : ℕ) (a : Act) → is_beat (parts.Do a) ≡ false
    → (effect_of g w m (steps.Do a)).turns m ≡ w.turns m
turns_stay g w m acts.Beat other = absurd (cc)
turns_stay g w m a other = refl

-- a push leaves whether the words of the columns behind it have changed
pub changed_behind : (replica q : Replica) (to column x : ℕ) → q ≡ pushed replica to column → column + 1 ≤ x
    → changed q.rows to x ≡ changed replica.rows to x
changed_behind replica q to column x after above = ap (λ (r : Replica). changed r.rows to x) after
    ∙ ap (λ word. not (own replica.rows x == word)) (with_word-column replica.rows.sent to column
    (own replica.rows column) to x (λ e. omega (arith, above, e)))

-- the bank in which the place of this index is
abbrev pub bank_of : Replica → ℕ → ℕ
bank_of r index = index / columns_of r.roster r.window / r.roster / r.roster

-- where the member's row begins in the copy of another, in a bank
abbrev pub row_begins : Replica → ℕ → ℕ → ℕ
row_begins r bank to = word_index_of r.roster r.window bank to (me r) 0

-- no place before another is in a later bank
pub bank_before : (r : Replica) (k i : ℕ) → 0 < r.roster → k ≤ i → bank_of r k ≤ bank_of r i
bank_before r k i some less = falls_no _ _ r.roster some (falls_no _ _ r.roster some
    (falls_no k i (columns_of r.roster r.window) (omega arith) less))

-- each place of the table is in a bank
pub bank_within : (r : Replica) (k : ℕ) → 0 < r.roster → k < words_of r.roster r.window r.banks → bank_of r k < r.banks
bank_within r k some within = div_below _ r.roster r.banks some (div_below _ r.roster (r.banks * r.roster) some
    (div_below k (columns_of r.roster r.window) (r.banks * r.roster * r.roster) (omega arith) within))

-- the row ends in the table
pub row_ends : (r : Replica) (bank to : ℕ) → bank < r.banks → to < r.roster → me r < r.roster
    → row_begins r bank to + columns_of r.roster r.window ≤ words_of r.roster r.window r.banks
row_ends r bank to within copy row = omega (
  arith,
  word_index_within r.roster r.window r.banks bank to (me r) (columns_of r.roster r.window - 1) within copy row
      (omega arith),
)

pub apart : (r : Replica) (i : ℕ) → is_other r i ≡ true → i ≢ me r
apart r i other e =
    absurd (cc (sym (ap not (eq-eqb i (me r) e)) ∙ (and_parts (has r.members i) (not (i == me r)) other).1))

-- in the view in which it was, q has seen of a word what r has, or nothing yet
abbrev pub SawAlike : Replica → Replica → ℕ → ℕ → Type 0
SawAlike r q i c = ((q.view ≡ r.view) × (seen q.rows i c ≡ seen r.rows i c)) ⊎ (seen q.rows i c ≡ 0)

gained_saw : (r : Replica) (s : ℕ) (item : Item) (i c : ℕ) → i ≢ me r
    → seen (gained r s item).rows i c ≡ seen r.rows i c
gained_saw r s item i c other =
    seen_with (with_own r.rows (recv_column s) (recv_word (count r s + 1) false)) RECEIVED_COLUMN
    (front_of (map (slice_index (slice_set r.counts s (count r s + 1))) (members_in_view r))) i c other
    ∙ seen_with r.rows (recv_column s) (recv_word (count r s + 1) false) i c other

put_saw : (r : Replica) (name : SentItem) (item : Item) (i c : ℕ) → i ≢ me r
    → seen (put r name item).rows i c ≡ seen r.rows i c
put_saw r name item i c other = gained_saw (record r {
  rows = with_item r.window r.rows (count r (me r)) item;
  sent = r.sent ++ name ∷ [];
}) (me r) item i c other ∙ ap (λ row. slice_index row c) (get_or-set_other r.rows.words (me r) i
    (written (row_of r.rows.words (me r)) (slot_column r.rows.members r.window (count r (me r)))
    (map (ring_word (count r (me r))) (pieces item))) [] other)

done_saw : (r : Replica) (a : Act) (i c : ℕ) → i ≢ me r → leaves_view a ≡ false
    → seen (done r a).rows i c ≡ seen r.rows i c
done_saw r (acts.Receive s) i c other stays = gained_saw r s (unwrap_or (ready_item r s) Null) i c other
done_saw r acts.Send i c other stays =
    put_saw r (Index (next_index r)) (Text (slice_index_or r.messages (next_index r) [])) i c other
done_saw r acts.Null i c other stays = put_saw r sent_items.Null Null i c other
done_saw r acts.Publish i c other stays = seen_with r.rows LOGGED_COLUMN r.logged i c other
done_saw r acts.Mark i c other stays = seen_with r.rows DONE_COLUMN 1 i c other
done_saw r (acts.Suspect j) i c other stays = seen_rewritten r.rows (wedged_word r.roster r.members
    (with_member r.suspects j) (least_of (without r.members (with_member r.suspects j)))) i c other
done_saw r acts.Finish i c other stays = absurd (cc)
done_saw r acts.Propose i c other stays =
    let vote = unwrap_or r.pending no_vote in
    seen_rewritten r.rows (accepted_word r.roster r.members (vote.ballot + 1) vote.value) i c other
done_saw r acts.Accept i c other stays =
    let vote = unwrap_or r.pending no_vote in
    seen_rewritten r.rows (accepted_word r.roster r.members (vote.ballot + 1) vote.value) i c other
done_saw r a i c other stays = refl

entered_saw : (r : Replica) (view members : ℕ) (history : List Entry) (left : List LeftView) (i c : ℕ) → i ≢ me r
    → seen (entered r view members history left).rows i c ≡ 0
entered_saw r view members history left i c other =
    seen_with (begun r.rows.members r.rows.columns (me r)) LOGGED_COLUMN r.logged i c other
    ∙ (IsFresh-begun r.rows.members r.rows.columns (me r)).zero i c

taken_saw : (r : Replica) (a : Act) (i c : ℕ) → i ≢ me r → SawAlike r (taken r a) i c
taken_saw r acts.Finish i c other =
    let x = unwrap_or r.committed no_value in
    inr (entered_saw (acted r) (r.view + 1) (next_members r.members x.leavers) (finished_history (acted r) x)
    (r.left ++ left_now (acted r) ∷ []) i c other)
taken_saw r a i c other = inl (
  refl,
  seen_with (done r a).rows BEAT_COLUMN (one_more 64 (done r a).acts) i c other ∙ done_saw r a i c other refl,
)

pub step_saw : (word : ℕ) (r : Replica) (s : Step) (i c : ℕ) → i ≢ me r → is_looking s ≡ false
    → SawAlike r (stepped word r s) i c
step_saw word r (Do a) i c other plain = taken_saw r a i c other
step_saw word r (Look j d) i c other plain = absurd (cc)
step_saw word r s i c other plain = inl (refl, refl)

pub joined_saw : (r : Replica) (letter : List Entry) (i c : ℕ) → i ≢ me r → SawAlike r (joined r letter) i c
joined_saw r letter i c other =
    let view = last_view (0, 0) letter in
    inr (entered_saw r view.0 view.1 letter (left_now r ∷ replicate (view.0 - 1) nothing_left) i c other)

-- in the view in which it was, q has pushed what r has, or it is in a later one, and has pushed nothing
abbrev pub SentAlike : Replica → Replica → Type 0
SentAlike r q = ((q.view ≡ r.view) × ((j c : ℕ) → last_pushed q.rows j c ≡ last_pushed r.rows j c))
    ⊎ ((r.view < q.view) × ((j c : ℕ) → last_pushed q.rows j c ≡ 0))

taken_sent : (r : Replica) (a : Act) → SentAlike r (taken r a)
taken_sent r acts.Finish = inr (omega arith, λ j c. begun_sent r.rows.members r.rows.columns (me r) j c)
taken_sent r a = inl (refl, λ j c. refl)

pub step_sent : (word : ℕ) (r : Replica) (s : Step) → is_pushing s ≡ false → SentAlike r (stepped word r s)
step_sent word r (Do a) plain = taken_sent r a
step_sent word r (Push j c) plain = absurd (cc)
step_sent word r s plain = inl (refl, λ j c. refl)

pub joined_sent : (r : Replica) (letter : List Entry) → r.view < (last_view (0, 0) letter).0
    → SentAlike r (joined r letter)
joined_sent r letter later = inr (later, λ j c. begun_sent r.rows.members r.rows.columns (me r) j c)
