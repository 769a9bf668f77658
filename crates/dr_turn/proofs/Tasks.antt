-- The tasks of a replica: which of its deeds lowers each, and that no deed raises any.
use Rattle.std.specs.Prelude.{None, Option, Some, is_some, unwrap_or}
use Rattle.std.proofs.Common.{◌≡◌, refl, ap, ◌∙◌, ℕ, suc, ◌+◌, ◌-◌, ◌*◌, ◌^◌, ◌<◌, ◌≤◌, ◌==◌, nat_lt, not, ◌&&◌, true, false, List, [], ◌∷◌, ◌++◌, replicate, length, le_refl, slice_index, arith}
use Rattle.std.proofs.{Math.Nat.{mul_comm, mul-le-mul, mul-suc}, lemmas.Bool.{and_parts, ltb-true, Decides.nat_tests}}
use Rattle.std.proofs.lemmas.List.{get_or-set_same, Folds.sum_by-replicate}
use Rattle.dr_entry.specs.declared.{end.SentItem.SentItem, entry.{Entry.Entry, Item.Item}}
use Rattle.dr_entry.{specs.declared.record.{Value.Value, Vote.Vote}, proofs.ListPlaces.{items_less, items_no_more}}
use Rattle.dr_entry.proofs.NumberFacts.{minus_less, minus_le}
use Rattle.dr_history.specs.{History.last_view, Members.has}
use Rattle.dr_machine.specs.{World.{no_value, no_vote}, declared.step.Step.{Step, TheVariants.{Do, Welcome}}}
use Rattle.dr_words.{specs.Masks.with_member, proofs.Masks.{with_member_greater, with_member_small}}
use Rattle.dr_words.specs.declared.column.TheConstants.{RECEIVED_COLUMN, LOGGED_COLUMN, DONE_COLUMN}
use Rattle.dr_machine.specs.declared.event.Act.TheVariants as acts
use Rattle.dr_rows.specs.Words.{own}
use Rattle.dr_program.{specs.Form.HasForm, proofs.{Opening.published_there, Parts.ends_view}}
use Rattle.dr_program.specs.Replica.{LeftView, Replica, me, entered, finished_history, gave, left_now, nothing_left, greatest, is_welcomer, is_wedged, joined, may_give, least_seen, may_deliver, may_mark, may_publish, may_receive, may_report, may_suspect, acted, received, put, delivered, published, reported, marked, suspected, accepted, decided, finished, is_own, is_others, may_commit}
use Rattle.dr_program.{specs.Steps.{allows_inside, stepped}, proofs.{Least.least_fits, OpeningForm.suspects_small}}
use Rattle.dr_program.proofs.{Accepting.{own_waits, others_wait}, Replicas.{stamped_own, HasRisen, promise_small}}
use Rattle.dr_turn.specs.Work.{ballots_left, commit_left, items_left, letters_left, open_count, places_left, log_left, refill, reports_left, mark_left, sum_of, trust_left, tasks, views_left, work}
use Rattle.dr_turn.proofs.Fewer.{NoneRises}

-- ---- items

-- a received item leaves fewer items to come
pub received_less : (r : Replica) (s : ℕ) → HasForm r → (nat_lt s r.roster && may_receive r s) ≡ true
    → HasForm (acted (received r s)) → items_left (acted (received r s)) < items_left r
unfolding items_left
received_less r s f is form = items_less (greatest r.totals) r.counts s within below
  where
    within : s < length r.counts
    within = omega (arith, f.counts, ltb-true s r.roster (and_parts (nat_lt s r.roster) (may_receive r s) is).0)

    below : slice_index r.counts s < greatest r.totals
    below = omega (arith, form.bounded s, get_or-set_same r.counts s (slice_index r.counts s + 1) 0 within)

-- an item that is put leaves fewer items to come
pub put_less : (r : Replica) (name : SentItem) (item : Item) → HasForm r → HasForm (acted (put r name item))
    → items_left (acted (put r name item)) < items_left r
unfolding items_left
put_less r name item f form = items_less (greatest r.totals) r.counts (me r) within below
  where
    within : me r < length r.counts
    within = omega (arith, f.counts, f.members, f.rows.present)

    below : slice_index r.counts (me r) < greatest r.totals
    below = omega (
      arith,
      form.bounded (me r),
      get_or-set_same r.counts (me r) (slice_index r.counts (me r) + 1) 0 within,
    )

items_keep : (word : ℕ) (r : Replica) (s : Step) → ends_view s ≡ false → items_left (stepped word r s) ≤ items_left r
unfolding items_left
items_keep word r s stays = grind (arith, stays, items_no_more (greatest r.totals) r.counts)

-- ---- places

-- a delivery leaves fewer places to deliver
pub delivered_less : (r : Replica) → may_deliver r ≡ true → places_left (acted (delivered r)) < places_left r
unfolding places_left
delivered_less r is =
    let below = ltb-true r.next (least_seen r RECEIVED_COLUMN)
    (and_parts (nat_lt r.next (least_seen r RECEIVED_COLUMN)) _ (and_parts (not (is_wedged r)) _ is).1).0 in
    minus_less (2 ^ 64) r.next (r.next + 1) (omega arith) (omega (arith, below, least_fits r RECEIVED_COLUMN))

places_keep : (word : ℕ) (r : Replica) (s : Step) → ends_view s ≡ false → allows_inside r s ≡ true
    → places_left (stepped word r s) ≤ places_left r
unfolding places_left
places_keep word r s stays is = grind (arith, stays, is, delivered_less r)

-- ---- the log

-- publishing leaves the log's work smaller by two at least
pub published_less : (r : Replica) → HasForm r → may_publish r ≡ true
    → log_left (acted (published r)) + 2 ≤ log_left r
unfolding log_left
published_less r form is = omega (arith, now, ltb-true (own r.rows LOGGED_COLUMN) r.logged is)
  where
    now : own (acted (published r)).rows LOGGED_COLUMN ≡ r.logged
    now = stamped_own r LOGGED_COLUMN r.logged form (omega arith) (omega (arith, form.columns))

log_keeps : (word : ℕ) (r : Replica) (s : Step) → HasForm r → allows_inside r s ≡ true
    → HasRisen r (stepped word r s) → log_left (stepped word r s) ≤ log_left r
unfolding log_left
log_keeps word r s form is rise =
    grind (arith, is, ltb-true r.logged (length r.history), form.room, rise.rise LOGGED_COLUMN)

-- ---- reports

-- a report leaves fewer entries to report
pub reported_less : (r : Replica) → may_report r ≡ true → reports_left (acted (reported r)) < reports_left r
unfolding reports_left
reported_less r is = minus_less (2 ^ 64) r.durable (least_seen r LOGGED_COLUMN)
    (ltb-true r.durable (least_seen r LOGGED_COLUMN) is) (omega (arith, least_fits r LOGGED_COLUMN))

reports_keep : (word : ℕ) (r : Replica) (s : Step) → allows_inside r s ≡ true
    → reports_left (stepped word r s) ≤ reports_left r
unfolding reports_left
reports_keep word r s is = grind (arith, is, reported_less r)

-- ---- the mark

-- after marking, the mark is no more to set
pub marked_less : (r : Replica) → HasForm r → may_mark r ≡ true → mark_left (acted (marked r)) < mark_left r
unfolding mark_left
marked_less r form is = omega (
  arith,
  now,
  unmarked (and_parts (own r.rows DONE_COLUMN == 0) _ (and_parts (not (is_wedged r)) _ is).1).0,
)
  where
    now : own (acted (marked r)).rows DONE_COLUMN ≡ 1
    now = stamped_own r DONE_COLUMN 1 form (omega arith) (omega (arith, form.columns))

    unmarked : (own r.rows DONE_COLUMN == 0) ≡ true → own r.rows DONE_COLUMN ≡ 0
    unmarked e = grind (arith, nat_tests)

mark_keeps : (word : ℕ) (r : Replica) (s : Step) → HasRisen r (stepped word r s)
    → mark_left (stepped word r s) ≤ mark_left r
unfolding mark_left
mark_keeps word r s rise = minus_le 1 _ _ (rise.rise DONE_COLUMN)

-- ---- trust

-- a suspicion leaves fewer members to suspect
pub suspected_less : (r : Replica) (j : ℕ) → HasForm r → may_suspect r j ≡ true
    → trust_left (acted (suspected r j)) < trust_left r
unfolding trust_left
suspected_less r j form is = minus_less (2 ^ 16) r.suspects (with_member r.suspects j)
    (with_member_greater r.suspects j (suspects_small r form) few (grind (
      arith,
      (and_parts _ (not (has r.suspects j)) (and_parts (not (j == me r)) _ (and_parts (nat_lt j r.roster) _ is).1).1).1,
    ))) (omega (arith, with_member_small r.suspects j))
  where
    few : j < 16
    few = omega (arith, ltb-true j r.roster (and_parts (nat_lt j r.roster) _ is).0, form.rows.few, form.members)

trust_keeps : (word : ℕ) (r : Replica) (s : Step) → ends_view s ≡ false → HasForm r → allows_inside r s ≡ true
    → trust_left (stepped word r s) ≤ trust_left r
unfolding trust_left
trust_keeps word r s stays form is = grind (arith, stays, is, form, suspected_less r)

-- ---- votes

-- an acceptance leaves fewer ballots to vote by
accepted_from : (r : Replica) (x : Vote) → HasForm r → r.pending ≡ Some x
    → ballots_left (acted (accepted r)) < ballots_left r
unfolding ballots_left
accepted_from r x form e =
    let due = form.waits x e in
    let tag : (accepted r).tag ≡ x.ballot + 1 = ap (λ o. (unwrap_or o no_vote).ballot + 1) e in
    omega (arith, tag, due.ballot, due.above, promise_small r form)

pub proposed_less : (r : Replica) → HasForm r → is_own (me r) r.pending ≡ true
    → ballots_left (acted (accepted r)) < ballots_left r
proposed_less r form is = let t = own_waits (me r) r.pending is in accepted_from r t.0 form t.1

pub accepted_less : (r : Replica) → HasForm r → is_others (me r) r.pending ≡ true
    → ballots_left (acted (accepted r)) < ballots_left r
accepted_less r form is = let t = others_wait (me r) r.pending is in accepted_from r t.0 form t.1

ballots_keep : (word : ℕ) (r : Replica) (s : Step) → ends_view s ≡ false → HasForm r
    → allows_inside r s ≡ true → ballots_left (stepped word r s) ≤ ballots_left r
unfolding ballots_left
ballots_keep word r (Do acts.Finish) stays form is = absurd (cc stays)
ballots_keep word r (Do acts.Propose) stays form is = omega (arith, proposed_less r form is)
ballots_keep word r (Do acts.Accept) stays form is = omega (arith, accepted_less r form is)
ballots_keep word r (Do a) stays form is = le_refl _
ballots_keep word r s stays form is = le_refl _

-- a commit leaves none to come
open_one : (o : Option Value) → not (is_some o) ≡ true → open_count o ≡ 1
open_one None e = refl
open_one (Some v) e = absurd (cc e)

pub decided_less : (r : Replica) → may_commit r ≡ true → commit_left (acted (decided r)) < commit_left r
unfolding commit_left
decided_less r is =
    let one = open_one r.committed (and_parts (not (is_some r.committed)) _ (and_parts (is_wedged r) _ is).1).0 in
    omega (arith, one)

commit_keeps : (word : ℕ) (r : Replica) (s : Step) → ends_view s ≡ false → allows_inside r s ≡ true
    → commit_left (stepped word r s) ≤ commit_left r
unfolding commit_left
commit_keeps word r s stays is = grind (arith, stays, is, decided_less r)

-- ---- letters

-- a letter that is given leaves fewer to give
pub gave_less : (r : Replica) (j : ℕ) → HasForm r → may_give r j ≡ true → letters_left (gave r j) < letters_left r
unfolding letters_left
gave_less r j form is = minus_less (2 ^ 16) r.given (with_member r.given j)
    (with_member_greater r.given j form.given few (grind (arith, new))) (omega (arith, with_member_small r.given j))
  where
    within : nat_lt j r.roster ≡ true
    within = (and_parts (nat_lt j r.roster) _ is).0

    new : not (has r.given j) ≡ true
    new = (and_parts (not (has r.came_from j)) _ (and_parts (has r.members j) _ (and_parts (is_welcomer r) _
        (and_parts (nat_lt j r.roster) _ is).1).1).1).1

    few : j < 16
    few = omega (arith, ltb-true j r.roster within, form.rows.few, form.members)

letters_keep : (word : ℕ) (r : Replica) (s : Step) → ends_view s ≡ false → HasForm r
    → allows_inside r s ≡ true → letters_left (stepped word r s) ≤ letters_left r
unfolding letters_left
letters_keep word r (Do acts.Finish) stays form is = absurd (cc stays)
letters_keep word r (Do acts.Beat) stays form is = le_refl _
letters_keep word r (Do a) stays form is = le_refl _
letters_keep word r (Welcome j) stays form is = omega (arith, gave_less r j form is)
letters_keep word r s stays form is = le_refl _

-- ---- all of them

-- no step in a view raises any of the tasks
pub none_rises : (word : ℕ) (r : Replica) (s : Step) → ends_view s ≡ false → HasForm r → allows_inside r s ≡ true
    → HasForm (stepped word r s) → HasRisen r (stepped word r s) → NoneRises r (stepped word r s) tasks
none_rises word r s stays f is form rise = (
  items_keep word r s stays,
  (
    places_keep word r s stays is,
    (
      log_keeps word r s f is rise,
      (
        reports_keep word r s is,
        (
          mark_keeps word r s rise,
          (
            trust_keeps word r s stays f is,
            (
              ballots_keep word r s stays f is,
              (commit_keeps word r s stays is, (letters_keep word r s stays f is, tt)),
            ),
          ),
        ),
      ),
    ),
  ),
)

-- ---- the views

pub views_keep : (word : ℕ) (r : Replica) (s : Step) → ends_view s ≡ false
    → views_left (stepped word r s) ≡ views_left r
unfolding views_left refill
views_keep word r s stays = grind (arith, stays)

-- a replica that is as this one, but for what it has put on its words
pub record IsAlike (r s : Replica) : Type 0 where
  pub banks : s.banks ≡ r.banks
  pub totals : s.totals ≡ r.totals
  pub roster : s.roster ≡ r.roster
  pub room : s.room ≡ r.room
  pub logged : s.logged ≡ r.logged
  pub durable : s.durable ≡ r.durable
  pub few : s.rows.members ≤ 16
  pub narrow : s.rows.columns ≤ 1024
  pub present : me s < s.rows.members
  pub inside : LOGGED_COLUMN < s.rows.columns

-- a later view is one less
one_view_less : (r s : Replica) (view members : ℕ) (history : List Entry) (kept : List LeftView) → IsAlike r s
    → r.view < r.banks → r.view < view → views_left (entered s view members history kept) + refill r ≤ views_left r
unfolding views_left refill
one_view_less r s view members history kept like l later =
    let most : ℕ = greatest r.totals * r.roster + 2 ^ 64 + 2 ^ 16 + 2 ^ 16 + 16 + 4 in
    let next : r.banks - r.view ≡ suc (r.banks - (r.view + 1)) = omega (arith, l) in
    let less : r.banks - view ≤ r.banks - (r.view + 1) = omega (arith, later) in
    rw (like.banks, like.totals, like.roster) (omega (
      arith,
      ap (λ n. most * n) next,
      mul-suc most (r.banks - (r.view + 1)),
      mul-le-mul (le_refl most) less,
    ))

items_anew : (s : Replica) (view members : ℕ) (history : List Entry) (kept : List LeftView)
    → items_left (entered s view members history kept) ≡ greatest s.totals * s.roster
unfolding items_left
items_anew s view members history kept =
    let all : greatest s.totals - 0 ≡ greatest s.totals = omega arith in
    sum_by-replicate (λ (count : ℕ). greatest s.totals - count) s.roster 0
    ∙ ap (λ k. s.roster * k) all ∙ mul_comm s.roster (greatest s.totals)

-- so less work is left behind the View of a later view
entered_less : (r s : Replica) (view members : ℕ) (history : List Entry) (kept : List LeftView) → HasForm r
    → IsAlike r s → r.view < view → work (entered s view members history kept) < work r
unfolding work sum_of refill places_left log_left reports_left mark_left trust_left ballots_left commit_left letters_left
entered_less r s view members history kept form like later = omega (
  arith,
  one_view_less r s view members history kept like form.bank later,
  items_anew s view members history kept,
  ap (λ xs. greatest xs * s.roster) like.totals,
  ap (λ n. greatest r.totals * n) like.roster,
  published_there s view members history kept like.few like.narrow like.present like.inside,
  like.room,
  like.logged,
  like.durable,
)

-- the end of a view leaves less work
pub finished_less : (r : Replica) → HasForm r → work (finished (acted r)) < work r
finished_less r form = entered_less r (acted r) (r.view + 1) _
    (finished_history (acted r) (unwrap_or r.committed no_value)) (r.left ++ left_now (acted r) ∷ []) form (record {
      banks = refl;
      totals = refl;
      roster = refl;
      room = refl;
      logged = refl;
      durable = refl;
      few = form.rows.few;
      narrow = form.rows.narrow;
      present = form.rows.present;
      inside = omega (arith, form.columns);
    }) (omega arith)

-- and so does a join
pub joined_less : (r : Replica) (letter : List Entry) → HasForm r → r.view < (last_view (0, 0) letter).0
    → work (joined r letter) < work r
joined_less r letter form later = entered_less r r (last_view (0, 0) letter).0 _ letter
    (left_now r ∷ replicate ((last_view (0, 0) letter).0 - 1) nothing_left) form (record {
      banks = refl;
      totals = refl;
      roster = refl;
      room = refl;
      logged = refl;
      durable = refl;
      few = form.rows.few;
      narrow = form.rows.narrow;
      present = form.rows.present;
      inside = omega (arith, form.columns);
    }) later
