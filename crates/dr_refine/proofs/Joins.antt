-- Letters: when a replica gives one, what that makes of the world, and what a replica makes of its own.
use Rattle.std.specs.Prelude.{Option, Some, nat_lt, slice_set, unwrap_or}
use Rattle.std.proofs.Common.{◌≡◌, ◌≢◌, refl, sym, ap, ◌∙◌, ◌↔◌, ℕ, ◌+◌, ◌-◌, ◌*◌, ◌<◌, ◌≤◌, ◌==◌, inl, inr, not, Bool, true, false, if◌then◌else◌, List, [], ◌∷◌, length, replicate, take, slice_index, slice_index_or, arith}
use Rattle.std.proofs.{Math.Path.fun_ext, lemmas.Bool.{and_from, and_parts, cases_eq, eq-eqb, eqb-true}}
use Rattle.std.proofs.lemmas.{Bool.Decides.nat_tests, List.{get_or_past, length-take-le, take-append-le}}
use Rattle.dr_entry.{specs.declared.entry.{Entry.Entry, Item.{Item, TheVariants.Null}}, proofs.BoolFacts.both_same}
use Rattle.dr_entry.proofs.{ListPlaces.copy_at, NumberFacts.{same_number, other_number}}
use Rattle.dr_history.specs.{History.{last_view, up_to_view}, Members.has, Order.messages_from}
use Rattle.dr_rows.specs.Words.{begun, own, with_own}
use Rattle.dr_words.specs.{Masks.{least_of, mask_of}, declared.column.TheConstants.LOGGED_COLUMN}
use Rattle.dr_words.proofs.Layouts.{first_seen}
use Rattle.dr_machine.specs.{Effects.{enters, joins, welcomes}, Group.{Group, roster}, Guards.CanWelcome, World.World}
use Rattle.dr_machine.specs.Writes.{at, at₂}
use Rattle.dr_faithful.proofs.Copies.{Fits}
use Rattle.dr_program.specs.{Presence.{present_at, with_present}, Reading.{Shared, kept_word, letters_of, world_of}}
use Rattle.dr_program.specs.Replica.{LeftView, Replica, me, count, gave, is_inside, is_welcomer, joined, left_now, may_give, nothing_left}
use Rattle.dr_program.proofs.{Holdings.{holding_of, held_of, replaced}, Opening.first_own}
use Rattle.dr_program.proofs.Joins.{stayed, welcomer_test, letters_written, give_after, give_changes, join_after, join_changes, kept_rest}
use Rattle.dr_refine.{specs.Programs.{IsLetterFor, IsMember}, proofs.Guards.{IsIdle, may_choose, members_are}}
use Rattle.dr_refine.proofs.Members.{fits}

-- ---- when it gives one

-- it gives a letter exactly where that may come
pub give_guard : (g : Group) (rs : List (Option Replica)) (table : Shared) (m : ℕ) (r : Replica) (j : ℕ)
    → IsMember g rs table m r → IsIdle r → (may_give r j ≡ true) ↔ CanWelcome g (world_of g rs table) m j
give_guard g rs table m r j is free = (forth, back)
  where
    w : World
    w = world_of g rs table

    members : w.members m ≡ r.members
    members = members_are g rs table m r is

    came_from : w.came_from m ≡ r.came_from
    came_from = ap (λ h. h.came_from) (held_of g rs table m r is.there)

    given : w.given m ≡ r.given
    given = ap (λ h. h.given) (held_of g rs table m r is.there)

    few : me r < 16
    few = omega (arith, is.form.number, is.of.members, is.group.most_members)

    flip : (b : Bool) → not b ≡ true → b ≡ false
    flip true e = absurd (cc e)
    flip false e = refl

    forth : may_give r j ≡ true → CanWelcome g w m j
    forth e =
        let a = and_parts (nat_lt j r.roster) _ e in
        let b = and_parts (is_welcomer r) _ a.1 in
        let two = and_parts (has r.came_from (me r)) (least_of (mask_of (stayed r)) == me r) b.0 in
        let c = and_parts (has r.members j) _ b.1 in
        let d = and_parts (not (has r.came_from j)) (not (has r.given j)) c.1 in
        record {
          may = may_choose g rs table m r is free;
          none = ap (λ k. has k j) given ∙ flip _ d.1;
          newcomer = ap (λ k. has k j) members ∙ c.0;
          new = ap (λ k. has k j) came_from ∙ flip _ d.0;
          welcomer = ap (λ k. has k m) came_from ∙ ap (has r.came_from) (sym is.of.number) ∙ two.0;
          least = λ i there member. least two i (sym (ap (λ k. has k i) came_from) ∙ there)
              (sym (ap (λ k. has k i) members) ∙ member);
        }
      where
        least : (has r.came_from (me r) ≡ true) × ((least_of (mask_of (stayed r)) == me r) ≡ true) → (i : ℕ)
            → has r.came_from i ≡ true → has r.members i ≡ true → m ≤ i
        least two i there member =
            let within : i < r.roster = is.form.roster i member in
            omega (
              arith,
              is.of.number,
              (welcomer_test r few free.2 two.0).0 (eqb-true _ _ two.1) i
                  (omega (arith, within, is.of.members, is.group.most_members)) there member,
            )

    back : CanWelcome g w m j → may_give r j ≡ true
    back can =
        let newcomer : has r.members j ≡ true = sym (ap (λ k. has k j) members) ∙ can.newcomer in
        let within : j < r.roster = is.form.roster j newcomer in
        let mine : has r.came_from (me r) ≡ true = ap (has r.came_from) is.of.number
        ∙ sym (ap (λ k. has k m) came_from) ∙ can.welcomer in
        let least : least_of (mask_of (stayed r)) ≡ me r = (welcomer_test r few free.2 mine).1
        (λ i small there member. omega (
          arith,
          is.of.number,
          can.least i (ap (λ k. has k i) came_from ∙ there) (ap (λ k. has k i) members ∙ member),
        )) in
        and_from (nat_lt j r.roster) _ (grind (arith, nat_tests, within))
        (and_from (is_welcomer r) _ (and_from (has r.came_from (me r)) _ mine (eq-eqb _ _ least))
        (and_from (has r.members j) _ newcomer (and_from (not (has r.came_from j)) (not (has r.given j))
        (ap not (sym (ap (λ k. has k j) came_from) ∙ can.new)) (ap not (sym (ap (λ k. has k j) given) ∙ can.none)))))

-- ---- what that makes of the world

pub welcome_effect : (g : Group) (rs : List (Option Replica)) (table : Shared) (m : ℕ) (r : Replica) (j : ℕ)
    → IsMember g rs table m r → may_give r j ≡ true → world_of g (with_present rs m (gave r j))
    (record table { letters = slice_set table.letters j (Some (up_to_view r.history)) })
    ≡ welcomes (world_of g rs table) m j
welcome_effect g rs table m r j is may = replaced g rs table
    (record table { letters = slice_set table.letters j (Some (up_to_view r.history)) }) m r (gave r j)
    (welcomes (world_of g rs table) m j) (give_after j) is.there (give_changes (world_of g rs table) m j) refl refl
    (letters_written table.letters j (Some (up_to_view r.history)) within
    ∙ ap (λ es. at (letters_of table.letters) j (Some (up_to_view es)))
    (sym (ap (λ h. h.history) (held_of g rs table m r is.there))))
  where
    within : j < length table.letters
    within =
        let low : j < r.roster = grind (arith, nat_tests, (and_parts (nat_lt j r.roster) _ may).0) in
        omega (arith, low, is.posts, is.of.members)

-- ---- what a member makes of its letter

-- a member that hasn't joined: it has the first view, and keeps nothing of others
record MayJoinIn (g : Group) (m : ℕ) (r : Replica) : Type 0 where
  fits : Fits g m r.rows r.view
  first : r.view ≡ 0
  left : length r.left ≡ 0
  logged : r.logged ≤ length r.history

join_world : (g : Group) (rs : List (Option Replica)) (table : Shared) (m : ℕ) (r : Replica) (letter : List Entry)
    → present_at rs m ≡ Some r → MayJoinIn g m r → IsLetterFor r letter
    → world_of g (with_present rs m (joined r letter)) table
    ≡ enters (world_of g rs table) m (last_view (0, 0) letter).0 (last_view (0, 0) letter).1 letter
join_world g rs table m r letter there f for =
    replaced g rs table table m r q (enters (world_of g rs table) m v (last_view (0, 0) letter).1 letter)
    (join_after m letter) there (join_changes (world_of g rs table) m letter) same refl refl
  where
    v : ℕ
    v = (last_view (0, 0) letter).0

    q : Replica
    q = joined r letter

    apart : v ≢ r.view
    apart e = absurd (omega (arith, for.later, f.first, e))

    log : take r.logged letter ≡ take r.logged r.history
    log = ap (take r.logged) for.begins ∙ take-append-le r.logged r.history for.rest f.logged

    wide : LOGGED_COLUMN < r.rows.columns
    wide = omega (arith, f.fits.columns)

    logged_is : length (take r.logged r.history) ≡ r.logged
    logged_is = length-take-le r.logged r.history f.logged

    first : (c : ℕ) → own (with_own (begun r.rows.members r.rows.columns (me r)) LOGGED_COLUMN r.logged) c
        ≡ (if c == LOGGED_COLUMN then r.logged else 0)
    first c = first_own r.rows.members r.rows.columns (me r) r.logged c f.fits.words.few f.fits.words.narrow
        f.fits.words.present wide

    left : List LeftView
    left = left_now r ∷ replicate (v - 1) nothing_left

    beyond : (u : ℕ) → slice_index_or r.left u nothing_left ≡ nothing_left
    beyond u = get_or_past r.left u nothing_left (omega (arith, f.left))

    kept : (u : ℕ) → u ≢ r.view → slice_index_or left u nothing_left ≡ slice_index_or r.left u nothing_left
    kept u other = kept_rest (left_now r) (v - 1) u (λ e. other (e ∙ sym f.first)) ∙ sym (beyond u)

    kept_here : slice_index_or left r.view nothing_left ≡ left_now r
    kept_here = ap (λ u. slice_index_or left u nothing_left) f.first

    pick : {X : Type 0} (u : ℕ) (get : LeftView → X) (mine : X) → get (left_now r) ≡ mine
        → (if u == r.view then mine else get (slice_index_or r.left u nothing_left))
        ≡ get (slice_index_or left u nothing_left)
    pick u get mine e = elim (cases_eq u r.view) [
      | inl here ↦ rw (here, same_number r.view) (sym e ∙ ap get (sym kept_here))
      | inr d ↦ rw (other_number u r.view d) (ap get (sym (kept u d)))
    ]

    own_is : at₂ (holding_of g r).own v LOGGED_COLUMN (length (take r.logged r.history)) ≡ (holding_of g q).own
    own_is = fun_ext λ u. fun_ext λ c. elim (cases_eq u v) [
      | inl next ↦ rw (next, same_number v, other_number v r.view apart)
          (ap (λ l. if c == LOGGED_COLUMN then l else kept_word r v c) logged_is
          ∙ ap (λ (l : LeftView). if c == LOGGED_COLUMN then r.logged else slice_index l.own c) (beyond v)
          ∙ sym (first c))
      | inr d ↦ rw (other_number u v d) (pick u (λ l. slice_index l.own c) (own r.rows c) refl)
    ]

    count_is : (holding_of g r).count ≡ (holding_of g q).count
    count_is = fun_ext λ u. fun_ext λ s. elim (cases_eq u v) [
      | inl next ↦ rw (next, same_number v, other_number v r.view apart)
          (ap (λ (l : LeftView). slice_index l.counts s) (beyond v) ∙ sym (copy_at {X = ℕ} r.roster 0 s))
      | inr d ↦ rw (other_number u v d) (pick u (λ l. slice_index l.counts s) (count r s) refl)
    ]

    sent_is : (holding_of g r).sent ≡ (holding_of g q).sent
    sent_is = fun_ext λ u. elim (cases_eq u v) [
      | inl next ↦ rw (next, same_number v, other_number v r.view apart) (ap (λ (l : LeftView). l.sent) (beyond v))
      | inr d ↦ rw (other_number u v d) (pick u (λ l. l.sent) r.sent refl)
    ]

    item_is : ◌≡◌ {A = ℕ → ℕ → Item} (λ s k. Null) (holding_of g q).item
    item_is = fun_ext λ s. fun_ext λ k. sym (ap (λ i. if nat_lt s (roster g) then i else Null)
        (copy_at _ Null (k * r.roster + s)) ∙ both_same (nat_lt s (roster g)) Null)

    seen_is : ◌≡◌ {A = ℕ → ℕ → ℕ} (λ i c. 0) (holding_of g q).seen
    seen_is = fun_ext λ i. fun_ext λ c. sym (first_seen r.rows.members r.rows.columns (me r) r.logged i c)

    base : length (messages_from m letter) ≡ length (messages_from (me r) letter)
    base = ap (λ k. length (messages_from k letter)) (sym f.fits.number)

    same : join_after m letter (holding_of g r) ≡ holding_of g q
    same = λ z. record (join_after m letter (holding_of g r)) {
      own = own_is z;
      count = count_is z;
      item = item_is z;
      sent = sent_is z;
      log = sym log z;
      base = base z;
      seen = seen_is z;
    }

-- a member that takes its letter joins
pub join_effect : (g : Group) (rs : List (Option Replica)) (table : Shared) (m : ℕ) (r : Replica) (letter : List Entry)
    → IsMember g rs table m r → is_inside r ≡ false → letters_of table.letters m ≡ Some letter → IsLetterFor r letter
    → world_of g (with_present rs m (joined r letter)) table ≡ joins (world_of g rs table) m
join_effect g rs table m r letter is outside found for =
    let first = (is.form.outside outside).first in
    join_world g rs table m r letter is.there (record {
      fits = fits g rs table m r is;
      first = first;
      left = is.form.left ∙ first;
      logged = is.form.logged;
    }) for
    ∙ ap (λ (es : List Entry). enters (world_of g rs table) m (last_view (0, 0) es).0 (last_view (0, 0) es).1 es)
    (sym (ap (λ o. unwrap_or o []) found))
