-- What a suspicion makes of a replica: its words have grown, and it keeps its form.
use Rattle.std.proofs.Common.{ℕ, ◌≡◌, ◌==◌, not, true, arith, ◌≤◌, inl, inr, false, subst, ◌≢◌, ◌+◌, ◌-◌, ◌<◌, ◌||◌, ◌⊎◌, Bool, sym, ap, ◌∙◌, ◌^◌, refl}
use Rattle.std.proofs.lemmas.Bool.{cases_eq, Decides.nat_tests}
use Rattle.dr_history.specs.Members.{has}
use Rattle.dr_rows.specs.Words.{own, rewritten}
use Rattle.dr_rows.proofs.Rewrites.{IsWords-frozen, IsWords-rewritten, frozen_more, own_rewritten}
use Rattle.dr_words.specs.{Columns.{head_column, recv_column}, Rewrites.{wedged_word, is_accept_of, is_recv_of}}
use Rattle.dr_words.{specs.Form.AllInForm, proofs.Packed.final_recv}
use Rattle.dr_words.{specs.Grown.{HasGrown, Grown}, proofs.{Accepts.accept_within, Order.Grown_trans}}
use Rattle.dr_words.specs.{Masks.{with_member, least_of, without}, Packing.{accept_promise, accept_tag, accept_value}}
use Rattle.dr_words.specs.declared.column.TheConstants.{BEAT_COLUMN, LOGGED_COLUMN, RECEIVED_COLUMN, SUSPECTED_COLUMN}
use Rattle.dr_words.proofs.Masks.{more_some, left_rises, IsSuspecting, in_roster_small, left_within, more_named, more_grows, more_has, more_trusted}
use Rattle.dr_words.proofs.Rewrites.{rewritten_in_form, wedged_in_form, wedged_grown, wedged_promise, wedged_recv, wedged_rest, wedged_tag, wedged_value, frozen_grown, rewritten_grown, recv_within}
use Rattle.dr_ring.specs.Slots.{slot_column}
use Rattle.dr_program.{specs.Form.HasForm, proofs.{Least.grown_received, Suspecting.suspecting}}
use Rattle.dr_program.specs.Replica.{Replica, is_inside, may_suspect, is_wedged, promise, me, count, suspected, least_seen}

-- whom a member suspects with one more, and whom it waits for then
abbrev mask_with : Replica → ℕ → ℕ
mask_with r j = with_member r.suspects j

abbrev voter_of : Replica → ℕ → ℕ
voter_of r j = least_of (without r.members (mask_with r j))

-- it is wedged then
wedged_then : (r : Replica) (j : ℕ) → HasForm r → is_inside r ≡ true → may_suspect r j ≡ true → not (mask_with r j == 0) ≡ true
wedged_then r j f inside may = let some = more_some (suspecting r j f inside may) in grind (arith, nat_tests, some)

-- its promise doesn't fall
promise_rises : (r : Replica) (j : ℕ) → HasForm r → is_inside r ≡ true → may_suspect r j ≡ true → promise r ≤ voter_of r j
promise_rises r j f inside may = elim (cases_eq r.suspects 0) [
  | inl none ↦ let calm : is_wedged r ≡ false = grind (arith, nat_tests, none) in rw calm (omega arith)
  | inr before ↦ let already : is_wedged r ≡ true = grind (arith, nat_tests, before) in
      rw already (left_rises (suspecting r j f inside may))
]

-- the words that it then has
abbrev anew : Replica → ℕ → ℕ → ℕ → ℕ
anew r j = wedged_word r.roster r.members (mask_with r j) (voter_of r j)

-- each is in form, and has grown
anew_form : (r : Replica) (j : ℕ) → HasForm r → is_inside r ≡ true → may_suspect r j ≡ true
    → AllInForm r.roster (rewritten r.rows (anew r j)).words
anew_form r j f inside may = rewritten_in_form r.roster r.rows (anew r j) f.rows
    (λ c. wedged_in_form r.roster r.members (mask_with r j) (voter_of r j) c (own r.rows c)
    (in_roster_small r.roster (mask_with r j) (more_named s)) (left_within s) (words (me r) c)) words
  where
    s : IsSuspecting r.roster r.members r.suspects (me r) j
    s = suspecting r j f inside may

    words : AllInForm r.roster r.rows.words
    words = subst (λ (n : ℕ). AllInForm n r.rows.words) f.members f.words

anew_grown : (r : Replica) (j c : ℕ) → HasForm r → is_inside r ≡ true → may_suspect r j ≡ true
    → HasGrown r.roster c (own r.rows c) (anew r j c (own r.rows c))
anew_grown r j c f inside may = wedged_grown r.roster r.members (mask_with r j) (voter_of r j) c (own r.rows c)
    (λ e. rw (e, f.suspected) (more_grows (suspecting r j f inside may)))
    (λ is. omega (arith, f.accept c is, promise_rises r j f inside may))

-- a suspicion keeps a replica in form
pub suspected_form : (r : Replica) (j : ℕ) → HasForm r → is_inside r ≡ true → may_suspect r j ≡ true → HasForm (suspected r j)
suspected_form r j f inside may = record {
  rows = IsWords-frozen (rewritten r.rows (anew r j)) j (IsWords-rewritten r.rows (anew r j) f.rows) s.apart;
  members = f.members;
  columns = f.columns;
  words = subst (λ (n : ℕ). AllInForm n (rewritten r.rows (anew r j)).words) (sym f.members)
      (anew_form r j f inside may);
  some_slot = f.some_slot;
  most_slots = f.most_slots;
  number = f.number;
  trusted = more_trusted s;
  named = more_named s;
  frozen = λ i. frozen_more (rewritten r.rows (anew r j)) j i (IsWords-rewritten r.rows (anew r j) f.rows)
      (omega (arith, s.within, f.members)) ∙ ap (λ (b : Bool). i == j || b) (f.frozen i) ∙ sym (more_has s i);
  bank = f.bank;
  left = f.left;
  roster = f.roster;
  late = f.late;
  outside = λ e. absurd (cc (inside, e));
  decided = f.decided;
  given = f.given;
  counts = f.counts;
  bounded = f.bounded;
  few = f.few;
  items = f.items;
  suspected = word SUSPECTED_COLUMN (omega (arith, f.columns));
  recv = λ i l. word (recv_column i) (omega (arith, f.columns, l))
      ∙ wedged_recv r.roster r.members (mask_with r j) (voter_of r j) i (own r.rows (recv_column i)) l
      ∙ rw (f.recv i l, wedged) (final_recv (count r i) (is_wedged r) (has r.members i));
  accept = λ c is. rw wedged (ap accept_promise (accept_now c is)
      ∙ wedged_promise r.roster r.members (mask_with r j) (voter_of r j) c (own r.rows c) is);
  tagged = λ c is. ap accept_tag (accept_now c is)
      ∙ wedged_tag r.roster r.members (mask_with r j) (voter_of r j) c (own r.rows c) is ∙ f.tagged c is;
  valued = λ c is. ap accept_value (accept_now c is)
      ∙ wedged_value r.roster r.members (mask_with r j) (voter_of r j) c (own r.rows c) is ∙ f.valued c is;
  low = rw wedged (omega (arith, f.low, later));
  waits = λ x e. let due = f.waits x e in rw wedged (record {
    ballot = omega (arith, due.ballot, later);
    above = due.above;
    leavers = due.leavers;
    trims = due.trims;
  });
  votes = f.votes;
  received = early RECEIVED_COLUMN (omega arith) (λ e. absurd (omega arith)) ∙ f.received;
  beat = omega (arith, early BEAT_COLUMN (omega arith) (λ e. absurd (omega arith)), f.beat);
  acts = f.acts;
  published = omega (arith, early LOGGED_COLUMN (omega arith) (λ e. absurd (omega arith)), f.published);
  ring = λ k part l. let kept = same (slot_column r.roster r.window k + part)
      (omega (arith, f.columns, f.some_slot, l)) (λ e. absurd (omega (arith, e))) (inr (omega arith)) in
      rw kept (f.ring k part l);
  messages = f.messages;
  short = f.short;
  bytes = f.bytes;
  put = f.put;
  order = f.order;
  logged = f.logged;
  room = f.room;
  small = f.small;
}
  where
    s : IsSuspecting r.roster r.members r.suspects (me r) j
    s = suspecting r j f inside may

    wedged : not (mask_with r j == 0) ≡ true
    wedged = wedged_then r j f inside may

    later : promise r ≤ voter_of r j
    later = promise_rises r j f inside may

    word : (c : ℕ) → c < r.rows.columns → own (rewritten r.rows (anew r j)) c ≡ anew r j c (own r.rows c)
    word c low = own_rewritten r.rows (anew r j) c f.rows low

    accept_now : (c : ℕ) → is_accept_of r.roster r.members c ≡ true
        → own (rewritten r.rows (anew r j)) c ≡ anew r j c (own r.rows c)
    accept_now c is = word c (omega (arith, f.columns, accept_within r.roster r.members c is))

    same : (c : ℕ) → c < r.rows.columns → c ≢ SUSPECTED_COLUMN → (c < recv_column 0) ⊎ (head_column r.roster 0 ≤ c)
        → own (rewritten r.rows (anew r j)) c ≡ own r.rows c
    same c low other outside = word c low
        ∙ wedged_rest r.roster r.members (mask_with r j) (voter_of r j) c (own r.rows c) other outside

    early : (c : ℕ) → c < recv_column 0 → c ≢ SUSPECTED_COLUMN → own (rewritten r.rows (anew r j)) c ≡ own r.rows c
    early c low other = same c (omega (arith, f.columns, low)) other (inl low)

-- no word falls by it
pub suspected_rises : (r : Replica) (j c : ℕ) → HasForm r → is_inside r ≡ true → may_suspect r j ≡ true
    → own r.rows c ≤ anew r j c (own r.rows c)
suspected_rises r j c f inside may = (anew_grown r j c f inside may).number

pub suspected_grown : (r : Replica) (j : ℕ) → HasForm r → is_inside r ≡ true → may_suspect r j ≡ true
    → Grown r.roster r.rows.words (suspected r j).rows.words r.rows.frozen (suspected r j).rows.frozen
suspected_grown r j f inside may =
    let s = suspecting r j f inside may in
    Grown_trans r.roster r.rows.words (rewritten r.rows (anew r j)).words
    (rewritten r.rows (anew r j)).words r.rows.frozen r.rows.frozen (suspected r j).rows.frozen
    (rewritten_grown r.roster r.rows (anew r j) f.rows (λ c. anew_grown r j c f inside may)) (frozen_grown r.roster
    (rewritten r.rows (anew r j)) j (IsWords-rewritten r.rows (anew r j) f.rows) (omega (arith, s.within, f.members)))

-- the recv words are small
pub recv_small : (r : Replica) → HasForm r → (c : ℕ) → is_recv_of r.roster r.members c ≡ true → own r.rows c < 2 ^ 33
recv_small r f c is =
    let at = recv_within r.roster r.members c is in
    (f.words (me r) c).recv (c - 5) (omega (arith, f.members, at)) (omega (arith, at))

-- nor where a member is suspected
pub suspected_received : (r : Replica) (j : ℕ) → HasForm r → is_inside r ≡ true → may_suspect r j ≡ true
    → least_seen r RECEIVED_COLUMN ≤ least_seen (suspected r j) RECEIVED_COLUMN
suspected_received r j form inside may = grown_received r
    (suspected r j) r.rows.frozen (suspected r j).rows.frozen refl (suspected_grown r j form inside may)
