-- One own word that rises, in a column below those of the counts: what else its member's words tell stays.
use Rattle.std.proofs.Common.{Option, ap, arith, false, sym, true, ℕ, ◌<◌, ◌∙◌, ◌≡◌, ◌≢◌, ◌≤◌, subst}
use Rattle.dr_entry.specs.declared.record.{Value.Value, Vote.Vote}
use Rattle.dr_machine.specs.{Group.{Group, roster}, World.Table, Writes.{at₃, at, at₂}}
use Rattle.dr_machine.proofs.Writes.{at₃_case, at₃_column, at_other, at₂_case, later_view, earlier_view}
use Rattle.dr_faithful.specs.Faithful.{AreAccepts, AreCounts, AreDelivered, AreInForm, AreOld, AreSuspicions, Numbers, AreClosed, AreFresh, IsClosed, IsLateBeat}
use Rattle.dr_faithful.specs.Tells.{Views}
use Rattle.dr_words.specs.{Columns.recv_column, Form.IsInForm, Grown.HasGrown, Masks.{least_of, without}}
use Rattle.dr_words.specs.{Packing.{accept_tag, accept_value, accept_promise, is_final}, Rewrites.is_accept_of}
use Rattle.dr_words.specs.declared.column.TheConstants.{BEAT_COLUMN, RECEIVED_COLUMN, SUSPECTED_COLUMN}
use Rattle.dr_words.proofs.{Accepts.accept_within, Order.{HasGrown_refl, HasGrown_trans}}
use Rattle.dr_history.specs.Members.{has}

-- the columns of the beat, logged and done words
abbrev pub IsPlain : ℕ → Type 0
IsPlain c = (c < recv_column 0) × (c ≢ RECEIVED_COLUMN) × (c ≢ SUSPECTED_COLUMN)

-- the counts are told as before
pub counts_word : (g : Group) (V : Views) (view suspects : ℕ → ℕ) (own count : Numbers) (m v c x : ℕ) → IsPlain c
    → AreCounts g V view suspects own count → AreCounts g V view suspects (at₃ own m v c x) count
counts_word g V view suspects own count m v c x plain f = record {
  recv = λ i u s l. rw (at₃_column own m v c x i u (recv_column s) (omega (arith, plain.0))) (f.recv i u s l);
  unfinished = λ i s l e. rw (at₃_column own m v c x i (view i) (recv_column s) (omega (arith, plain.0)))
      (f.unfinished i s l e);
  received = λ i u. rw (at₃_column own m v c x i u 2 (λ e. plain.1 (sym e))) (f.received i u);
  few = f.few;
}

-- whom a member suspects is told as before
pub suspicions_word : (g : Group) (V : Views) (view suspects promise : ℕ → ℕ) (own : Numbers)
    (m v c x : ℕ) → IsPlain c → AreSuspicions g V view suspects promise own
    → AreSuspicions g V view suspects promise (at₃ own m v c x)
suspicions_word g V view suspects promise own m v c x plain f = record {
  named = f.named;
  inside = f.inside;
  trusted = f.trusted;
  told = λ i. at₃_column own m v c x i (view i) 1 (λ e. plain.2 (sym e)) ∙ f.told i;
  final = λ i s d h. rw (at₃_column own m v c x i (view i) (recv_column s) (omega (arith, plain.0)))
      (f.final i s d h);
  none = f.none;
  least = f.least;
  accept = λ i k is. rw (at₃_column own m v c x i (view i) k
      (omega (arith, plain.0, accept_within (roster g) (V (view i)) k is))) (f.accept i k is);
}

-- what a member has accepted is told as before, where the accept words are
pub accepts_same : (g : Group) (V : Views) (view promise tag : ℕ → ℕ) (value : ℕ → Value)
    (pending : ℕ → Option Vote) (own new : Numbers)
    → ((m c : ℕ) → is_accept_of (roster g) (V (view m)) c ≡ true → new m (view m) c ≡ own m (view m) c)
    → AreAccepts g V view promise tag value pending own → AreAccepts g V view promise tag value pending new
accepts_same g V view promise tag value pending own new same f = record {
  tagged = λ i c is. ap accept_tag (same i c is) ∙ f.tagged i c is;
  valued = λ i c is. ap accept_value (same i c is) ∙ f.valued i c is;
  low = f.low;
  waits = f.waits;
}

-- and after a write of a plain word
pub accepts_word : (g : Group) (V : Views) (view promise tag : ℕ → ℕ) (value : ℕ → Value) (pending : ℕ → Option Vote)
    (own : Numbers) (m v c x : ℕ) → IsPlain c → AreAccepts g V view promise tag value pending own
    → AreAccepts g V view promise tag value pending (at₃ own m v c x)
accepts_word g V view promise tag value pending own m v c x plain =
    accepts_same g V view promise tag value pending own (at₃ own m v c x)
    (λ i k is. at₃_column own m v c x i (view i) k
    (omega (arith, plain.0, accept_within (roster g) (V (view i)) k is)))

-- the received words are as before
pub delivered_word : (g : Group) (V : Views) (view next : ℕ → ℕ) (own : Numbers) (m v c x : ℕ)
    → IsPlain c → AreDelivered V view next own → AreDelivered V view next (at₃ own m v c x)
delivered_word g V view next own m v c x plain f = record {
  held = λ i j h. rw (at₃_column own m v c x j (view i) 2 (λ e. plain.1 (sym e))) (f.held i j h);
  none = f.none;
}

-- own words of such a view, of which it is a member
pub fresh_written : (g : Group) (V : Views) (view : ℕ → ℕ) (own count : Numbers) (m v : ℕ) (row : ℕ → ℕ)
    → v ≤ view m → has (V v) m ≡ true → AreFresh g V view own count → AreFresh g V view (at₂ own m v row) count
fresh_written g V view own count m v row l inside f = record {
  unwritten = λ i u c less. ap (λ (r : ℕ → ℕ). r c) (later_view own view m v row l i u less) ∙ f.unwritten i u c less;
  outside = λ i u c. at₂_case (λ i u r. has (V u) i ≡ false → r c ≢ 0 → IsLateBeat g i u c) own m v row
      (λ i u. f.outside i u c) (λ out some. absurd (cc (inside, out))) i u;
  empty = f.empty;
}

-- and its beat, where it may be none of its view as it is late
pub fresh_stamped : (g : Group) (V : Views) (view : ℕ → ℕ) (own count : Numbers) (m v x : ℕ) → v ≤ view m
    → (has (V v) m ≡ false → IsLateBeat g m v BEAT_COLUMN)
    → AreFresh g V view own count → AreFresh g V view (at₃ own m v BEAT_COLUMN x) count
fresh_stamped g V view own count m v x l late f = record {
  unwritten = λ i u c less. ap (λ (r : ℕ → ℕ). r c)
      (later_view own view m v (at (own m v) BEAT_COLUMN x) l i u less) ∙ f.unwritten i u c less;
  outside = at₃_case (λ i u c z. has (V u) i ≡ false → z ≢ 0 → IsLateBeat g i u c) own m v BEAT_COLUMN x
      f.outside (λ out some. late out);
  empty = f.empty;
}

-- and what is written in its present view leaves those that it has left
pub closed_written : (g : Group) (V : Views) (view : ℕ → ℕ) (own : Numbers) (m : ℕ) (row : ℕ → ℕ)
    → AreClosed g V view own → AreClosed g V view (at₂ own m (view m) row)
closed_written g V view own m row f i u less inside =
    subst (IsClosed g V u i) (sym (earlier_view own view m row i u less)) (f i u less inside)

-- the beat word tells nothing of it
closed_beat : (g : Group) (V : Views) (v m : ℕ) (row : ℕ → ℕ) (x : ℕ) → IsClosed g V v m row
    → IsClosed g V v m (at row BEAT_COLUMN x)
closed_beat g V v m row x f = record {
  named = λ j h. f.named j (sym (ap (λ mask. has mask j) suspected) ∙ h);
  trusted = ap (λ mask. has mask m) suspected ∙ f.trusted;
  wedged = λ e. f.wedged (sym suspected ∙ e);
  final = λ s member. ap is_final (other (recv_column s) (omega arith)) ∙ f.final s member;
  promise = λ c is. ap accept_promise (other c (behind c (accept_within (roster g) (V v) c is).0))
      ∙ f.promise c is ∙ ap (λ mask. least_of (without (V v) mask)) (sym suspected);
}
  where
    other : (c : ℕ) → c ≢ BEAT_COLUMN → at row BEAT_COLUMN x c ≡ row c
    other c d = at_other row BEAT_COLUMN x c d

    behind : (c : ℕ) → recv_column (roster g) ≤ c → c ≢ 0
    behind c l e = omega (arith, l, e)

    suspected : at row BEAT_COLUMN x SUSPECTED_COLUMN ≡ row SUSPECTED_COLUMN
    suspected = at_other row BEAT_COLUMN x SUSPECTED_COLUMN (omega arith)

pub closed_stamped : (g : Group) (V : Views) (view : ℕ → ℕ) (own : Numbers) (m v x : ℕ)
    → AreClosed g V view own → AreClosed g V view (at₃ own m v BEAT_COLUMN x)
closed_stamped g V view own m v x f = at₂_case
    (λ i u row. u < view i → has (V u) i ≡ true → IsClosed g V u i row) own m v
    (at (own m v) BEAT_COLUMN x) f (λ l inside. closed_beat g V v m (own m v) x (f m v l inside))

-- and counts
pub fresh_counted : (g : Group) (V : Views) (view : ℕ → ℕ) (own count : Numbers) (m v : ℕ) (counts : ℕ → ℕ)
    → v ≤ view m → AreFresh g V view own count → AreFresh g V view own (at₂ count m v counts)
fresh_counted g V view own count m v counts l f = record {
  unwritten = f.unwritten;
  outside = f.outside;
  empty = λ i u s less. ap (λ (r : ℕ → ℕ). r s) (later_view count view m v counts l i u less) ∙ f.empty i u s less;
}

-- the own words grow
pub own_grown : (g : Group) (own : Numbers) (m v c x : ℕ) → HasGrown (roster g) c (own m v c) x
    → (i u k : ℕ) → HasGrown (roster g) k (own i u k) (at₃ own m v c x i u k)
own_grown g own m v c x grown = at₃_case (λ i u k z. HasGrown (roster g) k (own i u k) z) own m v c x
    (λ i u k. HasGrown_refl (roster g) k (own i u k)) grown

-- words of the table are older ones of own words that have grown
pub old_later : (g : Group) (view : ℕ → ℕ) (own new : Numbers) (table : Table) (seen : Numbers)
    → ((i v c : ℕ) → HasGrown (roster g) c (own i v c) (new i v c)) → AreOld g view own table seen
    → AreOld g view new table seen
old_later g view own new table seen grown f = record {
  in_table = λ v j i c. HasGrown_trans (roster g) c (table v j i c) (own i v c) (new i v c)
      (f.in_table v j i c) (grown i v c);
  in_seen = f.in_seen;
}

-- own words stay in form
pub form_word : (g : Group) (own : Numbers) (table : Table) (seen : Numbers) (m v c x : ℕ) → IsInForm (roster g) c x
    → AreInForm g own table seen → AreInForm g (at₃ own m v c x) table seen
form_word g own table seen m v c x form f = record {
  in_own = at₃_case (λ i u k z. IsInForm (roster g) k z) own m v c x f.in_own form;
  in_table = f.in_table;
  in_seen = f.in_seen;
}
