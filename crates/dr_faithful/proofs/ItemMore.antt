-- A member has one item more of a sender, itself or another: the members stay faithful, and the words grow.
use Rattle.std.proofs.Common.{ap, arith, false, inl, inr, le_of_eq, le_trans, length, map, refl, subst, sym, true, ℕ, ◌+◌, ◌<◌, ◌∙◌, ◌≡◌, ◌≢◌, ◌≤◌, ◌⊎◌, le_refl, ◌==◌, if◌then◌else◌, slice_index}
use Rattle.std.proofs.{Math.Path.fun_ext, lemmas.Bool.cases_eq}
use Rattle.dr_entry.{specs.declared.entry.Item.Item, proofs.NumberFacts.{same_number, other_number}}
use Rattle.dr_history.specs.{History.{IsPrefixOf, Sent, messages_of}, Members.{has, members_of}, Places.front_of}
use Rattle.dr_history.proofs.Ranks.{some_member}
use Rattle.dr_rows.specs.Words.{Words, IsWords, own, with_own, seen}
use Rattle.dr_rows.proofs.Grids.{own_with, with_word-same, with_word-row, with_word-column}
use Rattle.dr_rows.specs.Words as rows
use Rattle.dr_machine.{specs.{Group.{Group, IsGroup, roster}, Writes.{at, at₂, at₃}}, proofs.Worlds.past_same}
use Rattle.dr_machine.specs.{Run.{PastGrew, WordsGrew}, World.{Past, World, items_received, own_word, view_members}}
use Rattle.dr_machine.proofs.Writes.{front_rises, at_case, at_other, at_same, at₂_both, at₂_case, at₂_read}
use Rattle.dr_faithful.specs.Faithful.{AreCounts, AreInForm, AreItems, AreSent, AreSuspicions, Faithful, Items, Numbers}
use Rattle.dr_faithful.specs.Tells.{Tells, TellsPiece, Views, WordsTell, item_sent, part_column}
use Rattle.dr_faithful.proofs.CountMore.{IsMore, more, more_le, more_or_same, new_count}
use Rattle.dr_faithful.proofs.OwnWords.{accepts_same, old_later, closed_written, fresh_counted, fresh_written}
use Rattle.dr_faithful.proofs.Pasts.{item_kept, tells_later, tells_received, tells_recv, tells_ring}
use Rattle.dr_words.specs.{Columns.{head_column, recv_column}, Form.IsInForm, Grown.HasGrown}
use Rattle.dr_words.specs.Packing.{accept_promise, is_final, recv_count, recv_word}
use Rattle.dr_words.{specs.declared.column.TheConstants.RECEIVED_COLUMN, proofs.Accepts.accept_within}
use Rattle.dr_words.proofs.{Columns.low_or_high, Forms.{form_free, form_recv, grown_free, grown_recv}}
use Rattle.dr_words.proofs.{Order.{HasGrown_refl, HasGrown_same}, Packed.open_word}

-- who may have one item more: its sender, where there is room, or another one, where it was put
abbrev pub IsSource : Group → Views → Numbers → ℕ → ℕ → ℕ → Type 0
IsSource g V count m v s =
    ((s ≡ m) × ((i : ℕ) → has (V v) i ≡ true → i ≢ m → count m v m + 1 ≤ count i v m + g.window))
    ⊎ ((s ≢ m) × (count m v s < count s v s))

-- ---- the items

-- the items that a member had before are as before
earlier_item : (count : Numbers) (view : ℕ → ℕ) (item : Items) (m s : ℕ) (x : Item) (a b k : ℕ)
    → k < count a (view a) b → at₃ item m s (count m (view m) s) x a b k ≡ item a b k
earlier_item count view item m s x a b k l = by (cases_eq a m)
  where
    by : (a ≡ m) ⊎ (a ≢ m) → at₃ item m s (count m (view m) s) x a b k ≡ item a b k
    by (inl e) = grind (arith, e, l)
    by (inr d) = grind (arith, d)

-- an item that counts is the new one, or counted before
new_or_before : (count : Numbers) (view : ℕ → ℕ) (m s a b k : ℕ) → k < more count m (view m) s a (view a) b
    → ((a ≡ m) × (b ≡ s) × (k ≡ count m (view m) s)) ⊎ (k < count a (view a) b)
new_or_before count view m s a b k l =
    by (more_or_same count m (view m) s a (view a) b) (cases_eq k (count m (view m) s))
  where
    by : IsMore count m (view m) s a (view a) b → (k ≡ count m (view m) s) ⊎ (k ≢ count m (view m) s)
        → ((a ≡ m) × (b ≡ s) × (k ≡ count m (view m) s)) ⊎ (k < count a (view a) b)
    by (inl t) (inl e) = inl (t.0, t.2, e)
    by (inl t) (inr d) = inr (rw (t.1, t.0, t.2) (omega (arith, l, t.3, d)))
    by (inr t) e = inr (omega (arith, l, t))

items_kept : (g : Group) (V : Views) (view : ℕ → ℕ) (count : Numbers) (item : Items) (old new : Sent)
    (m s : ℕ) (x : Item) → IsSource g V count m (view m) s → ((a u : ℕ) → IsPrefixOf (old a u) (new a u)) → x
    ≡ item_sent g new s (view m) (count m (view m) s)
    → ((a u : ℕ) → length (old a u) ≡ count a u a) → AreItems g V view count item old
    → AreItems g V view (more count m (view m) s) (at₃ item m s (count m (view m) s) x) new
items_kept g V view count item old new m s x source grew named all f = record {
  counted = λ a u b. counted a u b (more_or_same count m (view m) s a u b) source;
  same = λ a b k l. same a b k (new_or_before count view m s a b k l);
  window = λ a u b h i. window a u b h i (more_or_same count m (view m) s b u b) (cases_eq a b) source;
}
  where
    v : ℕ
    v = view m

    counted : (a u b : ℕ) → IsMore count m (view m) s a u b → IsSource g V count m (view m) s
        → more count m (view m) s a u b ≤ more count m (view m) s b u b
    counted a u b (inl t) (inl p) = le_of_eq (ap (λ i. more count m (view m) s i u b) (t.0 ∙ sym p.0 ∙ sym t.2))
    counted a u b (inl t) (inr p) =
        let there : more count m (view m) s a u b ≤ count b u b = rw (t.3, t.1, t.2) (omega (arith, p.1)) in
        le_trans there (more_le count m (view m) s b u b)
    counted a u b (inr e) p = omega (arith, e, f.counted a u b, more_le count m (view m) s b u b)

    same : (a b k : ℕ) → ((a ≡ m) × (b ≡ s) × (k ≡ count m (view m) s)) ⊎ (k < count a (view a) b)
        → at₃ item m s (count m (view m) s) x a b k ≡ item_sent g new b (view a) k
    same a b k (inl t) = read a b k t.0 t.1 t.2 ∙ named ∙ ap (λ i. item_sent g new s (view m) i) (sym t.2)
        ∙ ap (λ i. item_sent g new s (view i) k) (sym t.0) ∙ ap (λ i. item_sent g new i (view a) k) (sym t.1)
      where
        read : (a b k : ℕ) → a ≡ m → b ≡ s → k ≡ count m (view m) s → at₃ item m s (count m (view m) s) x a b k ≡ x
        read a b k e h i = grind (arith, e, h, i)
    same a b k (inr l) = earlier_item count view item m s x a b k l ∙ f.same a b k l ∙ sym (item_kept g old new b
        (view a) k (grew b (view a)) (omega (arith, l, f.counted a (view a) b, all b (view a))))

    window : (a u b : ℕ) → has (V u) a ≡ true → has (V u) b ≡ true
        → IsMore count m (view m) s b u b → (a ≡ b) ⊎ (a ≢ b) → IsSource g V count m (view m) s
        → more count m (view m) s b u b ≤ more count m (view m) s a u b + g.window
    window a u b h i t (inl e) p = rw e (omega arith)
    window a u b h i (inl t) (inr d) (inl p) =
        let room : count m v m + 1 ≤ count a v m + g.window =
        p.1 a (subst (λ j. has (V j) a ≡ true) t.1 h) (λ e. d (e ∙ sym t.0)) in
        let risen : more count m v s b u b ≡ count m v m + 1 = t.3 ∙ ap (λ j. count m v j + 1) p.0 in
        let old : count a v m ≤ more count m v s a u b = subst (λ j. count a j m ≤ more count m v s a u b) t.1
        (subst (λ j. count a u j ≤ more count m v s a u b) t.0 (more_le count m v s a u b)) in
        omega (arith, room, risen, old)
    window a u b h i (inl t) (inr d) (inr p) = absurd (p.0 (sym t.2 ∙ t.0))
    window a u b h i (inr e) (inr d) p = omega (arith, e, f.window a u b h i, more_le count m v s a u b)

-- ---- the own row

-- the own row with the words of one count more
abbrev pub counted_row : (ℕ → ℕ) → ℕ → ℕ → ℕ → ℕ → ℕ
counted_row row s k front = at (at row (recv_column s) (recv_word (k + 1) false)) RECEIVED_COLUMN front

-- the world in which m has one item more of s, and has sent this, with these words in its row
abbrev pub gained : World → ℕ → ℕ → Item → (ℕ → ℕ) → Sent → World
gained w m s x row sent =
    let v = w.past.view m in
    let k = items_received w m s in
    let counts = at (w.past.count m v) s (k + 1) in record w {
      past = record w.past {
        count = at₂ w.past.count m v counts;
        own = at₂ w.past.own m v (counted_row row s k (front_of (map counts (view_members w m))));
        sent = sent;
      };
      item = at₃ w.item m s k x;
    }

-- what a member may gain, and what its row may hold then
pub record MayGain (g : Group) (V : Views) (w : World) (m s : ℕ) (x : Item) (row : ℕ → ℕ) (sent : Sent) : Type 0 where
  pub inside : has (V (w.past.view m)) m ≡ true
  pub unwedged : w.suspects m ≡ 0
  pub sender : has (V (w.past.view m)) s ≡ true
  pub source : IsSource g V w.past.count m (w.past.view m) s
  -- what was put stays, and the item is among it
  pub grew : (a u : ℕ) → IsPrefixOf (w.past.sent a u) (sent a u)
  pub item : x ≡ item_sent g sent s (w.past.view m) (items_received w m s)
  pub few : (t : ℕ) × (items_received w m s < length (messages_of g.opening t))
  -- the row is as before but for words of the ring, and these rise
  pub low : (c : ℕ) → c < head_column (roster g) 0 → row c ≡ own_word w m c
  pub high : (c : ℕ) → own_word w m c ≤ row c
  pub ring : (slot part : ℕ) → slot < g.window → part < 17
      → TellsPiece g (length (sent m (w.past.view m))) (item_sent g sent m (w.past.view m)) slot part
      (row (part_column g slot part))
  pub order : AreSent g w.past.view w.base sent (more w.past.count m (w.past.view m) s)

front_grown : (g : Group) (V : Views) (w : World) (m s : ℕ) → IsGroup g → has (V (w.past.view m)) m ≡ true
    → Faithful g V w
    → own_word w m 2 ≤ front_of (map (at (w.past.count m (w.past.view m)) s (items_received w m s + 1))
    (view_members w m))
front_grown g V w m s is l f =
    let mask : V (w.past.view m) ≡ w.members m = sym (f.views.own m) in
    let some : 0 < length (view_members w m) = some_member (w.members m) m
    (le_trans (f.views.within (w.past.view m) m l) is.most_members) (ap (λ k. has k m) (f.views.own m) ∙ l) in
    let old : own_word w m 2 ≡ front_of (map (w.past.count m (w.past.view m)) (view_members w m)) =
    f.counts.received m (w.past.view m)
    ∙ ap (λ k. front_of (map (w.past.count m (w.past.view m)) (members_of k))) mask in
    omega (arith, old, front_rises (w.past.count m (w.past.view m)) (view_members w m) s some)

-- each word of the row grows
row_grown : (g : Group) (V : Views) (w : World) (m s : ℕ) (x : Item) (row : ℕ → ℕ) (sent : Sent)
    → IsGroup g → MayGain g V w m s x row sent → Faithful g V w → (c : ℕ) → HasGrown (roster g) c (own_word w m c)
    (counted_row row s (items_received w m s)
    (front_of (map (at (w.past.count m (w.past.view m)) s (items_received w m s + 1)) (view_members w m))) c)
row_grown g V w m s x row sent is may f = at_case (λ c z. HasGrown (roster g) c (own_word w m c) z)
    (at row (recv_column s) (recv_word (items_received w m s + 1) false)) 2 _
    (λ c d. at_case (λ c z. HasGrown (roster g) c (own_word w m c) z) row (recv_column s)
    (recv_word (items_received w m s + 1) false) (λ c d. plain c (low_or_high (roster g) c)) recv c)
    (grown_free (roster g) 2 _ _ (inl (omega arith, omega arith)) (front_grown g V w m s is may.inside f))
  where
    plain : (c : ℕ) → (c < head_column (roster g) 0) ⊎ (head_column (roster g) 0 ≤ c)
        → HasGrown (roster g) c (own_word w m c) (row c)
    plain c (inl l) = HasGrown_same (roster g) c (own_word w m c) (row c) (may.low c l)
    plain c (inr l) = grown_free (roster g) c (own_word w m c) (row c) (inr l) (may.high c)

    within : s < roster g
    within = f.views.within (w.past.view m) s may.sender

    recv : HasGrown (roster g) (recv_column s) (own_word w m (recv_column s))
        (recv_word (items_received w m s + 1) false)
    recv = grown_recv (roster g) s _ _ (f.counts.unfinished m s within may.unwedged)
        (omega (arith, f.counts.recv m (w.past.view m) s within))

own_gained : (g : Group) (V : Views) (w : World) (m s : ℕ) (x : Item) (row : ℕ → ℕ) (sent : Sent)
    → IsGroup g → MayGain g V w m s x row sent → Faithful g V w
    → (i v c : ℕ) → HasGrown (roster g) c (w.past.own i v c) ((gained w m s x row sent).past.own i v c)
own_gained g V w m s x row sent is may f =
    at₂_case (λ i v z. (c : ℕ) → HasGrown (roster g) c (w.past.own i v c) (z c)) w.past.own m (w.past.view m) _
    (λ i v c. HasGrown_refl (roster g) c (w.past.own i v c)) (row_grown g V w m s x row sent is may f)

-- the words grow with an item more
pub gain_grew : (g : Group) (V : Views) (w : World) (m s : ℕ) (x : Item) (row : ℕ → ℕ) (sent : Sent)
    → IsGroup g → MayGain g V w m s x row sent → Faithful g V w → WordsGrew g w (gained w m s x row sent)
gain_grew g V w m s x row sent is may f = record {
  own = own_gained g V w m s x row sent is may f;
  table = λ v j i c. HasGrown_refl (roster g) c (w.table v j i c);
  seen = λ i k c e. HasGrown_refl (roster g) c (w.seen i k c);
}

-- ---- what the words tell

-- a column that is neither of the ring, nor the received word, nor the recv word of the sender is as before
row_kept : (g : Group) (V : Views) (w : World) (m s : ℕ) (x : Item) (row : ℕ → ℕ) (sent : Sent)
    (front c : ℕ) → MayGain g V w m s x row sent → c < head_column (roster g) 0 → c ≢ RECEIVED_COLUMN
    → c ≢ recv_column s → counted_row row s (items_received w m s) front c ≡ own_word w m c
row_kept g V w m s x row sent front c may l d e =
    at_other (at row (recv_column s) _) 2 front c d ∙ at_other row (recv_column s) _ c e ∙ may.low c l

counts_gained : (g : Group) (V : Views) (w : World) (m s : ℕ) (x : Item) (row : ℕ → ℕ) (sent : Sent)
    → MayGain g V w m s x row sent → Faithful g V w
    → AreCounts g V w.past.view w.suspects (gained w m s x row sent).past.own (gained w m s x row sent).past.count
counts_gained g V w m s x row sent may f = record {
  recv = λ a u b l. at₂_both (λ i j r c. recv_count (r (recv_column b)) ≡ c b) w.past.own w.past.count
      m (w.past.view m) _ _ (λ i j. f.counts.recv i j b l) (recv b l) a u;
  unfinished = λ a b l e. unfinished a b l e (cases_eq a m);
  received = λ a u. at₂_both (λ i j r c. r 2 ≡ front_of (map c (members_of (V j)))) w.past.own
      w.past.count m (w.past.view m) _ _ (λ i j. f.counts.received i j) front a u;
  few = λ a u b. few a u b (more_or_same w.past.count m (w.past.view m) s a u b);
}
  where
    counts : ℕ → ℕ
    counts = at (w.past.count m (w.past.view m)) s (items_received w m s + 1)

    new : ℕ → ℕ
    new = counted_row row s (items_received w m s) (front_of (map counts (view_members w m)))

    front : new 2 ≡ front_of (map counts (members_of (V (w.past.view m))))
    front = ap (λ k. front_of (map counts (members_of k))) (f.views.own m)

    other : (b : ℕ) → b < roster g → b ≢ s → new (recv_column b) ≡ own_word w m (recv_column b)
    other b l d = row_kept g V w m s x row sent _ (recv_column b) may (omega arith) (omega arith) (omega (arith, d))

    mine : new (recv_column s) ≡ recv_word (items_received w m s + 1) false
    mine = at_other (at row (recv_column s) _) 2 _ (recv_column s) (omega arith) ∙ at_same row (recv_column s) _

    recv : (b : ℕ) → b < roster g → recv_count (new (recv_column b)) ≡ counts b
    recv b l = by (cases_eq b s)
      where
        by : (b ≡ s) ⊎ (b ≢ s) → recv_count (new (recv_column b)) ≡ counts b
        by (inl e) = subst (λ i. recv_count (new (recv_column i)) ≡ counts i) (sym e) (ap recv_count mine
            ∙ (omega arith) ∙ sym (at_same (w.past.count m (w.past.view m)) s (items_received w m s + 1)))
        by (inr d) = ap recv_count (other b l d) ∙ f.counts.recv m (w.past.view m) b l
            ∙ sym (at_other (w.past.count m (w.past.view m)) s (items_received w m s + 1) b d)

    unfinished : (a b : ℕ) → b < roster g → w.suspects a ≡ 0 → (a ≡ m) ⊎ (a ≢ m)
        → is_final (at₂ w.past.own m (w.past.view m) new a (w.past.view a) (recv_column b)) ≡ false
    unfinished a b l e (inr d) = rw (at_other w.past.own m (at (w.past.own m) (w.past.view m) new) a d)
        (f.counts.unfinished a b l e)
    unfinished a b l e (inl q) = rw (q, at₂_read w.past.own m (w.past.view m) new) (by (cases_eq b s))
      where
        by : (b ≡ s) ⊎ (b ≢ s) → is_final (new (recv_column b)) ≡ false
        by (inl i) = subst (λ i. is_final (new (recv_column i)) ≡ false) (sym i)
            (ap is_final mine ∙ open_word (items_received w m s + 1))
        by (inr d) = ap is_final (other b l d) ∙ f.counts.unfinished m b l may.unwedged

    few : (a u b : ℕ) → IsMore w.past.count m (w.past.view m) s a u b
        → (t : ℕ) × (more w.past.count m (w.past.view m) s a u b ≤ length (messages_of g.opening t))
    few a u b (inl t) = (may.few.0, omega (arith, t.3, may.few.1))
    few a u b (inr e) = let old = f.counts.few a u b in (old.0, omega (arith, e, old.1))

-- whom a member suspects is told as before, and this one suspects nobody
suspicions_gained : (g : Group) (V : Views) (w : World) (m s : ℕ) (x : Item) (row : ℕ → ℕ)
    (sent : Sent) → MayGain g V w m s x row sent → Faithful g V w
    → AreSuspicions g V w.past.view w.suspects w.promise (gained w m s x row sent).past.own
suspicions_gained g V w m s x row sent may f = record {
  named = f.suspicions.named;
  inside = f.suspicions.inside;
  trusted = f.suspicions.trusted;
  told = λ a. kept a 1 (omega arith) (omega arith) (omega arith) ∙ f.suspicions.told a;
  final = λ a b d h. final a b d h (cases_eq a m);
  none = f.suspicions.none;
  least = f.suspicions.least;
  accept = λ a c is. let l = accept_within (roster g) (V (w.past.view a)) c is in
      ap accept_promise (kept a c l.1 (omega (arith, l.0)) (omega (arith, l.0, within))) ∙ f.suspicions.accept a c is;
}
  where
    within : s < roster g
    within = f.views.within (w.past.view m) s may.sender

    new : ℕ → ℕ
    new = counted_row row s (items_received w m s)
        (front_of (map (at (w.past.count m (w.past.view m)) s (items_received w m s + 1)) (view_members w m)))

    kept : (a c : ℕ) → c < head_column (roster g) 0 → c ≢ 2 → c ≢ recv_column s
        → (gained w m s x row sent).past.own a (w.past.view a) c ≡ own_word w a c
    kept a c l d e = by (cases_eq a m)
      where
        by : (a ≡ m) ⊎ (a ≢ m) → at₂ w.past.own m (w.past.view m) new a (w.past.view a) c ≡ own_word w a c
        by (inl q) = rw (q, at₂_read w.past.own m (w.past.view m) new) (row_kept g V w m s x row sent _ c may l d e)
        by (inr q) = ap (λ r. r (w.past.view a) c) (at_other w.past.own m (at (w.past.own m) (w.past.view m) new) a q)

    final : (a b : ℕ) → w.suspects a ≢ 0 → has (V (w.past.view a)) b ≡ true → (a ≡ m) ⊎ (a ≢ m)
        → is_final (at₂ w.past.own m (w.past.view m) new a (w.past.view a) (recv_column b)) ≡ true
    final a b d h (inl q) = absurd (d (ap w.suspects q ∙ may.unwedged))
    final a b d h (inr q) = rw (at_other w.past.own m (at (w.past.own m) (w.past.view m) new) a q)
        (f.suspicions.final a b d h)

-- no accept word is another than before
pub accept_gained : (g : Group) (V : Views) (w : World) (m s : ℕ) (x : Item) (row : ℕ → ℕ) (sent : Sent)
    → MayGain g V w m s x row sent → Faithful g V w → (i v c : ℕ) → (recv_column (roster g) ≤ c)
    × (c < head_column (roster g) 0) → (gained w m s x row sent).past.own i v c ≡ w.past.own i v c
accept_gained g V w m s x row sent may f i v c between =
    let within : s < roster g = f.views.within (w.past.view m) s may.sender in
    at₂_case (λ i v r. r c ≡ w.past.own i v c) w.past.own m (w.past.view m) _ (λ i v. refl)
    (row_kept g V w m s x row sent _ c may between.1 (omega (arith, between.0))
    (omega (arith, between.0, within))) i v

-- what only grows has grown
pub past_gained : (g : Group) (V : Views) (w : World) (m s : ℕ) (x : Item) (row : ℕ → ℕ)
    (sent : Sent) → MayGain g V w m s x row sent → PastGrew w.past (gained w m s x row sent).past
past_gained g V w m s x row sent may =
    let same = past_same w.past in record {
      view = same.view;
      count = more_le w.past.count m (w.past.view m) s;
      sent = may.grew;
      history = same.history;
      log = same.log;
      votes = same.votes;
      durable = same.durable;
      acts = same.acts;
    }

-- each word of the new row tells
row_tells : (g : Group) (V : Views) (w : World) (m s : ℕ) (x : Item) (row : ℕ → ℕ) (sent : Sent)
    → MayGain g V w m s x row sent → Faithful g V w
    → (c : ℕ) → Tells g V (gained w m s x row sent).past m (w.past.view m) c (counted_row row s (items_received w m s)
    (front_of (map (at (w.past.count m (w.past.view m)) s (items_received w m s + 1)) (view_members w m))) c)
row_tells g V w m s x row sent may f = at_case (λ c z. Tells g V new m v c z)
    (at row (recv_column s) (recv_word (items_received w m s + 1) false)) RECEIVED_COLUMN front
    (λ c d. at_case (λ c z. Tells g V new m v c z) row (recv_column s) (recv_word (items_received w m s + 1) false)
    (λ c d. plain c (low_or_high (roster g) c)) recv c) (tells_received g V new m v front (le_of_eq received))
  where
    v : ℕ
    v = w.past.view m

    new : Past
    new = (gained w m s x row sent).past

    front : ℕ
    front = front_of (map (at (w.past.count m (w.past.view m)) s (items_received w m s + 1)) (view_members w m))

    counts : more w.past.count m (w.past.view m) s m (w.past.view m)
        ≡ at (w.past.count m (w.past.view m)) s (items_received w m s + 1)
    counts = at₂_read w.past.count m (w.past.view m)
        (at (w.past.count m (w.past.view m)) s (items_received w m s + 1))

    received : front ≡ front_of (map (more w.past.count m (w.past.view m) s m (w.past.view m))
        (members_of (V (w.past.view m))))
    received = ap (λ (h : ℕ → ℕ). front_of (map h (view_members w m))) (sym counts) ∙ ap (λ k. front_of
        (map (more w.past.count m (w.past.view m) s m (w.past.view m)) (members_of k))) (f.views.own m)

    recv : Tells g V (gained w m s x row sent).past m (w.past.view m) (recv_column s)
        (recv_word (items_received w m s + 1) false)
    recv = tells_recv g V new m v s (recv_word (items_received w m s + 1) false) (f.views.within v s may.sender)
        (omega (arith, new_count w.past.count m (w.past.view m) s))

    plain : (c : ℕ) → (c < head_column (roster g) 0) ⊎ (head_column (roster g) 0 ≤ c)
        → Tells g V (gained w m s x row sent).past m (w.past.view m) c (row c)
    plain c (inl l) = subst (λ z. Tells g V new m v c z) (sym (may.low c l))
        (tells_later g V w.past new m v c (own_word w m c) (past_gained g V w m s x row sent may) (f.words.own m v c))
    plain c (inr l) = tells_ring g V new m v c (row c) l (λ slot part i p e.
        subst (λ k. TellsPiece g (length (sent m v)) (item_sent g sent m v) slot part (row k)) (sym e)
        (may.ring slot part i p))

-- and each other word still
words_gained : (g : Group) (V : Views) (w : World) (m s : ℕ) (x : Item) (row : ℕ → ℕ) (sent : Sent)
    → MayGain g V w m s x row sent → Faithful g V w → WordsTell g V (gained w m s x row sent)
words_gained g V w m s x row sent may f = record {
  own = at₂_case (λ i v r. (c : ℕ) → Tells g V new i v c (r c)) w.past.own m (w.past.view m) _
      (λ i v c. tells_later g V w.past new i v c (w.past.own i v c) grew (f.words.own i v c))
      (row_tells g V w m s x row sent may f);
  table = λ v j i c. tells_later g V w.past new i v c (w.table v j i c) grew (f.words.table v j i c);
  seen = λ a i c. tells_later g V w.past new i (w.past.view a) c (w.seen a i c) grew (f.words.seen a i c);
}
  where
    new : Past
    new = (gained w m s x row sent).past

    grew : PastGrew w.past (gained w m s x row sent).past
    grew = past_gained g V w m s x row sent may

form_gained : (g : Group) (V : Views) (w : World) (m s : ℕ) (x : Item) (row : ℕ → ℕ) (sent : Sent) → IsGroup g
    → MayGain g V w m s x row sent → Faithful g V w → AreInForm g (gained w m s x row sent).past.own w.table w.seen
form_gained g V w m s x row sent is may f = record {
  in_own = at₂_case (λ a u r. (c : ℕ) → IsInForm (roster g) c (r c)) w.past.own m (w.past.view m) _ f.form.in_own
      (at_case (λ c z. IsInForm (roster g) c z)
      (at row (recv_column s) (recv_word (items_received w m s + 1) false)) 2 _
      (λ c d. at_case (λ c z. IsInForm (roster g) c z) row (recv_column s)
      (recv_word (items_received w m s + 1) false) (λ c d. plain c (low_or_high (roster g) c))
      (form_recv (roster g) s (recv_word (items_received w m s + 1) false)
      (f.views.within (w.past.view m) s may.sender) (omega (arith, may.few.1, is.messages may.few.0))) c)
      (form_free (roster g) 2 _ (inl (omega arith, omega arith))));
  in_table = f.form.in_table;
  in_seen = f.form.in_seen;
}
  where
    plain : (c : ℕ) → (c < head_column (roster g) 0) ⊎ (head_column (roster g) 0 ≤ c) → IsInForm (roster g) c (row c)
    plain c (inl l) = subst (λ z. IsInForm (roster g) c z) (sym (may.low c l)) (f.form.in_own m (w.past.view m) c)
    plain c (inr l) = form_free (roster g) c (row c) (inr l)

-- and the members stay faithful
pub gain_keeps : (g : Group) (V : Views) (w : World) (m s : ℕ) (x : Item) (row : ℕ → ℕ)
    (sent : Sent) → IsGroup g → MayGain g V w m s x row sent → Faithful g V w → Faithful g V (gained w m s x row sent)
gain_keeps g V w m s x row sent is may f = record {
  beginning = f.beginning;
  views = f.views;
  items = items_kept g V w.past.view w.past.count w.item w.past.sent sent m s x may.source may.grew may.item
      f.sent.all f.items;
  sent = may.order;
  counts = counts_gained g V w m s x row sent may f;
  suspicions = suspicions_gained g V w m s x row sent may f;
  accepts = accepts_same g V w.past.view w.promise w.tag w.value w.pending w.past.own
      (gained w m s x row sent).past.own (λ i c is. accept_gained g V w m s x row sent may f i
      (w.past.view i) c (accept_within (roster g) (V (w.past.view i)) c is)) f.accepts;
  words = words_gained g V w m s x row sent may f;
  logs = f.logs;
  delivered = record {
    held = λ a i h. le_trans (f.delivered.held a i h)
        (own_gained g V w m s x row sent is may f i (w.past.view a) 2).number;
    none = f.delivered.none;
  };
  fresh = fresh_counted g V w.past.view _ w.past.count m (w.past.view m) _ (le_refl (w.past.view m))
      (fresh_written g V w.past.view w.past.own w.past.count m (w.past.view m) _ (le_refl (w.past.view m))
      may.inside f.fresh);
  closed = closed_written g V w.past.view w.past.own m _ f.closed;
  old = old_later g w.past.view w.past.own (gained w m s x row sent).past.own w.table w.seen
      (own_gained g V w m s x row sent is may f) f.old;
  form = form_gained g V w m s x row sent is may f;
}

-- two own words written
pub own_two : (w : Words) (c x d y k : ℕ) → IsWords w → IsWords (with_own w c x) → c < w.columns → d < w.columns
    → own (with_own (with_own w c x) d y) k ≡ at (at (own w) c x) d y k
own_two w c x d y k form then_form p q = own_with (with_own w c x) d y k then_form q
    ∙ ap (λ o. if k == d then y else o) (own_with w c x k form p)

-- the seen words after a look at another row
pub looked_seen : (w : Words) (i c x : ℕ) → IsWords w → i ≢ w.me → i < w.members → c < w.columns
    → ◌≡◌ {A = ℕ → ℕ → ℕ} (at₂ (λ j d. if j == w.me then 0 else seen w j d) i c x)
    (λ j d. if j == w.me then 0 else seen (rows.looked w i c x) j d)
looked_seen w i c x form other row column = fun_ext λ j. fun_ext λ d. elim (cases_eq j i) [
  | inr apart ↦ rw (other_number j i apart)
      (ap (λ y. if j == w.me then 0 else y) (sym (ap (λ r. slice_index r d) (with_word-row w.words i c x j apart))))
  | inl same ↦ rw (same, same_number i) (elim (cases_eq d c) [
    | inr apart ↦ rw (other_number d c apart, other_number i w.me other)
        (sym (with_word-column w.words i c x i d apart))
    | inl here ↦ rw (here, same_number c, other_number i w.me other)
        (sym (with_word-same w.members w.columns w.words i c x form.rows row column))
  ])
]
