-- What is read of a world behind a write: of who writes, and of all others.
use Rattle.std.specs.Prelude.{nat_lt, Option}
use Rattle.std.proofs.Common.{arith, ℕ, ◌≢◌, ◌≡◌, ◌+◌, ◌≤◌, List, get_or, length, map, sym, ◌<◌, ◌∙◌, ◌==◌, if◌then◌else◌, inl, inr, refl, [], ap, ◌⊎◌}
use Rattle.std.proofs.lemmas.{Bool.{cases_lt, cases_eq, Decides.nat_tests}, List.{get_or-map, length-map}}
use mathlib.Core.Path.{fun_ext}
use Rattle.dr_entry.specs.declared.{end.End.End, entry.{Entry.Entry, Item.{Item, TheVariants.Null}}}
use Rattle.dr_entry.{specs.declared.end.SentItem.SentItem, proofs.NumberFacts.{same_number, other_number, IsLess}}
use Rattle.dr_history.{specs.{History.Sent, Places.front_of}, proofs.Fronts.front_more}
use Rattle.dr_machine.specs.Writes.{at, at₂, at₄, at₃}

-- what holds elsewhere and of the new value holds everywhere
pub at_case : {A : Type 0} (P : ℕ → A → Type 0) (f : ℕ → A) (i : ℕ) (v : A)
    → ((k : ℕ) → k ≢ i → P k (f k)) → P i v → (k : ℕ) → P k (at f i v k)
at_case P f i v others here k = grind (arith, others k)

-- the own row of another member, and that of another view, are as before
pub row_member : (f : ℕ → ℕ → ℕ → ℕ) (a b : ℕ) (x : ℕ → ℕ) (i j : ℕ) → i ≢ a → at₂ f a b x i j ≡ f i j
row_member f a b x i j d = grind arith

pub row_view : (f : ℕ → ℕ → ℕ → ℕ) (a b : ℕ) (x : ℕ → ℕ) (i j : ℕ) → j ≢ b → at₂ f a b x i j ≡ f i j
row_view f a b x i j d = grind arith

one_count : (f : ℕ → ℕ) (s x : ℕ) → f x ≤ at f s (f s + 1) x
one_count f s x = grind arith

-- the front does not fall where one count rises
pub front_rises : (f : ℕ → ℕ) (ms : List ℕ) (s : ℕ) → 0 < length ms → front_of (map f ms)
    ≤ front_of (map (at f s (f s + 1)) ms)
front_rises f ms s some = front_more (map f ms) (map (at f s (f s + 1)) ms)
    (rw (length-map ms (at f s (f s + 1))) some) (length-map ms f ∙ sym (length-map ms (at f s (f s + 1)))) (λ i l.
    let within : i < length ms = omega (arith, l, length-map ms (at f s (f s + 1))) in
    rw (get_or-map f ms i 0 0 within, get_or-map (at f s (f s + 1)) ms i 0 0 within) (one_count f s (get_or ms i 0)))

-- what is written in a view that the member has come to leaves later views as they are
pub later_view : {A : Type 0} (f : ℕ → ℕ → A) (view : ℕ → ℕ) (m v : ℕ) (x : A) → v ≤ view m
    → (i u : ℕ) → view i < u → at₂ f m v x i u ≡ f i u
later_view f view m v x l i u less = grind (arith, l, less)

pub earlier_view : {A : Type 0} (f : ℕ → ℕ → A) (view : ℕ → ℕ) (m : ℕ) (x : A) (i u : ℕ)
    → u < view i → at₂ f m (view m) x i u ≡ f i u
earlier_view f view m x i u less = grind (arith, less)

-- the same of two arguments
pub at₂_case : {A : Type 0} (P : ℕ → ℕ → A → Type 0) (f : ℕ → ℕ → A) (a b : ℕ) (v : A)
    → ((i j : ℕ) → P i j (f i j)) → P a b v → (i j : ℕ) → P i j (at₂ f a b v i j)
at₂_case P f a b v old here i j = grind (arith, old i j)

-- a word of another row than the own one in the own copy is as before
pub other_row : (f : ℕ → ℕ → ℕ → ℕ → ℕ) (a b x v j i c : ℕ) → i ≢ j → at₄ f a b b 0 x v j i c ≡ f v j i c
other_row f a b x v j i c d = grind arith

pub own_beat : (f : ℕ → ℕ → ℕ → ℕ) (m v x : ℕ) → at₃ f m v 0 x m v 0 ≡ x
own_beat f m v x = grind arith

-- a write of two arguments stands where it was made
pub at₂_read : {A : Type 0} (f : ℕ → ℕ → A) (a b : ℕ) (v : A) → at₂ f a b v a b ≡ v
at₂_read f a b v = grind arith

-- and every other is as before
pub at_other : {A : Type 0} (f : ℕ → A) (i : ℕ) (v : A) (k : ℕ) → k ≢ i → at f i v k ≡ f k
at_other f i v k d = grind arith

-- the new value stands where it was written
pub at_same : {A : Type 0} (f : ℕ → A) (i : ℕ) (v : A) → at f i v i ≡ v
at_same f i v = grind arith

-- two functions written at one argument
pub at_both : {A B : Type 0} (P : ℕ → A → B → Type 0) (f : ℕ → A) (h : ℕ → B) (i : ℕ) (x : A)
    (y : B) → ((k : ℕ) → P k (f k) (h k)) → P i x y → (k : ℕ) → P k (at f i x k) (at h i y k)
at_both P f h i x y old here k = grind (arith, old k)

-- and three
pub at_three : {A B C : Type 0} (P : ℕ → A → B → C → Type 0) (f : ℕ → A) (h : ℕ → B)
    (e : ℕ → C) (i : ℕ) (x : A) (y : B) (z : C) → ((k : ℕ) → P k (f k) (h k) (e k)) → P i x y z → (k : ℕ)
    → P k (at f i x k) (at h i y k) (at e i z k)
at_three P f h e i x y z old here k = grind (arith, old k)

-- of three
pub at₃_case : {A : Type 0} (P : ℕ → ℕ → ℕ → A → Type 0) (f : ℕ → ℕ → ℕ → A) (a b c : ℕ) (v : A)
    → ((i j k : ℕ) → P i j k (f i j k)) → P a b c v → (i j k : ℕ) → P i j k (at₃ f a b c v i j k)
at₃_case P f a b c v old here i j k = grind (arith, old i j k)

-- and of four
pub at₄_case : {A : Type 0} (P : ℕ → ℕ → ℕ → ℕ → A → Type 0) (f : ℕ → ℕ → ℕ → ℕ → A) (a b c d : ℕ) (v : A)
    → ((i j k l : ℕ) → P i j k l (f i j k l)) → P a b c d v → (i j k l : ℕ) → P i j k l (at₄ f a b c d v i j k l)
at₄_case P f a b c d v old here i j k l = grind (arith, old i j k l)

-- another column is as before
pub at₃_column : {A : Type 0} (f : ℕ → ℕ → ℕ → A) (a b c : ℕ) (v : A) (i j k : ℕ)
    → k ≢ c → at₃ f a b c v i j k ≡ f i j k
at₃_column f a b c v i j k d = grind arith

-- and so is another member's
pub at₃_member : {A : Type 0} (f : ℕ → ℕ → ℕ → A) (a b c : ℕ) (v : A) (i j k : ℕ)
    → i ≢ a → at₃ f a b c v i j k ≡ f i j k
at₃_member f a b c v i j k d = grind arith

-- and that of another view
pub at₃_view : {A : Type 0} (f : ℕ → ℕ → ℕ → A) (a b c : ℕ) (v : A) (i j k : ℕ)
    → j ≢ b → at₃ f a b c v i j k ≡ f i j k
at₃_view f a b c v i j k d = grind arith

-- two functions written at the same arguments
pub at₂_both : {A B : Type 0} (P : ℕ → ℕ → A → B → Type 0) (f : ℕ → ℕ → A) (h : ℕ → ℕ → B) (a b : ℕ) (x : A) (y : B)
    → ((i j : ℕ) → P i j (f i j) (h i j)) → P a b x y → (i j : ℕ) → P i j (at₂ f a b x i j) (at₂ h a b y i j)
at₂_both P f h a b x y old here i j = grind (arith, old i j)

-- the later of two writes at the same arguments stays
pub at₂_twice : {A : Type 0} (f : ℕ → ℕ → A) (a b : ℕ) (x y : A) → at₂ (at₂ f a b x) a b y ≡ at₂ f a b y
at₂_twice f a b x y = fun_ext λ i. fun_ext λ j. grind arith

-- a row of a view, written
pub row_written : (f h : ℕ → ℕ) (kept : ℕ → ℕ → ℕ) (view v d : ℕ)
    → (if v == view then h d else kept v d) ≡ at (λ b k. if b == view then f k else kept b k) view h v d
row_written f h kept view v d = grind arith

pub item_written : (f : ℕ → ℕ → Item) (n s k t l : ℕ) (x y : Item) → s < n
    → (t < n → y ≡ (if t == s then (if l == k then x else f t l) else f t l))
    → (if nat_lt t n then y else Null) ≡ at₂ (λ i j. if nat_lt i n then f i j else Null) s k x t l
item_written f n s k t l x y within is = elim (cases_lt t n) [
  | inl inside ↦ grind (arith, nat_tests, within, inside, is inside)
  | inr past ↦ grind (arith, nat_tests, within, past)
]

pub view_written : (f : ℕ → ℕ) (kept : ℕ → ℕ → ℕ) (view c x v d : ℕ) → (if v == view then
    (if d == c then x else f d) else kept v d) ≡ at₂ (λ b k. if b == view then f k else kept b k) view c x v d
view_written f kept view c x v d = grind arith

pub view_set : {X : Type 0} (x y : X) (kept : ℕ → X) (view v : ℕ)
    → ◌≡◌ {A = X} (if v == view then y else kept v) (at (λ b. if b == view then x else kept b) view y v)
view_set x y kept view v = elim (cases_eq v view) [
  | inl same ↦ rw (same, same_number view) refl
  | inr other ↦ rw (other_number v view other) refl
]

-- a write at four arguments, at these and at others
pub at₄_same : (f : ℕ → ℕ → ℕ → ℕ → ℕ) (v j i c x : ℕ) → at₄ f v j i c x v j i c ≡ x
at₄_same f v j i c x = grind arith

pub at₄_other : (f : ℕ → ℕ → ℕ → ℕ → ℕ) (v j i c x b k n d : ℕ)
    → (b ≡ v → k ≡ j → n ≡ i → d ≡ c → ⊥) → at₄ f v j i c x b k n d ≡ f b k n d
at₄_other f v j i c x b k n d other = elim (cases_eq b v) [
  | inr apart ↦ grind (arith, apart)
  | inl bank ↦ elim (cases_eq k j) [
    | inr apart ↦ grind (arith, bank, apart)
    | inl copy ↦ elim (cases_eq n i) [
      | inr apart ↦ grind (arith, bank, copy, apart)
      | inl row ↦ elim (cases_eq d c) [
        | inr apart ↦ grind (arith, bank, copy, row, apart)
        | inl column ↦ absurd (other bank copy row column)
      ]
    ]
  ]
]

pub count_written : (count : ℕ → ℕ → ℕ → ℕ) (m v s x : ℕ) → at₂ count m v (at (count m v) s x) m v s ≡ x
count_written count m v s x = grind arith

-- another column of the table is as before
pub other_column : (f : ℕ → ℕ → ℕ → ℕ → ℕ) (a b d e x v j i c : ℕ) → c ≢ e → at₄ f a b d e x v j i c ≡ f v j i c
other_column f a b d e x v j i c other = grind arith

-- what was sent in another view, or by another member
pub at₂_member : {A : Type 0} (f : ℕ → ℕ → A) (a b : ℕ) (v : A) (i : ℕ) → i ≢ a → at₂ f a b v i b ≡ f i b
at₂_member f a b v i d = grind arith

pub at₂_view : {A : Type 0} (f : ℕ → ℕ → A) (a b : ℕ) (v : A) (i j : ℕ) → j ≢ b → at₂ f a b v i j ≡ f i j
at₂_view f a b v i j d = grind arith

-- who has left it puts nothing more there
pub put_later : (sent : Sent) (view : ℕ → ℕ) (m s : ℕ) (items : List SentItem) → 0 < view s
    → at₂ sent m (view m) items s 0 ≡ sent s 0
put_later sent view m s items later = by (cases_eq s m)
  where
    by : (s ≡ m) ⊎ (s ≢ m) → at₂ sent m (view m) items s 0 ≡ sent s 0
    by (inl same) =
        let apart : 0 ≢ view m = λ e. absurd (omega (arith, e, ap view same, later)) in grind (arith, apart)
    by (inr other) = grind (arith, other)

pub stamp_here : (own : ℕ → ℕ → ℕ → ℕ) (m v c x : ℕ) → at₃ own m v c x m v c ≡ x
stamp_here own m v c x = grind arith

pub own_other : (own : ℕ → ℕ → ℕ → ℕ) (m v c x d : ℕ) → d ≢ c → at₃ own m v c x m v d ≡ own m v d
own_other own m v c x d other = grind (arith, other)

pub row_other : (table : ℕ → ℕ → ℕ → ℕ → ℕ) (v a m c x b j d : ℕ) → j ≢ m
    → at₄ table v a m c x v b j d ≡ table v b j d
row_other table v a m c x b j d other = grind (arith, other)

pub copy_other : (table : ℕ → ℕ → ℕ → ℕ → ℕ) (v a i c x b j d : ℕ) → b ≢ a → at₄ table v a i c x v b j d ≡ table v b j d
copy_other table v a i c x b j d other = grind (arith, other)

pub count_other : (count : ℕ → ℕ → ℕ → ℕ) (m v s x t : ℕ) → t ≢ s → at₂ count m v (at (count m v) s x) m v t ≡ count m v t
count_other count m v s x t other = grind (arith, other)

pub end_here : (end : ℕ → Option End) (m : ℕ) (x : Option End) → at end m x m ≡ x
end_here end m x = grind arith

pub sent_here : (sent : ℕ → ℕ → List SentItem) (m v : ℕ) (items : List SentItem) → at₂ sent m v items m v ≡ items
sent_here sent m v items = grind arith

pub cell_apart : (table : ℕ → ℕ → ℕ → ℕ → ℕ) (b m d x v j i c : ℕ) → (j ≢ m) ⊎ (i ≢ m)
    → at₄ table b m m d x v j i c ≡ table v j i c
cell_apart table b m d x v j i c (inl other) = grind (arith, other)
cell_apart table b m d x v j i c (inr other) = grind (arith, other)

pub seen_less : (seen : ℕ → ℕ → ℕ → ℕ) (m i c x j d : ℕ) → IsLess j d i c → at₃ seen m i c x m j d ≡ seen m j d
seen_less seen m i c x j d (inl earlier) = grind (arith, earlier)
seen_less seen m i c x j d (inr here) = grind (arith, here)

pub pushed_less : (table : ℕ → ℕ → ℕ → ℕ → ℕ) (v m i c x j d : ℕ) → IsLess j d i c
    → at₄ table v i m c x v j m d ≡ table v j m d
pushed_less table v m i c x j d (inl earlier) = grind (arith, earlier)
pushed_less table v m i c x j d (inr here) = grind (arith, here)

pub log_here : (log : ℕ → List Entry) (m : ℕ) (x : List Entry) → at log m x m ≡ x
log_here log m x = grind arith
