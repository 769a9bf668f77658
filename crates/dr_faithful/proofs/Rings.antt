-- A ring keeps the pieces of each item that was put, until those of a later one stand in their place.
use Rattle.std.proofs.Common.{arith, ℕ, ◌≡◌, ◌≢◌, List, length, subst, sym, ◌+◌, ◌<◌, ◌∙◌, ◌≤◌, [], ap, inl, inr, slice_index_or, ◌++◌, ◌∷◌, ◌⊎◌}
use Rattle.std.proofs.{Math.Seq.get_or-append_seam, lemmas.{Bool.cases_lt, List.length_push}}
use Rattle.dr_entry.specs.declared.end.SentItem.{SentItem, TheVariants.Null}
use Rattle.dr_words.specs.{Columns.recv_column, Packing.ring_tag}
use Rattle.dr_ring.specs.{Pieces.pieces, Slots.slot_column}
use Rattle.dr_machine.specs.{Acts.{CanTake, effect_of}, Effects.{puts, stamped, row_with}}
use Rattle.dr_machine.specs.{Group.{Group, roster, IsGroup}, Guards.IsRunning, World.{World, items_received}}
use Rattle.dr_machine.{specs.{Writes.{at, at₂, at₃}, declared.step.Step.Step}, proofs.Groups.Stands}
use Rattle.dr_machine.proofs.{Presence.in_roster, Worlds.row_in, Writes.at₂_case}
use Rattle.dr_faithful.{specs.{Faithful.Numbers, Tells.{item_named, item_sent}}, proofs.Faithfulness.puts_or_leaves}

-- they stand in the row, whatever becomes of the recv, received and beat words
word_put : (own : Numbers) (m v s x y z c : ℕ) (row : ℕ → ℕ) → c ≢ recv_column s → c ≢ 2 → c ≢ 0
    → at₃ (at₂ (at₂ own m v row) m v (at (at (at₂ own m v row m v) (recv_column s) x) 2 y)) m v 0 z m v c ≡ row c
word_put own m v s x y z c row d e h = grind (arith, d, e, h)

-- the world in which m has put an item of this name
abbrev with_put : Group → World → ℕ → SentItem → World
with_put g w m name = stamped (puts g w m name (item_named g m name)) m

-- their tags are one more than the number of the item
tag_put : (g : Group) (w : World) (m part : ℕ) (name : SentItem) → m < roster g
    → part < length (pieces (item_named g m name))
    → items_received w m m + 1 ≤ ring_tag ((with_put g w m name).past.own m (w.past.view m)
    (slot_column (roster g) g.window (items_received w m m) + part))
tag_put g w m part name within needed =
    let v : ℕ = w.past.view m in
    let k : ℕ = items_received w m m in
    let from : ℕ = slot_column (roster g) g.window k in
    let list : List ℕ = pieces (item_named g m name) in
    let row : ℕ → ℕ = row_with (w.past.own m v) from k list in
    subst (λ (z : ℕ). k + 1 ≤ ring_tag z)
    (sym (word_put w.past.own m v m _ _ _ (from + part) row (λ e. omega (arith, e, within))
    (λ e. omega (arith, e)) (λ e. omega (arith, e)) ∙ row_in (w.past.own m v) from k part list needed)) (omega arith)

-- an item that is put stands so
put_stands : (g : Group) (w : World) (m s v k part : ℕ) (name : SentItem) → m < roster g
    → length (w.past.sent m (w.past.view m)) ≡ items_received w m m → k < length ((with_put g w m name).past.sent s v)
    → part < length (pieces (item_sent g (with_put g w m name).past.sent s v k))
    → Stands g w (with_put g w m name) s v k part
put_stands g w m s v k part name within all =
    at₂_case (λ a u items. k < length items → part < length (pieces (item_named g a (slice_index_or items k Null)))
    → Stands g w (with_put g w m name) a u k part) w.past.sent m (w.past.view m) (before ++ name ∷ [])
    (λ a u l needed. inl l) new s v
  where
    before : List SentItem
    before = w.past.sent m (w.past.view m)

    last : k ≡ length before → part < length (pieces (item_named g m (slice_index_or (before ++ name ∷ []) k Null)))
        → Stands g w (with_put g w m name) m (w.past.view m) k part
    last e needed =
        let named : slice_index_or (before ++ name ∷ []) k Null ≡ name =
        ap (λ i. slice_index_or (before ++ name ∷ []) i Null) e ∙ get_or-append_seam before name [] Null in
        subst (λ i. Stands g w (with_put g w m name) m (w.past.view m) i part) (sym (e ∙ all))
        (inr (tag_put g w m part name within
        (subst (λ (x : SentItem). part < length (pieces (item_named g m x))) named needed)))

    new : k < length (before ++ name ∷ [])
        → part < length (pieces (item_named g m (slice_index_or (before ++ name ∷ []) k Null)))
        → Stands g w (with_put g w m name) m (w.past.view m) k part
    new l needed = by (cases_lt k (length before))
      where
        by : (k < length before) ⊎ (length before ≤ k) → Stands g w (with_put g w m name) m (w.past.view m) k part
        by (inl earlier) = inl earlier
        by (inr late) = last (omega (arith, l, late, length_push before name)) needed

-- and so does each other item, as a step puts an item or leaves what is sent
pub step_stands : (g : Group) (w : World) (m : ℕ) (step : Step) (s v k part : ℕ) → IsGroup g
    → CanTake g w m step → length (w.past.sent m (w.past.view m)) ≡ items_received w m m
    → k < length ((effect_of g w m step).past.sent s v)
    → part < length (pieces (item_sent g (effect_of g w m step).past.sent s v k))
    → Stands g w (effect_of g w m step) s v k part
step_stands g w m step s v k part is can all l needed = by (puts_or_leaves g w m step can)
  where
    by : ((name : SentItem) × IsRunning g w m × (effect_of g w m step ≡ with_put g w m name))
        ⊎ ((effect_of g w m step).past.sent ≡ w.past.sent) → Stands g w (effect_of g w m step) s v k part
    by (inl (name, running, same)) = subst (λ (u : World). k < length (u.past.sent s v)
        → part < length (pieces (item_sent g u.past.sent s v k)) → Stands g w u s v k part)
        (sym same) (put_stands g w m s v k part name (in_roster g m is running.present) all) l needed
    by (inr same) = inl (subst (λ sent. k < length (sent s v)) same l)
