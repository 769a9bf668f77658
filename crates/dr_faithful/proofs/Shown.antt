-- A word that a member shows another is at most its owner's, and a done word is 0 or 1.
use Rattle.std.proofs.Common.{arith, inl, inr, le_of_eq, le_trans, refl, ℕ, ◌≡◌, ◌≢◌, ◌≤◌, ◌⊎◌}
use Rattle.std.proofs.lemmas.Bool.{cases_eq}
use Rattle.dr_words.specs.declared.column.TheConstants.{DONE_COLUMN}
use Rattle.dr_machine.{specs.{Group.Group, World.{World, shown}}, proofs.Worlds.{shown_own, shown_seen}}
use Rattle.dr_faithful.specs.{Faithful.Faithful, Tells.Views}

-- a seen word is at most its owner's
pub seen_le : (g : Group) (V : Views) (w : World) (m i c : ℕ) → Faithful g V w → i ≢ m
    → w.seen m i c ≤ w.past.own i (w.past.view m) c
seen_le g V w m i c f d = le_trans (f.old.in_seen m i c d).number (f.old.in_table (w.past.view m) m i c).number

-- and so is a word that is shown
pub shown_le : (g : Group) (V : Views) (w : World) (m i c : ℕ) → Faithful g V w → shown w m i c
    ≤ w.past.own i (w.past.view m) c
shown_le g V w m i c f = by (cases_eq i m)
  where
    by : (i ≡ m) ⊎ (i ≢ m) → shown w m i c ≤ w.past.own i (w.past.view m) c
    by (inl e) = le_of_eq (shown_own w m i c e)
    by (inr d) = rw (shown_seen w m i c d) (seen_le g V w m i c f d)

-- a done word that isn't 0 is 1
pub done_is_one : (g : Group) (V : Views) (w : World) (i v : ℕ) → Faithful g V w
    → 1 ≤ w.past.own i v DONE_COLUMN → w.past.own i v DONE_COLUMN ≡ 1
done_is_one g V w i v f some = omega (arith, some, ((f.words.own i v DONE_COLUMN).done refl).0)
