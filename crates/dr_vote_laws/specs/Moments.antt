-- Of which moments the words of a table are, those that were seen, and those that are on their way.
use Rattle.std.specs.Prelude.{◌≡◌, ◌⊎◌, ℕ, Contains, List, true}
use Rattle.dr_words.specs.{Accepts.part_of, Packing.{accept_promise, accept_tag, accept_value}, Rewrites.is_accept_of}
use Rattle.dr_machine.specs.{Group.{Group, roster}, Run.WasOwn, World.World}
use Rattle.dr_faithful.specs.Tells.{Views}

-- at one of these moments member i was in this view, its own word of the column was this one, and it had the
-- promise, the tag, and the part of its value that this accept word says
pub record HadAccepted (g : Group) (moments : List World) (i v c word : ℕ) : Type 0 where
  pub moment : World
  pub among : Contains moments moment
  pub view : moment.past.view i ≡ v
  pub own : moment.past.own i v c ≡ word
  pub promise : accept_promise word ≡ moment.promise i
  pub tag : accept_tag word ≡ moment.tag i
  pub value : accept_value word ≡ part_of (roster g) (moment.value i) c

-- each accept word of the table of w, each that was seen, and each that was an own one at one of these moments
-- and may be on its way, is 0, or was its owner's at one of them, and said then what its owner had
pub record AcceptsOfMoments (g : Group) (V : Views) (moments : List World) (w : World) : Type 0 where
  pub in_table : (v j i c : ℕ) → is_accept_of (roster g) (V v) c ≡ true
      → (w.table v j i c ≡ 0) ⊎ HadAccepted g moments i v c (w.table v j i c)
  pub in_seen : (m i c : ℕ) → is_accept_of (roster g) (V (w.past.view m)) c ≡ true
      → (w.seen m i c ≡ 0) ⊎ HadAccepted g moments i (w.past.view m) c (w.seen m i c)
  pub on_way : (v i c word : ℕ) → WasOwn moments v i c word → is_accept_of (roster g) (V v) c ≡ true
      → (word ≡ 0) ⊎ HadAccepted g moments i v c word
