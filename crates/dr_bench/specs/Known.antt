-- What is known of the rows and items while they are measured.
use Rattle.std.specs.Prelude.{◌≡◌, ℕ, ◌<◌, ◌≤◌, false, length, slice_index}
use Rattle.dr_entry.specs.declared.entry.Item.{Item, TheVariants.{Null, Text}}
use Rattle.dr_words.specs.{Columns.head_column, Form.AllInForm, Packing.ring_tag, declared.shape.Shape.Shape}
use Rattle.dr_rows.specs.Words.{Words, IsWords, seen, own, is_frozen}
use Rattle.dr_ring.specs.Slots.{HasShape}

-- rows of member 0 of a group of this shape, of which none is frozen
pub record IsOpen (shape : Shape) (w : Words) : Type 0 where
  pub fits : HasShape shape w
  pub form : IsWords w
  pub me : w.me ≡ 0
  pub unfrozen : (i : ℕ) → is_frozen w i ≡ false

-- and in which no word is above this one
pub record IsUpTo (shape : Shape) (word : ℕ) (w : Words) : Type 0 where
  pub rows : IsOpen shape w
  pub most : (i c : ℕ) → seen w i c ≤ word

-- words in form, in whose own slots stand items below this number alone
pub record HasPut (shape : Shape) (k : ℕ) (w : Words) : Type 0 where
  pub fits : HasShape shape w
  pub form : IsWords w
  pub in_form : AllInForm w.members w.words
  pub earlier : (c : ℕ) → head_column w.members 0 ≤ c → ring_tag (own w c) ≤ k

-- a null, or at most 64 bytes
abbrev pub IsItem : Item → Type 0
IsItem Null = Unit {0}
IsItem (Text bytes) = (length bytes ≤ 64) × ((i : ℕ) → slice_index bytes i < 256)
