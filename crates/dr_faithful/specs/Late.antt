-- What is true of words that are on their way: what they told when they were sent they tell still.
-- V gives the members of each view, as a mask, by the view's number.
use Rattle.std.specs.Prelude.{ℕ, ◌≤◌, List}
use Rattle.dr_words.specs.{Form.IsInForm, Grown.HasGrown}
use Rattle.dr_machine.specs.{Group.{Group, roster}, Run.{MayArrive, WasOwn}, World.World}
use Rattle.dr_faithful.specs.Tells.{Tells, Views}

-- each word that was an own one at some of these moments is as true of its owner as the own word is by now
pub record AreBacked (g : Group) (V : Views) (moments : List World) (w : World) : Type 0 where
  pub tells : (v i c word : ℕ) → WasOwn moments v i c word → Tells g V w.past i v c word
  pub old : (v i c word : ℕ) → WasOwn moments v i c word → HasGrown (roster g) c word (w.past.own i v c)
  pub form : (v i c word : ℕ) → WasOwn moments v i c word → IsInForm (roster g) c word
  -- of two words that may come to a row the greater one has grown from the other
  pub line : (v i c x y : ℕ) → MayArrive moments w v i c x → MayArrive moments w v i c y → x ≤ y
      → HasGrown (roster g) c x y
