-- What is drawn on a sheet, and how it grows.
use Rattle.std.specs.List.{concat}
use Rattle.std.specs.Prelude.{◌≡◌, ◌<◌, ◌≤◌, ℕ, ◌+◌, ◌-◌, ◌*◌, ◌^◌, min, List, [], ◌∷◌, ◌++◌, codes, length, slice_index}
use Rattle.dr_history.specs.History.{IsPrefixOf}
use Rattle.dr_picture.specs.Marks.{heading_text, layer_text, words_text}

-- the texts of the four layers; the width of a lane and of all of them, the row at which what is drawn next
-- begins, and how much higher the picture may get
pub record Drawn : Type 0 where
  pub grounds : List ℕ
  pub arrows : List ℕ
  pub marks : List ℕ
  pub words : List ℕ
  pub lane : ℕ
  pub width : ℕ
  pub row : ℕ
  pub left : ℕ

-- nothing is drawn
pub record IsBlank (now : Drawn) : Type 0 where
  pub grounds : now.grounds ≡ []
  pub arrows : now.arrows ≡ []
  pub marks : now.marks ≡ []
  pub words : now.words ≡ []

-- what was drawn at first stands, with what came behind it in each layer; the lanes are as wide as they were,
-- what is drawn next begins no higher, and no height was given back
pub record DrawnGrew (first now : Drawn) : Type 0 where
  pub grounds : IsPrefixOf first.grounds now.grounds
  pub arrows : IsPrefixOf first.arrows now.arrows
  pub marks : IsPrefixOf first.marks now.marks
  pub words : IsPrefixOf first.words now.words
  pub lane : now.lane ≡ first.lane
  pub width : now.width ≡ first.width
  pub row : first.row ≤ now.row
  pub left : now.left ≤ first.left

-- whatever a sheet had grown from, it still has
abbrev pub Keeps : Drawn → Drawn → Type 0
Keeps old new = (first : Drawn) → DrawnGrew first old → DrawnGrew first new

-- at most the greatest number of 32 bits
abbrev pub capped : ℕ → ℕ
capped n = min n (2 ^ 32 - 1)

-- the left of the lane of a member
abbrev pub left_of : Drawn → ℕ → ℕ
left_of d member = capped (capped (capped (d.lane + 8) * member) + 40)

-- what is drawn next begins so much lower
abbrev pub advanced : Drawn → ℕ → Drawn
advanced d height = record d { row = capped (d.row + height); left = d.left - height }

-- so many entries of the history of a member are drawn, if it has a lane
abbrev pub HasDrawn : ℕ → ℕ → List ℕ → Type 0
HasDrawn member count drawn = member < length drawn → count ≤ slice_index drawn member

-- the words with the heading of an age behind them
abbrev pub headed : ℕ → ℕ → Drawn → List ℕ
headed age entries d = d.words
    ++ words_text (record { x = 40; y = capped (d.row + 12) }) (codes " font-weight='bold'") (codes "#333")
    (heading_text age entries)

-- the layers, one over the other; the words are told twice, first with a white seam
abbrev pub layers_text : Drawn → List ℕ
layers_text d = concat
    (layer_text (codes "stroke='#d5dfec'") d.grounds
    ∷ layer_text (codes "fill='none' stroke-opacity='0.5' marker-end='url(#head)'") d.arrows
    ∷ layer_text (codes "stroke='white' stroke-width='3' stroke-opacity='0.8'") d.words
    ∷ layer_text (codes "stroke-width='1.5'") d.marks
    ∷ layer_text (codes "stroke='none'") d.words ∷ [])

-- a picture of what is drawn was appended: its layers stand behind a head, and before all else
abbrev pub IsDrawnIn : Drawn → List ℕ → List ℕ → Type 0
IsDrawnIn d old new = (head : List ℕ) × IsPrefixOf (concat (old ∷ head ∷ layers_text d ∷ [])) new
