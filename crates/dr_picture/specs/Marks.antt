-- The texts of what is drawn, in the words of SVG.
use Rattle.std.specs.{Fmt.decimal, List.concat, Prelude.{ℕ, ◌==◌, if◌then◌else◌, List, [], ◌∷◌, codes}}
use Rattle.dr_picture.specs.declared.shapes.{Point.Point, Shape.Shape}
use Rattle.dr_picture.specs.declared.shapes.Shape.TheVariants.{Square, HollowSquare, Dot, Bar, Cross, Diamond, HollowDiamond}

-- the outline of a shape around a point
abbrev pub outline : Shape → List ℕ
outline Square = codes "m-4.5-4.5h9v9h-9z"
outline HollowSquare = codes "m-4.5-4.5h9v9h-9z"
outline Dot = codes "m-4 0a4 4 0 1 0 8 0a4 4 0 1 0-8 0z"
outline Bar = codes "m-4.5-1h9v2h-9z"
outline Cross = codes "m-4-4l8 8m0-8l-8 8"
outline Diamond = codes "m0-5.5l5.5 5.5-5.5 5.5-5.5-5.5z"
outline HollowDiamond = codes "m0-5.5l5.5 5.5-5.5 5.5-5.5-5.5z"

-- what it is filled with: a hollow one with white
abbrev pub filling : Shape → List ℕ → List ℕ
filling HollowSquare colour = codes "white"
filling HollowDiamond colour = codes "white"
filling shape colour = colour

-- a mark around a point
abbrev pub mark_text : Shape → Point → List ℕ → List ℕ
mark_text shape at colour = concat
    (codes "<path d='M" ∷ decimal at.x ∷ codes " " ∷ decimal at.y ∷ outline shape
    ∷ codes "' fill='" ∷ filling shape colour ∷ codes "' stroke='" ∷ colour ∷ codes "'/>\n" ∷ [])

-- words that begin at a point
abbrev pub words_text : Point → List ℕ → List ℕ → List ℕ → List ℕ
words_text at style colour words = concat
    (codes "<text x='" ∷ decimal at.x ∷ codes "' y='" ∷ decimal at.y ∷ codes "'" ∷ style
    ∷ codes " fill='" ∷ colour ∷ codes "'>" ∷ words ∷ codes "</text>\n" ∷ [])

-- an arrow from one point to another
abbrev pub arrow_text : Point → Point → List ℕ → List ℕ
arrow_text one other colour = concat
    (codes "<path d='M" ∷ decimal one.x ∷ codes " " ∷ decimal one.y ∷ codes "L" ∷ decimal other.x
    ∷ codes " " ∷ decimal other.y ∷ codes "' stroke='" ∷ colour ∷ codes "'/>\n" ∷ [])

-- a ground with this corner, width and height
abbrev pub ground_text : Point → ℕ → ℕ → List ℕ → List ℕ
ground_text at width height colour = concat
    (codes "<rect x='" ∷ decimal at.x ∷ codes "' y='" ∷ decimal at.y ∷ codes "' width='" ∷ decimal width
    ∷ codes "' height='" ∷ decimal height ∷ codes "' fill='" ∷ colour ∷ codes "'/>\n" ∷ [])

-- a layer, with what holds for all that is drawn on it
abbrev pub layer_text : List ℕ → List ℕ → List ℕ
layer_text look drawn = concat (codes "<g " ∷ look ∷ codes ">\n" ∷ drawn ∷ codes "</g>\n" ∷ [])

-- the heading of an age, by its number and the number of the entries that it starts with
abbrev pub heading_text : ℕ → ℕ → List ℕ
heading_text age entries =
    if entries == 0 then concat (codes "age " ∷ decimal age ∷ [])
    else if entries == 1 then concat (codes "age " ∷ decimal age ∷ codes ", on 1 entry" ∷ [])
    else concat (codes "age " ∷ decimal age ∷ codes ", on " ∷ decimal entries ∷ codes " entries" ∷ [])
