-- How the layers of a sheet come into the text of a picture.
use Rattle.std.proofs.Common.{◌≡◌, ◌∙◌, ℕ, List, ◌++◌, ap, append-nil, append_assoc, subst, sym}
use Rattle.dr_history.specs.History.{IsPrefixOf}
use Rattle.dr_picture.specs.Sheet.{Drawn, IsDrawnIn, layers_text}

-- a head, the layers and all else make a picture
pub shows : (d : Drawn) (old one two new : List ℕ) → IsPrefixOf old one → two ≡ one ++ layers_text d
    → IsPrefixOf two new → IsDrawnIn d old new
shows d old one two new head layers foot = (
  head.0,
  subst (λ (l : List ℕ). IsPrefixOf l new)
      (layers ∙ ap (λ (l : List ℕ). l ++ layers_text d) (sym head.1) ∙ append_assoc old head.0 (layers_text d)
      ∙ ap (λ (l : List ℕ). old ++ (head.0 ++ l)) (sym (append-nil (layers_text d)))) foot,
)
