-- What a member may see where its next deed is a look.
use Rattle.std.specs.Prelude.{ℕ, Option, None, Some}
use Rattle.dr_rows.specs.Words.{seen}
use Rattle.dr_words.specs.{Form.IsInForm, Grown.HasGrown}
use Rattle.dr_machine.specs.declared.step.Step.{Step}
use Rattle.dr_program.specs.{Running.{Running, members}, Steps.IsLook}

-- the word of row i and column c that a member may see next: it is in form, and has grown from the one that
-- it saw before
pub record IsSeenNext (r : Running) (i c word : ℕ) : Type 0 where
  pub form : IsInForm (members r) c word
  pub grown : HasGrown (members r) c (seen r.replica.rows i c) word

-- the step is a look, and the member may see this word at it
abbrev pub MaySee : Running → Option Step → ℕ → Type 0
MaySee r None word = ⊥
MaySee r (Some step) word = IsLook step (λ i c. IsSeenNext r i c word)
