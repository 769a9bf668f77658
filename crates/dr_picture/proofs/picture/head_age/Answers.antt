use Rattle.std.proofs.Common.{◌≡◌, ◌∙◌, ◌+◌, ◌++◌, ℕ, List, ap, codes, rules}
use Rattle.dr_picture.specs.{Marks.{heading_text, words_text}, Sheet.{Drawn, capped}}
use Rattle.dr_picture.proofs.picture.head_age.Goals as goal

pub returns-clause-keeps : goal.returns-clause-keeps
returns-clause-keeps c = λ first is. c.advance.ensures.keeps first (c.in_ok-write.ensures.keeps first is)

pub returns-clause-heading : goal.returns-clause-heading
returns-clause-heading c =
    let now = c.args.sheet.now in
    let heading = λ (row : ℕ) (words : List ℕ). now.words
    ++ words_text (record { x = 40; y = row }) (codes " font-weight='bold'") (codes "#333") words in
    let told : c.as_str.result.now ≡ heading_text c.args.age c.args.entries = search rules in
    let below : c.saturating_add.result ≡ capped (now.row + 12) = search rules in
    ap (λ (d : Drawn). d.words) c.advance.ensures.moves ∙ ap (λ (d : Drawn). d.words) c.in_ok-write.ensures.adds
    ∙ ap (λ (row : ℕ). heading row c.as_str.result.now) below
    ∙ ap (λ (words : List ℕ). heading (capped (now.row + 12)) words) told
