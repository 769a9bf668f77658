use Rattle.std.{specs.List.{All, Contains}, proofs.lemmas.List.length-map}
use Rattle.std.proofs.Common.{◌≡◌, ◌≤◌, ℕ, List, map, take, length, ◌∙◌, sym, ap, arith, subst}
use Rattle.dr_history.{specs.Members.members_of, proofs.Tests.{by_bits, some_word}}
use Rattle.dr_rows.specs.Words.{seen}
use Rattle.dr_words.proofs.Masks.{each_word, no_member}
use Rattle.dr_pred.proofs.column.least_word.Goals as goal

pub returns-then-count-eq0-clause-none : goal.returns-then-count-eq0-clause-none
returns-then-count-eq0-clause-none c =
    let word_of : ℕ → ℕ = λ i. seen c.args.rows.now i c.args.column in
    no_member word_of c.args.members c.args.rows.now.members (map word_of (members_of c.args.members))
    (λ i. map word_of (members_of c.args.members)) c.requires.roster c.requires.most
    (length-map (members_of c.args.members) word_of ∙ ap (λ (m : ℕ). length (members_of m)) (sym c.bits.ensures)
    ∙ sym c.column_of-count.ensures.count ∙ c.if-count-eq0.true)

pub returns-else-count-eq0-clause-below : goal.returns-else-count-eq0-clause-below
returns-else-count-eq0-clause-below c =
    let word_of : ℕ → ℕ = λ i. seen c.args.rows.now i c.args.column in
    each_word (λ w. c.least.result ≤ w) word_of c.args.members c.args.rows.now.members
    c.requires.roster c.requires.most (subst (All (λ w. c.least.result ≤ w))
    (by_bits word_of c.bits.result c.args.members _ c.column_of-count.ensures.words c.bits.ensures)
    c.least.ensures.below)

pub returns-else-count-eq0-clause-among : goal.returns-else-count-eq0-clause-among
returns-else-count-eq0-clause-among c =
    let word_of : ℕ → ℕ = λ i. seen c.args.rows.now i c.args.column in
    some_word word_of c.args.members c.least.result (subst (λ (xs : List ℕ). Contains xs c.least.result)
    (by_bits word_of c.bits.result c.args.members _ c.column_of-count.ensures.words c.bits.ensures)
    c.least.ensures.among)
