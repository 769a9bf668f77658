use Rattle.std.proofs.Common.{◌≡◌, ◌*◌, ◌<◌, ℕ, List, drop, length, slice_index, sym, ap, subst, ◌∙◌}
use Rattle.dr_entry.proofs.ListFacts.{all_from}
use Rattle.dr_rows.{specs.Words.Words, proofs.Vectors.{onward_within, seen_onward}}
use Rattle.dr_rows.proofs.rows.Rows.seen_from.Goals as goal

pub returns-clause-words : goal.returns-clause-words
returns-clause-words c = λ i low.
    let p = c.cell.result in
    let apart = c.from.result in
    let flat = c.self.inside.words.items in
    let members : apart ≡ c.args.self.now.members = c.from.ensures ∙ ap (λ (x : Words). x.members) c.self.view_is in
    ap (λ (xs : List ℕ). slice_index xs (i * apart)) (all_from p c.as_slice-words.result.now
    ∙ ap (drop p) c.as_slice-words.ensures.value) ∙ ap (λ (n : ℕ). slice_index (drop p flat) (i * n)) members
    ∙ seen_onward c.self.inside c.args.self.now c.args.row c.args.column p i c.self.view_is c.self.invariant
    c.requires.row low c.cell.ensures.place

pub returns-clause-within : goal.returns-clause-within
returns-clause-within c = λ i low.
    let p = c.cell.result in
    let flat = c.self.inside.words.items in
    let members : c.from.result ≡ c.args.self.now.members =
    c.from.ensures ∙ ap (λ (x : Words). x.members) c.self.view_is in
    let words = all_from p c.as_slice-words.result.now ∙ ap (drop p) c.as_slice-words.ensures.value in
    subst (λ (xs : List ℕ). i * c.from.result < length xs) (sym words)
    (subst (λ (n : ℕ). i * n < length (drop p flat)) (sym members)
    (onward_within c.self.inside c.args.self.now c.args.row c.args.column p i c.self.view_is c.self.invariant
    c.requires.row low c.cell.ensures.place))
