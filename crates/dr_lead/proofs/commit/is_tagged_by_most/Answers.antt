use Rattle.std.{specs.List.count_by, proofs.lemmas.Bool.{lt-ltb, ltb-true}}
use Rattle.std.proofs.Common.{◌≡◌, ◌==◌, ◌<◌, ◌≤◌, ◌*◌, ℕ, Bool, List, length, map, take, sym, ap, ap₂, ◌∙◌, arith}
use Rattle.dr_entry.proofs.{ListFacts.made_of, ListParts.count_by-map}
use Rattle.dr_history.specs.Members.{members_of}
use Rattle.dr_rows.specs.Words.{seen}
use Rattle.dr_words.{specs.{Columns.leavers_column, Packing.accept_tag}, proofs.Masks.count_tagged}
use Rattle.dr_lead.specs.{Accepts.tag_of, Changes.tagged_members}
use Rattle.dr_lead.proofs.commit.is_tagged_by_most.Goals as goal

pub returns : goal.returns
returns c =
    let rows = c.args.rows.now in
    let members = c.args.s.now.members in
    let own = c.args.own in
    let count = c.column_of-count.result in
    let words = c.column_of-count.new.into in
    let tags = c.loop-i.tags in
    let column : c.leavers_column.result ≡ leavers_column rows.members =
    c.leavers_column.ensures.value ∙ ap leavers_column (sym c.requires.group.shape.members) in
    let is_own : ℕ → Bool = λ word. word == own in
    let word_of : ℕ → ℕ = λ i. seen rows i (leavers_column rows.members) in
    let seen_words : take count words ≡ map word_of (members_of members) = c.column_of-count.ensures.words
    ∙ ap₂ (λ (k m : ℕ). map (λ i. seen rows i k) (members_of m)) column c.bits.ensures in
    let made : take count tags ≡ map accept_tag (take count words) = made_of accept_tag tags words count
    (omega (arith, c.loop-i.invariant.long, c.column_of-count.ensures.within))
    (omega (arith, c.column_of-count.array_long, c.column_of-count.ensures.within))
    (λ j l. c.loop-i.invariant.tags j (omega (arith, l, c.loop-i-test.false))) in
    let counted : c.count_equal.result ≡ length (members_of (tagged_members rows c.args.s.now own)) =
    c.count_equal.ensures ∙ ap₂ (λ (k : ℕ) (xs : List ℕ). count_by (λ word. word == k) xs) c.from-2.ensures
    (made ∙ ap (map accept_tag) seen_words) ∙ count_by-map is_own accept_tag (map word_of (members_of members))
    ∙ count_by-map (λ word. accept_tag word == own) word_of (members_of members)
    ∙ sym (count_tagged (λ i. tag_of rows i == own) members) in
    let all : count ≡ length (members_of members) =
    c.column_of-count.ensures.count ∙ ap (λ (m : ℕ). length (members_of m)) c.bits.ensures in (
      λ most. omega (arith, ltb-true count (2 * c.count_equal.result) most, counted, all),
      λ most. lt-ltb count (2 * c.count_equal.result) (omega (arith, most, counted, all)),
    )
