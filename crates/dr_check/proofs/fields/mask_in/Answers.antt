use Rattle.std.specs.List.{position_or_len}
use Rattle.std.proofs.Common.{◌≡◌, ◌+◌, ◌<◌, ◌==◌, sym, ap, ◌∙◌, arith, All, List, ℕ, [], ◌∷◌, length, take, drop}
use Rattle.std.proofs.lemmas.{Bool.{eqb-true, false≢true}, List.Elements.{All-head, All-tail, Contains-get_or}}
use Rattle.dr_entry.proofs.{Bits.joined_none, ListFacts.{number_first, joined}}
use Rattle.dr_history.{specs.Members.members_of, proofs.MemberLemmas.members_of-lt}
use Rattle.dr_words.{specs.Masks.with_member, proofs.Masks.{with_all, with_all_members}}
use Rattle.dr_check.proofs.fields.mask_in.Goals as goal

pub loop-rest-init : goal.loop-rest-init
loop-rest-init c ms low is = (ms, low, is, ap (λ (m : ℕ). with_all m ms) c.empty-mask.ensures.bits)

pub loop-rest-preserved : goal.loop-rest-preserved
loop-rest-preserved c ms low is =
    let old = c.loop-rest.invariant ms low is in
    let rest = c.loop-rest.rest.now in by old.0 old.1 old.2 old.3
  where
    Goal : Type 0
    Goal = (ys : List ℕ) × All (λ m. m < 16) ys × (c.behind_field-rest.result.now ≡ joined ys)
        × (with_all c.with_number-mask.result ys ≡ with_all 0 ms)

    by : (ys : List ℕ) → All (λ m. m < 16) ys → c.loop-rest.rest.now ≡ joined ys
        → with_all c.loop-rest.mask ys ≡ with_all 0 ms → Goal
    by [] small same all =
        absurd (false≢true (sym c.loop-rest-test.true ∙ (c.is_empty.ensures ∙ ap (λ t. length t == 0) same)))
    by (y ∷ zs) small same all =
        let less = All-head (λ m. m < 16) y zs small in
        let parts = number_first y zs less in
        let n : c.first_number.result ≡ y = c.first_number.ensures y (omega (arith, less))
        (ap (λ t. take (position_or_len (λ b. b == 44) t) t) same ∙ parts.0) in
        let mask : c.with_number-mask.result ≡ with_member c.loop-rest.mask y =
        c.with_number-mask.ensures (omega (arith, n, less)) ∙ ap (with_member c.loop-rest.mask) n in (
          zs,
          All-tail (λ m. m < 16) y zs small,
          c.behind_field-rest.ensures ∙ (ap (λ k. drop (k + 1) c.loop-rest.rest.now) c.comma_at.ensures.first
              ∙ (ap (λ t. drop (position_or_len (λ b. b == 44) t + 1) t) same ∙ parts.1)),
          ap (λ (m : ℕ). with_all m zs) mask ∙ all,
        )

pub returns : goal.returns
returns c mask is word =
    let low : All (λ m. m < 16) (members_of mask) = λ k d within. members_of-lt mask _
    (Contains-get_or (members_of mask) k d within) in
    let old = c.loop-rest.invariant (members_of mask) low word in
    let none = joined_none old.0 old.1 (sym (ap length old.2)
    ∙ eqb-true (length c.loop-rest.rest.now) 0 (sym c.is_empty.ensures ∙ c.loop-rest-test.false)) in
    c.bits.ensures ∙ (ap (with_all c.loop-rest.mask) (sym none) ∙ (old.3 ∙ with_all_members mask is.0 low))
