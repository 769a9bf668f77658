use Rattle.std.proofs.Common.{◌≡◌, ◌<◌, ◌⊎◌, All, Contains, sym, ◌∙◌, subst, ℕ, List, take}
use Rattle.dr_history.specs.Members.{members_of}
use Rattle.dr_check.specs.Clauses.{IsLate, WasNamed}
use Rattle.dr_check.proofs.views.may_come_next.Goals as goal

pub returns : goal.returns
returns c =
    let now = c.members_of-members.ensures in
    let follows = c.goes_on_from.ensures.0 c.if-not-goes_on_from.false in
    let newcomers : List ℕ → List ℕ → Type 0 = λ before members. All (λ s. Contains before s
    ⊎ (IsLate c.args.place.now.age.now c.args.place.now.member.now s
    × (WasNamed c.args.place.now.age.now (take c.args.place.now.at c.args.place.now.member.now.history) s
    → ⊥))) members in
    let one : c.as_slice.result.now ≡ members_of c.args.mask = c.as_slice.ensures.value ∙ now in
    let two : c.as_slice-2.result.now ≡ members_of c.args.mask = c.as_slice-2.ensures.value ∙ now in
    let three : c.as_slice-3.result.now ≡ members_of c.args.mask = c.as_slice-3.ensures.value ∙ now in (
      λ t. record {
        same_age = follows.0;
        next_number = follows.1;
        other = λ e. follows.2 (one ∙ e);
        roster = subst (λ (xs : List ℕ). All (λ s. s < c.args.place.now.script.now.members) xs) two
            (c.are_below.ensures.0 c.if-not-are_below.false);
        majority = c.has_majority.ensures.0 c.if-not-has_majority.false;
        newcomers = subst (λ (xs : List ℕ). newcomers xs (members_of c.args.mask)) c.members.ensures.same
            (subst (λ (xs : List ℕ). newcomers c.members.result.now xs) three (c.may_all_be_in.ensures.0 t));
      },
      λ keeps. c.may_all_be_in.ensures.1 (subst (λ (xs : List ℕ). newcomers c.members.result.now xs)
          (sym three) (subst (λ (xs : List ℕ). newcomers xs (members_of c.args.mask)) (sym c.members.ensures.same)
          keeps.newcomers)),
    )
