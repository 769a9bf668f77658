use Rattle.std.proofs.{Common.{sym, subst, ℕ, length, Contains}, lemmas.Option.IfSome_then}
use Rattle.dr_entry.{specs.declared.entry.Entry.TheVariants.View, proofs.OptionFacts.IfNone_then}
use Rattle.dr_restart.{specs.{Groups.first_group_of, Refusing.{HasPath, LacksPath}}, proofs.Refusals.path_of_all}
use Rattle.dr_quorum.specs.Handing.{handed_by}
use Rattle.dr_quorum.proofs.path.find_short_view.Goals as goal

pub returns-in-Some-clause-none : goal.returns-in-Some-clause-none
returns-in-Some-clause-none c =
    let h = handed_by c.args.lists.now in
    let n = length c.args.script.now.messages in
    IfNone_then c.find_lacking.result (HasPath c.args.script.now.members h c.args.age c.of.result)
    ((first : ℕ) → Contains c.args.entries.now (View c.args.age 0 first) → HasPath n h c.args.age first)
    c.find_lacking.ensures.none (λ p. path_of_all
    (first_group_of c.args.script.now).opening h c.args.age c.in-Some.first c.args.entries.now c.requires.stand
    c.in-Some.ensures.some (subst (λ (k : ℕ). HasPath k h c.args.age c.in-Some.first) (sym c.requires.ranges.lists)
    (subst (HasPath c.args.script.now.members h c.args.age) c.of.ensures p)))

pub returns-in-Some-clause-some : goal.returns-in-Some-clause-some
returns-in-Some-clause-some c =
    let h = handed_by c.args.lists.now in
    IfSome_then c.find_lacking.result c.find_lacking.ensures.some (λ x d. (
      c.in-Some.first,
      c.in-Some.ensures.some,
      subst (λ (k : ℕ). LacksPath k h c.args.age c.in-Some.first x.0 x.1 x.2) (sym c.requires.ranges.lists)
          (subst (λ (f : ℕ). LacksPath c.args.script.now.members h c.args.age f x.0 x.1 x.2) c.of.ensures d),
    ))

pub returns-in-None-clause-none : goal.returns-in-None-clause-none
returns-in-None-clause-none c first d = absurd (c.in-None.ensures.none first d)
