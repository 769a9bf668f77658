use Rattle.std.proofs.Common.{inl}
use Rattle.dr_restart.{specs.Groups.first_group_of, proofs.Choosing.{holder_stands, longest_on, of_holders}}
use Rattle.dr_quorum.specs.Handing.{handed_by}
use Rattle.dr_quorum.proofs.choosing.entries_of_age.Goals as goal

pub find_split-requires : goal.find_split-requires
find_split-requires c =
    (longest_on (handed_by c.args.lists.now) c.args.age c.longest_held-longest.result.now c.requires.last
    c.longest_held-longest.ensures).1

pub find_short_view-requires-clause-stand : goal.find_short_view-requires-clause-stand
find_short_view-requires-clause-stand c = holder_stands (first_group_of c.args.script.now).opening
    (handed_by c.args.lists.now) c.args.age c.longest_held-longest.result.now c.requires.enough.0
    (longest_on (handed_by c.args.lists.now) c.args.age c.longest_held-longest.result.now c.requires.last
    c.longest_held-longest.ensures).0

pub returns-in-Some-clause-refused : goal.returns-in-Some-clause-refused
returns-in-Some-clause-refused c = (c.requires.enough, c.args.age, c.requires.last, c.in-Some.ensures.some)

pub returns-in-Some-find_short_view-clause-refused : goal.returns-in-Some-find_short_view-clause-refused
returns-in-Some-find_short_view-clause-refused c =
    let es = c.longest_held-longest.result.now in
    let on = longest_on (handed_by c.args.lists.now) c.args.age es c.requires.last c.longest_held-longest.ensures in
    let t = c.in-Some-find_short_view.ensures.some in (
      c.requires.enough,
      c.args.age,
      c.requires.last,
      c.in_default.ensures.none,
      t.0,
      (es, on.0, t.1),
      t.2,
    )

pub returns-in-None-clause-chosen : goal.returns-in-None-clause-chosen
returns-in-None-clause-chosen c =
    let es = c.longest_held-longest.result.now in
    let on = longest_on (handed_by c.args.lists.now) c.args.age es c.requires.last c.longest_held-longest.ensures in
    inl (of_holders (first_group_of c.args.script.now).opening (handed_by c.args.lists.now) c.args.age es
    c.requires.last c.in_default.ensures.none on.0 on.1 c.in-None.ensures.none)
