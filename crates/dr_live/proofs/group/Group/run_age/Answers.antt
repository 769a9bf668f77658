use Rattle.std.proofs.Common.{◌≡◌, ◌++◌, ◌∷◌, List, [], refl, rules, subst, sym}
use Rattle.dr_ages.specs.{Ages.{IsAgeOf, all_but}, declared.mode.Mode.TheVariants.Run}
use Rattle.dr_entry.specs.declared.end.AgeEnd.{AgeEnd}
use Rattle.dr_script.specs.declared.script.Script.{Script}
use Rattle.dr_live.{specs.Live.{AreUpTo, OpensAlways, calm_yard}, proofs.Course.{opens_always, up_to_next}}
use Rattle.dr_live.proofs.group.Group.run_age.Goals as goal

pub run_one-requires-clause-opens : goal.run_one-requires-clause-opens
run_one-requires-clause-opens g c κs within =
    let yard = calm_yard c.args.self.now.yard in
    subst (λ (script : Script). OpensAlways script yard) (sym c.with_messages-script.ensures)
    (opens_always c.args.plan.now c.args.lists c.args.self.now.ages.items yard c.requires.ready c.requires.ranges
    c.requires.plan.one_age c.requires.few)

pub returns-clause-up : goal.returns-clause-up
returns-clause-up g c =
    let ages = c.args.self.now.ages.items in
    let age = c.in_ok-age.age in
    let before = calm_yard c.args.self.now.yard in
    let after = calm_yard c.run_one.new.yard in
    let items : c.push.new.self.items ≡ ages ++ age ∷ [] = search rules in
    let is = subst (λ (script : Script). IsAgeOf script (all_but 0) Run 0 before after age)
    c.with_messages-script.ensures c.in_ok-age.ensures.age in
    subst (λ (all : List AgeEnd). AreUpTo c.args.plan.now c.args.lists all after) (sym items)
    (up_to_next c.args.plan.now c.args.lists ages before after age c.requires.ready c.requires.ranges is (λ m. refl))
