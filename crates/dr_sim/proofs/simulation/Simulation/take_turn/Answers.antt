use Rattle.std.{specs.Prelude.Option, proofs.Common.{refl, sym, ap, ◌∙◌, subst, List}}
use Rattle.dr_sim.{specs.{Places.{HasServedAt, IsReadyAt}, Sound.program_over}, proofs.Lists.{lists_on, turn_told}}
use Rattle.dr_sim.proofs.{Places.same_place, Steps.{among_read, going_there, goes_there}, Turns.HasTurn}
use Rattle.dr_program.specs.{Presence.{present_at, with_present}, Program.{Program, has_ended}, Running.Running}
use Rattle.dr_program.proofs.Present.{present_kept, at_set}
use Rattle.dr_play.specs.Sound.{IsSound}
use Rattle.dr_sim.proofs.simulation.Simulation.take_turn.Goals as goal

pub unreachable-requires : goal.unreachable-requires
unreachable-requires g c =
    goes_there c.self.inside.members.items c.self.inside.table.items c.self.inside.posts.letters c.args.self.now c.args.m c.index_mut.result.now
    c.self.view_is c.requires.1.1.1.1.0 c.index_mut.ensures.value c.in_default.is

pub take_turn-requires-clause-somewhere : goal.take_turn-requires-clause-somewhere
take_turn-requires-clause-somewhere g c = λ ks within.
    let among = among_read g.group c.self.inside.members.items c.self.inside.table.items
    c.self.inside.table.items c.self.inside.posts.letters c.args.self.now c.args.m c.index_mut.result.now c.in-Some.member c.self.view_is
    c.requires.1.1.1.0 c.requires.1.1.1.1.0 c.index_mut.ensures.value c.in-Some.is refl in
    (g.group, c.args.self.now, c.args.m, among)

pub take_turn-requires-clause-going : goal.take_turn-requires-clause-going
take_turn-requires-clause-going g c = λ ks within.
    let among = among_read g.group c.self.inside.members.items c.self.inside.table.items
    c.self.inside.table.items c.self.inside.posts.letters c.args.self.now c.args.m c.index_mut.result.now c.in-Some.member c.self.view_is
    c.requires.1.1.1.0 c.requires.1.1.1.1.0 c.index_mut.ensures.value c.in-Some.is refl in
    sym (ap has_ended among.there) ∙ c.requires.1.1.1.1.0

pub take_turn-requires-clause-ready : goal.take_turn-requires-clause-ready
take_turn-requires-clause-ready g c = λ ks within.
    let among = among_read g.group c.self.inside.members.items c.self.inside.table.items
    c.self.inside.table.items c.self.inside.posts.letters c.args.self.now c.args.m c.index_mut.result.now c.in-Some.member c.self.view_is
    c.requires.1.1.1.0 c.requires.1.1.1.1.0 c.index_mut.ensures.value c.in-Some.is refl in
    c.requires.1.1.1.1.1 c.in-Some.member among.there

pub returns-clause-took : goal.returns-clause-took
returns-clause-took g c =
    let among = among_read g.group c.self.inside.members.items c.self.inside.table.items
    c.self.inside.table.items c.self.inside.posts.letters c.args.self.now c.args.m c.index_mut.result.now c.in-Some.member c.self.view_is
    c.requires.1.1.1.0 c.requires.1.1.1.1.0 c.index_mut.ensures.value c.in-Some.is refl in
    subst (λ (rs : List (Option Running)). HasTurn g.W.Watcher.sees c.args.watcher.now c.take_turn.new.watcher g.group
    c.args.self.now c.args.m
    (program_over (with_present rs c.args.m c.take_turn.new.member) c.take_turn.new.table.items
    c.take_turn.new.posts.letters)) (sym (ap (λ (v : Program). v.members) c.self.view_is))
    (c.take_turn.ensures.turn g.group c.args.self.now c.args.m among)

pub returns-clause-ready : goal.returns-clause-ready
returns-clause-ready g c = λ r there.
    at_set (IsReadyAt c.take_turn.new.place) c.self.inside.members.items c.args.m c.take_turn.new.member r
    (going_there c.self.inside.members.items c.self.inside.table.items c.self.inside.posts.letters c.args.self.now c.args.m c.self.view_is
    c.requires.1.1.1.1.0) c.take_turn.ensures.ready there

pub returns-clause-served : goal.returns-clause-served
returns-clause-served g c = λ base served r there.
    let among = among_read g.group c.self.inside.members.items c.self.inside.table.items
    c.self.inside.table.items c.self.inside.posts.letters c.args.self.now c.args.m c.index_mut.result.now c.in-Some.member c.self.view_is
    c.requires.1.1.1.0 c.requires.1.1.1.1.0 c.index_mut.ensures.value c.in-Some.is refl in
    at_set (HasServedAt g.D.Disk.told g.D.Disk.faults base c.take_turn.new.place) c.self.inside.members.items
    c.args.m c.take_turn.new.member r
    (going_there c.self.inside.members.items c.self.inside.table.items c.self.inside.posts.letters c.args.self.now c.args.m c.self.view_is
    c.requires.1.1.1.1.0) (c.take_turn.ensures.served base (served c.in-Some.member among.there)) there

pub returns-clause-others : goal.returns-clause-others
returns-clause-others g c = λ i other.
    present_kept c.self.inside.members.items c.args.m i c.take_turn.new.member other
    ∙ ap (λ (v : Program). present_at v.members i) c.self.view_is

pub returns-clause-stays : goal.returns-clause-stays
returns-clause-stays g c =
    let among = among_read g.group c.self.inside.members.items c.self.inside.table.items
    c.self.inside.table.items c.self.inside.posts.letters c.args.self.now c.args.m c.index_mut.result.now c.in-Some.member c.self.view_is
    c.requires.1.1.1.0 c.requires.1.1.1.1.0 c.index_mut.ensures.value c.in-Some.is refl in
    same_place c.args.place.now c.take_turn.new.place c.in-Some.member c.take_turn.new.member
    (c.requires.1.1.1.1.1 c.in-Some.member among.there) c.take_turn.ensures.ready

pub take_turn-requires-clause-lists : goal.take_turn-requires-clause-lists
take_turn-requires-clause-lists g c = λ ks within.
    let among = among_read g.group c.self.inside.members.items c.self.inside.table.items
    c.self.inside.table.items c.self.inside.posts.letters c.args.self.now c.args.m c.index_mut.result.now
    c.in-Some.member c.self.view_is
    c.requires.1.1.1.0 c.requires.1.1.1.1.0 c.index_mut.ensures.value c.in-Some.is refl in
    c.self.invariant c.args.m c.in-Some.member
    (ap (λ (v : Program). present_at v.members c.args.m) c.self.view_is ∙ among.there)

pub invariant_of-self : goal.invariant_of-self
invariant_of-self g c =
    let among = among_read g.group c.self.inside.members.items c.self.inside.table.items
    c.self.inside.table.items c.self.inside.posts.letters c.args.self.now c.args.m c.index_mut.result.now
    c.in-Some.member c.self.view_is
    c.requires.1.1.1.0 c.requires.1.1.1.1.0 c.index_mut.ensures.value c.in-Some.is refl in
    let sound = subst (IsSound g.group) (sym c.self.view_is) c.requires.1.1.1.0 in
    let there = ap (λ (v : Program). present_at v.members c.args.m) c.self.view_is ∙ among.there in
    lists_on g.group (program_over c.self.inside.members.items c.self.inside.table.items c.self.inside.posts.letters)
    c.self.inside.posts c.take_turn.new.posts c.args.m c.in-Some.member c.take_turn.new.member sound there
    (turn_told g.group c.args.self.now c.args.m c.in-Some.member c.take_turn.new.member c.take_turn.new.table.items
    c.take_turn.new.posts.letters among.sound among.there
    (c.take_turn.ensures.turn g.group c.args.self.now c.args.m among).0.sound)
    c.take_turn.ensures.lists c.take_turn.ensures.same c.self.invariant
