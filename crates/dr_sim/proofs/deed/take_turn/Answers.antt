use Rattle.std.proofs.Common.{refl, sym, ◌∙◌}
use Rattle.dr_program.proofs.{RunningPrograms.going_none, Schedules.amid_goes}
use Rattle.dr_sim.proofs.{Sweeps.way_on, Turns.{way_among, way_begins}}
use Rattle.dr_sim.proofs.deed.take_turn.Goals as goal

pub loop-init : goal.loop-init
loop-init g c = record {
  way = λ h p m is. way_begins g.W.Watcher.sees c.args.watcher.now h p m c.args.member.now c.args.table.now.items
      c.args.posts.now.letters is;
  lists = c.requires.lists;
  same = refl;
  going = c.requires.going;
  ready = c.requires.ready;
  served = λ base served. served;
}

pub take_on-requires-clause-somewhere : goal.take_on-requires-clause-somewhere
take_on-requires-clause-somewhere g c = λ ks within.
    let (h, p, m, is) = c.requires.somewhere in (
      h,
      _,
      m,
      way_among h p m c.args.member.now c.loop.member c.args.table.now.items c.loop.table.items
          c.args.posts.now.letters c.loop.posts.letters is (c.loop.invariant.way h p m is),
    )

pub returns-then-is_between_turns-clause-turn : goal.returns-then-is_between_turns-clause-turn
returns-then-is_between_turns-clause-turn g c =
    λ h p m is. (way_on c.take_on.new.watcher h p m c.args.member.now c.loop.member c.take_on.new.member
    c.args.table.now.items c.loop.table.items c.take_on.new.table.items c.args.posts.now.letters
    c.loop.posts.letters c.take_on.new.posts.letters is (c.loop.invariant.way h p m is)
    (going_none c.loop.member c.loop.invariant.going) c.take_on.ensures.goes c.take_on.ensures.falls).1
    (sym c.is_between_turns.ensures ∙ c.if-is_between_turns.true)

pub returns-then-is_between_turns-clause-same : goal.returns-then-is_between_turns-clause-same
returns-then-is_between_turns-clause-same g c = c.take_on.ensures.same ∙ c.loop.invariant.same

pub returns-then-is_between_turns-clause-served : goal.returns-then-is_between_turns-clause-served
returns-then-is_between_turns-clause-served g c =
    λ base served. c.take_on.ensures.served base (c.loop.invariant.served base served)

pub loop-smaller : goal.loop-smaller
loop-smaller g c = c.take_on.ensures.falls

pub loop-preserved : goal.loop-preserved
loop-preserved g c =
    let amid = sym c.is_between_turns.ensures ∙ c.if-is_between_turns.false in record {
      way = λ h p m is. (way_on c.take_on.new.watcher h p m c.args.member.now c.loop.member c.take_on.new.member
          c.args.table.now.items c.loop.table.items c.take_on.new.table.items c.args.posts.now.letters
          c.loop.posts.letters c.take_on.new.posts.letters is (c.loop.invariant.way h p m is)
          (going_none c.loop.member c.loop.invariant.going) c.take_on.ensures.goes c.take_on.ensures.falls).0 amid;
      going = amid_goes c.take_on.new.member amid;
      lists = c.take_on.ensures.lists;
      same = c.take_on.ensures.same ∙ c.loop.invariant.same;
      ready = c.take_on.ensures.ready;
      served = λ base served. c.take_on.ensures.served base (c.loop.invariant.served base served);
    }
