use Rattle.std.proofs.Common.{ap, arith, length, length-append, [], ◌∷◌}
use Rattle.dr_machine.proofs.Groups.{some_members}
use Rattle.dr_restart.specs.Groups.{group_of}
use Rattle.dr_fresh.specs.declared.logs.TheConstants.{LOG_LIMIT}
use Rattle.dr_fresh.proofs.Fresh.{fresh_ample, fresh_limit, fresh_more, fresh_opened, none_fresh}
use Rattle.dr_fresh.proofs.logs.logs_of.Goals as goal

pub loop-member-init : goal.loop-member-init
loop-member-init c = record {
  count = ap length c.in_ok-logs.ensures.items;
  fresh = none_fresh c.args.start.now LOG_LIMIT c.in_ok-logs.logs.items c.in_ok-logs.ensures.items;
}

pub log_at-requires-clause-some : goal.log_at-requires-clause-some
log_at-requires-clause-some c = some_members (group_of c.args.script.now c.args.start.now) c.requires.group

pub loop-member-preserved : goal.loop-member-preserved
loop-member-preserved c = record {
  count = omega (
    arith,
    c.loop-member.invariant.count,
    ap length c.in_ok-push.ensures.items,
    length-append c.loop-member.logs.items (c.in_ok-log_at.field-0 ∷ []),
  );
  fresh = fresh_more c.args.start.now LOG_LIMIT c.loop-member.member c.loop-member.logs.items c.push.new.self.items
      c.in_ok-log_at.field-0 c.loop-member.invariant.count c.loop-member.invariant.fresh c.in_ok-log_at.ensures
      c.in_ok-push.ensures.items;
}

pub returns-clause-opened : goal.returns-clause-opened
returns-clause-opened c = fresh_opened c.args.script.now c.args.start.now LOG_LIMIT c.loop-member.logs.items
    c.requires.none (omega (
      arith,
      c.loop-member.invariant.count,
      c.loop-member-test.false,
      c.loop-member.auto.member-end,
      c.requires.ranges.lists,
    )) c.loop-member.invariant.fresh

pub returns-clause-limit : goal.returns-clause-limit
returns-clause-limit c = fresh_limit c.args.start.now LOG_LIMIT c.loop-member.logs.items c.loop-member.invariant.fresh

pub returns-clause-ample : goal.returns-clause-ample
returns-clause-ample c = fresh_ample c.args.script.now c.args.start.now c.loop-member.logs.items c.requires.group
    c.requires.none c.loop-member.invariant.fresh
