use Rattle.std.{specs.Prelude.{Some, is_some}, proofs.Common.{[], ◌∷◌, sym, ap, ◌∙◌, subst}}
use Rattle.dr_served.{specs.Served.{HasServed, IsReady}, proofs.Served.some_log}
use Rattle.dr_program.specs.Presence.{present_at, with_present}
use Rattle.dr_threads.specs.{Course.HaveRun, Logs.{AreLonger, IsFor}}
use Rattle.dr_threads.proofs.Ones.{none_run, opened_ready, reserve_longer, run_served}
use Rattle.dr_entry.proofs.ListFacts.{one_read}
use Rattle.dr_threads.proofs.age.run_one.Goals as goal

pub returns-in-Err-clause-run : goal.returns-in-Err-clause-run
returns-in-Err-clause-run g c =
    subst (λ h. HaveRun g.D.Disk.told g.D.Disk.faults c.args.board.now.table c.args.hand.members c.args.logs.items h
    c.args.logs.items) (sym c.in-Err.ensures.same)
    (none_run g.D.Disk.told g.D.Disk.faults c.args.board.now.table c.args.hand c.args.logs.items c.requires.board
    c.in-Err.ensures.nobody)

pub unreachable-requires : goal.unreachable-requires
unreachable-requires g c = some_log c.args.logs.items c.index_mut.result.now (c.requires.logs.all ∙ c.requires.one)
    (c.requires.logs.there 0 ∙ ap (λ l. is_some (present_at l 0)) c.in-Ok.ensures.member) c.index_mut.ensures.value
    c.in_default.is

pub returns-in-Err-reserve-clause-run : goal.returns-in-Err-reserve-clause-run
returns-in-Err-reserve-clause-run g c =
    let is = one_read c.args.logs.items c.index_mut.result.now (Some c.in-Some.log) (c.requires.logs.all ∙ c.requires.one)
    c.index_mut.ensures.value c.in-Some.is in
    subst (λ l. AreLonger g.D.Disk.told g.D.Disk.faults l (with_present l 0 c.reserve.new.self)) (sym is)
    (reserve_longer g.D.Disk.told g.D.Disk.faults c.in-Some.log c.reserve.new.self c.in-Err-reserve.ensures.err
    c.in-Err-reserve.ensures.told c.in-Err-reserve.ensures.faults)

pub run_member-requires-clause-ready : goal.run_member-requires-clause-ready
run_member-requires-clause-ready g c = λ κs within.
    let is = one_read c.args.logs.items c.index_mut.result.now (Some c.in-Some.log) (c.requires.logs.all ∙ c.requires.one)
    c.index_mut.ensures.value c.in-Some.is in
    let for = c.requires.logs.each 0 c.in-Some.log c.in-Ok.seated.member (ap (λ l. present_at l 0) is)
    (ap (λ l. present_at l 0) c.in-Ok.ensures.member) in
    let both = opened_ready g.D.Disk.told g.D.Disk.faults c.in-Some.log c.reserve.new.self
    c.member-member.result.now c.appends_left.result c.votes_left.result
    (subst (IsFor c.in-Some.log) (sym c.member-member.ensures.member) for) c.appends_left.ensures
    c.votes_left.ensures c.in_default-reserve.ensures.ok c.in_default-reserve.ensures.told
    c.in_default-reserve.ensures.faults c.in_default-reserve.ensures.safe in
    subst (IsReady c.reserve.new.self) c.member-member.ensures.member both.1

pub returns-clause-run : goal.returns-clause-run
returns-clause-run g c =
    let is = one_read c.args.logs.items c.index_mut.result.now (Some c.in-Some.log) (c.requires.logs.all ∙ c.requires.one)
    c.index_mut.ensures.value c.in-Some.is in
    let for = c.requires.logs.each 0 c.in-Some.log c.in-Ok.seated.member (ap (λ l. present_at l 0) is)
    (ap (λ l. present_at l 0) c.in-Ok.ensures.member) in
    let both = opened_ready g.D.Disk.told g.D.Disk.faults c.in-Some.log c.reserve.new.self
    c.member-member.result.now c.appends_left.result c.votes_left.result
    (subst (IsFor c.in-Some.log) (sym c.member-member.ensures.member) for) c.appends_left.ensures
    c.votes_left.ensures c.in_default-reserve.ensures.ok c.in_default-reserve.ensures.told
    c.in_default-reserve.ensures.faults c.in_default-reserve.ensures.safe in
    let table = c.args.board.now.table in
    let new = c.run_member.new.log in
    subst (λ l. HaveRun g.D.Disk.told g.D.Disk.faults table c.args.hand.members l c.into_hand.result
    (with_present l 0 new)) (sym is)
    (subst (λ ms. HaveRun g.D.Disk.told g.D.Disk.faults table ms (Some c.in-Some.log ∷ []) c.into_hand.result
    (Some new ∷ [])) (sym c.in-Ok.ensures.member)
    (run_served g.D.Disk.told g.D.Disk.faults table c.in-Ok.seated.member c.run_member.new.seated.member c.in-Some.log
    c.reserve.new.self new c.into_hand.result
    (c.into_hand.ensures.table ∙ c.run_member.ensures.table ∙ c.in-Ok.ensures.table ∙ c.requires.board)
    c.into_hand.ensures.members c.run_member.ensures.ended c.run_member.ensures.gone
    (subst (HasServed g.D.Disk.told g.D.Disk.faults c.in-Some.log c.reserve.new.self) c.member-member.ensures.member
    both.0)))
