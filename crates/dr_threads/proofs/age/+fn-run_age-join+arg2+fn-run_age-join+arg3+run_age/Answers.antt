use Rattle.std.proofs.Common.{◌≡◌, ◌≤◌, Err, length, vec_capacity, rules, arith}
use Rattle.dr_threads.{specs.Answers.{IsHandAnswer, logs_of, room_of}, proofs.Halves.{as_many_logs, same_longer}}
use Rattle.dr_threads.proofs.age.+fn-run_age-join+arg2+fn-run_age-join+arg3+run_age.Goals as goal

-- no half was made, so the logs are as they were
pub returns-in_err-left-clause-run : goal.returns-in_err-left-clause-run
returns-in_err-left-clause-run g n c =
    let answer : c.from_residual.result ≡ Err c.in_err-left.field-0.0 = search rules in
    let same : c.in_err-left.field-0.0.0 ≡ c.args.logs = search rules in
    rw answer (rw same (same_longer g.D.Disk.told g.D.Disk.faults c.args.logs.items))

-- the first list of logs has room for both
pub gather_ends-requires-clause-room : goal.gather_ends-requires-clause-room
gather_ends-requires-clause-room g t c = λ κs within.
    let left = c.in_ok-left in
    let room = left.ensures.room.1 in
    let table = c.args.board.now.table in
    let first : IsHandAnswer g.D.Disk.told g.D.Disk.faults table left.left.members left.logs.items
    c.join-first.result.0 = c.join-first.ensures.first.0 in
    let holds : vec_capacity left.logs ≤ room_of c.join-first.result.0 = c.join-first.ensures.first.1 in
    let second : IsHandAnswer g.D.Disk.told g.D.Disk.faults table left.right.members left.more.items
    c.join-first.result.1 = c.join-first.ensures.second in
    let firsts : length (logs_of c.join-first.result.0) ≡ length left.logs.items =
    as_many_logs _ _ table left.left.members left.logs.items c.join-first.result.0 first in
    let seconds : length (logs_of c.join-first.result.1) ≡ length left.more.items =
    as_many_logs _ _ table left.right.members left.more.items c.join-first.result.1 second in
    omega (arith, room, holds, firsts, seconds)
