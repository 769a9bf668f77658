use Rattle.std.specs.{Prelude.{Vec, vec_capacity, Option}, declared.alloc.{AllocError.AllocError, Global.Global}}
use Rattle.std.proofs.Common.{◌≡◌, ◌≤◌, ◌+◌, ◌++◌, List, length, sym, ap, ◌∙◌, subst, arith, Result, Ok, Err, IsOk, is_ok, if◌then◌else◌, true≢false}
use Rattle.dr_log.specs.State.{LogState}
use Rattle.dr_threads.{specs.Answers.{IsHandAnswer, logs_of, room_of}, proofs.Halves.{Answer, both_longer, both_run}}
use Rattle.dr_threads.proofs.age.gather_ends.Goals as goal

-- the first list has room for both, so it has them all
gathered : {D : Type 0} (first second : Answer D) (r : Result (Unit {0}) AllocError)
    (logs more : Vec (Option (LogState D)) Global) (all : List (Option (LogState D))) → logs_of first ≡ logs.items
    → logs_of second ≡ more.items → room_of first ≡ vec_capacity logs
    → length (logs_of first) + length (logs_of second) ≤ room_of first
    → all ≡ (if is_ok r then logs.items ++ more.items else logs.items)
    → (length logs.items + length more.items ≤ vec_capacity logs → IsOk r) → all ≡ logs_of first ++ logs_of second
gathered first second r logs more all is are has room to fits = by r to (fits (omega (
  arith,
  room,
  ap length is,
  ap length are,
  has,
)))
  where
    by : (r : Result (Unit {0}) AllocError) → all ≡ (if is_ok r then logs.items ++ more.items else logs.items)
        → IsOk r → all ≡ logs_of first ++ logs_of second
    by (Ok x) to ok = to ∙ sym (λ z. is z ++ are z)
    by (Err x) to ok = absurd (true≢false (sym ok))

pub returns-in-Ok-Ok-clause-run : goal.returns-in-Ok-Ok-clause-run
returns-in-Ok-Ok-clause-run g c = λ before after logs more m n h k.
    let w = c.in-Ok-Ok in
    both_run g.D.Disk.told g.D.Disk.faults c.args.board.now.table before after logs more w.a w.b
    c.gather_hands.result w.logs.items w.more.items c.append-room.new.self.items m.all n.all
    c.gather_hands.ensures.table c.gather_hands.ensures.members
    (gathered c.args.first c.args.second c.append-room.result w.logs w.more c.append-room.new.self.items
    (ap logs_of w.is-0) (ap logs_of w.is-1) (ap room_of w.is-0) c.requires.room c.append-room.ensures.items
    (λ fits. c.append-room.ensures.succeeds (omega (arith, fits, w.logs.ok, w.more.ok)))
    ∙ (λ z. logs_of (w.is-0 z) ++ logs_of (w.is-1 z)))
    (subst (IsHandAnswer g.D.Disk.told g.D.Disk.faults c.args.board.now.table before logs) w.is-0 h)
    (subst (IsHandAnswer g.D.Disk.told g.D.Disk.faults c.args.board.now.table after more) w.is-1 k)

pub returns-in-Ok-Err-clause-run : goal.returns-in-Ok-Err-clause-run
returns-in-Ok-Err-clause-run g c = λ before after logs more m n h k.
    let w = c.in-Ok-Err in
    both_longer g.D.Disk.told g.D.Disk.faults c.args.board.now.table before after logs more
    c.append-room-in-Ok-Err.new.self.items c.args.first c.args.second
    (gathered c.args.first c.args.second c.append-room-in-Ok-Err.result w.logs w.more
    c.append-room-in-Ok-Err.new.self.items (ap logs_of w.is-0) (ap logs_of w.is-1) (ap room_of w.is-0)
    c.requires.room c.append-room-in-Ok-Err.ensures.items
    (λ fits. c.append-room-in-Ok-Err.ensures.succeeds (omega (arith, fits, w.logs.ok, w.more.ok)))) m.there n.there h k

pub returns-in-Err-Ok-clause-run : goal.returns-in-Err-Ok-clause-run
returns-in-Err-Ok-clause-run g c = λ before after logs more m n h k.
    let w = c.in-Err-Ok in
    both_longer g.D.Disk.told g.D.Disk.faults c.args.board.now.table before after logs more
    c.append-room-in-Err-Ok.new.self.items c.args.first c.args.second
    (gathered c.args.first c.args.second c.append-room-in-Err-Ok.result w.logs w.more
    c.append-room-in-Err-Ok.new.self.items (ap logs_of w.is-0) (ap logs_of w.is-1) (ap room_of w.is-0)
    c.requires.room c.append-room-in-Err-Ok.ensures.items
    (λ fits. c.append-room-in-Err-Ok.ensures.succeeds (omega (arith, fits, w.logs.ok, w.more.ok)))) m.there n.there h k

pub returns-clause-run : goal.returns-clause-run
returns-clause-run g c = λ before after logs more m n h k.
    let w = c.in-Err-Err in
    both_longer g.D.Disk.told g.D.Disk.faults c.args.board.now.table before after logs more
    c.append-room-in-Err-Err.new.self.items c.args.first c.args.second
    (gathered c.args.first c.args.second c.append-room-in-Err-Err.result w.logs w.more
    c.append-room-in-Err-Err.new.self.items (ap logs_of w.is-0) (ap logs_of w.is-1) (ap room_of w.is-0)
    c.requires.room c.append-room-in-Err-Err.ensures.items
    (λ fits. c.append-room-in-Err-Err.ensures.succeeds (omega (arith, fits, w.logs.ok, w.more.ok)))) m.there n.there h k
