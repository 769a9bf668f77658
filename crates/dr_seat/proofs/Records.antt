-- Records of members, as logs take them.
use Rattle.std.proofs.Common.{◌≡◌, ◌≤◌, arith, refl}
use Rattle.dr_entry.specs.declared.record.Record.{Record}
use Rattle.dr_entry.specs.declared.record.Record.TheVariants as records
use Rattle.dr_log.specs.State.{as_entry, as_other, as_vote}
use Rattle.dr_log_bytes.specs.Content.{IsPlaced, OnLog}
use Rattle.dr_seat.specs.Books.{IsOfMember}

pub of_member_placed : (c : OnLog) (r : Record) → IsOfMember r → IsPlaced c r
of_member_placed c (records.Entry entry) is = tt
of_member_placed c (records.Vote vote) is = tt
of_member_placed c (records.AgeVote vote) is = absurd is
of_member_placed c (records.Cut keep) is = absurd is
of_member_placed c records.Upgrade is = absurd is

pub one_entry : (r : Record) → as_entry r ≤ 1
one_entry (records.Entry entry) = omega arith
one_entry (records.Vote vote) = omega arith
one_entry (records.AgeVote vote) = omega arith
one_entry (records.Cut keep) = omega arith
one_entry records.Upgrade = omega arith

pub one_vote : (r : Record) → as_vote r ≤ 1
one_vote (records.Entry entry) = omega arith
one_vote (records.Vote vote) = omega arith
one_vote (records.AgeVote vote) = omega arith
one_vote (records.Cut keep) = omega arith
one_vote records.Upgrade = omega arith

pub no_other : (r : Record) → IsOfMember r → as_other r ≡ 0
no_other (records.Entry entry) is = refl
no_other (records.Vote vote) is = refl
no_other (records.AgeVote vote) is = absurd is
no_other (records.Cut keep) is = absurd is
no_other records.Upgrade is = absurd is
