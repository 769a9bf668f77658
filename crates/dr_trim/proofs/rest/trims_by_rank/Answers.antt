use Rattle.std.proofs.{Common.{◌≤◌, length, arith}, lemmas.List.length-map}
use Rattle.dr_history.proofs.MemberLemmas.{length_members_below}
use Rattle.dr_trim.proofs.rest.trims_by_rank.Goals as goal

pub push-requires : goal.push-requires
push-requires c =
    let few : length c.loop-member.trims.items ≤ c.loop-member.member =
    rw (c.loop-member.invariant, length-map) (length_members_below c.args.members c.loop-member.member) in
    search (arith, few)
