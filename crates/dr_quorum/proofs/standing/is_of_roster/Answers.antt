use Rattle.std.proofs.Common.{◌≡◌, ◌≢◌, ◌-◌, ◌^◌, length, rules}
use Rattle.dr_words.{specs.Masks.without, proofs.Masks.roster_decides}
use Rattle.dr_quorum.proofs.standing.is_of_roster.Goals as goal

pub returns-then-members-ne0 : goal.returns-then-members-ne0
returns-then-members-ne0 c =
    let n = c.args.script.now.members in
    let same : c.bits.result ≡ without c.args.members (2 ^ n - 1) = search rules in
    let some : c.args.members ≢ 0 = search rules in
    rw same (roster_decides (length c.args.script.now.messages) c.args.members n (search rules) c.requires.lists some)
