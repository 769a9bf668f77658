use Rattle.std.proofs.{Common.{◌≤◌, All, drop, length, subst, arith}, lemmas.List.take_all}
use Rattle.dr_entry.{specs.declared.end.MemberEnd.MemberEnd, proofs.ListParts.most_more}
use Rattle.dr_text.proofs.age.longest.Goals.{then-own-longest, else-own-longest}
use Rattle.dr_text.proofs.age.longest.Goals as goal

pub loop-member-preserved : goal.loop-member-preserved
loop-member-preserved c =
    let own = c.own_entries-own.ensures in
    let most : (length c.loop-member.longest.now ≤ length c.if-own-longest.longest.now)
    × (length (drop c.args.start c.member-item.result.history) ≤ length c.if-own-longest.longest.now) =
    elim c.if-own-longest.branch [
      | then-own-longest w ↦ rw (w.longest-is, ← own) (omega arith, omega arith)
      | else-own-longest w ↦ rw (w.longest-is, ← own) (omega arith, omega arith)
    ] in
    most_more (λ (m : MemberEnd). length (drop c.args.start m.history)) c.args.members.now c.loop-member.member-index
    c.member-item.result (length c.loop-member.longest.now) (length c.if-own-longest.longest.now)
    c.loop-member-test.true c.member-item.is c.loop-member.invariant most.0 most.1

pub returns : goal.returns
returns c = subst (All (λ (m : MemberEnd). length (drop c.args.start m.history) ≤ length c.loop-member.longest.now))
    (take_all c.loop-member.member-index c.args.members.now (omega arith)) c.loop-member.invariant
