-- The members of each view that somebody has come to are the same by all values by which worlds are reached.
use Rattle.std.proofs.Common.{arith, suc, sym, zero, ap, ℕ, ◌+◌, ◌<◌, ◌∙◌, ◌≡◌, ◌≤◌}
use Rattle.dr_entry.specs.declared.record.Value.{Value}
use Rattle.dr_machine.specs.{Group.Group, Run.PastGrew, World.World}
use Rattle.dr_faithful.{specs.Chosen.{Values, come_of, views_by}, proofs.ChosenViews.{views-first, views-next}}
use Rattle.dr_vote_laws.proofs.Values.{chosen_once, voted-since}
use Rattle.dr_world_laws.proofs.Reached.{Known}

-- so its value is the same
value-from : (g : Group) (one other : Values) (early late : World) (m k v : ℕ) → Known g one early
    → Known g other late → PastGrew early.past late.past → v < early.past.view m → v < late.past.view k
    → views_by g one v ≡ views_by g other v → one v ≡ other v
value-from g one other early late m k v before after grew l n same =
    let t = before.ballots m v l in
    let s = after.ballots k v n in
    chosen_once g (views_by g other) late v t.0 s.0 (one v) (other v) after.voting
    (voted-since g one other early late v t.0 (one v) grew same t.1) s.1

-- by induction on the view
pub same-views : (g : Group) (one other : Values) (early late : World) (m k v : ℕ) → Known g one early
    → Known g other late → PastGrew early.past late.past → v ≤ early.past.view m → v ≤ late.past.view k
    → views_by g one v ≡ views_by g other v
same-views g one other early late m k zero before after grew l n = views-first g one ∙ sym (views-first g other)
same-views g one other early late m k (suc v) before after grew l n =
    let next : v + 1 ≡ suc v = omega arith in
    let same = same-views g one other early late m k v before after grew (omega (arith, l)) (omega (arith, n)) in
    rw (← next) (views-next g one v ∙ ap (λ mask. come_of g.opening mask (one v).leavers) same
    ∙ ap (λ (x : Value). come_of g.opening (views_by g other v) x.leavers)
    (value-from g one other early late m k v before after grew (omega (arith, l)) (omega (arith, n)) same)
    ∙ sym (views-next g other v))
