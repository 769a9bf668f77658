use Rattle.dr_store.proofs.{Scanning.values_alike, Standing.{alike_at, not_refused}}
use Rattle.dr_store.proofs.laws.replicas_agree.Goals as goal

pub returns-clause-values : goal.returns-clause-values
returns-clause-values c key =
    let one = c.args.one.now in let other = c.args.other.now in let v = c.args.version in
    let here = not_refused one v c.requires.one_has in let there = not_refused other v c.requires.other_has in
    alike_at one other c.args.h.now c.args.more.now v key c.requires.one c.requires.other here.0 here.1
    there.0 there.1

pub returns-clause-scans : goal.returns-clause-scans
returns-clause-scans c prefix = values_alike c.args.one.now c.args.other.now prefix c.args.version
    (returns-clause-values c)
