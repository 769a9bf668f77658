use Rattle.std.proofs.Common.{refl, rules}
use Rattle.dr_io.{specs.Faults.Rose, proofs.KnownLemmas.loses_nothing}
use Rattle.dr_intake.specs.Answer.{no_memory, no_source, usage}
use Rattle.dr_intake.proofs.call.read_for.Goals as goal

pub returns-in_default-clause-unread : goal.returns-in_default-clause-unread
returns-in_default-clause-unread g c = usage (search rules) (loses_nothing (g.S.Source.left c.args.source.now)) refl

pub returns-in-Err-Failed-clause-unread : goal.returns-in-Err-Failed-clause-unread
returns-in-Err-Failed-clause-unread g c =
    let rose : Rose (g.S.Source.faults c.args.source.now) (g.S.Source.faults c.read_all.new.source) = search rules in
    no_source c.in-Some.asked c.in-Some.is refl rose refl

pub returns-clause-unread : goal.returns-clause-unread
returns-clause-unread g c = no_memory c.in-Some.asked c.in-Some.is refl
