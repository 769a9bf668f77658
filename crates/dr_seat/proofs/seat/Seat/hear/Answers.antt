use Rattle.std.proofs.Common.{IfErr, OnOk, subst, sym}
use Rattle.dr_packet.specs.declared.Says.{Says}
use Rattle.dr_seat.specs.Seats.{IsHeard, IsUnheard}
use Rattle.dr_seat.proofs.seat.Seat.hear.Goals as goal

pub returns-in-Words-clause-fault : goal.returns-in-Words-clause-fault
returns-in-Words-clause-fault c = subst
    (λ (says : Says). IfErr c.words.result (IsUnheard c.args.self.now c.args.way.now.from says)) (sym c.in-Words.is)
    c.words.ensures.fault

pub returns-in-Words-clause-heard : goal.returns-in-Words-clause-heard
returns-in-Words-clause-heard c = subst
    (λ (says : Says). OnOk c.words.result (IsHeard c.args.self.now c.args.way.now.from says)) (sym c.in-Words.is)
    c.words.ensures.fit
