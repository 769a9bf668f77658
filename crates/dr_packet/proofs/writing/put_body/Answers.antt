use Rattle.dr_packet.proofs.Puts.{asked, handed, said}
use Rattle.dr_packet.proofs.writing.put_body.Goals as goal

pub returns-in-Ask-clause-body : goal.returns-in-Ask-clause-body
returns-in-Ask-clause-body c = said _ _ _ _ c.in-Ask.is (asked _ _ _ _ _ _ _ c.to_be_bytes.ensures
    c.to_be_bytes-in-Ask.ensures c.put.ensures c.put-in-Ask.ensures)

pub returns-in-Hand-clause-body : goal.returns-in-Hand-clause-body
returns-in-Hand-clause-body c = said _ _ _ _ c.in-Hand.is (handed _ _ _ _ _ _ _ _ _ c.to_be_bytes-in-Hand.ensures
    c.to_be_bytes-in-Hand-2.ensures c.put-in-Hand.ensures c.put-in-Hand-2.ensures c.put-in-Hand-3.ensures)
