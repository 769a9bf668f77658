use Rattle.std.proofs.Common.{◌+◌, refl, subst}
use Rattle.dr_seat.specs.Seats.{IsNext, IsTold, SeatOf}
use Rattle.dr_seat.proofs.Told.{told-number}
use Rattle.dr_seat.proofs.seat.Seat.next.Goals as goal

settled : (c : goal.After-due) → IsNext c.args.self.now c.seek.new.self c.due.result
settled c = record {
  tells = c.due.ensures;
  same = c.seek.ensures.stays;
  number = λ free. told-number c.seek.new.self (c.args.self.now.duty.number + 1) c.due.result c.due.ensures
      (c.seek.ensures.number free);
  on = c.seek.ensures.on;
}

pub returns : goal.returns
returns c = (
  (refl, λ _. tt, settled c),
  record {
    same = λ busy. subst (λ (s : SeatOf). IsTold s c.due.result) (c.seek.ensures.stays busy) c.due.ensures;
    number = (settled c).number;
    told = tt;
  },
)
