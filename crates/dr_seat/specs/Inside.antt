-- How the fields of `Seat` hold what contracts see of it, and what always holds among them.
use Rattle.std.specs.Prelude.{◌≡◌, is_some, true}
use Rattle.dr_seat.specs.{Duties.IsDueOn, Seats.SeatOf, declared.seat.Seat.TheInside.Inside}

abbrev pub seat_inside : Inside → SeatOf
seat_inside a = record {
  opening = a.opening;
  book = a.book;
  gathering = a.gathering;
  run = a.run;
  post = a.post;
  duty = a.duty;
  is_end_told = a.is_end_told;
  ticks = a.ticks;
  durable = a.durable;
}

-- a member runs in a try alone, and a call that is due is the next one of the last append of its log
pub record IsInOrder (a : Inside) : Type 0 where
  pub tried : is_some a.run ≡ true → is_some a.opening.trial ≡ true
  pub due : IsDueOn a.book a.duty.pending
