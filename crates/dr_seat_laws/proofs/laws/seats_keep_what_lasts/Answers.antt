use Rattle.dr_seat_laws.proofs.Lasting.{agree, begins, durable, lasts, logged}
use Rattle.dr_seat_laws.proofs.laws.seats_keep_what_lasts.Goals as goal

pub returns : goal.returns
returns c = record { lasts = lasts; begins = begins; logged = logged; agree = agree; durable = durable }
