use Rattle.std.proofs.Common.{◌≡◌, ◌∙◌, Some, ap, arith, inr, sym}
use Rattle.std.proofs.lemmas.Result.{IfErr-weaker, on_ok_weaker}
use Rattle.dr_seat.specs.{Seats.{AreUnfit, SeatOf, age_run}, Words.IsFirstUnfit}
use Rattle.dr_seat.proofs.seat.Seat.words.Goals as goal

pub returns-clause-fault : goal.returns-clause-fault
returns-clause-fault c =
    let runs : age_run c.args.self.now ≡ Some c.args.age = grind (arith, c.self.view_is) in
    IfErr-weaker c.take.result (IsFirstUnfit c.in-Some.run'.door c.args.from c.args.words.now)
    (AreUnfit c.args.self.now c.args.from c.args.age c.args.words.now)
    (λ fault unfit. inr (
      c.in-Some.run',
      sym (ap (λ (s : SeatOf). s.run) c.self.view_is) ∙ c.in-Some.is,
      runs,
      unfit,
    ))
    c.take.ensures.unfit

pub returns-clause-fit : goal.returns-clause-fit
returns-clause-fit c =
    let runs : age_run c.args.self.now ≡ Some c.args.age = grind (arith, c.self.view_is) in
    on_ok_weaker c.take.result
    (λ fit. (c.in-Some.run', sym (ap (λ (s : SeatOf). s.run) c.self.view_is) ∙ c.in-Some.is, runs, fit))
    c.take.ensures.fit
