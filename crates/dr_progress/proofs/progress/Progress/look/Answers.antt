use Rattle.std.proofs.Common.{inr, rules}
use Rattle.dr_progress.proofs.progress.Progress.look.Goals as goal

pub returns-in-Some-2 : goal.returns-in-Some-2
returns-in-Some-2 g c = rw (← c.self.view_is) (inr (record {
  at = c.in-Some.due;
  was_due = c.in-Some.is;
  late = search rules;
  later = search rules;
  wrote = c.say.ensures.wrote;
  next = c.say.ensures.next;
  run = c.say.ensures.run;
  runs = c.say.ensures.runs;
  age = c.say.ensures.age;
  turns = c.say.ensures.turns;
}))
