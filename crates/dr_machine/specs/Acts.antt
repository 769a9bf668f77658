-- Acts and steps: when each may come, and what it makes of the world.
use Rattle.std.specs.Prelude.{ℕ}
use Rattle.dr_machine.specs.Effects.{beats, looks, pushes, sends, nulls, receives, delivers, appends, publishes, reports, marks, suspects, logs_vote, accepts, commits, ends, stamped_in, finishes, joins, welcomes}
use Rattle.dr_machine.specs.{Events.{member_of, step_of}, Group.Group}
use Rattle.dr_machine.specs.Guards.{CanBeat, CanLook, CanPush, CanSend, CanNull, CanReceive, CanDeliver, CanAppend, CanPublish, CanReport, CanMark, CanSuspect, CanLogVote, CanPropose, CanAccept, CanCommit, CanHalt, CanCrash, CanFinish, CanJoin, CanWelcome}
use Rattle.dr_machine.specs.{World.World, declared.{event.{Act.Act, Event.Event}, step.Step.Step}}
use Rattle.dr_machine.specs.declared.event.Act.TheVariants as acts
use Rattle.dr_machine.specs.declared.step.Step.TheVariants as steps

-- the act may come
abbrev pub CanDo : Group → World → ℕ → Act → Type 0
CanDo g w m acts.Beat = CanBeat g w m
CanDo g w m (acts.Receive s) = CanReceive g w m s
CanDo g w m acts.Send = CanSend g w m
CanDo g w m acts.Null = CanNull g w m
CanDo g w m acts.Deliver = CanDeliver g w m
CanDo g w m acts.Publish = CanPublish g w m
CanDo g w m acts.Report = CanReport g w m
CanDo g w m acts.Mark = CanMark g w m
CanDo g w m (acts.Suspect j) = CanSuspect g w m j
CanDo g w m acts.Propose = CanPropose g w m
CanDo g w m acts.Accept = CanAccept g w m
CanDo g w m acts.Commit = CanCommit g w m
CanDo g w m acts.Finish = CanFinish g w m
CanDo g w m (acts.Halt end) = CanHalt g w m end
CanDo g w m (acts.Crash end) = CanCrash g w m end

-- the step may come
abbrev pub CanTake : Group → World → ℕ → Step → Type 0
CanTake g w m (steps.Do a) = CanDo g w m a
CanTake g w m (steps.Look i c) = CanLook g w m i c
CanTake g w m (steps.Push j c) = CanPush g w m j c
CanTake g w m steps.Append = CanAppend g w m
CanTake g w m (steps.LogVote v) = CanLogVote g w m v
CanTake g w m (steps.Welcome j) = CanWelcome g w m j
CanTake g w m steps.Join = CanJoin g w m

-- the event may come
abbrev pub Guard : Group → World → Event → Type 0
Guard g w e = CanTake g w (member_of e) (step_of e)

-- what an act makes of the world, but for its stamp
abbrev pub does : Group → World → ℕ → Act → World
does g w m acts.Beat = beats w m
does g w m (acts.Receive s) = receives g w m s
does g w m acts.Send = sends g w m
does g w m acts.Null = nulls g w m
does g w m acts.Deliver = delivers w m
does g w m acts.Publish = publishes w m
does g w m acts.Report = reports w m
does g w m acts.Mark = marks w m
does g w m (acts.Suspect j) = suspects g w m j
does g w m acts.Propose = accepts g w m
does g w m acts.Accept = accepts g w m
does g w m acts.Commit = commits w m
does g w m acts.Finish = finishes g w m
does g w m (acts.Halt end) = ends w m end
does g w m (acts.Crash end) = ends w m end

-- what a step makes of it. An act is stamped in the view in which it was done
abbrev pub effect_of : Group → World → ℕ → Step → World
effect_of g w m (steps.Do a) = stamped_in (does g w m a) m (w.past.view m)
effect_of g w m (steps.Look i c) = looks w m i c
effect_of g w m (steps.Push j c) = pushes w m j c
effect_of g w m steps.Append = appends w m
effect_of g w m (steps.LogVote v) = logs_vote g w m v
effect_of g w m (steps.Welcome j) = welcomes w m j
effect_of g w m steps.Join = joins w m

-- what the event makes of the world
abbrev pub effect : Group → World → Event → World
effect g w e = effect_of g w (member_of e) (step_of e)
