-- Events: whose each is, and what it is.
use Rattle.std.specs.Prelude.{ℕ}
use Rattle.dr_machine.specs.declared.event.Act.TheVariants as acts
use Rattle.dr_machine.specs.declared.{event.Event.Event, step.Step.Step}
use Rattle.dr_machine.specs.declared.event.Event.TheVariants.{Beat, Look, Push, Send, Null, Receive, Deliver, Append, Publish, Report, Mark, Suspect, LogVote, Propose, Accept, Commit, Halt, Crash, Finish, Welcome, Join}
use Rattle.dr_machine.specs.declared.step.Step.TheVariants as steps

-- the member that an event is of
abbrev pub member_of : Event → ℕ
member_of (Beat m) = m
member_of (Look m i c) = m
member_of (Push m j c) = m
member_of (Send m) = m
member_of (Null m) = m
member_of (Receive m s) = m
member_of (Deliver m) = m
member_of (Append m) = m
member_of (Publish m) = m
member_of (Report m) = m
member_of (Mark m) = m
member_of (Suspect m j) = m
member_of (LogVote m v) = m
member_of (Propose m) = m
member_of (Accept m) = m
member_of (Commit m) = m
member_of (Finish m) = m
member_of (Halt m end) = m
member_of (Crash m end) = m
member_of (Welcome m j) = m
member_of (Join m) = m

-- what it is of that member
abbrev pub step_of : Event → Step
step_of (Beat m) = steps.Do acts.Beat
step_of (Look m i c) = steps.Look i c
step_of (Push m j c) = steps.Push j c
step_of (Send m) = steps.Do acts.Send
step_of (Null m) = steps.Do acts.Null
step_of (Receive m s) = steps.Do (acts.Receive s)
step_of (Deliver m) = steps.Do acts.Deliver
step_of (Append m) = steps.Append
step_of (Publish m) = steps.Do acts.Publish
step_of (Report m) = steps.Do acts.Report
step_of (Mark m) = steps.Do acts.Mark
step_of (Suspect m j) = steps.Do (acts.Suspect j)
step_of (LogVote m v) = steps.LogVote v
step_of (Propose m) = steps.Do acts.Propose
step_of (Accept m) = steps.Do acts.Accept
step_of (Commit m) = steps.Do acts.Commit
step_of (Finish m) = steps.Do acts.Finish
step_of (Halt m end) = steps.Do (acts.Halt end)
step_of (Crash m end) = steps.Do (acts.Crash end)
step_of (Welcome m j) = steps.Welcome j
step_of (Join m) = steps.Join

-- the event that a step of a member is
abbrev pub event_of : ℕ → Step → Event
event_of m (steps.Do acts.Beat) = Beat m
event_of m (steps.Do (acts.Receive s)) = Receive m s
event_of m (steps.Do acts.Send) = Send m
event_of m (steps.Do acts.Null) = Null m
event_of m (steps.Do acts.Deliver) = Deliver m
event_of m (steps.Do acts.Publish) = Publish m
event_of m (steps.Do acts.Report) = Report m
event_of m (steps.Do acts.Mark) = Mark m
event_of m (steps.Do (acts.Suspect j)) = Suspect m j
event_of m (steps.Do acts.Propose) = Propose m
event_of m (steps.Do acts.Accept) = Accept m
event_of m (steps.Do acts.Commit) = Commit m
event_of m (steps.Do acts.Finish) = Finish m
event_of m (steps.Do (acts.Halt end)) = Halt m end
event_of m (steps.Do (acts.Crash end)) = Crash m end
event_of m (steps.Look i c) = Look m i c
event_of m (steps.Push j c) = Push m j c
event_of m steps.Append = Append m
event_of m (steps.LogVote v) = LogVote m v
event_of m (steps.Welcome j) = Welcome m j
event_of m steps.Join = Join m
