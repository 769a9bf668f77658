-- What a door leaves on a log is what a stop may leave in the world of the program that all doors are.
use Rattle.std.proofs.Common.{◌≡◌, sym, subst, inl, inr, ℕ, ◌+◌, ◌<◌, ◌≤◌, true, List, Contains, take, Some}
use Rattle.dr_calls.specs.Wire.{HasCome, HaveCome, IsOpened, IsRunSince, Voted, Wire, logs_in, moment}
use Rattle.dr_calls.proofs.Lasting.{durable, kept-of}
use Rattle.dr_door.specs.{Apart.Apart, Lone.Lone}
use Rattle.dr_door.proofs.Apart.{IsOfDoors, doors_kept, there_is}
use Rattle.dr_door_logs.specs.Leaving.{AreAgesOfDoors, IsAgeOfDoors, IsLeftByDoor, IsLogOfDoor}
use Rattle.dr_entry.specs.declared.entry.Entry.{Entry}
use Rattle.dr_history.{specs.{History.IsPrefixOf, Members.has}, proofs.Lists.prefix_refl}
use Rattle.dr_kept.proofs.{Appending.may_come, Leaving.{HasLeft, left_by_running}}
use Rattle.dr_log_bytes.specs.Content.{OnLog}
use Rattle.dr_machine.specs.{Group.{Group, IsPresent}, World.opening_world}
use Rattle.dr_program.{specs.Form.IsRunningMember, proofs.RunningPrograms.idle_at}
use Rattle.dr_program.specs.{Presence.present_at, Program.Program, Reading.world, Turn.part_of}
use Rattle.dr_program.proofs.Deeds.{of_there}
use Rattle.dr_quorum_laws.specs.Lasting.{AreDurableIn, AreLasting}
use Rattle.dr_restart.specs.{Choosing.of_set, Groups.{first_group_of, group_of}, Left.IsLeftByMember}
use Rattle.dr_restart.{specs.declared.lists.LogLists.LogLists, proofs.Sounding.choice-group}
use Rattle.dr_script.specs.{Ranges.HasGroupRanges, declared.script.Script.Script}
use Rattle.dr_served.proofs.Served.{append_next}
use Rattle.dr_world_laws.proofs.Worlds.{known}

-- a record that a door was to append is one that its member may bring
may-leave : (base found : OnLog) (d : Lone) → IsRunningMember d.member → IsLeftByDoor base d found
    → HasLeft base d.member.replica found
may-leave base found d form (inl just) = inl just
may-leave base found d form (inr inside) = inr (inl (record {
  next = inside.next;
  may = may_come d.member inside.next form (inl inside.due);
  idle = idle_at d.member (part_of d.member.place) d.member.place.row d.member.place.column
      (append_next d.member inside.next inside.due) form.free;
  before = inside.before;
  logged = inside.logged;
  is = inside.is;
}))

left-by-door : (g : Group) (a : Apart) (p : Program) (m : ℕ) (log : LogLists) → IsOfDoors g a p
    → IsLogOfDoor g.opening.age a m log → IsLeftByMember g (world g p) m log
left-by-door g a p m log is l =
    let there : present_at p.members m ≡ Some l.door.member = there_is g a p m l.door is l.there in
    subst (IsLeftByMember g (world g p) m) (sym l.is) (left_by_running g p m l.door.member l.base l.found (record {
      group = is.carried.group;
      form = is.carried.form;
      known = known g (world g p) is.carried.group (is.carried.before, is.carried.way);
      there = there;
      earlier = l.earlier;
    }) (may-leave l.base l.found l.door (is.carried.form.form m l.door.member there) l.left))

-- what the member of a door knows to be durable
durable-by-door : (g : Group) (a : Apart) (p : Program) (m : ℕ) (d : Lone) → IsOfDoors g a p → IsPresent g m
    → present_at a.doors m ≡ Some d
    → AreDurableIn g (world g p) (take d.member.replica.durable d.member.replica.history)
durable-by-door g a p m d is present stands =
    let there : present_at p.members m ≡ Some d.member = there_is g a p m d is stands in (
      m,
      present,
      subst (λ h. IsPrefixOf (take d.member.replica.durable d.member.replica.history)
          (take ((world g p).past.durable m) h))
          (sym (of_there p (λ x. x.history) (opening_world g).past.history m d.member there))
          (subst (λ n. IsPrefixOf (take d.member.replica.durable d.member.replica.history)
          (take n d.member.replica.history))
          (sym (of_there p (λ x. x.durable) (opening_world g).past.durable m d.member there))
          (prefix_refl (take d.member.replica.durable d.member.replica.history))),
    )

-- ---- the age of a call

-- the doors of its age, as one program
program-of : (script : Script) (begun w : Wire) (v : Voted) (a : Apart) → HasGroupRanges script → 1 ≤ script.turns
    → IsRunSince (first_group_of script).opening begun w → Contains w.votes v → IsAgeOfDoors script w v a
    → (p : Program) × IsOfDoors (group_of script v.start) a p
program-of script begun w v a ranges some run c is =
    let was = (kept-of (first_group_of script).opening begun w run).cast v c in
    doors_kept script v.start is.nth is.begun a
    (choice-group script (of_set v.logs v.call.set) v.start ranges was.chosen) ranges.lists some is.begins is.ran

-- its world has left what stands on the logs
come-by : (script : Script) (w : Wire) (v : Voted) (a : Apart) (p : Program) → IsAgeOfDoors script w v a
    → IsOfDoors (group_of script v.start) a p → HasCome script w v (world (group_of script v.start) p)
come-by script w v a p is of = record {
  reached = (of.carried.before, of.carried.way);
  left = λ m inside. left-by-door (group_of script v.start) a p m (moment w (v.call.age + 1) m) of (is.logs m inside);
}

pub ages-come : (script : Script) (begun w : Wire) → HasGroupRanges script → 1 ≤ script.turns
    → IsRunSince (first_group_of script).opening begun w → AreAgesOfDoors script w → HaveCome script w
ages-come script begun w ranges some run ages v c d =
    let age = ages v c d in
    let p = program-of script begun w v age.0 ranges some run c age.1 in
    (world (group_of script v.start) p.0, come-by script w v age.0 p.0 age.1 p.1)

pub door-durable : (script : Script) (es : List Entry) (begun w : Wire) (v u : Voted) (a : Apart) (m : ℕ) (d : Lone)
    → HasGroupRanges script → 1 ≤ script.turns → IsRunSince (first_group_of script).opening begun w
    → AreAgesOfDoors script w → AreLasting script es (logs_in (first_group_of script).opening begun)
    → Contains w.votes v → Contains w.ages v.call → IsAgeOfDoors script w v a → has v.call.set m ≡ true
    → present_at a.doors m ≡ Some d → Contains w.votes u → IsOpened w u.call → v.call.age < u.call.age
    → IsPrefixOf (take d.member.replica.durable d.member.replica.history) u.start.entries
door-durable script es begun w v u a m d ranges some run ages lasts c begins is inside there cast-later opened later =
    let g = group_of script v.start in
    let p = program-of script begun w v a ranges some run c is in
    durable script es (take d.member.replica.durable d.member.replica.history) begun w v u (world g p.0) ranges run
    (ages-come script begun w ranges some run ages) lasts c begins (come-by script w v a p.0 is p.1)
    (durable-by-door g a p.0 m d p.1
    (subst (λ set. has set m ≡ true) (sym ((kept-of (first_group_of script).opening begun w run).cast v c).present) inside) there)
    cast-later opened later
