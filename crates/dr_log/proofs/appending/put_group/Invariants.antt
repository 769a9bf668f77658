use Rattle.std.proofs.Common.{◌≡◌, ◌≤◌, ◌+◌, ◌-◌, ◌*◌, [], ◌∷◌, ◌++◌, Option, IfSome, drop, length}
use Rattle.dr_disk.specs.Disk.{Told, content_of}
use Rattle.dr_log.{specs.{Grouping.{StopsAmong, added_all}, Standing.entries_length}, proofs.Groups.left_calls}
use Rattle.dr_log.proofs.appending.put_group.Given as goal

abbrev pub invariant-loop-i : goal.invariant-loop-i
invariant-loop-i g l = record {
  gate : l.gate ≡ l.at - 1;
  begins : l.at ≤ l.end;
  calls : added_all (left_calls l.gate l.end (drop l.i l.first) l.last) (g.D.Disk.told l.disk)
      ≡ added_all (left_calls l.gate l.at l.first l.last) (g.D.Disk.told l.fn.disk);
  stops : (new : Option Told)
      → StopsAmong (left_calls l.gate l.end (drop l.i l.first) l.last) (g.D.Disk.told l.disk) new
      → StopsAmong (left_calls l.gate l.at l.first l.last) (g.D.Disk.told l.fn.disk) new;
  inside : IfSome (g.D.Disk.told l.disk) (λ told. l.end ≤ length (content_of told));
  left : l.end + entries_length (drop l.i l.first ++ l.last ∷ []) ≡ l.at + entries_length (l.first ++ l.last ∷ []);
  room_calls : g.D.Disk.room_calls l.fn.disk ≤ g.D.Disk.room_calls l.disk + l.i;
  room_bytes : g.D.Disk.room_bytes l.fn.disk ≤ g.D.Disk.room_bytes l.disk + 72 * l.i;
  faults : g.D.Disk.faults l.disk ≡ g.D.Disk.faults l.fn.disk;
}
