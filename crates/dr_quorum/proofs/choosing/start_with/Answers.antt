use Rattle.std.proofs.Common.{rules, refl, ◌≡◌, ◌<◌, ◌^◌}
use Rattle.dr_history.specs.Soundness.{whole_roster}
use Rattle.dr_restart.{specs.{Choosing.handed_of, Groups.first_group_of}, proofs.Sounding.chosen_start}
use Rattle.dr_quorum.specs.Handing.{handed_by}
use Rattle.dr_quorum.proofs.choosing.start_with.Goals as goal

pub returns-clause-start : goal.returns-clause-start
returns-clause-start c =
    let present : c.bits-members.result ≡ handed_of (handed_by c.args.lists.now)
    (whole_roster (first_group_of c.args.script.now).opening) = search rules in
    let same : c.in_ok-copy_of.field-0 ≡ c.args.entries.now = search rules in
    let left : c.args.age < 2 ^ 16 = search rules in
    chosen_start (first_group_of c.args.script.now).opening (handed_by c.args.lists.now) (record {
      age = c.args.age;
      members = c.bits-members.result;
      present = c.bits-members.result;
      entries = c.in_ok-copy_of.field-0;
    }) c.args.entries.now c.requires.enough c.requires.chosen same c.requires.after left present refl
