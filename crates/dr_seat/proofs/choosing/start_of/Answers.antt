use Rattle.dr_quorum.specs.Handing.{handed_by}
use Rattle.dr_seat.proofs.Starts.{present_of, short_of}
use Rattle.dr_seat.proofs.choosing.start_of.Goals as goal

pub returns-in-Ok : goal.returns-in-Ok
returns-in-Ok c =
    let group = c.choices_are_sound.ensures.group c.args.script.now (handed_by c.args.lists.now) c.in-Ok.start
    c.requires.ranges c.in-Ok.ensures.start in
    record {
      opens = record {
        group = group;
        valid = c.chosen_entries_are_valid.ensures c.args.script.now (handed_by c.args.lists.now) c.in-Ok.start
            c.requires.ranges c.in-Ok.ensures.start;
        few = short_of c.args.script.now c.in-Ok.start group;
      };
      present = present_of c.args.script.now c.args.lists.now c.args.me c.in-Ok.start c.requires.ranges
          c.in-Ok.ensures.start c.requires.within c.requires.own;
    }
