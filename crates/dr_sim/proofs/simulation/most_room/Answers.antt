use Rattle.std.{specs.Prelude.None, proofs.{Common.{sym, ◌∙◌}, lemmas.List.get_or_read}}
use Rattle.dr_sim.proofs.simulation.most_room.Goals as goal

pub room_of-requires : goal.room_of-requires
room_of-requires c = c.requires c.loop-place.place-index c.in-Some.member
    (sym (get_or_read c.args.members.now c.loop-place.place-index c.place-item.result c.loop-place-test.true
    c.place-item.is None) ∙ c.in-Some.is)
