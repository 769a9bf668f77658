use Rattle.std.{specs.Prelude.None, proofs.{Common.{sym, ◌∙◌, arith}, lemmas.List.get_or_read}}
use Rattle.dr_program.proofs.Present.{present_within}
use Rattle.dr_table.proofs.board.first_present.Goals as goal

pub returns-in-Some : goal.returns-in-Some
returns-in-Some c = (
  c.loop-place.place-index,
  sym (get_or_read c.args.members.now c.loop-place.place-index c.place-item.result c.loop-place-test.true
      c.place-item.is None) ∙ c.in-Some.is,
)

pub unreachable-requires : goal.unreachable-requires
unreachable-requires c =
    let (k, r, there) = c.requires in
    let within = present_within c.args.members.now k r there in
    absurd (cc (c.loop-place.invariant k (omega (arith, within, c.loop-place-test.false)), there))
