use Rattle.std.proofs.Common.{sym, ap, ◌∙◌, arith}
use Rattle.dr_history.specs.Members.{has}
use Rattle.dr_program.proofs.OpeningForm.{can_begin}
use Rattle.dr_restart.specs.Groups.{group_of}
use Rattle.dr_play.proofs.opening.begun_member.Goals as goal

pub setup_of-requires-clause-present : goal.setup_of-requires-clause-present
setup_of-requires-clause-present c =
    sym (c.has.ensures ∙ ap (λ mask. has mask c.args.me) c.of.ensures) ∙ c.if-not-has.false

pub begin-requires-clause-ranges : goal.begin-requires-clause-ranges
begin-requires-clause-ranges c =
    can_begin (group_of c.args.script.now c.args.start.now) c.args.script.now.turns c.args.me
    c.in_ok-setup.setup c.requires.group c.in_ok-setup.ensures.setup

pub begin-requires-clause-turns : goal.begin-requires-clause-turns
begin-requires-clause-turns c = omega (arith, c.in_ok-setup.ensures.setup.turns, c.requires.ranges.some_turn)
