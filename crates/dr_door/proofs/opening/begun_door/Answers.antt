use Rattle.std.proofs.Common.{sym, ap, ◌∙◌, replicate, subst, arith}
use Rattle.dr_program.{specs.Running.{Running, begun_running}, proofs.OpeningForm.{begins_in_form, can_begin}}
use Rattle.dr_restart.specs.Groups.{group_of}
use Rattle.dr_program_laws.proofs.Beginning.{begun_valid}
use Rattle.dr_door.{specs.Inside.IsKept, proofs.Kept.kept_begun}
use Rattle.dr_door.proofs.opening.begun_door.Goals as goal

-- who is there is of the roster
pub setup_of-requires-clause-me : goal.setup_of-requires-clause-me
setup_of-requires-clause-me c =
    omega (arith, c.requires.group.sound.present c.args.me c.requires.present, c.requires.ranges.lists)

pub begin-requires-clause-ranges : goal.begin-requires-clause-ranges
begin-requires-clause-ranges c =
    can_begin (group_of c.args.script.now c.args.start.now) c.args.script.now.turns c.args.me
    c.in_ok-setup.setup c.requires.group c.in_ok-setup.ensures.setup

pub over-requires-clause-kept : goal.over-requires-clause-kept
over-requires-clause-kept c =
    let g = group_of c.args.script.now c.args.start.now in
    let s = c.in_ok-setup.setup in
    let is = c.in_ok-setup.ensures.setup in
    let words = c.in_ok-words.ensures.items_if_clones_equal (λ y e. e) ∙ ap (λ n. replicate n 0) c.words.ensures in
    subst (λ (r : Running). IsKept r.replica c.in_ok-words.words.items) (sym c.in_ok-begin.ensures.begun)
    (subst (IsKept (begun_running s).replica) (sym words)
    (kept_begun s (begins_in_form g c.args.script.now.turns c.args.me s c.requires.group c.requires.turns is).0.replica
    (begun_valid g c.args.script.now.turns c.args.me s c.requires.group is)))

pub returns : goal.returns
returns c =
    let words = c.in_ok-words.ensures.items_if_clones_equal (λ y e. e) ∙ ap (λ n. replicate n 0) c.words.ensures in (
      c.in_ok-setup.setup,
      c.in_ok-setup.ensures,
      c.over.ensures ∙ (λ z. record { member = c.in_ok-begin.ensures.begun z; words = words z }),
    )
