use Rattle.std.proofs.{Common.{◌&&◌, sym, ap, ◌∙◌}, Math.Bool.and-true}
use Rattle.dr_program.specs.{Running.{crashes_in_turn, crashes_now, push_or_crash}, Steps.allows}
use Rattle.dr_program.proofs.{Parts.inner_part, RunningPrograms.crash_alone, Search.{applies_at, idle_outside}}
use Rattle.dr_member.specs.Search.{standing}
use Rattle.dr_member.proofs.search.applies_outside.Goals as goal

pub returns-in-Crash : goal.returns-in-Crash
returns-in-Crash c =
    let r = standing c.args.replica.now c.args.fate.now c.args.place in
    c.crashes_in_turn.ensures c.args.replica.now c.args.place c.requires.fate ∙ sym (and-true (crashes_in_turn r))
    ∙ ap (λ x. applies_at r x c.args.place.row c.args.place.column) (sym c.in-Crash.is ∙ c.part_of.ensures)

pub returns-then-has_changed : goal.returns-then-has_changed
returns-then-has_changed c =
    let r = standing c.args.replica.now c.args.fate.now c.args.place in
    let p = c.args.place in
    c.crashes_now.ensures c.args.replica.now p c.requires.fate ∙ crash_alone r p.row p.column c.requires.outside
    ∙ (λ z. (sym (sym c.is_other.ensures ∙ c.if-is_other.true) z
    && sym (sym c.has_changed.ensures ∙ c.if-has_changed.true) z)
    && allows r.replica (push_or_crash (crashes_now r) p.row p.column))
    ∙ ap (λ x. applies_at r x p.row p.column) (sym c.in-Push.is ∙ c.part_of.ensures)

pub returns-in-Look : goal.returns-in-Look
returns-in-Look c =
    let r = standing c.args.replica.now c.args.fate.now c.args.place in
    idle_outside r c.part_of.result.now c.args.place.row c.args.place.column c.requires.outside
    (inner_part c.part_of.result.now c.in-Look.is)
    ∙ ap (λ x. applies_at r x c.args.place.row c.args.place.column) c.part_of.ensures
