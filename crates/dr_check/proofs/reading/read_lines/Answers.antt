use Rattle.std.{specs.Prelude.{Option, IfNone, IfSome}, proofs.lemmas.Bool.eqb-true}
use Rattle.std.proofs.Common.{◌≡◌, ◌+◌, ◌∷◌, sym, ap, ◌∙◌, arith, subst, length, List, Some, None, ◌⊎◌, slice_get, drop}
use Rattle.dr_entry.proofs.ListFacts.{no_members}
use Rattle.dr_check.specs.{Course.{beginning, next_course}, Grammar.IsNoReportAt, Lines.{IsLineText, lines_of}}
use Rattle.dr_check.specs.{Progress.{HasRead, IsOnly}, declared.{course.Course.Course, line.Line.Line}}
use Rattle.dr_check.proofs.Ending.{all_read, no_end, none_read, one_more, stops}
use Rattle.dr_check.proofs.reading.read_lines.Goals as goal

pub loop-rest-init : goal.loop-rest-init
loop-rest-init c =
    let members = c.args.members in
    let text = c.args.text.now in
    subst (λ (d : Course). HasRead members text text c.new-found.result.items d) (sym c.begin-course.ensures)
    (subst (λ (ls : List Line). HasRead members text text ls (beginning members)) (sym c.new-found.ensures.items)
    (none_read members text))

pub returns-in_default-clause-none : goal.returns-in_default-clause-none
returns-in_default-clause-none c line is =
    let rest = c.loop-rest.rest.now in
    let bytes = c.split_at.result.0.now in
    let same : c.len.result + 1 ≡ line = cc in
    let number : length c.loop-rest.found.items + 1 ≡ line = omega (arith, same, c.len.ensures) in
    let here : slice_get (lines_of rest) 0 ≡ Some bytes =
    ap (λ ls. slice_get ls 0) c.line_end.ensures.first ∙ ap Some (sym c.split_at.ensures.front) in
    let why = subst (λ (o : Option (Line × Course)). IfNone o (((l : Line) → IsLineText l bytes → ⊥)
    ⊎ ((l : Line) × IsOnly l bytes × (next_course c.args.members c.loop-rest.course l ≡ None))))
    c.in_default.is c.in_ok-line.ensures.none in
    subst (IsNoReportAt c.args.members c.args.text.now) number
    (stops c.args.members c.args.text.now rest c.loop-rest.found.items c.loop-rest.course c.requires
    c.loop-rest.invariant bytes here why)

pub loop-rest-preserved : goal.loop-rest-preserved
loop-rest-preserved c =
    let members = c.args.members in
    let text = c.args.text.now in
    let rest = c.loop-rest.rest.now in
    let bytes = c.split_at.result.0.now in
    let parts : lines_of rest ≡ bytes ∷ lines_of c.split_at.result.1.now = c.line_end.ensures.first
    ∙ (ap (λ b. b ∷ lines_of (drop c.line_end.result rest)) (sym c.split_at.ensures.front)
    ∙ ap (λ b. bytes ∷ lines_of b) (sym c.split_at.ensures.back)) in
    let one = subst (λ (o : Option (Line × Course)). IfSome o (λ p. IsOnly p.0 bytes
    × (next_course members c.loop-rest.course p.0 ≡ Some p.1))) c.in-Some.is c.in_ok-line.ensures.some in
    subst (λ (ls : List Line). HasRead members text c.split_at.result.1.now ls c.in-Some.next)
    (sym c.in_ok-keep.ensures)
    (one_more members text rest c.loop-rest.found.items c.loop-rest.course c.requires c.loop-rest.invariant
    bytes c.in-Some.line c.in-Some.next c.split_at.result.1.now parts one.0 one.1)

pub returns-then-ended-clause-lines : goal.returns-then-ended-clause-lines
returns-then-ended-clause-lines c =
    let none = no_members c.loop-rest.rest.now
    (eqb-true (length c.loop-rest.rest.now) 0 (sym c.is_empty.ensures ∙ c.loop-rest-test.false)) in
    all_read c.args.members c.args.text.now c.loop-rest.rest.now c.loop-rest.found.items c.loop-rest.course
    c.requires c.loop-rest.invariant none c.if-ended.true

pub returns-clause-none : goal.returns-clause-none
returns-clause-none c line is =
    let same : c.len-2.result + 1 ≡ line = cc in
    let number : length c.loop-rest.found.items + 1 ≡ line = omega (arith, same, c.len-2.ensures) in
    let none = no_members c.loop-rest.rest.now
    (eqb-true (length c.loop-rest.rest.now) 0 (sym c.is_empty.ensures ∙ c.loop-rest-test.false)) in
    subst (IsNoReportAt c.args.members c.args.text.now) number
    (no_end c.args.members c.args.text.now c.loop-rest.rest.now c.loop-rest.found.items c.loop-rest.course
    c.requires c.loop-rest.invariant none c.if-ended.false)
