use Rattle.std.proofs.Common.{rules, ◌≡◌, ◌+◌, ◌<◌, ◌^◌, ℕ, inr, subst, true, arith}
use Rattle.dr_log_bytes.specs.{Content.{IsPlaced, block_length, with_record}, Grammar.IsNoLog}
use Rattle.dr_log_bytes.proofs.Reading.{length_parsed, misplaced_read, next_parsed, record_inside}
use Rattle.dr_log_bytes.proofs.parsing.parse.Goals as goal

pub returns-then-not-may_take-clause-damaged : goal.returns-then-not-may_take-clause-damaged
returns-then-not-may_take-clause-damaged c at e =
    let here : c.loop-record.at ≡ at = cc (e) in
    let misplaced : ¬ IsPlaced c.loop-record.content c.in-Record.record = search rules in
    subst (IsNoLog c.args.bytes.now) here (inr (misplaced_read c.args.bytes.now c.loop-record.content
    c.loop-record.at c.in-Record.len c.in-Record.record c.loop-record.invariant c.in-Record.ensures misplaced))

pub loop-record-preserved : goal.loop-record-preserved
loop-record-preserved c =
    let placed : IsPlaced c.loop-record.content c.in-Record.record = search rules in
    let taken : c.take.new.self ≡ with_record c.in-Record.record c.loop-record.content = search rules in
    next_parsed c.args.bytes.now c.loop-record.content c.take.new.self c.loop-record.at c.in-Record.len
    c.in-Record.record c.loop-record.invariant c.in-Record.ensures placed taken

pub take-requires-clause-small : goal.take-requires-clause-small
take-requires-clause-small c = omega (
  arith,
  length_parsed c.args.bytes.now c.loop-record.content c.loop-record.at c.loop-record.invariant,
  record_inside c.args.bytes.now c.loop-record.at c.in-Record.len c.in-Record.record c.in-Record.ensures,
)
