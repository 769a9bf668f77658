use Rattle.std.proofs.Common.{◌≡◌, arith, rules}
use Rattle.dr_log_bytes.specs.Content.{IsPlaced, with_record}
use Rattle.dr_log_bytes.proofs.Reading.{length_parsed, next_parsed, record_inside}
use Rattle.dr_folder.proofs.Fronts.{closed_front, gateless_front, misplaced_front}
use Rattle.dr_folder.proofs.survey.front_of.Goals as goal

pub loop-record-preserved : goal.loop-record-preserved
loop-record-preserved c =
    let placed : IsPlaced c.loop-record.content c.in-Record.record = search rules in
    let taken : c.take.new.self ≡ with_record c.in-Record.record c.loop-record.content = search rules in
    next_parsed c.args.bytes.now c.loop-record.content c.take.new.self c.loop-record.at c.in-Record.len
    c.in-Record.record c.loop-record.invariant c.in-Record.ensures placed taken

pub take-requires-clause-small : goal.take-requires-clause-small
take-requires-clause-small c = omega (
  arith,
  length_parsed c.args.bytes.now c.loop-record.content c.loop-record.at c.loop-record.invariant,
  record_inside c.args.bytes.now c.loop-record.at c.in-Record.len c.in-Record.record c.in-Record.ensures,
)

pub returns-in-Closed : goal.returns-in-Closed
returns-in-Closed c = closed_front c.args.bytes.now c.loop-record.content c.loop-record.at c.loop-record.invariant
    c.in-Closed.ensures

pub returns-in-Broken : goal.returns-in-Broken
returns-in-Broken c =
    let told = c.broken_off-in-Broken.result in
    let is = c.broken_off-in-Broken.ensures in
    gateless_front c.args.bytes.now c.loop-record.content told.content c.loop-record.at told.at told.closed
    c.loop-record.invariant c.in-Broken.ensures is.content is.at is.closed

pub returns-then-not-may_take : goal.returns-then-not-may_take
returns-then-not-may_take c =
    let told = c.broken_off-then-not-may_take.result in
    let is = c.broken_off-then-not-may_take.ensures in
    let misplaced : ¬ IsPlaced c.loop-record.content c.in-Record.record = search rules in
    misplaced_front c.args.bytes.now c.loop-record.content told.content c.loop-record.at told.at c.in-Record.len
    told.closed c.in-Record.record c.loop-record.invariant c.in-Record.ensures misplaced is.content is.at is.closed
