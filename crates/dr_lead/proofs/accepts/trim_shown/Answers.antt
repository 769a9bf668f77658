use Rattle.std.proofs.Common.{◌≡◌, ◌<◌, ◌^◌, refl, arith}
use Rattle.dr_words.specs.{Columns.trim_column, Packing.accept_value}
use Rattle.dr_lead.specs.Accepts.{trim_word}
use Rattle.dr_lead.proofs.accepts.trim_shown.Goals as goal

pub overflow_cast-result : goal.overflow_cast-result
overflow_cast-result c =
    let small : accept_value (trim_word c.args.rows.now c.args.row c.args.sender) < 2 ^ 32 =
    (c.requires.shape.form c.args.row (trim_column c.args.rows.now.members c.args.sender)).trim
    c.args.sender c.requires.sender refl in
    let shown : c.unpack_accept.result.2 ≡ accept_value (trim_word c.args.rows.now c.args.row c.args.sender) = cc in
    omega arith
