use Rattle.std.proofs.Common.{◌≡◌, ◌∙◌, arith, bytes_eq, length, rules, take, true}
use Rattle.dr_tools.proofs.Forms.{numbered_by}
use Rattle.dr_tools.proofs.sweeps.forms.is_numbered.Goals as goal

pub returns : goal.returns
returns c =
    let begins : bytes_eq (take (length c.args.front.now) c.args.word.now) c.args.front.now ≡ true = search rules in
    numbered_by c.args.front.now c.args.word.now c.are_digits.result (omega arith) begins
    (c.are_digits.ensures ∙ search rules)
