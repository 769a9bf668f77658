use Rattle.std.proofs.{Common.{◌++◌, ◌∙◌, ap, append_assoc, string_bytes, codes}, lemmas.Result.on_ok_weaker}
use Rattle.dr_text.specs.Report.{mask_text}
use Rattle.dr_text.proofs.ends.push_no_majority.Goals as goal

pub returns : goal.returns
returns c = on_ok_weaker c.push_mask.result
    (λ written. written ∙ ap (λ text. text ++ mask_text c.args.mask) c.in_ok-push_str.ensures.bytes
    ∙ append_assoc (string_bytes c.args.out.now) (codes "nomajority ") (mask_text c.args.mask)) c.push_mask.ensures
