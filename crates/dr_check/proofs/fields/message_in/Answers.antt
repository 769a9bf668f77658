use Rattle.std.proofs.{Common.{◌≡◌, ◌⊎◌, inl, inr, ap, ◌∙◌, arith, length, Err}, lemmas.Bool.Decides.not_from_Decides}
use Rattle.hex.specs.{Hex.decode_of, declared.error.FromHexError.TheVariants.OutOfMemory}
use Rattle.dr_text.proofs.Hex.{err_message, ok_message}
use Rattle.dr_check.proofs.fields.message_in.Goals as goal

pub returns-in-Ok-clause-value : goal.returns-in-Ok-clause-value
returns-in-Ok-clause-value c bytes is same =
    let items = ok_message bytes c.in-Ok.bytes.items c.args.word.now is same c.in-Ok.ensures.ok in
    let whole = c.as_slice.ensures.value ∙ items in
    c.message_of.ensures.value (omega (arith, ap length whole, is.few)) ∙ whole

pub returns-else-is_memory-clause-value : goal.returns-else-is_memory-clause-value
returns-else-is_memory-clause-value c bytes is same = by c.in-Err.ensures.err
  where
    by : (c.in-Err.fault ≡ OutOfMemory) ⊎ (decode_of c.args.word.now ≡ Err c.in-Err.fault)
        → c.message_of-else-is_memory.result ≡ bytes
    by (inl memory) = absurd (not_from_Decides c.is_memory.result c.is_memory.ensures c.if-is_memory.false memory)
    by (inr fault) = c.message_of-else-is_memory.ensures.value (omega arith)
        ∙ err_message bytes c.args.word.now c.in-Err.fault is same fault
