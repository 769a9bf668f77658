use Rattle.std.proofs.{Common.{◌≡◌, length}, lemmas.Bool.Decides.Decides-eqb}
use Rattle.dr_history.specs.Order.{messages_from}
use Rattle.dr_check.proofs.messages.keeps_index.Goals as goal

pub returns-in-Msg : goal.returns-in-Msg
returns-in-Msg c read past =
    let count : c.count_of.result ≡ length (messages_from c.in-Msg.sender read) = c.count_of.ensures read past in
    rw (c.in-Msg.is, ← count, ← c.from.ensures) (Decides-eqb c.from.result c.count_of.result)
