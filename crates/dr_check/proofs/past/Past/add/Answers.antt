use Rattle.std.proofs.Common.{◌++◌, ◌∷◌, [], sym, subst}
use Rattle.dr_entry.specs.declared.entry.Entry.{Entry, TheVariants.Msg}
use Rattle.dr_check.{specs.{Past.IsPast, declared.past.Past.Past}, proofs.Passing.{past_View, past_Msg, same_past}}
use Rattle.dr_check.proofs.past.Past.add.Goals as goal

pub returns-in-View : goal.returns-in-View
returns-in-View c read few is =
    let before : Past = c.args.self.now in
    rw (c.in-View.is, c.new.ensures) (past_View read before c.in-View.age c.in-View.number c.in-View.members is)

pub returns-in-Msg : goal.returns-in-Msg
returns-in-Msg c read few is =
    let old : Past = c.args.self.now in
    subst (λ (e : Entry). IsPast (read ++ e ∷ []) c.count.new.self) (sym c.in-Msg.is)
    (subst (IsPast (read ++ Msg c.in-Msg.sender c.in-Msg.index c.in-Msg.bytes ∷ []))
    (same_past _ c.count.new.self (sym c.count.ensures.view) (sym c.count.ensures.counts))
    (past_Msg read old c.in-Msg.sender c.in-Msg.index c.in-Msg.bytes few c.count.ensures.small is))
