use Rattle.std.proofs.{Common.{sym, ◌∙◌, subst, List}, lemmas.Option.{IfSome_then, none-some, same_Some}}
use Rattle.dr_entry.{specs.declared.entry.Entry.Entry, proofs.OptionFacts.IfNone_then}
use Rattle.dr_restart.specs.{Choosing.EndsInAge, Refusing.IsHeldBy, declared.lists.LogLists.LogLists}
use Rattle.dr_quorum.specs.Handing.{handed_by}
use Rattle.dr_quorum.proofs.holders.held.Goals as goal

pub returns-in-Some-clause-some : goal.returns-in-Some-clause-some
returns-in-Some-clause-some c = IfSome_then c.entries_ending.result c.entries_ending.ensures.some
    (λ es p. (c.in-Some.log.now, sym c.in-Some.ensures, p.0, p.1))

pub returns-in-Some-clause-none : goal.returns-in-Some-clause-none
returns-in-Some-clause-none c = IfNone_then c.entries_ending.result (EndsInAge c.in-Some.log.now c.args.age → ⊥)
    ((es : List Entry) → IsHeldBy (handed_by c.args.lists.now) c.args.age c.args.member es → ⊥)
    c.entries_ending.ensures.none (λ p es x. p (subst (λ (log : LogLists). EndsInAge log c.args.age)
    (same_Some x.0 c.in-Some.log.now (sym x.1 ∙ sym c.in-Some.ensures)) x.2))

pub returns-in-None-clause-none : goal.returns-in-None-clause-none
returns-in-None-clause-none c es x = absurd (none-some x.0 (c.in-None.ensures ∙ x.1))
