use Rattle.std.proofs.Common.{◌⊎◌, ◌∙◌, None, ap, inl, subst, sym}
use Rattle.dr_outcome.specs.{Outcome.{HasDone, SaysOnly}, declared.outcome.Outcome.Outcome}
use Rattle.dr_commands.specs.{Store.{Stores, store_ends}, StoreLines.last_values_text}
use Rattle.dr_commands.proofs.StoreOutcome.{values_said}
use Rattle.dr_commands.proofs.store.asking.ask_stores.Goals as goal

pub returns-in-Ok : goal.returns-in-Ok
returns-in-Ok g c = λ yard. subst (λ (o : Outcome). SaysOnly None yard yard o
    ⊎ HasDone (Stores c.args.key.now c.args.version c.args.bytes.now) store_ends yard yard o) (sym c.saying.ensures)
    (values_said c.args.key.now c.args.version c.args.bytes.now yard c.simulate_text-outcome.result c.in-Ok.text
    (c.in-Ok.ensures ∙ ap (last_values_text c.args.key.now c.args.version) c.as_slice.ensures)
    (c.simulate_text-outcome.ensures yard))

pub returns-in-Err : goal.returns-in-Err
returns-in-Err g c = λ yard. inl (c.without_ages.ensures.alone yard)
