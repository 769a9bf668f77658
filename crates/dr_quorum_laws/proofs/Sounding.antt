-- A start that logs make is one that an age may start with.
use Rattle.std.specs.{Option.option_map_or, Prelude.Option}
use Rattle.std.proofs.{Common.{◌≡◌, sym, subst, arith, length, List, []}, lemmas.Option.slice_get_within}
use Rattle.dr_entry.specs.declared.{end.MemberEnd.MemberEnd, entry.Entry.Entry}
use Rattle.dr_history.{specs.{Agreement.accounts_of, History.IsPrefixOf}, proofs.Histories.AreFirstPartsOf}
use Rattle.dr_history_laws.specs.Parts.{AreFirstParts}
use Rattle.dr_restart.specs.{Groups.group_of, declared.start.Start.Start}
use Rattle.dr_machine.{specs.Group.{AllPresent, roster}, proofs.Presence.is_present}
use Rattle.dr_script.specs.declared.script.Script.{Script}

-- first parts of the histories of its members, by their accounts
pub first_parts : (script : Script) (start : Start) (ends : List MemberEnd) (lists : List (List Entry))
    → AllPresent (group_of script start) → length ends ≡ roster (group_of script start)
    → AreFirstPartsOf ends lists → AreFirstParts (group_of script start).opening (accounts_of ends) lists
first_parts script start ends lists present all parts m es at =
    let part = parts m es at in (
      part.0,
      is_present (group_of script start) part.0 present
          (omega (arith, slice_get_within ends part.0 part.1 part.2, all)),
      subst (λ (end : Option MemberEnd).
          IsPrefixOf es (option_map_or (λ (e : MemberEnd). e.history) end [])) (sym part.2) part.3,
    )
