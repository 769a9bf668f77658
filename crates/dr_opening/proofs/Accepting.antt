-- Logs that an age has left, and logs without entries, are accepted.
use Rattle.std.{specs.Prelude.{Some, slice_get}, proofs.Common.{◌≡◌, refl, ap, inl, ℕ, arith, List, [], ◌++◌, length}}
use Rattle.std.proofs.lemmas.Option.{slice_get_within}
use Rattle.dr_entry.specs.declared.{end.MemberEnd.MemberEnd, entry.Entry.Entry}
use Rattle.dr_history.{specs.Agreement.{EndsAgreed, accounts_of}, proofs.Histories.AreFirstPartsOf}
use Rattle.dr_history_laws.{specs.Parts.AreFirstParts, proofs.Parts.{parts_all_along, parts_sound}}
use Rattle.dr_machine.specs.Group.{AllPresent, IsGroup, roster}
use Rattle.dr_restart.specs.{Groups.group_of, declared.start.Start.Start}
use Rattle.dr_script.specs.declared.script.Script.{Script}
use Rattle.dr_quorum_laws.proofs.Sounding.{first_parts}
use Rattle.dr_opening.specs.Accepted.{AreAccepted, judged_by}

pub none_accepted : (script : Script) (lists : List (List Entry))
    → ((m : ℕ) (es : List Entry) → slice_get lists m ≡ Some es → es ≡ []) → AreAccepted script lists
none_accepted script lists none = record {
  sound = λ m es at i e here. absurd (omega (arith, slice_get_within es i e here, ap length (none m es at)));
  along = λ a b g h l at_a at_b. inl (h, ap (λ (xs : List Entry). xs ++ h) (none a g at_a));
}

pub ended_accepted : (script : Script) (start : Start) (ends : List MemberEnd) (lists : List (List Entry))
    → IsGroup (group_of script start) → AllPresent (group_of script start)
    → EndsAgreed (group_of script start).opening ends → length ends ≡ roster (group_of script start) → AreFirstPartsOf ends lists → AreAccepted script lists
ended_accepted script start ends lists group present agreed all parts = record {
  sound = parts_sound (group_of script start).opening (judged_by script) (accounts_of ends) lists group.sound
      agreed.agreed firsts refl;
  along = parts_all_along (group_of script start).opening (accounts_of ends) lists agreed.agreed firsts;
}
  where
    firsts : AreFirstParts (group_of script start).opening (accounts_of ends) lists
    firsts = first_parts script start ends lists present all parts
