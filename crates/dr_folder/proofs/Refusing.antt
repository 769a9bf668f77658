-- By which last line logs are refused, and what start is chosen of them.
use Rattle.std.{specs.Prelude.{IfSome, IsSomeAnd}, proofs.Common.{◌≡◌, subst, List, Option, Some}}
use Rattle.dr_log_bytes.specs.Content.{OnLog}
use Rattle.dr_opening.specs.Lists.{all_as_lists}
use Rattle.dr_quorum.specs.{Handing.handed_by, Telling.{IsRightlyTold, reason_of}}
use Rattle.dr_quorum.specs.declared.faults.ChooseFault.{ChooseFault}
use Rattle.dr_restart.specs.{Groups.first_group_of, Refusing.IsRefusedFor, declared.lists.LogLists.LogLists}
use Rattle.dr_restart.proofs.Choosing.{reason_told}
use Rattle.dr_script.specs.declared.script.Script.{Script}
use Rattle.dr_text.specs.declared.last.Last.{Last}
use Rattle.dr_folder.specs.Foretold.{AreRefusedBy, refused_by}

-- the last line of a run over logs of which no start is chosen
pub fault_told : (script : Script) (contents : List (Option OnLog)) (lists : List (Option LogLists))
    (fault : ChooseFault) (told : Option Last) (last : Last) → lists ≡ all_as_lists contents
    → IfSome told (λ l. IsSomeAnd (refused_by l) (λ why. reason_of fault ≡ Some why))
    → IsRightlyTold (first_group_of script).opening (handed_by lists) fault
    → told ≡ Some last → AreRefusedBy script last contents
fault_told script contents lists fault told last same line right is =
    reason_told (IsRefusedFor (first_group_of script).opening (handed_by (all_as_lists contents))) (refused_by last)
    (reason_of fault)
    (subst (λ (l : Option Last). IfSome l (λ l. IsSomeAnd (refused_by l) (λ why. reason_of fault ≡ Some why)))
    is line)
    (subst (λ (ls : List (Option LogLists)). IsRightlyTold (first_group_of script).opening (handed_by ls) fault) same
    right)
