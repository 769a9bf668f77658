-- Starts with which a seat's member opens an age.
use Rattle.std.specs.Prelude.{Option, is_some, nat_lt}
use Rattle.std.proofs.Common.{◌≡◌, ◌∙◌, ◌<◌, ◌^◌, ◌&&◌, arith, length, subst, sym, true, List, ℕ}
use Rattle.dr_history.specs.{Members.has, Soundness.whole_roster, declared.opening.Opening.Opening}
use Rattle.dr_history.proofs.{Bits.has_ones, Lengths.start-short}
use Rattle.dr_machine.specs.Group.{IsGroup, IsPresent}
use Rattle.dr_quorum.specs.Handing.{handed_by}
use Rattle.dr_restart.specs.{Choosing.IsChosenStart, Groups.{first_group_of, group_of}}
use Rattle.dr_restart.specs.declared.{lists.LogLists.LogLists, start.Start.Start}
use Rattle.dr_script.specs.{Ranges.HasGroupRanges, declared.script.Script.Script}
use Rattle.dr_words.proofs.Masks.{has_mask_of}

-- it has few entries
pub short_of : (script : Script) (start : Start) → IsGroup (group_of script start) → length start.entries < 2 ^ 32
short_of script start group = omega (
  arith,
  start-short (group_of script start).opening group.sound group.age group.some_member group.most_members
      group.messages,
)

-- the member whose log is among those that make a start is there in its age
pub present_of : (script : Script) (lists : List (Option LogLists)) (me : ℕ) (start : Start)
    → HasGroupRanges script → IsChosenStart (first_group_of script).opening (handed_by lists) start
    → me < script.members → is_some (handed_by lists me) ≡ true → IsPresent (group_of script start) me
present_of script lists me start ranges chosen within there =
    subst (λ (mask : ℕ). has mask me ≡ true) (sym chosen.present)
    (has_mask_of (λ i. has (whole_roster o) i && is_some (handed_by lists i)) me ∙ all)
  where
    o : Opening
    o = (first_group_of script).opening

    in_roster : has (whole_roster o) me ≡ true
    in_roster =
        let l : me < length script.messages = omega (arith, ranges.lists) in
        has_ones (length script.messages) me ∙ grind arith

    all : (nat_lt me 16 && (has (whole_roster o) me && is_some (handed_by lists me))) ≡ true
    all = let small : me < 16 = omega (arith, ranges.most_members) in grind (arith, in_roster, there)
