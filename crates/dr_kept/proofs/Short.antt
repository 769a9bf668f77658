-- How many bytes logs take that are found, and that are open for an age.
use Rattle.std.specs.Prelude.{option_map}
use Rattle.std.proofs.Common.{◌≡◌, ◌⊎◌, inl, inr, refl, ap, ◌∙◌, ℕ, ◌≤◌, arith, List, length, None, Option, Some}
use Rattle.dr_history.specs.{History.{GroupView, view_of}, Restarting.{AllStand, next_age}}
use Rattle.dr_history.{specs.declared.opening.Opening.Opening, proofs.Lengths.stood-short}
use Rattle.dr_log.specs.Standing.{entries_length}
use Rattle.dr_log_bytes.specs.Content.{OnLog}
use Rattle.dr_machine.specs.Group.{IsGroup}
use Rattle.dr_opening.specs.{Lists.{all_as_lists, as_lists}, Tries.{IsChosenOf, content_at}}
use Rattle.dr_opening.proofs.Choosing.{chosen_group}
use Rattle.dr_program.proofs.Present.{present_map}
use Rattle.dr_quorum.specs.Handing.{handed_by}
use Rattle.dr_restart.specs.{Choosing.{AreOfHolders, AreOfNobody}, Groups.first_group_of, declared.start.Start.Start}
use Rattle.dr_restart.proofs.Groups.{first_group}
use Rattle.dr_script.specs.{Ranges.HasGroupRanges, declared.script.Script.Script}
use Rattle.dr_served.proofs.Leaving.{stood_bytes}

-- ---- what is found, and what an age begins with

-- what is on a log of which a start was chosen
pub found_short : (script : Script) (contents : List (Option OnLog)) (start : Start) (m : ℕ) (c : OnLog)
    → HasGroupRanges script → IsChosenOf (first_group_of script).opening contents start
    → content_at contents m ≡ Some c → entries_length c.entries ≤ 122159104
found_short script contents start m c ranges is at =
    stood_bytes (first_group_of script) c.entries group stand (short (view_of c.entries) refl)
  where
    group : IsGroup (first_group_of script)
    group = first_group script ranges

    handed : content_at contents m ≡ Some c → option_map as_lists (content_at contents m) ≡ Some (as_lists c)
    handed here = ap (option_map as_lists) here

    stand : AllStand (first_group_of script).opening c.entries
    stand = is.chosen.sound m (as_lists c) (present_map as_lists contents m ∙ handed at)

    short : (z : Option GroupView) → view_of c.entries ≡ z → length c.entries ≤ 16842752
    short None none = omega (
      arith,
      stood-short (first_group_of script).opening c.entries stand group.some_member group.most_members group.messages,
      ap next_age none,
    )
    short (Some v) last = by is.chosen.entries
      where
        o : Opening
        o = (first_group_of script).opening

        by : AreOfHolders o (handed_by (all_as_lists contents)) start.entries
            ⊎ AreOfNobody (handed_by (all_as_lists contents)) start.entries → length c.entries ≤ 16842752
        by (inl held) =
            let end = held.held.3 in
            omega (
              arith,
              stood-short o c.entries stand group.some_member group.most_members group.messages,
              ap next_age last,
              held.last.greatest m v.age (as_lists c) (present_map as_lists contents m ∙ handed at) (v, last, refl),
              end.2,
              (chosen_group script contents start ranges is).sound.later end.0 (ap view_of held.held.4 ∙ end.1),
              is.chosen.left,
            )
        by (inr nobody) =
            absurd (cc (nobody.nobody m (as_lists c) (present_map as_lists contents m ∙ handed at), last))
