-- Doors that were opened one by one over the same bytes have begun as a new group.
use Rattle.std.proofs.{Common.{◌≡◌, ◌∙◌, sym, subst, ℕ, ◌≤◌, List, length, arith}, lemmas.Option.same_Some}
use Rattle.dr_machine.specs.Group.{IsGroup}
use Rattle.dr_program.proofs.Present.{present_within}
use Rattle.dr_restart.{specs.Groups.{first_group_of, first_start_of}, proofs.Groups.first_group}
use Rattle.dr_script.specs.{Ranges.HasRanges, Reading.{Reads, reading_of}, declared.script.Script.Script}
use Rattle.dr_door.specs.{Apart.{Apart, HaveBegunApart, HaveOpenedApart}, Begun.{HasBegun, HasOpened}, Lone.Lone}

-- what a door was opened with is what the bytes read
with_script : (bytes : List ℕ) (script : Script) (m : ℕ) (d : Lone) → reading_of bytes ≡ Reads script
    → HasOpened bytes m d → HasRanges script × HasBegun script (first_start_of script) 0 m d
with_script bytes script m d reads opened =
    let same : opened.script ≡ script = cc (sym opened.reads ∙ reads) in (
      subst HasRanges same opened.ranges,
      subst (λ s. HasBegun s (first_start_of s) 0 m d) same opened.begun,
    )

pub doors_opened : (bytes : List ℕ) (script : Script) (a : Apart) → HaveOpenedApart bytes script a
    → IsGroup (first_group_of script) × (length script.messages ≡ script.members) × (1 ≤ script.turns)
    × HaveBegunApart script (first_start_of script) 0 a
doors_opened bytes script a opened = (
  first_group script ranges.group,
  ranges.group.lists,
  ranges.some_turn,
  record {
    all = opened.all;
    each = λ m d there.
        let one = opened.each m (present_within a.doors m d there) in
        subst (HasBegun script (first_start_of script) 0 m) (same_Some one.0 d (sym one.1 ∙ there))
        (with_script bytes script m one.0 opened.reads one.2).1;
    there = λ m within here. let one = opened.each m (omega (arith, within, opened.all)) in (one.0, one.1);
    sent = opened.sent;
    letters = opened.letters;
  },
)
  where
    ranges : HasRanges script
    ranges = let one = opened.each 0 opened.some in (with_script bytes script 0 one.0 opened.reads one.2).0
