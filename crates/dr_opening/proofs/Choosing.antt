-- A start that was chosen is one that an age can open with.
use Rattle.std.{specs.Prelude.option_map, proofs.lemmas.{List.{length-map, Sums.sum_by-cons}, Option.none-some}}
use Rattle.std.proofs.Common.{◌≡◌, ap, sym, ◌∙◌, subst, refl, ℕ, ◌<◌, ◌≤◌, ◌^◌, ◌&&◌, not, nat_lt, arith, true, false, List, length, Option, None, Some, ◌+◌, [], ◌∷◌}
use Rattle.dr_entry.specs.{Spelling.entry_spelling, declared.entry.Entry.{Entry, TheVariants.View}}
use Rattle.dr_entry.proofs.ListPlaces.{within_places}
use Rattle.dr_history.{specs.{Members.has, declared.opening.Opening.Opening}, proofs.Lengths.{start-short, start-few}}
use Rattle.dr_history.{specs.{Order.first_entries, Soundness.whole_roster}, proofs.Bits.has_zero}
use Rattle.dr_log.{specs.{Standing.entries_length, State.LogState}, proofs.Growing.entries_length-append}
use Rattle.dr_log_bytes.specs.Content.{OnLog}
use Rattle.dr_machine.specs.Group.{IsGroup}
use Rattle.dr_quorum.specs.Handing.{handed_by}
use Rattle.dr_restart.{specs.Choosing.IsChosenStart, proofs.{Handing.quorum-some, Sounding.choice-group}}
use Rattle.dr_restart.specs.{Groups.{first_group_of, group_of}, declared.{lists.LogLists.LogLists, start.Start.Start}}
use Rattle.dr_script.specs.{Ranges.HasGroupRanges, declared.script.Script.Script}
use Rattle.dr_words.{specs.Masks.without, proofs.Masks.has_mask_of}
use Rattle.dr_served.proofs.Leaving.{stood_bytes}
use Rattle.dr_opening.specs.Lists.{SomebodyPrompt, all_as_lists, as_lists, contents_of, log_of}
use Rattle.dr_opening.{specs.Tries.{IsChosenOf, content_at}, proofs.{Lists.{content_is, handed_is}, Trying.in_set}}

pub chosen_group : (script : Script) (contents : List (Option OnLog)) (start : Start) → HasGroupRanges script
    → IsChosenOf (first_group_of script).opening contents start → IsGroup (group_of script start)
chosen_group script contents start ranges is =
    choice-group script (handed_by (all_as_lists contents)) start ranges is.chosen

-- it has few entries
pub chosen_short : (script : Script) (contents : List (Option OnLog)) (start : Start) → HasGroupRanges script
    → IsChosenOf (first_group_of script).opening contents start → length start.entries < 2 ^ 32
chosen_short script contents start ranges is =
    let group = chosen_group script contents start ranges is in
    omega (
      arith,
      start-short (group_of script start).opening group.sound group.age group.some_member group.most_members
          group.messages,
    )

-- and some members
pub chosen_some : (script : Script) (contents : List (Option OnLog)) (start : Start) → HasGroupRanges script
    → IsChosenOf (first_group_of script).opening contents start → 0 < start.members
chosen_some script contents start ranges is = (chosen_group script contents start ranges is).sound.members.some

-- somebody's log is there
pub chosen_there : {D : Type 0} (o : Opening) (logs : List (Option (LogState D))) (start : Start)
    → IsChosenOf o (contents_of logs) start → (m : ℕ) × (log : LogState D) × (log_of logs m ≡ Some log)
chosen_there {D} o logs start is = by (log_of logs one.0) refl
  where
    one : (m : ℕ) × (has (whole_roster o) m ≡ true) × (lists : LogLists)
        × (handed_by (all_as_lists (contents_of logs)) m ≡ Some lists)
    one = quorum-some (handed_by (all_as_lists (contents_of logs))) (whole_roster o) is.chosen.quorum

    listed : option_map as_lists (option_map (λ (log : LogState D). log.content) (log_of logs one.0)) ≡ Some one.2
    listed = sym (handed_is (contents_of logs) one.0 ∙ ap (option_map as_lists) (content_is logs one.0)) ∙ one.3

    by : (place : Option (LogState D)) → log_of logs one.0 ≡ place
        → (m : ℕ) × (log : LogState D) × (log_of logs m ≡ Some log)
    by (Some log) at = (one.0, log, at)
    by None at = absurd (none-some one.2
        (sym (ap (λ (place : Option (LogState D)). option_map as_lists (option_map (λ (log : LogState D). log.content) place)) at)
        ∙ listed))

-- the late ones may be taken out of a first view of all who are there, if one of these isn't late
pub chosen_without : (o : Opening) (contents : List (Option OnLog)) (start : Start) (late k : ℕ) (c : OnLog)
    → IsChosenOf o contents start → length o.messages ≤ 16 → start.members ≡ start.present
    → content_at contents k ≡ Some c → has late k ≡ false
    → IsChosenOf o contents (record start { members = without start.members late })
chosen_without o contents start late k c is few whole at prompt = record {
  all = is.all;
  chosen = record {
    sound = is.chosen.sound;
    quorum = is.chosen.quorum;
    entries = is.chosen.entries;
    age = is.chosen.age;
    left = is.chosen.left;
    present = is.chosen.present;
    members = λ m there. subst (λ mask. has mask m ≡ true) whole (of_both m there);
    some = some (without start.members late) here;
  };
}
  where
    each : (m : ℕ) → has (without start.members late) m ≡ (nat_lt m 16 && (has start.members m && not (has late m)))
    each m = has_mask_of (λ i. has start.members i && not (has late i)) m

    of_both : (m : ℕ) → has (without start.members late) m ≡ true → has start.members m ≡ true
    of_both m there = grind (arith, each m, there)

    l : k < 16
    l = omega (arith, within_places contents k c at, is.all, few)

    here : has (without start.members late) k ≡ true
    here =
        let inside : has start.members k ≡ true =
        subst (λ mask. has mask k ≡ true) (sym whole) (in_set o contents start k c is few at) in
        grind (arith, each k, inside, prompt, l)

    some : (mask : ℕ) → has mask k ≡ true → 0 < mask
    some mask h = grind (arith, h, has_zero k)

-- so it is of what was chosen of the lists of logs
pub chosen_late : {D : Type 0} (script : Script)
    (logs : List (Option (LogState D))) (lists : List (Option LogLists)) (start : Start) (late mask : ℕ)
    → HasGroupRanges script → length logs ≡ script.members → lists ≡ all_as_lists (contents_of logs)
    → IsChosenStart (first_group_of script).opening (handed_by lists) start → start.members ≡ start.present → ((m : ℕ)
    (log : LogState D) → log_of logs m ≡ Some log → SomebodyPrompt late logs) → mask ≡ without start.members late
    → IsChosenOf (first_group_of script).opening (contents_of logs) (record start { members = mask })
chosen_late {D} script logs lists start late mask ranges all listed chosen whole prompt is = subst
    (λ m. IsChosenOf (first_group_of script).opening (contents_of logs) (record start { members = m })) (sym is)
    (chosen_without (first_group_of script).opening (contents_of logs) start late there.0 there.1.content so
    (omega (arith, ranges.lists, ranges.most_members)) whole
    (content_is logs there.0 ∙ ap (option_map (λ (log : LogState D). log.content)) there.2) there.3)
  where
    so : IsChosenOf (first_group_of script).opening (contents_of logs) start
    so = record {
      all = length-map logs (option_map (λ (log : LogState D). log.content)) ∙ (all ∙ sym ranges.lists);
      chosen = subst (λ l. IsChosenStart (first_group_of script).opening (handed_by l) start) listed chosen;
    }

    there : SomebodyPrompt late logs
    there = let one = chosen_there (first_group_of script).opening logs start so in prompt one.0 one.1 one.2

-- what an age begins with has View 0 besides
pub opened_short : (script : Script) (contents : List (Option OnLog)) (start : Start) → HasGroupRanges script
    → IsChosenOf (first_group_of script).opening contents start
    → entries_length (first_entries (group_of script start).opening) ≤ 122159111
opened_short script contents start ranges is =
    let g = chosen_group script contents start ranges is in
    let o = (group_of script start).opening in
    let more = entries_length-append start.entries (View start.age 0 start.members ∷ []) in
    let block : 1 + length (entry_spelling (View start.age 0 start.members)) ≤ 7 = omega arith in
    let last = sum_by-cons (λ (e : Entry). 1 + length (entry_spelling e)) (View start.age 0 start.members) [] in
    omega (
      arith,
      more,
      block,
      last,
      stood_bytes (group_of script start) start.entries g g.sound.entries
          (start-few o g.sound g.age g.some_member g.most_members g.messages),
    )
