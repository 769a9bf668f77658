-- A schedule leads to one program where no append fails, so a script and a start lead to one age.
use Rattle.std.specs.{List.range_with_len, Prelude.{None, Some, replicate, slice_get}}
use Rattle.std.proofs.Common.{◌≡◌, sym, ap, ◌∙◌, subst, inl, inr, ℕ, zero, suc, ◌≤◌, List, [], ◌∷◌, length, take, true≢false, arith}
use Rattle.std.proofs.lemmas.List.{take-replicate}
use Rattle.dr_play.{specs.Logged.{NoneStopped, why_ended}, proofs.LoggedMembers.stopped}
use Rattle.dr_entry.{specs.declared.end.{AgeEnd.AgeEnd, MemberEnd.MemberEnd}, proofs.ListParts.each_at}
use Rattle.dr_entry.proofs.NumberFacts.{not_less}
use Rattle.dr_machine.specs.Group.{IsGroup}
use Rattle.dr_program.specs.{Presence.present_at, Program.{AllEnded, AllOk, Move, Program, age_of, end_of, ok, ran}}
use Rattle.dr_program.specs.Schedule.{IsTurn, Rounds, TakeTurns, TakesTurn, is_between_turns}
use Rattle.dr_program.proofs.{Present.{ended_there, end_told}, Programs.{own_moves, front_ok, back_ok}}
use Rattle.dr_program.proofs.{Received.chosen_same, Rounds.rest_rounds}
use Rattle.dr_restart.{specs.{Groups.group_of, declared.start.Start.Start}, proofs.Setups.{AreOne, begun_same}}
use Rattle.dr_script.specs.{Ranges.HasRanges, declared.script.Schedule.{Schedule, TheVariants.{Lockstep, Seed}}}
use Rattle.dr_script.specs.declared.script.Script.{Script}
use Rattle.dr_sim.specs.{Repeated.IsRepeated, Simulated.{IsRunBy, IsSimulated, SomeFailed}}
use Rattle.dr_sim.proofs.Courses.{schedule_ends, schedule_ran}
use Rattle.dr_program_laws.proofs.Failing.{all_failing}

-- ---- lockstep

module _ (m : ℕ) (p : Program) where
  -- a turn ends at its first move after which it may
  not_longer : (es : List Move) (q : Program) (fs : List Move) (u : Program) → IsTurn m p es q
      → IsTurn m p fs u → AllOk es → AllOk fs → length fs ≤ length es
  not_longer es q fs u one other well well' = not_less (length es) (length fs) (λ less.
      let same : take (length es) fs ≡ es = ap (take (length es)) (own_moves m fs other.own well')
      ∙ take-replicate (length es) (length fs) (ok m) (omega arith) ∙ sym (own_moves m es one.own well) in
      let still = ap (λ xs. is_between_turns (present_at (ran p xs).members m)) (sym same)
      ∙ other.first (length es) one.some less in
      true≢false (sym one.whole ∙ ap (λ (x : Program). is_between_turns (present_at x.members m)) one.taken ∙ still))

  same_turn : (es : List Move) (q : Program) (fs : List Move) (u : Program) → IsTurn m p es q
      → IsTurn m p fs u → AllOk es → AllOk fs → q ≡ u
  same_turn es q fs u one other well well' =
      let long : length es ≡ length fs =
      omega (arith, not_longer es q fs u one other well well', not_longer fs u es q other one well' well) in
      let same : es ≡ fs = own_moves m es one.own well ∙ ap (λ n. replicate n (ok m)) long
      ∙ sym (own_moves m fs other.own well') in
      one.taken ∙ ap (ran p) same ∙ sym other.taken

  takes_same : (es : List Move) (q : Program) (fs : List Move) (u : Program) → TakesTurn m p es q
      → TakesTurn m p fs u → AllOk es → AllOk fs → q ≡ u
  takes_same es q fs u (inl one) (inl other) well well' = one.2 ∙ sym other.2
  takes_same es q fs u (inl one) (inr other) well well' = absurd (true≢false (sym one.0 ∙ other.0))
  takes_same es q fs u (inr one) (inl other) well well' = absurd (true≢false (sym other.0 ∙ one.0))
  takes_same es q fs u (inr one) (inr other) well well' = same_turn es q fs u one.1 other.1 well well'

turns_same : (ms : List ℕ) (p : Program) (es : List Move) (q : Program) (fs : List Move) (u : Program)
    → TakeTurns ms p es q → TakeTurns ms p fs u → AllOk es → AllOk fs → q ≡ u
turns_same [] p es q fs u one other well well' = one.1 ∙ sym other.1
turns_same (m ∷ ms) p es q fs u (turn, rest, mid, both, first, more)
    (turn', rest', mid', both', first', more') well well' =
    let parts = subst AllOk both well in let parts' = subst AllOk both' well' in
    let same : mid ≡ mid' = takes_same m p turn mid turn' mid' first first' (front_ok turn rest parts)
    (front_ok turn' rest' parts') in
    turns_same ms mid rest q rest' u more (subst (λ x. TakeTurns ms x rest' u) (sym same) more')
    (back_ok turn rest parts) (back_ok turn' rest' parts')

rounds_same : (k n : ℕ) (p : Program) (es : List Move) (q : Program) (fs : List Move) (u : Program)
    → Rounds k p es q → Rounds n p fs u → AllOk es → AllOk fs → AllEnded q → AllEnded u → q ≡ u
rounds_same zero n p es q fs u one other well well' ended ended' = one.1
    ∙ sym (rest_rounds n p fs u (subst AllEnded one.1 ended) other)
rounds_same (suc k) zero p es q fs u one other well well' ended ended' =
    rest_rounds (suc k) p es q (subst AllEnded other.1 ended') one ∙ sym other.1
rounds_same (suc k) (suc n) p es q fs u (round, rest, mid, both, first, more)
    (round', rest', mid', both', first', more') well well' ended ended' =
    let parts = subst AllOk both well in let parts' = subst AllOk both' well' in
    let same : mid ≡ mid' = turns_same (range_with_len 0 (length p.members)) p round mid round' mid' first
    first' (front_ok round rest parts) (front_ok round' rest' parts') in
    rounds_same k n mid rest q rest' u more (subst (λ x. Rounds n x rest' u) (sym same) more')
    (back_ok round rest parts) (back_ok round' rest' parts') ended ended'

-- ---- ages

-- one schedule leads to one program
runs_same : (schedule : Schedule) (begun : Program) (es fs : List Move) (q u : Program)
    → IsRunBy schedule begun es q → IsRunBy schedule begun fs u → AllOk es → AllOk fs → q ≡ u
runs_same Lockstep begun es fs q u one other well well' =
    rounds_same one.rounds other.rounds begun es q fs u one.ran other.ran well well' one.ended other.ended
runs_same (Seed seed) begun es fs q u one other well well' =
    one.ran ∙ ap (ran begun) (chosen_same seed begun es fs one.chosen other.chosen well well'
    (subst AllEnded one.ran one.ended) (subst AllEnded other.ran other.ended)) ∙ sym other.ran

-- where no member was ended by its log no append has failed
no_failed : (script : Script) (start : Start) (nth : ℕ) (age : AgeEnd) (over : Program) → HasRanges script
    → IsGroup (group_of script start) → IsSimulated script start nth age over → NoneStopped age.members
    → SomeFailed over → ⊥
no_failed script start nth age over ranges group is none (m, r, why, there, failed) =
    let ran = schedule_ran script.schedule is.begun over is.run in
    let failing = all_failing script start nth is.begun over group ranges.group.lists ranges.some_turn
    is.begins ran m r there in
    let ended = ended_there over m r (schedule_ends script.schedule is.begun over is.run) there in
    let end : slice_get age.members m ≡ Some (end_of r)
    = ap (λ (a : AgeEnd). slice_get a.members m) is.told ∙ end_told over m r there in
    let kept = each_at (λ (e : MemberEnd). why_ended e.end ≡ None) age.members m (end_of r) none end in
    absurd (cc (kept, stopped r why failing failed ended))

all_ok : (script : Script) (start : Start) (nth : ℕ) (age : AgeEnd) (over : Program) → HasRanges script
    → IsGroup (group_of script start) → (is : IsSimulated script start nth age over) → NoneStopped age.members
    → AllOk is.run.moves
all_ok script start nth age over ranges group is none = elim is.run.well [
  | inl well ↦ well
  | inr failed ↦ absurd (no_failed script start nth age over ranges group is none failed)
]

pub repeats : AreOne → (script : Script) (start : Start) (nth : ℕ) → HasRanges script
    → IsGroup (group_of script start) → IsRepeated script start nth
repeats same script start nth ranges group one other p q is is' none none' =
    let begun : is.begun ≡ is'.begun = begun_same same script start nth is.begun is'.begun is.begins is'.begins in
    let over : p ≡ q = runs_same script.schedule is.begun is.run.moves is'.run.moves p q is.run.by
    (subst (λ b. IsRunBy script.schedule b is'.run.moves q) (sym begun) is'.run.by)
    (all_ok script start nth one p ranges group is none) (all_ok script start nth other q ranges group is' none') in
    is.told ∙ ap (age_of (group_of script start).opening) over ∙ sym is'.told
