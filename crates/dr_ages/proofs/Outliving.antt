-- Runs keep what lasts on their disks, one after the other, whichever logs are missing.
use Rattle.std.specs.{Option.option_map_or, Prelude.{IfSome, Option, None, Some, slice_get}}
use Rattle.std.proofs.Common.{◌≡◌, ◌≢◌, ◌⊎◌, refl, sym, ap, ◌∙◌, subst, inl, inr, ℕ, zero, suc, ◌+◌, arith, List, [], ◌∷◌, ◌++◌, map, take}
use Rattle.std.proofs.lemmas.Option.{none-some, same_Some, slice_get_within}
use Rattle.dr_entry.specs.declared.{end.{AgeEnd.AgeEnd, MemberEnd.MemberEnd}, entry.Entry.Entry}
use Rattle.dr_entry.proofs.ListPlaces.{slice_get-some}
use Rattle.dr_history.{specs.History.IsPrefixOf, proofs.Lists.{prefix-trans, prefix_refl}}
use Rattle.dr_kept.proofs.{Chosen.known_age, Following.{IsAccountOf, account_of}, Lasting.hold_behind}
use Rattle.dr_machine.specs.{Group.{Group, IsPresent}, World.World}
use Rattle.dr_opening.proofs.Trying.{in_set}
use Rattle.dr_program.specs.{Program.{Program, end_at}, Reading.world}
use Rattle.dr_quorum_laws.{specs.Lasting.HoldSinceAge, proofs.Lasting.since-tried}
use Rattle.dr_restart.specs.{Groups.{first_group_of, group_of}, declared.{lists.LogLists.LogLists, start.Start.Start}}
use Rattle.dr_script.{specs.{Ranges.HasRanges, declared.script.Script.Script}, proofs.Ranges.few}
use Rattle.dr_yard.specs.Yards.{AllTell, YardState}
use Rattle.dr_ages.{specs.{Ages.{AreAges, start_of}, Lasting.HasEndedIn}, proofs.{Chain.beside, Votes.told_by}}
use Rattle.dr_ages.specs.{Crashed.HaveCrashed, Tried.{AreOfTry, AreTried}, declared.{part.Part.Part, stop.Stop.Stop}}
use Rattle.dr_ages.specs.{Fit.{AreChosen, AreFit, AreLastingOn}, Runs.{HasFinished, IsRunOf}, declared.mode.Mode.Mode}
use Rattle.dr_ages.{specs.declared.stop.Stop.TheVariants.OutOfMemory, proofs.Keeping.{grows, of_choice, there_found}}
use Rattle.dr_ages.proofs.Lasting.{LastOverFit, ages_durable, ages_lasting, crashed_lasting, had_at, last_over_fit, left_logs, next_start_has, readable_tell, tried_lasting}

-- ---- what the last opening of a run has left

-- it was none, or a try
pub ended_so : (script : Script) (part : Part) (mode : Mode) (before after : YardState) (ages : List AgeEnd)
    (stop : Option Stop) → AllTell script.members before → (r : IsRunOf script part mode before after ages stop)
    → stop ≢ Some OutOfMemory → (r.last ≡ after) ⊎ AreTried script part.missing r.last after
ended_so script part mode before after ages stop tell r other = by stop r.finish (r.tried tell) other
  where
    by : (stop : Option Stop) → HasFinished script part r.last after r.chosen ages stop
        → IfSome stop (λ s. s ≢ OutOfMemory → AreTried script part.missing r.last after) → stop ≢ Some OutOfMemory
        → (r.last ≡ after) ⊎ AreTried script part.missing r.last after
    by None end tried other = inl end.1
    by (Some s) end tried other = inr (tried (λ same. other (ap Some same)))

-- so what lasted behind the last age lasts
pub ended_lasting : (script : Script) (part : Part) (last after : YardState) (es : List Entry) → (last ≡ after)
    ⊎ AreTried script part.missing last after → AreLastingOn script es last → AreLastingOn script es after
ended_lasting script part last after es (inl same) lasts = subst (AreLastingOn script es) same lasts
ended_lasting script part last after es (inr tried) lasts =
    tried_lasting script part.missing last after es tried lasts

-- ---- a run

pub run_lasting : (script : Script) (part : Part) (mode : Mode) (before after : YardState) (ages : List AgeEnd)
    (stop : Option Stop) (es : List Entry) → HasRanges script → AreLastingOn script es before
    → IsRunOf script part mode before after ages stop → stop ≢ Some OutOfMemory → AreLastingOn script es after
run_lasting script part mode before after ages stop es ranges lasts r other =
    ended_lasting script part r.last after es
    (ended_so script part mode before after ages stop (readable_tell script.members before lasts.readable) r other)
    (ages_lasting script part mode 0 before ages r.last es ranges r.course lasts)

pub run_durable : (script : Script) (part : Part) (mode : Mode) (before after : YardState) (ages : List AgeEnd)
    (stop : Option Stop) (i m : ℕ) (age : AgeEnd) (e : MemberEnd) → HasRanges script → AreFit script before
    → IsRunOf script part mode before after ages stop → stop ≢ Some OutOfMemory → slice_get ages i ≡ Some age
    → slice_get age.members m ≡ Some e → AreLastingOn script (take e.durable e.history) after
run_durable script part mode before after ages stop i m age e ranges fit r other at here =
    ended_lasting script part r.last after (take e.durable e.history)
    (ended_so script part mode before after ages stop (readable_tell script.members before fit.readable) r other)
    (ages_durable script part mode 0 before ages r.last i age m e ranges r.course fit at here)

-- each of its starts begins with the first one
starts_grow : (script : Script) (part : Part) (mode : Mode) (before : YardState) (ages : List AgeEnd) (last : YardState)
    (i : ℕ) (one age : AgeEnd) → HasRanges script → AllTell script.members before
    → AreAges script part mode 0 before ages last → slice_get ages 0 ≡ Some one → slice_get ages i ≡ Some age
    → IsPrefixOf one.start age.start
starts_grow script part mode before ages last zero one age ranges tell are first at =
    subst (λ (a : AgeEnd). IsPrefixOf one.start a.start) (same_Some one age (sym first ∙ at)) (prefix_refl one.start)
starts_grow script part mode before ages last (suc i) one age ranges tell are first at =
    let c = slice_get-some ages i (omega (arith, slice_get_within ages (suc i) age at)) in
    let next : suc i ≡ i + 1 = omega arith in
    prefix-trans one.start c.0.start age.start
    (starts_grow script part mode before ages last i one c.0 ranges tell are first c.1)
    (grows script part before c.0 age ranges tell
    (beside script part mode 0 before ages last i c.0 age are c.1 (ap (slice_get ages) (sym next) ∙ at)))

-- behind a crash they begin with what lasted
pub run_begins : (script : Script) (part : Part) (mode : Mode) (mid before after : YardState) (ages : List AgeEnd)
    (stop : Option Stop) (es : List Entry) (i : ℕ) (age : AgeEnd) → HasRanges script → AreLastingOn script es mid
    → HaveCrashed script.members mid before → IsRunOf script part mode before after ages stop
    → slice_get ages i ≡ Some age → IsPrefixOf es age.start
run_begins script part mode mid before after ages stop es i age ranges lasts crashed r at = by ages r.course at
  where
    tell : AllTell script.members before
    tell = readable_tell script.members before (crashed_lasting script mid before es lasts crashed).readable

    by : (ages : List AgeEnd) → AreAges script part mode 0 before ages r.last → slice_get ages i ≡ Some age
        → IsPrefixOf es age.start
    by [] are at = absurd (none-some age at)
    by (one ∷ ages) are at = prefix-trans es one.start age.start
        (next_start_has script part mode 0 mid before are.0 one es ranges.group lasts crashed are.1)
        (starts_grow script part mode before (one ∷ ages) r.last i one age ranges tell are refl at)

-- ---- since its last age

pub run_since : (script : Script) (part : Part) (mode : Mode) (before after : YardState)
    (earlier : List AgeEnd) (age : AgeEnd) (stop : Option Stop) → HasRanges script → AreFit script before
    → IsRunOf script part mode before after (earlier ++ age ∷ []) stop → stop ≢ Some OutOfMemory
    → (w : World) × HasEndedIn part age w × ((logs : List LogLists) → AreChosen script.members after logs
    → HoldSinceAge script (start_of script part age) w logs)
run_since script part mode before after earlier age stop ranges fit r other = (world g over, accounts, holds)
  where
    f : LastOverFit script part r.last age
    f = last_over_fit script part mode 0 before (earlier ++ age ∷ []) r.last earlier age ranges r.course fit refl

    start : Start
    start = start_of script part age

    g : Group
    g = group_of script start

    over : Program
    over = f.is.played.over

    hold : (olds : List LogLists) → AreChosen script.members r.last olds
        → HoldSinceAge script (start_of script part age) (world g over) olds
    hold olds chosen =
        let had = had_at script part f.mode f.nth f.before r.last age olds
        (readable_tell script.members f.before f.fit.readable) f.is chosen in
        hold_behind script start f.nth over [] had.olds olds
        (left_logs script part f.mode f.nth f.before r.last age olds ranges f.is chosen had)
        (f.fit.lasting had.olds had.chosen)

    holds : (logs : List LogLists) → AreChosen script.members after logs
        → HoldSinceAge script (start_of script part age) (world g over) logs
    holds logs chosen = by (ended_so script part mode before after (earlier ++ age ∷ []) stop
        (readable_tell script.members before fit.readable) r other)
      where
        more : (olds : List LogLists) → AreChosen script.members r.last olds
            → (logs ≡ olds) ⊎ AreOfTry script part.missing olds logs
            → HoldSinceAge script (start_of script part age) (world g over) logs
        more olds are (inl same) = subst (HoldSinceAge script start (world g over)) (sym same) (hold olds are)
        more olds are (inr (try, is, all)) = since-tried script start (world g over) olds logs try (hold olds are) is

        by : (r.last ≡ after) ⊎ AreTried script part.missing r.last after
            → HoldSinceAge script (start_of script part age) (world g over) logs
        by (inl same) = hold logs (subst (λ (y : YardState). AreChosen script.members y logs) (sym same) chosen)
        by (inr tried) = let t = tried.tried logs chosen in more t.0 t.1 t.2

    accounts : HasEndedIn part age (world g over)
    accounts m e at there = (
      sym account.history ∙ ap (λ (o : Option MemberEnd). option_map_or (λ (e : MemberEnd). e.history) o []) end,
      sym account.durable ∙ ap (λ (o : Option MemberEnd). option_map_or (λ (e : MemberEnd). e.durable) o 0) end,
    )
      where
        end : slice_get (map end_at over.members) m ≡ Some e
        end = sym (ap (λ (a : AgeEnd). slice_get a.members m) (told_by f.mode script start f.nth age f.is.played)) ∙ at

        present : IsPresent (group_of script (start_of script part age)) m
        present =
            let d = there_found script.members part.missing f.before f.is.contents m f.is.found
            (omega (arith, slice_get_within age.members m e at, f.is.played.roster)) there in
            in_set (first_group_of script).opening f.is.contents start m d.0 f.is.starts (few script ranges.group) d.1

        account : IsAccountOf (group_of script (start_of script part age)) over m
        account = account_of script start over m
            (known_age script start f.nth f.is.contents over ranges.group ranges.some_turn
            (of_choice script part f.mode f.nth f.before r.last age f.is)) present
