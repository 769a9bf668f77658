-- A run behind a crash begins with what was logged.
use Rattle.std.specs.Prelude.{IfSome, IsSomeAnd, IsTrue, Option, None, Some, slice_get}
use Rattle.std.proofs.Common.{◌≡◌, ◌⊎◌, inl, inr, ⊎_elim, refl, sym, ap, ◌∙◌, subst, ℕ, ◌<◌, true, false, arith, List, [], ◌∷◌, ◌++◌, append-nil, take}
use Rattle.std.proofs.lemmas.Option.{none-some, same_Some, slice_get_within}
use Rattle.dr_disk.specs.{Disk.{Told, content_of}, Images.IsLeft}
use Rattle.dr_entry.specs.declared.{end.{AgeEnd.AgeEnd, MemberEnd.MemberEnd}, entry.Entry.Entry}
use Rattle.dr_entry.proofs.ListPlaces.{slice_get-some}
use Rattle.dr_history.specs.{History.IsPrefixOf, Members.has, Restarting.{AreAllAlong, AreAlong}}
use Rattle.dr_history.proofs.Lists.{prefix-trans}
use Rattle.dr_log.specs.Standing.{LosesNone}
use Rattle.dr_log_bytes.{specs.{Content.OnLog, Grammar.StandFor}, proofs.Meaning.content_once}
use Rattle.dr_opening.{specs.{Lists.as_lists, Tries.content_at}, proofs.Trying.{chosen_by, in_set}}
use Rattle.dr_restart.specs.{Choosing.{IsChosenStart, of_set}, Groups.{first_group_of, group_of}}
use Rattle.dr_restart.specs.{Left.entries_on_logs, Trying.IsTry, declared.lists.{Attempt.Attempt, LogLists.LogLists}}
use Rattle.dr_restart.{specs.declared.start.Start.Start, proofs.{ByMessages.start-by-messages, Handing.log-of_set}}
use Rattle.dr_restart.proofs.{Listed.listed, Trying.try_by}
use Rattle.dr_script.{specs.{Ranges.HasRanges, declared.script.Script.Script}, proofs.Ranges.few}
use Rattle.dr_yard.specs.Yards.{AllTell, YardState}
use Rattle.dr_ages.{specs.{Ages.{IsAgeOf, start_of}, declared.{part.Part.Part, stop.Stop.Stop}}, proofs.Votes.EndsSo}
use Rattle.dr_ages.{specs.Crashed.{HaveCrashed, IsLeftOver}, proofs.Keeping.{there_found, ended_over, image_entries}}
use Rattle.dr_ages.specs.{Fit.{AreChosen, AreInStep, AreReadable, MayLeave}, Runs.{HaveLogged, IsRunOf, with_these}}
use Rattle.dr_ages.specs.{Found.{AreFound, ReadsAs}, Tried.{AreOfTry, AreTried}, declared.mode.Mode.Mode}
use Rattle.dr_ages.{specs.Left.HasLeft, proofs.InStep.crashed_step}
use Rattle.dr_ages.proofs.Lasting.{HadBefore, LastOverFit, crashed_chosen, crashed_readable, crashed_some, had_at, had_before, left_logs, left_over, readable_tell}
use Rattle.dr_kept.proofs.{Crashes.front_of_start, Lasting.since_behind}
use Rattle.dr_machine.specs.{Group.{Group, IsPresent}, World.World}
use Rattle.dr_program.specs.{Program.{Program, member_end}, Reading.world, Replica.Replica}
use Rattle.dr_served.proofs.Leaving.{left_begins}
use Rattle.dr_quorum_laws.{specs.Holding.IsOpenedTry, proofs.{Grown.opened-cases, Handing.Since, Lasting.on-start}}
use Rattle.dr_quorum_laws.proofs.Tried.{tried-held}

-- ---- logs of which a crash left one image each

-- where disks were in step, of any two logs that are found behind a crash one is a first part of the other
found_along : (script : Script) (missing : ℕ) (mid after : YardState) (contents : List (Option OnLog)) (i j : ℕ)
    (f g : OnLog) → AreInStep script mid → HaveCrashed script.members mid after
    → AreFound script.members missing after contents → content_at contents i ≡ Some f
    → content_at contents j ≡ Some g → AreAlong f.entries g.entries
found_along script missing mid after contents i j f g step crashed found at_f at_g =
    by (now.accepted h.olds h.chosen).along (apart i j)
  where
    now : AreInStep script after
    now = crashed_step script mid after step crashed

    some : (logs : List LogLists) × AreChosen script.members after logs
    some = crashed_some script.members mid after step.readable crashed

    h : HadBefore script.members after contents some.0
    h = had_before script.members missing after after contents some.0
        (readable_tell script.members after now.readable) found (λ m l none. refl) some.1

    apart : (i j : ℕ) → (i < j) ⊎ ((i ≡ j) ⊎ (j < i))
    apart i j = grind arith

    at : (k : ℕ) (c : OnLog) → content_at contents k ≡ Some c → slice_get (entries_on_logs h.olds) k ≡ Some c.entries
    at k c here = listed h.olds k (as_lists c) (h.among k c here)

    by : AreAllAlong (entries_on_logs h.olds) → (i < j) ⊎ ((i ≡ j) ⊎ (j < i)) → AreAlong f.entries g.entries
    by along (inl less) = along i j f.entries g.entries less (at i f at_f) (at j g at_g)
    by along (inr (inl same)) = inl (
      [],
      append-nil f.entries
          ∙ same_Some f.entries g.entries (sym (at i f at_f) ∙ ap (slice_get (entries_on_logs h.olds)) same ∙ at j g at_g),
    )
    by along (inr (inr more)) = ⊎_elim
        (λ p. inr p) (λ p. inl p) (along j i g.entries f.entries more (at j g at_g) (at i f at_f))

-- ---- the start that is chosen of them

-- what a disk reads behind a crash begins with what no crash would have lost
reads_on : (o now : Option Told) (logged : List Entry) (c : OnLog)
    → IsSomeAnd o (λ old. IsSomeAnd now (IsLeftOver old)) → IsLeft o (LosesNone (with_these logged))
    → IfSome now (ReadsAs c) → IsPrefixOf logged c.entries
reads_on None now logged c over left reads = absurd over
reads_on (Some t) None logged c over left reads = absurd over
reads_on (Some t) (Some u) logged c over left reads =
    let none = left over.image over.is in
    let bytes : content_of u ≡ over.image = left_over t u (content_of u) over reads.image in
    let is : none.content ≡ c = content_once over.image none.content c none.stands
    (subst (λ (image : List ℕ). StandFor image c) bytes reads.stands) in
    (none.has.more_entries, sym none.has.entries ∙ ap (λ (d : OnLog). d.entries) is)

-- so the next run begins with all that was logged in the last age
pub logged_begins : (script : Script) (part other : Part) (mode : Mode) (nth : ℕ) (ages earlier : List AgeEnd)
    (age : AgeEnd) (m : ℕ) (e : MemberEnd) (mid after end : YardState) (next : AgeEnd) → HaveLogged part.missing ages mid
    → ages ≡ earlier ++ age ∷ [] → slice_get age.members m ≡ Some e → m < script.members → has part.missing m ≡ false
    → has other.missing m ≡ false → AreInStep script mid → HaveCrashed script.members mid after
    → IsAgeOf script other mode nth after end next → IsPrefixOf (take e.logged e.history) next.start
logged_begins script part other mode nth ages earlier age m e mid after end next logged is at l there here step
    crashed opens =
    let c = there_found script.members other.missing after opens.contents m opens.found l here in
    prefix-trans (take e.logged e.history) c.0.entries next.start
    (reads_on (mid.told m) (after.told m) (take e.logged e.history) c.0 (crashed m l)
    (logged earlier age m e is at there) (opens.found.each m c.0 c.1).reads)
    (front_of_start (first_group_of script).opening opens.contents (start_of script other next) m c.0 opens.starts
    (λ i j f g at_f at_g. found_along script other.missing mid after opens.contents i j f g step crashed opens.found at_f at_g)
    c.1)

-- a run over disks that tell behind it had such disks before it
pub told_before : (script : Script) (part : Part) (mode : Mode) (before mid : YardState) (ages : List AgeEnd)
    (stop : Option Stop) → IsRunOf script part mode before mid ages stop → AllTell script.members mid
    → AllTell script.members before
told_before script part mode before mid ages stop run tell m l = subst IsTrue (sym (run.passes m).tells) (tell m l)

-- ---- whichever logs the two runs miss

-- what a crash leaves of a disk begins with what no crash would have lost
left_on : (o : Option Told) (logged : List Entry) (log : LogLists) → IsLeft o (LosesNone (with_these logged))
    → IsSomeAnd o (MayLeave log) → IsPrefixOf logged log.entries
left_on None logged log left may = absurd may
left_on (Some t) logged log left may =
    let none = left may.image may.is in
    let is : none.content ≡ may.content = content_once may.image none.content may.content none.stands may.stands in (
      none.has.more_entries,
      sym none.has.entries ∙ ap (λ (d : OnLog). d.entries) is ∙ ap (λ (l : LogLists). l.entries) may.lists,
    )

-- and with all that its member has logged
left_logged : (o : Option Told) (r : Replica) (base : OnLog) (log : LogLists) → HasLeft o r base
    → IsSomeAnd o (MayLeave log) → IsPrefixOf (take r.logged r.history) log.entries
left_logged None r base log left may = absurd may
left_logged (Some t) r base log left may =
    subst (λ (l : LogLists). IsPrefixOf (take r.logged r.history) l.entries) may.lists
    (left_begins (take r.logged r.history) (member_end r) may.content.entries ([], append-nil _)
    (image_entries t may.image r may.content base may.is may.stands left))

-- two runs, the one behind a crash of the other, over fit disks; and what a member had logged in the last age of the
-- first one
pub record GoOn (script : Script) (part apart : Part) (mid after : YardState) (age next : AgeEnd) (m : ℕ) (e : MemberEnd)
    : Type 0 where
  pub ranges : HasRanges script
  pub last : YardState
  pub first : LastOverFit script part last age
  pub tried : (last ≡ mid) ⊎ AreTried script part.missing last mid
  pub logged : IsLeft (mid.told m) (LosesNone (with_these (take e.logged e.history)))
  pub readable : AreReadable script.members mid
  pub crashed : HaveCrashed script.members mid after
  pub mode : Mode
  pub nth : ℕ
  pub end : YardState
  pub opens : IsAgeOf script apart mode nth after end next
  pub at : slice_get age.members m ≡ Some e
  pub there : has part.missing m ≡ false
  pub here : has apart.missing m ≡ false

pub logged_goes_on : (script : Script) (part apart : Part) (mid after : YardState) (age next : AgeEnd) (m : ℕ)
    (e : MemberEnd) → GoOn script part apart mid after age next m e → IsPrefixOf (take e.logged e.history) next.start
logged_goes_on script part apart mid after age next m e k = by k.tried
  where
    es : List Entry
    es = take e.logged e.history

    start : Start
    start = start_of script part age

    g : Group
    g = group_of script start

    l : m < script.members
    l = omega (arith, slice_get_within age.members m e k.at, k.first.is.played.roster)

    -- what the second run finds, of all members
    some : (logs : List LogLists) × AreChosen script.members after logs
    some = crashed_some script.members mid after k.readable k.crashed

    h : HadBefore script.members after k.opens.contents some.0
    h = had_before script.members apart.missing after after k.opens.contents some.0
        (readable_tell script.members after (crashed_readable script.members mid after k.readable k.crashed))
        k.opens.found (λ m l none. refl) some.1

    lists : List LogLists
    lists = h.olds

    now : AreChosen script.members mid lists
    now = crashed_chosen script.members mid after lists k.crashed h.chosen

    second : Start
    second = start_of script apart next

    choice : IsChosenStart (group_of script start).opening (of_set lists second.present) second
    choice = start-by-messages (first_group_of script).opening g.opening (of_set lists second.present) second refl
        (chosen_by (first_group_of script).opening k.opens.contents lists second k.opens.starts
        (few script k.ranges.group) h.among)

    c : (c : OnLog) × (content_at k.opens.contents m ≡ Some c)
    c = there_found script.members apart.missing after k.opens.contents m k.opens.found l k.here

    -- the log of the member
    log : (log : LogLists) × (slice_get lists m ≡ Some log)
    log = (as_lists c.0, h.among m c.0 c.1)

    handed : of_set lists second.present m ≡ Some log.0
    handed = log-of_set lists second.present m log.0
        (in_set (first_group_of script).opening k.opens.contents second m c.0 k.opens.starts
        (few script k.ranges.group) c.1) log.1

    on : IsPrefixOf (take e.logged e.history) log.0.entries
    on = left_on (mid.told m) es log.0 k.logged (now.each m log.0 log.1)

    -- what was left of all by the first run
    over : Program
    over = k.first.is.played.over

    w : World
    w = world g over

    present : IsPresent (group_of script (start_of script part age)) m
    present =
        let d = there_found script.members part.missing k.first.before k.first.is.contents m k.first.is.found l k.there in
        in_set (first_group_of script).opening k.first.is.contents start m d.0 k.first.is.starts
        (few script k.ranges.group) d.1

    since : (olds : List LogLists) → AreChosen script.members k.last olds → Since g w olds [] olds
    since olds chosen =
        let f = k.first in
        let had = had_at script part f.mode f.nth f.before k.last age olds
        (readable_tell script.members f.before f.fit.readable) f.is chosen in
        since_behind script start f.nth over [] had.olds olds
        (left_logs script part f.mode f.nth f.before k.last age olds k.ranges f.is chosen had)
        (f.fit.lasting had.olds had.chosen)

    -- where nothing came to them
    same : (olds : List LogLists) → AreChosen script.members k.last olds → lists ≡ olds
        → IsPrefixOf (take e.logged e.history) next.start
    same olds chosen is = on-start g w olds lists [] second.present m second log.0 es
        (subst (λ (x : List LogLists). Since g w olds [] x) (sym is) (since olds chosen)) choice present handed on
        (λ try opened. absurd (none-some try opened.1))

    -- where a try did
    more : (olds : List LogLists) → AreChosen script.members k.last olds → AreOfTry script part.missing olds lists
        → IsPrefixOf (take e.logged e.history) next.start
    more olds chosen (try, is, all) = on-start g w olds lists (try ∷ []) second.present m second log.0 es (record {
      group = s.group;
      known = s.known;
      part = s.part;
      majority = s.majority;
      left = s.left;
      held = tried-held g w olds olds lists [] try s mine;
    }) choice present handed on (λ one opened. begins one (opened-cases [] try one opened))
      where
        s : Since (group_of script (start_of script part age)) w olds [] olds
        s = since olds chosen

        mine : IsTry (group_of script (start_of script part age)).opening olds lists try
        mine = try_by (first_group_of script).opening g.opening olds lists try refl is

        old : (log : LogLists) × (slice_get olds m ≡ Some log)
        old = slice_get-some olds m (omega (arith, l, chosen.all))

        x : EndsSo over m e
        x = ended_over script part k.first.mode k.first.nth k.first.before k.last age k.first.is m e k.at k.there

        -- its start has it
        had : IsPrefixOf (take e.logged e.history) try.start.entries
        had = on-start g w olds olds [] try.set m try.start old.0 es s mine.choice present
            (log-of_set olds try.set m old.0 (all m l k.there) old.1)
            (subst (λ (end : MemberEnd). IsPrefixOf (take end.logged end.history) old.0.entries) x.is
            (left_logged (k.last.told m) x.r.replica (k.first.is.begun m) old.0 (k.first.is.left m x.r x.at)
            (chosen.each m old.0 old.1))) (λ one opened. absurd (none-some one opened.1))

        begins : (one : Attempt) → IsOpenedTry [] one ⊎ ((try ≡ one) × (one.opened ≡ true))
            → IsPrefixOf (take e.logged e.history) one.start.entries
        begins one (inl opened) = absurd (none-some one opened.1)
        begins one (inr (is_it, opened)) =
            subst (λ (a : Attempt). IsPrefixOf (take e.logged e.history) a.start.entries) is_it had

    by : (k.last ≡ mid) ⊎ AreTried script part.missing k.last mid → IsPrefixOf (take e.logged e.history) next.start
    by (inl is) = same lists (subst (λ (y : YardState). AreChosen script.members y lists) (sym is) now) refl
    by (inr tried) =
        let t = tried.tried lists now in ⊎_elim (λ is. same t.0 t.1 is) (λ is. more t.0 t.1 is) t.2
