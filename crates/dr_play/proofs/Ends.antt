-- The logs of an age: how they begin, and what has come of them where all members have ended.
use Rattle.std.specs.Prelude.{All, IsTrue, Option, None, Some, is_some, option_map, slice_get, slice_index_or, unwrap_or}
use Rattle.std.proofs.Common.{◌≡◌, refl, sym, ap, ◌∙◌, subst, inl, inr, ℕ, ◌+◌, ◌*◌, ◌<◌, ◌≤◌, false, List, [], length, map, drop, drop_at, take, true≢false, arith, le_of_eq, le_refl, le_trans, length-append, length-take}
use Rattle.std.proofs.{Math.Nat.mul-le-mul, lemmas.List.{length-map, Elements.{All-drop, All-take}}}
use Rattle.std.proofs.lemmas.Option.{slice_get-get_or, slice_get_within}
use Rattle.dr_disk.specs.Disk.{Told}
use Rattle.dr_entry.{specs.Spelling.IsValidEntry, proofs.{ListParts.each_at, Records.short_block, Trims.short_vote}}
use Rattle.dr_entry.specs.{declared.{end.End.End, entry.Entry.Entry}, declared.record.{Record.Record, Vote.Vote}}
use Rattle.dr_entry.specs.declared.{end.MemberEnd.MemberEnd, limits.TheConstants.{MAX_MEMBERS, MAX_MESSAGES}}
use Rattle.dr_entry.specs.declared.end.End.TheVariants as ends
use Rattle.dr_entry.specs.declared.record.Record.TheVariants as records
use Rattle.dr_log.{specs.State.LogState, proofs.{Growing.short_log_length, Standing.short_votes}}
use Rattle.dr_log_bytes.specs.Content.{block_length}
use Rattle.dr_machine.specs.Group.{Group, IsPresent, banks, roster}
use Rattle.dr_program.{specs.Presence.present_at, proofs.{Deeds.replicas, Holdings.held_of}}
use Rattle.dr_program.specs.Program.{AllEnded, AreSetups, Program, begun_program, end_at, end_of}
use Rattle.dr_program.{specs.{Reading.{table_of, world}, declared.setup.Setup.Setup}, proofs.Voting.votes_within}
use Rattle.dr_program.specs.{Running.{Running, begun_running, end_by}, declared.outcome.LogWhy.LogWhy}
use Rattle.dr_program.proofs.{Present.{present_within, ended_there, begun_fresh, all_ends}, RunningPrograms.IsFresh}
use Rattle.dr_program.specs.declared.outcome.LogWhy.TheVariants as whys
use Rattle.dr_program_laws.specs.{Ended.is_log_end, Failing.{AreFailing, IsFailing, has_log_end}}
use Rattle.dr_restart.{specs.{Groups.group_of, Setups.IsBegun, declared.start.Start.Start}, proofs.Setups.are_setups}
use Rattle.dr_script.specs.declared.script.Script.{Script}
use Rattle.dr_refine.proofs.Deeds.{program_member}
use Rattle.dr_world_laws.proofs.{Messages.valid_history, Rooms.history_below, Worlds.{holds_messages, known}}
use Rattle.dr_served.specs.Served.{AreReady, AreRoomy, HasCome, HasServed, HaveSamePlaces, HaveServed, IsReady, IsRecordDue, WentSo}
use Rattle.dr_served.proofs.{Served.same_there, Serving.begins}
use Rattle.dr_play.specs.Logged.{AreAmple, AreOpened, HaveCome, IsAmple, IsNotFull, IsOpened, NoneFull, why_ended}
use Rattle.dr_play.{specs.Sound.IsSound, proofs.Sound.history_there}

-- ---- the beginning

-- logs that got room are ready for their members, which have begun
ready_begins : {D : Type 0} (told : D → Option Told) (count : D → ℕ) (g : Group) (limit : ℕ)
    (setups : List (Option Setup)) (p : Program) (olds news : List (Option (LogState D))) → AreSetups g limit setups
    → p ≡ begun_program g setups → AreOpened g olds → HaveSamePlaces olds news
    → AreRoomy told count p.members olds news → AreReady news p.members × HaveServed told count olds news p.members
ready_begins {D} told count g limit setups p olds news are begun opened places roomy = (
  record {
    all = places.all ∙ opened.all ∙ sym (as_many ∙ are.all);
    there = λ m r member. let old = base m r member in same_there olds news m old.0 places old.1;
    each = λ m log r there member. let old = base m r member in (both m old.0 log r old.1 there member).1;
  },
  λ m base log r from there member. (both m base log r from there member).0,
)
  where
    as_many : length p.members ≡ length setups
    as_many = ap (λ (x : Program). length x.members) begun ∙ length-map setups (option_map begun_running)

    has_begun : (m : ℕ) (r : Running) → present_at p.members m ≡ Some r → IsPresent g m × IsFresh g r
    has_begun m r member = begun_fresh g limit setups m r are
        (ap (λ (x : Program). present_at x.members m) (sym begun) ∙ member)

    base : (m : ℕ) (r : Running) → present_at p.members m ≡ Some r
        → (old : LogState D) × (present_at olds m ≡ Some old)
    base m r member = opened.there m (omega (arith, present_within p.members m r member, as_many, are.all))
        (has_begun m r member).0

    both : (m : ℕ) (base log : LogState D) (r : Running) → present_at olds m ≡ Some base
        → present_at news m ≡ Some log → present_at p.members m ≡ Some r
        → HasServed told count base log r × IsReady log r
    both m base log r from there member =
        let is = (has_begun m r member).1 in
        let was : IsOpened g base = (opened.each m base from).1 in
        begins told count base log r (roomy m r base log member from there) was.whole
        (was.entries ∙ sym is.history) is.logged is.votes is.none

-- ---- the end

-- what ends a member by its log
why_of_end : (why : LogWhy) → why_ended (end_by why) ≡ Some why
why_of_end whys.DiskFault = refl
why_of_end (whys.LogFull len) = refl

no_why : (end : End) → is_log_end end ≡ false → why_ended end ≡ None
no_why ends.DiskFault e = absurd (cc)
no_why (ends.LogFull len) e = absurd (cc)
no_why end e = refl

-- a member that has ended tells why its last append failed
tells_why : (r : Running) → IsFailing r → IsTrue (is_some r.replica.end) → why_ended (end_of r).end ≡ r.failed
tells_why r is ended = by r.failed refl r.replica.end refl ended
  where
    by : (why : Option LogWhy) → r.failed ≡ why → (o : Option End) → r.replica.end ≡ o → IsTrue (is_some o)
        → why_ended (end_of r).end ≡ r.failed
    by why at None e some = absurd (true≢false (sym some))
    by None at (Some end) e some = ap (λ o. why_ended (unwrap_or o ends.Done)) e
        ∙ no_why end (ap has_log_end (sym e) ∙ is.well at) ∙ sym at
    by (Some why) at (Some end) e some = elim (is.broken why at) [
      | inl still ↦ absurd (cc (still.0, e))
      | inr over ↦ ap (λ o. why_ended (unwrap_or o ends.Done)) over ∙ why_of_end why ∙ sym at
    ]

-- a program of an age that is over, with its logs since these bases
pub record IsOver {D : Type 0} (told : D → Option Told) (count : D → ℕ) (g : Group)
    (bases logs : List (Option (LogState D))) (p : Program) : Type 0 where
  pub sound : IsSound g p
  pub ended : AllEnded p
  pub failing : AreFailing p
  pub opened : AreOpened g bases
  pub places : HaveSamePlaces bases logs
  pub served : HaveServed told count bases logs p.members

-- each of its members has a log, as it was and as it is
pub over_base : {D : Type 0} (told : D → Option Told) (count : D → ℕ) (g : Group)
    (bases logs : List (Option (LogState D))) (p : Program) (m : ℕ) (r : Running) → IsOver told count g bases logs p
    → present_at p.members m ≡ Some r → (base : LogState D) × (present_at bases m ≡ Some base)
over_base told count g bases logs p m r over there = over.opened.there m
    (omega (arith, present_within p.members m r there, over.sound.form.all)) (over.sound.form.of m r there).present

-- each of its members tells why its last append failed
pub over_tells : {D : Type 0} (told : D → Option Told) (count : D → ℕ) (g : Group)
    (bases logs : List (Option (LogState D))) (p : Program) (m : ℕ) (r : Running)
    → IsOver told count g bases logs p → present_at p.members m ≡ Some r → why_ended (end_of r).end ≡ r.failed
over_tells told count g bases logs p m r over there = tells_why r (over.failing m r there)
    (ended_there p m r over.ended there)

-- so the logs have come to what their members' ends tell
pub have_come : {D : Type 0} (told : D → Option Told) (count : D → ℕ) (g : Group)
    (bases logs : List (Option (LogState D))) (p : Program) → IsOver told count g bases logs p
    → HaveCome told count bases logs p.members
have_come {D} told count g bases logs p over = λ m base log r from there at.
    subst (HasCome told count base log r.replica) (sym (over_tells told count g bases logs p m r over at))
    (over.served m base log r from there at).come

-- ---- ample logs

-- the votes of a member in the program's world
votes_there : (g : Group) (p : Program) (m : ℕ) (r : Running) → IsSound g p
    → present_at p.members m ≡ Some r → (world g p).past.votes m ≡ r.replica.votes
votes_there g p m r is there = ap (λ h. h.votes)
    (held_of g (replicas p.members) (table_of p) m r.replica (program_member g p m r is.group is.form there).there)

-- a log with room enough isn't full for a member of a sound program
ample_log : {D : Type 0} (told : D → Option Told) (count : D → ℕ) (g : Group) (p : Program) (m : ℕ)
    (r : Running) (base log : LogState D) (len : ℕ) → IsSound g p → present_at p.members m ≡ Some r
    → IsAmple g base → r.failed ≡ Some (whys.LogFull len) → HasServed told count base log r → ⊥
ample_log {D} told count g p m r base log len is there ample at served = by went.0 went.1 went.2.over
  where
    below : m < roster g
    below = omega (arith, present_within p.members m r there, is.form.all)

    same : (world g p).past.history m ≡ r.replica.history
    same = history_there g p m r is there

    valid : All IsValidEntry r.replica.history
    valid = subst (All IsValidEntry) same (valid_history g ((world g p).past.history m) is.group
        (holds_messages g (world g p) m is.group (known g (world g p) is.group is.reached) below))

    small : length r.replica.history ≤ length g.opening.start + banks g + MAX_MESSAGES * MAX_MEMBERS
    small = omega (
      arith,
      ap length same,
      history_below g (world g p) m MAX_MESSAGES is.group is.reached below is.group.messages,
      mul-le-mul (le_refl MAX_MESSAGES) is.group.most_members,
    )

    members : r.replica.roster ≤ MAX_MEMBERS
    members = omega (arith, (is.form.of m r there).members, is.group.most_members)

    ballots : r.replica.banks * r.replica.roster ≤ banks g * MAX_MEMBERS
    ballots = mul-le-mul (le_of_eq (is.form.of m r there).banks) members

    few : length r.replica.votes ≤ banks g * MAX_MEMBERS
    few = le_trans (votes_within r.replica (is.form.form m r there).replica) ballots

    short : All (λ (v : Vote). v.members ≤ MAX_MEMBERS) r.replica.votes
    short k d within =
        let own = (known g (world g p) is.group is.reached).chosen.voting.valid.own m
        (slice_index_or r.replica.votes k d) (
          k,
          ap (λ vs. slice_get vs k) (votes_there g p m r is there) ∙ slice_get-get_or r.replica.votes k d within,
        ) in
        omega (arith, ap (λ (v : Vote). v.members) own, is.group.most_members)

    came : HasCome told count base log r.replica r.failed
    came = served.come

    went : WentSo told count base log r.replica (Some (whys.LogFull len))
    went = subst (WentSo told count base log r.replica) at came.last

    -- the entries that it has more are valid
    more_valid : All IsValidEntry came.more.0
    more_valid = subst (All IsValidEntry) (ap (drop (length base.content.entries)) (sym came.entries ∙ came.more.1)
        ∙ drop_at base.content.entries came.more.0 (length base.content.entries) refl)
        (All-drop IsValidEntry (length base.content.entries)
        (take r.replica.logged r.replica.history) (All-take IsValidEntry r.replica.logged r.replica.history valid))

    as_long : length log.content.entries ≡ length base.content.entries + length came.more.0
    as_long = ap length came.more.1 ∙ length-append base.content.entries came.more.0

    long : len ≤ base.content.length + 72 * length came.more.0 + 73 * length r.replica.votes
    long = omega (
      arith,
      went.2.long,
      came.long,
      short_log_length came.more.0 more_valid,
      short_votes r.replica.votes short,
    )

    logged : length log.content.entries ≤ r.replica.logged
    logged = omega (arith, ap length came.entries, length-take r.replica.logged r.replica.history)

    all : length log.content.entries ≤ length r.replica.history
    all = omega (arith, ap length came.entries, length-take r.replica.logged r.replica.history)

    -- the next record isn't there, as there is room for it
    by : (next : Record) → IsRecordDue r.replica next → log.limit < len + block_length next → ⊥
    by (records.Entry e) due over =
        let block : block_length (records.Entry e) ≤ 72 =
        short_block e (each_at IsValidEntry r.replica.history r.replica.logged e valid due) in
        omega (
          arith,
          over,
          block,
          long,
          as_long,
          logged,
          slice_get_within r.replica.history r.replica.logged e due,
          small,
          few,
          ample.limit,
          came.limit,
        )
    by (records.Vote v) due over =
        let block : block_length (records.Vote v) ≤ 73 = short_vote v due.valid.members in
        omega (arith, over, block, long, as_long, all, due.few, ballots, small, ample.limit, came.limit)
    by (records.AgeVote v) due over = due
    by (records.Cut keep) due over = due
    by records.Upgrade due over = due

-- so none is full where all are ample
pub none_full : {D : Type 0} (told : D → Option Told) (count : D → ℕ) (g : Group)
    (bases logs : List (Option (LogState D))) (p : Program) → IsOver told count g bases logs p
    → AreAmple g bases → NoneFull (map end_at p.members)
none_full {D} told count g bases logs p over ample = all_ends (λ (e : MemberEnd). IsNotFull e.end) p tt
    (λ m r there. not_full (end_of r).end (full_none m r there))
  where
    not_full : (end : End) → ((len : ℕ) → why_ended end ≡ Some (whys.LogFull len) → ⊥) → IsNotFull end
    not_full (ends.LogFull len) full = full len refl
    not_full ends.DiskFault full = tt
    not_full end full = tt

    full_none : (m : ℕ) (r : Running) → present_at p.members m ≡ Some r → (len : ℕ)
        → why_ended (end_of r).end ≡ Some (whys.LogFull len) → ⊥
    full_none m r there len full =
        let base = over_base told count g bases logs p m r over there in
        let log = same_there bases logs m base.0 over.places base.1 in
        ample_log told count g p m r base.0 log.0 len over.sound there (ample m base.0 base.1)
        (sym (over_tells told count g bases logs p m r over there) ∙ full)
        (over.served m base.0 log.0 r base.1 log.1 there)

-- ---- a program that ran from the beginning of an age

-- its logs, once they have room, are ready for its members
pub ready_with : {D : Type 0} (told : D → Option Told) (count : D → ℕ)
    (script : Script) (start : Start) (nth : ℕ) (begun : Program) (olds news : List (Option (LogState D)))
    → length script.messages ≡ script.members → IsBegun script start nth begun
    → AreOpened (group_of script start) olds → HaveSamePlaces olds news → AreRoomy told count begun.members olds news
    → AreReady news begun.members × HaveServed told count olds news begun.members
ready_with told count script start nth begun olds news lists (setups, are, is) opened places roomy =
    ready_begins told count (group_of script start) script.turns setups begun olds news
    (are_setups script start nth setups lists are) is opened places roomy
