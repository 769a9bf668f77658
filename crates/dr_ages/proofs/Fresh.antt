-- Runs whose logs have room for all that they bring, as those over empty disks. None of their logs is missing.
use Rattle.std.{specs.Option.option_map_or, proofs.lemmas.List.{Elements.All-drop, Sums.sum_by_push}}
use Rattle.std.specs.Prelude.{All, IfSome, IsSomeAnd, IsTrue, Option, None, Some, is_some, slice_get}
use Rattle.std.proofs.Common.{◌≡◌, ◌⊎◌, refl, sym, ap, ◌∙◌, subst, inl, inr, ℕ, zero, suc, ◌+◌, ◌*◌, ◌^◌, ◌<◌, ◌≤◌, arith, not, true, List, [], ◌∷◌, ◌++◌, length, length-append, take, drop, drop_at, append_assoc}
use Rattle.std.proofs.lemmas.{List.{drop-append-le, length-map}, Nat.mul-le, Option.{same_Some, slice_get_within}}
use Rattle.dr_play.specs.Logged.{NoneFull}
use Rattle.dr_disk.specs.{Disk.{Told, content_of, state_of}, Images.IsImage}
use Rattle.dr_entry.specs.{Spelling.{IsValidVote, entry_spelling, vote_spelling}, declared.end.AgeEnd.AgeEnd}
use Rattle.dr_entry.specs.declared.{end.MemberEnd.MemberEnd, entry.Entry.{Entry, TheVariants.View}}
use Rattle.dr_entry.specs.{declared.limits.TheConstants.MAX_MEMBERS, declared.record.{Record.Record, Vote.Vote}}
use Rattle.dr_entry.proofs.ListPlaces.{within_places, slice_get-some}
use Rattle.dr_entry.specs.declared.record.Record.TheVariants as records
use Rattle.dr_history.{specs.{History.IsPrefixOf, Order.first_entries}, proofs.Bits.has_zero}
use Rattle.dr_history.proofs.{Histories.part_of_opened, Keeping.front_of_longest}
use Rattle.dr_kept.proofs.Following.{among_lists, lists_with}
use Rattle.dr_log.{specs.Standing.{entries_length, votes_length, with_entries}, proofs.Growing.entries_length-append}
use Rattle.dr_log.proofs.Standing.{short_votes}
use Rattle.dr_log_bytes.{specs.{Content.{OnLog, with_record}, Grammar.StandFor}, proofs.Meaning.content_once}
use Rattle.dr_served.{specs.Served.{HasDueBehind, IsRecordDue, entries_due}, proofs.Leaving.left_begins}
use Rattle.dr_machine.{specs.Group.{Group, IsGroup, banks, roster}, proofs.Groups.banks-small}
use Rattle.dr_opening.specs.{Accepted.AreAccepted, Lists.{all_as_lists, as_lists}, Tries.{IsChosenOf, content_at}}
use Rattle.dr_opening.{specs.Contents.{IsRisingStep, IsVoteStep, voted_for}, proofs.Whole.{all_in_set, entries_among}}
use Rattle.dr_opening.proofs.{Choosing.{chosen_group, opened_short}, Lists.{ageless, open_uncut, on_found}}
use Rattle.dr_opening.proofs.{Contents.next_long, Trying.chosen_by, Ways.open_entries}
use Rattle.dr_program.specs.{Program.member_end, Replica.Replica}
use Rattle.dr_quorum.specs.Handing.{handed_by}
use Rattle.dr_restart.specs.{Choosing.{AreOfHolders, AreOfNobody, HasAge, IsChosenStart}, Left.entries_on_logs}
use Rattle.dr_restart.specs.{Groups.{first_group_of, group_of}, declared.{lists.LogLists.LogLists, start.Start.Start}}
use Rattle.dr_restart.{specs.Refusing.Refusal, proofs.{Longest.longest-chosen, Refusals.one-start}}
use Rattle.dr_script.specs.{Ranges.{HasGroupRanges, HasRanges}, declared.script.Script.Script}
use Rattle.dr_yard.specs.Yards.{AllTell, AreEmpty, YardState}
use Rattle.dr_ages.specs.Ages.{AreAges, IsAgeOf, IsMemberOf, NamesNobody, opening_of, start_of}
use Rattle.dr_ages.{specs.Found.{AreFew, AreFound, AreRoomy, ReadsAs}, proofs.Reading.{found_read, read_once}}
use Rattle.dr_ages.specs.{Left.{HasLeft, with_logged}, declared.{mode.Mode.Mode, part.Part.Part, stop.Stop.Stop}}
use Rattle.dr_ages.specs.Stops.{AreOpenBelow, AreRefusedFor, HasStopped, HaveVotesBelow, IsOutside, IsTooFull}
use Rattle.dr_ages.specs.declared.stop.Stop.TheVariants.{OutOfMemory, DiskFault, LogFull, Damaged, Disagree, Foreign, NoQuorum, AgesUsedUp}
use Rattle.dr_ages.proofs.{Chain.tell_on, Good.{IsGood, empty_found, empty_good, found_of, found_whole, good_never}}
use Rattle.dr_ages.proofs.{InStep.age_leaves_good, Keeping.{IsBehind, age_next, behind, ended_over, image_entries}}
use Rattle.dr_ages.proofs.{Refusals.refused_after, Votes.found_valid}
use Rattle.dr_kept.proofs.Short.{found_short}

-- ---- what an age brings to a log

-- behind what stood on a log as the age began: little but the entries that came
abbrev HasFewMore : OnLog → OnLog → Type 0
HasFewMore base c = c.length ≤ base.length + 37376 + entries_length (drop (length base.entries) c.entries)

-- a group has a bank for each member of the roster, and one more for each late one
record IsSmallGroup (g : Group) : Type 0 where
  roster : roster g ≤ MAX_MEMBERS
  banks : banks g ≤ 2 * MAX_MEMBERS

image_few : (t : Told) (image : List ℕ) (g : Group) (r : Replica) (c base : OnLog) → IsImage (state_of t) image
    → StandFor image c → IsSmallGroup g → IsMemberOf g r → IsPrefixOf base.entries (take r.logged r.history)
    → All IsValidVote c.votes → HasLeft (Some t) r base → HasFewMore base c
image_few t image g r c base is reads most of begins valid left = by left
  where
    -- the votes of a group are few
    few : length r.votes ≤ 2 * MAX_MEMBERS * MAX_MEMBERS
    few = omega (arith, of.few, mul-le (banks g) (roster g) (2 * MAX_MEMBERS) MAX_MEMBERS most.banks most.roster)

    same_as : (d : OnLog) → StandFor image d → c ≡ d
    same_as d here = content_once image c d reads here

    -- so they are short
    short : (more : List Vote) → c.votes ≡ base.votes ++ more → length more ≤ 2 * MAX_MEMBERS * MAX_MEMBERS
        → votes_length more ≤ 37376
    short more parts less =
        let behind : All IsValidVote more = subst (All IsValidVote)
        (ap (drop (length base.votes)) parts ∙ drop_at base.votes more (length base.votes) refl)
        (All-drop IsValidVote (length base.votes) c.votes valid) in
        omega (arith, short_votes more (λ k d l. (behind k d l).members), less)

    -- just what is logged
    just : StandFor image (with_logged base r) → HasFewMore base c
    just s =
        let same = same_as (with_logged base r) s in
        omega (
          arith,
          ap (λ (d : OnLog). d.length) same,
          ap (λ (d : OnLog). entries_length (drop (length base.entries) d.entries)) same,
          short r.votes (ap (λ (d : OnLog). d.votes) same) few,
        )

    -- with the record that is due: the next entry, or a vote
    one_more : (next : Record) → IsRecordDue r next → StandFor image (with_record next (with_logged base r))
        → HasFewMore base c
    one_more (records.Entry x) due s =
        let all = same_as (with_record (records.Entry x) (with_logged base r)) s in
        let rest : drop (length base.entries) c.entries ≡ drop (length base.entries) (take r.logged r.history) ++ x
        ∷ [] = ap (λ (d : OnLog). drop (length base.entries) d.entries) all ∙ drop-append-le (length base.entries)
        (take r.logged r.history) (x ∷ []) (omega (arith, ap length begins.1, length-append base.entries begins.0)) in
        omega (
          arith,
          ap (λ (d : OnLog). d.length) all,
          ap entries_length rest,
          sum_by_push (λ (y : Entry). 1 + length (entry_spelling y)) (drop (length base.entries) (take r.logged r.history)) x,
          short r.votes (ap (λ (d : OnLog). d.votes) all) few,
        )
    one_more (records.Vote v) due s =
        let all = same_as (with_record (records.Vote v) (with_logged base r)) s in
        let votes : c.votes ≡ base.votes ++ (r.votes ++ v ∷ []) =
        ap (λ (d : OnLog). d.votes) all ∙ append_assoc base.votes r.votes (v ∷ []) in
        let less : length (r.votes ++ v ∷ []) ≤ 2 * MAX_MEMBERS * MAX_MEMBERS = omega (
          arith,
          length-append r.votes (v ∷ []),
          due.few,
          mul-le r.banks r.roster (2 * MAX_MEMBERS) MAX_MEMBERS (omega (arith, of.banks, most.banks))
              (omega (arith, of.roster, most.roster)),
        ) in
        omega (
          arith,
          ap (λ (d : OnLog). d.length) all,
          ap (λ (d : OnLog). entries_length (drop (length base.entries) d.entries)) all,
          sum_by_push (λ (x : Vote). 1 + length (vote_spelling x)) r.votes v,
          short (r.votes ++ v ∷ []) votes less,
        )
    one_more (records.AgeVote v) due s = absurd due
    one_more (records.Cut keep) due s = absurd due
    one_more records.Upgrade due s = absurd due

    -- with all entries that are due
    all : StandFor image (with_entries (entries_due r) (with_logged base r)) → HasFewMore base c
    all s =
        let same = same_as (with_entries (entries_due r) (with_logged base r)) s in
        let rest : drop (length base.entries) c.entries ≡ drop (length base.entries) (take r.logged r.history)
        ++ entries_due r = ap (λ (d : OnLog). drop (length base.entries) d.entries) same
        ∙ drop-append-le (length base.entries) (take r.logged r.history) (entries_due r)
        (omega (arith, ap length begins.1, length-append base.entries begins.0)) in
        omega (
          arith,
          ap (λ (d : OnLog). d.length) same,
          ap entries_length rest,
          entries_length-append (drop (length base.entries) (take r.logged r.history)) (entries_due r),
          short r.votes (ap (λ (d : OnLog). d.votes) same) few,
        )

    more : (after : OnLog) → HasDueBehind r (with_logged base r) after → StandFor image after → HasFewMore base c
    more after (inl (next, due, same)) stands = one_more next due (subst (StandFor image) same stands)
    more after (inr same) stands = all (subst (StandFor image) same stands)

    by : HasLeft (Some t) r base → HasFewMore base c
    by (inl safe) = just (safe image is)
    by (inr broken) = elim (broken.left image is) [
      | inl before ↦ just before
      | inr after ↦ more broken.after broken.due after
    ]

-- and it begins with what was logged
read_few : (o : Option Told) (g : Group) (r : Replica) (c base : OnLog) (first : List Entry) → IsTrue (is_some o)
    → IfSome o (ReadsAs c) → IsSmallGroup g → IsMemberOf g r → base.entries ≡ first
    → IsPrefixOf first (take r.logged r.history) → All IsValidVote c.votes → HasLeft o r base
    → HasFewMore base c × IsPrefixOf first c.entries
read_few None g r c base first some reads most of opened begins valid left = absurd (cc)
read_few (Some t) g r c base first some reads most of opened begins valid left = (
  image_few t (content_of t) g r c base reads.image reads.stands most of
      (subst (λ (es : List Entry). IsPrefixOf es (take r.logged r.history)) (sym opened) begins) valid left,
  left_begins first (member_end r) c.entries begins
      (image_entries t (content_of t) r c base reads.image reads.stands left),
)

-- ---- what an opening brings to a log where none is missing

-- the start is the longest of what is found
uncut : (script : Script) (yard : YardState) (contents : List (Option OnLog)) (start : Start) (m : ℕ) (c : OnLog)
    → HasGroupRanges script → AreFound script.members 0 yard contents
    → AreAccepted script (entries_on_logs (lists_with contents))
    → IsChosenOf (first_group_of script).opening contents start → content_at contents m ≡ Some c
    → IsPrefixOf c.entries start.entries
uncut script yard contents start m c ranges found accepted chosen at =
    front_of_longest (entries_on_logs (lists_with contents)) start.entries c.entries m accepted.along
    (longest-chosen (first_group_of script).opening (lists_with contents) start.present start
    (chosen_by (first_group_of script).opening contents (lists_with contents) start chosen few (among_lists contents))
    (λ i l. all_in_set (first_group_of script).opening contents start i chosen few (there i l)) accepted.along)
    (entries_among contents (lists_with contents) m c (among_lists contents) at)
  where
    few : length script.messages ≤ 16
    few = omega (arith, ranges.lists, ranges.most_members)

    there : (i : ℕ) → i < length (lists_with contents) → is_some (content_at contents i) ≡ true
    there i l =
        let c = found_of script.members yard contents i found (omega (arith, l, found.all, many)) in ap is_some c.1
      where
        many : length (lists_with contents) ≡ length contents
        many = length-map contents (λ (o : Option OnLog). option_map_or as_lists o (record { entries = []; votes = []; age_votes = [] }))

-- ---- disks behind so many ages from the first

-- The logs of disks behind k ages: but for their entries no more bytes than at first, and what these ages bring, and
-- the next age has the number behind them.
pub record IsRoomyAt (script : Script) (bytes first k : ℕ) (yard : YardState) : Type 0 where
  pub tell : AllTell script.members yard
  pub good : IsGood script yard
  pub few : (contents : List (Option OnLog)) → AreFound script.members 0 yard contents → (m : ℕ) (c : OnLog)
      → content_at contents m ≡ Some c → c.length ≤ bytes + 37384 * k + entries_length c.entries
  pub next : (contents : List (Option OnLog)) (start : Start) → AreFound script.members 0 yard contents
      → IsChosenOf (first_group_of script).opening contents start → start.age ≡ first + k
  pub last : (contents : List (Option OnLog)) → AreFound script.members 0 yard contents
      → AreRefusedFor script Refusal.AgesUsedUp contents → 2 ^ 16 ≤ first + k

-- empty ones
pub fresh_first : (script : Script) (yard : YardState) → AreEmpty script.members yard → IsRoomyAt script 9 0 0 yard
fresh_first script yard empty = record {
  tell = λ m l. tells (yard.told m) (empty m l);
  good = empty_good script yard empty;
  few = λ contents found m c at.
      omega (arith, ap (λ (d : OnLog). d.length) (empty_found script 0 yard contents m c empty found at));
  next = λ contents start found chosen. number contents start found chosen chosen.chosen.age.next;
  last = λ contents found used.
      let c = on_found contents used.2 used.3 used.4 in
      absurd (ageless c.0 65535 (empty_found script 0 yard contents used.2 c.0 empty found c.1)
      (subst (λ (l : LogLists). HasAge l 65535) (sym c.2) used.5));
}
  where
    tells : (o : Option Told) → IsSomeAnd o (λ t. content_of t ≡ []) → IsTrue (is_some o)
    tells None is = absurd is
    tells (Some t) is = refl

    number : (contents : List (Option OnLog)) (start : Start) → AreFound script.members 0 yard contents
        → IsChosenOf (first_group_of script).opening contents start
        → (start.age ≡ 0) ⊎ ((a : ℕ) × (m : ℕ) × (log : LogLists)
        × (handed_by (all_as_lists contents) m ≡ Some log) × HasAge log a × (start.age ≡ a + 1)) → start.age ≡ 0 + 0
    number contents start found chosen (inl none) = none
    number contents start found chosen (inr (a, m, log, at, has, same)) =
        let c = on_found contents m log at in
        absurd (ageless c.0 a (empty_found script 0 yard contents m c.0 empty found c.1)
        (subst (λ (l : LogLists). HasAge l a) (sym c.2) has))

-- the age has the number of those before it
age_number : (script : Script) (part : Part) (mode : Mode) (bytes first k nth : ℕ) (before yard : YardState)
    (age : AgeEnd) → NamesNobody script.members part.missing → IsRoomyAt script bytes first k before
    → IsAgeOf script part mode nth before yard age → age.age ≡ first + k
age_number script part mode bytes first k nth before yard age none roomy is = roomy.next is.contents
    (start_of script part age) (found_whole script.members part.missing before is.contents none is.found) is.starts

-- on each log there is little but entries
few_at : (script : Script) (bytes first k : ℕ) (yard : YardState) (contents : List (Option OnLog)) (m : ℕ) (c : OnLog)
    → IsRoomyAt script bytes first k yard → bytes ≤ 536870912 → k ≤ 16 → AreFound script.members 0 yard contents
    → content_at contents m ≡ Some c → AreFew c
few_at script bytes first k yard contents m c roomy short small found at =
    record { few = omega (arith, roomy.few contents found m c at, small, short) }

-- the first age starts with nothing
pub fresh_start : (script : Script) (part : Part) (mode : Mode) (nth : ℕ) (before : YardState) (ages : List AgeEnd)
    (last : YardState) (a : AgeEnd) → AreEmpty script.members before
    → AreAges script part mode nth before ages last → slice_get ages 0 ≡ Some a → a.start ≡ []
fresh_start script part mode nth before [] last a empty are at = absurd (omega (arith, slice_get_within [] 0 a at))
fresh_start script part mode nth before (one ∷ ages) last a empty are at =
    ap (λ (x : AgeEnd). x.start) (sym (same_Some one a at)) ∙ by are.1.starts.chosen.entries
  where
    by : AreOfHolders (first_group_of script).opening (handed_by (all_as_lists are.1.contents)) one.start
        ⊎ AreOfNobody (handed_by (all_as_lists are.1.contents)) one.start → one.start ≡ []
    by (inr nobody) = nobody.none
    by (inl held) =
        let c = on_found are.1.contents held.held.0 held.held.1 held.held.2 in
        held.held.4 ∙ (sym (ap (λ (l : LogLists). l.entries) c.2) ∙ ap (λ (d : OnLog). d.entries)
        (empty_found script part.missing before are.1.contents held.held.0 c.0 empty are.1.found c.1))

-- what an age leaves on a log, by what was found on it as the age opened
pub roomy_next : (script : Script) (part : Part) (mode : Mode) (bytes first k nth : ℕ) (before yard : YardState)
    (age : AgeEnd) → HasRanges script → NamesNobody script.members part.missing → IsRoomyAt script bytes first k before
    → IsAgeOf script part mode nth before yard age → IsRoomyAt script bytes first (k + 1) yard
roomy_next script part mode bytes first k nth before yard age ranges none roomy is = record {
  tell = tell;
  good = age_leaves_good script part mode nth before yard age ranges none is tell;
  few = few;
  next = λ contents start found chosen. omega (
    arith,
    age_next script part yard age contents start (behind_of contents found) chosen,
    number,
  );
  last = λ contents found used. omega (
    arith,
    (refused_after script part yard age contents Refusal.AgesUsedUp (behind_of contents found) used).1,
    number,
  );
}
  where
    tell : AllTell script.members yard
    tell = tell_on script.members (age.start ∷ []) before yard is.passes roomy.tell

    number : age.age ≡ first + k
    number = age_number script part mode bytes first k nth before yard age none roomy is

    -- as it is found with none missing, it is found with these missing
    same_found : (contents : List (Option OnLog)) → AreFound script.members 0 yard contents
        → AreFound script.members part.missing yard contents
    same_found contents found = record {
      all = found.all;
      there = λ m l. found.there m l ∙ ap not (has_zero m ∙ sym (none m l));
      each = found.each;
    }

    behind_of : (contents : List (Option OnLog)) → AreFound script.members 0 yard contents
        → IsBehind script part yard age contents
    behind_of contents found =
        behind script part mode nth before yard age ranges is tell contents (same_found contents found)

    whole_found : AreFound script.members 0 before is.contents
    whole_found = found_whole script.members part.missing before is.contents none is.found

    group : IsGroup (group_of script (start_of script part age))
    group = chosen_group script is.contents (start_of script part age) ranges.group is.starts

    small : IsSmallGroup (group_of script (start_of script part age))
    small = record { roster = group.most_members; banks = banks-small (group_of script (start_of script part age)) group }

    few : (contents : List (Option OnLog)) → AreFound script.members 0 yard contents → (m : ℕ) (c : OnLog)
        → content_at contents m ≡ Some c → c.length ≤ bytes + 37384 * (k + 1) + entries_length c.entries
    few contents found m c at =
        let l : m < script.members = omega (arith, within_places contents m c at, found.all) in
        let old = found_of script.members before is.contents m whole_found l in
        let e = slice_get-some age.members m (omega (arith, l, is.played.roster)) in
        let x = ended_over script part mode nth before yard age is m e.0 e.1 (none m l) in
        let start = start_of script part age in
        let whole = first_entries (opening_of script part age) in
        let opened = is.begins m old.0 old.1 in
        let base = open_entries start (voted_for start old.0) (is.begun m) opened in
        let begins = subst (λ (end : MemberEnd). IsPrefixOf whole (take end.logged end.history)) (sym x.is)
        (is.opened m e.0 e.1 (none m l)) in
        let fits = uncut script before is.contents start m old.0 ranges.group whole_found
        (roomy.good.accepted is.contents whole_found) is.starts old.1 in
        let read = read_few (yard.told m) (group_of script start) x.r.replica c (is.begun m) whole (tell m l)
        (found.each m c at).reads small (is.few m x.r x.at) base begins
        (found_valid script.members 0 yard contents m c tell found l at) (is.left m x.r x.at) in
        let front = part_of_opened old.0.entries start.entries (View age.age 0 start.members) fits in
        omega (
          arith,
          read.0,
          ap (λ (es : List Entry). entries_length (drop (length es) c.entries)) base,
          parts whole c.entries read.1,
          open_uncut start old.0 (is.begun m) fits opened,
          parts old.0.entries whole front,
          roomy.few is.contents whole_found m old.0 old.1,
        )
      where
        parts : (es all : List Entry) → IsPrefixOf es all
            → entries_length es + entries_length (drop (length es) all) ≡ entries_length all
        parts es all front = ap (λ (rest : List Entry). entries_length es + entries_length rest)
            (ap (drop (length es)) (sym front.1) ∙ drop_at es front.0 (length es) refl)
            ∙ (sym (entries_length-append es front.0) ∙ ap entries_length front.1)

pub roomy_last : (script : Script) (part : Part) (mode : Mode) (bytes first k nth : ℕ) (before : YardState)
    (ages : List AgeEnd) (last : YardState) → HasRanges script → NamesNobody script.members part.missing
    → IsRoomyAt script bytes first k before → AreAges script part mode nth before ages last
    → IsRoomyAt script bytes first (k + length ages) last
roomy_last script part mode bytes first k nth before [] last ranges none roomy are =
    subst (λ (n : ℕ). IsRoomyAt script bytes first n last) (omega arith)
    (subst (IsRoomyAt script bytes first k) are roomy)
roomy_last script part mode bytes first k nth before (age ∷ ages) last ranges none roomy are =
    subst (λ (n : ℕ). IsRoomyAt script bytes first n last) (omega arith)
    (roomy_last script part mode bytes first (k + 1) (nth + 1) are.0 ages last ranges none
    (roomy_next script part mode bytes first k nth before are.0 age ranges none roomy are.1) are.2)

pub roomy_ages : (script : Script) (part : Part) (mode : Mode) (bytes first k nth : ℕ) (before : YardState)
    (ages : List AgeEnd) (last : YardState) (i : ℕ) (a : AgeEnd) → HasRanges script
    → NamesNobody script.members part.missing → bytes ≤ 536870912 → k + length ages ≤ 16
    → IsRoomyAt script bytes first k before → AreAges script part mode nth before ages last
    → slice_get ages i ≡ Some a → (a.age ≡ first + k + i) × NoneFull a.members
roomy_ages script part mode bytes first k nth before [] last i a ranges none short small roomy are at =
    absurd (omega (arith, slice_get_within [] i a at))
roomy_ages script part mode bytes first k nth before (age ∷ ages) last zero a ranges none short small roomy are at =
    let number = age_number script part mode bytes first k nth before are.0 age none roomy are.1 in
    let found = found_whole script.members part.missing before are.1.contents none are.1.found in
    subst (λ (x : AgeEnd). (x.age ≡ first + k + 0) × NoneFull x.members) (same_Some age a at) (
      omega (arith, number),
      are.1.ample (λ m c at. few_at script bytes first k before are.1.contents m c roomy short (omega (arith, small))
          found at),
    )
roomy_ages script part mode bytes first k nth before (age ∷ ages) last (suc i) a ranges none short small roomy are at =
    let r = roomy_ages script part mode bytes first (k + 1) (nth + 1) are.0 ages last i a ranges none short
    (omega (arith, small)) (roomy_next script part mode bytes first k nth before are.0 age ranges none roomy are.1)
    are.2 at in
    (omega (arith, r.0), r.1)

-- those of a run over fit disks that are roomy
pub roomy_first : (script : Script) (yard : YardState) (contents : List (Option OnLog)) (start : Start)
    → HasRanges script → AllTell script.members yard → IsGood script yard → AreRoomy script yard
    → AreFound script.members 0 yard contents → IsChosenOf (first_group_of script).opening contents start
    → IsRoomyAt script 536870912 start.age 0 yard
roomy_first script yard contents start ranges tell good roomy found chosen = record {
  tell = tell;
  good = good;
  few = λ cs there m c at. omega (arith, roomy.short cs there m c at);
  next = λ cs other there is. omega (
    arith,
    ap (λ (s : Start). s.age) (one-start (first_group_of script).opening (handed_by (all_as_lists contents)) other start
        (subst (λ (xs : List (Option OnLog)). IsChosenStart (first_group_of script).opening (handed_by (all_as_lists xs)) other)
        (read_once script.members 0 yard cs contents (found_read script.members 0 yard cs tell there)
        (found_read script.members 0 yard contents tell found)) is.chosen) chosen.chosen),
  );
  last = λ cs there used.
      let c = on_found cs used.2 used.3 used.4 in
      absurd (omega (
        arith,
        ranges.some_age,
        roomy.numbered cs there used.2 65535 c.0 c.1 (subst (λ (l : LogLists). HasAge l 65535) (sym c.2) used.5),
      ));
}

-- and there is a number for each of its ages
pub roomy_numbers : (script : Script) (yard : YardState) (contents : List (Option OnLog)) (start : Start)
    → HasRanges script → AreRoomy script yard → AreFound script.members 0 yard contents
    → IsChosenOf (first_group_of script).opening contents start → start.age + script.ages ≤ 2 ^ 16
roomy_numbers script yard contents start ranges roomy found chosen = by chosen.chosen.age.next
  where
    by : (start.age ≡ 0) ⊎ ((a : ℕ) × (m : ℕ) × (log : LogLists) × (handed_by (all_as_lists contents) m ≡ Some log)
        × HasAge log a × (start.age ≡ a + 1)) → start.age + script.ages ≤ 2 ^ 16
    by (inl none) = omega (arith, none, ranges.most_ages)
    by (inr (a, m, log, at, has, same)) =
        let c = on_found contents m log at in
        omega (
          arith,
          same,
          roomy.numbered contents found m a c.0 c.1 (subst (λ (l : LogLists). HasAge l a) (sym c.2) has),
        )

-- so the logs are not refused for their ages
pub roomy_lasts : (script : Script) (yard : YardState) (contents : List (Option OnLog)) → HasRanges script
    → AreRoomy script yard → AreFound script.members 0 yard contents
    → AreRefusedFor script Refusal.AgesUsedUp contents → ⊥
roomy_lasts script yard contents ranges roomy found used =
    let c = on_found contents used.2 used.3 used.4 in
    omega (
      arith,
      ranges.some_age,
      roomy.numbered contents found used.2 65535 c.0 c.1 (subst (λ (l : LogLists). HasAge l 65535) (sym c.2) used.5),
    )

-- ---- no log is full

-- each append of an opening leaves a log that is no longer than one that is open
full_never : (script : Script) (part : Part) (before after : YardState) (m len : ℕ) → HasGroupRanges script
    → (is : IsTooFull script part before after m len) → AreFew is.content → ⊥
full_never script part before after m len ranges is little = omega (
  arith,
  little.few,
  found_short script is.contents is.start m is.content ranges is.chosen is.there,
  opened_short script is.contents is.start ranges is.chosen,
  next_long is.start is.content is.now is.next (steps is.phase),
  is.at.1,
)
  where
    steps : (IsVoteStep is.start is.content is.now is.next × HaveVotesBelow is.start is.contents after m)
        ⊎ (IsRisingStep is.start (voted_for is.start is.content) is.now is.next
        × AreOpenBelow is.start is.contents after m) → IsVoteStep is.start is.content is.now is.next
        ⊎ IsRisingStep is.start (voted_for is.start is.content) is.now is.next
    steps (inl voting) = inl voting.0
    steps (inr rising) = inr rising.0

-- ---- what stops a run

pub roomy_stop : (script : Script) (part : Part) (bytes first k : ℕ) (last after : YardState) (s : Stop)
    → HasRanges script → NamesNobody script.members part.missing → bytes ≤ 536870912 → k ≤ 16 → first + k < 2 ^ 16
    → IsRoomyAt script bytes first k last → HasStopped script part last after s → IsOutside s
roomy_stop script part bytes first k last after s ranges none short small number roomy stopped = by s stopped
  where
    by : (s : Stop) → HasStopped script part last after s → IsOutside s
    by OutOfMemory is = tt
    by (DiskFault m) is = tt
    by (LogFull m len) is = full_never script part last after m len ranges.group is
        (few_at script bytes first k last is.contents m is.content roomy short small
        (found_whole script.members part.missing last is.contents none is.found) is.there)
    by (Damaged m at) is = good_never script part last after (Damaged m at) ranges.group none roomy.good is tt
    by (Disagree a b p) is = good_never script part last after (Disagree a b p) ranges.group none roomy.good is tt
    by (Foreign m p) is = good_never script part last after (Foreign m p) ranges.group none roomy.good is tt
    by (NoQuorum v h n) is = good_never script part last after (NoQuorum v h n) ranges.group none roomy.good is tt
    by AgesUsedUp is =
        omega (arith, number, roomy.last is.0 (found_whole script.members part.missing last is.0 none is.1) is.2)
