-- What lasts on the disks of a yard lasts through ages, openings that stop, and crashes.
use Rattle.std.{specs.Option.option_map_or, proofs.lemmas.List.{get_or_past, length-map}}
use Rattle.std.specs.Prelude.{IfSome, IsSomeAnd, IsTrue, Option, None, Some, is_some, nat_lt, slice_get}
use Rattle.std.proofs.Common.{◌≡◌, ◌⊎◌, refl, sym, ap, ◌∙◌, subst, ℕ, zero, suc, ◌+◌, ◌-◌, ◌^◌, ◌<◌, ◌≤◌, inl, inr, arith, le_refl, not, Bool, true, false, List, [], ◌∷◌, ◌++◌, length, map, take}
use Rattle.std.proofs.lemmas.{Bool.cases_lt, Option.{none-some, same_Some, slice_get_past, slice_get_within}}
use Rattle.dr_disk.{specs.{Calls.{State, at_rest}, Images.{AllImages, Goes, IsImage}}, proofs.Moments.Went-last}
use Rattle.dr_disk.{specs.Disk.{Told, content_of, state_of}, proofs.Images.{image_at_rest, empty_image}}
use Rattle.dr_entry.specs.declared.{end.{AgeEnd.AgeEnd, MemberEnd.MemberEnd}, entry.Entry.Entry}
use Rattle.dr_entry.proofs.ListPlaces.{within_places, pick, slice_get-some}
use Rattle.dr_history.{specs.{History.IsPrefixOf, Members.has}, proofs.Bits.has_ones}
use Rattle.dr_kept.{specs.{Lasting.HasLeftLogs, Leaving.IsLeftAt}, proofs.Following.{among_lists, lists_with}}
use Rattle.dr_kept.proofs.Lasting.{durable_lasts, still_lasts}
use Rattle.dr_log.specs.Standing.{KeepsRecords}
use Rattle.dr_log_bytes.{specs.{Content.{OnLog, empty_of}, Grammar.StandFor}, proofs.Grammars.stands_empty}
use Rattle.dr_log_bytes.proofs.Meaning.{content_once}
use Rattle.dr_opening.{specs.{Lists.as_lists, Tries.{AreAmong, content_at}}, proofs.Trying.chosen_by}
use Rattle.dr_program.{specs.Program.{Program, end_at}, proofs.Present.slice_present}
use Rattle.dr_quorum_laws.{specs.Lasting.AreLasting, proofs.Lasting.{last-kept, last-pass, last-tried, none-last}}
use Rattle.dr_restart.specs.{Groups.first_group_of, Refusing.{IsRefusedFor, Refusal}}
use Rattle.dr_restart.{specs.declared.{lists.LogLists.LogLists, start.Start.Start}, proofs.Trying.nothing_on}
use Rattle.dr_script.{specs.{Ranges.{HasGroupRanges, HasRanges}, declared.script.Script.Script}, proofs.Ranges.few}
use Rattle.dr_yard.specs.Yards.{AllTell, YardState}
use Rattle.dr_ages.specs.{Ages.{AreAges, IsAgeOf, NamesNobody, start_of}, Crashed.{HaveCrashed, IsLeftOver}}
use Rattle.dr_ages.specs.Fit.{AreChosen, AreFit, AreLastingOn, AreReadable, IsReadable, MayLeave}
use Rattle.dr_ages.specs.{Found.{AreFound, ReadsAs}, Left.HasLeft, Stops.{AreRefusedFor, HasStopped, IsBadLogs}}
use Rattle.dr_ages.specs.{Tried.{AreTried, AreOfTry}, declared.{mode.Mode.Mode, part.Part.Part, stop.Stop.Stop}}
use Rattle.dr_ages.proofs.{Chain.tell_on, Good.{found_of, handed_whole, pass_never, readable_behind, undamaged}}
use Rattle.dr_ages.proofs.{Keeping.{ended_over, found_there, image_leaves, of_choice}, Votes.{EndsSo, told_by}}

-- ---- what crashes may leave

pub readable_tell : (n : ℕ) (yard : YardState) → AreReadable n yard → AllTell n yard
readable_tell n yard readable m l = by (yard.told m) (readable m l)
  where
    by : (o : Option Told) → IsSomeAnd o (λ t. AllImages (state_of t) IsReadable) → IsTrue (is_some o)
    by None is = absurd is
    by (Some t) is = refl

-- at each moment a crash would have left what it might have left before, as far as records go
pub alike_readable : (n : ℕ) (before after : YardState) → ((m : ℕ) → m < n → Goes (before.told m)
    (after.told m) KeepsRecords) → AreReadable n before → AreReadable n after
alike_readable n before after alike readable m l = by (before.told m) (after.told m) (alike m l) (readable m l)
  where
    by : (o now : Option Told) → Goes o now KeepsRecords → IsSomeAnd o (λ t. AllImages (state_of t) IsReadable)
        → IsSomeAnd now (λ t. AllImages (state_of t) IsReadable)
    by None now goes is = absurd is
    by (Some t) None goes is = absurd goes
    by (Some t) (Some u) goes is = λ image here.
        let k = Went-last t u (KeepsRecords (state_of t)) goes image here in
        let r = is k.before k.was in (r.0, (k.alike r.0).0 r.1)

pub alike_chosen : (n : ℕ) (before after : YardState) (logs : List LogLists) → ((m : ℕ) → m < n → Goes (before.told m)
    (after.told m) KeepsRecords) → AreChosen n after logs → AreChosen n before logs
alike_chosen n before after logs alike chosen = record {
  all = chosen.all;
  each = λ m log at. by (before.told m)
      (after.told m) log (alike m (omega (arith, slice_get_within logs m log at, chosen.all))) (chosen.each m log at);
}
  where
    by : (o now : Option Told) (log : LogLists) → Goes o now KeepsRecords → IsSomeAnd now (MayLeave log)
        → IsSomeAnd o (MayLeave log)
    by None None log goes may = absurd may
    by None (Some u) log goes may = absurd goes
    by (Some t) None log goes may = absurd may
    by (Some t) (Some u) log goes may =
        let k = Went-last t u (KeepsRecords (state_of t)) goes may.image may.is in
        record {
          image = k.before;
          is = k.was;
          content = may.content;
          stands = (k.alike may.content).1 may.stands;
          lists = may.lists;
        }

-- a crash may leave what a read gives
read_may : (o : Option Told) (c : OnLog) → IsTrue (is_some o) → IfSome o (ReadsAs c)
    → IsSomeAnd o (MayLeave (as_lists c))
read_may None c some reads = absurd (cc)
read_may (Some t) c some reads =
    record { image = content_of t; is = reads.image; content = c; stands = reads.stands; lists = refl }

pub found_chosen : (n : ℕ) (yard : YardState) (contents : List (Option OnLog)) → AllTell n yard
    → AreFound n 0 yard contents → AreChosen n yard (lists_with contents)
found_chosen n yard contents tell found = record {
  all = length-map contents (λ (o : Option OnLog). option_map_or as_lists o nothing_on) ∙ found.all;
  each = λ m log at.
      let l : m < n = omega (
        arith,
        slice_get_within (lists_with contents) m log at,
        length-map contents (λ (o : Option OnLog). option_map_or as_lists o nothing_on),
        found.all,
      ) in
      let c = found_of n yard contents m found l in
      subst (λ (x : LogLists). IsSomeAnd (yard.told m) (MayLeave x))
      (same_Some (as_lists c.0) log (sym (among_lists contents m c.0 c.1) ∙ at))
      (read_may (yard.told m) c.0 (tell m l) (found.each m c.0 c.1).reads);
}

-- ---- what they might have left before

-- of one log: what was found, or where nothing was, what they may leave now
record HadSo (told : Option Told) (found : Option OnLog) (now : Option LogLists) (log : LogLists) : Type 0 where
  may : IsSomeAnd told (MayLeave log)
  read : (c : OnLog) → found ≡ Some c → log ≡ as_lists c
  other : found ≡ None → now ≡ Some log

-- and of all
pub record HadBefore (n : ℕ) (before : YardState) (contents : List (Option OnLog)) (logs : List LogLists)
    : Type 0 where
  pub olds : List LogLists
  pub chosen : AreChosen n before olds
  pub among : AreAmong contents olds
  pub others : (m : ℕ) → content_at contents m ≡ None → slice_get logs m ≡ slice_get olds m

pub had_before : (n missing : ℕ) (before after : YardState) (contents : List (Option OnLog)) (logs : List LogLists)
    → AllTell n before → AreFound n missing before contents
    → ((m : ℕ) → m < n → content_at contents m ≡ None → after.told m ≡ before.told m) → AreChosen n after logs
    → HadBefore n before contents logs
had_before n missing before after contents logs tell found same chosen = record {
  olds = all.0;
  chosen = record { all = all.1; each = λ m log at. (all.2 m log at).may };
  among = λ m c at.
      let x = slice_get-some all.0 m (omega (arith, within_places contents m c at, found.all, all.1)) in
      x.1 ∙ ap Some ((all.2 m x.0 x.1).read c at);
  others = λ m none. others m none (cases_lt m n);
}
  where
    one : (m : ℕ) → m < n → (x : LogLists) × HadSo (before.told m) (content_at contents m) (slice_get logs m) x
    one m l = by (content_at contents m) refl
      where
        by : (o : Option OnLog) → content_at contents m ≡ o
            → (x : LogLists) × HadSo (before.told m) (content_at contents m) (slice_get logs m) x
        by (Some c) at = (
          as_lists c,
          record {
            may = read_may (before.told m) c (tell m l) (found.each m c at).reads;
            read = λ d here. ap as_lists (same_Some c d (sym at ∙ here));
            other = λ none. absurd (none-some c (sym none ∙ at));
          },
        )
        by None none =
            let was = slice_get-some logs m (omega (arith, l, chosen.all)) in (
              was.0,
              record {
                may = subst (λ (o : Option Told). IsSomeAnd o (MayLeave was.0)) (same m l none)
                    (chosen.each m was.0 was.1);
                read = λ d here. absurd (none-some d (sym none ∙ here));
                other = λ x. was.1;
              },
            )

    all : (xs : List LogLists) × (length xs ≡ n) × ((m : ℕ) (x : LogLists) → slice_get xs m ≡ Some x
        → HadSo (before.told m) (content_at contents m) (slice_get logs m) x)
    all = pick (λ m. HadSo (before.told m) (content_at contents m) (slice_get logs m)) n one

    others : (m : ℕ) → content_at contents m ≡ None → (m < n) ⊎ (n ≤ m) → slice_get logs m ≡ slice_get all.0 m
    others m none (inl l) =
        let x = slice_get-some all.0 m (omega (arith, l, all.1)) in (all.2 m x.0 x.1).other none ∙ sym x.1
    others m none (inr past) = slice_get_past logs m (omega (arith, past, chosen.all))
        ∙ sym (slice_get_past all.0 m (omega (arith, past, all.1)))

-- ---- what an age leaves

-- where nothing is found the member is missing
gone_at : (n missing : ℕ) (yard : YardState) (contents : List (Option OnLog)) (m : ℕ)
    → AreFound n missing yard contents → m < n → content_at contents m ≡ None → has missing m ≡ true
gone_at n missing yard contents m found l none = by (has missing m) refl
  where
    by : (b : Bool) → has missing m ≡ b → has missing m ≡ true
    by true is = is
    by false is = absurd (
        let no : false ≡ true = ap is_some (sym none) ∙ found.there m l ∙ ap not is in cc)

-- what stands on one log behind it
record StandsSo (start : Start) (found : List (Option OnLog)) (p : Program) (logs : List LogLists) (m : ℕ)
    (o : Option OnLog) : Type 0 where
  same : is_some o ≡ is_some (content_at found m)
  each : (c : OnLog) → o ≡ Some c → IsLeftAt start found p m c × (slice_get logs m ≡ Some (as_lists c))

pub left_logs : (script : Script) (part : Part) (mode : Mode) (nth : ℕ) (before yard : YardState) (age : AgeEnd)
    (logs : List LogLists) → HasRanges script → (is : IsAgeOf script part mode nth before yard age)
    → AreChosen script.members yard logs → (h : HadBefore script.members before is.contents logs)
    → HasLeftLogs script (start_of script part age) nth is.played.over h.olds logs
left_logs script part mode nth before yard age logs ranges is chosen h = record {
  ranges = ranges.group;
  turns = ranges.some_turn;
  found = is.contents;
  among = h.among;
  is = of_choice script part mode nth before yard age is;
  after = all.0;
  left = record {
    all = all.1 ∙ sym is.found.all;
    same = λ m. same m (cases_lt m script.members);
    each = λ m c at. (at_place m c at).0;
  };
  long = chosen.all;
  behind = λ m c at. (at_place m c at).1;
  others = h.others;
}
  where
    start : Start
    start = start_of script part age

    over : Program
    over = is.played.over

    stood : (m : ℕ) (first : OnLog) (e : MemberEnd) (log : LogLists) → content_at is.contents m ≡ Some first
        → (x : EndsSo is.played.over m e) → slice_get logs m ≡ Some log → (o : Option Told)
        → HasLeft o x.r.replica (is.begun m) → IsSomeAnd o (MayLeave log)
        → (c : OnLog) × IsLeftAt start is.contents over m c × (slice_get logs m ≡ Some (as_lists c))
    stood m first e log at x here None left may = absurd may
    stood m first e log at x here (Some t) left may = (
      may.content,
      record {
        member = x.r;
        there = x.at;
        first = first;
        on = at;
        base = is.begun m;
        opened = is.begins m first at;
        leaves = image_leaves t may.image x.r may.content (is.begun m) may.is may.stands left;
      },
      here ∙ ap Some (sym may.lists),
    )

    one : (m : ℕ) → m < script.members → (o : Option OnLog) × StandsSo start is.contents over logs m o
    one m l = by (content_at is.contents m) refl
      where
        by : (f : Option OnLog) → content_at is.contents m ≡ f
            → (o : Option OnLog) × StandsSo start is.contents over logs m o
        by None none = (None, record { same = sym (ap is_some none); each = λ c at. absurd (none-some c at) })
        by (Some first) at =
            let there = found_there script.members part.missing before is.contents m first is.found at in
            let e = slice_get-some age.members m (omega (arith, l, is.played.roster)) in
            let x = ended_over script part mode nth before yard age is m e.0 e.1 there in
            let log = slice_get-some logs m (omega (arith, l, chosen.all)) in
            let c = stood m first e.0 log.0 at x log.1 (yard.told m) (is.left m x.r x.at)
            (chosen.each m log.0 log.1) in (
              Some c.0,
              record {
                same = sym (ap is_some at);
                each = λ d here. subst (λ (y : OnLog). IsLeftAt start is.contents over m y
                    × (slice_get logs m ≡ Some (as_lists y))) (same_Some c.0 d here) (c.1, c.2);
              },
            )

    all : (xs : List (Option OnLog)) × (length xs ≡ script.members)
        × ((m : ℕ) (o : Option OnLog) → slice_get xs m ≡ Some o → StandsSo start is.contents over logs m o)
    all = pick (λ m. StandsSo start is.contents over logs m) script.members one

    same : (m : ℕ) → (m < script.members) ⊎ (script.members ≤ m)
        → is_some (content_at all.0 m) ≡ is_some (content_at is.contents m)
    same m (inl l) =
        let o = slice_get-some all.0 m (omega (arith, l, all.1)) in
        ap is_some (slice_present all.0 m o.0 o.1) ∙ (all.2 m o.0 o.1).same
    same m (inr past) = ap is_some (get_or_past all.0 m None (omega (arith, all.1, past))
        ∙ sym (get_or_past is.contents m None (omega (arith, is.found.all, past))))

    at_place : (m : ℕ) (c : OnLog) → content_at all.0 m ≡ Some c
        → IsLeftAt start is.contents over m c × (slice_get logs m ≡ Some (as_lists c))
    at_place m c at =
        let o = slice_get-some all.0 m (within_places all.0 m c at) in
        (all.2 m o.0 o.1).each c (sym (slice_present all.0 m o.0 o.1) ∙ at)

-- what crashes may have left as an age opened, by what they may leave behind it
pub had_at : (script : Script) (part : Part) (mode : Mode) (nth : ℕ) (before yard : YardState) (age : AgeEnd)
    (logs : List LogLists) → AllTell script.members before → (is : IsAgeOf script part mode nth before yard age)
    → AreChosen script.members yard logs → HadBefore script.members before is.contents logs
had_at script part mode nth before yard age logs tell is chosen =
    had_before script.members part.missing before yard is.contents logs tell is.found
    (λ m l none. (is.untouched m (gone_at script.members part.missing before is.contents m is.found l none)).0) chosen

-- whatever a crash leaves behind an age is a log
pub age_readable : (script : Script) (part : Part) (mode : Mode) (nth : ℕ) (before yard : YardState) (age : AgeEnd)
    → IsAgeOf script part mode nth before yard age → AreReadable script.members before
    → AreReadable script.members yard
age_readable script part mode nth before yard age is readable m l = by (has part.missing m) refl
  where
    tell : AllTell script.members yard
    tell = tell_on script.members (age.start ∷ []) before yard is.passes (readable_tell script.members before readable)

    by : (b : Bool) → has part.missing m ≡ b → IsSomeAnd (yard.told m) (λ t. AllImages (state_of t) IsReadable)
    by true gone = subst (λ (o : Option Told). IsSomeAnd o (λ t. AllImages (state_of t) IsReadable))
        (sym (is.untouched m gone).0) (readable m l)
    by false there = readable_behind script part mode nth before yard age is tell m l there

pub age_lasting : (script : Script) (part : Part) (mode : Mode) (nth : ℕ) (before yard : YardState) (age : AgeEnd)
    (es : List Entry) → HasRanges script → IsAgeOf script part mode nth before yard age
    → AreLastingOn script es before → AreLastingOn script es yard
age_lasting script part mode nth before yard age es ranges is last = record {
  readable = age_readable script part mode nth before yard age is last.readable;
  lasting = λ logs chosen.
      let h = had_at script part mode nth before yard age logs
      (readable_tell script.members before last.readable) is chosen in
      still_lasts script (start_of script part age) nth is.played.over es h.olds logs
      (left_logs script part mode nth before yard age logs ranges is chosen h) (last.lasting h.olds h.chosen);
}

-- and all that a member of it knew to be durable
pub age_durable : (script : Script) (part : Part) (mode : Mode) (nth : ℕ) (before yard : YardState) (age : AgeEnd)
    (m : ℕ) (e : MemberEnd) → HasRanges script → IsAgeOf script part mode nth before yard age
    → AreFit script before → slice_get age.members m ≡ Some e → AreLastingOn script (take e.durable e.history) yard
age_durable script part mode nth before yard age m e ranges is fit at = record {
  readable = age_readable script part mode nth before yard age is fit.readable;
  lasting = λ logs chosen.
      let h = had_at script part mode nth before yard age logs
      (readable_tell script.members before fit.readable) is chosen in
      by logs h.olds (left_logs script part mode nth before yard age logs ranges is chosen h)
      (fit.lasting h.olds h.chosen) (has start.present m) refl;
}
  where
    start : Start
    start = start_of script part age

    over : Program
    over = is.played.over

    end : slice_get (map end_at over.members) m ≡ Some e
    end = sym (ap (λ (a : AgeEnd). slice_get a.members m)
        (told_by mode script (start_of script part age) nth age is.played)) ∙ at

    by : (logs olds : List LogLists) → HasLeftLogs script start nth over olds logs → AreLasting script [] olds
        → (b : Bool) → has (start_of script part age).present m ≡ b
        → AreLasting script (take e.durable e.history) logs
    by logs olds left last true there =
        subst (λ (end : Option MemberEnd). AreLasting script (take (option_map_or (λ (e : MemberEnd). e.durable) end 0)
        (option_map_or (λ (e : MemberEnd). e.history) end [])) logs) end
        (durable_lasts script start nth over [] olds logs m left last there)
    by logs olds left last false gone = subst (λ (x : MemberEnd). AreLasting script (take x.durable x.history) logs)
        (sym (is.played.ended.absent m e at (λ present. let no : true ≡ false = sym present ∙ gone in cc)))
        (still_lasts script start nth over [] olds logs left last)

-- ---- the ages of a run

pub ages_lasting : (script : Script) (part : Part) (mode : Mode) (nth : ℕ) (before : YardState) (ages : List AgeEnd)
    (after : YardState) (es : List Entry) → HasRanges script → AreAges script part mode nth before ages after
    → AreLastingOn script es before → AreLastingOn script es after
ages_lasting script part mode nth before [] after es ranges are last = subst (AreLastingOn script es) are last
ages_lasting script part mode nth before (age ∷ ages) after es ranges are last =
    ages_lasting script part mode (nth + 1) are.0 ages after es ranges are.2
    (age_lasting script part mode nth before are.0 age es ranges are.1 last)

pub ages_durable : (script : Script) (part : Part) (mode : Mode) (nth : ℕ) (before : YardState) (ages : List AgeEnd)
    (after : YardState) (i : ℕ) (age : AgeEnd) (m : ℕ) (e : MemberEnd) → HasRanges script
    → AreAges script part mode nth before ages after → AreFit script before → slice_get ages i ≡ Some age
    → slice_get age.members m ≡ Some e → AreLastingOn script (take e.durable e.history) after
ages_durable script part mode nth before [] after i age m e ranges are fit at here = absurd (none-some age at)
ages_durable script part mode nth before (one ∷ ages) after zero age m e ranges are fit at here =
    ages_lasting script part mode (nth + 1) are.0 ages after (take e.durable e.history) ranges are.2
    (age_durable script part mode nth before are.0 one m e ranges are.1 fit
    (ap (λ (a : AgeEnd). slice_get a.members m) (same_Some one age at) ∙ here))
ages_durable script part mode nth before (one ∷ ages) after (suc i) age m e ranges are fit at here =
    ages_durable script part mode (nth + 1) are.0 ages after i age m e ranges are.2
    (age_lasting script part mode nth before are.0 one [] ranges are.1 fit) at here

-- the last one, over fit disks
pub record LastOverFit (script : Script) (part : Part) (after : YardState) (age : AgeEnd) : Type 0 where
  pub mode : Mode
  pub nth : ℕ
  pub before : YardState
  pub is : IsAgeOf script part mode nth before after age
  pub fit : AreFit script before

pub last_over_fit : (script : Script) (part : Part) (mode : Mode) (nth : ℕ) (before : YardState) (ages : List AgeEnd)
    (last : YardState) (earlier : List AgeEnd) (age : AgeEnd) → HasRanges script
    → AreAges script part mode nth before ages last → AreFit script before → ages ≡ earlier ++ age ∷ []
    → LastOverFit script part last age
last_over_fit script part mode nth before [] last [] age ranges are fit is = absurd (cc)
last_over_fit script part mode nth before [] last (x ∷ earlier) age ranges are fit is = absurd (cc)
last_over_fit script part mode nth before (one ∷ []) last [] age ranges are fit is = record {
  mode = mode;
  nth = nth;
  before = before;
  is = subst (IsAgeOf script part mode nth before last)
      (same_Some one age (ap (λ (xs : List AgeEnd). slice_get xs 0) is))
      (subst (λ (y : YardState). IsAgeOf script part mode nth before y one) are.2 are.1);
  fit = fit;
}
last_over_fit script part mode nth before (one ∷ two ∷ ages) last [] age ranges are fit is = absurd (cc)
last_over_fit script part mode nth before (one ∷ ages) last (x ∷ earlier) age ranges are fit is =
    last_over_fit script part mode (nth + 1) are.0 ages last earlier age ranges are.2
    (age_lasting script part mode nth before are.0 one [] ranges are.1 fit) (tail one x ages (earlier ++ age ∷ []) is)
  where
    tail : (one x : AgeEnd) (xs ys : List AgeEnd) → one ∷ xs ≡ x ∷ ys → xs ≡ ys
    tail one x xs ys h = cc

-- ---- an opening that stopped

pub tried_lasting : (script : Script) (missing : ℕ) (before after : YardState) (es : List Entry)
    → AreTried script missing before after → AreLastingOn script es before → AreLastingOn script es after
tried_lasting script missing before after es tried last = record {
  readable = tried.readable last.readable;
  lasting = λ logs chosen.
      let t = tried.tried logs chosen in by logs t.0 (last.lasting t.0 t.1) t.2;
}
  where
    by : (logs olds : List LogLists) → AreLasting script es olds → (logs ≡ olds) ⊎ AreOfTry script missing olds logs
        → AreLasting script es logs
    by logs olds lasts (inl same) = subst (AreLasting script es) (sym same) lasts
    by logs olds lasts (inr (try, is, all)) = last-tried script es olds logs try lasts is

-- ---- crashes

-- what is left of a disk behind a crash is the image that it left
pub left_over : (old new : Told) (image : List ℕ) → (over : IsLeftOver old new) → IsImage (state_of new) image
    → image ≡ over.image
left_over old new image over is =
    image_at_rest over.image image (subst (λ (s : State). IsImage s image) over.rests is)

pub crashed_readable : (n : ℕ) (before after : YardState) → AreReadable n before → HaveCrashed n before after
    → AreReadable n after
crashed_readable n before after readable crashed m l = by (before.told m) (after.told m) (crashed m l) (readable m l)
  where
    by : (o now : Option Told) → IsSomeAnd o (λ old. IsSomeAnd now (IsLeftOver old)) → IsSomeAnd o (λ t. AllImages
        (state_of t) IsReadable) → IsSomeAnd now (λ t. AllImages (state_of t) IsReadable)
    by None now over is = absurd over
    by (Some t) None over is = absurd over
    by (Some t) (Some u) over is = λ image here.
        subst IsReadable (sym (left_over t u image over here)) (is over.image over.is)

pub crashed_chosen : (n : ℕ) (before after : YardState) (logs : List LogLists) → HaveCrashed n before after
    → AreChosen n after logs → AreChosen n before logs
crashed_chosen n before after logs crashed chosen = record {
  all = chosen.all;
  each = λ m log at. by (before.told m) (after.told m) log
      (crashed m (omega (arith, slice_get_within logs m log at, chosen.all))) (chosen.each m log at);
}
  where
    by : (o now : Option Told) (log : LogLists) → IsSomeAnd o (λ old. IsSomeAnd now (IsLeftOver old))
        → IsSomeAnd now (MayLeave log) → IsSomeAnd o (MayLeave log)
    by None now log over may = absurd over
    by (Some t) None log over may = absurd over
    by (Some t) (Some u) log over may = record {
      image = over.image;
      is = over.is;
      content = may.content;
      stands = subst (λ (image : List ℕ). StandFor image may.content) (left_over t u may.image over may.is)
          may.stands;
      lists = may.lists;
    }

pub crashed_lasting : (script : Script) (before after : YardState) (es : List Entry) → AreLastingOn script es before
    → HaveCrashed script.members before after → AreLastingOn script es after
crashed_lasting script before after es last crashed = record {
  readable = crashed_readable script.members before after last.readable crashed;
  lasting = λ logs chosen. last.lasting logs (crashed_chosen script.members before after logs crashed chosen);
}

-- and it has left something
pub crashed_some : (n : ℕ) (before after : YardState) → AreReadable n before → HaveCrashed n before after
    → (logs : List LogLists) × AreChosen n after logs
crashed_some n before after readable crashed =
    let all = pick (λ m. (λ (log : LogLists). IsSomeAnd (after.told m) (MayLeave log))) n
    (λ m l. by (before.told m) (after.told m) (crashed m l) (readable m l)) in
    (all.0, record { all = all.1; each = all.2 })
  where
    image_of : (t u : Told) → (over : IsLeftOver t u) → IsImage (state_of u) over.image
    image_of t u over = subst (λ (s : State). IsImage s over.image) (sym over.rests) (record {
      no_shorter = le_refl (length over.image);
      no_longer = le_refl (length over.image);
      stays = λ i l out. refl;
    })

    by : (o now : Option Told) → IsSomeAnd o (λ old. IsSomeAnd now (IsLeftOver old))
        → IsSomeAnd o (λ t. AllImages (state_of t) IsReadable) → (log : LogLists) × IsSomeAnd now (MayLeave log)
    by None now over is = absurd over
    by (Some t) None over is = absurd over
    by (Some t) (Some u) over is =
        let c = is over.image over.is in (
          as_lists c.0,
          record { image = over.image; is = image_of t u over; content = c.0; stands = c.1; lists = refl },
        )

-- the start of the next age begins with what lasts
pub next_start_has : (script : Script) (part : Part) (mode : Mode) (nth : ℕ) (mid before yard : YardState)
    (age : AgeEnd) (es : List Entry) → HasGroupRanges script → AreLastingOn script es mid
    → HaveCrashed script.members mid before → IsAgeOf script part mode nth before yard age → IsPrefixOf es age.start
next_start_has script part mode nth mid before yard age es ranges last crashed is =
    last-kept script es h.olds start.present start (now.lasting h.olds h.chosen)
    (chosen_by (first_group_of script).opening is.contents h.olds start is.starts (few script ranges) h.among)
  where
    start : Start
    start = start_of script part age

    now : AreLastingOn script es before
    now = crashed_lasting script mid before es last crashed

    some : (logs : List LogLists) × AreChosen script.members before logs
    some = crashed_some script.members mid before last.readable crashed

    h : HadBefore script.members before is.contents some.0
    h = had_before script.members part.missing before before is.contents some.0
        (readable_tell script.members before now.readable) is.found (λ m l none. refl) some.1

-- ---- where none is missing

-- what is found on fit disks is refused only as no age is left
pub fit_pass : (script : Script) (yard : YardState) (contents : List (Option OnLog)) (why : Refusal)
    → HasGroupRanges script → AreFit script yard → AreFound script.members 0 yard contents
    → AreRefusedFor script why contents → why ≡ Refusal.AgesUsedUp
fit_pass script yard contents why ranges fit found refused = last-pass script [] (lists_with contents)
    (2 ^ script.members - 1) why ranges (fit.lasting (lists_with contents) chosen) (λ m l. has_ones script.members m
    ∙ below m (omega (arith, l, chosen.all))) (subst (λ h. IsRefusedFor (first_group_of script).opening h why)
    (handed_whole script.members yard contents found) refused)
  where
    chosen : AreChosen script.members yard (lists_with contents)
    chosen = found_chosen script.members yard contents (readable_tell script.members yard fit.readable) found

    below : (m : ℕ) → m < script.members → nat_lt m script.members ≡ true
    below m l = grind (arith, l)

-- so their logs are never refused
pub fit_never : (script : Script) (part : Part) (before after : YardState) (s : Stop) → HasGroupRanges script
    → NamesNobody script.members part.missing → AreFit script before → HasStopped script part before after s
    → IsBadLogs s → ⊥
fit_never script part before after s ranges none fit is bad = pass_never script part before after s none
    (λ contents why found refused. fit_pass script before contents why ranges fit found refused)
    (λ m at l reads. undamaged (before.told m) at (fit.readable m l) reads) is bad

-- ---- disks that were never written

pub blank_readable : (n : ℕ) (yard : YardState)
    → ((m : ℕ) → m < n → IsSomeAnd (yard.told m) (λ t. state_of t ≡ at_rest [])) → AreReadable n yard
blank_readable n yard blank m l = by (yard.told m) (blank m l)
  where
    by : (o : Option Told) → IsSomeAnd o (λ t. state_of t ≡ at_rest [])
        → IsSomeAnd o (λ t. AllImages (state_of t) IsReadable)
    by None is = absurd is
    by (Some t) is = λ image here. (empty_of true, stands_empty image (empty_image t image is here))

-- nothing is on their logs
pub blank_lists : (n : ℕ) (yard : YardState) (logs : List LogLists) (m : ℕ) (log : LogLists)
    → ((m : ℕ) → m < n → IsSomeAnd (yard.told m) (λ t. state_of t ≡ at_rest [])) → AreChosen n yard logs
    → slice_get logs m ≡ Some log → log ≡ as_lists (empty_of true)
blank_lists n yard logs m log blank chosen at =
    by (yard.told m) (blank m (omega (arith, slice_get_within logs m log at, chosen.all))) (chosen.each m log at)
  where
    by : (o : Option Told) → IsSomeAnd o (λ t. state_of t ≡ at_rest []) → IsSomeAnd o (MayLeave log)
        → log ≡ as_lists (empty_of true)
    by None is may = absurd is
    by (Some t) is may = sym may.lists ∙ ap as_lists (content_once may.image may.content
        (empty_of true) may.stands (stands_empty may.image (empty_image t may.image is may.is)))

pub blank_fit : (script : Script) (yard : YardState)
    → ((m : ℕ) → m < script.members → IsSomeAnd (yard.told m) (λ t. state_of t ≡ at_rest [])) → AreFit script yard
blank_fit script yard blank = record {
  readable = blank_readable script.members yard blank;
  lasting = λ logs chosen. none-last script logs chosen.all (λ m log at.
      let is = blank_lists script.members yard logs m log blank chosen at in
      (ap (λ (l : LogLists). l.entries) is, ap (λ (l : LogLists). l.votes) is));
}
