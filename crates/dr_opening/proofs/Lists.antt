-- What is on logs by member, and as lists.
use Rattle.std.specs.Prelude.{if◌then◌else◌, option_map, is_some}
use Rattle.std.proofs.Common.{◌≡◌, refl, ap, sym, ◌∙◌, ℕ, ◌<◌, ◌≤◌, arith, Bool, true, false, List, [], ◌∷◌, ◌++◌, length, take, ◌+◌, get_or, Option, None, Some, subst, inl, inr, drop}
use Rattle.std.proofs.lemmas.{List.{get_or_read_under, length-map, take_more}, Option.{same_Some, none-some}}
use Rattle.dr_entry.specs.{declared.entry.Entry.{Entry, TheVariants.View}, declared.record.AgeVote.AgeVote}
use Rattle.dr_entry.proofs.{ListParts.in-nothing, ListPlaces.mapped_at, OptionFacts.{both_there, neither_there}}
use Rattle.dr_entry.specs.declared.record.Record.TheVariants as records
use Rattle.dr_history.specs.History.{IsPrefixOf}
use Rattle.dr_log.specs.{Standing.{in_newer_format, with_age_vote, entries_length}, State.LogState}
use Rattle.dr_log_bytes.specs.Content.{OnLog, with_record, empty_of}
use Rattle.dr_script.specs.{Ranges.HasGroupRanges, declared.script.Script.Script}
use Rattle.dr_restart.specs.{Choosing.{HasAge, IsChosenStart}, Groups.first_group_of, Trying.age_vote_of}
use Rattle.dr_restart.specs.declared.{lists.LogLists.LogLists, start.Start.Start}
use Rattle.dr_served.specs.Served.{HaveSamePlaces}
use Rattle.dr_quorum.specs.Handing.{handed_by}
use Rattle.dr_opening.specs.{CatchingUp.opened_with, Contents.{IsCutFor, IsOpenFor, voted_for}}
use Rattle.dr_opening.specs.{Lists.{all_as_lists, as_lists, contents_of, log_of}, Tries.{content_at, IsChosenOf}}
use Rattle.dr_opening.proofs.Contents.{voted_long}

pub handed_is : (contents : List (Option OnLog)) (m : ℕ)
    → handed_by (all_as_lists contents) m ≡ option_map as_lists (content_at contents m)
handed_is contents m = mapped_at as_lists contents m

pub content_is : {D : Type 0} (logs : List (Option (LogState D))) (m : ℕ)
    → content_at (contents_of logs) m ≡ option_map (λ log. log.content) (log_of logs m)
content_is {D} logs m = mapped_at (λ (log : LogState D). log.content) logs m

-- one list more
pub next_listed : {D : Type 0} (logs : List (Option (LogState D))) (i : ℕ) (x : Option (LogState D)) → i < length logs
    → x ≡ get_or logs i x → take (i + 1) (all_as_lists (contents_of logs)) ≡ take i (all_as_lists (contents_of logs))
    ++ option_map as_lists (option_map (λ (log : LogState D). log.content) x) ∷ []
next_listed {D} logs i x within is = take_more (all_as_lists (contents_of logs)) i None (omega (
  arith,
  within,
  length-map logs (option_map (λ (log : LogState D). log.content)),
  length-map (contents_of logs) (option_map as_lists),
)) ∙ ap (λ o. take i (all_as_lists (contents_of logs)) ++ o ∷ [])
    (mapped_at as_lists (contents_of logs) i ∙ ap (option_map as_lists)
    (content_is logs i ∙ ap (option_map (λ (log : LogState D). log.content))
    (sym (get_or_read_under logs i (length logs) x None is within refl))))

-- ---- an upgrade changes no list, and an age vote is added to those that there are

upgraded_lists : (c : OnLog) (b : Bool) → as_lists (if b then c else with_record records.Upgrade c) ≡ as_lists c
upgraded_lists c true = refl
upgraded_lists c false = refl

pub newer_lists : (c : OnLog) → as_lists (in_newer_format c) ≡ as_lists c
newer_lists c = upgraded_lists c c.newer

-- the lists with one age vote more
abbrev pub with_vote_more : AgeVote → LogLists → LogLists
with_vote_more vote log = record log { age_votes = log.age_votes ++ vote ∷ [] }

voted_either : (vote : AgeVote) (c : OnLog) (b : Bool) → as_lists (with_record (records.AgeVote vote)
    (if b then c else with_record records.Upgrade c)) ≡ with_vote_more vote (as_lists c)
voted_either vote c true = refl
voted_either vote c false = refl

pub voted_lists : (vote : AgeVote) (c : OnLog) → as_lists (with_age_vote vote c) ≡ with_vote_more vote (as_lists c)
voted_lists vote c = voted_either vote c c.newer

-- the log that was there is there
pub was_there : {D : Type 0} (olds news : List (Option (LogState D))) (m : ℕ) (new : LogState D)
    → HaveSamePlaces olds news → log_of news m ≡ Some new → (old : LogState D) × (log_of olds m ≡ Some old)
was_there olds news m new places at = both_there (log_of news m) (log_of olds m) new (places.each m) at

pub stays_there : {D : Type 0} (olds news : List (Option (LogState D))) (m : ℕ) (old : LogState D)
    → HaveSamePlaces olds news → log_of olds m ≡ Some old → (new : LogState D) × (log_of news m ≡ Some new)
stays_there olds news m old places at = both_there (log_of olds m) (log_of news m) old (sym (places.each m)) at

pub was_none : {D : Type 0} (olds news : List (Option (LogState D))) (m : ℕ)
    → HaveSamePlaces olds news → log_of news m ≡ None → log_of olds m ≡ None
was_none olds news m places at = neither_there (log_of news m) (log_of olds m) (places.each m) at

pub stays_none : {D : Type 0} (olds news : List (Option (LogState D))) (m : ℕ)
    → HaveSamePlaces olds news → log_of olds m ≡ None → log_of news m ≡ None
stays_none olds news m places at = neither_there (log_of olds m) (log_of news m) (sym (places.each m)) at

-- so it takes what it lacks of all that the age begins with, a vote and an upgrade at most
pub open_uncut : (start : Start) (c now : OnLog) → IsPrefixOf c.entries start.entries
    → IsOpenFor start (voted_for start c) now
    → now.length ≤ c.length + 8 + entries_length (drop (length c.entries) (opened_with start start.members))
open_uncut start c now part (cut, is, same) = by is
  where
    voted : (voted_for start c).entries ≡ c.entries
    voted = ap (λ (l : LogLists). l.entries) (voted_lists (age_vote_of start) c)

    by : IsCutFor start (voted_for start c) cut
        → now.length ≤ c.length + 8 + entries_length (drop (length c.entries) (opened_with start start.members))
    by (inl (front, as_voted)) = omega (
      arith,
      ap (λ (x : OnLog). x.length) same,
      ap (λ (x : OnLog). x.length) as_voted,
      ap (λ (x : OnLog). entries_length (drop (length x.entries) (opened_with start start.members))) as_voted,
      ap (λ (es : List Entry). entries_length (drop (length es) (opened_with start start.members))) voted,
      voted_long start c,
    )
    by (inr (keep, due, as_cut)) =
        absurd (due.beside (subst (λ (es : List Entry). IsPrefixOf es start.entries) (sym voted) part))

-- no age is on an empty log
pub ageless : (c : OnLog) (age : ℕ) → c ≡ empty_of true → HasAge (as_lists c) age → ⊥
ageless c age empty has = by (subst (λ (d : OnLog). HasAge (as_lists d) age) empty has)
  where
    by : HasAge (as_lists (empty_of true)) age → ⊥
    by (inl (number, members, there)) = in-nothing (View age number members) there
    by (inr (inl (x, there, same))) = in-nothing x there
    by (inr (inr (x, there, same))) = in-nothing x there

-- what is on a log that is there
pub content_at_log : {D : Type 0} (logs : List (Option (LogState D))) (m : ℕ) (log : LogState D)
    → log_of logs m ≡ Some log → content_at (contents_of logs) m ≡ Some log.content
content_at_log {D} logs m log at = content_is logs m ∙ ap (option_map (λ (log : LogState D). log.content)) at

pub log_of_content : {D : Type 0} (logs : List (Option (LogState D))) (m : ℕ) (c : OnLog)
    → content_at (contents_of logs) m ≡ Some c → (log : LogState D) × (log_of logs m ≡ Some log) × (log.content ≡ c)
log_of_content {D} logs m c at = by (log_of logs m) refl (sym (content_is logs m) ∙ at)
  where
    by : (o : Option (LogState D)) → log_of logs m ≡ o → option_map (λ (log : LogState D). log.content) o ≡ Some c
        → (log : LogState D) × (log_of logs m ≡ Some log) × (log.content ≡ c)
    by None here same = absurd (cc)
    by (Some log) here same = (log, here, same_Some log.content c same)

pub content_none : {D : Type 0} (logs : List (Option (LogState D))) (m : ℕ) → log_of logs m ≡ None
    → content_at (contents_of logs) m ≡ None
content_none {D} logs m at = content_is logs m ∙ ap (option_map (λ (log : LogState D). log.content)) at

pub contents_count : {D : Type 0} (logs : List (Option (LogState D))) → length (contents_of logs) ≡ length logs
contents_count {D} logs = length-map logs (option_map (λ (log : LogState D). log.content))

pub contents_there : {D : Type 0} (logs : List (Option (LogState D))) (m : ℕ)
    → is_some (content_at (contents_of logs) m) ≡ is_some (log_of logs m)
contents_there {D} logs m = ap (λ (o : Option OnLog). is_some o) (content_is logs m) ∙ by (log_of logs m)
  where
    by : (o : Option (LogState D)) → is_some (option_map (λ (log : LogState D). log.content) o) ≡ is_some o
    by None = refl
    by (Some log) = refl

-- where nothing is on a log there is none
pub no_log : {D : Type 0} (logs : List (Option (LogState D))) (m : ℕ) → content_at (contents_of logs) m ≡ None
    → log_of logs m ≡ None
no_log {D} logs m none = by (log_of logs m) refl
  where
    by : (o : Option (LogState D)) → log_of logs m ≡ o → log_of logs m ≡ None
    by None at = at
    by (Some log) at = absurd (none-some log.content (sym none ∙ content_at_log logs m log at))

-- and the start, where one is
pub chosen_told : {D : Type 0} (script : Script) (logs : List (Option (LogState D)))
    (lists : List (Option LogLists)) (start : Start) → HasGroupRanges script → length logs ≡ script.members
    → lists ≡ all_as_lists (contents_of logs) → IsChosenStart (first_group_of script).opening (handed_by lists) start
    → IsChosenOf (first_group_of script).opening (contents_of logs) start
chosen_told {D} script logs lists start ranges all same chosen = record {
  all = length-map logs (option_map (λ (log : LogState D). log.content)) ∙ (all ∙ sym ranges.lists);
  chosen = subst (λ (ls : List (Option LogLists)). IsChosenStart
      (first_group_of script).opening (handed_by ls) start) same chosen;
}

-- a log that was handed in is one that is there
pub handed_there : (after : List (Option OnLog)) (m : ℕ) (log : LogLists)
    → option_map as_lists (content_at after m) ≡ Some log
    → (c : OnLog) × (content_at after m ≡ Some c) × (as_lists c ≡ log)
handed_there after m log at = by (content_at after m) refl at
  where
    by : (o : Option OnLog) → content_at after m ≡ o → option_map as_lists o ≡ Some log
        → (c : OnLog) × (content_at after m ≡ Some c) × (as_lists c ≡ log)
    by None here e = absurd (cc)
    by (Some c) here e = (c, here, same_Some (as_lists c) log e)

-- an age that is on a log that was handed in is on one that was found
pub on_found : (contents : List (Option OnLog)) (m : ℕ) (log : LogLists)
    → handed_by (all_as_lists contents) m ≡ Some log
    → (c : OnLog) × (content_at contents m ≡ Some c) × (as_lists c ≡ log)
on_found contents m log at = handed_there contents m log (sym (handed_is contents m) ∙ at)
