-- What a mount finds of a log that its member has left.
use Rattle.std.proofs.Common.{◌≡◌, sym, ap, ◌∙◌, ◌⊎◌, subst, ℕ, ◌+◌, inl, inr, List, [], ◌∷◌, ◌++◌, take, drop, Option, Some, None, ◌-◌, append-nil, ◌≤◌, arith, length, refl}
use Rattle.std.proofs.lemmas.{List.{take_more, take-append-drop}, Option.{get_or_from_slice_get, slice_get_within}}
use Rattle.dr_disk.{specs.{Disk.{Told, content_of}, Images.ReadsAnImage}, proofs.Images.of_content}
use Rattle.dr_entry.specs.{declared.{end.MemberEnd.MemberEnd, entry.Entry.Entry}, declared.record.Record.Record}
use Rattle.dr_entry.specs.declared.record.Record.TheVariants as records
use Rattle.dr_history.{specs.{History.IsPrefixOf, Restarting.AllStand}, proofs.Lengths.stood-told}
use Rattle.dr_history.proofs.Lists.{prefix-trans}
use Rattle.dr_log.{specs.{Standing.entries_length, State.LogState}, proofs.Standing.entries_short}
use Rattle.dr_log_bytes.{specs.{Content.{OnLog, with_record}, Grammar.StandFor}, proofs.Meaning.content_once}
use Rattle.dr_machine.{specs.Group.{Group, IsGroup}, proofs.Groups.stood_valid}
use Rattle.dr_program.{specs.{Replica.Replica, declared.outcome.LogWhy.LogWhy}, proofs.Replicas.MayCome}
use Rattle.dr_program.specs.declared.outcome.LogWhy.TheVariants as whys
use Rattle.dr_served.specs.{Left.IsLeftOf, Served.{HasCome, HasDueBehind, IsRecordDue, entries_due}}

pub left_log : {D : Type 0} (told : D → Option Told) (faults : D → ℕ) (base log : LogState D) (r : Replica)
    (found : OnLog) (why : Option LogWhy) (t : Told) → HasCome told faults base log r why → told log.disk ≡ Some t
    → ReadsAnImage t → StandFor (content_of t) found → IsLeftOf r.history r.logged found.entries
left_log told faults base log r found None t come is reads stands =
    inl (ap (λ (c : OnLog). c.entries) (content_once (content_of t) found log.content stands
    (of_content (told log.disk) t (λ image. StandFor image log.content) come.last.1 is reads)) ∙ come.entries)
left_log told faults base log r found (Some (whys.LogFull len)) t come is reads stands =
    inl (ap (λ (c : OnLog). c.entries) (content_once (content_of t) found log.content stands
    (of_content (told log.disk) t (λ image. StandFor image log.content) come.last.2.safe is reads)) ∙ come.entries)
left_log told faults base log r found (Some whys.DiskFault) t come is reads stands =
    by come.last.0 come.last.1 (of_content (told log.disk) t _ come.last.2.left is reads)
  where
    same_as : (c : OnLog) → StandFor (content_of t) c → found.entries ≡ c.entries
    same_as c here = ap (λ (d : OnLog). d.entries) (content_once (content_of t) found c stands here)

    one_more : (next : Record) → IsRecordDue r next → StandFor (content_of t) (with_record next log.content)
        → IsLeftOf r.history r.logged found.entries
    one_more (records.Vote v) due after =
        inl (same_as (with_record (records.Vote v) log.content) after ∙ come.entries)
    one_more (records.Entry e) due after =
        let same : found.entries ≡ take r.logged r.history ++ e ∷ [] =
        same_as (with_record (records.Entry e) log.content) after
        ∙ ap (λ (l : List Entry). l ++ e ∷ []) come.entries in
        let front : found.entries ≡ take (r.logged + 1) r.history = same
        ∙ ap (λ x. take r.logged r.history ++ x ∷ []) (sym (get_or_from_slice_get r.history r.logged e e due))
        ∙ sym (take_more r.history r.logged e (slice_get_within r.history r.logged e due)) in
        inr (inl (
          e,
          same,
          (
            drop (r.logged + 1) r.history,
            ap (λ (l : List Entry). l ++ drop (r.logged + 1) r.history) front ∙ take-append-drop (r.logged + 1) r.history,
          ),
        ))
    one_more (records.AgeVote v) due after = absurd due
    one_more (records.Cut keep) due after = absurd due
    one_more records.Upgrade due after = absurd due

    by : (after : OnLog) → HasDueBehind r log.content after
        → StandFor (content_of t) log.content ⊎ StandFor (content_of t) after
        → IsLeftOf r.history r.logged found.entries
    by after due (inl before) = inl (same_as log.content before ∙ come.entries)
    by after (inl (next, due, is)) (inr stands) = one_more next due (subst (StandFor (content_of t)) is stands)
    by after (inr is) (inr stands) = inr (inr (same_as after stands ∙ ap (λ (c : OnLog). c.entries) is
        ∙ ap (λ (l : List Entry). l ++ entries_due r) come.entries ∙ take-append-drop r.logged r.history))

-- and has all that is logged
pub left_begins : (first : List Entry) (e : MemberEnd) (es : List Entry) → IsPrefixOf first (take e.logged e.history)
    → IsLeftOf e.history e.logged es → IsPrefixOf first es
left_begins first e es begins left = prefix-trans first (take e.logged e.history) es begins (by left)
  where
    by : IsLeftOf e.history e.logged es → IsPrefixOf (take e.logged e.history) es
    by (inl same) = ([], append-nil (take e.logged e.history) ∙ sym same)
    by (inr (inl more)) = (more.0 ∷ [], sym more.1)
    by (inr (inr whole)) = (drop e.logged e.history, take-append-drop e.logged e.history ∙ sym whole)

-- so they take so many bytes at most: 256 Views of each of 65,536 ages, and 4096 messages of each of 16 members
pub stood_bytes : (g : Group) (es : List Entry) → IsGroup g → AllStand g.opening es → length es ≤ 16842752
    → entries_length es ≤ 122159104
stood_bytes g es is stand few = omega (
  arith,
  few,
  entries_short es (stood_valid g es is stand),
  stood-told g.opening es stand is.messages,
)

-- it is no age vote, so these are as they were
pub next_age_votes : (r : Replica) (next : Record) (c : OnLog) → MayCome r next
    → (with_record next c).age_votes ≡ c.age_votes
next_age_votes r (records.Entry e) c may = refl
next_age_votes r (records.Vote v) c may = refl
next_age_votes r (records.AgeVote v) c may = absurd may
next_age_votes r (records.Cut keep) c may = absurd may
next_age_votes r records.Upgrade c may = absurd may
