-- What a last line tells of ends, and of what ended a run.
use Rattle.std.{specs.Option.option_or, proofs.lemmas.{List.at_drop_more, Option.{none-some, same_Some}}}
use Rattle.std.proofs.Common.{◌≡◌, refl, sym, ap, ap₂, ◌∙◌, ℕ, ◌+◌, ◌<◌, ◌||◌, List, [], ◌∷◌, length, get_or, drop, Option, None, Some, is_some, position}
use Rattle.dr_ages.specs.declared.stop.Stop.{Stop}
use Rattle.dr_ages.specs.declared.stop.Stop.TheVariants as stops
use Rattle.dr_entry.{specs.declared.end.{AgeEnd.AgeEnd, MemberEnd.MemberEnd}, proofs.ListFacts.some_position}
use Rattle.dr_entry.proofs.OptionFacts.{some_or}
use Rattle.dr_text.specs.declared.last.Last.{Last}
use Rattle.dr_outcome.specs.Last.{first_end, first_told, is_of, refusal_of, some_end, some_so, stopped_by, last_by}
use Rattle.dr_outcome.specs.declared.last.Kind.{Kind, TheVariants.{DiskFault, LogFull, NoMajority, Spent}}
use Rattle.dr_outcome.specs.declared.outcome.Outcome.{Outcome}
use Rattle.dr_outcome.proofs.OutcomeKinds.{Rank, by_disk, by_logs, by_full, by_turns, by_split, by_none}
use Rattle.dr_intake.specs.Status.{status_of}

-- a member is the first that ended so where some member did
pub end_so : (kind : Kind) (ages : List AgeEnd) → is_some (first_end kind ages) ≡ some_end kind ages
end_so kind [] = refl
end_so kind (age ∷ ages) = some_or (position (λ (m : MemberEnd). is_of kind m.end) age.members) (first_end kind ages)
    ∙ ap₂ (λ x y. x || y) (some_position (λ (m : MemberEnd). is_of kind m.end) age.members) (end_so kind ages)

-- or the run
pub told_so : (kind : Kind) (ages : List AgeEnd) (stop : Option Stop)
    → is_some (first_told kind ages stop) ≡ some_so kind ages stop
told_so kind ages stop = some_or (first_end kind ages) (stopped_by kind stop)
    ∙ ap (λ x. x || is_some (stopped_by kind stop)) (end_so kind ages)

-- where an age has no such member the first is behind it
pub first_behind : (kind : Kind) (ages : List AgeEnd) (i : ℕ) (d : AgeEnd) → i < length ages
    → position (λ (e : MemberEnd). is_of kind e.end) (get_or ages i d).members ≡ None
    → first_end kind (drop i ages) ≡ first_end kind (drop (i + 1) ages)
first_behind kind ages i d within is = at_drop_more (first_end kind) ages i d within
    ∙ ap (λ o. option_or o (first_end kind (drop (i + 1) ages))) is

-- the status of every refusal of logs
pub refusal_status : (stop : Option Stop) (line : Last) → refusal_of stop ≡ Some line → status_of line ≡ 7
refusal_status None line is = absurd (none-some line is)
refusal_status (Some stops.OutOfMemory) line is = absurd (none-some line is)
refusal_status (Some (stops.DiskFault member)) line is = absurd (none-some line is)
refusal_status (Some (stops.LogFull member len)) line is = absurd (none-some line is)
refusal_status (Some (stops.Damaged member at)) line is = ap status_of (sym (same_Some _ line is))
refusal_status (Some (stops.NoQuorum view have need)) line is = ap status_of (sym (same_Some _ line is))
refusal_status (Some (stops.Disagree a b place)) line is = ap status_of (sym (same_Some _ line is))
refusal_status (Some (stops.Foreign member place)) line is = ap status_of (sym (same_Some _ line is))
refusal_status (Some stops.AgesUsedUp) line is = ap status_of (sym (same_Some _ line is))

-- the first of what a status tells decides
pub rank_by : (o : Outcome) (status : ℕ) (disk : Option ℕ) (logs : Option Last) (full turns split : Option ℕ)
    → first_told DiskFault o.ages o.stop ≡ disk → refusal_of o.stop ≡ logs
    → first_told LogFull o.ages o.stop ≡ full → first_end Spent o.ages ≡ turns → first_end NoMajority o.ages ≡ split
    → status ≡ status_of (last_by disk logs full turns split) → Rank o status
rank_by o status (Some m) logs full turns split d l f t p is =
    by_disk is (sym (told_so DiskFault o.ages o.stop) ∙ ap is_some d)
rank_by o status None (Some line) full turns split d l f t p is =
    by_logs (is ∙ refusal_status o.stop line l) (sym (told_so DiskFault o.ages o.stop) ∙ ap is_some d) (ap is_some l)
rank_by o status None None (Some m) turns split d l f t p is = by_full is (sym (told_so DiskFault o.ages o.stop)
    ∙ ap is_some d) (ap is_some l) (sym (told_so LogFull o.ages o.stop) ∙ ap is_some f)
rank_by o status None None None (Some m) split d l f t p is =
    by_turns is (sym (told_so DiskFault o.ages o.stop) ∙ ap is_some d) (ap is_some l)
    (sym (told_so LogFull o.ages o.stop) ∙ ap is_some f) (sym (end_so Spent o.ages) ∙ ap is_some t)
rank_by o status None None None None (Some m) d l f t p is = by_split is
    (sym (told_so DiskFault o.ages o.stop) ∙ ap is_some d) (ap is_some l) (sym (told_so LogFull o.ages o.stop)
    ∙ ap is_some f) (sym (end_so Spent o.ages) ∙ ap is_some t) (sym (end_so NoMajority o.ages) ∙ ap is_some p)
rank_by o status None None None None None d l f t p is = by_none is (record {
  disk = sym (told_so DiskFault o.ages o.stop) ∙ ap is_some d;
  logs = ap is_some l;
  full = sym (told_so LogFull o.ages o.stop) ∙ ap is_some f;
  turns = sym (end_so Spent o.ages) ∙ ap is_some t;
  split = sym (end_so NoMajority o.ages) ∙ ap is_some p;
})
