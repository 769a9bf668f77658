-- Where a member goes on behind a part of its turn, and which parts come once.
use Rattle.std.specs.Prelude.{slice_index_or}
use Rattle.std.proofs.Common.{false, true, ◌≡◌, ℕ, arith, ◌-◌, ◌⊎◌, refl, inl, inr, ◌+◌, ◌<◌, length, ap, ◌∙◌, Option, None, Some}
use Rattle.dr_entry.{specs.declared.record.Value.Value, proofs.NumberFacts.all_below}
use Rattle.dr_machine.{specs.{Writes.at, declared.event.Act.Act}, proofs.Events.least}
use Rattle.dr_machine.specs.declared.event.Act.TheVariants as acts
use Rattle.dr_program.specs.{Running.{goes, Running, columns, members, judged, WaitsAt, vote_or_end}, Steps.stepped}
use Rattle.dr_program.specs.Turn.{columns_in, rows_in, is_beat, after, turn_ends, turn_begins, IsIn, part_of}
use Rattle.dr_program.specs.declared.{outcome.LogWhy.LogWhy, place.{Part.Part, Place.Place, TheConstants.TURN}}
use Rattle.dr_program.proofs.Order.{follows, next_part}
use Rattle.dr_program.proofs.Parts.{is_final, due_at, verdict_of, verdict_less, acts_on, verdict_pending, is_propose, propose_test, is_once, is_take, is_publish, is_vote}
use Rattle.dr_program.specs.declared.place.Part.TheVariants as parts

-- publishing is at one place
pub publish_size : (n k : ℕ) (part : Part) → is_publish part ≡ true → (rows_in n part ≡ 1) × (columns_in k part ≡ 1)
publish_size n k part is = (grind (arith, is), grind (arith, is))

-- after an act that is no beat: a part before, or where it was
pub goes_back_or_stays : (n k : ℕ) (a : Act) (p : Place) → is_beat (parts.Do a) ≡ false
    → ((is_publish (parts.Do a) ≡ true) × (goes n k (parts.Do a) p ≡ record p { part = p.part - 1 }))
    ⊎ ((is_publish (parts.Do a) ≡ false) × (goes n k (parts.Do a) p ≡ p))
goes_back_or_stays n k a p other = grind (arith, other)

-- after the step of a part: on, or back by a step that lowers the work by two, or it stays, and the step was
-- its end or lowers the work, or it goes to the end of the turn from a take
abbrev pub Going : Running → Part → Type 0
Going r part = let there : Place = goes (members r) (columns r) part r.place in
    (there ≡ after (members r) (columns r) r.place)
    ⊎ (((is_publish part ≡ true) × (there ≡ record r.place { part = r.place.part - 1 }) × (least (due_at r part) ≡ 2))
    ⊎ (((there ≡ r.place) × (is_final (due_at r part) ≡ false → least (due_at r part) ≡ 1))
    ⊎ ((is_take part ≡ true) × (there ≡ turn_ends))))

pub going : (r : Running) (part : Part) → Going r part
going r parts.Judge = inr (inr (inl (refl, verdict_less (judged r) (verdict_of r))))
going r parts.Take = inr (inr (inr (refl, refl)))
going r parts.Give = inr (inr (inl (refl, λ other. refl)))
going r part = grind arith

pub pending_stays : (word : ℕ) (r : Running) (part : Part) → is_vote part ≡ false → acts_on part ≡ false
    → (stepped word r.replica (due_at r part)).pending ≡ r.replica.pending
pending_stays word r parts.Judge vote acts = verdict_pending r.replica (judged r) (verdict_of r)
pending_stays word r part vote acts = grind (arith, vote, acts)

-- behind a vote comes the proposal, and behind that the acceptance
vote_number : (i : ℕ) → i < length TURN → is_vote (slice_index_or TURN i turn_begins) ≡ true
    → (i + 1 < length TURN) × (slice_index_or TURN (i + 1) turn_begins ≡ parts.Do acts.Propose)
unfolding all_below
vote_number i l e = let both = follows is_vote is_propose refl i l e in (both.0, propose_test _ both.1)

after_vote : (n k : ℕ) (p : Place) → IsIn n k p → part_of p ≡ parts.Vote
    → part_of (after n k p) ≡ parts.Do acts.Propose
after_vote n k p is at =
    let number = vote_number p.part is.part (ap is_vote at) in
    next_part n k p (ap (rows_in n) at) (ap (columns_in k) at) number.0 ∙ number.1

-- behind a vote it is acted on
pub vote_waits : (word : ℕ) (r : Running) (v : Value) (failed : Option LogWhy)
    → IsIn (members r) (columns r) r.place → part_of r.place ≡ parts.Vote → r.replica.pending ≡ None
    → WaitsAt (record r { replica = stepped word r.replica (vote_or_end failed v) })
    (part_of (after (members r) (columns r) r.place))
vote_waits word r v None is at none = inr (inl (after_vote (members r) (columns r) r.place is at))
vote_waits word r v (Some why) is at none = inl none

-- what is done once doesn't go back
pub once_not : (part : Part) → is_once part ≡ true → is_publish part ≡ true → ⊥
once_not parts.Append once back = absurd (cc)
once_not part once back = absurd (cc)
