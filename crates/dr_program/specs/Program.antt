-- A program: the members of a group as they run, over the words of one table, and its runs.
use Rattle.std.specs.List.{range_with_len}
use Rattle.std.specs.Prelude.{◌≡◌, ℕ, ◌+◌, ◌<◌, Bool, true, IsTrue, All, List, [], ◌∷◌, ◌++◌, length, map, fold, replicate, slice_index_or, Option, None, Some, is_some, option_map, unwrap_or}
use Rattle.dr_entry.specs.declared.end.{AgeEnd.AgeEnd, End.End, MemberEnd.MemberEnd, ViewSent.ViewSent}
use Rattle.dr_entry.specs.declared.{entry.Entry.Entry, limits.TheConstants.MAX_MEMBERS}
use Rattle.dr_entry.specs.declared.end.End.TheVariants as ends
use Rattle.dr_words.specs.Layout.{words_of}
use Rattle.dr_history.specs.{History.messages_of, declared.opening.Opening.Opening}
use Rattle.dr_program.specs.{Presence.{present_at, with_present}, Steps.{sight, stored, stored_letters}}
use Rattle.dr_program.specs.{Replica.{LeftView, Replica}, declared.{outcome.Outcome.Outcome, setup.Setup.Setup}}
use Rattle.dr_program.specs.Running.{Running, begun_running, next_step, after_step, broken_off, settled, took_letter}
use Rattle.dr_program.specs.declared.outcome.Outcome.TheVariants as outcomes
use Rattle.dr_machine.specs.{Group.{Group, IsPresent, banks, late_members, roster}, declared.step.Step.Step}
use Rattle.dr_machine.specs.declared.step.Step.TheVariants.{Append, Join, LogVote}

pub record Program : Type 0 where
  -- the members, by number: whoever is absent has an empty place
  pub members : List (Option Running)
  -- the table's words, by index
  pub table : List ℕ
  -- the letters for late members, by number: nothing where none was given yet
  pub letters : List (Option (List Entry))

-- an element of a run: a member takes its next deed, and where that is an append, it goes so
pub record Move : Type 0 where
  -- the member's number
  pub member : ℕ
  pub outcome : Outcome

-- the next deed of member m, where an append goes well
abbrev pub ok : ℕ → Move
ok m = record { member = m; outcome = outcomes.Ok }

-- all appends of a run go well
abbrev pub AllOk : List Move → Type 0
AllOk es = All (λ (e : Move). e.outcome ≡ outcomes.Ok) es

-- what the next step of a member sees in the table
abbrev pub next_sight : List ℕ → Running → ℕ
next_sight table r = sight table r.replica (next_step r)

-- a member after the append that is due, by its outcome
abbrev pub appended_as : Outcome → Running → Running
appended_as outcomes.Ok r = after_step 0 r
appended_as (outcomes.Failed why) r = broken_off why r

-- a member after the step that is due, with the word and the letter that it sees: after an append by its
-- outcome
abbrev pub after_deed : ℕ → Option (List Entry) → Outcome → Running → Step → Running
after_deed word letter outcome r Append = appended_as outcome r
after_deed word letter outcome r (LogVote v) = appended_as outcome r
after_deed word letter outcome r Join = settled (took_letter letter r)
after_deed word letter outcome r s = after_step word r

-- the step of the machine that an append comes to, by its outcome: none where it failed
abbrev pub append_by : Step → Outcome → Option Step
append_by s outcomes.Ok = Some s
append_by s (outcomes.Failed why) = None

-- the step of the machine that a take comes to: none where it finds no letter
abbrev pub join_by : Option (List Entry) → Option Step
join_by None = None
join_by (Some letter) = Some Join

-- the step of the machine that a due step comes to: an append by its outcome, a take by the letter that it finds,
-- and any other as it is
abbrev pub comes_to : Option (List Entry) → Option Step → Outcome → Option Step
comes_to letter None outcome = None
comes_to letter (Some Append) outcome = append_by Append outcome
comes_to letter (Some (LogVote v)) outcome = append_by (LogVote v) outcome
comes_to letter (Some Join) outcome = join_by letter
comes_to letter (Some s) outcome = Some s

-- the letter for a member
abbrev pub letter_for : Program → ℕ → Option (List Entry)
letter_for p m = slice_index_or p.letters m None

-- the program after its member r, with this end, has made this move
abbrev pub went : Program → Running → Move → Option End → Program
went p r e None = record {
  members = with_present p.members e.member
      (after_deed (next_sight p.table r) (letter_for p e.member) e.outcome r (next_step r));
  table = stored p.table r.replica (next_step r);
  letters = stored_letters p.letters r.replica (next_step r);
}
went p r e (Some end) = p

-- the program after this move of a member, if there is such a member
abbrev pub moved_by : Program → Option Running → Move → Program
moved_by p None e = p
moved_by p (Some r) e = went p r e r.replica.end

-- the program after a move: its member, unless it has ended, has taken its next deed
abbrev pub step_of : Program → Move → Program
step_of p e = moved_by p (present_at p.members e.member) e

-- the program after these moves, one after the other
unfoldable pub ran : Program → List Move → Program
ran p es = fold step_of p es

-- the program comes of some such moves
abbrev pub IsRanFrom : Program → Program → Type 0
IsRanFrom begun p = (es : List Move) × (p ≡ ran begun es)

-- the setup of member m of the group, which is there, where members take at most so many turns
pub record IsSetup (g : Group) (limit m : ℕ) (s : Setup) : Type 0 where
  pub present : IsPresent g m
  pub members : s.shape.members ≡ roster g
  pub window : s.shape.window ≡ g.window
  pub banks : s.shape.banks ≡ banks g
  pub me : s.me ≡ m
  pub age : s.age ≡ g.opening.age
  pub view : s.members ≡ g.opening.members
  pub late : s.late ≡ late_members g
  pub turns : s.turns ≡ limit
  pub start : s.start ≡ g.opening.start
  pub messages : s.messages ≡ messages_of g.opening m
  pub totals : s.totals ≡ map (λ i. length (messages_of g.opening i)) (range_with_len 0 MAX_MEMBERS)

-- the setups of the members of the group that are there, by number
pub record AreSetups (g : Group) (turns : ℕ) (setups : List (Option Setup)) : Type 0 where
  pub all : length setups ≡ roster g
  pub each : (m : ℕ) (s : Setup) → present_at setups m ≡ Some s → IsSetup g turns m s
  pub there : (m : ℕ) → m < roster g → IsPresent g m → (s : Setup) × (present_at setups m ≡ Some s)

-- the program as the age opens, with these setups
abbrev pub begun_program : Group → List (Option Setup) → Program
begun_program g setups = record {
  members = map (option_map begun_running) setups;
  table = replicate (words_of (roster g) g.window (banks g)) 0;
  letters = replicate (roster g) None;
}

-- whoever stands at a place has ended
abbrev pub has_ended : Option Running → Bool
has_ended None = true
has_ended (Some r) = is_some r.replica.end

-- all members have ended
abbrev pub AllEnded : Program → Type 0
AllEnded p = All (λ (o : Option Running). IsTrue (has_ended o)) p.members

-- what a member has put in views that it has left, the first of which has this number
abbrev pub sent_before : ℕ → List LeftView → List ViewSent
sent_before v [] = []
sent_before v (l ∷ ls) = record { number = v; items = l.sent } ∷ sent_before (v + 1) ls

-- how a member ended
abbrev pub member_end : Replica → MemberEnd
member_end r = record {
  end = unwrap_or r.end ends.Done;
  turns = r.turns;
  sent = sent_before 0 r.left ++ record { number = r.view; items = r.sent } ∷ [];
  history = r.history;
  logged = r.logged;
  durable = r.durable;
}

abbrev pub end_of : Running → MemberEnd
end_of r = member_end r.replica

-- how a member ended that was absent: it tells nothing
abbrev pub absent_end : MemberEnd
absent_end = record { end = ends.Absent; turns = 0; sent = []; history = []; logged = 0; durable = 0 }

-- how whoever stands at a place ended
abbrev pub end_at : Option Running → MemberEnd
end_at None = absent_end
end_at (Some r) = end_of r

-- how the age ended
abbrev pub age_of : Opening → Program → AgeEnd
age_of o p = record { age = o.age; start = o.start; members = map end_at p.members }
