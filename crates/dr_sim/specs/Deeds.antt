-- The deeds that a simulation takes.
use Rattle.std.specs.Prelude.{◌≡◌, ℕ, List, Option, None, Some}
use Rattle.dr_entry.specs.declared.{end.End.End, entry.Entry.Entry}
use Rattle.dr_machine.specs.declared.step.Step.TheVariants.{Look}
use Rattle.dr_program.specs.{Program.{after_deed, next_sight}, Reading.{letters_of, step_of_member}, Replica.me}
use Rattle.dr_program.specs.{Running.{Running, next_step}, Sight.MaySee, Steps.{stored, stored_letters}}
use Rattle.dr_program.specs.declared.outcome.{LogWhy.LogWhy, Outcome.{Outcome, TheVariants.{Ok, Failed}}}

-- where the next deed is a look, the member may see the word that stands there
abbrev pub SeesWell : List ℕ → Running → Type 0
SeesWell table r = (i c : ℕ) → step_of_member r ≡ Some (Look i c)
    → MaySee r (step_of_member r) (next_sight table r)

-- how an append went, by why it failed, if it did
abbrev pub outcome_by : Option LogWhy → Outcome
outcome_by None = Ok
outcome_by (Some why) = Failed why

-- a member with this end after its next deed over the words of a table, with the letter that is there for it, and
-- where an append goes so
abbrev pub went_so : List ℕ → Option (List Entry) → Outcome → Running → Option End → Running
went_so table letter outcome r None = after_deed (next_sight table r) letter outcome r (next_step r)
went_so table letter outcome r (Some end) = r

abbrev pub member_after : List ℕ → Option (List Entry) → Outcome → Running → Running
member_after table letter outcome r = went_so table letter outcome r r.replica.end

-- the words of the table after the next deed of a member with this end
abbrev pub stores : List ℕ → Running → Option End → List ℕ
stores table r None = stored table r.replica (next_step r)
stores table r (Some end) = table

abbrev pub table_after : List ℕ → Running → List ℕ
table_after table r = stores table r r.replica.end

-- the letters after the next deed of a member with this end
abbrev pub posted : List (Option (List Entry)) → Running → Option End → List (Option (List Entry))
posted letters r None = stored_letters letters r.replica (next_step r)
posted letters r (Some end) = letters

abbrev pub letters_after : List (Option (List Entry)) → Running → List (Option (List Entry))
letters_after letters r = posted letters r r.replica.end

-- the letter for this member
abbrev pub own_letter : List (Option (List Entry)) → Running → Option (List Entry)
own_letter letters r = letters_of letters (me r.replica)

-- the member, the table and the letters behind its next deed, where an append has gone as the member knows
pub record IsTaken (words : List ℕ) (posts : List (Option (List Entry))) (r : Running) (cells : List ℕ)
    (mails : List (Option (List Entry))) (x : Running) : Type 0 where
  pub member : x ≡ member_after words (own_letter posts r) (outcome_by x.failed) r
  pub table : cells ≡ table_after words r
  pub letters : mails ≡ letters_after posts r
