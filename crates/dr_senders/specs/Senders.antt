-- What senders push, and what is taken of it.
use Rattle.std.specs.{List.AllZip, Prelude.{ℕ, List, map}}
use Rattle.dr_history.specs.History.{IsPrefixOf}
use Rattle.dr_senders.specs.{Pushing.given_by, declared.sender.Sender.Sender}

-- the messages of each sender, by number
abbrev pub Lists : Type 0
Lists = List (List (List ℕ))

-- each of the lists has grown, by messages behind those that it had
abbrev pub HaveGrown : Lists → Lists → Type 0
HaveGrown old new = AllZip (λ (before after : List (List ℕ)). IsPrefixOf before after) old new

-- what each sender has to push in all, and what was taken of it so far
pub record SendersState : Type 0 where
  pub given : Lists
  pub taken : Lists

-- what each of these senders has to push in all, where `left` tells what an app still gives
abbrev pub given_in : {A : Type 0} → (A → List (List ℕ)) → List (Sender A) → Lists
given_in left senders = map (λ (s : Sender _). given_by left s.pushing) senders

-- what was taken of each of them so far
abbrev pub taken_in : {A : Type 0} → List (Sender A) → Lists
taken_in senders = map (λ (s : Sender _). s.inbox.messages.items) senders
