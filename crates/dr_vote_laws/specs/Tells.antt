-- What an accept word tells of the owner of its row.
-- V gives the members of each view, as a mask, by the view's number.
use Rattle.std.specs.Prelude.{◌≡◌, ℕ, ◌+◌, ◌<◌, ◌≤◌, true}
use Rattle.dr_entry.specs.declared.record.Value.{Value}
use Rattle.dr_words.specs.{Accepts.part_of, Columns.leavers_column}
use Rattle.dr_words.specs.{Packing.{accept_promise, accept_tag, accept_value}, Rewrites.is_accept_of}
use Rattle.dr_machine.specs.{Group.{Group, roster}, Votes.{HasVoted, Votes}, World.{Table, World}}
use Rattle.dr_faithful.specs.{Faithful.Numbers, Tells.Views}

-- the promise and the tag of a member in a view, by its own words: as they are, or as it left the view
abbrev pub promise_in : Group → Numbers → ℕ → ℕ → ℕ
promise_in g own i v = accept_promise (own i v (leavers_column (roster g)))

abbrev pub tag_in : Group → Numbers → ℕ → ℕ → ℕ
tag_in g own i v = accept_tag (own i v (leavers_column (roster g)))

-- what an accept word of column c tells of member i, where it stands in i's row in the bank of view v
pub record TellsVote (g : Group) (own : Numbers) (votes : Votes) (i v c word : ℕ) : Type 0 where
  -- whose proposal it has promised to wait for: of that member, or of a greater one by now
  pub promised : accept_promise word ≤ promise_in g own i v
  -- no tag is higher than that of a proposal by the member that was promised
  pub low : accept_tag word ≤ accept_promise word + 1
  -- where there is a tag, it has voted by that ballot, for a value of which the word has its part
  pub voted : (b : ℕ) → accept_tag word ≡ b + 1
      → (x : Value) × HasVoted g votes i v b x × (accept_value word ≡ part_of (roster g) x c)
  -- each of its votes by a ballot below the promise was taken before the tag
  pub passed : (b : ℕ) (x : Value) → HasVoted g votes i v b x → b < accept_promise word
      → b < accept_tag word

-- every accept word of a view tells that: own words, those of the table, and those that were seen
pub record WordsTellVotes (g : Group) (V : Views) (view : ℕ → ℕ) (own : Numbers) (table : Table)
    (seen : Numbers) (votes : Votes) : Type 0 where
  pub in_own : (i v c : ℕ) → is_accept_of (roster g) (V v) c ≡ true
      → TellsVote g own votes i v c (own i v c)
  pub in_table : (v j i c : ℕ) → is_accept_of (roster g) (V v) c ≡ true
      → TellsVote g own votes i v c (table v j i c)
  pub in_seen : (m i c : ℕ) → is_accept_of (roster g) (V (view m)) c ≡ true
      → TellsVote g own votes i (view m) c (seen m i c)

-- so it is in a world
abbrev pub VotesTold : Group → Views → World → Type 0
VotesTold g V w = WordsTellVotes g V w.past.view w.past.own w.table w.seen w.past.votes
