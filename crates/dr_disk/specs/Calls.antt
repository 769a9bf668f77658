-- The calls that change a disk, and what has become of a disk after some of them.
use Rattle.std.specs.Prelude.{ℕ, ◌+◌, min, max, List, [], ◌∷◌, ◌++◌, length, take, drop}

-- A call that changes a disk. Of those that failed the writes and the cuts count, since they may
-- have been done in part; a failed sync changes nothing.
pub data Call : Type 0 where
  Write : (at : ℕ) (bytes : List ℕ) → Call
  FailedWrite : (at count : ℕ) → Call
  Cut : (to : ℕ) → Call
  FailedCut : (to : ℕ) → Call
  Sync : Call

-- A disk: what a read gives; and of the time since the last sync the first place that was written and
-- the one behind the last, and the least and the greatest length.
pub record State : Type 0 where
  pub content : List ℕ
  pub first : ℕ
  pub behind : ℕ
  pub least : ℕ
  pub greatest : ℕ

-- these bytes, and nothing pending
abbrev pub at_rest : List ℕ → State
at_rest bytes = record {
  content = bytes;
  first = length bytes;
  behind = 0;
  least = length bytes;
  greatest = length bytes;
}

-- these bytes stand over those that were there and past their end
abbrev pub written : List ℕ → ℕ → List ℕ → List ℕ
written old at bytes = take at old ++ (bytes ++ drop (at + length bytes) old)

-- the disk after one call more
abbrev pub step : State → Call → State
step s (Write at bytes) = record {
  content = written s.content at bytes;
  first = min s.first at;
  behind = max s.behind (at + length bytes);
  least = s.least;
  greatest = max s.greatest (at + length bytes);
}
step s (FailedWrite at count) = record {
  content = s.content;
  first = min s.first at;
  behind = max s.behind (at + count);
  least = s.least;
  greatest = max s.greatest (at + count);
}
step s (Cut to) = record {
  content = take to s.content;
  first = s.first;
  behind = s.behind;
  least = min s.least to;
  greatest = s.greatest;
}
step s (FailedCut to) = record {
  content = s.content;
  first = s.first;
  behind = s.behind;
  least = min s.least to;
  greatest = s.greatest;
}
step s Sync = at_rest s.content

abbrev pub run_from : State → List Call → State
run_from s [] = s
run_from s (call ∷ calls) = run_from (step s call) calls

-- an empty disk after these calls
abbrev pub run : List Call → State
run calls = run_from (at_rest []) calls

-- what a read gives after these calls
abbrev pub content_after : List Call → List ℕ
content_after calls = (run calls).content
