-- The script that a number makes.
use Rattle.std.specs.{List.range_with_len, Prelude.{ℕ, zero, suc, ◌+◌, ◌*◌, List, [], ◌∷◌, map}}
use Rattle.dr_program.specs.Schedule.{choice_of, next_state}
use Rattle.dr_script.specs.declared.script.{Fault.Fault, Schedule.TheVariants.Lockstep, Script.Script}
use Rattle.dr_script.specs.declared.script.What.TheVariants.{Crash}

-- the state of the generator after n choices
unfoldable pub state_after : ℕ → ℕ → ℕ
state_after seed zero = seed
state_after seed (suc n) = next_state (state_after seed n)

-- letter n of the seed, counted from 0: one of the 26 from `a` on, by the next choice
unfoldable pub letter : ℕ → ℕ → ℕ
letter seed n = 97 + choice_of (next_state (state_after seed n)) 26

-- message k: the next 32 letters
unfoldable pub message : ℕ → ℕ → List ℕ
message seed k = map (letter seed) (range_with_len (32 * k) 32)

-- the messages of member m: the next 400
unfoldable pub messages_of_member : ℕ → ℕ → List (List ℕ)
messages_of_member seed m = map (message seed) (range_with_len (400 * m) 400)

-- the member crashes before it has pushed anything
abbrev pub early_crash : ℕ → Fault
early_crash member = record { age = 0; member = member; what = Crash 1 0 }

-- five members, each with its messages, of which the last two crash at once
abbrev pub drill : ℕ → Script
drill seed = record {
  members = 5;
  window = 8;
  turns = 1808;
  patience = 3;
  ages = 1;
  messages = map (messages_of_member seed) (range_with_len 0 5);
  faults = early_crash 3 ∷ early_crash 4 ∷ [];
  schedule = Lockstep;
}
