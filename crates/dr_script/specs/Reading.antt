-- What is read of a text.
use Rattle.std.specs.List.{filter_map}
use Rattle.std.specs.Prelude.{ℕ, List, length, nat_le, if◌then◌else◌, map, Option, Some, None, unwrap_or}
use Rattle.serde_json.specs.Data.{Data}
use Rattle.dr_script.specs.{Json.{json_of, elements_of}, Places.path_text}
use Rattle.dr_script.specs.Rules.{sizes_of, lists_in, text_of, faults_in, fault_of, schedule_of, rules, first_broken}
use Rattle.dr_script.specs.declared.{passage.Broken.Broken, script.{Schedule.TheVariants.Lockstep, Script.Script}}

-- a text is too long, or no JSON, or breaks a rule, with its number and the path, or is a script
pub data Reading : Type 0 where
  TooLong : Reading
  NotJson : Reading
  Wrong : ℕ → List ℕ → Reading
  Reads : Script → Reading

-- the messages that arrays of texts are
abbrev pub messages_in : List Data → List (List (List ℕ))
messages_in = map (λ list. filter_map text_of (elements_of list))

-- the script that a value is, where it keeps all rules
abbrev pub script_of : Data → Script
script_of d = record {
  members = (sizes_of d).members;
  window = (sizes_of d).window;
  turns = (sizes_of d).turns;
  patience = (sizes_of d).patience;
  ages = (sizes_of d).ages;
  messages = messages_in (lists_in d);
  faults = filter_map (fault_of (sizes_of d)) (faults_in d);
  schedule = unwrap_or (schedule_of d) Lockstep;
}

-- what is read of a value, by the first rule that it breaks
abbrev pub judged : Option Broken → Script → Reading
judged None script = Reads script
judged (Some broken) script = Wrong broken.rule (path_text broken.place)

-- what is read of the value that a text is
abbrev pub reading_in : Option Data → Reading
reading_in None = NotJson
reading_in (Some d) = judged (first_broken rules d) (script_of d)

-- what is read of these bytes
abbrev pub reading_of : List ℕ → Reading
reading_of bytes = if nat_le (length bytes) 1048576 then reading_in (json_of bytes) else TooLong
