-- What is told of a run, and what a call comes to.
use Rattle.std.specs.{Option.option_map_or, declared.alloc.Global.Global}
use Rattle.std.specs.Prelude.{◌≡◌, ◌⊎◌, ⊤, ℕ, true, MatchOption, ◌+◌, List, [], ◌∷◌, ◌++◌, length, codes, Option, String}
use Rattle.dr_ages.specs.{Ages.{all_with, start_of}, declared.{mode.Mode.TheVariants.Sim, part.Part.Part}}
use Rattle.dr_ages.specs.declared.stop.Stop.{Stop}
use Rattle.dr_entry.specs.declared.end.AgeEnd.{AgeEnd}
use Rattle.dr_intake.specs.Answer as intake
use Rattle.dr_intake.specs.{Answer.{IsLine, Said}, Reading.refusal_in, Status.{WroteText, status_of}}
use Rattle.dr_outcome.specs.{Last.last_of, Outcome.{AreAllLate, IsMemoryRun}}
use Rattle.dr_program.specs.{Presence.present_at, Program.{Move, Program, step_of}}
use Rattle.dr_script.specs.{Reading.{Reading, Reads, reading_of}, declared.script.Script.Script}
use Rattle.dr_seeing.specs.Lines.{age_line}
use Rattle.dr_sim.specs.Simulated.{IsSimulated}
use Rattle.dr_text.specs.{Report.last_text, Writing.WroteFront, declared.last.Last.Last}
use Rattle.dr_tools.specs.{Following.{deed_text_of, then_told, told_at_opening}, TraceWords.asked_by}
use Rattle.dr_tools.specs.declared.tracing.words.{Asked.Asked, Form.{Form, TheVariants.{Chart, Lines, Picture}}}

-- what is told of these moves of a program, in their order, where so many entries of each history are told
abbrev pub moves_text : Program → List ℕ → List Move → List ℕ
moves_text p told [] = []
moves_text p told (e ∷ es) =
    deed_text_of told p.table (present_at p.members e.member)
    ++ moves_text (step_of p e) (then_told told (present_at p.members e.member)) es

-- the lines of these ages, the first of which is number nth of the run: for each its own line, and what is told of
-- the moves by which it ran
abbrev pub AreLines : Script → Part → ℕ → List AgeEnd → List ℕ → Type 0
AreLines script part nth [] text = text ≡ []
AreLines script part nth (age ∷ ages) text =
    (over : Program) × (is : IsSimulated script (start_of script part age) nth age over) × (rest : List ℕ)
    × AreLines script part (nth + 1) ages rest
    × (text ≡ (age_line age.age (length age.start)
    ++ moves_text is.begun (told_at_opening (length age.start)) is.run.moves) ++ rest)

-- what is told of these ages in a form: of a chart and of a picture nothing is said
abbrev pub IsToldOf : Form → Script → Part → List AgeEnd → List ℕ → Type 0
IsToldOf Lines script part ages text = AreLines script part 0 ages text
IsToldOf Chart script part ages text = ⊤
IsToldOf (Picture from to) script part ages text = ⊤

-- behind what is told comes the last line, with its status; where memory was wanting there is none, with
-- status 10
abbrev pub traced_end_line : Option Last → List ℕ
traced_end_line last = option_map_or last_text last []

abbrev pub end_status : Option Last → ℕ
end_status last = option_map_or status_of last 10

-- how a text of a form ends: with the last line, behind which a picture is closed
abbrev pub picture_ending : Option Last → List ℕ
picture_ending last = traced_end_line last ++ codes "</text>\n</svg>\n"

abbrev pub ending : Form → Option Last → List ℕ
ending (Picture from to) last = picture_ending last
ending form last = traced_end_line last

-- nothing is told, as memory was wanting for it
abbrev pub IsWanting : List ℕ → ℕ → Type 0
IsWanting text due = (text ≡ []) × (due ≡ 10)

-- how it is called
abbrev pub trace_usage : List ℕ
trace_usage = codes "usage: derecho_tools trace [lines|svg [FROM TO]] [--late L] < SCRIPT\n"

-- the text tells the run of a script, with this status
pub record IsRunTraced (form : Form) (script : Script) (part : Part) (text : List ℕ) (due : ℕ) : Type 0 where
  pub ages : List AgeEnd
  pub stop : Option Stop
  pub run : IsMemoryRun script part Sim ages stop
  pub told : List ℕ
  pub tells : IsToldOf form script part ages told
  pub whole : text ≡ told ++ ending form (last_of ages stop)
  pub status : due ≡ end_status (last_of ages stop)

-- it does, or memory was wanting
abbrev pub IsRunTold : Form → Script → Part → List ℕ → ℕ → Type 0
IsRunTold form script part text due = IsWanting text due ⊎ IsRunTraced form script part text due

-- nothing was run, as all members are late, and the text tells how it is called
pub record IsUnrun (late : ℕ) (script : Script) (text : List ℕ) (due : ℕ) : Type 0 where
  pub all : AreAllLate script (all_with late)
  pub usage : text ≡ trace_usage
  pub status : due ≡ 2

-- what is asked of a script is told
abbrev pub IsTraced : Asked → Script → List ℕ → ℕ → Type 0
IsTraced asked script text due =
    IsRunTold asked.form script (all_with asked.late) text due ⊎ IsUnrun asked.late script text due

-- it tells what is to be told of what was read: the run of a script, or the line by which it is refused
abbrev pub IsTracedFor : Asked → Reading → List ℕ → ℕ → Type 0
IsTracedFor asked (Reads script) text due = IsTraced asked script text due
IsTracedFor asked refused text due =
    IsWanting text due ⊎ ((text ≡ traced_end_line (refusal_in refused)) × (due ≡ end_status (refusal_in refused)))

-- What a call is to write, and the status that is due, by what its words ask for, and by what its
-- source had left and then has.
abbrev pub IsTraceAnswer : List (String Global) → Option (List ℕ) → Option (List ℕ) → ℕ → ℕ → Said → Type 0
IsTraceAnswer words =
    intake.IsAnswer (λ asked. true)
    (λ line said. MatchOption line (IsWanting said.0 said.1) (λ l. IsLine trace_usage l said))
    (λ asked bytes said. IsTracedFor asked (reading_of bytes) said.0 said.1) (asked_by words)

-- the text was written, with the status that is due, or a front part of it, where the sink failed, with
-- status 5, or memory was wanting, with status 10
pub record Wrote (held holds : Option (List ℕ)) (fell falls status due : ℕ) (text : List ℕ) : Type 0 where
  pub wrote : WroteText held holds fell falls status due text ⊎ ((status ≡ 10) × WroteFront held holds text)
  -- no fault of the sink is hidden
  pub told : (falls ≡ fell) ⊎ (status ≡ 5)

-- a text of which this holds, with its status, was written
pub record WroteOne (Is : List ℕ → ℕ → Type 0) (held holds : Option (List ℕ)) (fell falls status : ℕ) :
    Type 0 where
  pub text : List ℕ
  pub due : ℕ
  pub is : Is text due
  pub wrote : Wrote held holds fell falls status due text
