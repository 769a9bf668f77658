-- What is told of a run, by what its watcher was told.
use Rattle.std.{specs.declared.alloc.Global.Global, proofs.lemmas.Option.none-some}
use Rattle.std.proofs.Common.{MatchOption, String, ◌≡◌, ◌∙◌, ℕ, ◌+◌, List, [], ◌∷◌, ◌++◌, Option, Some, None, length, refl, sym, ap, subst, ◌⊎◌, inl, inr}
use Rattle.dr_tools.specs.Following.{Followed, deed_text, deed_text_of, then_told, told_after, told_at_opening}
use Rattle.dr_tools.specs.Trace.{AreLines, IsRunTold, IsToldOf, IsTraceAnswer, IsTracedFor, IsWanting, Wrote, WroteOne, end_status, ending, moves_text, picture_ending, trace_usage, traced_end_line}
use Rattle.dr_tools.specs.{TraceWords.asked_by, declared.tracing.words.{Asked.Asked, Form.Form}}
use Rattle.dr_tools.specs.declared.tracing.words.Form.TheVariants.{Chart, Lines, Picture}
use Rattle.dr_ages.specs.{Watched.AreWatched, declared.{mode.Mode.TheVariants.Sim, part.Part.Part, stop.Stop.Stop}}
use Rattle.dr_entry.specs.declared.end.AgeEnd.{AgeEnd}
use Rattle.dr_program.specs.{Presence.present_at, Program.{Move, Program, step_of}, Running.Running}
use Rattle.dr_restart.specs.declared.start.Start.{Start}
use Rattle.dr_script.specs.Reading.{Reading, NotJson, Reads, TooLong, Wrong, reading_of}
use Rattle.dr_script.specs.declared.script.Script.{Script}
use Rattle.dr_seeing.specs.{Lines.age_line, Output.{HasTold, Tells, TellsSome, Written}}
use Rattle.dr_seeing.proofs.{Outputs.{tells_both, some_both}, Traces.tells_same}
use Rattle.dr_sim.specs.Watched.{WasTold}
use Rattle.dr_intake.specs.{Answer.{IsLine, IsUnread, unread_line}, Reading.refusal_in, declared.call.Unread.Unread}
use Rattle.dr_intake.proofs.Answers.{unread_alone}
use Rattle.dr_outcome.specs.{Last.last_of, Outcome.IsMemoryRun}
use Rattle.dr_text.specs.declared.last.Last.{Last}

-- what `Lines` does as it is told of an age, of a deed and of the end
abbrev pub Opens : Followed → Start → Followed → Type 0
Opens old start new = (new.told ≡ told_at_opening (length start.entries))
    × Tells (age_line start.age (length start.entries)) old.output new.output

abbrev pub Sees : Followed → Running → List ℕ → Followed → Type 0
Sees old member table new =
    (new.told ≡ told_after old.told member) × Tells (deed_text old.told table member) old.output new.output

abbrev pub Closes : Followed → List (Option Running) → List ℕ → Followed → Type 0
Closes old members table new = new ≡ old

-- what is told of all moves
moves_told : (p : Program) (es : List Move) (old new : Followed) → WasTold Sees p es old new
    → Tells (moves_text p old.told es) old.output new.output
moves_told p [] old new same = tells_same old.output new.output (ap (λ (f : Followed). f.output) same)
moves_told p (e ∷ es) old new was =
    let who = present_at p.members e.member in
    let text : deed_text_of old.told p.table who ≡ deed_text old.told p.table was.0 =
    ap (deed_text_of old.told p.table) was.2 in
    let told : then_told old.told who ≡ was.1.told = ap (then_told old.told) was.2 ∙ sym was.3.0 in
    tells_both (deed_text_of old.told p.table who) (moves_text (step_of p e) (then_told old.told who) es) old.output
    was.1.output new.output (subst (λ (l : List ℕ). Tells l old.output was.1.output) (sym text) was.3.1)
    (subst (λ (t : List ℕ). Tells (moves_text (step_of p e) t es) was.1.output new.output) (sym told)
    (moves_told (step_of p e) es was.1 new was.4))

-- these ages have lines, which are told
pub record HaveLines (script : Script) (part : Part) (nth : ℕ) (ages : List AgeEnd) (old new : Written) : Type 0 where
  pub text : List ℕ
  pub lines : AreLines script part nth ages text
  pub tells : Tells text old new

pub lines_told : (script : Script) (part : Part) (nth : ℕ) (ages : List AgeEnd) (old new : Followed)
    → AreWatched Opens Sees Closes Sim script part nth ages old new
    → HaveLines script part nth ages old.output new.output
lines_told script part nth [] old new same = record {
  text = [];
  lines = refl;
  tells = tells_same old.output new.output (ap (λ (f : Followed). f.output) (sym same));
}
lines_told script part nth (age ∷ ages) old new was =
    let next = was.0 in
    let seen = was.1 in
    let rest = lines_told script part (nth + 1) ages next new was.2 in
    let head = age_line age.age (length age.start) in
    let moves = moves_text seen.is.begun (told_at_opening (length age.start)) seen.is.run.moves in
    let follows : Tells moves seen.opened.output seen.ended.output =
    subst (λ (t : List ℕ). Tells (moves_text seen.is.begun t seen.is.run.moves) seen.opened.output seen.ended.output)
    seen.opening.0 (moves_told seen.is.begun seen.is.run.moves seen.opened seen.ended seen.moves) in
    let told : Tells (head ++ moves) old.output seen.ended.output =
    tells_both head moves old.output seen.opened.output seen.ended.output seen.opening.1 follows in
    let all : Tells (head ++ moves) old.output next.output =
    subst (λ (f : Followed). Tells (head ++ moves) old.output f.output) (sym seen.closing) told in
    record {
      text = (head ++ moves) ++ rest.text;
      lines = (seen.over, seen.is, rest.text, rest.lines, refl);
      tells = tells_both (head ++ moves) rest.text old.output next.output new.output all rest.tells;
    }

-- ---- what is told of a chart

abbrev pub OpensSome : Written → Start → Written → Type 0
OpensSome old start new = TellsSome old new

abbrev pub SeesSome : Written → Running → List ℕ → Written → Type 0
SeesSome old member table new = TellsSome old new

abbrev pub ClosesSome : Written → List (Option Running) → List ℕ → Written → Type 0
ClosesSome old members table new = TellsSome old new

some_moves : (p : Program) (es : List Move) (old new : Written) → WasTold SeesSome p es old new → TellsSome old new
some_moves p [] old new same = ([], tells_same old new same)
some_moves p (e ∷ es) old new was = some_both old was.1 new was.3 (some_moves (step_of p e) es was.1 new was.4)

pub some_told : (script : Script) (part : Part) (nth : ℕ) (ages : List AgeEnd) (old new : Written)
    → AreWatched OpensSome SeesSome ClosesSome Sim script part nth ages old new → TellsSome old new
some_told script part nth [] old new same = ([], tells_same old new (sym same))
some_told script part nth (age ∷ ages) old new was =
    let seen = was.1 in
    some_both old was.0 new (some_both old seen.opened was.0 seen.opening (some_both seen.opened seen.ended was.0
    (some_moves seen.is.begun seen.is.run.moves seen.opened seen.ended seen.moves) seen.closing))
    (some_told script part (nth + 1) ages was.0 new was.2)

-- what is told of a call that reads nothing
pub unread_traced : (words : List (String Global)) (asked : Option Asked) (old new : Option (List ℕ))
    (failed fails : ℕ) (found why : Unread) (text : List ℕ) (due : ℕ) → asked ≡ asked_by words → found ≡ why
    → IsUnread asked old new failed fails found
    → MatchOption (unread_line why) (IsWanting text due) (λ l. IsLine trace_usage l (text, due))
    → IsTraceAnswer words old new failed fails (text, due)
unread_traced words asked old new failed fails found why text due by same unread alone =
    unread_alone (λ line said. MatchOption line (IsWanting said.0 said.1) (λ l. IsLine trace_usage l said))
    (λ asked bytes said. IsTracedFor asked (reading_of bytes) said.0 said.1) (asked_by words) old new failed fails why
    (text, due)
    (subst (λ (a : Option Asked). IsUnread a old new failed fails why) by
    (subst (λ (w : Unread). IsUnread asked old new failed fails w) same unread)) alone

-- ---- what was written of a run

-- nothing was run as memory was wanting, or this is the run
abbrev pub HasRun : Script → Part → List AgeEnd → Option Stop → Option Last → Type 0
HasRun script part ages stop last = ((ages ≡ []) × (stop ≡ None) × (last ≡ None))
    ⊎ (IsMemoryRun script part Sim ages stop × (last ≡ last_of ages stop))

-- whatever is told, it is written with the last line behind it
abbrev pub Writes : Option (List ℕ) → Option (List ℕ) → ℕ → ℕ → ℕ → Option Last → Written → Type 0
Writes held holds fell falls status last now = (text : List ℕ) → HasTold held fell text now
    → Wrote held holds fell falls status (end_status last) (text ++ traced_end_line last)

wanting_wrote : (form : Form) (script : Script) (part : Part) (last : Option Last) (held holds : Option (List ℕ))
    (fell falls status : ℕ) → last ≡ None → Wrote held holds fell falls status (end_status last) ([]
    ++ traced_end_line last) → WroteOne (IsRunTold form script part) held holds fell falls status
wanting_wrote form script part last held holds fell falls status none wrote = record {
  text = traced_end_line last;
  due = end_status last;
  is = inl (ap traced_end_line none, ap end_status none);
  wrote = wrote;
}

run_wrote : (form : Form) (script : Script) (part : Part) (ages : List AgeEnd) (stop : Option Stop) (last : Option Last)
    (held holds : Option (List ℕ)) (fell falls status : ℕ) (told : List ℕ) → IsMemoryRun script part Sim ages stop
    → last ≡ last_of ages stop → IsToldOf form script part ages told
    → Wrote held holds fell falls status (end_status last) (told ++ ending form last)
    → WroteOne (IsRunTold form script part) held holds fell falls status
run_wrote form script part ages stop last held holds fell falls status told run is tells wrote = record {
  text = told ++ ending form last;
  due = end_status last;
  is = inr (record {
    ages = ages;
    stop = stop;
    run = run;
    told = told;
    tells = tells;
    whole = ap (λ (l : Option Last). told ++ ending form l) is;
    status = ap end_status is;
  });
  wrote = wrote;
}

pub lines_wrote : (script : Script) (part : Part) (ages : List AgeEnd) (stop : Option Stop) (last : Option Last)
    (held holds : Option (List ℕ)) (fell falls status : ℕ) (old new : Followed) → HasRun script part ages stop last
    → AreWatched Opens Sees Closes Sim script part 0 ages old new → HasTold held fell [] old.output
    → Writes held holds fell falls status last new.output
    → WroteOne (IsRunTold Lines script part) held holds fell falls status
lines_wrote script part ages stop last held holds fell falls status old new (inl none) watched told writes =
    let same : new ≡ old =
    subst (λ (l : List AgeEnd). AreWatched Opens Sees Closes Sim script part 0 l old new) none.0 watched in
    wanting_wrote Lines script part last held holds fell falls status none.2
    (writes [] (subst (λ (f : Followed). HasTold held fell [] f.output) (sym same) told))
lines_wrote script part ages stop last held holds fell falls status old new (inr ran) watched told writes =
    let lines = lines_told script part 0 ages old new watched in
    run_wrote Lines script part ages stop last held holds fell falls status lines.text ran.0 ran.1 lines.lines
    (writes lines.text (lines.tells held fell [] told))

pub chart_wrote : (script : Script) (part : Part) (ages : List AgeEnd) (stop : Option Stop) (last : Option Last)
    (held holds : Option (List ℕ)) (fell falls status : ℕ) (old new : Written) → HasRun script part ages stop last
    → AreWatched OpensSome SeesSome ClosesSome Sim script part 0 ages old new → HasTold held fell [] old
    → Writes held holds fell falls status last new
    → WroteOne (IsRunTold Chart script part) held holds fell falls status
chart_wrote script part ages stop last held holds fell falls status old new (inl none) watched told writes =
    let same : new ≡ old =
    subst (λ (l : List AgeEnd). AreWatched OpensSome SeesSome ClosesSome Sim script part 0 l old new) none.0
    watched in
    wanting_wrote Chart script part last held holds fell falls status none.2
    (writes [] (subst (λ (w : Written). HasTold held fell [] w) (sym same) told))
chart_wrote script part ages stop last held holds fell falls status old new (inr ran) watched told writes =
    let some = some_told script part 0 ages old new watched in
    run_wrote Chart script part ages stop last held holds fell falls status some.0 ran.0 ran.1 tt
    (writes some.0 (some.1 held fell [] told))

-- a picture was written, with the last line in it
pub picture_wrote : (from to : ℕ) (script : Script) (part : Part) (ages : List AgeEnd) (stop : Option Stop) (last : Last)
    (held holds : Option (List ℕ)) (fell falls status : ℕ) (told : List ℕ) → HasRun script part ages stop (Some last)
    → Wrote held holds fell falls status (end_status (Some last)) (told ++ picture_ending (Some last))
    → WroteOne (IsRunTold (Picture from to) script part) held holds fell falls status
picture_wrote from to script part ages stop last held holds fell falls status told (inl none) wrote =
    absurd (none-some last (sym none.2))
picture_wrote from to script part ages stop last held holds fell falls status told (inr ran) wrote =
    run_wrote (Picture from to) script part ages stop (Some last) held holds fell falls status told ran.0 ran.1 tt wrote

-- what was written of a text that is no script
pub refused_wrote : (asked : Asked) (r : Reading) (line : Option Last) (held holds : Option (List ℕ))
    (fell falls status : ℕ) → ((l : Last) → line ≡ Some l → refusal_in r ≡ Some l)
    → Wrote held holds fell falls status (end_status line) ([] ++ traced_end_line line)
    → WroteOne (IsTracedFor asked r) held holds fell falls status
refused_wrote asked r line held holds fell falls status refusal wrote = record {
  text = traced_end_line line;
  due = end_status line;
  is = by r line refusal;
  wrote = wrote;
}
  where
    by : (x : Reading) (o : Option Last) → ((l : Last) → o ≡ Some l → refusal_in x ≡ Some l)
        → IsTracedFor asked x (traced_end_line o) (end_status o)
    by TooLong None is = inl (refl, refl)
    by NotJson None is = inl (refl, refl)
    by (Wrong rule path) None is = inl (refl, refl)
    by (Reads script) None is = inl (inl (refl, refl))
    by TooLong (Some l) is = inr (ap traced_end_line (sym (is l refl)), ap end_status (sym (is l refl)))
    by NotJson (Some l) is = inr (ap traced_end_line (sym (is l refl)), ap end_status (sym (is l refl)))
    by (Wrong rule path) (Some l) is = inr (ap traced_end_line (sym (is l refl)), ap end_status (sym (is l refl)))
    by (Reads script) (Some l) is = absurd (none-some l (is l refl))
