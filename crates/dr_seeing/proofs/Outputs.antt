-- How a text comes that is told piece by piece.
use Rattle.std.proofs.Common.{◌≡◌, ℕ, List, [], ◌++◌, length, take, Option, None, Some, is_some, true, sym, subst, ap, ◌∙◌, refl, arith, append_assoc, append-nil, length-append, ◌+◌}
use Rattle.std.proofs.{Math.Seq.take-append_seam, lemmas.Bool.{false≢true}}
use Rattle.dr_io.specs.{Faults.Rose, Sink.Gains}
use Rattle.dr_text.{specs.Writing.WroteFront, proofs.Sinks.{front_behind, front_longer}}
use Rattle.dr_seeing.specs.Output.{HasTold, IsUnderway, Tells, WasBrokenOff, WasWrittenSoFar, Written, TellsSome}
use Rattle.dr_seeing.specs.declared.output.Trouble.{Trouble}
use Rattle.dr_seeing.specs.declared.output.Trouble.TheVariants as troubles

-- a text that was told in full before stays told in front of more
stopped_longer : (t : Trouble) (held : Option (List ℕ)) (fell : ℕ) (text more : List ℕ) (now : Written)
    → WasBrokenOff t held fell text now → WasBrokenOff t held fell (text ++ more) now
stopped_longer troubles.Sink held fell text more now is = (is.0, front_longer held now.held text more is.1)
stopped_longer troubles.Memory held fell text more now is = (is.0, front_longer held now.held text more is.1)

-- where something is in the way, more is told without more being written
pub tells_nothing : (t : Trouble) (text : List ℕ) (now : Written) → now.trouble ≡ Some t → Tells text now now
tells_nothing t text now is = λ held fell before told. subst (λ (o : Option Trouble). WasWrittenSoFar o held fell
    (before ++ text) now) (sym is) (stopped_longer t held fell before text now
    (subst (λ (o : Option Trouble). WasWrittenSoFar o held fell before now) is told))

pub tells_stuck : (text : List ℕ) (now : Written) → is_some now.trouble ≡ true → Tells text now now
tells_stuck text now stuck = by now.trouble refl stuck
  where
    by : (o : Option Trouble) → now.trouble ≡ o → is_some o ≡ true → Tells text now now
    by None is e = absurd (false≢true e)
    by (Some t) is e = tells_nothing t text now is

-- what comes behind what waits is told
pub tells_more : (text : List ℕ) (old new : Written) → old.trouble ≡ None → new.trouble ≡ None
    → new.held ≡ old.held → new.faults ≡ old.faults → new.waiting ≡ old.waiting ++ text → Tells text old new
tells_more text old new none free same calm waits = λ held fell before told.
    let is = subst (λ (o : Option Trouble). WasWrittenSoFar o held fell before old) none told in
    subst (λ (o : Option Trouble). WasWrittenSoFar o held fell (before ++ text) new) (sym free) (record {
      front = is.front;
      gained = subst (λ (h : Option (List ℕ)). Gains held h is.front) (sym same) is.gained;
      whole = ap (λ (l : List ℕ). l ++ text) is.whole ∙ append_assoc is.front old.waiting text
          ∙ ap (λ (l : List ℕ). is.front ++ l) (sym waits);
      calm = calm ∙ is.calm;
    })

-- a front part of the text is written as long as the rest waits
underway_front : (held : Option (List ℕ)) (fell : ℕ) (text more : List ℕ) (old : Written)
    → IsUnderway held fell text old → WroteFront held old.held (text ++ more)
underway_front held fell text more old is = front_longer held old.held text more (record {
  count = length is.front;
  part = omega (arith, ap length is.whole, length-append is.front old.waiting);
  gained = subst (Gains held old.held)
      (sym (ap (take (length is.front)) is.whole ∙ take-append_seam is.front old.waiting)) is.gained;
})

-- where memory is wanting, what waits is never written
pub tells_wanting : (text : List ℕ) (old new : Written) → old.trouble ≡ None
    → new.trouble ≡ Some troubles.Memory → new.held ≡ old.held → new.faults ≡ old.faults → Tells text old new
tells_wanting text old new none wanting same calm = λ held fell before told.
    let is = subst (λ (o : Option Trouble). WasWrittenSoFar o held fell before old) none told in
    subst (λ (o : Option Trouble). WasWrittenSoFar o held fell (before ++ text) new) (sym wanting) (
      calm ∙ is.calm,
      subst (λ (h : Option (List ℕ)). WroteFront held h (before ++ text)) (sym same)
          (underway_front held fell before text old is),
    )

-- the sink failed
pub tells_failed : (old new : Written) → old.trouble ≡ None → new.trouble ≡ Some troubles.Sink
    → WroteFront old.held new.held old.waiting → Rose old.faults new.faults → Tells [] old new
tells_failed old new none failed front rose = λ held fell before told.
    let is = subst (λ (o : Option Trouble). WasWrittenSoFar o held fell before old) none told in
    subst (λ (o : Option Trouble). WasWrittenSoFar o held fell (before ++ []) new) (sym failed) (
      subst (λ (n : ℕ). Rose n new.faults) is.calm rose,
      front_longer held new.held before [] (subst (WroteFront held new.held)
          (sym is.whole) (front_behind held old.held new.held is.front old.waiting is.gained front)),
    )

-- one text is told behind another
pub tells_both : (a b : List ℕ) (old now new : Written) → Tells a old now → Tells b now new → Tells (a ++ b) old new
tells_both a b old now new first then = λ held fell before told. subst (λ (l : List ℕ). HasTold held fell l new)
    (append_assoc before a b) (then held fell (before ++ a) (first held fell before told))

-- the same, where what is told already waits
pub settled_flushed : (text : List ℕ) (before old new : Written) → before.trouble ≡ None → old.trouble ≡ None
    → before.held ≡ old.held → before.faults ≡ old.faults → old.waiting ≡ before.waiting ++ text
    → Tells [] old new → Tells text before new
settled_flushed text before old new none free same calm waits flushed =
    subst (λ (l : List ℕ). Tells l before new) (append-nil text)
    (tells_both text [] before old new (tells_more text before old none free (sym same) (sym calm) waits) flushed)

pub settled_wanting : (text : List ℕ) (before old new : Written) → before.trouble ≡ None
    → before.held ≡ old.held → before.faults ≡ old.faults → new.held ≡ old.held → new.faults ≡ old.faults
    → new.trouble ≡ Some troubles.Memory → Tells text before new
settled_wanting text before old new none same calm held fell wanting =
    tells_wanting text before new none wanting (held ∙ sym same) (fell ∙ sym calm)

pub some_both : (old now new : Written) → TellsSome old now → TellsSome now new → TellsSome old new
some_both old now new a b = (a.0 ++ b.0, tells_both a.0 b.0 old now new a.1 b.1)
