-- What a call says, by how far it came.
use Rattle.std.proofs.Common.{◌≡◌, ◌⊎◌, ◌∙◌, inl, inr, refl, sym, ap, subst, arith, true, ℕ, List, [], ◌∷◌, Contains, Option, None, Some, Result, Ok, Err, IfErr, IfOk, IsSomeAnd, option_map, string_bytes}
use Rattle.std.proofs.lemmas.Option.{none-some, same_Some}
use Rattle.dr_io.specs.Sink.{Gains}
use Rattle.dr_script.specs.{Reading.{NotJson, Reading, Reads, TooLong, Wrong}, declared.script.Script.Script}
use Rattle.dr_text.specs.{Report.last_text, declared.last.Last.Last}
use Rattle.dr_text.specs.declared.last.Last.TheVariants as lasts
use Rattle.dr_intake.specs.Answer.{IsAnswer, IsCallAnswer, IsLine, IsUnread, Said, SaysOf, ToldBy, done, unread_line, no_memory, no_source, usage}
use Rattle.dr_intake.specs.{Reading.{WasRead, refusal_in}, Status.{WroteText, status_of}}
use Rattle.dr_intake.specs.declared.{answer.Answer.Answer, call.Unread.Unread}
use Rattle.dr_intake.specs.declared.call.Unread.TheVariants as reasons

-- ---- what is said of a call

-- that read nothing: its line alone
pub unread_alone : {C A : Type 0} (Alone : Option Last → A → Type 0) (Does : C → List ℕ → A → Type 0)
    (asked : Option C) (old new : Option (List ℕ)) (failed fails : ℕ) (why : Unread) (answer : A)
    → IsUnread asked old new failed fails why → Alone (unread_line why) answer
    → IsAnswer (λ command. true) Alone Does asked old new failed fails answer
unread_alone Alone Does asked old new failed fails why answer unread alone = elim unread [
  | usage none kept is ↦ usage none kept (by (Some lasts.Usage) is)
  | no_source command is reads rose line ↦ no_source command is reads rose (by (Some lasts.SourceFault) line)
  | no_memory command is line ↦ no_memory command is (by None line)
  | done command is bytes was says ↦ absurd says
]
  where
    by : (line : Option Last) → line ≡ unread_line why → Alone line answer
    by line is = subst (λ (o : Option Last). Alone o answer) (sym is) alone

module _ {C : Type 0} (usage_text : List ℕ) (Says : C → List ℕ → Said → Type 0) (asked : Option C)
    (old new : Option (List ℕ)) (failed fails : ℕ) where
  pub unread_if : {E : Type 0} (r : Result Answer E) (why : Unread) → IsUnread asked old new failed fails why
      → IfOk r (λ a. IsSomeAnd (unread_line why) (λ l. IsLine usage_text l (string_bytes a.text, a.status)))
      → IfOk r (λ a. IsCallAnswer usage_text Says asked old new failed fails (string_bytes a.text, a.status))
  unread_if (Ok a) why unread alone =
      unread_alone (λ line said. IsSomeAnd line (λ l. IsLine usage_text l said)) Says asked old new failed fails why
      (string_bytes a.text, a.status) unread alone
  unread_if (Err e) why unread alone = tt

  -- that did what it does
  pub done_if : {E : Type 0} (r : Result Answer E) (command : C) (bytes : List ℕ) → asked ≡ Some command
      → WasRead old new bytes → IfOk r (λ a. Says command bytes (string_bytes a.text, a.status))
      → IfOk r (λ a. IsCallAnswer usage_text Says asked old new failed fails (string_bytes a.text, a.status))
  done_if (Ok a) command bytes is was says = done command is bytes was says
  done_if (Err e) command bytes is was says = tt

-- why a call reads nothing, by what a part of what its words ask for is
pub unread_map : {C D : Type 0} (f : C → D) (asked : Option C) (old new : Option (List ℕ)) (failed fails : ℕ)
    (why : Unread) → IsUnread asked old new failed fails why → IsUnread (option_map f asked) old new failed fails why
unread_map f asked old new failed fails why unread = elim unread [
  | usage none kept is ↦ usage (ap (option_map f) none) kept is
  | no_source command is reads rose line ↦ no_source (f command) (ap (option_map f) is) reads rose line
  | no_memory command is line ↦ no_memory (f command) (ap (option_map f) is) line
  | done command is bytes was says ↦ absurd says
]

-- a fault of its source is told
pub unread_told : {E : Type 0} (usage_text : List ℕ) (r : Result Answer E) (why : Unread) (failed fails : ℕ)
    → (fails ≡ failed) ⊎ (why ≡ reasons.SourceFault) → IfOk r (λ a. IsSomeAnd (unread_line why)
    (λ l. IsLine usage_text l (string_bytes a.text, a.status))) → IfOk r (λ a. (fails ≡ failed) ⊎ (a.status ≡ 4))
unread_told usage_text (Ok a) why failed fails (inl calm) alone = inl calm
unread_told usage_text (Ok a) why failed fails (inr is) alone =
    inr (subst (λ (w : Unread). IsSomeAnd (unread_line w) (λ l. IsLine usage_text l (string_bytes a.text, a.status))) is
    alone).1
unread_told usage_text (Err e) why failed fails fault alone = tt

-- ---- what is said of what was read

-- of a script
pub script_if : {E : Type 0} (Says : Script → Said → Type 0) (r : Result Answer E) (reading : Reading) (s : Script)
    → reading ≡ Reads s → IfOk r (λ a. Says s (string_bytes a.text, a.status))
    → IfOk r (λ a. SaysOf Says reading (string_bytes a.text, a.status))
script_if Says (Ok a) reading s is says =
    subst (λ (x : Reading). SaysOf Says x (string_bytes a.text, a.status)) (sym is) says
script_if Says (Err e) reading s is says = tt

-- of what is none
refused : (Says : Script → Said → Type 0) (reading : Reading) (line : Last) (said : Said)
    → refusal_in reading ≡ Some line → (said.0 ≡ last_text line) × (said.1 ≡ status_of line)
    → SaysOf Says reading said
refused Says TooLong line said is alone =
    subst (λ (l : Last). (said.0 ≡ last_text l) × (said.1 ≡ status_of l)) (sym (same_Some lasts.TooLong line is)) alone
refused Says NotJson line said is alone =
    subst (λ (l : Last). (said.0 ≡ last_text l) × (said.1 ≡ status_of l)) (sym (same_Some lasts.NotJson line is)) alone
refused Says (Wrong rule path) line said is alone = subst (λ (l : Last). (said.0 ≡ last_text l)
    × (said.1 ≡ status_of l)) (sym (same_Some (lasts.Rule rule path) line is)) alone
refused Says (Reads script) line said is alone = absurd (none-some line is)

pub refused_if : {E : Type 0} (Says : Script → Said → Type 0) (r : Result Answer E) (reading : Reading)
    (line : Option Last) → ((l : Last) → line ≡ Some l → refusal_in reading ≡ Some l)
    → IfOk r (λ a. IsSomeAnd line (λ l. (string_bytes a.text ≡ last_text l) × (a.status ≡ status_of l)))
    → IfOk r (λ a. SaysOf Says reading (string_bytes a.text, a.status))
refused_if Says (Ok a) reading None is alone = absurd alone
refused_if Says (Ok a) reading (Some line) is alone =
    refused Says reading line (string_bytes a.text, a.status) (is line refl) alone
refused_if Says (Err e) reading line is alone = tt

-- ---- what comes of what is written

module _ {E : Type 0} (r : Result Answer E) (held holds : Option (List ℕ)) (fell falls status : ℕ)
    (wrote : IfOk r (λ a. WroteText held holds fell falls status a.status (string_bytes a.text)))
    (wanting : IfErr r (λ _. (status ≡ 10) × Gains held holds [])) where
  pub told_by : (Is : Said → Type 0) → IfOk r (λ a. Is (string_bytes a.text, a.status))
      → ToldBy Is held holds fell falls status
  told_by Is answer = by r wrote wanting answer
    where
      by : (x : Result Answer E) → IfOk x (λ a. WroteText held holds fell falls status a.status (string_bytes a.text))
          → IfErr x (λ _. (status ≡ 10) × Gains held holds []) → IfOk x (λ a. Is (string_bytes a.text, a.status))
          → ToldBy Is held holds fell falls status
      by (Ok a) wrote wanting answer = inr (record {
        text = string_bytes a.text;
        due = a.status;
        answer = answer;
        wrote = wrote;
      })
      by (Err e) wrote wanting answer = inl wanting

  -- no fault of the source is hidden
  pub fault_told : (failed fails : ℕ) → IfOk r (λ a. (fails ≡ failed) ⊎ (a.status ≡ 4))
      → (fails ≡ failed) ⊎ Contains (4 ∷ 10 ∷ 5 ∷ []) status
  fault_told failed fails fault = by r wrote wanting fault
    where
      by : (x : Result Answer E) → IfOk x (λ a. WroteText held holds fell falls status a.status (string_bytes a.text))
          → IfErr x (λ _. (status ≡ 10) × Gains held holds []) → IfOk x (λ a. (fails ≡ failed) ⊎ (a.status ≡ 4))
          → (fails ≡ failed) ⊎ Contains (4 ∷ 10 ∷ 5 ∷ []) status
      by (Ok a) wrote wanting (inl calm) = inl calm
      by (Ok a) (inl whole) wanting (inr four) = inr (0, omega arith, sym (whole.0 ∙ four))
      by (Ok a) (inr front) wanting (inr four) = inr (2, omega arith, sym front.0)
      by (Err e) wrote wanting fault = inr (1, omega arith, sym wanting.0)
