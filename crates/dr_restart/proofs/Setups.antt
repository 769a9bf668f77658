-- The setups of a script's members, and that they are those of its group.
use Rattle.std.{specs.Prelude.{None, Option, Some}, proofs.lemmas.{Bool.cases_lt, Option.same_Some}}
use Rattle.std.proofs.Common.{◌≡◌, ◌⊎◌, inl, inr, refl, sym, ap, ◌∙◌, subst, ℕ, ◌+◌, ◌<◌, ◌≤◌, List, [], ◌∷◌, ◌++◌, length, length-append, arith, ◌==◌, ◌&&◌, Bool, true, false, if◌then◌else◌}
use Rattle.dr_machine.specs.{Group.{IsPresent, IsGroup}, Run.IsReached}
use Rattle.dr_program.specs.{Presence.present_at, Program.{AreSetups, Program, begun_program}, Reading.world}
use Rattle.dr_program.{specs.declared.setup.Setup.Setup, proofs.Opening.begun_reached}
use Rattle.dr_program.proofs.Present.{each_more, still_there, place_new}
use Rattle.dr_script.specs.declared.script.{Fault.Fault, Script.Script}
use Rattle.dr_restart.specs.{Groups.group_of, declared.start.Start.Start}
use Rattle.dr_restart.specs.Setups.{AreFirstSetupsOf, AreSetupsOf, IsSetupOf, IsBegun, suspicion_in, suspicion_of}

-- no setups are the first none of an age
pub none : (script : Script) (start : Start) (nth : ℕ) → AreFirstSetupsOf script start nth 0 []
none script start nth = record
    { all = refl; each = λ m s there. absurd (cc); there = λ m below. absurd (omega (arith, below)) }

-- the places of the first n, and one more
one_more : (script : Script) (start : Start) (nth n : ℕ) (setups : List (Option Setup)) (o : Option Setup)
    → AreFirstSetupsOf script start nth n setups → ((s : Setup) → o ≡ Some s → IsSetupOf script start nth n s)
    → (IsPresent (group_of script start) n → (s : Setup) × (o ≡ Some s))
    → AreFirstSetupsOf script start nth (n + 1) (setups ++ o ∷ [])
one_more script start nth n setups o so_far next there = record {
  all = length-append setups (o ∷ []) ∙ ap (λ k. k + 1) so_far.all;
  each = each_more (IsSetupOf script start nth) setups o so_far.each
      (λ s is. subst (λ k. IsSetupOf script start nth k s) (sym so_far.all) (next s is));
  there = λ m below here. by m (cases_lt m n) below here;
}
  where
    by : (m : ℕ) → (m < n) ⊎ (n ≤ m) → m < n + 1 → IsPresent (group_of script start) m
        → (s : Setup) × (present_at (setups ++ o ∷ []) m ≡ Some s)
    by m (inl before) below here =
        let old = so_far.there m before here in (old.0, still_there setups o m old.0 old.1)
    by m (inr last) below here =
        let same : m ≡ n = omega (arith, last, below) in
        let new = there (subst (IsPresent (group_of script start)) same here) in
        (new.0, ap (present_at (setups ++ o ∷ [])) same ∙ place_new setups o n so_far.all ∙ new.1)

-- the next member's setup, behind the first n, makes them the first n + 1
pub more : (script : Script) (start : Start) (nth n : ℕ) (setups : List (Option Setup)) (s : Setup)
    → AreFirstSetupsOf script start nth n setups
    → IsSetupOf script start nth n s → AreFirstSetupsOf script start nth (n + 1) (setups ++ Some s ∷ [])
more script start nth n setups s so_far next = one_more script start nth n setups (Some s) so_far
    (λ t is. subst (IsSetupOf script start nth n) (same_Some s t is) next) (λ here. (s, refl))

-- so does an empty place, where the next member is absent
pub absent : (script : Script) (start : Start) (nth n : ℕ) (setups : List (Option Setup))
    → AreFirstSetupsOf script start nth n setups → ¬ IsPresent (group_of script start) n
    → AreFirstSetupsOf script start nth (n + 1) (setups ++ None ∷ [])
absent script start nth n setups so_far away =
    one_more script start nth n setups None so_far (λ s is. absurd (cc)) (λ here. absurd (away here))

-- the setups that a script and a start give for an age are setups of their group
pub are_setups : (script : Script) (start : Start) (nth : ℕ) (setups : List (Option Setup))
    → length script.messages ≡ script.members
    → AreSetupsOf script start nth setups → AreSetups (group_of script start) script.turns setups
are_setups script start nth setups lists are = record {
  all = are.all ∙ sym lists;
  each = λ m s there. (are.each m s there).setup;
  there = λ m below here. are.there m (omega (arith, below, lists)) here;
}

-- a script, a start and a number leave one list of setups
abbrev pub AreOne : Type 0
AreOne = (script : Script) (start : Start) (nth : ℕ) (setups others : List (Option Setup))
    → AreSetupsOf script start nth setups → AreSetupsOf script start nth others → setups ≡ others

-- so they leave one program to begin with
pub begun_same : AreOne → (script : Script) (start : Start) (nth : ℕ) (p q : Program) → IsBegun script start nth p
    → IsBegun script start nth q → p ≡ q
begun_same same script start nth p q (setups, are, is) (setups', are', is') =
    is ∙ ap (begun_program (group_of script start)) (same script start nth setups setups' are are') ∙ sym is'

-- the world in which an age begins is reached
pub age_begins_reached : (script : Script) (start : Start) (nth : ℕ) (begun : Program)
    → IsGroup (group_of script start) → length script.messages ≡ script.members → IsBegun script start nth begun
    → IsReached (group_of script start) (world (group_of script start) begun)
age_begins_reached script start nth begun is lists begins = subst (λ p. IsReached (group_of script start)
    (world (group_of script start) p)) (sym begins.2) (begun_reached (group_of script start) script.turns begins.0 is
    (are_setups script start nth begins.0 lists begins.1))

pub unsuspected : (nth m : ℕ) (f : Fault) → suspicion_in f.what ≡ None → suspicion_of nth m f ≡ None
unsuspected nth m f none = by ((f.age == nth) && (f.member == m))
  where
    by : (b : Bool) → (if b then suspicion_in f.what else None) ≡ None
    by true = none
    by false = refl
