-- The members of a program stand so after any deeds.
use Rattle.std.{specs.Prelude.{Option, None, Some, is_some, option_map}, proofs.lemmas.Option.same_Some}
use Rattle.std.proofs.Common.{◌≡◌, refl, sym, ap, ◌∙◌, subst, ℕ, ◌≤◌, inl, inr, List, [], ◌∷◌, length}
use Rattle.dr_entry.specs.declared.{end.End.End, entry.Entry.Entry}
use Rattle.dr_script.specs.declared.script.Script.{Script}
use Rattle.dr_machine.specs.{Group.{Group, IsGroup}, Run.IsReached}
use Rattle.dr_program.specs.{Net.took_nothing, Presence.{present_at, with_present}, Steps.{stored, stored_letters}}
use Rattle.dr_program.specs.Program.{AreSetups, Move, Program, after_deed, begun_program, letter_for, moved_by, next_sight, ran, step_of}
use Rattle.dr_program.specs.{Reading.world, Running.{Running, begun_running, next_step, settled, took_letter}}
use Rattle.dr_program.{specs.declared.setup.Setup.Setup, proofs.Opening.begun_reached}
use Rattle.dr_program.proofs.{Deeds.{rest_changes_nothing, step_is}, Present.{present_map, replaced_either}}
use Rattle.dr_refine.{specs.Programs.IsProgram, proofs.Steps.begun_is_program}
use Rattle.dr_restart.{specs.{Groups.group_of, Setups.IsBegun, declared.start.Start.Start}, proofs.Setups.are_setups}
use Rattle.dr_program_laws.proofs.{Deeds.{begins, deed_stands, took_stands}, Keeping.move_kept}
use Rattle.dr_program_laws.proofs.Standing.{Stands, settled_stands}

-- each member stands as its setup wants
abbrev pub AllStand : List (Option Setup) → Program → Type 0
AllStand setups p = (m : ℕ) (s : Setup) (r : Running) → present_at setups m ≡ Some s
    → present_at p.members m ≡ Some r → Stands s.turns s.crashes r

pub begun_stands : (g : Group) (setups : List (Option Setup)) → AllStand setups (begun_program g setups)
begun_stands g setups m s r there is =
    let same : option_map begun_running (Some s) ≡ Some r = ap (option_map begun_running) (sym there)
    ∙ (sym (present_map begun_running setups m) ∙ is) in
    subst (Stands s.turns s.crashes) (same_Some (begun_running s) r same) (begins s)

-- one member is replaced by one that stands as its setup wants
pub replaced_stands : (setups : List (Option Setup)) (p : Program) (m : ℕ) (x y : Running) (table : List ℕ)
    (letters : List (Option (List Entry))) → AllStand setups p → present_at p.members m ≡ Some x
    → ((s : Setup) → present_at setups m ≡ Some s → Stands s.turns s.crashes y)
    → AllStand setups (record { members = with_present p.members m y; table = table; letters = letters })
replaced_stands setups p m x y table letters all at stands k s r there is =
    elim (replaced_either p.members m x y at k r is) [
      | inl here ↦ subst (Stands s.turns s.crashes) here.1 (stands s (rw here.0 at there))
      | inr other ↦ all k s r there other.1
    ]

pub move_stands : (g : Group) (setups : List (Option Setup)) (p : Program) (e : Move) → IsProgram g p
    → AllStand setups p → AllStand setups (step_of p e)
move_stands g setups p e is all = by (present_at p.members e.member) refl
  where
    at : (r : Running) → present_at p.members e.member ≡ Some r → (o : Option End) → r.replica.end
        ≡ o → AllStand setups (step_of p e)
    at r there (Some x) ended = subst (AllStand setups)
        (sym (rest_changes_nothing p e r there (ap is_some ended))) all
    at r there None unended = subst (AllStand setups) (sym (step_is p e r there unended))
        (replaced_stands setups p e.member r
        (after_deed (next_sight p.table r) (letter_for p e.member) e.outcome r (next_step r))
        (stored p.table r.replica (next_step r)) (stored_letters p.letters r.replica (next_step r)) all there
        (λ s setup. deed_stands s.turns s.crashes p.table (letter_for p e.member) e.outcome r
        (is.form e.member r there) unended (all e.member s r setup there)))

    by : (o : Option Running) → present_at p.members e.member ≡ o → AllStand setups (step_of p e)
    by None none = subst (AllStand setups) (sym (ap (λ o. moved_by p o e) none)) all
    by (Some r) there = at r there r.replica.end refl

-- nor does a take that finds no letter
pub missed_stands : (setups : List (Option Setup)) (p : Program) (m : ℕ) (r : Running) → AllStand setups p
    → present_at p.members m ≡ Some r → AllStand setups (took_nothing p m r)
missed_stands setups p m r all there = replaced_stands setups p m r
    (settled (took_letter None r)) p.table p.letters all there (λ s setup. settled_stands s.turns s.crashes
    (took_letter None r) (took_stands s.turns s.crashes None r (all m s r setup there)))

-- what each move of a program of the group keeps, moves one after the other keep
pub ran_keeps : (g : Group) (P : Program → Type 0) (p : Program) (es : List Move) → IsGroup g
    → IsProgram g p → IsReached g (world g p)
    → ((q : Program) (e : Move) → IsProgram g q → P q → P (step_of q e)) → P p → P (ran p es)
unfolding ran
ran_keeps g P p [] group is run keeps so = so
ran_keeps g P p (e ∷ es) group is run keeps so =
    let kept = move_kept g p e group is run in
    ran_keeps g P (step_of p e) es group kept.0 kept.1 keeps (keeps p e is so)

pub ran_stands : (g : Group) (setups : List (Option Setup)) (p : Program) (es : List Move) → IsGroup g
    → IsProgram g p → IsReached g (world g p) → AllStand setups p → AllStand setups (ran p es)
ran_stands g setups p es group is run all = ran_keeps g (AllStand setups) p es group is run (move_stands g setups) all

-- after any moves each member stands as its setup lets it
pub all_stand : (g : Group) (turns : ℕ) (setups : List (Option Setup)) (es : List Move) → IsGroup g → 1
    ≤ turns → AreSetups g turns setups → AllStand setups (ran (begun_program g setups) es)
all_stand g turns setups es group some are = ran_stands g setups (begun_program g setups) es group
    (begun_is_program g turns setups group some are) (begun_reached g turns setups group are) (begun_stands g setups)

-- the program that begins from a script and a start is one of their group
pub begun_program_of : (script : Script) (start : Start) (nth : ℕ) (begun : Program)
    → IsGroup (group_of script start) → length script.messages ≡ script.members
    → 1 ≤ script.turns → IsBegun script start nth begun → IsProgram (group_of script start) begun
begun_program_of script start nth begun is lists some begins = subst (IsProgram (group_of script start))
    (sym begins.2) (begun_is_program (group_of script start) script.turns begins.0 is some
    (are_setups script start nth begins.0 lists begins.1))
