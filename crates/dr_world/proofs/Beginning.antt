-- Replicas that have begun are the group's as its age opens.
use Rattle.std.specs.Prelude.{Option, Some, None, option_map}
use Rattle.std.proofs.Common.{◌≡◌, sym, ap, ◌∙◌, subst, ℕ, ◌+◌, List, [], ◌∷◌, ◌++◌, map, replicate}
use Rattle.std.proofs.lemmas.List.{length-map, length-replicate, map-append}
use Rattle.dr_program.specs.{Form.{HasForm, IsOf}, Program.AreSetups, Replica.{Replica, begun_replica}}
use Rattle.dr_program.{specs.declared.setup.Setup.Setup, proofs.{Opening.begun_world, OpeningForm.{begins, begun_at}}}
use Rattle.dr_program.proofs.Present.{present_map}
use Rattle.dr_machine.specs.{Group.{Group, IsGroup, roster, banks}, World.opening_world}
use Rattle.dr_entry.specs.declared.entry.Entry.{Entry}
use Rattle.dr_script.specs.declared.script.Script.{Script}
use Rattle.dr_restart.specs.{Groups.group_of, declared.start.Start.Start}
use Rattle.dr_restart.proofs.Setups.{absent, are_setups, more, none}
use Rattle.dr_words.specs.Layout.{words_of}
use Rattle.dr_world.specs.{Begun.{HasReplica, HaveBegun}, Held.{Held, AreMembers, IsHeld, its_world}}

-- ---- the replicas that begin

-- replicas that have begun are the members of the group
pub begun_members : (g : Group) (limit : ℕ) (setups : List (Option Setup)) → IsGroup g
    → AreSetups g limit setups → AreMembers g (map (option_map begun_replica) setups)
begun_members g limit setups is are = record {
  all = length-map setups (option_map begun_replica) ∙ are.all;
  there = λ m within here. let setup = are.there m within here in (
    begun_replica setup.0,
    present_map begun_replica setups m ∙ ap (option_map begun_replica) setup.1,
  );
  form = λ m r there. begun_at g limit setups are HasForm m r there
      (λ s setup within. (begins g limit m s is setup within).0);
  of = λ m r there. begun_at g limit setups are (IsOf g m) m r there
      (λ s setup within. (begins g limit m s is setup within).1);
}

-- ---- one by one

-- no member has begun
pub begun_none : (script : Script) (start : Start) (rs : List (Option Replica)) → rs ≡ []
    → HaveBegun script start 0 rs
begun_none script start rs empty = ([], none script start 0, empty)

-- whoever stands at the next place, behind the first n, makes them the first n + 1
pub begun_more : (script : Script) (start : Start) (n : ℕ) (rs qs : List (Option Replica))
    (o : Option Replica) → HaveBegun script start n rs → HasReplica script start n o → qs ≡ rs ++ o ∷ []
    → HaveBegun script start (n + 1) qs
begun_more script start n rs qs (Some r) so_far (s, setup, begins) pushed = (
  so_far.0 ++ Some s ∷ [],
  more script start 0 n so_far.0 s so_far.1 setup,
  pushed ∙ (λ z. so_far.2 z ++ Some (begins z) ∷ [])
      ∙ sym (map-append (option_map begun_replica) so_far.0 (Some s ∷ [])),
)
begun_more script start n rs qs None so_far away pushed = (
  so_far.0 ++ None ∷ [],
  absent script start 0 n so_far.0 so_far.1 away,
  pushed ∙ (λ z. so_far.2 z ++ None ∷ []) ∙ sym (map-append (option_map begun_replica) so_far.0 (None ∷ [])),
)

-- ---- the world

-- what is held of a group as it opens
abbrev begun_held : Script → Start → List (Option Setup) → Held
begun_held script start setups =
    let g = group_of script start in
    record {
      script = script;
      start = start;
      replicas = map (option_map begun_replica) setups;
      table = replicate (words_of (roster g) script.window (banks g)) 0;
      letters = replicate (roster g) None;
    }

-- the replicas of the members, over a table of zeros and without letters, are a group in its opening world
pub opened : (script : Script) (start : Start) (h : Held) (k : ℕ) → h.script ≡ script → h.start
    ≡ start → IsGroup (group_of script start)
    → script.members ≡ roster (group_of script start) → HaveBegun script start script.members h.replicas
    → k ≡ words_of script.members script.window (banks (group_of script start)) → h.table ≡ replicate k 0
    → h.letters ≡ replicate script.members None → IsHeld h × (its_world h ≡ opening_world (group_of script start))
opened script start h k same likewise is all begun words zeros none =
    subst (λ (x : Held). IsHeld x × (its_world x ≡ opening_world (group_of script start))) (sym held) (
      record {
        group = is;
        members = begun_members g script.turns begun.0 is told;
        table = length-replicate (words_of (roster g) g.window (banks g)) 0;
        posts = length-replicate {A = Option (List Entry)} (roster g) None;
        events = ([], begun_world g script.turns begun.0 is told);
      },
      begun_world g script.turns begun.0 is told,
    )
  where
    g : Group
    g = group_of script start

    told : AreSetups (group_of script start) script.turns begun.0
    told = are_setups script start 0 begun.0 (sym all) begun.1

    cells : h.table ≡ replicate (words_of (roster (group_of script start)) script.window
        (banks (group_of script start))) 0
    cells = zeros ∙ ap (λ i. replicate i 0)
        (words ∙ ap (λ i. words_of i script.window (banks (group_of script start))) all)

    letters : h.letters ≡ replicate (roster (group_of script start)) None
    letters = none ∙ ap (λ i. replicate i None) all

    held : h ≡ begun_held script start begun.0
    held = λ z. record {
      script = same z;
      start = likewise z;
      replicas = begun.2 z;
      table = cells z;
      letters = letters z;
    }
