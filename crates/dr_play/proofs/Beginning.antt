-- An age begins as the program of its script, sound and in the world as the age opens.
use Rattle.std.{specs.Prelude.{None, Option, Some, option_map}, proofs.lemmas.List.{map-append, length-map}}
use Rattle.std.proofs.Common.{◌≡◌, sym, ap, ◌∙◌, ℕ, ◌+◌, ◌≤◌, List, [], ◌∷◌, ◌++◌, length, replicate, refl}
use Rattle.dr_entry.specs.declared.entry.Entry.{Entry}
use Rattle.dr_script.specs.declared.script.Script.{Script}
use Rattle.dr_words.specs.Layout.{words_of}
use Rattle.dr_machine.specs.Group.{IsGroup, banks}
use Rattle.dr_program.specs.{Form.IsRunningMember, Presence.present_at, Program.Program}
use Rattle.dr_program.specs.Running.{Running, begun_running}
use Rattle.dr_restart.specs.{Groups.group_of, Setups.IsBegun, declared.start.Start.Start}
use Rattle.dr_restart.proofs.Setups.{absent, more, none, age_begins_reached}
use Rattle.dr_program_laws.proofs.Programs.{begun_program_of}
use Rattle.dr_play.specs.{Begun.{HasBegunAt, HaveBegun}, Sound.IsSound}

-- no members have begun as the first none
pub begun_none : (script : Script) (start : Start) (nth : ℕ) (members : List (Option Running)) → members ≡ []
    → HaveBegun script start nth 0 members
begun_none script start nth members empty = record { setups = []; are = none script start nth; begun = empty }

-- whoever stands at the next place, behind the first n, makes them the first n + 1
pub begun_more : (script : Script) (start : Start) (nth n : ℕ) (rs qs : List (Option Running))
    (o : Option Running) → HaveBegun script start nth n rs → HasBegunAt script start nth n o
    → qs ≡ rs ++ o ∷ [] → HaveBegun script start nth (n + 1) qs
begun_more script start nth n rs qs (Some r) so_far (s, setup, begins) pushed = record {
  setups = so_far.setups ++ Some s ∷ [];
  are = more script start nth n so_far.setups s so_far.are setup;
  begun = pushed ∙ (λ z. so_far.begun z ++ Some (begins z) ∷ [])
      ∙ sym (map-append (option_map begun_running) so_far.setups (Some s ∷ []));
}
begun_more script start nth n rs qs None so_far away pushed = record {
  setups = so_far.setups ++ None ∷ [];
  are = absent script start nth n so_far.setups so_far.are away;
  begun = pushed ∙ (λ z. so_far.begun z ++ None ∷ [])
      ∙ sym (map-append (option_map begun_running) so_far.setups (None ∷ []));
}

-- all members, over a table of zeros and no letters, are the program as the age opens
pub is_begun : (script : Script) (start : Start) (nth : ℕ) (members : List (Option Running))
    (table : List ℕ) (letters : List (Option (List Entry))) → HaveBegun script start nth script.members members
    → length script.messages ≡ script.members → table ≡ replicate (words_of script.members script.window
    (banks (group_of script start))) 0 → letters ≡ replicate script.members None
    → IsBegun script start nth (record { members = members; table = table; letters = letters })
is_begun script start nth members table letters begun lists zeros none = (
  begun.setups,
  begun.are,
  λ z. record {
    members = begun.begun z;
    table = (zeros ∙ ap (λ n. replicate (words_of n script.window (banks (group_of script start))) 0) (sym lists)) z;
    letters = (none ∙ ap (λ n. replicate n None) (sym lists)) z;
  },
)

-- a program that has begun from a script and a start is sound for its group
pub begun_is_sound : (script : Script) (start : Start) (nth : ℕ) (p : Program)
    → IsGroup (group_of script start) → 1 ≤ script.turns
    → length script.messages ≡ script.members → IsBegun script start nth p → IsSound (group_of script start) p
begun_is_sound script start nth p group some lists begins = record {
  group = group;
  form = begun_program_of script start nth p group lists some begins;
  reached = age_begins_reached script start nth p group lists begins;
}

-- a member that has begun is in form
pub begun_forms : (script : Script) (start : Start) (nth : ℕ) (members : List (Option Running))
    → IsGroup (group_of script start) → 1 ≤ script.turns → length script.messages ≡ script.members
    → HaveBegun script start nth script.members members
    → (m : ℕ) (r : Running) → present_at members m ≡ Some r → IsRunningMember r
begun_forms script start nth members group some lists begun m r there =
    (begun_is_sound script start nth _ group some lists
    (is_begun script start nth members _ _ begun lists refl refl)).form.form m r there

-- so they are as many
pub as_many_begun : (script : Script) (start : Start) (nth : ℕ) (members : List (Option Running))
    → HaveBegun script start nth script.members members → length members ≡ script.members
as_many_begun script start nth members begun =
    ap length begun.begun ∙ length-map begun.setups (option_map begun_running) ∙ begun.are.all
