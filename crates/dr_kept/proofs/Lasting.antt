-- Behind an age lasts what lasted before it, and all that a member of it knew to be durable.
use Rattle.std.specs.Prelude.{Option, None, Some}
use Rattle.std.proofs.Common.{◌≡◌, refl, sym, ◌∙◌, subst, inl, ℕ, List, [], map, take}
use Rattle.dr_entry.specs.declared.entry.Entry.{Entry}
use Rattle.dr_history.specs.{Agreement.accounts_of, History.IsPrefixOf, Soundness.whole_roster}
use Rattle.dr_history.proofs.Lists.{prefix_refl}
use Rattle.dr_log_bytes.specs.Content.{OnLog}
use Rattle.dr_machine.specs.{Group.{Group, IsGroup, IsPresent}, Run.IsReached}
use Rattle.dr_program.specs.{Program.{Program, end_at}, Reading.world}
use Rattle.dr_restart.specs.{Choosing.{IsChosenStart, of_set}, Groups.{first_group_of, group_of}}
use Rattle.dr_restart.specs.{Left.{AreLeft, IsLeftByOther}, declared.{lists.LogLists.LogLists, start.Start.Start}}
use Rattle.dr_script.{specs.declared.script.Script.Script, proofs.Ranges.few}
use Rattle.dr_words.specs.Masks.{IsMajorityOf}
use Rattle.dr_world_laws.proofs.Worlds.{known}
use Rattle.dr_quorum_laws.{specs.Lasting.{AreLasting, HoldSinceAge}, proofs.{Handing.Since, Keeping.since-left}}
use Rattle.dr_quorum_laws.proofs.Lasting.{last-kept, last-others, since-age, start-durable}
use Rattle.dr_opening.{specs.Tries.content_at, proofs.Trying.chosen_by}
use Rattle.dr_kept.{specs.Lasting.HasLeftLogs, proofs.Behind.{AreLeftByOthers, held_behind, reached_behind}}
use Rattle.dr_kept.proofs.{Chosen.{known_age, with_log}, Following.{IsAccountOf, account_of}}

-- it began with what lasted
pub start_has : (script : Script) (start : Start) (nth : ℕ) (p : Program) (es : List Entry)
    (before logs : List LogLists) → HasLeftLogs script start nth p before logs → AreLasting script es before
    → IsPrefixOf es start.entries
start_has script start nth p es before logs a lasting = last-kept script es before start.present start lasting
    (chosen_by (first_group_of script).opening a.found before start a.is.chosen (few script a.ranges) a.among)

-- the age was reached, with more than half of the roster
reached : (script : Script) (start : Start) (nth : ℕ) (p : Program) (before logs : List LogLists)
    → HasLeftLogs script start nth p before logs → IsGroup (group_of script start)
    × IsReached (group_of script start) (world (group_of script start) p)
    × IsMajorityOf start.present (whole_roster (group_of script start).opening)
reached script start nth p before logs a = reached_behind script start nth a.found p a.ranges a.turns a.is

-- the logs are such as it may leave
left_all : (script : Script) (start : Start) (nth : ℕ) (p : Program) (es : List Entry)
    (before logs : List LogLists) → HasLeftLogs script start nth p before logs → AreLasting script es before
    → AreLeft (group_of script start) (world (group_of script start) p) logs
left_all script start nth p es before logs a lasting =
    (held_behind script start nth a.found a.after p logs a.ranges a.turns a.is a.left a.long a.behind missing).0
  where
    choice : IsChosenStart (first_group_of script).opening (of_set before start.present) start
    choice = chosen_by (first_group_of script).opening a.found before start a.is.chosen (few script a.ranges) a.among

    missing : AreLeftByOthers script start logs
    missing m log absent at = by (content_at a.found m) refl
      where
        by : (o : Option OnLog) → content_at a.found m ≡ o → IsLeftByOther (group_of script start) log
        by None none = last-others script es before start.present start m log lasting choice
            (sym (a.others m none) ∙ at)
        by (Some c) there = absurd (absent (with_log script start nth a.found p m c a.ranges a.is there))

-- so they hold since it
pub hold_behind : (script : Script) (start : Start) (nth : ℕ) (p : Program) (es : List Entry)
    (before logs : List LogLists) → HasLeftLogs script start nth p before logs → AreLasting script es before
    → HoldSinceAge script start (world (group_of script start) p) logs
hold_behind script start nth p es before logs a lasting =
    let r = reached script start nth p before logs a in
    since-age script start (world (group_of script start) p) logs r.0 r.1 r.2
    (left_all script start nth p es before logs a lasting)

pub since_behind : (script : Script) (start : Start) (nth : ℕ) (p : Program) (es : List Entry)
    (before logs : List LogLists) → HasLeftLogs script start nth p before logs → AreLasting script es before
    → Since (group_of script start) (world (group_of script start) p) logs [] logs
since_behind script start nth p es before logs a lasting =
    let g = group_of script start in
    let r = reached script start nth p before logs a in
    since-left g (world g p) logs r.0 (known g (world g p) r.0 r.1) r.2
    (left_all script start nth p es before logs a lasting)

-- what lasted lasts
pub still_lasts : (script : Script) (start : Start) (nth : ℕ) (p : Program) (es : List Entry)
    (before logs : List LogLists) → HasLeftLogs script start nth p before logs → AreLasting script es before
    → AreLasting script es logs
still_lasts script start nth p es before logs a lasting =
    let h = hold_behind script start nth p es before logs a lasting in
    inl (
      start,
      world (group_of script start) p,
      h,
      start-durable (group_of script start) (world (group_of script start) p) es h.group h.reached h.majority
          (start_has script start nth p es before logs a lasting),
    )

-- and so does what a member knew to be durable
pub durable_lasts : (script : Script) (start : Start) (nth : ℕ) (p : Program) (es : List Entry)
    (before logs : List LogLists) (m : ℕ) → HasLeftLogs script start nth p before logs → AreLasting script es before
    → IsPresent (group_of script start) m → AreLasting script (take (accounts_of (map end_at p.members) m).durable
    (accounts_of (map end_at p.members) m).history) logs
durable_lasts script start nth p es before logs m a lasting there = inl (
  start,
  world g p,
  hold_behind script start nth p es before logs a lasting,
  (
    m,
    there,
    subst (λ n. IsPrefixOf (take n (accounts_of (map end_at p.members) m).history)
        (take ((world g p).past.durable m) ((world g p).past.history m))) (sym account.durable)
        (subst (λ h. IsPrefixOf (take ((world g p).past.durable m) h)
        (take ((world g p).past.durable m) ((world g p).past.history m))) (sym account.history)
        (prefix_refl (take ((world g p).past.durable m) ((world g p).past.history m)))),
  ),
)
  where
    g : Group
    g = group_of script start

    account : IsAccountOf (group_of script start) p m
    account = account_of script start p m (known_age script start nth a.found p a.ranges a.turns a.is) there
