-- What an opening comes to, wherever it stops, and the tries that it leaves.
use Rattle.std.{specs.Prelude.{Err, IfErr, Ok, OnErr, OnOk, Result, option_map}, proofs.lemmas.List.length-map}
use Rattle.std.proofs.Common.{◌≡◌, subst, ℕ, ◌≤◌, arith, Bool, true, List, length, Option, Some}
use Rattle.dr_entry.proofs.ListPlaces.{within_places}
use Rattle.dr_disk.specs.Disk.{Told}
use Rattle.dr_history.specs.declared.opening.Opening.{Opening}
use Rattle.dr_log.specs.State.{LogState}
use Rattle.dr_restart.specs.{Trying.IsTry, declared.{lists.LogLists.LogLists, start.Start.Start}}
use Rattle.dr_opening.{specs.CatchingUp.opened_with, proofs.Ways.open_entries}
use Rattle.dr_opening.specs.{Contents.{IsRising, IsVoting, voted_for}, declared.catching_up.CatchFault.CatchFault}
use Rattle.dr_opening.specs.{Lists.{contents_of, log_of}, Tries.{AreAmong, AreLeftOn, AreSafe, IsChosenOf, try_of}}
use Rattle.dr_opening.specs.Logs.{ComeBelow, GotStart, GotVote, LacksStart, LacksVote, StopAt, Together, WereOpened}
use Rattle.dr_opening.{specs.declared.opening.OpenFault.OpenFault, proofs.Trying.{tried_rising, tried_voting}}
use Rattle.dr_opening.proofs.{Crashing.{AreSo, left_so_far, so_opened, so_stopped, so_voting}, Placing.came_from}

pub were_opened : {D : Type 0} (told : D → Option Told) (faults : D → ℕ) (start : Start)
    (olds mids news : List (Option (LogState D))) → ComeBelow (GotVote told faults start) olds mids (length olds)
    → ComeBelow (GotStart told faults start) mids news (length mids) → WereOpened told faults start olds news
were_opened told faults start olds mids news voted raised =
    (mids, voted, subst (ComeBelow (GotStart told faults start) mids news) voted.all raised)

-- each member of the roster has a place
roster_small : {D : Type 0} (o : Opening) (logs : List (Option (LogState D))) (start : Start)
    → IsChosenOf o (contents_of logs) start → length logs ≤ 16 → length o.messages ≤ 16
roster_small {D} o logs start is few =
    omega (arith, is.all, few, length-map logs (option_map (λ (log : LogState D). log.content)))

pub tried_on : {D : Type 0} (told : D → Option Told) (faults : D → ℕ) (start : Start)
    (olds news : List (Option (LogState D))) (o : Opening) (before after : List LogLists) → length olds ≤ 16
    → AreSo told (λ c now. IsRising start (voted_for start c) now) olds news → IsChosenOf o (contents_of olds) start
    → AreAmong (contents_of olds) before → AreLeftOn told news before after → IsTry o before after (try_of start true)
tried_on told faults start olds news o before after few are is among left =
    tried_rising o (contents_of olds) before after start (record {
      is = is;
      few = roster_small o olds start is few;
      among = among;
      came = left_so_far told (λ c now. IsRising start (voted_for start c) now) olds news before after are left;
    })

pub unvoted_on : {D : Type 0} (told : D → Option Told) (faults : D → ℕ) (start : Start)
    (olds news : List (Option (LogState D))) (k : ℕ) (why : CatchFault) (o : Opening)
    (before after : List LogLists) → length olds ≤ 16
    → StopAt (GotVote told faults start) (λ old new. LacksVote told faults start old new why) olds news k
    → IsChosenOf o (contents_of olds) start → AreAmong (contents_of olds) before → AreSafe told olds
    → AreLeftOn told news before after → (opened : Bool) × IsTry o before after (try_of start opened)
unvoted_on told faults start olds news k why o before after few stop is among safe left =
    tried_voting o (contents_of olds) before after start (record {
      is = is;
      few = roster_small o olds start is few;
      among = among;
      came = left_so_far told (IsVoting start) olds news before after
          (so_voting told faults start olds news k why safe stop) left;
    })

-- ---- by the answer of the second phase

-- the tries that it leaves, of all choices of what a crash leaves
abbrev pub LeavesTry : {D : Type 0} → (D → Option Told) → Start → List (Option (LogState D))
    → List (Option (LogState D)) → Type 0
LeavesTry told start olds news = (o : Opening) (before after : List LogLists) → IsChosenOf o (contents_of olds) start
    → AreAmong (contents_of olds) before → AreLeftOn told news before after → IsTry o before after (try_of start true)

-- what each log has then
begins_at : {D : Type 0} (told : D → Option Told) (faults : D → ℕ) (start : Start)
    (mids news : List (Option (LogState D))) (m : ℕ) (log : LogState D)
    → ComeBelow (GotStart told faults start) mids news (length mids) → log_of news m ≡ Some log
    → log.content.entries ≡ opened_with start start.members
begins_at told faults start mids news m log raised at =
    let one = came_from (GotStart told faults start) (log_of mids m) log
    (subst (Together (GotStart told faults start) (log_of mids m)) at
    (raised.below m (omega (arith, within_places news m log at, raised.all)))) in
    open_entries start one.0.content log.content one.2.content

pub begins_after : {D : Type 0} (T E : Type 0) (told : D → Option Told)
    (faults : D → ℕ) (start : Start) (mids news : List (Option (LogState D))) (answer : Result T E)
    → OnOk answer (ComeBelow (GotStart told faults start) mids news (length mids)) → OnOk answer
    ((m : ℕ) (log : LogState D) → log_of news m ≡ Some log → log.content.entries ≡ opened_with start start.members)
begins_after T E told faults start mids news (Err why) raised = tt
begins_after T E told faults start mids news (Ok x) raised = λ m log at.
    begins_at told faults start mids news m log raised at

pub tried_after : {D : Type 0} (T E : Type 0) (told : D → Option Told) (faults : D → ℕ) (start : Start)
    (olds mids news : List (Option (LogState D))) (answer : Result T E) → length olds ≤ 16
    → ComeBelow (GotVote told faults start) olds mids (length olds)
    → OnOk answer (ComeBelow (GotStart told faults start) mids news (length mids))
    → OnOk answer (LeavesTry told start olds news)
tried_after T E told faults start olds mids news (Err why) few voted raised = tt
tried_after T E told faults start olds mids news (Ok x) few voted raised = λ o before after is among left.
    tried_on told faults start olds news o before after few
    (so_opened told faults start olds news (were_opened told faults start olds mids news voted raised)) is among left

pub left_after : {D : Type 0} (T : Type 0) (told : D → Option Told)
    (faults : D → ℕ) (start : Start) (olds mids news : List (Option (LogState D))) (answer : Result T OpenFault)
    → length olds ≤ 16 → ComeBelow (GotVote told faults start) olds mids (length olds) → IfErr answer (λ fault. StopAt
    (GotStart told faults start) (λ old new. LacksStart told faults start old new fault.why) mids news fault.member)
    → OnErr answer ((o : Opening) (before after : List LogLists)
    → IsChosenOf o (contents_of olds) start → AreAmong (contents_of olds) before → AreSafe told olds
    → AreLeftOn told news before after → (opened : Bool) × IsTry o before after (try_of start opened))
left_after T told faults start olds mids news (Ok x) few voted stop = tt
left_after T told faults start olds mids news (Err fault) few voted stop = λ o before after is among safe left. (
  true,
  tried_on told faults start olds news o before after few
      (so_stopped told faults start olds mids news fault.member fault.why voted stop) is among left,
)
