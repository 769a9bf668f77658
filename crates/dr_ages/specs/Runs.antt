-- What a run of ages is.
use Rattle.std.specs.Prelude.{◌≡◌, ◌≢◌, ◌⊎◌, ℕ, ◌+◌, ◌<◌, All, true, false, List, [], ◌∷◌, ◌++◌, length, slice_get, take, Option, None, Some, IfSome, IsSomeAnd}
use Rattle.dr_disk.specs.Images.{IsLeft}
use Rattle.dr_entry.specs.declared.{end.{AgeEnd.AgeEnd, MemberEnd.MemberEnd}, entry.Entry.Entry}
use Rattle.dr_history.specs.{Agreement.accounts_of, History.IsPrefixOf, Members.has, Restarting.Kept}
use Rattle.dr_log.specs.Standing.{LosesNone, with_entries}
use Rattle.dr_log_bytes.specs.Content.{OnLog, empty_of}
use Rattle.dr_script.specs.declared.script.Script.{Script}
use Rattle.dr_play.specs.Logged.{NoneFull}
use Rattle.dr_served.specs.Served.{AtMember}
use Rattle.dr_yard.specs.Yards.{AllTell, AreEmpty, YardState}
use Rattle.dr_ages.specs.{Ages.{AreAges, IsAgeOf, NamesNobody, opening_of, starts_of}, declared.mode.Mode.Mode}
use Rattle.dr_ages.specs.{Fit.{AreFit, AreInStep}, Lacking.LackedMemory, Passing.{AreKeptSince, AreUntouched, PassOn}}
use Rattle.dr_ages.specs.{Found.AreRoomy, Left.with_logged, Refused.IsRefusal, Tried.AreTried}
use Rattle.dr_ages.specs.Stops.{AreChosenIn, HasMounted, HasStopped, IsBadLogs, IsOfLogs, IsOutside, NamesFaults}
use Rattle.dr_ages.specs.declared.{part.Part.Part, stop.Stop.{Stop, TheVariants.{OutOfMemory, AgesUsedUp}}}

-- each age keeps the one before it, and begins with all that a member of any earlier one knew to be durable
pub record AreKept (script : Script) (part : Part) (ages : List AgeEnd) : Type 0 where
  pub next : (i : ℕ) (a b : AgeEnd) → slice_get ages i ≡ Some a → slice_get ages (i + 1) ≡ Some b
      → Kept (opening_of script part a) (accounts_of a.members) (opening_of script part b)
  pub ever : (i j m : ℕ) (a b : AgeEnd) (e : MemberEnd) → i < j → slice_get ages i ≡ Some a
      → slice_get ages j ≡ Some b → slice_get a.members m ≡ Some e
      → IsPrefixOf (take e.durable e.history) b.start

-- a run over empty disks: its ages count from 0, the first starts with nothing, no log is full, and what ends
-- the run before its last age is want of memory or a disk
pub record IsFreshRun (ages : List AgeEnd) (stop : Option Stop) : Type 0 where
  pub numbered : (i : ℕ) (age : AgeEnd) → slice_get ages i ≡ Some age → age.age ≡ i
  pub first : (age : AgeEnd) → slice_get ages 0 ≡ Some age → age.start ≡ []
  pub roomy : All (λ (age : AgeEnd). NoneFull age.members) ages
  pub stopped : IfSome stop IsOutside

-- a run over fit disks: where none is missing no log is refused, but where no age is left, and unless memory was
-- wanting the disks are fit behind it
pub record IsFitRun (script : Script) (part : Part) (after : YardState) (stop : Option Stop) : Type 0 where
  pub never : NamesNobody script.members part.missing → IfSome stop (λ s. IsBadLogs s → ⊥)
  pub fit : stop ≢ Some OutOfMemory → AreFit script after

-- a run over disks in step: no log is refused, but where no age is left, and unless memory was wanting the disks
-- are in step behind it
pub record IsRunInStep (script : Script) (after : YardState) (stop : Option Stop) : Type 0 where
  pub never : IfSome stop (λ s. IsBadLogs s → ⊥)
  pub in_step : stop ≢ Some OutOfMemory → AreInStep script after

-- a run over disks in step whose logs leave room for it: no log is full, and what ends the run before its last
-- age is want of memory or a disk
pub record IsRoomyRun (ages : List AgeEnd) (stop : Option Stop) : Type 0 where
  pub roomy : All (λ (age : AgeEnd). NoneFull age.members) ages
  pub stopped : IfSome stop IsOutside

-- the run was stopped by this, or by want of memory or a disk
abbrev pub IsStoppedBy : Stop → Option Stop → Type 0
IsStoppedBy due stop = IsSomeAnd stop (λ s. (s ≡ due) ⊎ IsOutside s)

-- For what the logs of a run were refused, over disks that tell. In the first age it is the first thing for
-- which they are refused as they read then. In a later age it is that no age is left, behind age 65,535. And
-- where the logs are to be refused so they are, unless memory was wanting or a disk failed before.
pub record IsRightlyRefused (script : Script) (missing : ℕ) (before : YardState) (ages : List AgeEnd)
    (stop : Option Stop) : Type 0 where
  pub first : ages ≡ [] → IfSome stop (λ s. IsOfLogs s → IsRefusal script missing before s)
  pub due : (s : Stop) → IsRefusal script missing before s → (ages ≡ []) × IsStoppedBy s stop
  pub later : ages ≢ [] → IfSome stop (λ s. IsOfLogs s → s ≡ AgesUsedUp)
  pub used_up : (earlier : List AgeEnd) (age : AgeEnd) → ages ≡ earlier ++ age ∷ [] → stop ≡ Some AgesUsedUp
      → age.age ≡ 65535
  pub no_more : (earlier : List AgeEnd) (age : AgeEnd) → ages ≡ earlier ++ age ∷ [] → age.age ≡ 65535
      → (length ages ≡ script.ages) ⊎ IsStoppedBy AgesUsedUp stop

-- What was on the disks as the first age mounted them, so many of them but for the missing, no crash would have
-- lost at any moment since then, but for entries that one of the starts lacks. All were mounted where that age ran.
pub record IsKeptRun (script : Script) (missing : ℕ) (starts : List (List Entry)) (before after : YardState)
    (ages : List AgeEnd) (stop : Option Stop) : Type 0 where
  pub mounted : ℕ
  pub since : AreKeptSince script.members missing mounted starts before after
  pub all : ages ≢ [] → mounted ≡ script.members
  pub count : ages ≡ [] → IfSome stop (HasMounted script.members missing before after mounted)

-- a log of these entries
abbrev pub with_these : List Entry → OnLog
with_these es = with_entries es (empty_of true)

-- whatever a crash leaves of a disk behind the last of these ages begins with what its member has logged
abbrev pub HaveLogged : ℕ → List AgeEnd → YardState → Type 0
HaveLogged missing ages after = (earlier : List AgeEnd) (age : AgeEnd) (m : ℕ) (e : MemberEnd)
    → ages ≡ earlier ++ age ∷ [] → slice_get age.members m ≡ Some e → has missing m ≡ false
    → IsLeft (after.told m) (LosesNone (with_these (take e.logged e.history)))

-- and has its votes: all that stood on the log of the member where this age, which ended over such disks, has ended
abbrev pub HaveEndedWith : Script → Part → Mode → List AgeEnd → YardState → YardState → Type 0
HaveEndedWith script part mode ages last after = (earlier : List AgeEnd) (age : AgeEnd) (nth : ℕ)
    (before : YardState) → ages ≡ earlier ++ age ∷ []
    → (is : IsAgeOf script part mode nth before last age) → (m : ℕ)
    → AtMember is.played.over m (λ r. IsLeft (after.told m) (LosesNone (with_logged (is.begun m) r.replica)))

-- so many ages ran as the script asks for, or fewer, and this is why the next one was not opened, by which no
-- disk has lost anything but entries that the start lacks which was chosen then, if one was, and only the one that
-- is named has failed
abbrev pub HasFinished : Script → Part → YardState → YardState → List (List Entry) → List AgeEnd → Option Stop
    → Type 0
HasFinished script part last after chosen ages None =
    (length ages ≡ script.ages) × (last ≡ after) × (chosen ≡ [])
HasFinished script part last after chosen ages (Some stop) =
    (length ages < script.ages) × HasStopped script part last after stop
    × AreChosenIn script part.missing last chosen × PassOn chosen last after × NamesFaults stop last after

-- these are the ages of a run of the script in this mode, over disks that were so before it and are so behind
-- it, but for those of the missing, and this is why it ended before its last age, if it did
pub record IsRunOf (script : Script) (part : Part) (mode : Mode) (before after : YardState) (ages : List AgeEnd)
    (stop : Option Stop) : Type 0 where
  pub last : YardState
  pub course : AreAges script part mode 0 before ages last
  -- the entries of the start that was chosen of what was found behind the last age, where one was
  pub chosen : List (List Entry)
  pub finish : HasFinished script part last after chosen ages stop
  -- where memory was wanting, how far that opening had come
  pub lacked : stop ≡ Some OutOfMemory → LackedMemory script part mode last after
  -- whatever ended it, no disk has lost anything but entries that one of the starts lacks, and those of the missing
  -- are as they were
  pub passes : PassOn (starts_of ages ++ chosen) before after
  pub untouched : AreUntouched part.missing before after
  -- over disks that tell, nothing durable is ever lost, and what an age leaves is never refused
  pub kept : AllTell script.members before → AreKept script part ages
  pub never : AllTell script.members before → ages ≢ [] → IfSome stop (λ s. IsBadLogs s → ⊥)
  pub fresh : NamesNobody script.members part.missing → AreEmpty script.members before → IsFreshRun ages stop
  -- what was found on the disks, and what was logged in the last age, is kept
  pub since : IsKeptRun script part.missing (starts_of ages ++ chosen) before after ages stop
  pub logged : AllTell script.members before → HaveLogged part.missing ages after
  pub voted : AllTell script.members before → HaveEndedWith script part mode ages last after
  -- unless memory was wanting, what the opening that ended it has left on the disks is as before, or a try
  pub tried : AllTell script.members before
      → IfSome stop (λ s. s ≢ OutOfMemory → AreTried script part.missing last after)
  -- fit disks stay fit, and those in step stay so, where none is missing
  pub fit : AreFit script before → IsFitRun script part after stop
  pub in_step : NamesNobody script.members part.missing → AreInStep script before → IsRunInStep script after stop
  -- all their ages are opened, where the logs leave room for them, unless memory is wanting or a disk fails
  pub roomy : NamesNobody script.members part.missing → AreInStep script before → AreRoomy script before
      → IsRoomyRun ages stop
  -- and logs are refused for what is wrong with them, and for nothing else
  pub refused : AllTell script.members before → IsRightlyRefused script part.missing before ages stop
