-- What disks with the bytes of files read as.
use Rattle.std.specs.Prelude.{IsSomeAnd, None, Option, Some, is_some}
use Rattle.std.proofs.Common.{◌≡◌, ◌∙◌, inl, inr, sym, ap, subst, ℕ, ◌<◌, List, not}
use Rattle.dr_ages.specs.declared.stop.Stop.TheVariants as stops
use Rattle.dr_ages.specs.Refused.{AreRead, IsFirstDamaged, IsRefusal}
use Rattle.dr_disk.specs.Disk.{Told, content_of}
use Rattle.dr_history.proofs.Bits.{has_zero}
use Rattle.dr_folder.specs.Foretold.{AreTakenFor, IsBarred, IsForetold, IsRefusedBy, IsTakenFor, file_in}
use Rattle.dr_folder.specs.{Held.{HoldFiles, IsDiskOf}, declared.file.LogFile.LogFile}
use Rattle.dr_folder.specs.declared.file.LogFile.TheVariants.{Missing, Unread, Bytes}
use Rattle.dr_log_bytes.specs.{Content.OnLog, Grammar.{IsDamaged, StandFor}}
use Rattle.dr_opening.specs.Tries.{IsChosenOf}
use Rattle.dr_restart.specs.{Groups.first_group_of, declared.start.Start.Start}
use Rattle.dr_script.specs.declared.script.Script.{Script}
use Rattle.dr_text.specs.declared.last.Last.TheVariants as lasts
use Rattle.dr_yard.specs.Yards.{YardState}

-- a disk reads as the log that its file is taken for
one_read : (file : LogFile) (told : Option Told) (c : OnLog) → IsDiskOf file told → IsTakenFor file c
    → IsSomeAnd told (λ t. StandFor (content_of t) c)
one_read Missing None c disk taken = absurd disk
one_read Missing (Some t) c same taken = subst (λ (l : List ℕ). StandFor l c) (sym same) taken
one_read (Unread why) told c disk taken = absurd taken
one_read (Bytes bytes) None c disk taken = absurd disk
one_read (Bytes bytes) (Some t) c same taken = subst (λ (l : List ℕ). StandFor l c) (sym same) taken

taken_read : (n : ℕ) (files : List LogFile) (yard : YardState) (contents : List (Option OnLog))
    → HoldFiles yard files → AreTakenFor n files contents → AreRead n 0 yard contents
taken_read n files yard contents hold taken = record {
  all = taken.all;
  there = λ m below. taken.there m below ∙ sym (ap not (has_zero m));
  each = λ m c at. one_read (file_in files m) (yard.told m) c (hold m) (taken.each m c at);
}

pub start_read : (script : Script) (files : List LogFile) (yard : YardState) (start : Start) → HoldFiles yard files
    → IsForetold script files start → (contents : List (Option OnLog)) × AreRead script.members 0 yard contents
    × IsChosenOf (first_group_of script).opening contents start × (start.members ≡ start.present)
start_read script files yard start hold is =
    (is.contents, taken_read script.members files yard is.contents hold is.taken, is.starts, is.members)

-- a disk is damaged where its file is
one_damaged : (file : LogFile) (told : Option Told) (member m at : ℕ) → IsDiskOf file told
    → IsRefusedBy file member (lasts.Damaged m at) → (m ≡ member) × IsSomeAnd told (λ t. IsDamaged (content_of t) at)
one_damaged Missing None member m at disk is = absurd disk
one_damaged Missing (Some t) member m at same is = (is.0, subst (λ (l : List ℕ). IsDamaged l at) (sym same) is.1)
one_damaged (Unread why) told member m at disk is = absurd (cc)
one_damaged (Bytes bytes) None member m at disk is = absurd disk
one_damaged (Bytes bytes) (Some t) member m at same is =
    (is.0, subst (λ (l : List ℕ). IsDamaged l at) (sym same) is.1)

pub damaged_read : (script : Script) (files : List LogFile) (yard : YardState) (m at : ℕ)
    → HoldFiles yard files → IsBarred script files (lasts.Damaged m at) → IsRefusal script 0 yard (stops.Damaged m at)
damaged_read script files yard m at hold (inl is) =
    let damaged = one_damaged (file_in files is.member) (yard.told is.member) is.member m at (hold is.member)
    is.stops in
    subst (λ (k : ℕ). IsFirstDamaged script.members 0 yard k at) (sym damaged.0) (record {
      below = is.below;
      there = has_zero is.member;
      damaged = damaged.1;
      contents = is.contents;
      read = taken_read is.member files yard is.contents hold is.before;
    })
damaged_read script files yard m at hold (inr is) = absurd is.2

-- no file is refused for what logs are
no_foreign : (file : LogFile) (member m place : ℕ) → IsRefusedBy file member (lasts.Foreign m place) → ⊥
no_foreign Missing member m place is = is
no_foreign (Unread why) member m place is = absurd (cc)
no_foreign (Bytes bytes) member m place is = is

no_shortage : (file : LogFile) (member : ℕ) (view : Option ℕ) (have need : ℕ)
    → IsRefusedBy file member (lasts.NoQuorum view have need) → ⊥
no_shortage Missing member view have need is = is
no_shortage (Unread why) member view have need is = absurd (cc)
no_shortage (Bytes bytes) member view have need is = is

no_disagreement : (file : LogFile) (member a b place : ℕ) → IsRefusedBy file member (lasts.Disagree a b place) → ⊥
no_disagreement Missing member a b place is = is
no_disagreement (Unread why) member a b place is = absurd (cc)
no_disagreement (Bytes bytes) member a b place is = is

no_last_age : (file : LogFile) (member : ℕ) → IsRefusedBy file member lasts.AgesUsedUp → ⊥
no_last_age Missing member is = is
no_last_age (Unread why) member is = absurd (cc)
no_last_age (Bytes bytes) member is = is

pub foreign_read : (script : Script) (files : List LogFile) (yard : YardState) (m place : ℕ) → HoldFiles yard files
    → IsBarred script files (lasts.Foreign m place) → IsRefusal script 0 yard (stops.Foreign m place)
foreign_read script files yard m place hold (inl is) =
    absurd (no_foreign (file_in files is.member) is.member m place is.stops)
foreign_read script files yard m place hold (inr is) =
    (is.0, taken_read script.members files yard is.0 hold is.1, is.2)

pub short_read : (script : Script) (files : List LogFile) (yard : YardState) (view : Option ℕ) (have need : ℕ)
    → HoldFiles yard files → IsBarred script files (lasts.NoQuorum view have need)
    → IsRefusal script 0 yard (stops.NoQuorum view have need)
short_read script files yard view have need hold (inl is) =
    absurd (no_shortage (file_in files is.member) is.member view have need is.stops)
short_read script files yard view have need hold (inr is) =
    (is.0, taken_read script.members files yard is.0 hold is.1, is.2)

pub disagree_read : (script : Script) (files : List LogFile) (yard : YardState) (a b place : ℕ) → HoldFiles yard files
    → IsBarred script files (lasts.Disagree a b place) → IsRefusal script 0 yard (stops.Disagree a b place)
disagree_read script files yard a b place hold (inl is) =
    absurd (no_disagreement (file_in files is.member) is.member a b place is.stops)
disagree_read script files yard a b place hold (inr is) =
    (is.0, taken_read script.members files yard is.0 hold is.1, is.2)

pub used_up_read : (script : Script) (files : List LogFile) (yard : YardState)
    → HoldFiles yard files → IsBarred script files lasts.AgesUsedUp → IsRefusal script 0 yard stops.AgesUsedUp
used_up_read script files yard hold (inl is) = absurd (no_last_age (file_in files is.member) is.member is.stops)
used_up_read script files yard hold (inr is) = (is.0, taken_read script.members files yard is.0 hold is.1, is.2)
