-- Plans and cards.
use Rattle.std.specs.Prelude.{◌≡◌, ◌≢◌, ℕ, List, [], ◌∷◌, ◌++◌, length, take, drop, slice_index}
use Rattle.dr_script.specs.{Ranges.HasRanges, Reading.{Reads, reading_of}, declared.script.Script.Script}
use Rattle.dr_door.specs.Begun.{IsScriptFault}
use Rattle.dr_packet.specs.Packets.{IsSummed}
use Rattle.sha2.specs.Sha256.{sha256}
use Rattle.dr_seat.specs.declared.plan.PlanFault.{PlanFault}
use Rattle.dr_seat.specs.declared.plan.PlanFault.TheVariants as plans

-- what a group is to do, and the digest of the text that says so
pub record PlanOf : Type 0 where
  pub script : Script
  pub digest : List ℕ

-- the plan is that of this text: a script without planned faults
pub record IsPlanOf (bytes : List ℕ) (plan : PlanOf) : Type 0 where
  pub reads : reading_of bytes ≡ Reads plan.script
  pub ranges : HasRanges plan.script
  pub faultless : plan.script.faults ≡ []
  pub digest : plan.digest ≡ sha256 bytes

-- why the bytes are no plan: they are no script, or one with planned faults
abbrev pub IsPlanFault : List ℕ → PlanFault → Type 0
IsPlanFault bytes (plans.Script fault) = IsScriptFault bytes fault
IsPlanFault bytes plans.TestPlan =
    (script : Script) × (reading_of bytes ≡ Reads script) × (script.faults ≢ [])

-- by these a card begins: the letters DERCARD1
abbrev pub card_magic : List ℕ
card_magic = 68 ∷ 69 ∷ 82 ∷ 67 ∷ 65 ∷ 82 ∷ 68 ∷ 49 ∷ []

-- what stands on the card of a member before its digest
abbrev pub card_front : List ℕ → List ℕ → ℕ → List ℕ
card_front group digest me = card_magic ++ (group ++ (digest ++ me ∷ []))

-- the card
abbrev pub card_of : List ℕ → List ℕ → ℕ → List ℕ
card_of group digest me = card_front group digest me ++ take 8 (sha256 (card_front group digest me))

-- the log beside a card that is new: the letters DERLOG02, and two zeros
abbrev pub new_log : List ℕ
new_log = 68 ∷ 69 ∷ 82 ∷ 76 ∷ 79 ∷ 71 ∷ 48 ∷ 50 ∷ 0 ∷ 0 ∷ []

-- the bytes are the card of this group, this digest of a plan, and this member
pub record IsCardOf (bytes group digest : List ℕ) (me : ℕ) : Type 0 where
  pub group_long : length group ≡ 16
  pub digest_long : length digest ≡ 32
  pub is : bytes ≡ card_of group digest me

-- they are as long as a card, begin as one, and end with the digest of all before
pub record HasCardForm (bytes : List ℕ) : Type 0 where
  pub long : length bytes ≡ 65
  pub begins : take 8 bytes ≡ card_magic
  pub summed : IsSummed bytes

-- where a card has its group, the digest of its plan, and its member
abbrev pub group_on : List ℕ → List ℕ
group_on bytes = take 16 (drop 8 bytes)

abbrev pub digest_on : List ℕ → List ℕ
digest_on bytes = take 32 (drop 24 bytes)

abbrev pub member_on : List ℕ → ℕ
member_on bytes = slice_index bytes 56
