-- When a wedged member proposes, accepts and commits the value of a change of its view, by the rows that it
-- has, and which value. n is the number of members of the roster, and the member `me` is one of `members`,
-- the members of its view, of which it suspects `suspects`.
use Rattle.std.specs.Prelude.{◌≡◌, ◌≢◌, ℕ, ◌+◌, ◌<◌, ◌≤◌, ◌==◌, ◌&&◌, ◌⊎◌, true, false, slice_index}
use Rattle.dr_entry.specs.declared.record.Value.{Value}
use Rattle.dr_history.specs.Members.{has}
use Rattle.dr_words.specs.{Accepts.{AllPromise, AllTag, Shown, Shows, promise_of, tag_of}, Columns.recv_column}
use Rattle.dr_words.specs.{Masks.{IsMajorityOf, mask_of, without}, Packing.{is_final, recv_count}}

-- in the rows of these members every count of the senders is final
abbrev pub AllFinal : ℕ → ℕ → Shown → Type 0
AllFinal of senders rows =
    (i s : ℕ) → has of i ≡ true → has senders s ≡ true → is_final (rows i (recv_column s)) ≡ true

-- it may propose where it has not yet proposed by its own ballot, its promise is to itself, and the
-- unsuspected members, more than half of the view, have final counts and in all accept words exactly this
-- promise
pub record MayPropose (n : ℕ) (rows : Shown) (members suspects me : ℕ) : Type 0 where
  pub unproposed : tag_of n rows me ≢ me + 1
  pub promised : promise_of n rows me ≡ me
  pub majority : IsMajorityOf (without members suspects) members
  pub final : AllFinal (without members suspects) members rows
  pub promises : (i : ℕ) → has (without members suspects) i ≡ true → AllPromise n rows members i me

-- none of these members' rows has a tag
abbrev pub IsUntagged : ℕ → Shown → ℕ → Type 0
IsUntagged n rows of = (i : ℕ) → has of i ≡ true → tag_of n rows i ≡ 0

-- of the rows of these members that have a tag the one with the highest, and the least of those
pub record IsHighest (n : ℕ) (rows : Shown) (of i : ℕ) : Type 0 where
  pub member : has of i ≡ true
  pub tagged : 0 < tag_of n rows i
  pub highest : (j : ℕ) → has of j ≡ true → tag_of n rows j ≤ tag_of n rows i
  pub least : (j : ℕ) → has of j ≡ true → tag_of n rows j ≡ tag_of n rows i → i ≤ j

-- how many items of a sender the owner of a row has received
abbrev pub received : Shown → ℕ → ℕ → ℕ
received rows i sender = recv_count (rows i (recv_column sender))

-- the least count of a sender in the rows of these members
pub record IsLeastReceived (rows : Shown) (of sender count : ℕ) : Type 0 where
  pub least : (i : ℕ) → has of i ≡ true → count ≤ received rows i sender
  pub found : (i : ℕ) × (has of i ≡ true) × (count ≡ received rows i sender)

-- the value of a member that sees no proposal: the suspects leave, those that it wishes for come, and of each
-- member of the view as much is delivered as all unsuspected members have received
pub record IsFirstValue (rows : Shown) (members suspects : ℕ) (v : Value) : Type 0 where
  pub leavers : v.leavers ≡ suspects
  pub trims : (s : ℕ) → has members s ≡ true
      → IsLeastReceived rows (without members suspects) s (slice_index v.trim s)
  pub others : (s : ℕ) → has members s ≡ false → slice_index v.trim s ≡ 0

-- the value to propose: the one that the unsuspected row with the highest tag shows, and where none has a
-- tag the member's first value
abbrev pub IsProposal : ℕ → Shown → ℕ → ℕ → Value → Type 0
IsProposal n rows members suspects v =
    ((i : ℕ) × (IsHighest n rows (without members suspects) i) × (Shows n rows members i v))
    ⊎ (IsUntagged n rows (without members suspects) × IsFirstValue rows members suspects v)

-- it may accept where it has promised another, unsuspected member, whose row shows a proposal by its own
-- ballot in all accept words, which this member hasn't accepted yet
pub record MayAccept (n : ℕ) (rows : Shown) (members suspects me : ℕ) : Type 0 where
  pub unaccepted : tag_of n rows me ≢ promise_of n rows me + 1
  pub other : promise_of n rows me ≢ me
  pub unsuspected : has (without members suspects) (promise_of n rows me) ≡ true
  pub whole : AllTag n rows members (promise_of n rows me) (promise_of n rows me + 1)

-- the members of the view, suspected ones too, whose row has this tag
abbrev pub tagged_members : ℕ → Shown → ℕ → ℕ → ℕ
tagged_members n rows members tag = mask_of (λ i. has members i && tag_of n rows i == tag)

-- it may commit where it has a tag, and more than half of the view has the same, itself and those that it
-- suspects among them
pub record MayCommit (n : ℕ) (rows : Shown) (members me : ℕ) : Type 0 where
  pub accepted : tag_of n rows me ≢ 0
  pub majority : IsMajorityOf (tagged_members n rows members (tag_of n rows me)) members
