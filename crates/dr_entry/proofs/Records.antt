-- Records of logs, and the values of votes.
use Rattle.std.{specs.Prelude.{⊤}, proofs.lemmas.List.{ext_get_or, Elements.Contains-append_cases}}
use Rattle.std.proofs.Common.{◌+◌, ◌≤◌, length, arith, ◌≡◌, List, [], ◌∷◌, refl, ℕ, ap, ◌∙◌, slice_index, ◌^◌, ◌<◌, true, not, None, Some, Option, is_some, ◌⊎◌, inl, inr, subst, ◌++◌, Contains}
use Rattle.dr_entry.specs.{Spelling.{IsValidEntry, entry_spelling}, declared.entry.Entry.Entry}
use Rattle.dr_entry.specs.{declared.entry.Entry.TheVariants.{View, Msg}, declared.record.AgeVote.AgeVote}
use Rattle.dr_entry.specs.declared.record.{Record.Record, Value.Value, Vote.Vote}
use Rattle.dr_entry.specs.declared.record.Record.TheVariants as records

-- an entry has a short block
pub short_block : (e : Entry) → IsValidEntry e → 1 + length (entry_spelling e) ≤ 72
short_block (View age number members) valid = omega arith
short_block (Msg sender index bytes) valid = omega (arith, valid.1)

pub no_age_votes : (vs : List AgeVote) → length vs ≤ 0 → vs ≡ []
no_age_votes [] none = refl
no_age_votes (v ∷ vs) none = absurd (omega (arith, none))

-- the record is an entry or a vote
abbrev pub IsOrdinary : Record → Type 0
IsOrdinary (records.Entry entry) = ⊤
IsOrdinary (records.Vote vote) = ⊤
IsOrdinary (records.AgeVote vote) = ⊥
IsOrdinary (records.Cut keep) = ⊥
IsOrdinary records.Upgrade = ⊥

abbrev value_with : ℕ → List ℕ → Value
value_with leavers trim = record { leavers = leavers; trim = trim }

-- values with the same leavers and the same trims are one
pub same_value : (u v : Value) → length u.trim ≡ length v.trim → u.leavers ≡ v.leavers
    → ((s : ℕ) → slice_index u.trim s ≡ slice_index v.trim s) → u ≡ v
same_value u v long leavers trims =
    let same : u.trim ≡ v.trim = ext_get_or 0 u.trim v.trim long (λ s l. trims s) in
    ap (λ (l : ℕ). value_with l u.trim) leavers ∙ ap (value_with v.leavers) same

-- accept words of a roster of n can hold the tag and the value
pub record FitsWords (n tag : ℕ) (v : Value) : Type 0 where
  pub few : n ≤ 16
  pub ballot : tag ≤ n
  pub leavers : v.leavers < 2 ^ n
  pub trims : (s : ℕ) → slice_index v.trim s < 2 ^ 32

-- where no vote waits, none does
pub none_waits : (pending : Option Vote) → not (is_some pending) ≡ true → pending ≡ None
none_waits None e = refl
none_waits (Some x) e = absurd (cc e)

-- a member that is in this view, with what it has committed, has not left a view, or committed a value in it
pub record IsBefore (v view : ℕ) (committed : Option Value) : Type 0 where
  pub within : view ≤ v
  pub none : view ≡ v → committed ≡ None

-- none is of a later age
pub none_later : (age : ℕ) (olds own votes : List Vote) → votes ≡ olds ++ own
    → ((x : Vote) → Contains olds x → x.age < age) → ((x : Vote) → Contains own x → x.age ≡ age)
    → (x : Vote) → Contains votes x → x.age ≤ age
none_later age olds own votes is before now x c =
    by (Contains-append_cases olds own x (subst (λ l. Contains l x) is c))
  where
    by : Contains olds x ⊎ Contains own x → x.age ≤ age
    by (inl h) = omega (arith, before x h)
    by (inr h) = omega (arith, now x h)
