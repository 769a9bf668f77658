use Rattle.std.specs.Prelude.{None, Some, Option, IfNone, IsSome}
use Rattle.std.proofs.Common.{◌≡◌, ℕ, zero, suc, ◌^◌, ◌<◌, ◌≤◌, true, false, length, append-nil, ap, refl, arith}
use Rattle.dr_history.specs.Members.{has, members_below, members_of}
use Rattle.dr_rows.specs.Words.{Words, seen}
use Rattle.dr_words.specs.{Columns.recv_column, Form.AllInForm, Packing.recv_count}
use Rattle.dr_trim.specs.Trims.{IsLeastReceived}
use Rattle.dr_trim.proofs.trim.least_count.Goals as goal

-- where nobody is in a mask, it has no members
none_below : (mask n : ℕ) → ((i : ℕ) → has mask i ≡ false) → length (members_below mask n) ≡ 0
unfolding members_below
none_below mask zero nobody = refl
none_below mask (suc n) nobody = rw (nobody n, append-nil) (none_below mask n nobody)

no_members : (mask : ℕ) → ((i : ℕ) → has mask i ≡ false) → length (members_of mask) ≡ 0
unfolding members_of
no_members mask nobody = none_below mask 16 nobody

pub unwrap-word-requires : goal.unwrap-word-requires
unwrap-word-requires c = by c.least_word.result c.least_word.ensures.none
  where
    by : (o : Option ℕ) → IfNone o ((i : ℕ) → has c.args.of i ≡ false) → IsSome o
    by None nobody = absurd (omega (arith, c.requires.some, no_members c.args.of nobody))
    by (Some w) none = refl

-- a recv word has 33 bits
recv_small : (rows : Words) (sender column word i : ℕ) → AllInForm rows.members rows.words
    → sender < rows.members → column ≡ recv_column sender → word ≡ seen rows i column → word < 2 ^ 33
recv_small rows sender column word i form within at same = rw same ((form i column).recv sender within at)

pub unpack_recv-requires : goal.unpack_recv-requires
unpack_recv-requires c =
    let among = rw c.unwrap-word.ensures at c.least_word.ensures.among in
    recv_small c.args.rows.now c.args.sender c.recv_column.result c.unwrap-word.result among.0
    c.requires.shape.form c.requires.sender c.recv_column.ensures.value among.2

-- the least word has the least count
has_least_count : (rows : Words) (of sender column word : ℕ) → column ≡ recv_column sender
    → ((i : ℕ) → has of i ≡ true → word ≤ seen rows i column)
    → (i : ℕ) × (has of i ≡ true) × (word ≡ seen rows i column) → IsLeastReceived rows of sender (recv_count word)
has_least_count rows of sender column word at below among = record {
  least = λ i member. omega (arith, rw at at (below i member));
  found = (among.0, among.1, ap recv_count (rw at at among.2));
}

pub returns : goal.returns
returns c = rw c.unpack_recv.ensures.count
    (has_least_count c.args.rows.now c.args.of c.args.sender c.recv_column.result c.unwrap-word.result
    c.recv_column.ensures.value (rw c.unwrap-word.ensures at c.least_word.ensures.below)
    (rw c.unwrap-word.ensures at c.least_word.ensures.among))
