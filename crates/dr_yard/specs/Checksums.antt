-- The checksum of bytes.
use Rattle.std.specs.declared.hash.FoldHasher.{FoldHasher}
use Rattle.std.specs.Hash.FoldHasher.{finish, initial, write}
use Rattle.std.specs.Int.{to_le_bytes, w64}
use Rattle.std.specs.Prelude.{ℕ, zero, suc, ◌*◌, ◌/◌, List, length, slice_range}

-- a hasher that takes the hash of a piece
unfoldable pub with_piece : FoldHasher → List ℕ → FoldHasher
with_piece hasher piece = write hasher (to_le_bytes w64 (finish (write initial piece)))

-- a hasher that takes bytes so, behind their first pieces of 128
unfoldable pub hashed : {H : Type 0} → (H → List ℕ → H) → H → List ℕ → ℕ → H
hashed takes hasher bytes zero = hasher
hashed takes hasher bytes (suc n) = takes (hashed takes hasher bytes n) (slice_range bytes (n * 128) (suc n * 128))

-- what a hasher comes to behind the whole pieces of bytes, and then the bytes that are left
abbrev pub checksum_from : FoldHasher → List ℕ → ℕ
checksum_from hasher bytes =
    let whole = length bytes / 128 * 128 in
    let front = slice_range bytes 0 whole in
    finish (write (hashed with_piece hasher front (length front / 128)) (slice_range bytes whole (length bytes)))

-- the checksum of bytes
abbrev pub checksum : List ℕ → ℕ
checksum bytes = checksum_from initial bytes
