-- Yards that tell the same, and yards of fewer disks.
use Rattle.std.proofs.Common.{◌≡◌, ℕ, ◌≤◌, arith}
use Rattle.dr_yard.specs.Yards.{YardState, AllTell}

-- yards that tell the same are in one state
pub same_yard : (one other : YardState) → ((m : ℕ) → one.told m ≡ other.told m)
    → ((m : ℕ) → one.faults m ≡ other.faults m) → one ≡ other
same_yard one other told faults = λ i. record { told = λ m. told m i; faults = λ m. faults m i }

pub fewer_tell : (m n : ℕ) (yard : YardState) → m ≤ n → AllTell n yard → AllTell m yard
fewer_tell m n yard few tell k l = tell k (omega (arith, few, l))
