-- Facts of values of any type.
use Rattle.std.proofs.Common.{refl, [], codes, ◌<◌, arith, ◌↔◌}
use Rattle.std.specs.FinMap as maps
use Rattle.dr_entry.proofs.ListFacts.{by_bytes, EndsFed, IsFed}

-- keys that tie are equal
pub same_key : maps.IsAntisymmetric by_bytes
same_key = maps.slice_cmp-IsAntisymmetric maps.nat_cmp-IsAntisymmetric

pub feed : EndsFed (codes "\n")
feed = ([], refl)

pub last_fed : IsFed (codes "ok\n")
last_fed = (codes "ok", refl, refl)

pub zero_fits : 0 < 256
zero_fits = omega arith

pub with_nothing : {T C : Type 0} → (T ↔ C) → T ↔ (C × Unit {0})
with_nothing same = (λ t. (same.0 t, tt), λ c. same.1 c.0)

pub with_letter : {T C : Type 0} → (T ↔ C) → (T × Unit {0}) ↔ C
with_letter same = (λ t. same.0 t.0, λ c. (same.1 c, tt))
