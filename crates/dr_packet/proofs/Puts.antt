-- Bytes that are put one behind the other.
use Rattle.std.specs.Int.{to_be_bytes, w64}
use Rattle.std.proofs.Common.{◌≡◌, ◌∙◌, ap, sym, ℕ, List, ◌++◌, append_assoc, take}
use Rattle.sha2.specs.Sha256.{sha256}
use Rattle.dr_packet.specs.{Packets.{body, summed}, declared.Says.Says}
use Rattle.dr_packet.specs.declared.Says.TheVariants as say

-- two numbers
pub asked : (whole at : ℕ) (old a b x y : List ℕ) → a ≡ to_be_bytes w64 whole → b ≡ to_be_bytes w64 at
    → x ≡ old ++ a → y ≡ x ++ b → y ≡ old ++ body (say.Ask whole at)
asked whole at old a b x y ea eb ex ey = ey ∙ ap (λ (l : List ℕ). l ++ b) ex ∙ append_assoc old a b
    ∙ ap (λ (l : List ℕ). old ++ (l ++ b)) ea ∙ ap (λ (l : List ℕ). old ++ (to_be_bytes w64 whole ++ l)) eb

-- and bytes behind them
pub handed : (whole at : ℕ) (bytes old a b x y z : List ℕ) → a ≡ to_be_bytes w64 whole
    → b ≡ to_be_bytes w64 at → x ≡ old ++ a → y ≡ x ++ b → z ≡ y ++ bytes
    → z ≡ old ++ (body (say.Ask whole at) ++ bytes)
handed whole at bytes old a b x y z ea eb ex ey ez =
    ez ∙ ap (λ (l : List ℕ). l ++ bytes) (asked whole at old a b x y ea eb ex ey)
    ∙ append_assoc old (body (say.Ask whole at)) bytes

-- what was said is what it is
pub said : (old y : List ℕ) (says other : Says) → says ≡ other → y ≡ old ++ body other → y ≡ old ++ body says
said old y says other is e = e ∙ ap (λ (s : Says). old ++ body s) (sym is)

-- and the digest behind all
pub with_sum : (h b x0 x y s slice : List ℕ) → x0 ≡ h → x ≡ x0 ++ b → slice ≡ x → s ≡ take 8 (sha256 slice) → y ≡ x ++ s
    → y ≡ summed (h ++ b)
with_sum h b x0 x y s slice e0 ex el es ey =
    ey ∙ ap (λ (l : List ℕ). x ++ l) (es ∙ ap (λ (l : List ℕ). take 8 (sha256 l)) el)
    ∙ ap summed (ex ∙ ap (λ (l : List ℕ). l ++ b) e0)
