-- What lines say, from the last one on.
use Rattle.std.proofs.Common.{◌≡◌, refl, ap, ◌∙◌, ℕ, suc, ◌+◌, List, [], ◌∷◌, arith}
use Rattle.dr_check.specs.{Course.{Read, put_line, read_from}, declared.line.Line.Line}

pub read_none : (n : ℕ) → read_from n [] ≡ record { entries = []; members = []; ages = [] }
unfolding read_from
read_none n = refl

-- a line more in front
pub put_front : (n m k : ℕ) (l : Line) (rest : List Line) (t : Read) → n ≡ m → k ≡ m + 1 → t ≡ read_from k rest
    → put_line n l t ≡ read_from m (l ∷ rest)
unfolding read_from
put_front n m k l rest t same next is =
    let e : k ≡ suc m = omega (arith, next) in
    ap (λ (j : ℕ). put_line j l t) same ∙ (ap (put_line m l) (is ∙ ap (λ (j : ℕ). read_from j rest) e))
