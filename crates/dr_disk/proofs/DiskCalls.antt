-- Calls of a disk that come one behind another, and where they stop.
use Rattle.std.{specs.Prelude.is_some, proofs.lemmas.List.length-take-le}
use Rattle.std.proofs.Common.{◌≡◌, ℕ, ◌+◌, ◌-◌, ◌≤◌, List, ◌++◌, length, take, drop, sym, ap, ◌∙◌, append_assoc, arith, length-append, take_at, drop_at, drop-drop, min, max, Option, Some, None, IfSome, refl}
use Rattle.dr_disk.specs.{Calls.{written, Write, at_rest, step, State}, Disk.{Told, content_of}}
use Rattle.dr_disk.specs.Images.{AllImages, Goes}

written_on : (old x y : List ℕ) (p : ℕ) → p ≤ length old
    → written (written old p x) (p + length x) y ≡ written old p (x ++ y)
written_on old x y p inside =
    let front = take p old ++ x in
    let rest = drop (p + length x) old in
    let long : length front ≡ p + length x = length-append (take p old) x
    ∙ ap (λ (n : ℕ). n + length x) (length-take-le p old inside) in
    let is : written old p x ≡ front ++ rest = sym (append_assoc (take p old) x rest) in
    let skip : drop (p + length x + length y) (front ++ rest) ≡ drop (p + length (x ++ y)) old =
    sym (drop-drop (length y) (p + length x) (front ++ rest))
    ∙ ap (drop (length y)) (drop_at front rest (p + length x) long) ∙ drop-drop (length y) (p + length x) old
    ∙ ap (λ (n : ℕ). drop n old) (omega (arith, length-append x y)) in
    ap (λ (l : List ℕ). take (p + length x) l ++ (y ++ drop (p + length x + length y) l)) is ∙ ap (λ (l : List ℕ). l
    ++ (y ++ drop (p + length x + length y) (front ++ rest))) (take_at front rest (p + length x) long)
    ∙ ap (λ (l : List ℕ). front ++ (y ++ l)) skip ∙ append_assoc (take p old) x (y ++ drop (p + length (x ++ y)) old)
    ∙ ap (λ (l : List ℕ). take p old ++ l) (sym (append_assoc x y (drop (p + length (x ++ y)) old)))

pub step_on : (old x y : List ℕ) (p : ℕ) → p ≤ length old
    → step (step (at_rest old) (Write p x)) (Write (p + length x) y) ≡ step (at_rest old) (Write p (x ++ y))
step_on old x y p inside =
    let content = written_on old x y p inside in
    let both = length-append x y in
    let first : min (min (length old) p) (p + length x) ≡ min (length old) p = omega arith in
    let behind : max (max 0 (p + length x)) (p + length x + length y) ≡ max 0 (p + length (x ++ y)) =
    omega (arith, both) in
    let greatest : max (max (length old) (p + length x)) (p + length x + length y)
    ≡ max (length old) (p + length (x ++ y)) = omega (arith, both) in
    λ i. record { content = content i; first = first i; behind = behind i; least = length old; greatest = greatest i }

-- a disk that reaches far reaches less far
pub reaches_less : (told : Option Told) (far at : ℕ) → at ≤ far
    → IfSome told (λ t. far ≤ length (content_of t)) → IfSome told (λ t. at ≤ length (content_of t))
reaches_less None far at less reaches = tt
reaches_less (Some told) far at less reaches =
    let long : at ≤ length (content_of told) = omega (arith, less, reaches) in long

abbrev Short : State → Type 0
Short s = AllImages s (λ image. length image ≤ 9)

pub short_state : (s : State) → s.greatest ≤ 9 → Short s
short_state s small image is = omega (arith, small, is.no_longer)

-- what goes so from one moment to another tells at both, or at neither
pub goes_tells : (before after : Option Told) (P : State → List ℕ → Type 0) → Goes before after P
    → is_some before ≡ is_some after
goes_tells None None P goes = refl
goes_tells None (Some t) P goes = absurd goes
goes_tells (Some t) None P goes = absurd goes
goes_tells (Some s) (Some t) P goes = refl
