-- The least push of a turn stands for all crash points of that turn.
use Rattle.std.{specs.{List.list_any, Prelude.{Option, Some, None, is_some}}, proofs.lemmas.Bool.Decides.nat_tests}
use Rattle.std.proofs.Common.{◌≡◌, refl, sym, ap, ◌∙◌, ℕ, ◌≤◌, ◌==◌, ◌&&◌, ◌||◌, min, Bool, true, false, if◌then◌else◌, List, [], ◌∷◌, fold, arith}
use Rattle.dr_entry.proofs.{BoolFacts.or_no, NumberFacts.lesser_is}
use Rattle.dr_program.specs.{Running.{is_at_push, is_in_turn}, declared.setup.CrashPoint.CrashPoint}
use Rattle.dr_machine.specs.Effects.{one_more}
use Rattle.dr_member.specs.{Fate.{IsTimely, is_push_now, lesser, with_point}, declared.fate.Fate.Fate}

-- ---- some point names the turn

in_turn_more : (b : Bool) (first : Option ℕ) (push : ℕ) (rest : Bool)
    → (is_some (if b then Some (lesser first push) else first) || rest) ≡ (is_some first || (b || rest))
in_turn_more true None push rest = refl
in_turn_more true (Some p) push rest = refl
in_turn_more false first push rest = refl

in_turn : (turn : ℕ) (points : List CrashPoint) (first : Option ℕ)
    → is_some (fold (with_point turn) first points) ≡ (is_some first || list_any (is_in_turn turn) points)
in_turn turn [] first = or_no (is_some first)
in_turn turn (c ∷ cs) first = in_turn turn cs (with_point turn first c)
    ∙ in_turn_more (c.turn == turn) first c.push (list_any (is_in_turn turn) cs)

-- a timely fate has a crash in this turn exactly where a crash point names the turn
pub some_in_turn : (fate : Fate) (turn : ℕ) → IsTimely fate turn
    → is_some fate.crash ≡ list_any (is_in_turn turn) fate.crashes
some_in_turn fate turn t = ap is_some t.crash ∙ in_turn turn fate.crashes None

-- ---- some point names the push

-- the push isn't behind what is still to come
abbrev IsAhead : ℕ → Option ℕ → Type 0
IsAhead now first = (push : ℕ) → first ≡ Some push → now ≤ push

ahead_one : (b : Bool) (first : Option ℕ) (push now : ℕ)
    → IsAhead now (if b then Some (lesser first push) else first) → IsAhead now first
ahead_one true None push now a = λ p (e : None ≡ Some p). absurd (cc)
ahead_one true (Some q) push now a = λ p e. omega (arith, a (min q push) refl, same q p e)
  where
    same : (x y : ℕ) → Some x ≡ Some y → x ≡ y
    same x y e = grind (arith, e)
ahead_one false first push now a = a

ahead : (turn now : ℕ) (points : List CrashPoint) (first : Option ℕ)
    → IsAhead now (fold (with_point turn) first points) → IsAhead now first
ahead turn now [] first a = a
ahead turn now (c ∷ cs) first a =
    ahead_one (c.turn == turn) first c.push now (ahead turn now cs (with_point turn first c) a)

at_push_more : (b : Bool) (first : Option ℕ) (push now : ℕ) (rest : Bool)
    → IsAhead now (if b then Some (lesser first push) else first)
    → (is_push_now now (if b then Some (lesser first push) else first) || rest) ≡ (is_push_now now
    first || ((b && (push == now)) || rest))
at_push_more true None push now rest a = refl
at_push_more true (Some p) push now rest a = ap (λ x. x || rest) (lesser_is now p push (a (min p push) refl))
    ∙ grouped (p == now) (push == now) rest
  where
    grouped : (x y z : Bool) → ((x || y) || z) ≡ (x || (y || z))
    grouped true y z = refl
    grouped false y z = refl
at_push_more false first push now rest a = refl

at_push : (turn now : ℕ) (points : List CrashPoint) (first : Option ℕ)
    → IsAhead now (fold (with_point turn) first points)
    → is_push_now now (fold (with_point turn) first points) ≡ (is_push_now now first || list_any
    (is_at_push turn now) points)
at_push turn now [] first a = or_no (is_push_now now first)
at_push turn now (c ∷ cs) first a = at_push turn now cs (with_point turn first c) a
    ∙ at_push_more (c.turn == turn) first c.push now (list_any (is_at_push turn now) cs)
    (ahead turn now cs (with_point turn first c) a)

-- a timely fate crashes at this push exactly where a crash point names turn and push
pub some_at_push : (fate : Fate) (turn : ℕ) → IsTimely fate turn
    → is_push_now fate.pushes fate.crash ≡ list_any (is_at_push turn fate.pushes) fate.crashes
some_at_push fate turn t = ap (is_push_now fate.pushes) t.crash
    ∙ at_push turn fate.pushes fate.crashes None (λ push e. t.ahead push (t.crash ∙ e))

-- what is kept stays timely over a push before which the member doesn't crash
pub timely_push : (fate : Fate) (turn : ℕ) → IsTimely fate turn → is_push_now fate.pushes fate.crash ≡ false
    → IsTimely (record fate { pushes = one_more 32 fate.pushes }) turn
timely_push fate turn t later = record {
  crash = t.crash;
  ahead = λ push e. behind push (t.ahead push e) (ap (is_push_now fate.pushes) (sym e) ∙ later);
}
  where
    behind : (push : ℕ) → fate.pushes ≤ push → (push == fate.pushes) ≡ false → one_more 32 fate.pushes ≤ push
    behind push h e = grind (arith, nat_tests, h, e)
