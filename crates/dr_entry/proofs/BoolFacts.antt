-- Facts of tests, by their answers.
use Rattle.std.specs.{Ordering.{is_eq, is_lt}, Prelude.{◌&&◌, ◌||◌}, declared.cmp.Ordering.Ordering}
use Rattle.std.specs.declared.cmp.Ordering.TheVariants.{Less, Equal, Greater}
use Rattle.std.proofs.Common.{◌≡◌, Bool, true, false, Decides, refl, ◌⊎◌, inl, inr, T, cond, subst, sym, ◌∙◌, not, if◌then◌else◌, ap, ◌≤◌, arith, ◌<◌, true≢false, ◌+◌, ◌*◌, ◌-◌}
use Rattle.dr_entry.proofs.NumberFacts.{phase, one}

-- where an answer decides a fact, the fact decides it
pub refuted : {P : Type 0} (r : Bool) → Decides r P → r ≡ false → P → ⊥
refuted r is not p = let given : r ≡ true = is.1 p in absurd (cc)

pub both : (a b : Bool) → (a && b) ≡ true → (a ≡ true) × (b ≡ true)
both true b is = (refl, is)
both false b is = absurd cc

pub either : (a b : Bool) → (a || b) ≡ true → (a ≡ true) ⊎ (b ≡ true)
either true b is = inl refl
either false b is = inr is

pub both_true : (a b : Bool) → a && b ≡ true → (a ≡ true) × (b ≡ true)
both_true true b e = (refl, e)
both_true false b e = absurd (cc e)

pub and_true : (b : Bool) → b && true ≡ b
and_true true = refl
and_true false = refl

pub first : (a b : Bool) → a && b ≡ true → a ≡ true
first true b e = refl
first false b e = e

pub second : (a b : Bool) → a && b ≡ true → b ≡ true
second true b e = e
second false b e = absurd (cc e)

pub not_equal : (r : Ordering) → is_lt r ≡ true → is_eq r ≡ false
not_equal Less e = refl
not_equal Equal e = absurd (cc e)
not_equal Greater e = refl

pub true_of : (b : Bool) → T b → b ≡ true
true_of true h = refl
true_of false h = absurd h

-- a choice of two alike
pub alike : {A : Type 0} (b : Bool) (x : A) → cond b x x ≡ x
alike true x = refl
alike false x = refl

pub holds : {b : Bool} → b ≡ true → T b
holds e = subst T (sym e) tt

pub equal : (r : Ordering) → is_eq r ≡ true → r ≡ Equal
equal Less e = absurd (cc e)
equal Equal e = refl
equal Greater e = absurd (cc e)

-- a test that is repeated
pub shadowed : {A : Type 0} (b : Bool) (x y z : A) → cond b x z ≡ cond b x (cond b y z)
shadowed true x y z = refl
shadowed false x y z = refl

-- two tests of which at most one passes
pub swapped : {A : Type 0} (a b : Bool) (x y z : A) → (a ≡ true → b ≡ true → ⊥)
    → cond a x (cond b y z) ≡ cond b y (cond a x z)
swapped true true x y z apart = absurd (apart refl refl)
swapped true false x y z apart = refl
swapped false b x y z apart = refl

-- `x && y`: where the first test fails the second isn't made, and the answer is the first's
pub both_decide : {P Q : Type 0} (x answer : Bool) → Decides x P
    → ((x ≡ true) × Decides answer Q) ⊎ ((x ≡ false) × (answer ≡ x)) → Decides answer (P × Q)
both_decide x answer is (inl made) = (λ t. (is.0 made.0, made.1.0 t), λ p. made.1.1 p.1)
both_decide x answer is (inr skipped) = (
  λ t. let yes_first : x ≡ true = sym skipped.1 ∙ t in
      absurd (cc (yes_first, skipped.0)),
  λ p. skipped.1 ∙ is.1 p.0,
)

-- an answer that is another's decides what that decides
pub same_decides : {P : Type 0} (answer other : Bool) → answer ≡ other → Decides other P → Decides answer P
same_decides answer other same is = (λ t. is.0 (sym same ∙ t), λ p. same ∙ is.1 p)

-- what fails where it doesn't hold
pub not_so : (b : Bool) → not b ≡ true → b ≡ false
not_so false is = refl
not_so true is = absurd (cc is)

pub or_false : (b : Bool) → (b || false) ≡ b
or_false true = refl
or_false false = refl

pub and_false : (b : Bool) → (b && false) ≡ false
and_false true = refl
and_false false = refl

pub same_test : (a b : Bool) → (a ≡ true → b ≡ true) → (b ≡ true → a ≡ true) → a ≡ b
same_test true b to back = sym (to refl)
same_test false true to back = back refl
same_test false false to back = refl

-- a member that a row names, which is inside and unnamed, or outside, unnamed and new, may be named next
pub naming : (named member me suspected late new : Bool) → ((named && (member && (not me && not suspected)))
    || ((named && ((late && not member) && (not me && not suspected))) && new))
    ≡ (named && (not me && ((member || (late && new)) && not suspected)))
naming false member me suspected late new = refl
naming true true true suspected true new = refl
naming true true true suspected false new = refl
naming true true false true true new = refl
naming true true false true false new = refl
naming true true false false true new = refl
naming true true false false false new = refl
naming true false true suspected true new = refl
naming true false true suspected false new = refl
naming true false false true true true = refl
naming true false false true true false = refl
naming true false false true false new = refl
naming true false false false true true = refl
naming true false false false true false = refl
naming true false false false false new = refl

pub one_or_other : (a b : Bool) → b ≡ true → (a || (b && not a)) ≡ true
one_or_other true b e = refl
one_or_other false true e = refl
one_or_other false false e = absurd (cc e)

-- whatever the test, the same
pub both_same : {X : Type 0} (b : Bool) (x : X) → ◌≡◌ {A = X} (if b then x else x) x
both_same true x = refl
both_same false x = refl

-- a test that isn't passed
pub untrue : (b : Bool) → (b ≡ true → ⊥) → b ≡ false
untrue true never = absurd (never refl)
untrue false never = refl

-- where a vote is due, it may vote for the value that is due alone
pub all_true : (a b c d x : Bool) → a ≡ true → b ≡ true → c ≡ true → d ≡ true → (a && (b && (c && (d && x)))) ≡ x
all_true a b c d x p q r s = rw (p, q, r, s) refl

-- who came into the view and has no letter yet, test by test
pub newcomer_test : (here before given new : Bool) → new ≡ (here && not before)
    → (new && not given) ≡ (here && (not before && not given))
newcomer_test true before given new e = ap (λ b. b && not given) e
newcomer_test false before given new e = ap (λ b. b && not given) e

-- there is something to do at a look that is allowed
pub together : (a b : Bool) → a ≡ true → b ≡ true → (a && b) ≡ true
together true b d e = e
together false b d e = absurd (cc d)

pub or_no : (a : Bool) → a ≡ (a || false)
or_no true = refl
or_no false = refl

pub first_out : (a x : Bool) → a ≡ false → false ≡ (a && x)
first_out true x e = absurd (cc e)
first_out false x e = refl

-- who is no newcomer gets none
pub no_letter : (n w here before given : Bool) → (here && not before) ≡ false
    → (n && (w && (here && (not before && not given)))) ≡ false
no_letter false w here before given e = refl
no_letter true false here before given e = refl
no_letter true true false before given e = refl
no_letter true true true before given e = ap (λ b. b && not given) e

pub all_three : (a b d : Bool) → a ≡ true → b ≡ true → d ≡ true → (a && (b && d)) ≡ true
all_three true true d e f h = h
all_three false b d e f h = absurd (cc)
all_three true false d e f h = absurd (cc)

-- the pushes to a member of words that are unchanged
pub neither : (a b d : Bool) → b ≡ false → ((a && b) && d) ≡ false
neither true b d e = ap (λ x. x && d) e
neither false b d e = refl

pub not_both : (a b : Bool) → not (a && b) ≡ true → a ≡ true → b ≡ true → ⊥
not_both true true e f h = cc e
not_both false b e f h = cc f
not_both true false e f h = cc h

pub order : (w t o b i : Bool) → (o ≡ true → b ≡ i) → ((w && (t && o)) && b) ≡ (w && (o && (i && t)))
order false t o b i e = refl
order true true true b true e = e refl
order true true true b false e = e refl
order true false true b true e = refl
order true false true b false e = refl
order true true false b i e = refl
order true false false b i e = refl

-- of three tests that pass, each does
pub calm_parts : (a b d : Bool) → (not a && (not b && not d)) ≡ true → (a ≡ false) × ((b ≡ false) × (d ≡ false))
calm_parts false false false e = (refl, (refl, refl))
calm_parts true b d e = absurd (cc e)
calm_parts false true d e = absurd (cc e)
calm_parts false false true e = absurd (cc e)

-- where the first of two tests fails, they do
pub first_fails : (a b : Bool) → a ≡ false → (a && b) ≡ false
first_fails a b e = ap (λ x. x && b) e

-- and where the second does
pub second_fails : (a b : Bool) → b ≡ false → (a && b) ≡ false
second_fails true b e = e
second_fails false b e = refl

pub phase_few : (named now : Bool) → phase named now ≤ 2
unfolding phase
phase_few false now = let e : 0 ≤ 2 = omega arith in e
phase_few true true = let e : 1 ≤ 2 = omega arith in e
phase_few true false = let e : 2 ≤ 2 = omega arith in e

-- one view on it is as far, or farther where it comes or goes
pub further : (named was now : Bool) → (was ≡ true → named ≡ true) → (now ≡ true → (was ≡ true) ⊎ (named ≡ false))
    → (phase named was ≤ phase (now || named) now) × ((now ≡ was) ⊎ (phase named was < phase (now || named) now))
unfolding phase
further false true now holds comes = absurd (true≢false (sym (holds refl)))
further false false false holds comes = let e : 0 ≤ 0 = omega arith in (e, inl refl)
further false false true holds comes = let e : 0 < 1 = omega arith in let f : 0 ≤ 1 = omega arith in (f, inr e)
further true true true holds comes = let e : 1 ≤ 1 = omega arith in (e, inl refl)
further true true false holds comes = let e : 1 < 2 = omega arith in let f : 1 ≤ 2 = omega arith in (f, inr e)
further true false false holds comes = let e : 2 ≤ 2 = omega arith in (e, inl refl)
further true false true holds comes = by (comes refl)
  where
    by : (false ≡ true) ⊎ (true ≡ false)
        → (phase true false ≤ phase true true) × ((true ≡ false) ⊎ (phase true false < phase true true))
    by (inl e) = absurd (true≢false (sym e))
    by (inr e) = absurd (true≢false e)

-- a member that isn't named stays
pub stays_in : (a b : Bool) → a ≡ true → b ≡ false → (if b then not a else a) ≡ true
stays_in a b e d = rw (e, d) refl

-- a test that holds where another does holds there
pub implied : (a b : Bool) → (not a || b) ≡ true → a ≡ true → b ≡ true
implied true b t e = t
implied false b t e = absurd (cc e)

-- a vote that waits is acted on at the next place where it isn't at this one
pub other_ballot : (b : Bool) → b ≡ false → not b ≡ true
other_ballot true e = absurd (cc e)
other_ballot false e = refl

pub tested : (inside test : Bool) → inside ≡ true → (inside && test) ≡ false → test ≡ false
tested true test is e = e
tested false test is e = absurd (cc is)

-- where one or the other fails, the other fails
pub idle : (a b : Bool) → (a || b) ≡ false → b ≡ false
idle true b e = absurd (cc)
idle false b e = e

-- the search stops where there is something to do
pub stops_due : (a b : Bool) → b ≡ true → (a || b) ≡ true
stops_due true b e = refl
stops_due false b e = e

pub stays_out : (a b : Bool) → a ≡ not b → b ≡ true → a ≡ false
stays_out a b e h = rw (e, h) refl

pub named_or : (a b : Bool) → (if b then not a else a) ≡ true → ((a ≡ true) × (b ≡ false)) ⊎ ((a ≡ false) × (b ≡ true))
named_or true true e = absurd (cc e)
named_or true false e = inl (refl, refl)
named_or false true e = inr (refl, refl)
named_or false false e = absurd (cc e)

pub no-more : (a b q : Bool) → (a ≡ true → (b ≡ true) ⊎ (q ≡ true)) → one a + 2 * one (q && not a) ≤ one b + 2 * one q
no-more true true q came = grind arith
no-more true false true came = omega arith
no-more true false false came = by (came refl)
  where
    by : (false ≡ true) ⊎ (false ≡ true) → one true + 2 * one (false && not true) ≤ one false + 2 * one false
    by (inl e) = absurd (cc e)
    by (inr e) = absurd (cc e)
no-more false true true came = omega arith
no-more false true false came = omega arith
no-more false false true came = omega arith
no-more false false false came = omega arith

pub leaves-less : (q : Bool) → one false + 2 * one (q && not false) < one true + 2 * one q
leaves-less true = omega arith
leaves-less false = omega arith

pub early-or-late : (a b c : Bool) → (a ≡ true → b ≡ true) → (b ≡ true → c ≡ true) → one a + one (b && not a) ≤ one c
early-or-late true true true part within = omega arith
early-or-late true true false part within = absurd (cc (within refl))
early-or-late true false c part within = absurd (cc (part refl))
early-or-late false true true part within = omega arith
early-or-late false true false part within = absurd (cc (within refl))
early-or-late false false true part within = omega arith
early-or-late false false false part within = omega arith

-- who doesn't leave is of those that stay
pub kept_in : (a b : Bool) → a ≡ not b → a ≡ false → b ≡ true
kept_in a true e f = refl
kept_in a false e f = absurd (cc (e, f))

-- where the step may be taken, and the row is another's, only an unchanged word is passed
pub passed_push : (a b t : Bool) → ((a && b) && t) ≡ false → a ≡ true → t ≡ true → b ≡ false
passed_push true false true e x y = refl
passed_push true true true e x y = absurd (cc)
passed_push true b false e x y = absurd (cc)
passed_push false b t e x y = absurd (cc)
