-- What may come next, by cases.
use Rattle.std.specs.Prelude.{Option, option_and_then}
use Rattle.std.proofs.Common.{◌≡◌, ◌⊎◌, inl, inr, refl, sym, ap, ◌∙◌, ℕ, ◌+◌, ◌-◌, ◌<◌, ◌≤◌, ◌==◌, ◌&&◌, arith, nat_lt, nat_le, Bool, true, false, List, [], ◌∷◌, ◌++◌, None, Some}
use Rattle.std.proofs.lemmas.{Bool.{and_parts, eqb-true}, Option.{cond_some, none-some}}
use Rattle.dr_check.specs.Course.{course_after, next_course, age_course, entry_course, member_course}
use Rattle.dr_check.specs.declared.{course.Course.Course, line.Line.{Line, TheVariants.{Present, Absent}}}

-- an entry is to come
pub next_left : (members : ℕ) (c : Course) (l : Line) → c.ended ≡ false → 0 < c.left
    → next_course members c l ≡ entry_course c l
next_left members c l goes some =
    let more : nat_lt 0 c.left ≡ true = grind (arith, some) in rw (goes, more) refl

-- a member is
pub next_member : (members : ℕ) (c : Course) (l : Line) → c.ended ≡ false → c.left ≡ 0 → c.member < members
    → next_course members c l ≡ member_course c l
next_member members c l goes none less =
    let no : nat_lt 0 c.left ≡ false = grind (arith, none) in
    let more : nat_lt c.member members ≡ true = grind (arith, less) in rw (goes, no, more) refl

-- an age or the last line is
pub next_age : (members : ℕ) (c : Course) (l : Line) → c.ended ≡ false → c.left ≡ 0 → members ≤ c.member
    → next_course members c l ≡ age_course c l
next_age members c l goes none all =
    let no : nat_lt 0 c.left ≡ false = grind (arith, none) in
    let more : nat_lt c.member members ≡ false = grind (arith, all) in rw (goes, no, more) refl

-- which of them it was, where the line may come
abbrev pub Comes : ℕ → Course → Line → Course → Type 0
Comes members c l d = ((0 < c.left) × (entry_course c l ≡ Some d)) ⊎ ((c.left ≡ 0)
    × (((c.member < members) × (member_course c l ≡ Some d)) ⊎ ((members ≤ c.member) × (age_course c l ≡ Some d))))

pub next_comes : (members : ℕ) (c d : Course) (l : Line) → next_course members c l ≡ Some d
    → (c.ended ≡ false) × Comes members c l d
next_comes members c d l is = by c.ended refl
  where
    apart : (0 < c.left) ⊎ (c.left ≡ 0)
    apart = grind arith

    split : (c.member < members) ⊎ (members ≤ c.member)
    split = grind arith

    at_member : c.ended ≡ false → c.left ≡ 0 → (c.member < members) ⊎ (members ≤ c.member) → Comes members c l d
    at_member goes none (inl less) = inr (none, inl (less, sym (next_member members c l goes none less) ∙ is))
    at_member goes none (inr all) = inr (none, inr (all, sym (next_age members c l goes none all) ∙ is))

    at_left : c.ended ≡ false → (0 < c.left) ⊎ (c.left ≡ 0) → Comes members c l d
    at_left goes (inl some) = inl (some, sym (next_left members c l goes some) ∙ is)
    at_left goes (inr none) = at_member goes none split

    by : (b : Bool) → c.ended ≡ b → (c.ended ≡ false) × Comes members c l d
    by true ended =
        let stuck : next_course members c l ≡ None = rw ended refl in absurd (none-some d (sym stuck ∙ is))
    by false goes = (goes, at_left goes apart)

-- a member that comes is the next one, and has no fewer entries than the start
pub member_comes : (c d : Course) (member history logged durable : ℕ)
    → member_course c (Present member history logged durable) ≡ Some d → (member ≡ c.member) × (c.start ≤ history)
    × (record c { left = history - c.start; member = c.member + 1 } ≡ d)
member_comes c d member history logged durable is =
    let found = cond_some ((member == c.member) && nat_le c.start history)
    (record c { left = history - c.start; member = c.member + 1 }) d is in
    let both = and_parts (member == c.member) (nat_le c.start history) found.0 in
    (eqb-true member c.member both.0, grind (arith, both.1), found.1)

pub absent_comes : (c d : Course) (member : ℕ) → member_course c (Absent member) ≡ Some d
    → (member ≡ c.member) × (record c { member = c.member + 1 } ≡ d)
absent_comes c d member is =
    let found = cond_some (member == c.member) (record c { member = c.member + 1 }) d is in
    (eqb-true member c.member found.0, found.1)

-- nothing comes behind the last line
pub nothing_more : (members : ℕ) (c d : Course) (ls : List Line) → c.ended ≡ true → course_after members c ls ≡ Some d
    → ls ≡ []
unfolding course_after
nothing_more members c d [] ended is = refl
nothing_more members c d (l ∷ ls) ended is =
    let stuck : next_course members c l ≡ None = rw ended refl in
    let none : course_after members c (l ∷ ls) ≡ None =
    ap (λ o. option_and_then (λ e. course_after members e ls) o) stuck in
    absurd (none-some d (sym none ∙ is))

-- a first line, and what comes of the others
pub after_first : (members : ℕ) (c d : Course) (l : Line) (ls : List Line) → course_after members c (l ∷ ls) ≡ Some d
    → (e : Course) × (next_course members c l ≡ Some e) × (course_after members e ls ≡ Some d)
unfolding course_after
after_first members c d l ls is = by (next_course members c l) refl
  where
    by : (o : Option Course) → next_course members c l ≡ o
        → (e : Course) × (next_course members c l ≡ Some e) × (course_after members e ls ≡ Some d)
    by None none = absurd (none-some d (sym (ap (λ o. option_and_then (λ e. course_after members e ls) o) none) ∙ is))
    by (Some e) some = (e, some, sym (ap (λ o. option_and_then (λ e. course_after members e ls) o) some) ∙ is)

-- and the other way round
pub after_next : (members : ℕ) (c e : Course) (l : Line) (ls : List Line) → next_course members c l ≡ Some e
    → course_after members c (l ∷ ls) ≡ course_after members e ls
unfolding course_after
after_next members c e l ls is = ap (λ o. option_and_then (λ e. course_after members e ls) o) is

-- what comes of lines behind others
pub after_append : (members : ℕ) (c : Course) (xs ys : List Line)
    → course_after members c (xs ++ ys) ≡ option_and_then (λ d. course_after members d ys) (course_after members c xs)
unfolding course_after
after_append members c [] ys = refl
after_append members c (l ∷ xs) ys = by (λ e. after_append members e xs ys) (next_course members c l) refl
  where
    by : ((e : Course) → course_after members e (xs ++ ys) ≡ option_and_then (λ d. course_after members d ys)
        (course_after members e xs)) → (o : Option Course) → next_course members c l ≡ o
        → option_and_then (λ d. course_after members d (xs ++ ys)) (next_course members c l)
        ≡ option_and_then (λ d. course_after members d ys) (option_and_then (λ d. course_after members d xs)
        (next_course members c l))
    by rest None none = rw none refl
    by rest (Some e) some = rw some (rest e)
