-- How calls follow one another, and how what is known of each moment goes on.
use Rattle.std.proofs.Common.{◌≡◌, ℕ, List, [], ◌∷◌, ◌++◌, Option, Some, None, IfSome, refl, sym, ap, subst, ◌∙◌, append_assoc, append-nil, ◌-◌, ◌≤◌, length, arith}
use Rattle.dr_disk.specs.Calls.{Call, State, step, run_from, run, Sync}
use Rattle.dr_disk.specs.Disk.{Told, Calls, Now, state_of, after, content_of, added}
use Rattle.dr_disk.specs.Images.{AllImages, During, WentBy, Went, Goes, IsLeft, LastsDuring, LastsBy, LastsFrom, Lasts}

-- calls behind others begin where these end
pub run_from-append : (s : State) (first next : List Call) → run_from s (first ++ next) ≡ run_from
    (run_from s first) next
run_from-append s [] next = refl
run_from-append s (call ∷ first) next = run_from-append (step s call) first next

-- one call more
pub run-added : (calls : List Call) (call : Call) → run (calls ++ call ∷ []) ≡ step (run calls) call
run-added calls call = run_from-append _ calls (call ∷ [])

-- what holds of each moment of some calls and of the next ones holds of all
pub During-append : (s : State) (first next : List Call) (P : List ℕ → Type 0) → During s first P
    → During (run_from s first) next P → During s (first ++ next) P
During-append s [] next P here there = there
During-append s (call ∷ first) next P here there = (here.0, During-append (step s call) first next P here.1 there)

-- what follows from a fact of each moment holds of each moment
pub During-weaken : (s : State) (calls : List Call) (P Q : List ℕ → Type 0)
    → ((image : List ℕ) → P image → Q image) → During s calls P → During s calls Q
During-weaken s [] P Q f here = λ image is. f image (here image is)
During-weaken s (call ∷ calls) P Q f here =
    (λ image is. f image (here.0 image is), During-weaken (step s call) calls P Q f here.1)

-- the last moment is one of them
pub During-last : (s : State) (calls : List Call) (P : List ℕ → Type 0) → During s calls P
    → AllImages (run_from s calls) P
During-last s [] P here = here
During-last s (call ∷ calls) P here = During-last (step s call) calls P here.1

-- ---- what a disk tells

-- after these calls, one after the other
abbrev pub after_all : List Call → Told → Told
after_all [] told = told
after_all (call ∷ calls) told = after_all calls (after call told)

-- what has become of it after one call more
pub state-after : (told : Told) (call : Call) → state_of (after call told) ≡ step (state_of told) call
state-after (Calls calls) call = run-added calls call
state-after (Now s) call = refl

-- and after these calls
pub state-after_all : (told : Told) (calls : List Call) → state_of (after_all calls told)
    ≡ run_from (state_of told) calls
state-after_all told [] = refl
state-after_all told (call ∷ calls) = state-after_all (after call told) calls
    ∙ ap (λ (s : State). run_from s calls) (state-after told call)

calls-after_all : (calls more : List Call) → after_all more (Calls calls) ≡ Calls (calls ++ more)
calls-after_all calls [] = ap Calls (sym (append-nil calls))
calls-after_all calls (call ∷ more) = calls-after_all (calls ++ call ∷ []) more
    ∙ ap Calls (append_assoc calls (call ∷ []) more)

now-after_all : (s : State) (more : List Call) → after_all more (Now s) ≡ Now (run_from s more)
now-after_all s [] = refl
now-after_all s (call ∷ more) = now-after_all (step s call) more

-- what holds of each moment of some calls holds of each that the disk tells
pub went_by : (told : Told) (more : List Call) (P : List ℕ → Type 0) → During (state_of told) more P
    → Went told (after_all more told) P
went_by (Calls calls) more P each = subst (λ (t : Told). Went (Calls calls) t P) (sym (calls-after_all calls more))
    (record { more = more; grown = refl; each = each })
went_by (Now s) more P each =
    subst (λ (t : Told). Went (Now s) t P) (sym (now-after_all s more)) (During-last s more P each)

-- while no call is made, what holds of the present moment holds of each
pub Went-still : (told : Told) (P : List ℕ → Type 0) → AllImages (state_of told) P → Went told told P
Went-still told P here = went_by told [] P here

-- two spans of time are one
WentBy-then : (before mid after : List Call) (P : List ℕ → Type 0) → WentBy before mid P
    → WentBy mid after P → WentBy before after P
WentBy-then before mid after P first next = record {
  more = first.more ++ next.more;
  grown = next.grown ∙ ap (λ (l : List Call). l ++ next.more) first.grown ∙ append_assoc before first.more next.more;
  each = During-append (run before) first.more next.more P first.each (subst (λ (s : State). During s next.more P)
      (ap run first.grown ∙ run_from-append _ before first.more) next.each);
}

pub Went-then : (before mid after : Told) (P : List ℕ → Type 0) → Went before mid P
    → Went mid after P → Went before after P
Went-then (Calls before) (Calls mid) (Calls after) P first next = WentBy-then before mid after P first next
Went-then (Calls before) (Calls mid) (Now after) P first next = absurd next
Went-then (Calls before) (Now mid) after P first next = absurd first
Went-then (Now before) (Calls mid) after P first next = absurd first
Went-then (Now before) (Now mid) (Calls after) P first next = absurd next
Went-then (Now before) (Now mid) (Now after) P first next = next

-- what follows from a fact of each moment holds of each moment
pub Went-weaken : (before after : Told) (P Q : List ℕ → Type 0)
    → ((image : List ℕ) → P image → Q image) → Went before after P → Went before after Q
Went-weaken (Calls before) (Calls after) P Q f went = record {
  more = went.more;
  grown = went.grown;
  each = During-weaken (run before) went.more P Q f went.each;
}
Went-weaken (Calls before) (Now after) P Q f went = absurd went
Went-weaken (Now before) (Calls after) P Q f went = absurd went
Went-weaken (Now before) (Now after) P Q f went = λ image is. f image (went image is)

-- the last moment is one of them
pub Went-last : (before after : Told) (P : List ℕ → Type 0) → Went before after P → AllImages (state_of after) P
Went-last (Calls before) (Calls after) P went = subst (λ (s : State). AllImages s P)
    (sym (ap run went.grown ∙ run_from-append _ before went.more)) (During-last (run before) went.more P went.each)
Went-last (Calls before) (Now after) P went = absurd went
Went-last (Now before) (Calls after) P went = absurd went
Went-last (Now before) (Now after) P went = went

-- The same of disks that may tell. What is known of a span of time may speak of what the disk was before
-- it. What follows from what is known of each of two spans holds of the two as one.
pub goes_on : (before mid after : Option Told) (P Q R : State → List ℕ → Type 0)
    → ((first : Told) (image : List ℕ) → before ≡ Some first → P (state_of first) image → R (state_of first) image)
    → ((first next : Told) (image : List ℕ) → before ≡ Some first → mid ≡ Some next
    → Q (state_of next) image → R (state_of first) image) → Goes before mid P → Goes mid after Q → Goes before after R
goes_on None None None P Q R f h first next = tt
goes_on None None (Some after) P Q R f h first next = absurd next
goes_on None (Some mid) after P Q R f h first next = absurd first
goes_on (Some before) None after P Q R f h first next = absurd first
goes_on (Some before) (Some mid) None P Q R f h first next = absurd next
goes_on (Some before) (Some mid) (Some after) P Q R f h first next = Went-then before mid after (R (state_of before))
    (Went-weaken before mid (P (state_of before)) (R (state_of before)) (λ image. f before image refl) first)
    (Went-weaken mid after (Q (state_of mid)) (R (state_of before)) (λ image. h before mid image refl refl) next)

-- while no call is made, what holds of the present moment holds of each
pub stays_at : (told : Option Told) (P : State → List ℕ → Type 0)
    → IfSome told (λ t. AllImages (state_of t) (P (state_of t))) → Goes told told P
stays_at None P here = tt
stays_at (Some told) P here = Went-still told (P (state_of told)) here

-- what follows from a fact of each moment holds of each moment
pub Goes-weaken : (before after : Option Told) (P Q : State → List ℕ → Type 0)
    → ((s : State) (image : List ℕ) → P s image → Q s image) → Goes before after P → Goes before after Q
Goes-weaken None None P Q f goes = tt
Goes-weaken None (Some after) P Q f goes = absurd goes
Goes-weaken (Some before) None P Q f goes = absurd goes
Goes-weaken (Some before) (Some after) P Q f goes = Went-weaken before after (P (state_of before))
    (Q (state_of before)) (f (state_of before)) goes

-- the last moment is one of them, for what does not speak of before
pub Goes-last : (before after : Option Told) (P : List ℕ → Type 0) → Goes before after (λ s. P) → IsLeft after P
Goes-last None None P goes = tt
Goes-last None (Some after) P goes = absurd goes
Goes-last (Some before) None P goes = absurd goes
Goes-last (Some before) (Some after) P goes = Went-last before after P goes

-- ---- what lasts

-- what lasts during some calls, and each image has before them, each has at every moment of them
pub lasts_on : (s : State) (calls : List Call) (P : List ℕ → Type 0) → LastsDuring s calls P → AllImages s P
    → During s calls P
lasts_on s [] P lasts here = here
lasts_on s (call ∷ calls) P lasts here = lasts.0 here

-- what lasts during some calls and during the next ones lasts during all
lasts_during_both : (s : State) (first next : List Call) (P : List ℕ → Type 0) → LastsDuring s first P
    → LastsDuring (run_from s first) next P → LastsDuring s (first ++ next) P
lasts_during_both s [] next P here there = there
lasts_during_both s (call ∷ first) next P here there = (
  λ all. During-append s (call ∷ first) next P (here.0 all) (lasts_on (run_from s (call ∷ first)) next P there
      (During-last s (call ∷ first) P (here.0 all))),
  lasts_during_both (step s call) first next P here.1 there,
)

-- what lasts during some calls lasts through the moments that the disk tells
pub lasts_by : (told : Told) (more : List Call) (P : List ℕ → Type 0)
    → LastsDuring (state_of told) more P → LastsFrom told (after_all more told) P
lasts_by (Calls calls) more P each = subst (λ (t : Told). LastsFrom (Calls calls) t P)
    (sym (calls-after_all calls more)) (record { more = more; grown = refl; each = each })
lasts_by (Now s) more P each = subst (λ (t : Told). LastsFrom (Now s) t P) (sym (now-after_all s more))
    (λ here. During-last s more P (lasts_on s more P each here))

-- two spans of time are one
lasts_by_both : (before mid after : List Call) (P : List ℕ → Type 0) → LastsBy before mid P
    → LastsBy mid after P → LastsBy before after P
lasts_by_both before mid after P first next = record {
  more = first.more ++ next.more;
  grown = next.grown ∙ ap (λ (l : List Call). l ++ next.more) first.grown ∙ append_assoc before first.more next.more;
  each = lasts_during_both (run before) first.more next.more P first.each
      (subst (λ (s : State). LastsDuring s next.more P) (ap run first.grown
      ∙ run_from-append _ before first.more) next.each);
}

lasts_from_both : (before mid after : Told) (P : List ℕ → Type 0) → LastsFrom before mid P
    → LastsFrom mid after P → LastsFrom before after P
lasts_from_both (Calls before) (Calls mid) (Calls after) P first next = lasts_by_both before mid after P first next
lasts_from_both (Calls before) (Calls mid) (Now after) P first next = absurd next
lasts_from_both (Calls before) (Now mid) after P first next = absurd first
lasts_from_both (Now before) (Calls mid) after P first next = absurd first
lasts_from_both (Now before) (Now mid) (Calls after) P first next = absurd next
lasts_from_both (Now before) (Now mid) (Now after) P first next = λ here. next (first here)

pub lasts_then : (before mid after : Option Told) (P : List ℕ → Type 0) → Lasts before mid P
    → Lasts mid after P → Lasts before after P
lasts_then None None None P first next = tt
lasts_then None None (Some after) P first next = absurd next
lasts_then None (Some mid) after P first next = absurd first
lasts_then (Some before) None after P first next = absurd first
lasts_then (Some before) (Some mid) None P first next = absurd next
lasts_then (Some before) (Some mid) (Some after) P first next = lasts_from_both before mid after P first next

-- while no call is made, all lasts
pub lasts_still : (told : Option Told) (P : List ℕ → Type 0) → Lasts told told P
lasts_still None P = tt
lasts_still (Some told) P = lasts_by told [] P tt

-- a sync leaves it as long as it was
pub reaches_synced : (told new : Option Told) (far at : ℕ) → new ≡ added Sync told → at ≤ far
    → IfSome told (λ t. far ≤ length (content_of t)) → IfSome new (λ t. at ≤ length (content_of t))
reaches_synced None new far at is less reaches = subst (λ (o : Option Told).
    IfSome o (λ t. at ≤ length (content_of t))) (sym is) tt
reaches_synced (Some told) new far at is less reaches =
    let now = ap (λ (s : State). length s.content) (state-after told Sync) in
    let long : at ≤ length (content_of (after Sync told)) = omega (arith, now, less, reaches) in
    subst (λ (o : Option Told). IfSome o (λ t. at ≤ length (content_of t))) (sym is) long

-- what a read gives after one call more
pub content-after : (told : Told) (call : Call) → content_of (after call told) ≡ (step (state_of told) call).content
content-after told call = ap (λ (s : State). s.content) (state-after told call)

pub synced_content : (t : Told) → content_of (after Sync t) ≡ content_of t
synced_content t = content-after t Sync

pub length_told : (told : Option Told) (n : ℕ) → IfSome (added Sync told) (λ t. n ≡ length (content_of t)) → n ≤ 9
    → IfSome told (λ t. length (content_of t) ≤ 9)
length_told None n long small = tt
length_told (Some t) n long small = omega (arith, long, small, ap length (synced_content t))

-- and after these calls
pub content-after_all : (told : Told) (calls : List Call) → content_of (after_all calls told) ≡
    (run_from (state_of told) calls).content
content-after_all told calls = ap (λ (s : State). s.content) (state-after_all told calls)

-- two spans of time are one
pub goes_both : (before mid after : Option Told) (P : List ℕ → Type 0) → Goes before mid (λ s. P)
    → Goes mid after (λ s. P) → Goes before after (λ s. P)
goes_both before mid after P first next = goes_on before mid after
    (λ s. P) (λ s. P) (λ s. P) (λ t image told here. here) (λ t u image told then here. here) first next

pub goes_so : (before after : Option Told) (P Q : List ℕ → Type 0) → ((image : List ℕ) → P image → Q image)
    → Goes before after (λ s. P) → Goes before after (λ s. Q)
goes_so before after P Q f goes = Goes-weaken before after (λ s. P) (λ s. Q) (λ s. f) goes
