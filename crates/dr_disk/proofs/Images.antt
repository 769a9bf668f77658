-- What the images of a disk are: at rest, after a write, and what a read gives among them.
use Rattle.std.{specs.Prelude.is_some, proofs.lemmas.Bool.cases_lt}
use Rattle.std.proofs.Common.{◌≡◌, ℕ, ◌+◌, ◌-◌, ◌<◌, ◌≤◌, min, max, List, [], ◌∷◌, ◌++◌, length, get_or, take, drop, ◌⊎◌, inl, inr, ⊎_elim, refl, sym, ap, ◌∙◌, arith, length-append, length-drop, length-take, Option, Some, None, IfSome, subst, false}
use Rattle.std.proofs.lemmas.List.{ext_get_or, get_or-take, get_or-drop, get_or_append_left, get_or-append_right, length-take-le, drop_more, take-append-drop}
use Rattle.dr_disk.specs.Calls.{Call, Write, FailedWrite, Cut, FailedCut, Sync, State, at_rest, written, step, run_from, run, content_after}
use Rattle.dr_disk.specs.Disk.{Told, content_of, after, added, state_of, Calls, Now}
use Rattle.dr_disk.specs.Images.{IsImage, AllImages, IsLeft, ReadsAnImage, Goes, Lasts}
use Rattle.dr_disk.proofs.{DiskCalls.reaches_less, Moments.{state-after, lasts_on}}

-- at rest there is one image
pub image_at_rest : (bytes image : List ℕ) → IsImage (at_rest bytes) image → image ≡ bytes
image_at_rest bytes image is = ext_get_or 0 image bytes (omega (arith, is.no_shorter, is.no_longer))
    (λ i l. is.stays i (omega (arith, l, is.no_longer)) (inr (omega arith)))

-- ---- what a read gives is an image

-- the length after a write that begins inside
pub length-written : (old : List ℕ) (at : ℕ) (bytes : List ℕ) → at ≤ length old
    → length (written old at bytes) ≡ max (length old) (at + length bytes)
length-written old at bytes l = omega (
  arith,
  length-append (take at old) (bytes ++ drop (at + length bytes) old),
  length-append bytes (drop (at + length bytes) old),
  length-take at old,
  length-drop (at + length bytes) old,
)

length-written_past : (old : List ℕ) (at : ℕ) (bytes : List ℕ) → length old < at
    → length (written old at bytes) ≡ length old + length bytes
length-written_past old at bytes l = omega (
  arith,
  length-append (take at old) (bytes ++ drop (at + length bytes) old),
  length-append bytes (drop (at + length bytes) old),
  length-take at old,
  length-drop (at + length bytes) old,
)

-- a write leaves what stands before its range
pub written_before : (old : List ℕ) (at : ℕ) (bytes : List ℕ) (i : ℕ) → i < min at (length old)
    → get_or (written old at bytes) i 0 ≡ get_or old i 0
written_before old at bytes i l = get_or_append_left (take at old) (bytes ++ drop (at + length bytes) old) 0 i
    (omega (arith, l, length-take at old)) ∙ get_or-take at old i 0 (omega (arith, l))

-- and what stands behind it
pub written_behind : (old : List ℕ) (at : ℕ) (bytes : List ℕ) (i : ℕ) → at ≤ length old
    → at + length bytes ≤ i → get_or (written old at bytes) i 0 ≡ get_or old i 0
written_behind old at bytes i inside l = get_or-append_right (take at old)
    (bytes ++ drop (at + length bytes) old) at i 0 (length-take-le at old inside) (omega (arith, l))
    ∙ get_or-append_right bytes (drop (at + length bytes) old) (length bytes) (i - at) 0 refl (omega (arith, l))
    ∙ get_or-drop (at + length bytes) old (i - at - length bytes) 0
    ∙ ap (λ (n : ℕ). get_or old n 0) (omega (arith, l))

-- the length is between the least and the greatest
pub record IsBetween (s : State) : Type 0 where
  pub least : s.least ≤ length s.content
  pub greatest : length s.content ≤ s.greatest

between-write : (s : State) (at : ℕ) (bytes : List ℕ) → IsBetween s → IsBetween (step s (Write at bytes))
between-write s at bytes is = ⊎_elim (λ (past : length s.content < at). record {
  least = omega (arith, past, is.least, length-written_past s.content at bytes past);
  greatest = omega (arith, past, is.greatest, length-written_past s.content at bytes past);
}) (λ (inside : at ≤ length s.content). record {
  least = omega (arith, inside, is.least, length-written s.content at bytes inside);
  greatest = omega (arith, inside, is.greatest, length-written s.content at bytes inside);
}) (cases_lt (length s.content) at)

pub between-step : (s : State) (call : Call) → IsBetween s → IsBetween (step s call)
between-step s (Write at bytes) is = between-write s at bytes is
between-step s (FailedWrite at count) is = record { least = is.least; greatest = omega (arith, is.greatest) }
between-step s (Cut to) is = record {
  least = omega (arith, is.least, length-take to s.content);
  greatest = omega (arith, is.greatest, length-take to s.content);
}
between-step s (FailedCut to) is = record { least = omega (arith, is.least); greatest = is.greatest }
between-step s Sync is = record { least = omega arith; greatest = omega arith }

pub between-run : (s : State) (calls : List Call) → IsBetween s → IsBetween (run_from s calls)
between-run s [] is = is
between-run s (call ∷ calls) is = between-run (step s call) calls (between-step s call is)

-- what a read gives is an image
pub reads_image : (calls : List Call) → IsImage (run calls) (content_after calls)
reads_image calls =
    let is = between-run (at_rest []) calls (record { least = omega arith; greatest = omega arith }) in
    record { no_shorter = is.least; no_longer = is.greatest; stays = λ i l free. refl }

-- ---- a write, or one that failed, on a disk at rest

-- an image differs from the bytes at rest in a range of n bytes, and past their end, at most
pub record Torn (at n : ℕ) (old image : List ℕ) : Type 0 where
  pub no_shorter : length old ≤ length image
  pub no_longer : length image ≤ max (length old) (at + n)
  pub stays : (i : ℕ) → i < length old → (i < at) ⊎ (at + n ≤ i) → get_or image i 0 ≡ get_or old i 0

-- what a write inside leaves outside its range
written_outside : (old : List ℕ) (at : ℕ) (bytes : List ℕ) (i : ℕ) → at ≤ length old
    → (i < at) ⊎ (at + length bytes ≤ i) → get_or (written old at bytes) i 0 ≡ get_or old i 0
written_outside old at bytes i inside (inl h) = written_before old at bytes i (omega (arith, h, inside))
written_outside old at bytes i inside (inr h) = written_behind old at bytes i inside h

-- before it is synced, a write inside may leave what was there
pub unwritten_image : (old : List ℕ) (at : ℕ) (bytes : List ℕ) → at ≤ length old
    → IsImage (step (at_rest old) (Write at bytes)) old
unwritten_image old at bytes inside = record {
  no_shorter = omega arith;
  no_longer = omega arith;
  stays = λ i l free. sym (written_outside old at bytes i inside
      (⊎_elim (λ (h : i < min (length old) at). inl (omega (arith, h)))
      (λ (h : max 0 (at + length bytes) ≤ i). inr (omega (arith, h))) free));
}

-- a write leaves such images
pub torn_by_write : (old : List ℕ) (at : ℕ) (bytes image : List ℕ) → at ≤ length old
    → IsImage (step (at_rest old) (Write at bytes)) image → Torn at (length bytes) old image
torn_by_write old at bytes image inside is = record {
  no_shorter = is.no_shorter;
  no_longer = is.no_longer;
  stays = λ i l free. is.stays i l (⊎_elim (λ (h : i < at). inl (omega (arith, h, l)))
      (λ (h : at + length bytes ≤ i). inr (omega (arith, h))) free) ∙ written_outside old at bytes i inside free;
}

-- what stands before the range is the old
pub torn_front : (at n : ℕ) (old image : List ℕ) → at ≤ length old → Torn at n old image → take at image ≡ take at old
torn_front at n old image inside torn = ext_get_or 0 (take at image) (take at old)
    (omega (arith, length-take at image, length-take at old, inside, torn.no_shorter))
    (λ i l. let below : i < at = omega (arith, l, length-take at image) in
    get_or-take at image i 0 below ∙ torn.stays i (omega (arith, below, inside)) (inl below)
    ∙ sym (get_or-take at old i 0 below))

-- a range of one byte inside: all but that byte is the old
pub torn_byte : (at : ℕ) (old image : List ℕ) → at < length old → Torn at 1 old image
    → image ≡ take at old ++ (get_or image at 0 ∷ drop (at + 1) old)
torn_byte at old image inside torn =
    let behind : drop (at + 1) image ≡ drop (at + 1) old = ext_get_or 0 (drop (at + 1) image) (drop (at + 1) old)
    (omega (arith, length-drop (at + 1) image, length-drop (at + 1) old, inside, torn.no_shorter, torn.no_longer))
    (λ i l. get_or-drop (at + 1) image i 0
    ∙ torn.stays (at + 1 + i) (omega (arith, l, length-drop (at + 1) image, inside, torn.no_longer))
    (inr (omega arith)) ∙ sym (get_or-drop (at + 1) old i 0)) in
    sym (take-append-drop at image) ∙ ap (λ (l : List ℕ). l ++ drop at image) (torn_front at 1 old image
    (omega (arith, inside)) torn) ∙ ap (λ (l : List ℕ). take at old ++ l) (drop_more image at 0
    (omega (arith, inside, torn.no_shorter)) ∙ ap (λ (l : List ℕ). get_or image at 0 ∷ l) behind)

-- ---- calls that are done in part

-- a part of a write leaves no more than the whole
pub part_of_write : (s : State) (at k : ℕ) (bytes image : List ℕ) → at ≤ length s.content
    → IsImage (step s (Write at (take k bytes))) image → IsImage (step s (Write at bytes)) image
part_of_write s at k bytes image inside is = record {
  no_shorter = is.no_shorter;
  no_longer = omega (arith, is.no_longer, length-take k bytes);
  stays = λ i l free. is.stays i l (smaller i free) ∙ written_outside s.content at (take k bytes) i inside
      (outside (length (take k bytes)) i (omega (arith, length-take k bytes)) free)
      ∙ sym (written_outside s.content at bytes i inside (outside (length bytes) i (omega arith) free));
}
  where
    smaller : (i : ℕ) → (i < min s.first at) ⊎ (max s.behind (at + length bytes) ≤ i)
        → (i < min s.first at) ⊎ (max s.behind (at + length (take k bytes)) ≤ i)
    smaller i (inl h) = inl h
    smaller i (inr h) = inr (omega (arith, h, length-take k bytes))

    outside : (n i : ℕ) → n ≤ length bytes
        → (i < min s.first at) ⊎ (max s.behind (at + length bytes) ≤ i) → (i < at) ⊎ (at + n ≤ i)
    outside n i l (inl h) = inl (omega (arith, h))
    outside n i l (inr h) = inr (omega (arith, h, l))

pub part_of_failed_write : (s : State) (at k : ℕ) (bytes image : List ℕ) → at ≤ length s.content
    → IsImage (step s (Write at (take k bytes))) image → IsImage (step s (FailedWrite at (length bytes))) image
part_of_failed_write s at k bytes image inside is = record {
  no_shorter = is.no_shorter;
  no_longer = omega (arith, is.no_longer, length-take k bytes);
  stays = λ i l free. is.stays i l (smaller i free)
      ∙ written_outside s.content at (take k bytes) i inside (outside i free);
}
  where
    smaller : (i : ℕ) → (i < min s.first at) ⊎ (max s.behind (at + length bytes) ≤ i)
        → (i < min s.first at) ⊎ (max s.behind (at + length (take k bytes)) ≤ i)
    smaller i (inl h) = inl h
    smaller i (inr h) = inr (omega (arith, h, length-take k bytes))

    outside : (i : ℕ) → (i < min s.first at) ⊎ (max s.behind (at + length bytes) ≤ i)
        → (i < at) ⊎ (at + length (take k bytes) ≤ i)
    outside i (inl h) = inl (omega (arith, h))
    outside i (inr h) = inr (omega (arith, h, length-take k bytes))

-- what a cut leaves before its place
cut_before : (old : List ℕ) (to i : ℕ) → i < to → get_or (take to old) i 0 ≡ get_or old i 0
cut_before old to i l = get_or-take to old i 0 l

-- a part of a cut leaves no more than the whole
pub part_of_cut : (s : State) (to more : ℕ) (image : List ℕ) → to ≤ more
    → IsImage (step s (Cut more)) image → IsImage (step s (Cut to)) image
part_of_cut s to more image part is = record {
  no_shorter = omega (arith, is.no_shorter, part);
  no_longer = is.no_longer;
  stays = λ i l free. is.stays i (omega (arith, l, part)) free ∙ cut_before s.content more i (omega (arith, l, part))
      ∙ sym (cut_before s.content to i (omega (arith, l)));
}

pub part_of_failed_cut : (s : State) (to more : ℕ) (image : List ℕ) → to ≤ more
    → IsImage (step s (Cut more)) image → IsImage (step s (FailedCut to)) image
part_of_failed_cut s to more image part is = record {
  no_shorter = omega (arith, is.no_shorter, part);
  no_longer = is.no_longer;
  stays = λ i l free. is.stays i (omega (arith, l, part)) free ∙ cut_before s.content more i (omega (arith, l, part));
}

-- what a write that failed leaves, one that was done might leave too
pub fault_image : (s : State) (at : ℕ) (bytes image : List ℕ) → at ≤ length s.content → s.least ≤ length s.content
    → IsImage (step s (FailedWrite at (length bytes))) image → IsImage (step s (Write at bytes)) image
fault_image s at bytes image inside least is = record {
  no_shorter = is.no_shorter;
  no_longer = is.no_longer;
  stays = λ i l free. is.stays i l free ∙ sym (⊎_elim
      (λ (h : i < min s.first at). written_before s.content at bytes i (omega (arith, h, l, least, inside)))
      (λ (h : max s.behind (at + length bytes) ≤ i). written_behind s.content at bytes i inside (omega (arith, h)))
      free);
}

-- once bytes are written, the disk reaches to their end
pub reaches_written : (told new : Option Told) (at n : ℕ) (bytes : List ℕ) → new ≡ added (Write at bytes) told
    → n ≡ length bytes → IfSome told (λ t. at ≤ length (content_of t))
    → IfSome new (λ t. at + n ≤ length (content_of t))
reaches_written None new at n bytes is long inside = subst (λ (o : Option Told).
    IfSome o (λ t. at + n ≤ length (content_of t))) (sym is) tt
reaches_written (Some told) new at n bytes is long inside =
    let now = ap (λ (s : State). length s.content) (state-after told (Write at bytes)) in
    let far : at + n ≤ length (content_of (after (Write at bytes) told)) =
    omega (arith, now, long, length-written (content_of told) at bytes inside) in
    subst (λ (o : Option Told). IfSome o (λ t. at + n ≤ length (content_of t))) (sym is) far

-- once bytes are written, the disk reaches to where they begin
pub reaches_before : (told new : Option Told) (at : ℕ) (bytes : List ℕ) → new ≡ added (Write at bytes) told
    → IfSome told (λ t. at ≤ length (content_of t)) → IfSome new (λ t. at - 1 ≤ length (content_of t))
reaches_before told new at bytes is inside = reaches_less new (at + length bytes) (at - 1) (omega arith)
    (reaches_written told new at (length bytes) bytes is refl inside)

pub rest_stands : (P : List ℕ → Type 0) (bytes : List ℕ) → P bytes → AllImages (at_rest bytes) P
rest_stands P bytes here image is = subst P (sym (image_at_rest bytes image is)) here

-- what holds of each image holds of what a read gives
pub of_content : (told : Option Told) (t : Told) (P : List ℕ → Type 0) → IsLeft told P → told ≡ Some t
    → ReadsAnImage t → P (content_of t)
of_content told t P left is reads = subst (λ (o : Option Told). IsLeft o P) is left (content_of t) reads

pub empty_image : (t : Told) (image : List ℕ) → state_of t ≡ at_rest [] → IsImage (state_of t) image → image ≡ []
empty_image t image rest is = image_at_rest [] image (subst (λ s. IsImage s image) rest is)

-- what holds of all that a crash may leave, and what follows from it
pub left_so : (o : Option Told) (P Q : List ℕ → Type 0) → ((image : List ℕ) → P image → Q image) → IsLeft o P
    → IsLeft o Q
left_so None P Q more left = tt
left_so (Some t) P Q more left = λ image is. more image (left image is)

-- whatever is asked holds of a disk that doesn't tell
pub silent : (now : Option Told) (P : List ℕ → Type 0) → false ≡ is_some now → Goes None now (λ s. P)
silent None P same = tt
silent (Some t) P same = absurd (cc)

pub lasts_goes : (before after : Option Told) (P : List ℕ → Type 0) → Lasts before after P → IsLeft before P
    → Goes before after (λ s. P)
lasts_goes None None P lasts here = tt
lasts_goes None (Some after) P lasts here = absurd lasts
lasts_goes (Some before) None P lasts here = absurd lasts
lasts_goes (Some (Calls before)) (Some (Calls after)) P lasts here = record {
  more = lasts.more;
  grown = lasts.grown;
  each = lasts_on (run before) lasts.more P lasts.each here;
}
lasts_goes (Some (Calls before)) (Some (Now after)) P lasts here = absurd lasts
lasts_goes (Some (Now before)) (Some (Calls after)) P lasts here = absurd lasts
lasts_goes (Some (Now before)) (Some (Now after)) P lasts here = lasts here
