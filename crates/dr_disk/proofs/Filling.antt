-- What a crash leaves where all that may have changed is filled with one byte.
use Rattle.std.proofs.Common.{◌≡◌, ℕ, zero, suc, ◌+◌, ◌<◌, ◌≤◌, min, max, List, [], ◌∷◌, ◌++◌, length, get_or, take, drop, ◌⊎◌, inl, inr, ⊎_elim, refl, sym, ap, ap₂, ◌∙◌, subst, arith, length-drop, length-take}
use Rattle.std.proofs.lemmas.{Bool.cases_lt, List.{take_all, drop-drop}}
use Rattle.dr_disk.specs.{Calls.{Call, Write, FailedWrite, Cut, FailedCut, Sync, run, written}, Images.IsImage}
use Rattle.dr_disk.specs.{Crashed.{IsFilled, IsReplayed}, Steps.{bytes_of_step, call_of, calls_of, text_length}}
use Rattle.dr_disk.specs.{Ranges.{IsUntouched, Pending, Range, pend, pend_all, settled}, declared.kept.Step.Step}
use Rattle.dr_disk.proofs.Ranges.{image_by_ranges, pend_least}
use Rattle.dr_disk.specs.declared.kept.Step.TheVariants as steps

-- ---- a range more

abbrev range_at : ℕ → ℕ → Range
range_at at count = record { at = at; count = count }

-- a place is outside of a range, or it is in it
outside : (at to i : ℕ) → ((i < at) ⊎ (to ≤ i)) ⊎ ((at ≤ i) × (i < to))
outside at to i = grind arith

-- an image that got longer, up to a length, and then this byte from one place to another
pub filled_more : (fill : ℕ) (p : Pending) (at count end : ℕ) (old mid new : List ℕ) → IsFilled fill p old
    → length p.synced ≤ p.disk.greatest → length mid ≡ max (length old) end
    → ((i : ℕ) → i < length old → get_or mid i 0 ≡ get_or old i 0)
    → ((i : ℕ) → length old ≤ i → i < length mid → get_or mid i 0 ≡ fill) → length new ≡ length mid
    → ((i : ℕ) → (i < at) ⊎ (at + count ≤ i) → get_or new i 0 ≡ get_or mid i 0)
    → ((i : ℕ) → at ≤ i → i < at + count → get_or new i 0 ≡ fill)
    → (q : Pending) → q.synced ≡ p.synced → q.ranges ≡ record { at = at; count = count } ∷ p.ranges
    → q.disk.greatest ≡ max p.disk.greatest end → IsFilled fill q new
filled_more fill p at count end old mid new is fits longer kept behind same others covered q synced ranges greatest =
    record {
      long = omega (arith, same, longer, is.long, greatest);
      stays = λ i l free.
          let both = subst (λ (r : List Range). IsUntouched r i) ranges free in
          let within : i < length p.synced = omega (arith, l, ap length synced) in
          others i both.0 ∙ (kept i (omega (arith, within, fits, is.long))
          ∙ (is.stays i within both.1 ∙ ap (λ (l : List ℕ). get_or l i 0) (sym synced)));
      filled = λ i l not. elim (outside at (at + count) i) [
        | inr within ↦ covered i within.0 within.1
        | inl out ↦ elim (cases_lt i (length old)) [
          | inr past ↦ others i out ∙ behind i past (omega (arith, l, same))
          | inl below ↦ others i out
              ∙ (kept i below ∙ is.filled i below (λ within free. not (omega (arith, within, ap length synced))
              (subst (λ (r : List Range). IsUntouched r i) (sym ranges) (out, free))))
        ]
      ];
    }

-- ---- a call more

-- a write past the end is one at the end
written_inside : (old : List ℕ) (at : ℕ) (bytes : List ℕ) → written old (min (length old) at) bytes ≡ written old at bytes
written_inside old at bytes = ⊎_elim (λ (past : length old < at).
    let here : min (length old) at ≡ length old = omega (arith, past) in
    ap (λ (n : ℕ). written old n bytes) here ∙ ap₂ (λ (front back : List ℕ). front ++ (bytes ++ back))
    (take_all (length old) old (omega arith) ∙ sym (take_all at old (omega (arith, past))))
    (no_more (length old + length bytes) (omega arith) ∙ sym (no_more (at + length bytes) (omega (arith, past)))))
    (λ (inside : at ≤ length old). ap (λ (n : ℕ). written old n bytes) (omega (arith, inside)))
    (cases_lt (length old) at)
  where
    nothing : (l : List ℕ) → length l ≡ 0 → l ≡ []
    nothing [] e = refl
    nothing (x ∷ l) e = absurd (omega (arith, e))

    no_more : (n : ℕ) → length old ≤ n → drop n old ≡ []
    no_more n l = nothing (drop n old) (omega (arith, length-drop n old, l))

-- the call of a write step
pub write_of : (s : Step) (at count : ℕ) (bytes : List ℕ) → s ≡ steps.Write at count → bytes_of_step s ≡ length bytes
    → call_of s bytes ≡ Write at bytes
write_of s at count bytes is whole = ap (λ (x : Step). call_of x bytes) is
    ∙ ap (Write at) (take_all count bytes (omega (arith, ap bytes_of_step (sym is), whole)))

pub replayed_write : (fill : ℕ) (p : Pending) (at inside end : ℕ) (bytes now image mid new : List ℕ)
    → IsReplayed fill p now image → inside ≡ min (length now) at → end ≡ at + length bytes
    → length mid ≡ max (length image) end → ((i : ℕ) → i < length image → get_or mid i 0 ≡ get_or image i 0)
    → ((i : ℕ) → length image ≤ i → i < length mid → get_or mid i 0 ≡ fill) → length new ≡ length mid
    → ((i : ℕ) → (i < inside) ⊎ (inside + length bytes ≤ i) → get_or new i 0 ≡ get_or mid i 0)
    → ((i : ℕ) → inside ≤ i → i < inside + length bytes → get_or new i 0 ≡ fill)
    → IsReplayed fill (pend p (Write at bytes)) (written now inside bytes) new
replayed_write fill p at inside end bytes now image mid new is here far longer kept behind same others covered = record {
  read = ap (λ (n : ℕ). written now n bytes) here ∙ (written_inside now at bytes
      ∙ ap (λ (l : List ℕ). written l at bytes) is.read);
  fits = omega (arith, is.fits);
  filled = filled_more fill p inside (length bytes) end image mid new is.filled is.fits longer kept behind same others
      covered (pend p (Write at bytes)) refl (ap (λ (n : ℕ). range_at n (length bytes) ∷ p.ranges) place)
      (ap (max p.disk.greatest) (sym far));
}
  where
    place : min at (length p.disk.content) ≡ inside
    place = omega (arith, here, ap length is.read)

-- ---- the steps of a record

-- a step more, by its bytes
calls_more : (xs : List Step) (s : Step) (text : List ℕ)
    → calls_of (xs ++ s ∷ []) text ≡ calls_of xs text ++ call_of s (drop (text_length xs) text) ∷ []
calls_more [] s text = refl
calls_more (t ∷ xs) s text = ap (λ (l : List Call). call_of t text ∷ l) (calls_more xs s (drop (bytes_of_step t) text)
    ∙ ap (λ (l : List ℕ). calls_of xs (drop (bytes_of_step t) text) ++ call_of s l ∷ [])
    (drop-drop (text_length xs) (bytes_of_step t) text ∙ ap (λ (n : ℕ). drop n text) (omega arith)))

-- a step takes no more than its own bytes
own_bytes : (s : Step) (text : List ℕ) → call_of s (take (bytes_of_step s) text) ≡ call_of s text
own_bytes (steps.Write at count) text = ap (Write at) (take_all count (take count text) (short count text))
  where
    short : (n : ℕ) (l : List ℕ) → length (take n l) ≤ n
    short n l = omega (arith, length-take n l)
own_bytes (steps.FailedWrite at count) text = refl
own_bytes (steps.Cut to) text = refl
own_bytes (steps.FailedCut to) text = refl
own_bytes steps.Sync text = refl

pend_more : (p : Pending) (calls : List Call) (call : Call) → pend_all p (calls ++ call ∷ []) ≡ pend (pend_all p calls) call
pend_more p [] call = refl
pend_more p (c ∷ calls) call = pend_more (pend p c) calls call

pub text_length-more : (xs : List Step) (s : Step) → text_length (xs ++ s ∷ []) ≡ text_length xs + bytes_of_step s
text_length-more [] s = omega arith
text_length-more (t ∷ xs) s = omega (arith, text_length-more xs s)

-- the first steps of a record were done, whose bytes end here
pub record IsReplayedTo (fill : ℕ) (steps : List Step) (text : List ℕ) (from k : ℕ) (now image : List ℕ) : Type 0
  where
    pub ends : from ≡ text_length (take k steps)
    pub done : IsReplayed fill (pend_all (settled []) (calls_of (take k steps) text)) now image

pub none_replayed : (fill : ℕ) (steps : List Step) (text : List ℕ) → IsReplayedTo fill steps text 0 0 [] []
none_replayed fill steps text = record {
  ends = refl;
  done = record {
    read = refl;
    fits = omega arith;
    filled = record { long = refl; stays = λ i l free. refl; filled = λ i l not. absurd (omega (arith, l)) };
  };
}

pub one_more_replayed : (fill : ℕ) (steps : List Step) (text : List ℕ)
    (from k : ℕ) (s : Step) (now image now' image' : List ℕ) → IsReplayedTo fill steps text from k now image
    → take (k + 1) steps ≡ take k steps ++ s ∷ [] → ((p : Pending) → IsReplayed fill p now image
    → IsReplayed fill (pend p (call_of s (take (bytes_of_step s) (drop from text)))) now' image')
    → IsReplayedTo fill steps text (from + bytes_of_step s) (k + 1) now' image'
one_more_replayed fill steps text from k s now image now' image' is next more = record {
  ends = omega (arith, is.ends, ap text_length next, text_length-more (take k steps) s);
  done =
      let p = pend_all (settled []) (calls_of (take k steps) text) in
      let calls : calls_of (take (k + 1) steps) text ≡ calls_of (take k steps) text
      ++ call_of s (take (bytes_of_step s) (drop from text)) ∷ [] = ap (λ (l : List Step). calls_of l text) next
      ∙ (calls_more (take k steps) s text ∙ ap (λ (c : Call). calls_of (take k steps) text ++ c ∷ [])
      (ap (λ (n : ℕ). call_of s (drop n text)) (sym is.ends) ∙ sym (own_bytes s (drop from text)))) in
      subst (λ (q : Pending). IsReplayed fill q now' image') (sym (ap (pend_all (settled [])) calls
      ∙ pend_more (settled []) (calls_of (take k steps) text) (call_of s (take (bytes_of_step s) (drop from text)))))
      (more p is.done);
}

-- the bytes of the next step are there
pub bytes_within : (steps : List Step) (text : List ℕ) (from k : ℕ) (s : Step) → length text ≡ text_length steps
    → from ≡ text_length (take k steps) → take (k + 1) steps ≡ take k steps ++ s ∷ []
    → from + bytes_of_step s ≤ length text
bytes_within steps text from k s whole ends next =
    omega (arith, whole, ends, text_length-more (take k steps) s, ap text_length next, shorter steps (k + 1))
  where
    shorter : (xs : List Step) (n : ℕ) → text_length (take n xs) ≤ text_length xs
    shorter xs zero = omega arith
    shorter [] (suc n) = omega arith
    shorter (x ∷ xs) (suc n) = omega (arith, shorter xs n)

-- ---- it is an image

pub filled_image : (fill : ℕ) (calls : List Call) (image : List ℕ) → IsFilled fill (pend_all (settled []) calls) image
    → IsImage (run calls) image
filled_image fill calls image is = image_by_ranges calls image (record {
  no_shorter = omega (arith, is.long, pend_least calls);
  no_longer = omega (arith, is.long);
  stays = λ i l within free. is.stays i within free;
})
