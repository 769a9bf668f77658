-- What a crash leaves by ranges is among what it leaves by the first and the last place that was written.
use Rattle.std.proofs.Common.{◌≡◌, ℕ, ◌+◌, ◌<◌, ◌≤◌, min, List, [], ◌∷◌, length, get_or, ◌⊎◌, inl, inr, refl, subst, sym, ◌∙◌, arith}
use Rattle.std.proofs.lemmas.List.{get_or-take}
use Rattle.dr_disk.specs.Calls.{Call, Write, FailedWrite, Cut, FailedCut, Sync, State, written, step, run_from, run}
use Rattle.dr_disk.specs.{Images.IsImage, Ranges.{Pending, settled, pend, pend_all, IsUntouched, IsImageByRanges}}
use Rattle.dr_disk.proofs.Images.{IsBetween, between-step, written_before, written_behind}

-- a place below the least length, outside of all that was written
abbrev Outside : State → ℕ → Type 0
Outside s i = (i < s.least) × ((i < s.first) ⊎ (s.behind ≤ i))

-- what the ranges leave of a disk, told by its first and its last place
record Agree (p : Pending) : Type 0 where
  between : IsBetween p.disk
  synced : p.disk.least ≤ length p.synced
  untouched : (i : ℕ) → Outside p.disk i → IsUntouched p.ranges i
  stays : (i : ℕ) → Outside p.disk i → get_or p.disk.content i 0 ≡ get_or p.synced i 0

agree-write : (p : Pending) (at : ℕ) (bytes : List ℕ) → Agree p → Agree (pend p (Write at bytes))
agree-write p at bytes a = record {
  between = between-step s (Write at bytes) a.between;
  synced = a.synced;
  untouched = λ i out. (range i out, a.untouched i (before i out));
  stays = λ i out. keeps i out ∙ a.stays i (before i out);
}
  where
    s : State
    s = p.disk

    before : (i : ℕ) → Outside (step s (Write at bytes)) i → Outside s i
    before i (l, inl h) = (l, inl (omega (arith, h)))
    before i (l, inr h) = (l, inr (omega (arith, h)))

    range : (i : ℕ) → Outside (step s (Write at bytes)) i
        → (i < min at (length s.content)) ⊎ (min at (length s.content) + length bytes ≤ i)
    range i (l, inl h) = inl (omega (arith, h, l, a.between.least))
    range i (l, inr h) = inr (omega (arith, h))

    keeps : (i : ℕ) → Outside (step s (Write at bytes)) i
        → get_or (written s.content at bytes) i 0 ≡ get_or s.content i 0
    keeps i (l, inl h) = written_before s.content at bytes i (omega (arith, h, l, a.between.least))
    keeps i (l, inr h) = written_behind s.content at bytes i (omega (arith, h, l, a.between.least)) (omega (arith, h))

agree-failed_write : (p : Pending) (at n : ℕ) → Agree p → Agree (pend p (FailedWrite at n))
agree-failed_write p at n a = record {
  between = between-step p.disk (FailedWrite at n) a.between;
  synced = a.synced;
  untouched = λ i out. (range i out, a.untouched i (before i out));
  stays = λ i out. a.stays i (before i out);
}
  where
    before : (i : ℕ) → Outside (step p.disk (FailedWrite at n)) i → Outside p.disk i
    before i (l, inl h) = (l, inl (omega (arith, h)))
    before i (l, inr h) = (l, inr (omega (arith, h)))

    range : (i : ℕ) → Outside (step p.disk (FailedWrite at n)) i → (i < at) ⊎ (at + n ≤ i)
    range i (l, inl h) = inl (omega (arith, h))
    range i (l, inr h) = inr (omega (arith, h))

agree-step : (p : Pending) (call : Call) → Agree p → Agree (pend p call)
agree-step p (Write at bytes) a = agree-write p at bytes a
agree-step p (FailedWrite at n) a = agree-failed_write p at n a
agree-step p (Cut to) a = record {
  between = between-step p.disk (Cut to) a.between;
  synced = omega (arith, a.synced);
  untouched = λ i out. a.untouched i (omega (arith, out.0), out.1);
  stays = λ i out. get_or-take to p.disk.content i 0 (omega (arith, out.0)) ∙ a.stays i (omega (arith, out.0), out.1);
}
agree-step p (FailedCut to) a = record {
  between = between-step p.disk (FailedCut to) a.between;
  synced = omega (arith, a.synced);
  untouched = λ i out. a.untouched i (omega (arith, out.0), out.1);
  stays = λ i out. a.stays i (omega (arith, out.0), out.1);
}
agree-step p Sync a = record {
  between = between-step p.disk Sync a.between;
  synced = omega arith;
  untouched = λ i out. tt;
  stays = λ i out. refl;
}

-- the disk is that of the calls alone
agree-run : (p : Pending) (calls : List Call) → Agree p
    → Agree (pend_all p calls) × ((pend_all p calls).disk ≡ run_from p.disk calls)
agree-run p [] a = (a, refl)
agree-run p (call ∷ calls) a = agree-run (pend p call) calls (agree-step p call a)

settled_agree : Agree (settled [])
settled_agree = record {
  between = record { least = omega arith; greatest = omega arith };
  synced = omega arith;
  untouched = λ i out. tt;
  stays = λ i out. refl;
}

-- no crash leaves less than the least length, which is no more than the greatest
pub pend_least : (calls : List Call) → (pend_all (settled []) calls).disk.least ≤ (pend_all (settled []) calls).disk.greatest
pend_least calls =
    let a = (agree-run (settled []) calls settled_agree).0 in omega (arith, a.between.least, a.between.greatest)

-- what a crash leaves by ranges is an image
pub image_by_ranges : (calls : List Call) (image : List ℕ) → IsImageByRanges calls image → IsImage (run calls) image
image_by_ranges calls image left =
    let told = agree-run (settled []) calls (record {
      between = record { least = omega arith; greatest = omega arith };
      synced = omega arith;
      untouched = λ i out. tt;
      stays = λ i out. refl;
    }) in
    let a = told.0 in
    subst (λ (s : State). IsImage s image) told.1 (record {
      no_shorter = left.no_shorter;
      no_longer = left.no_longer;
      stays = λ i l free. left.stays i (omega (arith, l, left.no_shorter)) (omega (arith, l, a.synced))
          (a.untouched i (l, free)) ∙ sym (a.stays i (l, free));
    })
