-- What lines tell of histories.
use Rattle.std.{specs.List.{enumerate_from, flat_map}, proofs.lemmas.List.{drop_all, take_rest}}
use Rattle.std.proofs.Common.{◌≡◌, ◌∙◌, ap, arith, sym, subst, ℕ, ◌+◌, ◌-◌, ◌<◌, ◌≤◌, List, [], ◌++◌, append-nil, drop, length, slice_index_or, take}
use Rattle.dr_entry.specs.declared.entry.Entry.{Entry}
use Rattle.dr_seeing.specs.Output.{HasTold, Tells, Written}
use Rattle.dr_tools.specs.Following.{came_line, came_text}

-- of a history that is told no more is told
pub none_told : (me told : ℕ) (history : List Entry) (now : Written) → length history ≤ told
    → Tells (came_text me told history) now now
none_told me told history now past = λ held fell before has. subst (λ (l : List ℕ). HasTold held fell
    (before ++ l) now) (sym none) (subst (λ (l : List ℕ). HasTold held fell l now) (sym (append-nil before)) has)
  where
    none : came_text me told history ≡ []
    none = ap (λ (l : List Entry). flat_map (λ t. came_line me (told + t.0) t.1) (enumerate_from 0 l))
        (drop_all told history past)

-- the lines of what is left of a history, where its counts and its entries are known by other names
pub came_rest : (me who at : ℕ) (counts told : List ℕ) (entries history : List Entry) → who ≡ me → at ≡ me
    → counts ≡ told → entries ≡ history → flat_map (λ t. came_line who (slice_index_or counts at 0 + t.0) t.1)
    (enumerate_from 0 (take (length entries - slice_index_or counts at 0) (drop (slice_index_or counts at 0) entries)))
    ≡ came_text me (slice_index_or told me 0) history
came_rest me who at counts told entries history same there as_many all =
    let first = slice_index_or counts at 0 in
    ap (λ (l : List Entry). flat_map (λ t. came_line who (first + t.0) t.1) (enumerate_from 0 l))
    (take_rest entries first) ∙ ap (λ (n : ℕ). came_text n first entries) same
    ∙ ap (λ (n : ℕ). came_text me (slice_index_or counts n 0) entries) there ∙ ap (λ (l : List ℕ). came_text me
    (slice_index_or l me 0) entries) as_many ∙ ap (λ (l : List Entry). came_text me (slice_index_or told me 0) l) all
