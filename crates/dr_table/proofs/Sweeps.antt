-- Sweeps: what a seated member knows as one begins, as it goes on, and as it ends.
use Rattle.std.{specs.Prelude.None, proofs.Common.{◌≡◌, refl, sym, ap, ◌∙◌, subst, ℕ, ◌+◌, List, [], ◌∷◌, ◌++◌}}
use Rattle.atomic_table.specs.Table.{Me}
use Rattle.dr_program.specs.{Running.{Running, after_step, next_deed}, declared.deed.Deed.Deed}
use Rattle.dr_program.proofs.Fixed.{told, after_told, Told}
use Rattle.dr_program.specs.declared.deed.Deed.TheVariants as deeds
use Rattle.dr_words.specs.Layout.{words_of}
use Rattle.dr_play.proofs.Deeds.{deed_tells}
use Rattle.dr_table.specs.{Deeds.IsStore, Inside.IsInsideSeated, Slots.Slot, Steps.{IsReachedMember, MayFind, alone}}
use Rattle.dr_table.specs.{Sweeps.{HasComeBySweep, HasTaken, IsSwept}, declared.rule.View.View}
use Rattle.dr_table.{specs.declared.seated.SeatedMember.TheInside.Inside, proofs.Deeds.stores}
use Rattle.dr_table.proofs.Members.{IsSameBut, inside_after}

-- one deed more
taken_more : (words : List ℕ) (word : ℕ) (r q : Running) → HasTaken words r q → IsSwept (next_deed q)
    → MayFind q word → HasTaken (words ++ word ∷ []) r (after_step word q)
taken_more [] word r q same swept found =
    subst (λ x. HasTaken (word ∷ []) x (after_step word q)) (sym same) (swept, found, refl)
taken_more (w ∷ words) word r q (first, at, rest) swept found =
    (first, at, taken_more words word (after_step w r) q rest swept found)

-- what a member was told stays
pub taken_told : (words : List ℕ) (r q : Running) → HasTaken words r q → told q.replica ≡ told r.replica
taken_told [] r q same = ap (λ (x : Running). told x.replica) (sym same)
taken_told (word ∷ words) r q (swept, found, rest) = taken_told words (after_step word r) q rest ∙ after_told word r

-- no deed was taken yet
pub come_begins : (s : Inside) → IsInsideSeated s → HasComeBySweep s.seat.table_id.words s.member s.seat.me s.member
come_begins s is = record { taken = ([], refl); seat = is.known; reached = is.reached; of = is.of }

-- one more was taken
pub come_on : (size : ℕ) (from : Running) (me after : Me Slot View) (q : Running) (word : ℕ)
    → HasComeBySweep size from me q → IsSwept (next_deed q) → MayFind q word → after ≡ alone (after_step word q)
    → IsReachedMember (after_step word q) → HasComeBySweep size from after (after_step word q)
come_on size from me after q word come swept found to reached =
    let x = after_step word q in
    let (words, taken) = come.taken in
    record {
      taken = (words ++ word ∷ [], taken_more words word from q taken swept found);
      seat = (x, to, ([], refl));
      reached = reached;
      of = ap (λ (t : Told). words_of t.roster t.window t.banks + t.roster) (after_told word q) ∙ come.of;
    }

-- a push sees nothing, which its member may find
pub push_finds : (q : Running) (index new : ℕ) → next_deed q ≡ deeds.Push index new → IsReachedMember q → MayFind q 0
push_finds q index new next (g, p, is) =
    (g, p, is, (stores p.table q index new (subst (IsStore index new) (sym next) (refl, refl))).says.sees)

-- the kinds of deeds of a sweep
pub look_swept : (q : Running) (index : ℕ) → next_deed q ≡ deeds.Look index → IsSwept (next_deed q)
look_swept q index next = subst IsSwept (sym next) tt

pub push_swept : (q : Running) (index new : ℕ) → next_deed q ≡ deeds.Push index new → IsSwept (next_deed q)
push_swept q index new next = subst IsSwept (sym next) tt

-- ---- behind a sweep

pub inside_swept : {s k : Inside} → IsInsideSeated s → IsSameBut s k → k.seat.table_id ≡ s.seat.table_id
    → HasComeBySweep k.seat.table_id.words s.member k.seat.me k.member → IsInsideSeated k
inside_swept {s} {k} is but table come =
    let (words, taken) = come.taken in
    let (r, to, ahead) = come.seat in
    inside_after r is but to ahead (taken_told words s.member k.member taken) come.reached table

-- a deed of a sweep is one of a member that has not ended
pub swept_going : (r : Running) → IsSwept (next_deed r) → r.replica.end ≡ None
swept_going r swept = by (next_deed r) refl swept
  where
    by : (d : Deed) → next_deed r ≡ d → IsSwept d → r.replica.end ≡ None
    by (deeds.Look index) next swept = (deed_tells [] r (deeds.Look index) next).none
    by (deeds.Push index word) next swept = (deed_tells [] r (deeds.Push index word) next).none
    by d next swept = absurd swept
