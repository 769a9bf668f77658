-- What a member sent, and how members ended.
use Rattle.std.specs.Prelude.{find, Option, None, is_some, IsTrue, unwrap_or}
use Rattle.std.proofs.Common.{ℕ, ◌==◌, Bool, false, ◌≡◌, ◌≢◌, refl, ap, true, ◌∙◌, inl, inr, zero, suc, cond, List, [], ◌∷◌, Some, slice_get, ◌||◌, ◌⊎◌}
use Rattle.std.proofs.lemmas.{Bool.{ne_eqb, eq-eqb, cases_Bool}, Option.{none-some, same_Some}}
use Rattle.dr_entry.specs.declared.end.{End.End, MemberEnd.MemberEnd, SentItem.{SentItem, TheVariants.{Null, Index}}}
use Rattle.dr_entry.specs.declared.end.End.TheVariants as ends

-- whether an item is the message with this index
unfoldable pub is_message : ℕ → SentItem → Bool
is_message i Null = false
is_message i (Index j) = j == i

pub is_message-other : (i : ℕ) (item : SentItem) → item ≢ Index i → is_message i item ≡ false
unfolding is_message
is_message-other i Null apart = refl
is_message-other i (Index j) apart = ne_eqb j i (λ e. apart (ap Index e))

pub is_message-same : (i : ℕ) (item : SentItem) → item ≡ Index i → is_message i item ≡ true
unfolding is_message
is_message-same i Null e = absurd (cc)
is_message-same i (Index j) e = eq-eqb j i (cc)

-- where some end passes, the first that does is found
pub first_found : (p : MemberEnd → Bool) (es : List MemberEnd) (s : ℕ) (e : MemberEnd) → slice_get es s ≡ Some e
    → p e ≡ true → (i : ℕ) × (f : MemberEnd) × (slice_get es i ≡ Some f) × (p f ≡ true) × (find p es ≡ Some f)
first_found p [] s e at passes = absurd (none-some e at)
first_found p (x ∷ es) zero e at passes = (zero, x, refl, is, ap (λ b. cond b (Some x) (find p es)) is)
  where
    is : p x ≡ true
    is = ap p (same_Some x e at) ∙ passes
first_found p (x ∷ es) (suc s) e at passes = elim (cases_Bool (p x)) [
  | inl here ↦ (zero, x, refl, here, ap (λ b. cond b (Some x) (find p es)) here)
  | inr past ↦
      let f = first_found p es s e at passes in
      (suc f.0, f.1, f.2, f.3, ap (λ b. cond b (Some x) (find p es)) past ∙ f.4)
]

pub awake : (o : Option End) (b : Bool) → (is_some o || b) ≡ true → o ≡ None → b ≡ true
awake None b e none = e
awake (Some x) b e none = absurd (cc)

-- the search stops at a member that has ended
pub stops_end : (o : Option End) (b : Bool) → is_some o ≡ true → (is_some o || b) ≡ true
stops_end None b e = absurd (cc)
stops_end (Some x) b e = refl

-- the search doesn't stop at a member that has not ended and has nothing to do there
pub stops_not : (o : Option End) (b : Bool) → o ≡ None → b ≡ false → (is_some o || b) ≡ false
stops_not None b none e = e
stops_not (Some x) b none e = absurd (cc)

pub index_is : (i j : ℕ) → ◌≡◌ {A = SentItem} (Index i) (Index j) → i ≡ j
index_is i j e = cc

-- who has ended as done is told so
pub told_done : (o : Option End) → IsTrue (is_some o) → unwrap_or o ends.Done ≡ ends.Done → o ≡ Some ends.Done
told_done None some e = absurd (cc)
told_done (Some end) some e = ap Some e

-- a member that is not between turns goes on
pub going : (o : Option End) (b : Bool) → (is_some o || b) ≡ false → (o ≡ None) × (b ≡ false)
going None b e = (refl, e)
going (Some end) b e = absurd (cc)

-- a member goes on, or has ended as done
abbrev pub IsUpright : Option End → Type 0
IsUpright end = (end ≡ None) ⊎ (end ≡ Some ends.Done)

-- an end that is there, of a member that goes on or has ended as done
pub upright_end : (o : Option End) → IsUpright o → IsTrue (is_some o) → o ≡ Some ends.Done
upright_end o (inl none) ended = absurd (cc (ap is_some none, ended))
upright_end o (inr is_done) ended = is_done

-- a member that hasn't ended stands where a turn begins
pub at_beginning : (o : Option End) (beat : Bool) → is_some o ≡ false → (is_some o || beat) ≡ true
    → (o ≡ None) × (beat ≡ true)
at_beginning None beat going e = (refl, e)
at_beginning (Some end) beat going e = absurd (cc)

-- a member is upright, or has its turns spent and hasn't crashed
abbrev pub IsUprightOrSpent : ℕ → ℕ → Option End → Type 0
IsUprightOrSpent limit turns end = IsUpright end ⊎ ((turns ≡ limit) × (end ≢ Some ends.Crashed))

pub uncrashed : (limit turns : ℕ) (end : Option End) → IsUprightOrSpent limit turns end → end ≢ Some ends.Crashed
uncrashed limit turns end (inl (inl none)) e = cc
uncrashed limit turns end (inl (inr is_done)) e = cc
uncrashed limit turns end (inr spent) e = spent.1 e
