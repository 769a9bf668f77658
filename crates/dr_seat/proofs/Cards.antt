-- Cards: what stands at which place of their bytes, and that nothing else is one.
use Rattle.std.proofs.Common.{◌≡◌, ℕ, ◌-◌, List, [], ◌∷◌, ◌++◌, length, take, drop, refl, sym, ap, subst, ◌∙◌, append_assoc, arith, length-append, length-drop, length-take, slice_index}
use Rattle.std.proofs.lemmas.List.{drop_at, get_or-drop, take_at, take-append-drop}
use Rattle.sha2.{specs.Sha256.sha256, proofs.Facts256.length-sha256}
use Rattle.dr_entry.proofs.Fields.{drop-byte, drop-bytes}
use Rattle.dr_seat.specs.Cards.{HasCardForm, IsCardOf, card_front, card_magic, card_of, digest_on, group_on, member_on}

-- what stands behind the first bytes of a front
fields-before : (group digest : List ℕ) (me : ℕ) (rest : List ℕ)
    → (group ++ (digest ++ me ∷ [])) ++ rest ≡ group ++ (digest ++ me ∷ rest)
fields-before group digest me rest = append_assoc group (digest ++ me ∷ []) rest
    ∙ ap (λ (l : List ℕ). group ++ l) (append_assoc digest (me ∷ []) rest)

front-length : (group digest : List ℕ) (me : ℕ) → length group ≡ 16 → length digest ≡ 32
    → length (card_front group digest me) ≡ 57
front-length group digest me g d =
    omega (arith, length-append group (digest ++ me ∷ []), length-append digest (me ∷ []), g, d)

-- the digest at the end of a card
abbrev sum_of : List ℕ → List ℕ → ℕ → List ℕ
sum_of group digest me = take 8 (sha256 (card_front group digest me))

sum-length : (group digest : List ℕ) (me : ℕ) → length (sum_of group digest me) ≡ 8
sum-length group digest me = omega (
  arith,
  length-take 8 (sha256 (card_front group digest me)),
  length-sha256 (card_front group digest me),
)

tail-is : (group digest : List ℕ) (me : ℕ)
    → drop 8 (card_of group digest me) ≡ group ++ (digest ++ me ∷ sum_of group digest me)
tail-is group digest me = fields-before group digest me (sum_of group digest me)

-- ---- a card is read

pub form-of-card : (bytes group digest : List ℕ) (me : ℕ) → IsCardOf bytes group digest me → HasCardForm bytes
form-of-card bytes group digest me c = subst HasCardForm (sym c.is) (record {
  long = whole;
  begins = refl;
  summed = ap (λ (l : List ℕ). take 8 (sha256 l)) (take_at front sum (length (card_of group digest me) - 8) there)
      ∙ sym (drop_at front sum (length (card_of group digest me) - 8) there);
})
  where
    front : List ℕ
    front = card_front group digest me

    sum : List ℕ
    sum = sum_of group digest me

    long : length front ≡ 57
    long = front-length group digest me c.group_long c.digest_long

    whole : length (card_of group digest me) ≡ 65
    whole = omega (arith, length-append front sum, long, sum-length group digest me)

    there : length front ≡ length (card_of group digest me) - 8
    there = omega (arith, long, whole)

pub group-of-card : (bytes group digest : List ℕ) (me : ℕ) → IsCardOf bytes group digest me → group_on bytes ≡ group
group-of-card bytes group digest me c = ap group_on c.is ∙ ap (take 16) (tail-is group digest me)
    ∙ take_at group (digest ++ me ∷ sum_of group digest me) 16 c.group_long

pub digest-of-card : (bytes group digest : List ℕ) (me : ℕ) → IsCardOf bytes group digest me
    → digest_on bytes ≡ digest
digest-of-card bytes group digest me c = ap digest_on c.is
    ∙ ap (λ (l : List ℕ). take 32 (drop 16 l)) (tail-is group digest me)
    ∙ ap (take 32) (drop_at group (digest ++ me ∷ sum_of group digest me) 16 c.group_long)
    ∙ take_at digest (me ∷ sum_of group digest me) 32 c.digest_long

pub member-of-card : (bytes group digest : List ℕ) (me : ℕ) → IsCardOf bytes group digest me → member_on bytes ≡ me
member-of-card bytes group digest me c = ap member_on c.is
    ∙ ap (λ (l : List ℕ). slice_index l 48) (tail-is group digest me)
    ∙ sym (get_or-drop 48 (group ++ (digest ++ me ∷ sum_of group digest me)) 0 0)
    ∙ ap (λ (l : List ℕ). slice_index l 0) behind
  where
    behind : drop 48 (group ++ (digest ++ me ∷ sum_of group digest me)) ≡ me ∷ sum_of group digest me
    behind = ap (drop 48) (sym (append_assoc group digest (me ∷ sum_of group digest me)))
        ∙ drop_at (group ++ digest) (me ∷ sum_of group digest me) 48
        (omega (arith, length-append group digest, c.group_long, c.digest_long))

-- ---- what has the form of one is a card

parts-are : (bytes : List ℕ) → HasCardForm bytes
    → bytes ≡ card_front (group_on bytes) (digest_on bytes) (member_on bytes) ++ drop 57 bytes
parts-are bytes form = sym (take-append-drop 8 bytes) ∙ ap (λ (l : List ℕ). l ++ drop 8 bytes) form.begins
    ∙ ap (λ (l : List ℕ). card_magic ++ l) (drop-bytes 8 16 bytes
    ∙ ap (λ (l : List ℕ). group_on bytes ++ l) (drop-bytes 24 32 bytes
    ∙ ap (λ (l : List ℕ). digest_on bytes ++ l) (drop-byte 56 bytes (omega (arith, form.long))))
    ∙ sym (fields-before (group_on bytes) (digest_on bytes) (member_on bytes) (drop 57 bytes)))

pub card-of-form : (bytes : List ℕ) → HasCardForm bytes
    → IsCardOf bytes (group_on bytes) (digest_on bytes) (member_on bytes)
card-of-form bytes form = record {
  group_long = group;
  digest_long = digest;
  is = parts-are bytes form
      ∙ ap (λ (l : List ℕ). front ++ l) (sym ends ∙ ap (λ (l : List ℕ). take 8 (sha256 l)) taken);
}
  where
    group : length (group_on bytes) ≡ 16
    group = omega (arith, length-take 16 (drop 8 bytes), length-drop 8 bytes, form.long)

    digest : length (digest_on bytes) ≡ 32
    digest = omega (arith, length-take 32 (drop 24 bytes), length-drop 24 bytes, form.long)

    ends : take 8 (sha256 (take 57 bytes)) ≡ drop 57 bytes
    ends = let there : length bytes - 8 ≡ 57 = omega (arith, form.long) in
        subst (λ (n : ℕ). take 8 (sha256 (take n bytes)) ≡ drop n bytes) there form.summed

    front : List ℕ
    front = card_front (group_on bytes) (digest_on bytes) (member_on bytes)

    taken : take 57 bytes ≡ front
    taken = ap (take 57) (parts-are bytes form) ∙ take_at front (drop 57 bytes) 57
        (front-length (group_on bytes) (digest_on bytes) (member_on bytes) group digest)

-- it is one of the plan whose digest it has
pub card-of-plan : (bytes plan : List ℕ) → HasCardForm bytes → digest_on bytes ≡ plan
    → IsCardOf bytes (group_on bytes) plan (member_on bytes)
card-of-plan bytes plan form same =
    subst (λ (d : List ℕ). IsCardOf bytes (group_on bytes) d (member_on bytes)) same (card-of-form bytes form)
