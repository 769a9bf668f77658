-- How far the writing of a text has come.
use Rattle.std.specs.List.{concat, flat_map}
use Rattle.std.proofs.Common.{◌≡◌, ℕ, ◌+◌, ◌-◌, ◌≤◌, ◌<◌, List, ◌++◌, length, take, drop, get_or, Option, sym, subst, ap, ◌∙◌, arith, length-append}
use Rattle.std.proofs.{Math.Seq.take-append-add, lemmas.List.{take-append-le, Concat.concat_is}}
use Rattle.dr_entry.proofs.ListFacts.{text_parts, text_more}
use Rattle.dr_io.{specs.Sink.Gains, proofs.KnownLemmas.gains_more}
use Rattle.dr_text.specs.Writing.{WroteFront}

-- this text was written so far, and no call failed
pub record HasWritten (old new : Option (List ℕ)) (before after : ℕ) (text : List ℕ) : Type 0 where
  pub gained : Gains old new text
  pub calm : after ≡ before

-- so many bytes of the text were written so far, and no call failed
pub record WritesSoFar (old new : Option (List ℕ)) (before after : ℕ) (text : List ℕ) (at : ℕ) : Type 0 where
  pub gained : Gains old new (take at text)
  pub within : at ≤ length text
  pub calm : after ≡ before

-- a front part of a text is one of a longer text
pub front_longer : (old new : Option (List ℕ)) (text more : List ℕ)
    → WroteFront old new text → WroteFront old new (text ++ more)
front_longer old new text more front = record {
  count = front.count;
  part = omega (arith, front.part, length-append text more);
  gained = subst (Gains old new) (sym (take-append-le front.count text more front.part)) front.gained;
}

-- what was written, and then a front part, are a front part of both
pub front_behind : (old now new : Option (List ℕ)) (first text : List ℕ)
    → Gains old now first → WroteFront now new text → WroteFront old new (first ++ text)
front_behind old now new first text gained front = record {
  count = length first + front.count;
  part = omega (arith, front.part, length-append first text);
  gained = subst (Gains old new) (sym (take-append-add first text front.count))
      (gains_more old now new first (take front.count text) gained front.gained);
}

-- the first elements' texts, and then a front part of the next one's, are a front part of all
pub front_of_list : {A : Type 0} (f : A → List ℕ) (xs : List A) (i : ℕ) (x : A)
    (old now new : Option (List ℕ)) → i < length xs → x ≡ get_or xs i x
    → Gains old now (flat_map f (take i xs)) → WroteFront now new (f x) → WroteFront old new (flat_map f xs)
front_of_list f xs i x old now new below is gained front = subst (WroteFront old new) (sym parts)
    (front_longer old new (flat_map f (take i xs) ++ f x) (flat_map f (drop (i + 1) xs))
    (front_behind old now new (flat_map f (take i xs)) (f x) gained front))
  where
    parts : flat_map f xs ≡ (flat_map f (take i xs) ++ f x) ++ flat_map f (drop (i + 1) xs)
    parts = text_parts f xs (i + 1) ∙ ap (λ l. l ++ flat_map f (drop (i + 1) xs)) (text_more f xs i x below is)

-- the same of texts themselves
pub front_of_texts : (xs : List (List ℕ)) (i : ℕ) (x : List ℕ) (old now new : Option (List ℕ)) → i < length xs
    → x ≡ get_or xs i x → Gains old now (concat (take i xs)) → WroteFront now new x → WroteFront old new (concat xs)
front_of_texts xs i x old now new below is gained front = subst (WroteFront old new) (sym (concat_is xs))
    (front_of_list (λ x. x) xs i x old now new below is (subst (Gains old now) (concat_is (take i xs)) gained) front)
