-- The vote of the highest ballot, as votes come one by one.
use Rattle.std.{specs.{List.flat_map, Option.option_map_or}, proofs.Math.Seq.take-suc}
use Rattle.std.proofs.Common.{◌≡◌, refl, ap, sym, ◌∙◌, ℕ, ◌<◌, ◌+◌, filter, take, get_or, suc, length, nat_lt, arith, Bool, true, false, if◌then◌else◌, List, [], ◌∷◌, ◌++◌, Option, None, Some}
use Rattle.std.proofs.lemmas.{Grind.flat_map-append, List.{append-nil, append_assoc, Elements.filter-append}}
use Rattle.dr_history.{specs.Members.{has, members_below, members_of}, proofs.MemberLemmas.members_below_more}
use Rattle.dr_restart.specs.{Choosing.{names_next, next_votes, highest}, declared.lists.LogLists.LogLists}
use Rattle.dr_entry.specs.declared.record.Vote.{Vote}
use Rattle.dr_quorum.specs.{Ballots.better, Handing.handed_by}

abbrev first_of : Vote → Option Vote → Vote
first_of x o = option_map_or (λ y. if nat_lt x.ballot y.ballot then y else x) o x

-- the first of three that has the highest ballot, whichever two are compared first
three : (x z y : Vote) → (a b c d : Bool) → nat_lt z.ballot y.ballot ≡ a → nat_lt x.ballot z.ballot ≡ b
    → nat_lt x.ballot y.ballot ≡ c → first_of x (Some (better (Some z) y)) ≡ better (Some (first_of x (Some z))) y
three x z y true true true d p q r = grind (arith, p, q, r)
three x z y true true false d p q r = absurd (grind (arith, p, q, r))
three x z y true false c d p q r = grind (arith, p, q, r)
three x z y false true c d p q r = grind (arith, p, q, r)
three x z y false false c d p q r = grind (arith, p, q, r)

pub highest-more : (xs : List Vote) (y : Vote) → highest (xs ++ y ∷ []) ≡ Some (better (highest xs) y)
unfolding highest
highest-more [] y = refl
highest-more (x ∷ xs) y = ap (λ o. Some (first_of x o)) (highest-more xs y) ∙ by (highest xs)
  where
    by : (o : Option Vote) → Some (first_of x (Some (better o y))) ≡ Some (better (Some (first_of x o)) y)
    by None = refl
    by (Some z) = ap Some (three x z y (nat_lt z.ballot y.ballot) (nat_lt x.ballot z.ballot)
        (nat_lt x.ballot y.ballot) true refl refl refl)

-- the votes that name the next view on the logs of the members below m
abbrev pub votes_of_member : List (Option LogLists) → ℕ → ℕ → ℕ → ℕ → ℕ → List Vote
votes_of_member logs n age v members m =
    filter (names_next n age v members) (option_map_or (λ log. log.votes) (handed_by logs m) [])

abbrev pub votes_below : List (Option LogLists) → ℕ → ℕ → ℕ → ℕ → ℕ → List Vote
votes_below logs n age v members m = flat_map (votes_of_member logs n age v members) (members_below members m)

pub votes_below-more : (logs : List (Option LogLists)) (n age v members m : ℕ) → has members m ≡ true
    → votes_below logs n age v members (m + 1) ≡ votes_below logs n age v members m
    ++ votes_of_member logs n age v members m
votes_below-more logs n age v members m h = ap (flat_map (votes_of_member logs n age v members))
    (members_below_more members m ∙ ap (λ b. members_below members m ++ (if b then m ∷ [] else [])) h)
    ∙ flat_map-append (votes_of_member logs n age v members) (members_below members m) (m ∷ [])
    ∙ ap (λ ys. votes_below logs n age v members m ++ ys) (append-nil (votes_of_member logs n age v members m))

pub votes_below-other : (logs : List (Option LogLists)) (n age v members m : ℕ) → has members m ≡ false
    → votes_below logs n age v members (m + 1) ≡ votes_below logs n age v members m
votes_below-other logs n age v members m h =
    ap (flat_map (votes_of_member logs n age v members)) (members_below_more members m
    ∙ ap (λ b. members_below members m ++ (if b then m ∷ [] else [])) h ∙ append-nil (members_below members m))

-- one vote more
pub highest-one : (p : Vote → Bool) (before xs : List Vote) (y : Vote) (b : Bool) (o : Option Vote) → p y ≡ b
    → o ≡ highest (before ++ filter p xs)
    → (if b then Some (better o y) else o) ≡ highest (before ++ filter p (xs ++ y ∷ []))
highest-one p before xs y true o e h = ap (λ z. Some (better z y)) h ∙ sym (highest-more (before ++ filter p xs) y)
    ∙ ap highest (append_assoc before (filter p xs) (y ∷ []) ∙ ap (λ ys. before ++ ys)
    (ap (λ b. filter p xs ++ (if b then y ∷ [] else [])) (sym e) ∙ sym (filter-append p xs (y ∷ []))))
highest-one p before xs y false o e h = h ∙ ap (λ ys. highest (before ++ ys)) (sym (append-nil (filter p xs))
    ∙ (ap (λ b. filter p xs ++ (if b then y ∷ [] else [])) (sym e) ∙ sym (filter-append p xs (y ∷ []))))

pub none_below_zero : (logs : List (Option LogLists)) (n age v members : ℕ)
    → None ≡ highest (votes_below logs n age v members 0)
unfolding highest members_below
none_below_zero logs n age v members = refl

pub highest-at : (p : Vote → Bool) (before xs : List Vote) (i : ℕ) (d : Vote) (b : Bool) (o : Option Vote)
    → i < length xs → p (get_or xs i d) ≡ b → o ≡ highest (before ++ filter p (take i xs))
    → (if b then Some (better o (get_or xs i d)) else o) ≡ highest (before ++ filter p (take (i + 1) xs))
highest-at p before xs i d b o within e h = highest-one p before (take i xs) (get_or xs i d) b o e h
    ∙ ap (λ ys. highest (before ++ filter p ys)) (sym (more ∙ take-suc xs i d within))
  where
    more : take (i + 1) xs ≡ take (suc i) xs
    more = let e : i + 1 ≡ suc i = omega arith in ap (λ k. take k xs) e

pub all_votes : (logs : List (Option LogLists)) (n age v members m : ℕ) → m ≡ 16
    → highest (votes_below logs n age v members m) ≡ highest (next_votes (handed_by logs) n age v members)
unfolding members_of members_below
all_votes logs n age v members m e = ap (λ k. highest (votes_below logs n age v members k)) e ∙ same
  where
    same : highest (votes_below logs n age v members 16) ≡ highest (next_votes (handed_by logs) n age v members)
    same = refl
