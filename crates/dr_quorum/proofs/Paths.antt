-- The path of the views that votes name, walked from View 0 on.
use Rattle.std.proofs.Common.{◌≡◌, refl, ap, sym, ◌∙◌, subst, ◌⊎◌, inl, inr, ℕ, ◌+◌, ◌<◌, ◌≤◌, arith, List, Option, None, Some}
use Rattle.std.proofs.lemmas.{Bool.cases_lt, Option.{none-some, same_Some}}
use Rattle.dr_restart.specs.{Choosing.{HasQuorum, next_on_path, on_path}, Refusing.{HasPath, LacksPath, LacksQuorum}}
use Rattle.dr_restart.{specs.declared.lists.LogLists.LogLists, proofs.Choosing.{path_more, path_ends, path_past}}
use Rattle.dr_quorum.specs.Handing.{handed_by}

-- the path has come to this view, with these members, and each view before it has a majority handed in
pub record IsWalked (logs : List (Option LogLists)) (n age first view members : ℕ) : Type 0 where
  pub here : on_path (handed_by logs) n age first view ≡ Some members
  pub before : (v earlier : ℕ) → v < view → on_path (handed_by logs) n age first v ≡ Some earlier
      → HasQuorum (handed_by logs) earlier

pub none_walked : (logs : List (Option LogLists)) (n age first : ℕ) → IsWalked logs n age first 0 first
unfolding on_path
none_walked logs n age first = record { here = refl; before = λ v earlier l e. absurd (omega (arith, l)) }

quorum_up : (logs : List (Option LogLists)) (n age first view members : ℕ)
    → IsWalked logs n age first view members → HasQuorum (handed_by logs) members → (v earlier : ℕ)
    → v < view + 1 → on_path (handed_by logs) n age first v ≡ Some earlier → HasQuorum (handed_by logs) earlier
quorum_up logs n age first view members w q v earlier l e = by (cases_lt v view)
  where
    same : v ≡ view → Some members ≡ Some earlier
    same z = sym w.here ∙ (ap (on_path (handed_by logs) n age first) (sym z) ∙ e)

    by : (v < view) ⊎ (view ≤ v) → HasQuorum (handed_by logs) earlier
    by (inl f) = w.before v earlier f e
    by (inr f) = subst (HasQuorum (handed_by logs)) (same_Some members earlier (same (omega (arith, f, l)))) q

pub one_walked : (logs : List (Option LogLists)) (n age first view members next : ℕ) → view < 255
    → IsWalked logs n age first view members → HasQuorum (handed_by logs) members
    → Some next ≡ next_on_path (handed_by logs) n age view members → IsWalked logs n age first (view + 1) next
one_walked logs n age first view members next l w q e = record {
  here = path_more (handed_by logs) n age first view members w.here l ∙ sym e;
  before = quorum_up logs n age first view members w q;
}

-- a path that ends behind a view, all of whose views have a majority handed in
whole : (logs : List (Option LogLists)) (n age first view members : ℕ)
    → IsWalked logs n age first view members → HasQuorum (handed_by logs) members
    → on_path (handed_by logs) n age first (view + 1) ≡ None → HasPath n (handed_by logs) age first
whole logs n age first view members w q end v earlier e = by (cases_lt v (view + 1))
  where
    by : (v < view + 1) ⊎ (view + 1 ≤ v) → HasQuorum (handed_by logs) earlier
    by (inl f) = quorum_up logs n age first view members w q v earlier f e
    by (inr f) = absurd (none-some earlier (sym (path_ends (handed_by logs) n age first (view + 1) v end f) ∙ e))

pub ended_walk : (logs : List (Option LogLists)) (n age first view members : ℕ) → view < 255
    → IsWalked logs n age first view members → HasQuorum (handed_by logs) members
    → None ≡ next_on_path (handed_by logs) n age view members → HasPath n (handed_by logs) age first
ended_walk logs n age first view members l w q e = whole logs n age first view members w q
    (path_more (handed_by logs) n age first view members w.here l ∙ sym e)

pub last_walk : (logs : List (Option LogLists)) (n age first members : ℕ) → IsWalked logs n age first 255 members
    → HasQuorum (handed_by logs) members → HasPath n (handed_by logs) age first
last_walk logs n age first members w q = whole logs n age first 255 members w q (path_past (handed_by logs) n age first)

pub lacks_walk : (logs : List (Option LogLists)) (n age first view members have need : ℕ)
    → IsWalked logs n age first view members → LacksQuorum (handed_by logs) members have need
    → LacksPath n (handed_by logs) age first view have need
lacks_walk logs n age first view members have need w l = record {
  members = members;
  here = w.here;
  before = w.before;
  lacks = l;
}
