-- The numbers by which a member finds words of the table: the indices that they give, and that deeds within a
-- view keep them.
use Rattle.std.proofs.Common.{◌≡◌, sym, ap, subst, ◌∙◌, ℕ, ◌+◌, ◌^◌, ◌<◌, ◌≤◌, List, slice_index, arith}
use Rattle.dr_words.{specs.Columns.columns_of, proofs.Layouts.{behind_first, AreNoted}}
use Rattle.dr_words.proofs.Places.{word_index_within, below}
use Rattle.dr_program.specs.{Form.HasForm, Replica.{Replica, me}, Running.{Running, members, columns}, Steps.index_in}
use Rattle.dr_member.specs.{Bases.{AreBases, AreBasesOf}, Deeds.table_size, Inside.{IsInsideMember, member_inside}}
use Rattle.dr_member.specs.declared.{bases.Bases.Bases, member.Member.TheInside.Inside}

-- ---- the indices

-- a sum is the index of a word of the member's bank
pub record IsIndex (r : Running) (sum copy row column : ℕ) : Type 0 where
  pub index : sum ≡ index_in r.replica copy row column
  pub within : index_in r.replica copy row column < table_size r
  pub small : sum < 2 ^ 64

pub is_index : (r : Running) (sum copy row column : ℕ) → HasForm r.replica → r.replica.view < 2 ^ 8 → copy < members r
    → row < members r → column < columns r → sum ≡ index_in r.replica copy row column → IsIndex r sum copy row column
is_index r sum copy row column form small p q s e = record {
  index = e;
  within = word_index_within r.replica.roster r.replica.window r.replica.banks r.replica.view copy row
      column form.bank p q s;
  small = subst (λ (x : ℕ). x < 2 ^ 64) (sym e)
      (below r.replica.roster r.replica.window r.replica.view copy row column
      (omega (arith, form.rows.few, form.members)) form.most_slots small p q s);
}

-- a sum that is one where the member stands inside is one of the member that contracts see
index_at : (now : Running) (a : Inside) (sum : ℕ) (copy row : Running → ℕ) (column : ℕ) → member_inside a ≡ now
    → IsInsideMember a → copy (member_inside a) < a.replica.roster → row (member_inside a) < a.replica.roster
    → column < columns now → sum ≡ index_in a.replica (copy (member_inside a)) (row (member_inside a)) column
    → IsIndex now sum (copy now) (row now) column
index_at now a sum copy row column view is p q l e =
    subst (λ (r : Running). IsIndex r sum (copy r) (row r) column) view
    (is_index (member_inside a) sum (copy (member_inside a)) (row (member_inside a)) column is.form.replica is.bases.small p q
    (subst (λ (r : Running). column < columns r) (sym view) l) e)

-- its own row is one of its roster
pub me_within : (a : Inside) → IsInsideMember a → me a.replica < a.replica.roster
me_within a is = omega (arith, is.form.replica.rows.present, is.form.replica.members)

-- a look reads the table at the member's own copy of that row's word
pub look_at : (now : Running) (a : Inside) (i c : ℕ) → member_inside a ≡ now → IsInsideMember a → i < members now
    → c < columns now → IsIndex now (slice_index a.bases.looks i + c) (me now.replica) i c
look_at now a i c view is row column =
    let within : i < a.replica.roster = subst (λ (r : Running). i < members r) (sym view) row in
    index_at now a (slice_index a.bases.looks i + c) (λ r. me r.replica)
    (λ r. i) c view is (me_within a is) within column (ap (λ n. n + c) (is.bases.are.looks i within)
    ∙ behind_first a.replica.roster a.replica.window a.replica.view (me a.replica) i c)

-- a push writes the table at the row's copy of the member's own word
pub push_at : (now : Running) (a : Inside) (j c : ℕ) → member_inside a ≡ now → IsInsideMember a → j < members now
    → c < columns now → IsIndex now (slice_index a.bases.pushes j + c) j (me now.replica) c
push_at now a j c view is row column =
    let within : j < a.replica.roster = subst (λ (r : Running). j < members r) (sym view) row in
    index_at now a (slice_index a.bases.pushes j + c) (λ r. j)
    (λ r. me r.replica) c view is within (me_within a is) column (ap (λ n. n + c) (is.bases.are.pushes j within)
    ∙ behind_first a.replica.roster a.replica.window a.replica.view j (me a.replica) c)

-- ---- the beginning

-- bases made of the replica's sizes are the replica's
pub made : (r : Replica) (n w v m k others : ℕ) (looks pushes : List ℕ) → n ≡ r.roster → w ≡ r.window
    → v ≡ r.view → m ≡ me r → v < 2 ^ 8 → k ≡ columns_of n w → n ≤ others → AreNoted n w v m others looks pushes
    → AreBases (record { columns = k; looks = looks; pushes = pushes }) r
made r n w v m k others looks pushes en ew ev em small columns all noted = record {
  are = subst (λ (s : ℕ × ℕ × ℕ × ℕ). AreBasesOf (record { columns = k; looks = looks; pushes = pushes })
      s.0 s.1 s.2 s.3) (λ z. (en z, ew z, ev z, em z)) (record {
        columns = columns;
        looks = λ i lt. noted.looks i (omega (arith, lt, all));
        pushes = λ j lt. noted.pushes j (omega (arith, lt, all));
      });
  small = subst (λ (x : ℕ). x < 2 ^ 8) ev small;
}

-- ---- the deeds

-- what of a replica its bases rest on: its roster, its window, its view, and its own number
abbrev pub footing : Replica → ℕ × ℕ × ℕ × ℕ
footing r = (r.roster, r.window, r.view, me r)

-- where that stays, they stay
pub bases_stay : (b : Bases) (r q x : Replica) → q ≡ x → footing x ≡ footing r → AreBases b r → AreBases b q
bases_stay b r q x e stays f =
    let same : footing r ≡ footing q = sym (ap footing e ∙ stays) in
    record {
      are = subst (λ (s : ℕ × ℕ × ℕ × ℕ). AreBasesOf b s.0 s.1 s.2 s.3) same f.are;
      small = subst (λ (v : ℕ). v < 2 ^ 8) (λ z. (same z).2) f.small;
    }

-- the kept number of columns is that of such a replica
pub columns_after : (a : Inside) (q x : Replica) → IsInsideMember a → q ≡ x → footing x ≡ footing a.replica
    → a.bases.columns ≡ columns_of q.roster q.window
columns_after a q x is e stays = (bases_stay a.bases a.replica q x e stays is.bases).are.columns
