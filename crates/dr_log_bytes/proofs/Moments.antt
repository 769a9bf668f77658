-- What a crash leaves at each moment of an append of records behind one gate.
use Rattle.std.proofs.Common.{Bool, List, ℕ, ◌≡◌, ◌+◌, ◌<◌, length, [], ◌∷◌, ◌++◌, sym, ap, ◌∙◌, append_assoc, arith}
use Rattle.dr_entry.{specs.declared.record.Record.Record, proofs.ListFacts.IsWhole}
use Rattle.dr_log_bytes.specs.Content.{OnLog, content_after, empty_of, ArePlaced}
use Rattle.dr_log_bytes.specs.Grammar.{AreSpelled, IsLog, blocks, magic_of}
use Rattle.dr_log_bytes.proofs.Grammars.{HasNoneOrAll, placed-append, blocks-append, spelled-append}

-- what the records of a log make
abbrev pub made_by : Bool → List Record → OnLog
made_by f rs = content_after (empty_of f) rs

-- what images of a log stand for, where these records are new
abbrev pub Stands : Bool → List Record → List Record → List ℕ → Type 0
Stands f rs news bytes = HasNoneOrAll (made_by f rs) news bytes

-- what a group stands behind
pub record Behind (old : List ℕ) (f : Bool) (rs : List Record) (q p : ℕ) (news : List Record) : Type 0 where
  pub log : IsLog old f rs
  pub whole : IsWhole f old
  pub gate : q ≡ 8 + length (blocks rs)
  pub place : p ≡ q + 1
  pub some : 0 < length news
  pub fit : AreSpelled news
  pub placed : ArePlaced (made_by f rs) news

-- with the gate open they are a log with the new records
group_log : (bytes tail x : List ℕ) (f : Bool) (rs news : List Record) → AreSpelled rs
    → ArePlaced (empty_of f) rs → AreSpelled news → ArePlaced (made_by f rs) news → 1 ∷ x ≡ blocks news ++ 0 ∷ []
    → bytes ≡ (magic_of f ++ blocks rs) ++ (1 ∷ (x ++ tail)) → IsLog bytes f (rs ++ news)
group_log bytes tail x f rs news spelled stood fit placed are is = record {
  spelled = spelled-append rs news spelled fit;
  placed = placed-append (empty_of f) rs news stood placed;
  gate = 0;
  closed = λ e. absurd (omega (arith, e));
  rest = tail;
  parts = is ∙ ap (λ (l : List ℕ). (magic_of f ++ blocks rs) ++ (l ++ tail)) are
      ∙ ap (λ (l : List ℕ). (magic_of f ++ blocks rs) ++ l) (append_assoc (blocks news) (0 ∷ []) tail)
      ∙ append_assoc (magic_of f) (blocks rs) (blocks news ++ (0 ∷ tail))
      ∙ ap (λ (l : List ℕ). magic_of f ++ l) (sym (append_assoc (blocks rs) (blocks news) (0 ∷ tail)))
      ∙ ap (λ (l : List ℕ). magic_of f ++ (l ++ (0 ∷ tail))) (sym (blocks-append rs news));
}

-- the same behind a log
pub opened_log : (old bytes tail x : List ℕ) (f : Bool) (rs : List Record) (q p : ℕ) (news : List Record)
    → Behind old f rs q p news → 1 ∷ x ≡ blocks news ++ 0 ∷ []
    → bytes ≡ (magic_of f ++ blocks rs) ++ (1 ∷ (x ++ tail)) → IsLog bytes f (rs ++ news)
opened_log old bytes tail x f rs q p news b are is =
    group_log bytes tail x f rs news b.log.spelled b.log.placed b.fit b.placed are is
