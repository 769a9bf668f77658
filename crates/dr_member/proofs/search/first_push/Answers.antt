use Rattle.std.proofs.Common.{◌≡◌, ℕ, ◌<◌, true, sym, subst, ◌∙◌}
use Rattle.dr_words.specs.Columns.{columns_of}
use Rattle.dr_program.specs.{Replica.is_other, Turn.{columns_in, rows_in}, declared.place.Part.Part}
use Rattle.dr_program.proofs.{Replicas.cell_test, Search.push_applies}
use Rattle.dr_member.{specs.Search.standing, proofs.Passing.{pushes_idle, pushes_nobody, pushes_nothing}}
use Rattle.dr_member.proofs.search.first_push.Goals as goal

pub returns-then-not-is_other : goal.returns-then-not-is_other
returns-then-not-is_other c = λ x l h. pushes_nobody c.args.replica.now c.args.fate.now c.args.place x c.requires.part
    (sym c.is_other.ensures ∙ c.if-not-is_other.true)

pub returns-then-not-has_pushes : goal.returns-then-not-has_pushes
returns-then-not-has_pushes c = λ x l h.
    pushes_nothing c.args.replica.now c.args.fate.now c.args.place x c.requires.part
    (sym (c.has_pushes.ensures c.args.place) ∙ c.if-not-has_pushes.true)

pub returns-then-next-columns : goal.returns-then-next-columns
returns-then-next-columns c =
    let replica = c.args.replica.now in
    let p = c.args.place in
    let next : ℕ = c.next_changed-next.result in
    let other : is_other replica p.row ≡ true = sym c.is_other.ensures ∙ c.if-not-is_other.false in
    let within : next < columns_of replica.roster replica.window = subst (λ (n : ℕ). next < n)
    (c.columns-columns.ensures ∙ (λ z. columns_of (c.shape.ensures.members z) (c.shape.ensures.window z)))
    c.if-next-columns.true in
    let row : p.row < replica.roster =
    subst (λ (x : Part). p.row < rows_in replica.roster x) c.requires.part c.requires.underway.place.row in
    record {
      later = c.next_changed-next.ensures.from;
      within = subst (λ (x : Part). next < columns_in (columns_of replica.roster replica.window) x)
          (sym c.requires.part) within;
      idle = λ x l h. pushes_idle replica c.args.fate.now p x c.requires.part
          (c.next_changed-next.ensures.unchanged x l h);
      due = push_applies (standing replica c.args.fate.now p) (record p { column = next }) c.requires.part other
          (sym (c.has_pushes.ensures p) ∙ c.if-not-has_pushes.false)
          (c.next_changed-next.ensures.changed within) (cell_test replica p.row next row other within);
    }
