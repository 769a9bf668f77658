use Rattle.std.{specs.Prelude.IfOk, proofs.Common.{◌≡◌, ◌⊎◌, inl, inr, sym, ◌∙◌, subst, arith, Some, ℕ, List, get_or}}
use Rattle.dr_entry.specs.declared.entry.Entry.TheVariants.{View, Msg}
use Rattle.dr_check.specs.{Lines.IsLineText, declared.line.Line.{Line, TheVariants.Entry as EntryLine}}
use Rattle.dr_check.proofs.LineFields.{of_entry}
use Rattle.dr_check.proofs.lines.read_entry.Goals as goal

pub returns-then-byte_at-eq118-clause-only : goal.returns-then-byte_at-eq118-clause-only
returns-then-byte_at-eq118-clause-only c l lead is = by (of_entry l c.args.bytes.now lead is)
  where
    by : ((a : ℕ) × (n : ℕ) × (m : ℕ) × (l ≡ EntryLine (View a n m)) × (get_or c.args.bytes.now 2 0 ≡ 118))
        ⊎ ((s : ℕ) × (i : ℕ) × (b : List ℕ) × (l ≡ EntryLine (Msg s i b)) × (get_or c.args.bytes.now 2 0 ≡ 109))
        → IfOk c.read_view.result (λ line. line ≡ Some l)
    by (inl k) = subst (λ (x : Line). IfOk c.read_view.result (λ line. line ≡ Some x)) (sym k.3)
        (c.read_view.ensures.only k.0 k.1 k.2 (subst (λ (x : Line). IsLineText x c.args.bytes.now) k.3 is))
    by (inr k) = absurd (omega (arith, k.4, c.byte_at.ensures, c.if-byte_at-eq118.true))

pub returns-else-byte_at-eq118-clause-only : goal.returns-else-byte_at-eq118-clause-only
returns-else-byte_at-eq118-clause-only c l lead is = by (of_entry l c.args.bytes.now lead is)
  where
    by : ((a : ℕ) × (n : ℕ) × (m : ℕ) × (l ≡ EntryLine (View a n m)) × (get_or c.args.bytes.now 2 0 ≡ 118))
        ⊎ ((s : ℕ) × (i : ℕ) × (b : List ℕ) × (l ≡ EntryLine (Msg s i b)) × (get_or c.args.bytes.now 2 0 ≡ 109))
        → IfOk c.read_message.result (λ line. line ≡ Some l)
    by (inl k) = absurd (c.if-byte_at-eq118.false (c.byte_at.ensures ∙ k.4))
    by (inr k) = subst (λ (x : Line). IfOk c.read_message.result (λ line. line ≡ Some x)) (sym k.3)
        (c.read_message.ensures.only k.0 k.1 k.2 (subst (λ (x : Line). IsLineText x c.args.bytes.now) k.3 is))
