use Rattle.std.{specs.Prelude.IfOk, proofs.Common.{◌≡◌, ◌⊎◌, inl, inr, sym, ◌∙◌, subst, Some, ℕ}}
use Rattle.std.proofs.lemmas.Bool.Decides.{not_from_Decides}
use Rattle.dr_check.specs.{Lines.IsLineText, declared.line.Line.{Line, TheVariants.{Absent, Present}}}
use Rattle.dr_check.proofs.LineFields.{absent_word, of_member, present_word}
use Rattle.dr_check.proofs.lines.read_member.Goals as goal

pub returns-then-is_absent-clause-only : goal.returns-then-is_absent-clause-only
returns-then-is_absent-clause-only c l lead is = by (of_member l c.args.bytes.now lead is)
  where
    by : ((m : ℕ) × (l ≡ Absent m)) ⊎ ((m : ℕ) × (h : ℕ) × (lo : ℕ) × (d : ℕ) × (l ≡ Present m h lo d))
        → IfOk c.read_absent.result (λ line. line ≡ Some l)
    by (inl k) = subst (λ (x : Line). IfOk c.read_absent.result (λ line. line ≡ Some x)) (sym k.1)
        (c.read_absent.ensures.only k.0 (subst (λ (x : Line). IsLineText x c.args.bytes.now) k.1 is))
    by (inr k) = absurd (present_word c.args.bytes.now k.0 k.1 k.2 k.3
        (subst (λ (x : Line). IsLineText x c.args.bytes.now) k.4 is)
        (sym c.field.ensures ∙ c.is_absent.ensures.0 c.if-is_absent.true))

pub returns-else-is_absent-clause-only : goal.returns-else-is_absent-clause-only
returns-else-is_absent-clause-only c l lead is = by (of_member l c.args.bytes.now lead is)
  where
    by : ((m : ℕ) × (l ≡ Absent m)) ⊎ ((m : ℕ) × (h : ℕ) × (lo : ℕ) × (d : ℕ) × (l ≡ Present m h lo d))
        → IfOk c.read_present.result (λ line. line ≡ Some l)
    by (inl k) = absurd (not_from_Decides c.is_absent.result c.is_absent.ensures c.if-is_absent.false (c.field.ensures
        ∙ absent_word c.args.bytes.now k.0 (subst (λ (x : Line). IsLineText x c.args.bytes.now) k.1 is)))
    by (inr k) = subst (λ (x : Line). IfOk c.read_present.result (λ line. line ≡ Some x)) (sym k.4)
        (c.read_present.ensures.only k.0 k.1 k.2 k.3 (subst (λ (x : Line). IsLineText x c.args.bytes.now) k.4 is))
