-- A vote that waits is acted on.
use Rattle.std.specs.Prelude.{Option, None, Some, is_some}
use Rattle.std.proofs.Common.{◌≡◌, refl, sym, ap, ◌∙◌, not, true, inl, inr, arith}
use Rattle.dr_entry.specs.declared.record.Vote.{Vote}
use Rattle.dr_machine.specs.declared.step.Step.{Step}
use Rattle.dr_program.specs.{Replica.Replica, Running.{Running, WaitsAt, next_step, step_at}}
use Rattle.dr_program.specs.{Steps.{IsAppend, is_free}, Turn.part_of}

-- who has no vote that waits is free for any step
free_none : (q : Replica) (s : Step) → q.pending ≡ None → is_free q s ≡ true
free_none q s e = grind (arith, e)

-- what is due to a member whose vote waits acts on it
pub free_step : (r : Running) → WaitsAt r (part_of r.place) → is_free r.replica (next_step r) ≡ true
free_step r (inl none) = free_none r.replica (next_step r) none
free_step r (inr (inl e)) = ap (λ x. is_free r.replica (step_at r x r.place.row r.place.column)) e
free_step r (inr (inr t)) = ap (λ x. is_free r.replica (step_at r x r.place.row r.place.column)) t.0

-- an append is not for a member whose vote waits
free_append : (q : Replica) (s : Step) → IsAppend s → is_free q s ≡ not (is_some q.pending)
free_append q s is = grind (arith, is)

-- so it is due only where none waits
pub append_free : (r : Running) → WaitsAt r (part_of r.place) → IsAppend (next_step r) → r.replica.pending ≡ None
append_free r waits due = by r.replica.pending (sym (free_append r.replica (next_step r) due) ∙ free_step r waits)
  where
    by : (o : Option Vote) → not (is_some o) ≡ true → o ≡ None
    by None e = refl
    by (Some x) e = absurd (cc)
