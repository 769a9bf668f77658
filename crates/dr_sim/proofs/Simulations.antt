-- Simulated ages whose members come to the end of their work.
use Rattle.std.specs.Prelude.{IsTrue, Option, None, Some, is_some, option_map}
use Rattle.std.proofs.{Common.{◌≡◌, ap, ◌∙◌, inl, inr, map}, lemmas.Option.slice_get-map}
use Rattle.dr_entry.{specs.declared.end.{End.End, MemberEnd.MemberEnd}, proofs.ListParts.each_at}
use Rattle.dr_program.{specs.Program.{AllEnded, Program, end_at, end_of}, proofs.Present.{ended_there, present_slice}}
use Rattle.dr_program_laws.specs.Failing.{AreFailing}
use Rattle.dr_play.{specs.Logged.{NoneStopped, why_ended}, proofs.LoggedMembers.by_log}
use Rattle.dr_sim.specs.Simulated.{SomeFailed}

-- where no member was ended by its log, no append has failed
pub none_failed : (p : Program) → AllEnded p → AreFailing p → NoneStopped (map end_at p.members) → SomeFailed p → ⊥
none_failed p ended failing stopped (m, r, why, there, at) = elim ((failing m r there).broken why at) [
  | inl still ↦ going r.replica.end still.0 (ended_there p m r ended there)
  | inr over ↦ by_log why r.replica.end over
      (each_at (λ (e : MemberEnd). why_ended e.end ≡ None) (map end_at p.members) m (end_of r) stopped
      (slice_get-map end_at p.members m ∙ ap (option_map end_at) (present_slice p.members m r there)))
]
  where
    going : (o : Option End) → o ≡ None → IsTrue (is_some o) → ⊥
    going None is some = absurd (cc)
    going (Some end) is some = absurd (cc)
