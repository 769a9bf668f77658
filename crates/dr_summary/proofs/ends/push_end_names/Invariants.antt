use Rattle.std.{specs.List.flat_map, proofs.Common.{◌≡◌, ◌++◌, string_bytes, take}}
use Rattle.dr_entry.specs.declared.end.MemberEnd.{MemberEnd}
use Rattle.dr_summary.specs.Table.{end_name}
use Rattle.dr_summary.proofs.ends.push_end_names.Given as goal

abbrev pub invariant-loop-member : goal.invariant-loop-member
invariant-loop-member l = string_bytes l.out
    ≡ string_bytes l.initial.out ++ flat_map (λ (m : MemberEnd). end_name m.end) (take l.member-index l.members)
