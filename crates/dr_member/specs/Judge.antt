-- Whom a member suspects or wishes for next.
use Rattle.std.specs.{List.find, Option.{option_map, option_or}, Prelude.{ℕ, List, Option}}
use Rattle.dr_program.specs.{Replica.Replica, Running.{Running, is_scripted, overdue, scripted, told}}
use Rattle.dr_program.specs.declared.setup.Suspicion.{Suspicion}

-- the first one that these lines of a script have it suspect or wish for
abbrev pub first_scripted : Replica → List Suspicion → Option ℕ
first_scripted r script = option_map (λ (s : Suspicion). s.other) (find (is_scripted r) script)

-- the first of those whom its script, the others and its patience say
abbrev pub suspicion : Running → Option ℕ
suspicion r = option_or (scripted r) (option_or (told r.replica) (overdue r))
