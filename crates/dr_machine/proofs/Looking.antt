-- Steps that are looks or pushes.
use Rattle.std.proofs.Common.{Bool, true, false}
use Rattle.dr_machine.specs.declared.step.Step.{Step, TheVariants.{Look, Push}}

-- the step is a look
abbrev pub is_looking : Step → Bool
is_looking (Look i c) = true
is_looking s = false

-- the step is a push
abbrev pub is_pushing : Step → Bool
is_pushing (Push j c) = true
is_pushing s = false
