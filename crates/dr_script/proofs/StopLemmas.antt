-- What stops a reading.
use Rattle.std.{specs.Prelude.{IsErrOf, IsErrAnd}, proofs.Common.{◌≡◌, Result, Ok, Err}}
use Rattle.dr_script.specs.declared.{passage.Broken.Broken, refusal.Stop.{Stop, TheVariants.Rule}}

-- the broken rule that a stop names
pub rule_of : {A : Type 0} (result : Result A Stop) (named broken : Broken)
    → IsErrAnd result (λ stop. stop ≡ Rule named) → IsErrOf result (Rule broken) → named ≡ broken
rule_of (Ok x) named broken here is = absurd (here)
rule_of (Err stop) named broken here is = cc

-- a stop that is handed on
pub handed_on : {A B : Type 0} (result : Result A Stop) (from : Result B Stop) (stop : Stop) (broken : Broken)
    → IsErrAnd result (λ s. s ≡ stop) → from ≡ Err stop → IsErrOf result (Rule broken) → IsErrOf from (Rule broken)
handed_on (Ok x) from stop broken here was is = absurd (here)
handed_on (Err s) (Ok y) stop broken here was is = absurd cc
handed_on (Err s) (Err t) stop broken here was is = cc
