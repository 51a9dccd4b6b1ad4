-- What a pass refuses, the source is refused for.
use Rattle.text_core.specs.declared.fault.PassError.{PassError}
use Rattle.text_core.specs.declared.fault.PassError.TheVariants as errors
use Rattle.verify_core.specs.declared.fault.Refusal.{Refusal}
use Rattle.verify_core.specs.declared.fault.Refusal.TheVariants as refusals

abbrev pub refusal_of : PassError → Refusal
refusal_of (errors.Source e) = refusals.Source e
refusal_of (errors.Limit l) = refusals.Limit l
refusal_of errors.NoMemory = refusals.NoMemory
