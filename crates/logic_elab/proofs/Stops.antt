-- Where a part stops, the whole does.
use Rattle.std.proofs.Common.{◌≡◌, ◌∙◌, ap, Result}
use Rattle.text_core.specs.declared.refusal.SourceError.{SourceError}
use Rattle.text_core.specs.declared.fault.PassError.{PassError}
use Rattle.text_core.specs.declared.fault.PassError.TheVariants as fault
use Rattle.logic_elab.specs.Answers.{◌>>=◌, Refuses}

-- a stop goes on
pub along : {A : Type 0} (stop : PassError) (m n : Result A SourceError) → m ≡ n → Refuses stop n → Refuses stop m
along (fault.Source e) m n q h = q ∙ h
along (fault.Limit l) m n q h = h
along fault.NoMemory m n q h = tt

pub refuses_then : {A B : Type 0} (stop : PassError) (m : Result A SourceError) (k : A → Result B SourceError) → Refuses stop m → Refuses stop (m >>= k)
refuses_then (fault.Source e) m k h = ap (λ n. n >>= k) h
refuses_then (fault.Limit l) m k h = h
refuses_then fault.NoMemory m k h = tt
