use Rattle.pat_check.specs.Typed.{fields_in}
use Rattle.pat_check.proofs.Filling.{filled}
use Rattle.pat_check.proofs.laws.pattern_values_stand_for_values.Goals as goal

pub returns : goal.returns
returns c = λ ds t w h θ f. filled (fields_in ds) θ w t h f
