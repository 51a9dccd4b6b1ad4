-- What the code finds is what the definitions have.
use Rattle.std.proofs.Common.{◌≡◌, Option, Some, refl}
use Rattle.std.specs.Option.{option_map}
use Rattle.logic_term.specs.declared.kinds.AdtId.{AdtId}

-- the number that is found
pub found_number : (o : Option AdtId) (i : AdtId) → o ≡ Some i → option_map (λ (id : AdtId). id.0) o ≡ Some i.0
found_number o i p = rw p refl
