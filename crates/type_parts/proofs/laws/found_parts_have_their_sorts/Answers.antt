use Rattle.type_parts.proofs.Found.{found_parts}
use Rattle.type_parts.proofs.laws.found_parts_have_their_sorts.Goals as goal

pub returns : goal.returns
returns c = found_parts
