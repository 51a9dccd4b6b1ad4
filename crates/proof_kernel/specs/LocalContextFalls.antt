-- What stands before the last entry is shorter.
use Rattle.std.specs.Prelude.{◌≤◌, max, length}
use Rattle.std.proofs.Common.{arith}
use Rattle.proof_kernel.specs.LocalContextView.{entries_of}
use Rattle.proof_kernel.specs.declared.local_context.LocalLink.{LocalLink}
use Rattle.proof_kernel.specs.declared.local_context.LocalLink.TheVariants as link
use Rattle.proof_kernel.specs.declared.local_context.LocalContext.TheDeep.{deep-LocalLink}

pub falls : (n : LocalLink) → max (deep-LocalLink n) 0 ≤ length (entries_of n)
falls link.Start = omega arith
falls (link.After e es) = omega arith
