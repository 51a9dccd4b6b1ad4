-- The entries of a local context.
use Rattle.std.specs.Prelude.{List, [], ◌∷◌}
use Rattle.proof_kernel.specs.declared.local_context.LocalEntry.{LocalEntry}
use Rattle.proof_kernel.specs.declared.local_context.LocalLink.{LocalLink}
use Rattle.proof_kernel.specs.declared.local_context.LocalLink.TheVariants as link

abbrev pub entries_of : LocalLink → List LocalEntry
entries_of link.Start = []
entries_of (link.After e es) = e ∷ es
