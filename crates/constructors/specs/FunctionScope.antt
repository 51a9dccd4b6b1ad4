-- What the types in a function are looked up in.
use Rattle.std.specs.Prelude.{false, List, [], None}
use Rattle.logic_term.specs.declared.declaration.AdtDecl.{AdtDecl}
use Rattle.rs_types.specs.Meant.{Scope}

-- no lifetime and no type parameter of a function is built
abbrev pub function_scope : List AdtDecl → Scope
function_scope ds = record { declared = ds; lifetimes = []; parameters = []; self_ty = None; has_int = false }
