use Rattle.std.proofs.Common.{◌≡◌, take}
use Rattle.rs_types.proofs.copying.copy_decls.Given as goal

abbrev pub invariant-loop-decl : goal.invariant-loop-decl
invariant-loop-decl l = l.all ≡ take l.decl-index l.decls
