use Rattle.std.proofs.Common.{◌∙◌}
use Rattle.pat_check.proofs.Variants.{variants_got, no_variants}
use Rattle.pat_check.proofs.branches.variants_in.Goals as goal

pub returns-in-None : goal.returns-in-None
returns-in-None c = no_variants c.args.decls.now c.args.adt.0 c.in-None.ensures.lookup.0

pub returns-in-Some : goal.returns-in-Some
returns-in-Some c = c.as_slice.ensures ∙ variants_got c.args.decls.now c.args.adt.0 c.in-Some.decl.now c.in-Some.ensures.lookup.0 c.in-Some.ensures.lookup.1
