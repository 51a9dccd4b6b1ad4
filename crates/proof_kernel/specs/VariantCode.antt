-- How the code has enums, and how their variants are gone through.
use Rattle.std.specs.Prelude.{List}
use Rattle.logic_term.specs.declared.declaration.VariantDecl.{VariantDecl}
use Rattle.logic_term.specs.declared.kinds.AdtId.{AdtId}
use Rattle.logic_term.specs.Ty.{Ty}
use Rattle.logic_term.specs.TyView.{tys_of}
use Rattle.proof_kernel.specs.VariantRules.{Enum, By, analysis, induction}
use Rattle.proof_kernel.specs.declared.variant_rules.Through.{Through}
use Rattle.proof_kernel.specs.declared.variant_rules.Through.TheVariants as through

abbrev pub by_of : Through → By
by_of (through.Analysis t) = analysis t.now
by_of (through.Induction x r) = induction x r.now

abbrev pub enum_with : AdtId → List Ty → List VariantDecl → Enum
enum_with d ts vs = record { id = d; arguments = tys_of ts; variants = vs }
