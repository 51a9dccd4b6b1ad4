-- What stands around an expression, as its typed tree sees it, and that the types there are built.
use Rattle.std.specs.Prelude.{◌≡◌, ℕ, List, map, Option, Some, None, slice_get}
use Rattle.logic_term.specs.Ty.{Ty}
use Rattle.type_check.specs.declared.heading.Heading.{Heading}
use Rattle.type_check.specs.declared.program.Signature.{Signature}
use Rattle.type_check.specs.declared.scope.Variable.{Variable}
use Rattle.type_check.specs.Checked.{type_of}
use Rattle.type_check.specs.Setting.{Setting}
use Rattle.type_check.specs.WellTyped.{AllBuilt, IsBuilt, Surroundings}

-- the types of the variables in scope
abbrev pub types : List Variable → List Ty
types Γ = map type_of Γ

abbrev pub signature_at : Heading → Signature
signature_at h = h.signature

abbrev pub signatures_at : List Heading → List Signature
signatures_at σ = map signature_at σ

abbrev pub surroundings : Setting → Surroundings
surroundings σ = record { types = σ.types; signatures = signatures_at σ.headings; answer = σ.answer; in_loop = σ.in_loop }

-- what is expected is a built type
abbrev pub MayAsk : Option Ty → Type 0
MayAsk None = Unit {0}
MayAsk (Some t) = IsBuilt t

-- the types that stand around an expression are built: those of functions, of variables and of the answer
pub record Around (σ : Setting) (Γ : List Variable) : Type 0 where
  pub functions : (j : ℕ) (g : Signature) → slice_get (signatures_at σ.headings) j ≡ Some g → AllBuilt g.params × IsBuilt g.answer
  pub variables : AllBuilt (types Γ)
  pub answer : IsBuilt σ.answer
