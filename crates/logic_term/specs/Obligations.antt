-- The truth of obligations.
use Rattle.std.specs.Prelude.{◌≡◌, ℕ, zero, suc, List, length}
use Rattle.text_core.specs.declared.name.Name.{Name}
use Rattle.logic_term.specs.declared.obligation.Bounds.{Bounds}
use Rattle.logic_term.specs.declared.obligation.Obligation.{Obligation}
use Rattle.logic_term.specs.Meaning.{Env, Holds, structure_of}
use Rattle.logic_term.specs.Theory.{Theory}
use Rattle.logic_term.specs.Ty.{Tys, no_tys, and_ty}

abbrev pub how_many : Tys → ℕ
how_many no_tys = zero
how_many (and_ty t ts) = suc (how_many ts)

-- types for type parameters with bounds, one for each; so far nothing that has a bound is declared
abbrev pub IsInstance : Theory → List (Name × Bounds) → Tys → Type 0
IsInstance Θ params θ = how_many θ ≡ length params

-- the goal is true at each instance of the type parameters and at every environment
abbrev pub IsTrueObligation : Theory → Obligation → Type 0
IsTrueObligation Θ o = (θ : Tys) → IsInstance Θ o.params θ → (ρ : Env) → Holds (structure_of Θ θ) o.goal ρ
