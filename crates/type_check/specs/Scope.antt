-- Variables in scope: a list, the outermost first (Rust Reference, "Scopes").
use Rattle.std.specs.Prelude.{ℕ, ◌+◌, ◌==◌, List, [], ◌∷◌, Option, Some, None, if◌then◌else◌}
use Rattle.text_core.specs.declared.name.Name.{Name}
use Rattle.type_check.specs.declared.scope.Variable.{Variable}
use Rattle.type_check.specs.declared.scope.Found.{Found}

-- the variable, by how many are in scope around its declaration
abbrev pub at_place : ℕ → Variable → Found
at_place k v = record { place = k; ty = v.ty }

-- the last variable of the name counts
abbrev pub found_from : Option Found → ℕ → Name → List Variable → Option Found
found_from best k x [] = best
found_from best k x (v ∷ vs) = found_from (if x.0 == v.name.0 then Some (at_place k v) else best) (k + 1) x vs

abbrev pub found : Name → List Variable → Option Found
found x Γ = found_from None 0 x Γ
