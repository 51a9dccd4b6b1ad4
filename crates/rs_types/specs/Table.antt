-- The declared types of a program, by their numbers and by their names. The names of types are one name space (Rust Reference,
-- "Namespaces").
use Rattle.std.specs.Prelude.{◌≡◌, ℕ, suc, ◌==◌, nat_eq, cond, List, [], ◌∷◌, Option, Some, None}
use Rattle.std.specs.HashMap.{HashMap, get}
use Rattle.std.specs.Option.{option_map}
use Rattle.text_core.specs.declared.span.Span.{Span}
use Rattle.text_core.specs.declared.refusal.SourceError.{SourceError}
use Rattle.text_core.specs.declared.refusal.Code.TheVariants.{E06}
use Rattle.logic_term.specs.declared.declaration.AdtDecl.{AdtDecl}
use Rattle.logic_term.specs.declared.kinds.AdtId.{AdtId}

-- the number of the first declaration of the name
abbrev pub number_of : ℕ → List AdtDecl → Option ℕ
number_of x [] = None
number_of x (d ∷ ds) = cond (d.name.0 == x) (Some 0) (option_map suc (number_of x ds))

-- a declaration whose name is there: E06 at its name
abbrev pub double_name : Span → SourceError
double_name s = record { code = E06; span = s; other = None }

-- the map has the number of each name that is declared, and no others
abbrev pub HasNumbers : {S : Type 0} → List AdtDecl → HashMap ℕ AdtId S → Type 0
HasNumbers ds ids = (x : ℕ) → option_map (λ id. id.0) (get nat_eq ids x) ≡ number_of x ds
