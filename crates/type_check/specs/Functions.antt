-- The functions of a source by their names, and their signatures (Rust Reference, "Functions").
use Rattle.std.specs.Prelude.{ℕ, ◌+◌, ◌==◌, List, [], ◌∷◌, Option, Some, None, if◌then◌else◌}
use Rattle.text_core.specs.declared.name.Name.{Name}
use Rattle.type_check.specs.declared.heading.Callee.{Callee}
use Rattle.type_check.specs.declared.heading.Heading.{Heading}

abbrev pub callee_at : ℕ → Heading → Callee
callee_at k h = record { place = k; signature = h.signature }

-- the function of the name, by its place
abbrev pub function_from : ℕ → Name → List Heading → Option Callee
function_from k x [] = None
function_from k x (h ∷ hs) = if x.0 == h.name.0 then Some (callee_at k h) else function_from (k + 1) x hs
