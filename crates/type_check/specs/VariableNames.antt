-- The names by which formulas speak of variables and of the answer. No table of names gives them, and no local has one.
use Rattle.std.specs.Prelude.{ℕ, ◌+◌, ◌^◌}
use Rattle.text_core.specs.declared.name.Name.{Name}

-- the variable around whose declaration so many are in scope
unfoldable pub variable_name : ℕ → Name
variable_name k = record { 0 = 2 ^ 63 + 2 ^ 61 + k }

unfoldable pub answer_name : Name
answer_name = record { 0 = 2 ^ 63 + 2 ^ 61 + 2 ^ 60 }
