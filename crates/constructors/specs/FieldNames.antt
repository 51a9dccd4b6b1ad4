-- The names of fields that are written without one.
use Rattle.std.specs.Prelude.{ℕ, ◌+◌, ◌^◌}
use Rattle.text_core.specs.declared.name.Name.{Name}

-- the name of a field without one, by its number
unfoldable pub numbered : ℕ → Name
numbered k = record { 0 = 2 ^ 63 + k }
