-- Which values a pattern matches, and what it binds (Rust Reference, "Patterns"). A pattern that is no reference looks
-- through references; boxes and shared references are what they hold, and of a mutable one the current value counts.
use Rattle.std.specs.Prelude.{ℕ, zero, suc, ℤ, Bool, true, false, ◌&&◌, not, ◌==◌, List, [], ◌∷◌, ◌++◌}
use Rattle.std.specs.Ordering.{int_eq}
use Rattle.logic_term.specs.declared.kinds.Ctor.{Ctor}
use Rattle.logic_term.specs.declared.kinds.Ctor.TheVariants.{Tuple, Variant, Closure}
use Rattle.logic_term.specs.declared.pattern.PatStep.{PatStep}
use Rattle.logic_term.specs.declared.pattern.Binding.{Binding}
use Rattle.logic_term.specs.Value.{Value, Values, Number, Flag, Made, Pair, no_values, and_value, nothing, parts_of}
use Rattle.logic_term.specs.Pattern.{Pat, Pats, wild, bound, literal, truth, shape, no_pats, and_pat}

-- the value behind the mutable references around it
abbrev pub seen : Value → Value
seen (Number z) = Number z
seen (Flag b) = Flag b
seen (Made c vs) = Made c vs
seen (Pair v w) = seen v

abbrev pub same_ctor : Ctor → Ctor → Bool
same_ctor Tuple Tuple = true
same_ctor (Variant d k) (Variant e j) = (d.0 == e.0) && (k == j)
same_ctor (Closure n) (Closure m) = n == m
same_ctor _ _ = false

abbrev pub same_flag : Bool → Bool → Bool
same_flag true c = c
same_flag false c = not c

abbrev pub is_number : ℤ → Value → Bool
is_number z (Number y) = int_eq z y
is_number z _ = false

abbrev pub is_flag : Bool → Value → Bool
is_flag b (Flag c) = same_flag b c
is_flag b _ = false

abbrev pub is_made : Ctor → Value → Bool
is_made c (Made e vs) = same_ctor c e
is_made c _ = false

abbrev mutual
  pub matches : Pat → Value → Bool
  matches (wild t) v = true
  matches (bound t x m) v = true
  matches (literal t k z) v = is_number z (seen v)
  matches (truth t b) v = is_flag b (seen v)
  matches (shape t c ps) v = is_made c (seen v) && match_all ps (parts_of (seen v))

  pub match_all : Pats → Values → Bool
  match_all no_pats no_values = true
  match_all (and_pat p ps) (and_value v vs) = matches p v && match_all ps vs
  match_all _ _ = false

-- ---- places in a value

abbrev pub nth_value : Values → ℕ → Value
nth_value no_values n = nothing
nth_value (and_value v vs) zero = v
nth_value (and_value v vs) (suc n) = nth_value vs n

abbrev pub value_at : Value → List PatStep → Value
value_at v [] = v
value_at v (s ∷ p) = value_at (nth_value (parts_of (seen v)) s.field) p

-- ---- bindings

-- the variant that a constructor is of; tuples, structs and closures have one
abbrev pub variant_number : Ctor → ℕ
variant_number Tuple = 0
variant_number (Variant d k) = k
variant_number (Closure n) = 0

-- bindings in field i of variant n
abbrev pub under_part : ℕ → ℕ → List Binding → List Binding
under_part n i [] = []
under_part n i (b ∷ bs) = record { name = b.name; path = record { variant = n; field = i } ∷ b.path } ∷ under_part n i bs

-- the names that the pattern binds, from left to right, with their places
abbrev mutual
  pub bindings : Pat → List Binding
  bindings (wild t) = []
  bindings (bound t x m) = record { name = x; path = [] } ∷ []
  bindings (literal t k z) = []
  bindings (truth t b) = []
  bindings (shape t c ps) = bindings_from (variant_number c) 0 ps

  -- of the fields from i on of variant n
  pub bindings_from : ℕ → ℕ → Pats → List Binding
  bindings_from n i no_pats = []
  bindings_from n i (and_pat p ps) = under_part n i (bindings p) ++ bindings_from n (suc i) ps
