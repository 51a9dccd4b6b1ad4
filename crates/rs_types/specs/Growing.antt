-- What is held and what is bounded, round by round.
use Rattle.std.specs.Prelude.{◌≡◌, ℕ, suc, ◌+◌, ◌==◌, ◌||◌, not, max, Bool, true, false, List, [], ◌∷◌, get_or, length, replicate}
use Rattle.logic_term.specs.Sort.{Declarations}
use Rattle.logic_term.specs.Theory.{declared}
use Rattle.logic_term.specs.declared.declaration.AdtDecl.{AdtDecl}
use Rattle.logic_term.specs.declared.declaration.FieldDecl.{FieldDecl}
use Rattle.logic_term.specs.declared.declaration.VariantDecl.{VariantDecl}
use Rattle.logic_term.specs.declared.kinds.AdtId.{AdtId}
use Rattle.rs_types.specs.Holding.{Rows, cell, in_some_variant, none, width}
use Rattle.rs_types.specs.Standing.{Held}

abbrev pub declared_by : List AdtDecl → Declarations
declared_by ds = declared (record { adts = ds })

abbrev pub is : ℕ → ℕ → Bool
is m n = n == m

-- the declared types at whose numbers the list has `false`
abbrev pub outside : List Bool → ℕ → Bool
outside set d = not (get_or set d true)

-- ---- which type parameters are held

-- how many type parameters the rows of a declared type speak of
abbrev pub field_width : List FieldDecl → ℕ
field_width [] = 0
field_width (f ∷ fs) = max (width f.ty) (field_width fs)

abbrev pub variant_width : List VariantDecl → ℕ
variant_width [] = 0
variant_width (v ∷ vs) = max (field_width v.fields) (variant_width vs)

-- a row from parameter n on, with those that stand in a field by what the rows say
abbrev pub row_grown : Rows → List VariantDecl → ℕ → List Bool → List Bool
row_grown rows vs n [] = []
row_grown rows vs n (b ∷ bs) = (b || in_some_variant rows (is n) none vs) ∷ row_grown rows vs (suc n) bs

-- one more round over these declarations and their rows
abbrev pub rows_grown : Rows → List AdtDecl → Rows → Rows
rows_grown rows [] left = left
rows_grown rows (d ∷ ds) [] = []
rows_grown rows (d ∷ ds) (r ∷ rs) = row_grown rows d.variants 0 r ∷ rows_grown rows ds rs

-- nothing is known yet
abbrev pub empty_row : AdtDecl → List Bool
empty_row d = replicate (variant_width d.variants) false

-- each row speaks of all parameters that stand in the declared type's fields
abbrev pub HaveWidths : List AdtDecl → Rows → Type 0
HaveWidths [] [] = Unit {0}
HaveWidths (d ∷ ds) (r ∷ rs) = (length r ≡ variant_width d.variants) × HaveWidths ds rs
HaveWidths _ _ = ⊥

-- what the rows say is so
abbrev pub AreHeld : Declarations → Rows → Type 0
AreHeld Δ rows = (d : AdtId) (n : ℕ) → cell rows d.0 n ≡ true → Held Δ d n

-- the rows say all that is so
abbrev pub AreAll : List AdtDecl → Rows → Type 0
AreAll ds rows = rows_grown rows ds rows ≡ rows

-- ---- which declared types are bounded

abbrev pub bounded_grown : Rows → List Bool → List AdtDecl → List Bool → List Bool
bounded_grown rows set [] left = left
bounded_grown rows set (d ∷ ds) [] = []
bounded_grown rows set (d ∷ ds) (b ∷ bs) = (b || not (in_some_variant rows none (outside set) d.variants)) ∷ bounded_grown rows set ds bs

-- ---- how much is left

abbrev pub left_in : List Bool → ℕ
left_in [] = 0
left_in (true ∷ bs) = left_in bs
left_in (false ∷ bs) = suc (left_in bs)

abbrev pub left_in_rows : Rows → ℕ
left_in_rows [] = 0
left_in_rows (r ∷ rs) = left_in r + left_in_rows rs
