-- What terms and sorts are spelled by: the types that a program declares, and the texts that its names stand for.
use Rattle.std.specs.Prelude.{ℕ, List, [], ◌∷◌, ◌++◌, codes, Bool, true, false, Option, None, Some, slice_get, if◌then◌else◌}
use Rattle.std.specs.Char.{is_ascii_digit}
use Rattle.text_core.specs.Names.{text_of}
use Rattle.text_core.specs.declared.name.Name.{Name}
use Rattle.logic_term.specs.Theory.{Theory, variant_of}
use Rattle.logic_term.specs.declared.declaration.AdtDecl.{AdtDecl}
use Rattle.logic_term.specs.declared.declaration.FieldDecl.{FieldDecl}
use Rattle.logic_term.specs.declared.declaration.VariantDecl.{VariantDecl}

pub record Spelling : Type 0 where
  pub theory : Theory
  -- the table of the names' texts
  pub names : List (List ℕ)

abbrev pub text_or_none : Option (List ℕ) → List ℕ
text_or_none None = []
text_or_none (Some text) = text

-- the text of a name; nothing where it stands for none
abbrev pub name_text : Spelling → Name → List ℕ
name_text w name = text_or_none (text_of w.names name)

-- ---- declared types

abbrev pub adt_name_text : Spelling → Option AdtDecl → List ℕ
adt_name_text w None = []
adt_name_text w (Some d) = name_text w d.name

-- the name of the declared type of this number
abbrev pub adt_text : Spelling → ℕ → List ℕ
adt_text w d = adt_name_text w (slice_get w.theory.adts d)

abbrev pub variant_name_text : Spelling → Option VariantDecl → List ℕ
variant_name_text w None = []
variant_name_text w (Some v) = name_text w v.name

-- `::Variant`, but of a struct nothing
abbrev pub variant_text : Spelling → Bool → Option VariantDecl → List ℕ
variant_text w true variant = []
variant_text w false variant = codes "::" ++ variant_name_text w variant

-- `Type` of a struct, and `Type::Variant` of another variant
abbrev pub path_by : Spelling → Option AdtDecl → ℕ → List ℕ
path_by w None k = []
path_by w (Some d) k = name_text w d.name ++ variant_text w d.is_struct (slice_get d.variants k)

abbrev pub path_text : Spelling → ℕ → ℕ → List ℕ
path_text w d k = path_by w (slice_get w.theory.adts d) k

-- ---- fields

abbrev pub fields_by : Option VariantDecl → List FieldDecl
fields_by None = []
fields_by (Some v) = v.fields

abbrev pub fields_at : Spelling → ℕ → ℕ → List FieldDecl
fields_at w d k = fields_by (variant_of (slice_get w.theory.adts d) k)

abbrev pub begins_with_digit : List ℕ → Bool
begins_with_digit [] = false
begins_with_digit (b ∷ bs) = is_ascii_digit b

-- the fields of a tuple struct or a tuple variant are named by their numbers
abbrev pub is_numbered : Spelling → List FieldDecl → Bool
is_numbered w [] = true
is_numbered w (f ∷ fs) = begins_with_digit (name_text w f.name)

-- `f: ` before the value of a field
abbrev pub label_text : Spelling → Bool → Option FieldDecl → List ℕ
label_text w true field = []
label_text w false None = []
label_text w false (Some f) = name_text w f.name ++ codes ": "

-- the first field, and the others
abbrev pub first_field : List FieldDecl → Option FieldDecl
first_field [] = None
first_field (f ∷ fs) = Some f

abbrev pub other_fields : List FieldDecl → List FieldDecl
other_fields [] = []
other_fields (f ∷ fs) = fs

-- the values, each with its field before it where the fields are not numbered
abbrev pub labelled : Spelling → Bool → List FieldDecl → List (List ℕ) → List (List ℕ)
labelled w numbered fs [] = []
labelled w numbered fs (p ∷ ps) = (label_text w numbered (first_field fs) ++ p) ∷ labelled w numbered (other_fields fs) ps

abbrev pub opening_text : Bool → List ℕ
opening_text numbered = if numbered then codes "(" else codes " { "

abbrev pub closing_text : Bool → List ℕ
closing_text numbered = if numbered then codes ")" else codes " }"
