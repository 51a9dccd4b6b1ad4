-- The parts of a line, which are its tokens and what the lines in it are made into. A part that is not of the family that a line has there is seen as a plain one.
use Rattle.std.specs.Prelude.{ℕ, pos, ◌-◌, ◌&&◌, Bool, true, false, nat_eq, if◌then◌else◌, List, [], ◌∷◌, ◌++◌, reverse, Option, None, Some, unwrap_or, slice_get}
use Rattle.text_core.specs.declared.span.Span.{Span}
use Rattle.grammar_tables.specs.Ebnf.{Form}
use Rattle.grammar_tables.specs.Trees.{option_list}
use Rattle.source_grammar.specs.Classes.{kind_of, names, stands_in}
use Rattle.source_grammar.specs.Terminals.{Lifetime}
use Rattle.source_words.specs.declared.word.Word.{Word}
use Rattle.source_trees.specs.declared.binder.Binder.{Binder}
use Rattle.source_trees.specs.declared.path.Path.{Path}
use Rattle.source_trees.specs.declared.path.PathNode.TheVariants.{Names}
use Rattle.source_trees.specs.declared.path.Segment.{Segment}
use Rattle.source_trees.specs.declared.pattern.FieldPat.{FieldPat}
use Rattle.source_trees.specs.declared.pterm.TermArm.{TermArm}
use Rattle.source_trees.specs.declared.pterm.FieldTerm.{FieldTerm}
use Rattle.pearlite.specs.declared.part.Part.{Part}
use Rattle.pearlite.specs.declared.part.TermSuffix.{TermSuffix}
use Rattle.pearlite.specs.declared.part.Value.{Value}
use Rattle.pearlite.specs.declared.part.Value.TheVariants as V
use Rattle.source_trees.specs.Pat.{Pat, any}
use Rattle.source_trees.specs.Pterm.{Pterm, truth}
use Rattle.source_trees.specs.TypeTree.{TypeTree, self_type}

-- ---- tokens, by their places among the words

-- an empty part at the start of the source
abbrev pub nowhere : Span
nowhere = record { start = 0; end = 0 }

-- the word past the end
abbrev pub no_word : Word
no_word = record { kind = 0; span = nowhere; name = record { 0 = 0 }; value = pos 0; suffix = None }

abbrev pub word_at : List Word → ℕ → Word
word_at words place = unwrap_or (slice_get words place) no_word

-- whether the word is one of that terminal
abbrev pub is_at : Form → List Word → ℕ → Bool
is_at form words place = nat_eq (word_at words place).kind (kind_of form)

-- its name, in its place
abbrev pub segment_at : List Word → ℕ → Segment
segment_at words place = record { name = (word_at words place).name; span = (word_at words place).span }

-- from the first token to before the one behind the last
abbrev pub span_from : List Word → ℕ → ℕ → Span
span_from words from to = record { start = (word_at words from).span.start; end = (word_at words (to - 1)).span.end }

-- ---- parts, by their order

abbrev pub nothing : Part
nothing = record { value = V.Passed; from = 0; to = 0 }

unfoldable pub first : List Part → Part
first [] = nothing
first (part ∷ parts) = part

unfoldable pub others : List Part → List Part
others [] = []
others (part ∷ parts) = parts

abbrev pub second : List Part → Part
second parts = first (others parts)

abbrev pub last : List Part → Part
last parts = first (reverse parts)

-- all but the last
abbrev pub front : List Part → List Part
front parts = reverse (others (reverse parts))

-- what stands between two parentheses, where this is one part
unfoldable pub alone : List Part → Option Value
alone (opening ∷ inner ∷ closing ∷ []) = Some inner.value
alone parts = None

-- ---- parts, by their families

unfoldable pub is_token : Value → Bool
is_token V.Token = true
is_token value = false

unfoldable pub is_suffix : Value → Bool
is_suffix (V.Suffix suffix) = true
is_suffix value = false

unfoldable pub as_type : Value → Option TypeTree
as_type (V.Type ty) = Some ty
as_type value = None

unfoldable pub as_pattern : Value → Option Pat
as_pattern (V.Pattern pattern) = Some pattern
as_pattern value = None

unfoldable pub as_field_pattern : Value → Option FieldPat
as_field_pattern (V.FieldPattern field) = Some field
as_field_pattern value = None

unfoldable pub as_path : Value → Option Path
as_path (V.Path path) = Some path
as_path value = None

unfoldable pub as_term : Value → Option Pterm
as_term (V.Term term) = Some term
as_term value = None

unfoldable pub as_field_term : Value → Option FieldTerm
as_field_term (V.FieldTerm field) = Some field
as_field_term value = None

unfoldable pub as_arm : Value → Option TermArm
as_arm (V.Arm arm) = Some arm
as_arm value = None

unfoldable pub as_binder : Value → Option Binder
as_binder (V.Binder binder) = Some binder
as_binder value = None

unfoldable pub as_suffix : Value → Option TermSuffix
as_suffix (V.Suffix suffix) = Some suffix
as_suffix value = None

-- all of a family, in order
unfoldable pub all_of : {A : Type 0} → (Value → Option A) → List Part → List A
all_of seen [] = []
all_of seen (part ∷ parts) = option_list (seen part.value) ++ all_of seen parts

-- the first one, and the parts behind it
abbrev pub this_or : {A : Type 0} → Option A → Option A → Option A
this_or (Some x) other = Some x
this_or None other = other

unfoldable pub first_of : {A : Type 0} → (Value → Option A) → List Part → Option A
first_of seen [] = None
first_of seen (part ∷ parts) = this_or (seen part.value) (first_of seen parts)

abbrev pub behind_by : {A : Type 0} → Option A → List Part → List Part → List Part
behind_by (Some x) here further = here
behind_by None here further = further

unfoldable pub behind : {A : Type 0} → (Value → Option A) → List Part → List Part
behind seen [] = []
behind seen (part ∷ parts) = behind_by (seen part.value) parts (behind seen parts)

abbrev pub no_path : Path
no_path = record { span = nowhere; node = Names (record { name = record { 0 = 0 }; span = nowhere }) [] [] }

abbrev pub first_type : List Part → TypeTree
first_type parts = unwrap_or (first_of as_type parts) (self_type nowhere)

abbrev pub first_pattern : List Part → Pat
first_pattern parts = unwrap_or (first_of as_pattern parts) (any nowhere)

abbrev pub first_path : List Part → Path
first_path parts = unwrap_or (first_of as_path parts) no_path

abbrev pub term_or : Option Pterm → Pterm
term_or term = unwrap_or term (truth nowhere false)

abbrev pub first_term : List Part → Pterm
first_term parts = term_or (first_of as_term parts)

-- ---- names

-- identifiers, quoted words that are no keywords, and lifetimes have names
abbrev pub has_name : ℕ → Bool
has_name kind = stands_in kind (kind_of Lifetime ∷ names)

abbrev pub name_of : List Word → Part → Option Segment
name_of words part = if is_token part.value && has_name (word_at words part.from).kind then Some (segment_at words part.from) else None

-- the names among the tokens, in order
unfoldable pub names_in : List Word → List Part → List Segment
names_in words [] = []
names_in words (part ∷ parts) = option_list (name_of words part) ++ names_in words parts
