-- What is gathered of the parts of a line, by families.
use Rattle.std.specs.Prelude.{List, [], ◌∷◌, ◌++◌, Option, None, Some}
use Rattle.grammar_tables.specs.Trees.{option_list}
use Rattle.pearlite.specs.declared.part.Value.TheVariants as S
use Rattle.pearlite.specs.Parts.{this_or, as_type, as_term}
use Rattle.source_trees.specs.Pterm.{Pterm}
use Rattle.source_trees.specs.TypeTree.{TypeTree}
use Rattle.source_trees.specs.declared.generics.Bound.{Bound}
use Rattle.source_trees.specs.declared.generics.Condition.{Condition}
use Rattle.source_trees.specs.declared.generics.GenericParam.{GenericParam}
use Rattle.source_trees.specs.declared.item.Field.{Field}
use Rattle.source_trees.specs.declared.item.Item.{Item}
use Rattle.source_trees.specs.declared.item.Method.{Method}
use Rattle.rs_syntax.specs.declared.part.Part.{Part}
use Rattle.rs_syntax.specs.declared.part.Value.{Value}
use Rattle.rs_syntax.specs.declared.part.Value.TheVariants as V

-- all of a family among the parts, in order
abbrev pub all_of : {A : Type 0} → (Value → Option A) → List Part → List A
all_of seen [] = []
all_of seen (part ∷ parts) = option_list (seen part.value) ++ all_of seen parts

-- the first of them
abbrev pub first_of : {A : Type 0} → (Value → Option A) → List Part → Option A
first_of seen [] = None
first_of seen (part ∷ parts) = this_or (seen part.value) (first_of seen parts)

-- what is made of a part that the line has; without it, nothing is
abbrev pub made_of : {A : Type 0} → Option A → (A → Value) → Value
made_of None make = V.Shape S.Passed
made_of (Some x) make = make x

-- ---- the families

abbrev pub type_of : Value → Option TypeTree
type_of (V.Shape shape) = as_type shape
type_of _ = None

abbrev pub term_of : Value → Option Pterm
term_of (V.Shape shape) = as_term shape
term_of _ = None

abbrev pub generic_of : Value → Option GenericParam
generic_of (V.GenericParam param) = Some param
generic_of _ = None

abbrev pub bound_of : Value → Option Bound
bound_of (V.Bound bound) = Some bound
bound_of _ = None

abbrev pub condition_of : Value → Option Condition
condition_of (V.WhereCondition condition) = Some condition
condition_of _ = None

abbrev pub field_of : Value → Option Field
field_of (V.Field field) = Some field
field_of _ = None

abbrev pub method_of : Value → Option Method
method_of (V.Method method) = Some method
method_of _ = None

abbrev pub item_of : Value → Option Item
item_of (V.Item item) = Some item
item_of _ = None
