-- The families of parts, what each action asks of the parts of its line, and that it is there in each source.
use Rattle.std.specs.Prelude.{◌≡◌, ℕ, suc, ◌≤◌, true, if◌then◌else◌, List, [], ◌∷◌, length, map, fold, Option, Some, IsSome}
use Rattle.grammar_tables.specs.Answers.{goal_of}
use Rattle.grammar_tables.specs.First.{is_in, all_of}
use Rattle.grammar_tables.specs.Grammar.{Derives}
use Rattle.grammar_tables.specs.Trees.{Tree, IsTree, preorder, values}
use Rattle.grammar_tables.specs.declared.symbol.Symbol.TheVariants.{Nonterminal}
use Rattle.source_grammar.specs.Actions.{action_of}
use Rattle.source_grammar.specs.SourceGrammar.{source_grammar, source_goal}
use Rattle.source_grammar.specs.declared.action.Action.{Action}
use Rattle.source_grammar.specs.declared.action.Action.TheVariants.{Keep, Shape, Code}
use Rattle.source_grammar.specs.declared.action.CodeAction.{CodeAction}
use Rattle.source_grammar.specs.declared.action.CodeAction.TheVariants as codes
use Rattle.source_grammar.specs.declared.action.ShapeAction.{ShapeAction}
use Rattle.source_words.specs.declared.word.Word.{Word}
use Rattle.pearlite.specs.Asked as shapes
use Rattle.pearlite.specs.Asked.{a_token, a_type, a_pattern, a_path, a_term, passed_over, asking, asks_of}
use Rattle.pearlite.specs.Served.{Among, AreAll, AreThere, Asks, IsServed}
use Rattle.rs_syntax.specs.declared.found.Found.{Found}
use Rattle.rs_syntax.specs.declared.make_items.ItemParts.{ItemParts}
use Rattle.rs_syntax.specs.declared.part.Part.{Part}
use Rattle.rs_syntax.specs.declared.part.Value.{Value}
use Rattle.rs_syntax.specs.declared.part.Value.TheVariants as V
use Rattle.rs_syntax.specs.Gathered.{first_of, type_of, term_of, generic_of, bound_of, condition_of, field_of, method_of, item_of}
use Rattle.rs_syntax.specs.Make.{trees, value_made}
use Rattle.rs_syntax.specs.MakeFunctions.{shape_parts}
use Rattle.rs_syntax.specs.MakeItems.{item_with}
use Rattle.rs_syntax.specs.MakeOperators.{as_expr, suffix_by}
use Rattle.rs_syntax.specs.MakeStatements.{statements_in, no_statements, arms_in, no_arms}
use Rattle.rs_syntax.specs.Parts.{found_in}

-- ---- families, behind those of shapes

abbrev pub an_expression : ℕ
an_expression = 11

abbrev pub a_statement : ℕ
a_statement = 12

abbrev pub a_blocklike : ℕ
a_blocklike = 13

abbrev pub a_let_condition : ℕ
a_let_condition = 14

abbrev pub an_operation : ℕ
an_operation = 15

abbrev pub arguments : ℕ
arguments = 16

abbrev pub a_field_expression : ℕ
a_field_expression = 17

abbrev pub an_attribute : ℕ
an_attribute = 18

abbrev pub a_generic : ℕ
a_generic = 19

abbrev pub generics : ℕ
generics = 20

abbrev pub a_bound : ℕ
a_bound = 21

abbrev pub a_condition : ℕ
a_condition = 22

abbrev pub conditions : ℕ
conditions = 23

abbrev pub a_parameter : ℕ
a_parameter = 24

abbrev pub a_function : ℕ
a_function = 25

abbrev pub a_field : ℕ
a_field = 26

abbrev pub a_variant : ℕ
a_variant = 27

abbrev pub a_method : ℕ
a_method = 28

abbrev pub an_impl_item : ℕ
an_impl_item = 29

abbrev pub an_impl_head : ℕ
an_impl_head = 30

abbrev pub an_item_node : ℕ
an_item_node = 31

abbrev pub an_item : ℕ
an_item = 32

abbrev pub family_of : Value → ℕ
family_of (V.Shape shape) = shapes.family_of shape
family_of (V.Expr expr) = an_expression
family_of (V.Stmt stmt) = a_statement
family_of (V.BlocklikeStatement expr closed) = a_blocklike
family_of (V.Condition pattern expr) = a_let_condition
family_of (V.Suffix suffix) = an_operation
family_of (V.Arguments exprs) = arguments
family_of (V.FieldExpr field) = a_field_expression
family_of (V.Attribute node) = an_attribute
family_of (V.GenericParam param) = a_generic
family_of (V.Generics params) = generics
family_of (V.Bound bound) = a_bound
family_of (V.WhereCondition condition) = a_condition
family_of (V.Where them) = conditions
family_of (V.Param param) = a_parameter
family_of (V.Function function) = a_function
family_of (V.Field field) = a_field
family_of (V.Variant variant) = a_variant
family_of (V.Method method) = a_method
family_of (V.ImplItem item) = an_impl_item
family_of (V.ImplHead of target) = an_impl_head
family_of (V.ItemNode node) = an_item_node
family_of (V.Item item) = an_item

abbrev pub family_in : Part → ℕ
family_in part = family_of part.value

-- ---- what is asked

-- and that the first parts are of these, one behind the other
abbrev pub beginning_with : List ℕ → Asks → Asks
beginning_with families asks = record asks { first = map (λ family. family ∷ []) families }

abbrev pub one_token : List ℕ
one_token = a_token ∷ []

abbrev pub two_tokens : List ℕ
two_tokens = a_token ∷ a_token ∷ []

abbrev pub three_tokens : List ℕ
three_tokens = a_token ∷ a_token ∷ a_token ∷ []

-- attributes may stand among these
abbrev pub of_attributes : List ℕ → List ℕ
of_attributes families = a_token ∷ passed_over ∷ an_attribute ∷ families

-- an expression, or a `let` that binds by one
abbrev pub condition_or_expression : List ℕ
condition_or_expression = an_expression ∷ a_let_condition ∷ []

-- a condition and the block behind it
abbrev pub asks_conditional : Asks
asks_conditional = record (asking [] (a_token ∷ an_expression ∷ a_let_condition ∷ [])) { parts = condition_or_expression ∷ (an_expression ∷ []) ∷ [] }

-- and that the last part is an expression
abbrev pub ending_with_value : Asks → Asks
ending_with_value asks = record asks { last = an_expression ∷ [] }

-- of items and their parts
abbrev pub item_asks : CodeAction → Asks
item_asks codes.Passed = asking [] (a_token ∷ passed_over ∷ [])
item_asks codes.Item = record (asking [] (of_attributes (a_term ∷ an_expression ∷ a_function ∷ an_item_node ∷ []))) { parts = (a_function ∷ an_item_node ∷ []) ∷ [] }
item_asks codes.Clause = beginning_with two_tokens (asking (a_term ∷ []) (a_token ∷ a_term ∷ []))
item_asks codes.Derive = beginning_with two_tokens (asking [] (a_token ∷ []))
item_asks codes.Use = asking [] (a_token ∷ passed_over ∷ [])
item_asks codes.ExternCrate = asking [] (a_token ∷ [])
item_asks codes.Function = beginning_with two_tokens (asking [] (a_token ∷ a_type ∷ generics ∷ conditions ∷ a_parameter ∷ []))
item_asks codes.Generics = asking [] (a_token ∷ a_generic ∷ [])
item_asks codes.LifetimeParam = beginning_with one_token (asking [] (a_token ∷ []))
item_asks codes.TypeParam = beginning_with one_token (asking [] (a_token ∷ a_bound ∷ []))
item_asks codes.Where = asking [] (a_token ∷ a_condition ∷ [])
item_asks codes.TypeCondition = beginning_with two_tokens (asking [] (a_token ∷ a_bound ∷ []))
item_asks codes.LifetimeCondition = beginning_with three_tokens (asking [] (a_token ∷ []))
item_asks codes.TraitBound = beginning_with one_token (asking [] (a_token ∷ []))
item_asks codes.CallBound = beginning_with two_tokens (asking [] (a_token ∷ a_type ∷ []))
item_asks codes.NamedParam = beginning_with two_tokens (asking (a_type ∷ []) (a_token ∷ a_type ∷ []))
item_asks codes.MutNamedParam = beginning_with two_tokens (asking (a_type ∷ []) (a_token ∷ a_type ∷ []))
item_asks codes.MutReceiver = beginning_with one_token (asking [] (a_token ∷ []))
item_asks codes.ReceiverParam = beginning_with one_token (asking [] (a_token ∷ []))
item_asks codes.BorrowedParam = beginning_with one_token (asking (a_token ∷ a_token ∷ []) (a_token ∷ []))
item_asks codes.Struct = beginning_with two_tokens (asking [] (a_token ∷ generics ∷ a_field ∷ []))
item_asks codes.Field = beginning_with two_tokens (asking (a_type ∷ []) (a_token ∷ a_type ∷ []))
item_asks codes.TupleField = asking (a_type ∷ []) (a_token ∷ a_type ∷ [])
item_asks codes.Enum = beginning_with two_tokens (asking [] (a_token ∷ generics ∷ a_variant ∷ []))
item_asks codes.Variant = beginning_with one_token (asking [] (a_token ∷ a_type ∷ a_field ∷ []))
item_asks codes.Trait = beginning_with two_tokens (asking [] (a_token ∷ a_method ∷ []))
item_asks codes.Method = asking (a_function ∷ []) (of_attributes (a_term ∷ an_expression ∷ a_function ∷ []))
item_asks codes.Impl = record (asking [] (a_token ∷ a_type ∷ generics ∷ conditions ∷ a_method ∷ an_impl_item ∷ an_impl_head ∷ [])) { parts = (a_type ∷ an_impl_head ∷ []) ∷ [] }
item_asks codes.ImplHead = beginning_with one_token (asking [] (a_token ∷ a_type ∷ []))
item_asks codes.ViewType = beginning_with three_tokens (asking (a_type ∷ []) (a_token ∷ a_type ∷ []))
item_asks action = asking [] []

-- of statements and expressions, and those
abbrev pub code_asks : CodeAction → Asks
code_asks codes.Block = asking [] (of_attributes (an_expression ∷ a_statement ∷ a_blocklike ∷ []))
code_asks codes.Blocklike = asking (an_expression ∷ []) (a_token ∷ an_expression ∷ [])
code_asks codes.Let = asking (a_pattern ∷ an_expression ∷ []) (a_token ∷ a_type ∷ a_pattern ∷ an_expression ∷ [])
code_asks codes.If = asks_conditional
code_asks codes.Match = beginning_with (a_token ∷ an_expression ∷ []) (asking [] (of_attributes (a_pattern ∷ an_expression ∷ [])))
code_asks codes.While = asks_conditional
code_asks codes.Forever = asking (an_expression ∷ []) (a_token ∷ an_expression ∷ [])
code_asks codes.LetCondition = asking (a_pattern ∷ an_expression ∷ []) (a_token ∷ a_pattern ∷ an_expression ∷ [])
code_asks codes.Assignment = ending_with_value (asking (an_expression ∷ []) (a_token ∷ an_expression ∷ []))
code_asks codes.Operation = beginning_with (an_expression ∷ []) (asking [] (a_token ∷ a_type ∷ an_expression ∷ an_operation ∷ arguments ∷ []))
code_asks codes.Prefix = beginning_with one_token (asking (an_expression ∷ []) (a_token ∷ an_expression ∷ []))
code_asks codes.Member = beginning_with two_tokens (asking [] (a_token ∷ a_type ∷ arguments ∷ []))
code_asks codes.Arguments = asking [] (a_token ∷ an_expression ∷ [])
code_asks codes.Attributed = ending_with_value (asking (an_expression ∷ []) (of_attributes (an_expression ∷ [])))
code_asks codes.Return = asking [] (a_token ∷ an_expression ∷ [])
code_asks codes.IntegerExpr = beginning_with one_token (asking [] (a_token ∷ []))
code_asks codes.TruthExpr = beginning_with one_token (asking [] (a_token ∷ []))
code_asks codes.SelfExpr = beginning_with one_token (asking [] (a_token ∷ []))
code_asks codes.ParenExpr = asking [] (a_token ∷ an_expression ∷ [])
code_asks codes.Break = beginning_with one_token (asking [] (a_token ∷ []))
code_asks codes.Continue = beginning_with one_token (asking [] (a_token ∷ []))
code_asks codes.PanicCall = beginning_with three_tokens (asking [] (a_token ∷ []))
code_asks codes.GhostCall = beginning_with three_tokens (asking (a_term ∷ []) (a_token ∷ a_term ∷ []))
code_asks codes.PathExpr = asking (a_path ∷ []) (a_token ∷ a_path ∷ a_field_expression ∷ [])
code_asks codes.FieldExpr = beginning_with one_token (asking [] (a_token ∷ an_expression ∷ []))
code_asks codes.Closure = asking (an_expression ∷ []) (a_token ∷ a_type ∷ an_expression ∷ a_parameter ∷ [])
code_asks action = item_asks action

-- lines that make nothing ask nothing
abbrev pub asks_by : Action → Asks
asks_by (Shape action) = asks_of action
asks_by (Code action) = code_asks action
asks_by Keep = asking [] []

abbrev pub asks_at : ℕ → Asks
asks_at line = asks_by (action_of line)

-- ---- what is made

-- of which family an action of code makes a value
abbrev pub code_family : CodeAction → ℕ
code_family codes.Passed = passed_over
code_family codes.Let = a_statement
code_family codes.Blocklike = a_blocklike
code_family codes.LetCondition = a_let_condition
code_family codes.Member = an_operation
code_family codes.Arguments = arguments
code_family codes.FieldExpr = a_field_expression
code_family codes.Clause = an_attribute
code_family codes.Derive = an_attribute
code_family codes.LifetimeParam = a_generic
code_family codes.TypeParam = a_generic
code_family codes.Generics = generics
code_family codes.TraitBound = a_bound
code_family codes.CallBound = a_bound
code_family codes.TypeCondition = a_condition
code_family codes.LifetimeCondition = a_condition
code_family codes.Where = conditions
code_family codes.NamedParam = a_parameter
code_family codes.MutNamedParam = a_parameter
code_family codes.MutReceiver = a_parameter
code_family codes.ReceiverParam = a_parameter
code_family codes.BorrowedParam = a_parameter
code_family codes.Function = a_function
code_family codes.Field = a_field
code_family codes.TupleField = a_field
code_family codes.Variant = a_variant
code_family codes.Method = a_method
code_family codes.ViewType = an_impl_item
code_family codes.ImplHead = an_impl_head
code_family codes.Use = an_item_node
code_family codes.ExternCrate = an_item_node
code_family codes.Struct = an_item_node
code_family codes.Enum = an_item_node
code_family codes.Trait = an_item_node
code_family codes.Impl = an_item_node
code_family codes.Item = an_item
code_family action = an_expression

abbrev pub family_by : Action → ℕ
family_by (Shape action) = shapes.family_made action
family_by (Code action) = code_family action
family_by Keep = passed_over

-- ---- the laws

-- the tree is one of the whole grammar that derives something
pub record IsSourceTree (tree : Tree) : Type 0 where
  pub kinds : List ℕ
  pub is_tree : IsTree source_grammar (Nonterminal source_goal) tree
  pub derives : Derives source_grammar (goal_of source_goal) kinds (preorder tree)

-- in each line of it what the action asks is there
abbrev pub EachPartIsThere : Type 0
EachPartIsThere = (words : List Word) (tree : Tree) → IsSourceTree tree → IsServed (trees words) family_in asks_at 0 tree

-- and each part of the whole is an item, or stands around items
abbrev pub ItemsAreThere : Type 0
ItemsAreThere = (words : List Word) (tree : Tree) → IsSourceTree tree → AreAll (a_token ∷ passed_over ∷ an_item ∷ []) (map family_in (values (trees words) 0 tree))

-- what is made of a line that has what it asks is of the family of its action
abbrev pub EachLineIsMade : Type 0
EachLineIsMade = (action : Action) (words : List Word) (from to : ℕ) (parts : List Part) → AreThere (asks_by action) (map family_in parts) → family_of (value_made action words from to parts) ≡ family_by action

-- ---- what is asked is found

-- each value of the family is seen
abbrev pub IsSeen : {A : Type 0} → (Value → Option A) → ℕ → Type 0
IsSeen seen family = (value : Value) → family_of value ≡ family → IsSome (seen value)

-- where a part of the family is asked, a first one is found
abbrev pub IsFound : {A : Type 0} → (Value → Option A) → ℕ → Type 0
IsFound seen family = (places : List (List ℕ)) (parts : List Part) → Among ((family ∷ []) ∷ places) (map family_in parts) → IsSome (first_of seen parts)

-- the places for these families alone
abbrev pub places_for : List ℕ → List (List ℕ) → ℕ
places_for these [] = 0
places_for these (place ∷ places) = if all_of (λ family. is_in (Some family) these) place then suc (places_for these places) else places_for these places

-- at least as many are found as are asked
abbrev pub AreFound : {A : Type 0} → (Found → List A) → List ℕ → Type 0
AreFound family_of_found these = (places : List (List ℕ)) (parts : List Part) → Among places (map family_in parts) → places_for these places ≤ length (family_of_found (found_in parts))

-- behind an operand
abbrev pub OperationsAreSeen : Type 0
OperationsAreSeen = (word : Word) (value : Value) → is_in (Some (family_of value)) (an_expression ∷ a_type ∷ an_operation ∷ arguments ∷ []) ≡ true → IsSome (suffix_by word value)

-- what attributes stand before, and what is matched
abbrev pub OperandIsThere : Type 0
OperandIsThere = (words : List Word) (parts : List Part) → AreThere (code_asks codes.Attributed) (map family_in parts) → IsSome (statements_in words no_statements parts).last

abbrev pub MatchedIsThere : Type 0
MatchedIsThere = (words : List Word) (parts : List Part) → AreThere (code_asks codes.Match) (map family_in parts) → IsSome (arms_in words no_arms parts).matched

abbrev pub AreSameNodes : ItemParts → ItemParts → Type 0
AreSameNodes one other = (one.node ≡ other.node) × (one.own ≡ other.own)

-- what an item or a method is does not hang on what stands for it before its parts are read
abbrev pub NodeIsThere : Type 0
NodeIsThere = (words : List Word) (bare other : ItemParts) (parts : List Part) → Among ((a_function ∷ an_item_node ∷ []) ∷ []) (map family_in parts) →
    AreSameNodes (fold (item_with words) bare parts) (fold (item_with words) other parts)

-- all parts of a line of types, patterns, paths or terms are those of shapes, of which `pearlite` has the law
abbrev pub ShapesAreThere : Type 0
ShapesAreThere = (action : ShapeAction) (parts : List Part) → AreThere (asks_of action) (map family_in parts) → map shapes.family_in (shape_parts parts) ≡ map family_in parts

pub record WhatIsAskedIsFound : Type 0 where
  pub a_first_type : IsFound type_of a_type
  pub a_first_term : IsFound term_of a_term
  pub expressions_there : AreFound (λ found. found.exprs) condition_or_expression
  pub patterns_there : AreFound (λ found. found.patterns) (a_pattern ∷ a_let_condition ∷ [])
  pub paths_there : AreFound (λ found. found.paths) (a_path ∷ [])
  pub terms_there : AreFound (λ found. found.terms) (a_term ∷ [])
  pub each_expression : IsSeen as_expr an_expression
  pub each_generic : IsSeen generic_of a_generic
  pub each_bound : IsSeen bound_of a_bound
  pub each_condition : IsSeen condition_of a_condition
  pub each_field : IsSeen field_of a_field
  pub each_method : IsSeen method_of a_method
  pub each_item : IsSeen item_of an_item
  pub each_operation : OperationsAreSeen
  pub operand : OperandIsThere
  pub matched : MatchedIsThere
  pub node : NodeIsThere
  pub shapes_alone : ShapesAreThere
