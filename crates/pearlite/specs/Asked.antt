-- The families of parts, what each action of shapes asks of the parts of its line, and that it is there in each term.
use Rattle.std.specs.Prelude.{ℕ, List, [], ◌∷◌, map, Option, IsSome}
use Rattle.grammar_tables.specs.Answers.{goal_of}
use Rattle.grammar_tables.specs.Grammar.{Derives}
use Rattle.grammar_tables.specs.Trees.{Tree, IsTree, preorder, values}
use Rattle.grammar_tables.specs.declared.symbol.Symbol.TheVariants.{Nonterminal}
use Rattle.source_grammar.specs.Actions.{action_of}
use Rattle.source_grammar.specs.SourceGrammar.{source_grammar, term_goal}
use Rattle.source_grammar.specs.declared.action.Action.{Action}
use Rattle.source_grammar.specs.declared.action.Action.TheVariants.{Keep, Shape, Code}
use Rattle.source_grammar.specs.declared.action.ShapeAction.{ShapeAction}
use Rattle.source_grammar.specs.declared.action.ShapeAction.TheVariants as shapes
use Rattle.source_words.specs.declared.word.Word.{Word}
use Rattle.pearlite.specs.declared.part.Part.{Part}
use Rattle.pearlite.specs.declared.part.Value.{Value}
use Rattle.pearlite.specs.declared.part.Value.TheVariants as V
use Rattle.pearlite.specs.Meaning.{shape_actions}
use Rattle.pearlite.specs.Parts.{as_type, as_pattern, as_path, as_term, first_of, behind}
use Rattle.pearlite.specs.Served.{Among, Asks, IsServed}

-- ---- families

abbrev pub a_token : ℕ
a_token = 0

abbrev pub a_type : ℕ
a_type = 1

abbrev pub a_pattern : ℕ
a_pattern = 2

abbrev pub a_pattern_field : ℕ
a_pattern_field = 3

abbrev pub a_path : ℕ
a_path = 4

abbrev pub a_term : ℕ
a_term = 5

abbrev pub a_term_field : ℕ
a_term_field = 6

abbrev pub an_arm : ℕ
an_arm = 7

abbrev pub a_binder : ℕ
a_binder = 8

abbrev pub a_suffix : ℕ
a_suffix = 9

abbrev pub passed_over : ℕ
passed_over = 10

abbrev pub family_of : Value → ℕ
family_of V.Token = a_token
family_of (V.Type ty) = a_type
family_of (V.Pattern pattern) = a_pattern
family_of (V.FieldPattern field) = a_pattern_field
family_of (V.Path path) = a_path
family_of (V.Term term) = a_term
family_of (V.FieldTerm field) = a_term_field
family_of (V.Arm arm) = an_arm
family_of (V.Binder binder) = a_binder
family_of (V.Suffix suffix) = a_suffix
family_of V.Passed = passed_over

abbrev pub family_in : Part → ℕ
family_in part = family_of part.value

-- ---- what is asked

-- these parts in this order, and none but of these families
abbrev pub asking : List ℕ → List ℕ → Asks
asking parts families = record { parts = map (λ family. family ∷ []) parts; first = []; families = families; last = families; alone = families }

-- `"(" list(X) ")"`, where what stands alone is one X
abbrev pub in_parens : ℕ → Asks
in_parens family = record (asking [] (a_token ∷ family ∷ [])) { alone = family ∷ [] }

abbrev pub tokens : Asks
tokens = asking [] (a_token ∷ [])

abbrev pub asks_of : ShapeAction → Asks
asks_of shapes.NamedType = asking (a_token ∷ []) (a_token ∷ a_type ∷ [])
asks_of shapes.ReferenceType = asking (a_token ∷ a_type ∷ []) (a_token ∷ a_type ∷ [])
asks_of shapes.TupleType = in_parens a_type
asks_of shapes.SelfType = tokens
asks_of shapes.Wildcard = tokens
asks_of shapes.MutPattern = tokens
asks_of shapes.IntegerPattern = tokens
asks_of shapes.TruthPattern = tokens
asks_of shapes.TuplePattern = in_parens a_pattern
asks_of shapes.PathPattern = asking (a_path ∷ []) (a_token ∷ a_path ∷ a_pattern ∷ a_pattern_field ∷ [])
asks_of shapes.FieldPattern = asking (a_token ∷ []) (a_token ∷ a_pattern ∷ [])
asks_of shapes.NamedPath = asking (a_token ∷ []) (a_token ∷ a_type ∷ [])
asks_of shapes.QualifiedPath = asking (a_type ∷ []) (a_token ∷ a_type ∷ [])
asks_of shapes.TermOperation = asking (a_term ∷ []) (a_token ∷ a_term ∷ a_suffix ∷ [])
asks_of shapes.PrefixTerm = asking (a_term ∷ []) (a_token ∷ a_term ∷ [])
asks_of shapes.View = tokens
asks_of shapes.TermMember = asking (a_token ∷ a_token ∷ []) (a_token ∷ a_term ∷ [])
asks_of shapes.Quantified = record (asking (a_term ∷ []) (a_token ∷ a_term ∷ a_binder ∷ [])) { last = a_term ∷ [] }
asks_of shapes.Binder = asking (a_type ∷ []) (a_token ∷ a_type ∷ [])
asks_of shapes.PathTerm = asking (a_path ∷ []) (a_token ∷ a_path ∷ a_term ∷ a_term_field ∷ [])
asks_of shapes.FieldTerm = asking (a_term ∷ []) (a_token ∷ a_term ∷ [])
asks_of shapes.IntegerTerm = tokens
asks_of shapes.TruthTerm = tokens
asks_of shapes.AnswerTerm = tokens
asks_of shapes.SelfTerm = tokens
asks_of shapes.ParenTerm = in_parens a_term
asks_of shapes.IfTerm = asking (a_term ∷ a_term ∷ a_term ∷ []) (a_token ∷ a_term ∷ [])
asks_of shapes.MatchTerm = asking (a_term ∷ []) (a_token ∷ a_term ∷ an_arm ∷ [])
asks_of shapes.TermArm = asking (a_pattern ∷ a_term ∷ []) (a_token ∷ a_pattern ∷ a_term ∷ [])
asks_of shapes.MutRefTerm = asking (a_term ∷ a_term ∷ []) (a_token ∷ a_term ∷ [])
asks_of shapes.PredicateTerm = asking [] (a_token ∷ a_term ∷ [])

-- ---- what is made

-- of which family an action makes a value
abbrev pub family_made : ShapeAction → ℕ
family_made shapes.NamedType = a_type
family_made shapes.ReferenceType = a_type
family_made shapes.TupleType = a_type
family_made shapes.SelfType = a_type
family_made shapes.Wildcard = a_pattern
family_made shapes.MutPattern = a_pattern
family_made shapes.IntegerPattern = a_pattern
family_made shapes.TruthPattern = a_pattern
family_made shapes.TuplePattern = a_pattern
family_made shapes.PathPattern = a_pattern
family_made shapes.FieldPattern = a_pattern_field
family_made shapes.NamedPath = a_path
family_made shapes.QualifiedPath = a_path
family_made shapes.View = a_suffix
family_made shapes.TermMember = a_suffix
family_made shapes.Binder = a_binder
family_made shapes.FieldTerm = a_term_field
family_made shapes.TermArm = an_arm
family_made action = a_term

-- ---- lines

-- those that make nothing ask nothing
abbrev pub asks_by : Action → Asks
asks_by (Shape action) = asks_of action
asks_by Keep = asking [] []
asks_by (Code action) = asking [] []

abbrev pub asks_at : ℕ → Asks
asks_at line = asks_by (action_of line)

-- ---- the laws

-- the tree is that of a term of the grammar
pub record IsTermTree (tree : Tree) : Type 0 where
  pub kinds : List ℕ
  pub is_tree : IsTree source_grammar (Nonterminal term_goal) tree
  pub derives : Derives source_grammar (goal_of term_goal) kinds (preorder tree)

-- in each line of it what the action asks is there
abbrev pub EachPartIsThere : Type 0
EachPartIsThere = (words : List Word) (tree : Tree) → IsTermTree tree → IsServed (shape_actions words) family_in asks_at 0 tree

-- where a part of the family is asked, it is found, and what is asked behind it stands behind it
abbrev pub IsFound : {A : Type 0} → (Value → Option A) → ℕ → Type 0
IsFound seen family = (places : List (List ℕ)) (parts : List Part) → Among ((family ∷ []) ∷ places) (map family_in parts) → IsSome (first_of seen parts) × Among places (map family_in (behind seen parts))

abbrev pub WhatIsAskedIsFound : Type 0
WhatIsAskedIsFound = IsFound as_type a_type × IsFound as_pattern a_pattern × IsFound as_path a_path × IsFound as_term a_term

-- and it is made into a term
abbrev pub ATermIsThere : Type 0
ATermIsThere = (words : List Word) (tree : Tree) → IsTermTree tree → Among ((a_term ∷ []) ∷ []) (map family_in (values (shape_actions words) 0 tree))
