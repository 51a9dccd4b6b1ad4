-- What the parser answers: the items of a source, or where it is refused.
use Rattle.std.specs.Prelude.{◌≡◌, ℕ, suc, ◌+◌, ◌<◌, List, [], ◌∷◌, length, ◌⊎◌, None}
use Rattle.text_core.specs.declared.fault.PassError.{PassError}
use Rattle.text_core.specs.declared.fault.PassError.TheVariants as P
use Rattle.text_core.specs.declared.refusal.Limit.{Limit}
use Rattle.text_core.specs.declared.refusal.LimitKind.TheVariants.{Functions}
use Rattle.text_core.specs.declared.refusal.SourceError.{SourceError}
use Rattle.grammar_tables.specs.Answers.{goal_of}
use Rattle.grammar_tables.specs.Grammar.{Derives}
use Rattle.grammar_tables.specs.Limits.{limit_passed}
use Rattle.grammar_tables.specs.Trees.{Tree, IsTree, preorder, values}
use Rattle.grammar_tables.specs.declared.symbol.Symbol.TheVariants.{Nonterminal}
use Rattle.source_grammar.specs.declared.fault.SyntaxFault.{SyntaxFault}
use Rattle.source_grammar.specs.Faults.{IsFault}
use Rattle.source_grammar.specs.SourceGrammar.{source_grammar, source_marks, source_goal}
use Rattle.source_words.specs.declared.word.Word.{Word}
use Rattle.source_words.specs.Faults.{kinds_in, error_of}
use Rattle.source_words.specs.Words.{AreWords, GivesNames, IsBadText}
use Rattle.source_trees.specs.declared.item.ImplItem.{ImplItem}
use Rattle.source_trees.specs.declared.item.ImplItem.TheVariants as M
use Rattle.source_trees.specs.declared.item.Item.{Item}
use Rattle.source_trees.specs.declared.item.ItemNode.{ItemNode}
use Rattle.source_trees.specs.declared.item.ItemNode.TheVariants as I
use Rattle.rs_syntax.specs.Gathered.{all_of, item_of}
use Rattle.rs_syntax.specs.Make.{trees}

-- ---- words

-- the words of the bytes; names are those of the old table, and of identifiers and lifetimes that have none there, in order of first use
pub record AreWordsOfSource (old : List (List ℕ)) (bytes : List ℕ) (words : List Word) : Type 0 where
  pub table : List (List ℕ)
  pub gives : GivesNames old bytes table
  pub are_words : AreWords table bytes words

-- ---- items

-- the tree is one of the whole grammar that derives the words, and within the limits
pub record IsTreeOf (words : List Word) (tree : Tree) : Type 0 where
  pub is_tree : IsTree source_grammar (Nonterminal source_goal) tree
  pub derives : Derives source_grammar (goal_of source_goal) (kinds_in words) (preorder tree)
  pub within : limit_passed source_marks 0 0 0 tree ≡ None

-- the items that a tree is made into
abbrev pub items_of : List Word → Tree → List Item
items_of words tree = all_of item_of (values (trees words) 0 tree)

-- the words spell these items
pub record AreItemsOf (words : List Word) (items : List Item) : Type 0 where
  pub tree : Tree
  pub is_tree_of : IsTreeOf words tree
  pub are : items ≡ items_of words tree

-- the bytes spell these items
pub record SpellsItems (old : List (List ℕ)) (bytes : List ℕ) (items : List Item) : Type 0 where
  pub words : List Word
  pub are_words : AreWordsOfSource old bytes words
  pub are_items : AreItemsOf words items

-- ---- the bound on functions

abbrev pub methods_among : List ImplItem → ℕ
methods_among [] = 0
methods_among (M.Method method ∷ items) = suc (methods_among items)
methods_among (M.ViewType span name ty ∷ items) = methods_among items

abbrev pub functions_of : ItemNode → ℕ
functions_of (I.Function function) = 1
functions_of (I.Trait of) = length of.methods
functions_of (I.Impl of) = methods_among of.items
functions_of _ = 0

-- all functions, those of traits and impls among them
abbrev pub functions_among : List Item → ℕ
functions_among [] = 0
functions_among (item ∷ items) = functions_of item.node + functions_among items

-- the most functions of a source
abbrev pub most_functions : ℕ
most_functions = 4096

-- more functions are spelled than a source may have
pub record AreTooMany (old : List (List ℕ)) (bytes : List ℕ) (limit : Limit) : Type 0 where
  pub items : List Item
  pub spelled : SpellsItems old bytes items
  pub many : most_functions < functions_among items
  pub is : limit ≡ record { kind = Functions; counted = 4097; bound = most_functions }

-- ---- refusals

-- the words are not derived by the whole grammar, or not within the limits
pub record IsSyntaxError (words : List Word) (end : ℕ) (error : SourceError) : Type 0 where
  pub fault : SyntaxFault
  pub is_fault : IsFault source_goal 0 (kinds_in words) fault
  pub is : error_of words end fault ≡ P.Source error

-- the words of the bytes are not
pub record HasSyntaxError (old : List (List ℕ)) (bytes : List ℕ) (error : SourceError) : Type 0 where
  pub words : List Word
  pub are_words : AreWordsOfSource old bytes words
  pub is_error : IsSyntaxError words (length bytes) error

-- an error of the parser: the bytes are no words, these are not derived, or there are too many functions
abbrev pub IsParseError : List (List ℕ) → List ℕ → PassError → Type 0
IsParseError old bytes (P.Source error) = IsBadText bytes error ⊎ HasSyntaxError old bytes error
IsParseError old bytes (P.Limit limit) = AreTooMany old bytes limit
IsParseError old bytes P.NoMemory = Unit {0}

-- an error of words
abbrev pub IsItemsError : List Word → ℕ → PassError → Type 0
IsItemsError words end (P.Source error) = IsSyntaxError words end error
IsItemsError words end (P.Limit limit) = ⊥
IsItemsError words end P.NoMemory = Unit {0}

-- where a source is refused it spells no items
abbrev pub SpellsNone : List (List ℕ) → List ℕ → PassError → Type 0
SpellsNone old bytes (P.Source error) = (items : List Item) → SpellsItems old bytes items → ⊥
SpellsNone old bytes (P.Limit limit) = Unit {0}
SpellsNone old bytes P.NoMemory = Unit {0}
