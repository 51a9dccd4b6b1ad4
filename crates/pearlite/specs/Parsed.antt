-- The term that stands at a place of a source, or where it is refused.
use Rattle.std.specs.Prelude.{◌≡◌, ℕ, ◌+◌, List, drop, length}
use Rattle.text_core.specs.declared.fault.PassError.{PassError}
use Rattle.text_core.specs.declared.fault.PassError.TheVariants as P
use Rattle.text_core.specs.declared.refusal.SourceError.{SourceError}
use Rattle.grammar_tables.specs.declared.parsing.Front.{Front}
use Rattle.grammar_tables.specs.declared.symbol.Symbol.TheVariants.{Nonterminal}
use Rattle.grammar_tables.specs.Trees.{Tree, IsTree, preorder, size, values}
use Rattle.source_grammar.specs.declared.fault.SyntaxFault.{SyntaxFault}
use Rattle.source_grammar.specs.declared.fault.SyntaxFault.TheVariants as fault
use Rattle.source_grammar.specs.Faults.{IsSourceFront, IsFrontFault}
use Rattle.source_grammar.specs.SourceGrammar.{source_grammar, term_goal}
use Rattle.source_words.specs.declared.word.Word.{Word}
use Rattle.source_words.specs.Faults.{kinds_in, error_of}
use Rattle.source_words.specs.Words.{AreWords, GivesNames}
use Rattle.pearlite.specs.Cursor.{Standing}
use Rattle.pearlite.specs.Meaning.{shape_actions}
use Rattle.pearlite.specs.Parts.{first_term}
use Rattle.source_trees.specs.Pterm.{Pterm}

-- this is what the actions make of each tree with that derivation and so many tokens
unfoldable pub IsMade : List Word → List ℕ → ℕ → Pterm → Type 0
IsMade words derivation count is = (t : Tree) → IsTree source_grammar (Nonterminal term_goal) t → preorder t ≡ derivation → size t ≡ count → is ≡ first_term (values (shape_actions words) 0 t)

-- So many words are the longest front that is a term, within the limits and with so many levels around it, and this is what the actions make of its tree.
pub record ReadsTerm (levels : ℕ) (words : List Word) (is : Pterm) (taken : ℕ) : Type 0 where
  pub front : Front
  pub longest : IsSourceFront term_goal levels (kinds_in words) front
  pub tree : Tree
  pub is_tree : IsTree source_grammar (Nonterminal term_goal) tree
  pub derives : preorder tree ≡ front.derivation.items
  pub made : is ≡ first_term (values (shape_actions words) 0 tree)
  pub all : taken ≡ front.length

-- The words from where it stands up to the place `after` spell this term. Names are those of the old table, and of identifiers and lifetimes of the
-- source that have none there, in order of first use.
pub record SpellsTerm (old : List (List ℕ)) (standing : Standing) (is : Pterm) (after : ℕ) : Type 0 where
  pub table : List (List ℕ)
  pub gives : GivesNames old standing.bytes table
  pub words : List Word
  pub are_words : AreWords table standing.bytes words
  pub taken : ℕ
  pub reads : ReadsTerm standing.levels (drop standing.place words) is taken
  pub behind : after ≡ standing.place + taken

-- ---- refusals

-- how many words stand before the one that is told
abbrev pub position_of : SyntaxFault → ℕ
position_of (fault.Stray position) = position
position_of (fault.LeftOut position) = position
position_of (fault.TooDeep position) = position
position_of fault.NoMemory = 0

-- no front of the words from where it stands is a term: the word at the place `after`, or the end, is told
pub record IsTermRefusal (standing : Standing) (error : SourceError) (after : ℕ) : Type 0 where
  pub table : List (List ℕ)
  pub words : List Word
  pub are_words : AreWords table standing.bytes words
  pub fault : SyntaxFault
  pub is_fault : IsFrontFault term_goal standing.levels (kinds_in (drop standing.place words)) fault
  pub told : error_of (drop standing.place words) (length standing.bytes) fault ≡ P.Source error
  pub behind : after ≡ standing.place + position_of fault

-- an error, and the place that it leaves
abbrev pub IsTermError : Standing → PassError → ℕ → Type 0
IsTermError standing (P.Source error) after = IsTermRefusal standing error after
IsTermError standing (P.Limit limit) after = ⊥
IsTermError standing P.NoMemory after = after ≡ standing.place

-- where a term is refused none is spelled
abbrev pub SpellsNoTerm : List (List ℕ) → Standing → PassError → Type 0
SpellsNoTerm old standing (P.Source error) = (is : Pterm) (after : ℕ) → SpellsTerm old standing is after → ⊥
SpellsNoTerm old standing (P.Limit limit) = Unit {0}
SpellsNoTerm old standing P.NoMemory = Unit {0}
