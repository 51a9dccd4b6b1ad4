-- The laws of sources, by name.
use Rattle.std.specs.Prelude.{◌≡◌, ℕ, List, length}
use Rattle.grammar_tables.specs.declared.parsing.Front.{Front}
use Rattle.grammar_tables.specs.declared.symbol.Symbol.TheVariants.{Nonterminal}
use Rattle.grammar_tables.specs.Trees.{Tree, IsTree, preorder, size}
use Rattle.source_grammar.specs.SourceGrammar.{source_grammar}
use Rattle.source_grammar.specs.Faults.{IsSourceDerivation, IsSourceFront, IsFault, IsFrontFault}
use Rattle.source_grammar.specs.declared.fault.SyntaxFault.{SyntaxFault}
use Rattle.source_grammar.specs.declared.fault.SyntaxFault.TheVariants.{NoMemory}

-- tokens that are derived within the limits have one derivation
abbrev pub HasOneSourceDerivation : Type 0
HasOneSourceDerivation = (goal levels : ℕ) (kinds one other : List ℕ) → IsSourceDerivation goal levels kinds one → IsSourceDerivation goal levels kinds other → one ≡ other

-- tokens that are not have one fault: one token is told, and one offence
abbrev pub HasOneFault : Type 0
HasOneFault = (goal levels : ℕ) (kinds : List ℕ) (one other : SyntaxFault) → (one ≡ NoMemory → ⊥) → (other ≡ NoMemory → ⊥) → IsFault goal levels kinds one → IsFault goal levels kinds other → one ≡ other

-- and no tokens are both
abbrev pub IsDerivedOrFaulty : Type 0
IsDerivedOrFaulty = (goal levels : ℕ) (kinds rs : List ℕ) (fault : SyntaxFault) → (fault ≡ NoMemory → ⊥) → IsSourceDerivation goal levels kinds rs → IsFault goal levels kinds fault → ⊥

-- of the same tokens one front is told
abbrev pub HasOneFront : Type 0
HasOneFront = (goal levels : ℕ) (kinds : List ℕ) (one other : Front) → IsSourceFront goal levels kinds one → IsSourceFront goal levels kinds other →
    (one.length ≡ other.length) × (one.derivation.items ≡ other.derivation.items)

-- why there is none is also why the tokens as a whole are not derived
abbrev pub IsFaultOfAll : Type 0
IsFaultOfAll = (goal levels : ℕ) (kinds : List ℕ) (fault : SyntaxFault) → IsFrontFault goal levels kinds fault → IsFault goal levels kinds fault

-- and no tokens have both
abbrev pub HasFrontOrFault : Type 0
HasFrontOrFault = (goal levels : ℕ) (kinds : List ℕ) (front : Front) (fault : SyntaxFault) → (fault ≡ NoMemory → ⊥) → IsSourceFront goal levels kinds front → IsFrontFault goal levels kinds fault → ⊥

-- a derivation is that of a tree with all the tokens
abbrev pub IsOfATree : Type 0
IsOfATree = (goal levels : ℕ) (kinds rs : List ℕ) → IsSourceDerivation goal levels kinds rs → (t : Tree) × IsTree source_grammar (Nonterminal goal) t × (preorder t ≡ rs) × (size t ≡ length kinds)

-- and of no other
abbrev pub IsOfOneTree : Type 0
IsOfOneTree = (goal levels : ℕ) (kinds rs : List ℕ) → IsSourceDerivation goal levels kinds rs → (one other : Tree) → IsTree source_grammar (Nonterminal goal) one → IsTree source_grammar (Nonterminal goal) other →
    preorder one ≡ rs → preorder other ≡ rs → one ≡ other
