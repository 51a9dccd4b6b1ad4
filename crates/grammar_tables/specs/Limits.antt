-- Limits of a parse: how deep its tokens are, and how many operators stand in a chain. Each node of a parse tree whose nonterminal is a level is one level around its tokens. The turns of a chain are nested, each in the last part of the one before.
use Rattle.std.specs.Prelude.{◌≡◌, ℕ, suc, ◌+◌, ◌<◌, ◌≤◌, Bool, true, false, ◌&&◌, nat_eq, nat_le, if◌then◌else◌, List, [], ◌∷◌, ◌++◌, length, take, Option, Some, None}
use Rattle.grammar_tables.specs.declared.symbol.Symbol.TheVariants.{Nonterminal}
use Rattle.grammar_tables.specs.declared.symbol.Mark.{Mark}
use Rattle.grammar_tables.specs.declared.symbol.Mark.TheVariants.{Plain, Level, Chain}
use Rattle.grammar_tables.specs.Grammar.{Grammar, Derives}
use Rattle.grammar_tables.specs.Trees.{Tree, leaf, node, Trees, none, both, IsTree, preorder, size}

-- the most levels around a token
abbrev pub most_levels : ℕ
most_levels = 64

-- the most operators of one chain
abbrev pub most_operators : ℕ
most_operators = 256

abbrev pub has_parts : Trees → Bool
has_parts none = false
has_parts (both t ts) = true

-- an alternative of a nonterminal with this mark, with parts or without, is one level or one operator too many where so many levels are around it and so many operators of its chain before it
abbrev pub is_past : Mark → Bool → ℕ → ℕ → Bool
is_past Plain parts levels operators = false
is_past Level parts levels operators = parts && nat_le most_levels levels
is_past Chain parts levels operators = parts && nat_le most_operators operators

-- the levels around the parts of the nonterminal
abbrev pub levels_within : Mark → ℕ → ℕ
levels_within Plain levels = levels
levels_within Level levels = suc levels
levels_within Chain levels = levels

-- the operators before a part: a turn of a chain goes on with those before it
abbrev pub operators_before : Mark → Bool → ℕ → ℕ
operators_before Plain same operators = 0
operators_before Level same operators = 0
operators_before Chain same operators = if same then suc operators else 0

abbrev pub is_of : ℕ → Tree → Bool
is_of n (leaf k) = false
is_of n (node m r ts) = nat_eq m n

abbrev pub first_of : Option ℕ → Option ℕ → Option ℕ
first_of None o = o
first_of (Some i) o = Some i

-- `limit_passed marks levels operators at t`: the position of the first token that opens a level too many, or is an operator too many, in a tree whose first token has the position `at`, with so many levels around it and operators before it
abbrev mutual
  pub limit_passed : (ℕ → Mark) → ℕ → ℕ → ℕ → Tree → Option ℕ
  limit_passed marks levels operators at (leaf k) = None
  limit_passed marks levels operators at (node n r ts) = if is_past (marks n) (has_parts ts) levels operators then Some at else limit_passed_in marks n (levels_within (marks n) levels) operators at ts

  pub limit_passed_in : (ℕ → Mark) → ℕ → ℕ → ℕ → ℕ → Trees → Option ℕ
  limit_passed_in marks n levels operators at none = None
  limit_passed_in marks n levels operators at (both t ts) = first_of (limit_passed marks levels (operators_before (marks n) (is_of n t) operators) at t) (limit_passed_in marks n levels operators (at + size t) ts)

-- the tree of the derivation, with so many levels around it, passes a limit at this position first, or nowhere
unfoldable pub PassesAt : Grammar → (ℕ → Mark) → ℕ → ℕ → List ℕ → Option ℕ → Type 0
PassesAt G marks goal levels rs position = (t : Tree) → IsTree G (Nonterminal goal) t → preorder t ≡ rs → limit_passed marks levels 0 0 t ≡ position

-- The token at the position passes a limit: something derived goes on with it, and whatever does passes a limit there, and not before.
pub record IsPastLimit (G : Grammar) (marks : ℕ → Mark) (goal levels : ℕ) (xs : List ℕ) (position : ℕ) : Type 0 where
  pub inside : position < length xs
  pub viable : (zs rs : List ℕ) × Derives G (Nonterminal goal ∷ []) (take (suc position) xs ++ zs) rs
  pub passed : (zs rs : List ℕ) → Derives G (Nonterminal goal ∷ []) (take (suc position) xs ++ zs) rs → PassesAt G marks goal levels rs (Some position)

-- nothing that is derived and begins with these tokens passes a limit at one of them
abbrev pub KeepsLimits : Grammar → (ℕ → Mark) → ℕ → ℕ → List ℕ → Type 0
KeepsLimits G marks goal levels prefix = (zs rs : List ℕ) → Derives G (Nonterminal goal ∷ []) (prefix ++ zs) rs → (t : Tree) → IsTree G (Nonterminal goal) t → preorder t ≡ rs →
    (position : ℕ) → limit_passed marks levels 0 0 t ≡ Some position → length prefix ≤ position
