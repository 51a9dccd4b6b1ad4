-- What the parser has on its stack.
use Rattle.std.specs.Prelude.{◌≡◌, ℕ, Bool, false, nat_eq, List, [], ◌∷◌, ◌++◌, map, reverse}
use Rattle.grammar_tables.specs.declared.symbol.Mark.{Mark}
use Rattle.grammar_tables.specs.declared.symbol.Symbol.{Symbol}
use Rattle.grammar_tables.specs.declared.symbol.Symbol.TheVariants.{Terminal, Nonterminal}
use Rattle.grammar_tables.specs.declared.parsing.Expected.{Expected}
use Rattle.grammar_tables.specs.declared.parsing.Run.{Run}
use Rattle.grammar_tables.specs.declared.parsing.ParseError.{ParseError}
use Rattle.grammar_tables.specs.declared.parsing.ParseError.TheVariants.{Refused, PastLimit, NoMemory}
use Rattle.grammar_tables.specs.Parses.{ended_with}
use Rattle.grammar_tables.specs.Limits.{levels_within, operators_before}

abbrev pub is_symbol : ℕ → Symbol → Bool
is_symbol n (Terminal k) = false
is_symbol n (Nonterminal m) = nat_eq m n

-- the goal, with so many levels around it
abbrev pub goal_entry : ℕ → ℕ → Expected
goal_entry goal levels = record { symbol = Nonterminal goal; levels = levels; operators = 0 }

-- a part of an alternative of the nonterminal, which has this mark, so many levels around it and so many operators before it
abbrev pub part_of : Mark → ℕ → ℕ → ℕ → Symbol → Expected
part_of mark n levels operators s = record { symbol = s; levels = levels_within mark levels; operators = operators_before mark (is_symbol n s) operators }

-- What was expected is replaced by the parts of an alternative of its nonterminal, which has this mark.
pub record IsReplaced (old new : Run) (around : Expected) (n : ℕ) (mark : Mark) (r : ℕ) (parts : List Symbol) : Type 0 where
  pub noted : new.derivation.items ≡ old.derivation.items ++ r ∷ []
  pub closed : reverse new.ended.items ≡ ended_with n (reverse parts) (reverse old.ended.items)
  pub pushed : new.expected.items ≡ old.expected.items ++ map (part_of mark n around.levels around.operators) parts

-- the refusal at the position, where the symbol is expected, and then the others
abbrev pub IsRefusedAt : List Expected → List ℕ → Expected → ℕ → ParseError → Type 0
IsRefusedAt expected ended next position (Refused r) = (r.position ≡ position) × (r.expected.items ≡ expected ++ next ∷ []) × (r.ended.items ≡ ended)
IsRefusedAt expected ended next position (PastLimit p) = ⊥
IsRefusedAt expected ended next position NoMemory = Unit {0}
