-- What the answers of the parser mean: the tokens are derived within the limits, or the first that cannot continue or passes a limit is told.
use Rattle.std.specs.Prelude.{◌≡◌, ◌⊎◌, ℕ, suc, ◌-◌, None, List, drop, take, reverse, length, ◌≤◌, ◌<◌}
use Rattle.grammar_tables.specs.declared.parsing.Front.{Front}
use Rattle.grammar_tables.specs.declared.parsing.ParseError.{ParseError}
use Rattle.grammar_tables.specs.declared.parsing.ParseError.TheVariants as error
use Rattle.grammar_tables.specs.declared.parsing.Refusal.{Refusal}
use Rattle.grammar_tables.specs.declared.symbol.Symbol.{Symbol}
use Rattle.grammar_tables.specs.Grammar.{Derives}
use Rattle.grammar_tables.specs.Parses.{IsFront, IsRefusal}
use Rattle.grammar_tables.specs.Limits.{PassesAt, IsPastLimit, KeepsLimits}
use Rattle.grammar_tables.specs.Answers.{goal_of, symbols_of, StopsWith, IsDerived}
use Rattle.source_grammar.specs.SourceGrammar.{source_grammar, source_marks}
use Rattle.source_grammar.specs.LeftOut.{stop_at, offence_at}
use Rattle.source_grammar.specs.declared.fault.SyntaxFault.{SyntaxFault}
use Rattle.source_grammar.specs.declared.fault.SyntaxFault.TheVariants as fault
use Rattle.source_grammar.specs.declared.offence.Offence.{Offence}
use Rattle.source_grammar.specs.declared.offence.Offence.TheVariants as offence

-- the nonterminal derives the tokens of these kinds, with so many levels around it, within the limits
abbrev pub IsSourceDerivation : ℕ → ℕ → List ℕ → List ℕ → Type 0
IsSourceDerivation goal levels kinds rs = IsDerived source_grammar source_marks goal levels kinds rs

-- The token at the position, or the end, is the first that cannot continue, no token before it passes a limit, and this is its offence.
pub record IsRefusedAs (goal levels : ℕ) (kinds : List ℕ) (position : ℕ) (what : Offence) : Type 0 where
  pub inside : position ≤ length kinds
  pub refusal : IsRefusal source_grammar (goal_of goal) kinds (drop position kinds)
  pub within : KeepsLimits source_grammar source_marks goal levels (take position kinds)
  pub ended : List ℕ
  pub expected : List Symbol
  pub stops : StopsWith source_grammar goal kinds ended expected (drop position kinds)
  pub offence : offence_at (stop_at kinds position ended expected) ≡ what

-- why the tokens are none that the nonterminal derives within the limits
abbrev pub IsFault : ℕ → ℕ → List ℕ → SyntaxFault → Type 0
IsFault goal levels kinds (fault.Stray position) = IsRefusedAs goal levels kinds position offence.Stray
IsFault goal levels kinds (fault.LeftOut position) = IsRefusedAs goal levels kinds position offence.LeftOut ⊎ IsRefusedAs goal levels kinds (suc position) offence.LeftOutBefore
IsFault goal levels kinds (fault.TooDeep position) = IsPastLimit source_grammar source_marks goal levels kinds position
IsFault goal levels kinds fault.NoMemory = Unit {0}

-- the tokens before the position are not derived from the nonterminal
abbrev pub IsUnderived : ℕ → List ℕ → ℕ → Type 0
IsUnderived goal kinds position = (rs : List ℕ) → Derives source_grammar (goal_of goal) (take position kinds) rs → ⊥

-- the token is so refused, and what stands before it is not derived
abbrev pub IsFrontRefusedAs : ℕ → ℕ → List ℕ → ℕ → Offence → Type 0
IsFrontRefusedAs goal levels kinds position what = IsRefusedAs goal levels kinds position what × IsUnderived goal kinds position

-- why no front of the tokens is one
abbrev pub IsFrontFault : ℕ → ℕ → List ℕ → SyntaxFault → Type 0
IsFrontFault goal levels kinds (fault.Stray position) = IsFrontRefusedAs goal levels kinds position offence.Stray
IsFrontFault goal levels kinds (fault.LeftOut position) = IsFrontRefusedAs goal levels kinds position offence.LeftOut ⊎ IsFrontRefusedAs goal levels kinds (suc position) offence.LeftOutBefore
IsFrontFault goal levels kinds (fault.TooDeep position) = IsPastLimit source_grammar source_marks goal levels kinds position
IsFrontFault goal levels kinds fault.NoMemory = Unit {0}

-- The front is the longest that is derived, as far as the tokens can continue, and it passes no limit.
pub record IsSourceFront (goal levels : ℕ) (kinds : List ℕ) (front : Front) : Type 0 where
  pub inside : front.length ≤ length kinds
  pub derived : Derives source_grammar (goal_of goal) (take front.length kinds) front.derivation.items
  pub within : PassesAt source_grammar source_marks goal levels front.derivation.items None
  pub longest : IsFront source_grammar (goal_of goal) kinds front.derivation.items (drop front.length kinds)

-- ---- the faults that the errors of the parser stand for

abbrev pub fault_at : ℕ → Offence → SyntaxFault
fault_at position offence.Stray = fault.Stray position
fault_at position offence.LeftOut = fault.LeftOut position
fault_at position offence.LeftOutBefore = fault.LeftOut (position - 1)

abbrev pub offence_of : List ℕ → Refusal → Offence
offence_of kinds r = offence_at (stop_at kinds r.position (reverse r.ended.items) (reverse (symbols_of r.expected.items)))

abbrev pub fault_of : List ℕ → ParseError → SyntaxFault
fault_of kinds (error.Refused r) = fault_at r.position (offence_of kinds r)
fault_of kinds (error.PastLimit position) = fault.TooDeep position
fault_of kinds error.NoMemory = fault.NoMemory

-- where the token before is the offence, there is one
abbrev pub HasTokenBefore : List ℕ → ParseError → Type 0
HasTokenBefore kinds (error.Refused r) = offence_of kinds r ≡ offence.LeftOutBefore → 0 < r.position
HasTokenBefore kinds (error.PastLimit position) = Unit {0}
HasTokenBefore kinds error.NoMemory = Unit {0}
