-- What the answers of the parser mean.
use Rattle.std.specs.Prelude.{◌≤◌, ◌<◌, ℕ, None, List, [], ◌∷◌, length, take, drop, reverse, map}
use Rattle.grammar_tables.specs.declared.symbol.Mark.{Mark}
use Rattle.grammar_tables.specs.declared.symbol.Symbol.{Symbol}
use Rattle.grammar_tables.specs.declared.symbol.Symbol.TheVariants.{Nonterminal}
use Rattle.grammar_tables.specs.declared.parsing.Expected.{Expected}
use Rattle.grammar_tables.specs.declared.parsing.Front.{Front}
use Rattle.grammar_tables.specs.declared.parsing.ParseError.{ParseError}
use Rattle.grammar_tables.specs.declared.parsing.ParseError.TheVariants.{Refused, PastLimit, NoMemory}
use Rattle.grammar_tables.specs.Grammar.{Grammar, Derives}
use Rattle.grammar_tables.specs.LL1.{Plan, IsPlanned, HasPlan}
use Rattle.grammar_tables.specs.Limits.{PassesAt, IsPastLimit, KeepsLimits}
use Rattle.grammar_tables.specs.Parses.{Parses, accept, reject, IsRefusal, IsFront}

abbrev pub goal_of : ℕ → List Symbol
goal_of goal = Nonterminal goal ∷ []

abbrev pub symbols_of : List Expected → List Symbol
symbols_of es = map (λ (e : Expected). e.symbol) es

-- the parser stops behind the front
abbrev pub EndsAt : Grammar → ℕ → List ℕ → Front → Type 0
EndsAt G goal xs f = (f.length ≤ length xs) × Parses G [] (goal_of goal) xs (accept f.derivation.items (reverse f.ended.items) (drop f.length xs))

-- it stops at the refused token, with the symbols that are expected there, the next one last
abbrev pub StopsAt : Grammar → ℕ → List ℕ → ParseError → Type 0
StopsAt G goal xs (Refused r) = (r.position ≤ length xs) × Parses G [] (goal_of goal) xs (reject (reverse r.ended.items) (reverse (symbols_of r.expected.items)) (drop r.position xs))
StopsAt G goal xs (PastLimit position) = position < length xs
StopsAt G goal xs NoMemory = Unit {0}

-- a parse of the whole text stops so
abbrev pub StopsWith : Grammar → ℕ → List ℕ → List ℕ → List Symbol → List ℕ → Type 0
StopsWith G goal xs ended [] ys = (rs : List ℕ) × Parses G [] (goal_of goal) xs (accept rs ended ys)
StopsWith G goal xs ended (s ∷ ss) ys = Parses G [] (goal_of goal) xs (reject ended (s ∷ ss) ys)

-- whatever plan brings the nonterminals to their ends, this is so
abbrev pub ByPlan : Grammar → ℕ → Type 0 → Type 0
ByPlan G goal A = (plan : Plan) → IsPlanned G plan → HasPlan G plan goal → A

-- The front is the longest one that is derived, and it passes no limit.
pub record IsParsed (G : Grammar) (marks : ℕ → Mark) (goal levels : ℕ) (xs : List ℕ) (f : Front) : Type 0 where
  pub inside : f.length ≤ length xs
  pub derived : Derives G (goal_of goal) (take f.length xs) f.derivation.items
  pub within : PassesAt G marks goal levels f.derivation.items None
  pub longest : IsFront G (goal_of goal) xs f.derivation.items (drop f.length xs)

-- The token at the position, or the end, is the first one that cannot continue, and no token before it passes a limit.
pub record IsRefused (G : Grammar) (marks : ℕ → Mark) (goal levels : ℕ) (xs : List ℕ) (position : ℕ) : Type 0 where
  pub inside : position ≤ length xs
  pub refusal : ByPlan G goal (IsRefusal G (goal_of goal) xs (drop position xs))
  pub within : KeepsLimits G marks goal levels (take position xs)

-- why a text is not derived within the limits
abbrev pub IsParseError : Grammar → (ℕ → Mark) → ℕ → ℕ → List ℕ → ParseError → Type 0
IsParseError G marks goal levels xs (Refused r) = IsRefused G marks goal levels xs r.position
IsParseError G marks goal levels xs (PastLimit position) = ByPlan G goal (IsPastLimit G marks goal levels xs position)
IsParseError G marks goal levels xs NoMemory = Unit {0}

-- and why no front of it is
abbrev pub IsFrontError : Grammar → (ℕ → Mark) → ℕ → ℕ → List ℕ → ParseError → Type 0
IsFrontError G marks goal levels xs (Refused r) = IsRefused G marks goal levels xs r.position × ((rs : List ℕ) → Derives G (goal_of goal) (take r.position xs) rs → ⊥)
IsFrontError G marks goal levels xs (PastLimit position) = ByPlan G goal (IsPastLimit G marks goal levels xs position)
IsFrontError G marks goal levels xs NoMemory = Unit {0}

-- the whole text is derived, within the limits
abbrev pub IsDerived : Grammar → (ℕ → Mark) → ℕ → ℕ → List ℕ → List ℕ → Type 0
IsDerived G marks goal levels xs rs = Derives G (goal_of goal) xs rs × PassesAt G marks goal levels rs None

-- the whole text is parsed, or the parser stops there: before the refused token, or before what stands behind a front
abbrev pub StopsBefore : Grammar → ℕ → List ℕ → ParseError → Type 0
StopsBefore G goal xs (Refused r) = (r.position ≤ length xs) × StopsWith G goal xs (reverse r.ended.items) (reverse (symbols_of r.expected.items)) (drop r.position xs)
StopsBefore G goal xs (PastLimit position) = position < length xs
StopsBefore G goal xs NoMemory = Unit {0}
