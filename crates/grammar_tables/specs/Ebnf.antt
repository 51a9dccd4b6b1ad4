-- Grammars as they are written: a line for each nonterminal, in the extended notation of Backus and Naur (ISO 14977), and the alternatives that the lines stand for.
use Rattle.std.specs.Prelude.{ℕ, suc, List, [], ◌∷◌, ◌++◌, length, map}
use Rattle.grammar_tables.specs.declared.symbol.Symbol.{Symbol}
use Rattle.grammar_tables.specs.declared.symbol.Symbol.TheVariants.{Terminal, Nonterminal}
use Rattle.grammar_tables.specs.declared.symbol.Mark.{Mark}
use Rattle.grammar_tables.specs.declared.symbol.Mark.TheVariants.{Plain, Level, Chain}

infixr 70 ◌·◌
infixr 60 ◌∣◌
pub data Form : Type 0 where
  -- the empty text
  epsilon : Form
  -- a token that the terminal of that number stands for
  terminal : ℕ → Form
  -- the nonterminal of that number
  nonterminal : ℕ → Form
  -- the one and then the other
  ◌·◌ : Form → Form → Form
  -- the one or the other
  ◌∣◌ : Form → Form → Form
  -- the form or nothing
  optional : Form → Form
  -- the form any number of times
  repeated : Form → Form
  -- the form any number of times, with tokens of that terminal between and perhaps behind the last
  separated : ℕ → Form → Form
  -- the form any number of times, each time as one operator of a chain
  chain : Form → Form
  -- the form, with all its tokens one level deeper
  level : Form → Form

-- the bodies of a nonterminal
abbrev pub Alternatives : Type 0
Alternatives = List (List Symbol)

-- the bodies of a nonterminal, and what counts at it
pub record Production : Type 0 where
  pub mark : Mark
  pub bodies : Alternatives

abbrev pub plainly : Alternatives → Production
plainly alts = record { mark = Plain; bodies = alts }

-- What a form stands for: its alternatives, the new nonterminals that they need, in the order of their numbers, and the first number that is free behind them.
pub record Expanded : Type 0 where
  pub bodies : Alternatives
  pub introduced : List Production
  pub free : ℕ

-- The same where the form stands in one alternative.
pub record ExpandedBody : Type 0 where
  pub body : List Symbol
  pub introduced : List Production
  pub free : ℕ

abbrev pub one : List Symbol → ℕ → Expanded
one ss free = record { bodies = ss ∷ []; introduced = []; free = free }

-- the alternatives of two forms
abbrev pub either : Expanded → Expanded → Expanded
either x y = record { bodies = x.bodies ++ y.bodies; introduced = x.introduced ++ y.introduced; free = y.free }

-- the alternatives and one more
abbrev pub or_else : Expanded → List Symbol → Expanded
or_else x ss = record { bodies = x.bodies ++ ss ∷ []; introduced = x.introduced; free = x.free }

-- the new nonterminal of this number has these alternatives
abbrev pub as_nonterminal : Mark → ℕ → Expanded → List Symbol → ExpandedBody
as_nonterminal mark number x ss = record { body = Nonterminal number ∷ ss; introduced = record { mark = mark; bodies = x.bodies } ∷ x.introduced; free = x.free }

-- a body as the one alternative
abbrev pub alone : ExpandedBody → Expanded
alone x = record { bodies = x.body ∷ []; introduced = x.introduced; free = x.free }

-- the new nonterminals of what stands behind come first
abbrev pub before : Expanded → ExpandedBody → Expanded
before x y = record { bodies = x.bodies; introduced = y.introduced ++ x.introduced; free = x.free }

abbrev pub before_body : ExpandedBody → ExpandedBody → ExpandedBody
before_body x y = record { body = x.body; introduced = y.introduced ++ x.introduced; free = x.free }

-- A loop at the front of an alternative is multiplied out, so that no alternative begins with a nullable nonterminal: `x` is its first turn, and `y` the others.
abbrev pub looped : Expanded → Expanded → List Production → List Symbol → Expanded
looped x y more ss = record { bodies = x.bodies ++ ss ∷ []; introduced = plainly (y.bodies ++ [] ∷ []) ∷ more ++ (x.introduced ++ y.introduced); free = y.free }

-- what stands behind a turn of a list: the token between and the next turn, or nothing
abbrev pub separated_rest : ℕ → ℕ → Production
separated_rest k number = plainly ((Terminal k ∷ Nonterminal number ∷ []) ∷ [] ∷ [])

-- a list as a new nonterminal of this number; the number behind it is that of what stands behind a turn
abbrev pub as_separated : ℕ → ℕ → Expanded → List Symbol → ExpandedBody
as_separated k number x ss = record { body = Nonterminal number ∷ ss; introduced = plainly (x.bodies ++ [] ∷ []) ∷ separated_rest k number ∷ x.introduced; free = x.free }

-- `alternatives a ss free` are the alternatives of `a`, with the symbols `ss` behind each. `as_one_body a ss free` is the same as one alternative: what has several, and what is marked, becomes a new nonterminal.
-- A chain stands behind its first operand, so never at the front.
abbrev mutual
  pub alternatives : Form → List Symbol → ℕ → Expanded
  alternatives epsilon ss free = one ss free
  alternatives (terminal k) ss free = one (Terminal k ∷ ss) free
  alternatives (nonterminal m) ss free = one (Nonterminal m ∷ ss) free
  alternatives (a · b) ss free = (λ (y : ExpandedBody). before (alternatives a y.body y.free) y) (as_one_body b ss free)
  alternatives (a ∣ b) ss free = (λ (x : Expanded). either x (alternatives b ss x.free)) (alternatives a ss free)
  alternatives (optional a) ss free = or_else (alternatives a ss free) ss
  alternatives (repeated a) ss free = (λ (x : Expanded). looped x (alternatives a (Nonterminal free ∷ []) x.free) [] ss) (alternatives a (Nonterminal free ∷ ss) (suc free))
  alternatives (separated k a) ss free = (λ (x : Expanded). looped x (alternatives a (Nonterminal (suc free) ∷ []) x.free) (separated_rest k free ∷ []) ss) (alternatives a (Nonterminal (suc free) ∷ ss) (suc (suc free)))
  alternatives (chain a) ss free = alone (as_nonterminal Chain free (or_else (alternatives a (Nonterminal free ∷ []) (suc free)) []) ss)
  alternatives (level a) ss free = alone (as_nonterminal Level free (alternatives a [] (suc free)) ss)

  pub as_one_body : Form → List Symbol → ℕ → ExpandedBody
  as_one_body epsilon ss free = record { body = ss; introduced = []; free = free }
  as_one_body (terminal k) ss free = record { body = Terminal k ∷ ss; introduced = []; free = free }
  as_one_body (nonterminal m) ss free = record { body = Nonterminal m ∷ ss; introduced = []; free = free }
  as_one_body (a · b) ss free = (λ (y : ExpandedBody). before_body (as_one_body a y.body y.free) y) (as_one_body b ss free)
  as_one_body (a ∣ b) ss free = as_nonterminal Plain free ((λ (x : Expanded). either x (alternatives b [] x.free)) (alternatives a [] (suc free))) ss
  as_one_body (optional a) ss free = as_nonterminal Plain free (or_else (alternatives a [] (suc free)) []) ss
  as_one_body (repeated a) ss free = as_nonterminal Plain free (or_else (alternatives a (Nonterminal free ∷ []) (suc free)) []) ss
  as_one_body (separated k a) ss free = as_separated k free (alternatives a (Nonterminal (suc free) ∷ []) (suc (suc free))) ss
  as_one_body (chain a) ss free = as_nonterminal Chain free (or_else (alternatives a (Nonterminal free ∷ []) (suc free)) []) ss
  as_one_body (level a) ss free = as_nonterminal Level free (alternatives a [] (suc free)) ss

-- The nonterminals of the lines, and the new ones.
pub record Lines : Type 0 where
  pub lines : List Production
  pub introduced : List Production

abbrev pub joined : Mark → Expanded → Lines → Lines
joined mark x y = record { lines = record { mark = mark; bodies = x.bodies } ∷ y.lines; introduced = x.introduced ++ y.introduced }

-- a line that is a level as a whole is so marked itself
abbrev pub mark_of_line : Form → Mark
mark_of_line (level a) = Level
mark_of_line epsilon = Plain
mark_of_line (terminal k) = Plain
mark_of_line (nonterminal m) = Plain
mark_of_line (a · b) = Plain
mark_of_line (a ∣ b) = Plain
mark_of_line (optional a) = Plain
mark_of_line (repeated a) = Plain
mark_of_line (separated k a) = Plain
mark_of_line (chain a) = Plain

abbrev pub in_line : Form → Form
in_line (level a) = a
in_line epsilon = epsilon
in_line (terminal k) = terminal k
in_line (nonterminal m) = nonterminal m
in_line (a · b) = a · b
in_line (a ∣ b) = a ∣ b
in_line (optional a) = optional a
in_line (repeated a) = repeated a
in_line (separated k a) = separated k a
in_line (chain a) = chain a

abbrev pub lines_from : List Form → ℕ → Lines
lines_from [] free = record { lines = []; introduced = [] }
lines_from (a ∷ forms) free = (λ (x : Expanded). joined (mark_of_line a) x (lines_from forms x.free)) (alternatives (in_line a) [] free)

-- the nonterminals: first those of the lines, by their order, and then the new ones
abbrev pub productions : List Form → List Production
productions forms = (λ (x : Lines). x.lines ++ x.introduced) (lines_from forms (length forms))

-- the alternatives of each nonterminal
abbrev pub expanded : List Form → List Alternatives
expanded forms = map (λ (p : Production). p.bodies) (productions forms)

-- the marks of each nonterminal
abbrev pub marked : List Form → List Mark
marked forms = map (λ (p : Production). p.mark) (productions forms)
