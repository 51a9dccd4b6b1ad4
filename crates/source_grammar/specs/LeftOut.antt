-- Which refused tokens begin a construct of Rust that the language leaves out, by the forms that are open where the parser stops. Source: the language's own list (docs/language.md).
use Rattle.std.specs.Prelude.{ℕ, suc, ◌-◌, Bool, false, not, ◌&&◌, ◌||◌, nat_lt, nat_eq, List, [], ◌∷◌, reverse, slice_get, Option, None, Some, if◌then◌else◌}
use Rattle.grammar_tables.specs.declared.symbol.Symbol.{Symbol}
use Rattle.grammar_tables.specs.declared.symbol.Symbol.TheVariants.{Terminal, Nonterminal}
use Rattle.grammar_tables.specs.Ebnf.{Form, terminal, nonterminal, epsilon, optional, repeated, separated, chain, level, ◌·◌, ◌∣◌}
use Rattle.grammar_tables.specs.Answers.{symbols_of}
use Rattle.grammar_tables.specs.First.{kinds_of, is_in}
use Rattle.source_grammar.specs.declared.offence.Offence.{Offence}
use Rattle.source_grammar.specs.declared.offence.Offence.TheVariants.{Stray, LeftOut, LeftOutBefore}
use Rattle.source_grammar.specs.declared.offence.Stop.{Stop as CodeStop}
use Rattle.source_grammar.specs.Classes.{classes, kind_of}
use Rattle.source_grammar.specs.Terminals.{Name, LeftOutToken, OtherRoot, BoundOpening, Lifetime, Hash, OpenBracket, Not, PathSep, Colon, Semicolon, KwType, KwAs, KwIf, KwElse, KwUse, KwSelfType, WordPearlite}
use Rattle.source_grammar.specs.Nonterminals.{WholeTerm, AfterTerm, AfterPattern, AfterName, ImplBody, ImplItems, Statements, StatementsRest, LetValue, LetEnd, WhereBounds}

-- Where the parser stops: the kinds of the refused token and of those around it, the nonterminals that ended behind the token before, and the symbols that are expected, the next one first.
pub record Stop : Type 0 where
  pub two_before : Option ℕ
  pub before : Option ℕ
  pub refused : Option ℕ
  pub next : Option ℕ
  pub ended : List ℕ
  pub expected : List Symbol

-- what the code has of a stop
abbrev pub stated : CodeStop → Stop
stated s = record {
  two_before = s.two_before;
  before = s.before;
  refused = s.refused;
  next = s.next;
  ended = reverse s.ended.now;
  expected = reverse (symbols_of s.expected.now);
}

-- the kind of the token so many places before, if one stands there
abbrev pub kind_before : ℕ → List ℕ → ℕ → Option ℕ
kind_before n kinds position = if nat_lt position n then None else slice_get kinds (position - n)

abbrev pub stop_at : List ℕ → ℕ → List ℕ → List Symbol → Stop
stop_at kinds position ended expected = record {
  two_before = kind_before 2 kinds position;
  before = kind_before 1 kinds position;
  refused = kind_before 0 kinds position;
  next = slice_get kinds (suc position);
  ended = ended;
  expected = expected;
}

-- the token is one that the terminal stands for
abbrev pub is : Form → Option ℕ → Bool
is form kind = is_in kind (kinds_of classes (kind_of form))

-- ---- open forms

abbrev pub number_of : Form → ℕ
number_of (nonterminal n) = n
number_of (terminal k) = 0
number_of epsilon = 0
number_of (a · b) = 0
number_of (a ∣ b) = 0
number_of (optional a) = 0
number_of (repeated a) = 0
number_of (separated k a) = 0
number_of (chain a) = 0
number_of (level a) = 0

abbrev pub is_symbol : ℕ → Symbol → Bool
is_symbol n (Terminal k) = false
is_symbol n (Nonterminal m) = nat_eq m n

abbrev pub is_among : ℕ → List Symbol → Bool
is_among n [] = false
is_among n (s ∷ ss) = is_symbol n s || is_among n ss

-- the form has ended behind the token before
abbrev pub has_ended : Stop → Form → Bool
has_ended s form = is_in (Some (number_of form)) s.ended

-- the form is expected, or has ended
abbrev pub is_open : Stop → Form → Bool
is_open s form = has_ended s form || is_among (number_of form) s.expected

-- the form is expected next
abbrev pub is_next : ℕ → List Symbol → Bool
is_next n [] = false
is_next n (s ∷ ss) = is_symbol n s

abbrev pub is_expected : Stop → Form → Bool
is_expected s form = is_next (number_of form) s.expected

abbrev pub in_term : Stop → Bool
in_term s = is_open s WholeTerm || is_open s AfterTerm

-- an impl is open from its first word to its last brace
abbrev pub in_impl : Stop → Bool
in_impl s = is_open s ImplBody || is_open s ImplItems

abbrev pub in_body : Stop → Bool
in_body s = is_open s Statements || is_open s StatementsRest || is_open s LetEnd

-- ---- the list

-- The token before the refused one begins such a construct.
abbrev pub is_left_out_before : Stop → Bool
is_left_out_before s =
    -- a macro that is not listed: a path of one name in an expression, before `!`
    (is Not s.refused && (has_ended s AfterName && not (is WordPearlite s.before)))
    -- a `use` of another path
    || ((is KwUse s.before && is OtherRoot s.refused)
    -- `::` after `Self`, before another name than `ViewTy`
    || (is PathSep s.before && (is KwSelfType s.two_before && is Name s.refused)))

-- by the form that has just ended, or is next
abbrev pub is_left_out_there : Stop → Bool
is_left_out_there s =
    -- `if` after a pattern
    (is KwIf s.refused && has_ended s AfterPattern)
    -- `<`, `(` or `&` on the left of a bound in `where`
    || ((is BoundOpening s.refused && has_ended s WhereBounds)
    -- `;` after a `let` without value
    || ((is Semicolon s.refused && is_expected s LetValue)
    -- `else` after one with value
    || (is KwElse s.refused && is_expected s LetEnd)))

-- by the tokens around
abbrev pub is_left_out_beside : Stop → Bool
is_left_out_beside s =
    -- a lifetime before `:` in a body
    (is Lifetime s.refused && (is Colon s.next && (in_body s && not (in_term s))))
    -- the name of an attribute that is not listed
    || ((is Name s.refused && (is OpenBracket s.before && is Hash s.two_before))
    -- a `use` of another path where none may stand
    || (is KwUse s.refused && is OtherRoot s.next))

-- The refused token does.
abbrev pub is_left_out : Stop → Bool
is_left_out s =
    -- a token that no form of the language has there, a string, `'static`, or a type that is left out
    is LeftOutToken s.refused
    -- `type` outside an impl
    || ((is KwType s.refused && (not (in_term s) && not (in_impl s)))
    -- `as` in a term
    || ((is KwAs s.refused && in_term s)
    || (is_left_out_beside s || is_left_out_there s)))

abbrev pub offence_at : Stop → Offence
offence_at s = if is_left_out_before s then LeftOutBefore else (if is_left_out s then LeftOut else Stray)
