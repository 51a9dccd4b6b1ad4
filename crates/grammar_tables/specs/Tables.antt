-- The grammar that the tables of the code state.
use Rattle.std.specs.Prelude.{ℕ, ◌+◌, ◌*◌, ◌-◌, nat_lt, nat_le, nat_eq, Bool, false, if◌then◌else◌, List, [], length, take, drop, reverse, get_or, min, Option, Some, None}
use Rattle.grammar_tables.specs.declared.symbol.Symbol.{Symbol}
use Rattle.grammar_tables.specs.declared.symbol.Mark.{Mark}
use Rattle.grammar_tables.specs.declared.symbol.Mark.TheVariants.{Plain}
use Rattle.grammar_tables.specs.declared.tables.BodyRange.{BodyRange}
use Rattle.grammar_tables.specs.declared.tables.Tables.{Tables}
use Rattle.grammar_tables.specs.Grammar.{Grammar}

-- what the tables hold, as lists
pub record TableLists : Type 0 where
  pub members : List Bool
  pub symbols : List Symbol
  pub bodies : List BodyRange
  pub offsets : List ℕ
  pub predictions : List ℕ

abbrev pub lists_in : Tables → TableLists
lists_in t = record { members = t.members.now; symbols = t.symbols.now; bodies = t.bodies.now; offsets = t.offsets.now; predictions = t.predictions.now }

-- the column of a kind, or of the end of the text; the kinds from 126 on have one column
abbrev pub column_of : Option ℕ → ℕ
column_of None = 127
column_of (Some k) = if nat_lt k 126 then k else 126

-- 255 in a cell says that no alternative is predicted
abbrev pub cell : ℕ → Option ℕ
cell i = if nat_lt i 255 then Some i else None

-- the alternative of the nonterminal in that column
abbrev pub prediction_at : TableLists → ℕ → ℕ → Option ℕ
prediction_at t n j = if nat_lt (n * 128 + j) (length t.predictions) then cell (get_or t.predictions (n * 128 + j) 0) else None

abbrev pub no_body : BodyRange
no_body = record { from = 0; to = 0 }

-- the symbols from one number to before another
abbrev pub between : List Symbol → ℕ → ℕ → List Symbol
between ss from to = if nat_le from to then (if nat_le to (length ss) then take (to - from) (drop from ss) else []) else []

-- the number of the alternative among those of all nonterminals
abbrev pub index_of : TableLists → ℕ → ℕ → ℕ
index_of t n i = get_or t.offsets n 0 + i

-- the body of the alternative, its last symbol first; nothing where the tables have none
abbrev pub body_at : TableLists → ℕ → ℕ → List Symbol
body_at t n i = if nat_lt (n + 1) (length t.offsets) then (if nat_lt (index_of t n i) (get_or t.offsets (n + 1) 0) then (if nat_lt (index_of t n i) (length t.bodies) then
    between t.symbols (get_or t.bodies (index_of t n i) no_body).from (get_or t.bodies (index_of t n i) no_body).to else []) else []) else []

-- the terminal stands for tokens of the kind: of a class if its cell says so
abbrev pub matches_at : TableLists → ℕ → ℕ → Bool
matches_at t k x = if nat_lt k 128 then nat_eq x k else (if nat_lt x 128 then get_or t.members ((k - 128) * 128 + x) false else false)

unfoldable pub grammar_of : TableLists → Grammar
grammar_of t = record {
  matches = λ k x. matches_at t k x;
  has = λ n i. nat_lt (index_of t n i) (get_or t.offsets (n + 1) 0);
  body = λ n i. reverse (body_at t n i);
  predict = λ n k. prediction_at t n (column_of k);
}

abbrev pub grammar_in : Tables → Grammar
grammar_in t = grammar_of (lists_in t)

-- the mark of the nonterminal
unfoldable pub mark_in : Tables → ℕ → Mark
mark_in t n = get_or t.marks.now n Plain

-- the measure of heads that the tables hold
unfoldable pub depth_in : Tables → ℕ → ℕ
depth_in t n = min (get_or t.depths.now n 0) 255
