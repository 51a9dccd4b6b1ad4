-- Context-free grammars as data, and the leftmost derivations of a text (Aho, Lam, Sethi, Ullman, "Compilers", 4.2.3) in which a nonterminal is greedy.
-- A symbol is a terminal or a nonterminal. A text is the kinds of its tokens. Kinds, terminals, nonterminals and the alternatives of a nonterminal are numbers from 0.
use Rattle.std.specs.Prelude.{◌≡◌, ℕ, Bool, true, false, List, [], ◌∷◌, ◌++◌, Option, Some, None}
use Rattle.grammar_tables.specs.declared.symbol.Symbol.{Symbol}
use Rattle.grammar_tables.specs.declared.symbol.Symbol.TheVariants.{Terminal, Nonterminal}

-- The productions, and the table of a predictive parser (4.4.3).
pub record Grammar : Type 0 where
  -- the terminal stands for tokens of the kind: most terminals for one kind, some for each of a class
  pub matches : ℕ → ℕ → Bool
  -- the nonterminal has an alternative of that number
  pub has : ℕ → ℕ → Bool
  -- the body of a nonterminal's alternative
  pub body : ℕ → ℕ → List Symbol
  -- the alternative of a nonterminal that the next token predicts; `None` for its kind is the end of the text
  pub predict : ℕ → Option ℕ → Option ℕ

-- the kind of the next token, if one is left
abbrev pub next_kind : List ℕ → Option ℕ
next_kind [] = None
next_kind (x ∷ xs) = Some x

abbrev pub is_nonempty : List Symbol → Bool
is_nonempty [] = false
is_nonempty (s ∷ ss) = true

abbrev pub is_nonempty_alternative : Grammar → ℕ → Option ℕ → Bool
is_nonempty_alternative G n None = false
is_nonempty_alternative G n (Some r) = is_nonempty (G.body n r)

-- the next token begins an alternative of the nonterminal that is not empty
abbrev pub begins : Grammar → ℕ → Option ℕ → Bool
begins G n k = is_nonempty_alternative G n (G.predict n k)

-- An empty alternative stands only where the next token begins no other alternative of the nonterminal. So an optional part and a loop go on as far as they can, and no FOLLOW sets are needed.
unfoldable pub IsGreedy : Grammar → ℕ → List Symbol → Option ℕ → Type 0
IsGreedy G n [] k = begins G n k ≡ false
IsGreedy G n (s ∷ ss) k = Unit {0}

-- `Derives G ss xs rs`: the symbols `ss`, one behind the other, derive the text `xs`. `rs` is the leftmost derivation: the alternatives in the order in which nonterminals are replaced by them.
pub data Derives (G : Grammar) : List Symbol → List ℕ → List ℕ → Type 0 where
  done : Derives G [] [] []
  shift : {k x : ℕ} {ss : List Symbol} {xs rs : List ℕ} → G.matches k x ≡ true → Derives G ss xs rs → Derives G (Terminal k ∷ ss) (x ∷ xs) rs
  expand : {n : ℕ} {ss : List Symbol} {xs rs : List ℕ} (r : ℕ) → G.has n r ≡ true → IsGreedy G n (G.body n r) (next_kind xs) →
      Derives G (G.body n r ++ ss) xs rs → Derives G (Nonterminal n ∷ ss) xs (r ∷ rs)
