-- The moves of a predictive parser with a stack (Aho, Lam, Sethi, Ullman, "Compilers", 4.4.4), and what its answers say. It parses the longest front of a text that is derived.
use Rattle.std.specs.Prelude.{◌≡◌, ℕ, true, List, [], ◌∷◌, ◌++◌, Some, None}
use Rattle.grammar_tables.specs.declared.symbol.Symbol.{Symbol}
use Rattle.grammar_tables.specs.declared.symbol.Symbol.TheVariants.{Terminal, Nonterminal}
use Rattle.grammar_tables.specs.Grammar.{Grammar, next_kind, Derives}

pub data Outcome : Type 0 where
  -- the leftmost derivation of the front, the nonterminals that ended behind its last token, the latest first, and the tokens behind it
  accept : List ℕ → List ℕ → List ℕ → Outcome
  -- the nonterminals that ended behind the last token, the symbols that are expected where the parser stops, and the tokens from the refused one on
  reject : List ℕ → List Symbol → List ℕ → Outcome

-- the outcome of a parse that begins with this alternative
abbrev pub led_by : ℕ → Outcome → Outcome
led_by r (accept rs ended ys) = accept (r ∷ rs) ended ys
led_by r (reject ended ss ys) = reject ended ss ys

-- the nonterminals that ended, once one is replaced by this body
abbrev pub ended_with : ℕ → List Symbol → List ℕ → List ℕ
ended_with n [] ended = n ∷ ended
ended_with n (s ∷ ss) ended = ended

abbrev pub takes_next : Grammar → ℕ → List ℕ → Type 0
takes_next G k xs = (x : ℕ) × (next_kind xs ≡ Some x) × (G.matches k x ≡ true)

-- `Parses G ended ss xs o`: with `ss` on the stack, where these nonterminals ended since the last token, the text `xs` comes to the outcome.
pub data Parses (G : Grammar) : List ℕ → List Symbol → List ℕ → Outcome → Type 0 where
  done : {ended xs : List ℕ} → Parses G ended [] xs (accept [] ended xs)
  shift : {k x : ℕ} {ended : List ℕ} {ss : List Symbol} {xs : List ℕ} {o : Outcome} → G.matches k x ≡ true → Parses G [] ss xs o → Parses G ended (Terminal k ∷ ss) (x ∷ xs) o
  miss : {k : ℕ} {ended : List ℕ} {ss : List Symbol} {xs : List ℕ} → (takes_next G k xs → ⊥) → Parses G ended (Terminal k ∷ ss) xs (reject ended (Terminal k ∷ ss) xs)
  refuse : {n : ℕ} {ended : List ℕ} {ss : List Symbol} {xs : List ℕ} → G.predict n (next_kind xs) ≡ None → Parses G ended (Nonterminal n ∷ ss) xs (reject ended (Nonterminal n ∷ ss) xs)
  expand : {n : ℕ} {ended : List ℕ} {ss : List Symbol} {xs : List ℕ} {o : Outcome} (r : ℕ) → G.predict n (next_kind xs) ≡ Some r →
      Parses G (ended_with n (G.body n r) ended) (G.body n r ++ ss) xs o → Parses G ended (Nonterminal n ∷ ss) xs (led_by r o)

-- The first token of `ys`, or the end where `ys` is empty, is the first one of the text `xs` that cannot continue.
pub record IsRefusal (G : Grammar) (ss : List Symbol) (xs ys : List ℕ) : Type 0 where
  -- the tokens before it
  pub prefix : List ℕ
  pub split : xs ≡ prefix ++ ys
  -- they begin a text that is derived
  pub viable : (zs : List ℕ) × (rs : List ℕ) × Derives G ss (prefix ++ zs) rs
  -- and no text that is derived goes on with a token of its kind, or ends there
  pub stuck : (zs rs : List ℕ) → next_kind zs ≡ next_kind ys → Derives G ss (prefix ++ zs) rs → ⊥

-- The front of `xs` before `ys` is derived, and no text that is derived goes on with the first token of `ys`. So it is the longest front of the tokens that is derived, as far as they can continue.
pub record IsFront (G : Grammar) (ss : List Symbol) (xs rs ys : List ℕ) : Type 0 where
  pub front : List ℕ
  pub split : xs ≡ front ++ ys
  pub derived : Derives G ss front rs
  pub stuck : (y : ℕ) (zs qs : List ℕ) → next_kind ys ≡ Some y → Derives G ss (front ++ y ∷ zs) qs → ⊥
