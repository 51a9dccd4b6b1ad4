-- What a grammar owes so that its predictive parser is is_ll1_grammar: LL(1) (Aho, Lam, Sethi, Ullman, "Compilers", 4.4.3) for greedy nonterminals, and a plan that brings each nonterminal to an end.
use Rattle.std.specs.Prelude.{◌≡◌, ℕ, ◌<◌, Bool, true, false, List, [], ◌∷◌, ◌++◌, Option, Some, None}
use Rattle.grammar_tables.specs.declared.symbol.Symbol.{Symbol}
use Rattle.grammar_tables.specs.declared.symbol.Symbol.TheVariants.{Terminal, Nonterminal}
use Rattle.grammar_tables.specs.Grammar.{Grammar, begins, IsGreedy}

-- the terminal stands for the next token, which there is
abbrev pub matches_next : Grammar → ℕ → Option ℕ → Bool
matches_next G k None = false
matches_next G k (Some x) = G.matches k x

-- a text that the symbols derive can begin with a token of the kind: it is in FIRST of them; of the empty body nothing is asked
unfoldable pub CanBegin : Grammar → List Symbol → Option ℕ → Type 0
CanBegin G [] k = Unit {0}
CanBegin G (Terminal j ∷ ss) k = matches_next G j k ≡ true
CanBegin G (Nonterminal m ∷ ss) k = begins G m k ≡ true

-- no alternative of the nonterminal is empty; where all heads are as below, it is not nullable
abbrev pub HasNoEmpty : Grammar → ℕ → Type 0
HasNoEmpty G n = (r : ℕ) → G.has n r ≡ true → G.body n r ≡ [] → ⊥

-- an alternative that begins with a nonterminal begins with one that is not nullable and lies lower, so there is no left recursion
unfoldable pub HasHead : Grammar → (ℕ → ℕ) → ℕ → List Symbol → Type 0
HasHead G depth n [] = Unit {0}
HasHead G depth n (Terminal j ∷ ss) = Unit {0}
HasHead G depth n (Nonterminal m ∷ ss) = HasNoEmpty G m × (depth m < depth n)

-- A token predicts the one alternative that it begins, or the empty one where it begins none. `depth` is the measure of heads.
pub record IsLL1 (G : Grammar) (depth : ℕ → ℕ) : Type 0 where
  -- what is predicted is an alternative
  pub own : (n r : ℕ) (k : Option ℕ) → G.predict n k ≡ Some r → G.has n r ≡ true
  pub greedy : (n r : ℕ) (k : Option ℕ) → G.predict n k ≡ Some r → IsGreedy G n (G.body n r) k
  -- a predicted alternative begins with the token or is empty
  pub starts : (n r : ℕ) (k : Option ℕ) → G.predict n k ≡ Some r → CanBegin G (G.body n r) k
  -- an alternative that begins with the token is predicted
  pub found : (n r : ℕ) (k : Option ℕ) → G.has n r ≡ true → IsGreedy G n (G.body n r) k → CanBegin G (G.body n r) k → G.predict n k ≡ Some r
  pub heads : (n r : ℕ) → G.has n r ≡ true → HasHead G depth n (G.body n r)
  -- nothing begins at the end of the text
  pub at_end : (n : ℕ) → begins G n None ≡ false

-- How each nonterminal is brought to an end: it is what completes the tokens before a refused one.
pub record Plan : Type 0 where
  -- a kind that the terminal stands for
  pub sample : ℕ → ℕ
  -- an alternative of the nonterminal
  pub alternative : ℕ → ℕ
  -- the text that it derives by the plan
  pub short : ℕ → List ℕ
  -- a number above those of the nonterminals in the alternative
  pub rank : ℕ → ℕ
  -- the kinds that might go on with a text of the nonterminal, were they to follow it
  pub takes : ℕ → ℕ → Bool

-- the text that symbols derive by the plan
abbrev pub short_text : Plan → List Symbol → List ℕ
short_text p [] = []
short_text p (Terminal k ∷ ss) = p.sample k ∷ short_text p ss
short_text p (Nonterminal m ∷ ss) = p.short m ++ short_text p ss

-- all that `m` takes, `n` takes
abbrev pub IsWithin : Plan → ℕ → ℕ → Type 0
IsWithin p m n = (k : ℕ) → p.takes n k ≡ false → p.takes m k ≡ false

-- the text behind `m` is not taken by it; where it is empty, what follows `n` is not
unfoldable pub IsNotTaken : Plan → ℕ → List ℕ → ℕ → Type 0
IsNotTaken p m [] n = IsWithin p m n
IsNotTaken p m (k ∷ ks) n = p.takes m k ≡ false

-- the plan has an alternative of the nonterminal
abbrev pub HasPlan : Grammar → Plan → ℕ → Type 0
HasPlan G p n = G.has n (p.alternative n) ≡ true

-- each terminal among the symbols of an alternative of `n` has a kind; each nonterminal has a plan, and takes nothing of the short text of what follows it
unfoldable pub Fits : Grammar → Plan → List Symbol → ℕ → Type 0
Fits G p [] n = Unit {0}
Fits G p (Terminal k ∷ ss) n = (G.matches k (p.sample k) ≡ true) × Fits G p ss n
Fits G p (Nonterminal m ∷ ss) n = HasPlan G p m × IsNotTaken p m (short_text p ss) n × Fits G p ss n

-- the nonterminals of the symbols have lower ranks
unfoldable pub AreLower : Plan → List Symbol → ℕ → Type 0
AreLower p [] b = Unit {0}
AreLower p (Terminal k ∷ ss) b = AreLower p ss b
AreLower p (Nonterminal m ∷ ss) b = (p.rank m < b) × AreLower p ss b

-- The plan is right: by it each nonterminal of an alternative is brought to an end, also before what follows it.
pub record IsPlanned (G : Grammar) (p : Plan) : Type 0 where
  pub shortly : (n : ℕ) → HasPlan G p n → p.short n ≡ short_text p (G.body n (p.alternative n))
  pub falls : (n : ℕ) → HasPlan G p n → AreLower p (G.body n (p.alternative n)) (p.rank n)
  -- what begins a nonterminal whose plan is the empty alternative is taken by it
  pub ended : (n k : ℕ) → HasPlan G p n → G.body n (p.alternative n) ≡ [] → p.takes n k ≡ false → begins G n (Some k) ≡ false
  pub fitted : (n r : ℕ) → G.has n r ≡ true → Fits G p (G.body n r) n
