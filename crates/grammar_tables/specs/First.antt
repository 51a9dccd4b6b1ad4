-- A grammar whose alternatives are listed: FIRST of each nonterminal and the alternative that a token predicts (Aho, Lam, Sethi, Ullman, "Compilers", 4.4.2 and 4.4.3), and the test for LL(1). All of it computes.
use Rattle.std.specs.Prelude.{ℕ, suc, zero, Bool, true, false, not, if◌then◌else◌, ◌&&◌, ◌||◌, ◌-◌, List, [], ◌∷◌, ◌++◌, length, map, get_or, nat_lt, nat_eq, min, Option, Some, None}
use Rattle.grammar_tables.specs.declared.symbol.Symbol.{Symbol}
use Rattle.grammar_tables.specs.declared.symbol.Symbol.TheVariants.{Terminal, Nonterminal}
use Rattle.grammar_tables.specs.Grammar.{Grammar}

abbrev pub is_in : Option ℕ → List ℕ → Bool
is_in None ks = false
is_in (Some k) [] = false
is_in (Some k) (j ∷ ks) = nat_eq k j || is_in (Some k) ks

-- The kinds of tokens that a terminal stands for: below 128 the kind of that number, and from there on those of a class. The classes are listed.
abbrev pub kinds_of : List (List ℕ) → ℕ → List ℕ
kinds_of classes k = if nat_lt k 128 then k ∷ [] else get_or classes (k - 128) []

-- FIRST of a body that does not begin with a nullable nonterminal, given FIRST of each nonterminal
abbrev pub first_of_body : List (List ℕ) → List (List ℕ) → List Symbol → List ℕ
first_of_body classes firsts [] = []
first_of_body classes firsts (Terminal k ∷ ss) = kinds_of classes k
first_of_body classes firsts (Nonterminal m ∷ ss) = get_or firsts m []

-- FIRST of alternatives, each with its kinds, so that a kind of two alternatives stands twice
abbrev pub first_of_alternatives : List (List ℕ) → List (List ℕ) → List (List Symbol) → List ℕ
first_of_alternatives classes firsts [] = []
first_of_alternatives classes firsts (ss ∷ alts) = first_of_body classes firsts ss ++ first_of_alternatives classes firsts alts

-- one step of the iteration that computes FIRST
abbrev pub first_step : List (List ℕ) → List (List (List Symbol)) → List (List ℕ) → List (List ℕ)
first_step classes g firsts = map (first_of_alternatives classes firsts) g

-- FIRST of each nonterminal, after so many steps
abbrev pub first_sets : List (List ℕ) → ℕ → List (List (List Symbol)) → List (List ℕ)
first_sets classes zero g = map (λ alts. []) g
first_sets classes (suc fuel) g = first_step classes g (first_sets classes fuel g)

abbrev pub next_number : Option ℕ → Option ℕ
next_number None = None
next_number (Some i) = Some (suc i)

-- the first alternative that begins with the kind
abbrev pub beginning_with : List (List ℕ) → List (List ℕ) → Option ℕ → List (List Symbol) → Option ℕ
beginning_with classes firsts k [] = None
beginning_with classes firsts k (ss ∷ alts) = if is_in k (first_of_body classes firsts ss) then Some 0 else next_number (beginning_with classes firsts k alts)

-- the first empty alternative
abbrev pub empty_alternative : List (List Symbol) → Option ℕ
empty_alternative [] = None
empty_alternative ([] ∷ alts) = Some 0
empty_alternative ((s ∷ ss) ∷ alts) = next_number (empty_alternative alts)

abbrev pub first_some : Option ℕ → Option ℕ → Option ℕ
first_some (Some i) j = Some i
first_some None j = j

-- the alternative that the token predicts: the one that it begins, and else the empty one
abbrev pub predicted : List (List ℕ) → List (List ℕ) → Option ℕ → List (List Symbol) → Option ℕ
predicted classes firsts k alts = first_some (beginning_with classes firsts k alts) (empty_alternative alts)

-- the grammar of listed classes and alternatives, with this FIRST of each nonterminal
unfoldable pub grammar_with : List (List ℕ) → List (List ℕ) → List (List (List Symbol)) → Grammar
grammar_with classes firsts g = record {
  matches = λ k x. is_in (Some x) (kinds_of classes k);
  has = λ n i. nat_lt i (length (get_or g n []));
  body = λ n i. get_or (get_or g n []) i [];
  predict = λ n k. predicted classes firsts k (get_or g n []);
}

-- The test for LL(1). It is for FIRST with `first_step classes g firsts ≡ firsts`.

abbrev pub depth_of : List ℕ → ℕ → ℕ
depth_of depths n = min (get_or depths n 0) 255

abbrev pub are_distinct : List ℕ → Bool
are_distinct [] = true
are_distinct (k ∷ ks) = not (is_in (Some k) ks) && are_distinct ks

abbrev pub is_none : Option ℕ → Bool
is_none None = true
is_none (Some i) = false

abbrev pub has_one_empty : List (List Symbol) → Bool
has_one_empty [] = true
has_one_empty ([] ∷ alts) = is_none (empty_alternative alts)
has_one_empty ((s ∷ ss) ∷ alts) = has_one_empty alts

-- an alternative that begins with a nonterminal begins with one that has no empty alternative and lies lower
abbrev pub has_head : List (List (List Symbol)) → List ℕ → ℕ → List Symbol → Bool
has_head g depths d [] = true
has_head g depths d (Terminal k ∷ ss) = true
has_head g depths d (Nonterminal m ∷ ss) = is_none (empty_alternative (get_or g m [])) && nat_lt (depth_of depths m) d

abbrev pub all_of : {A : Type 0} → (A → Bool) → List A → Bool
all_of f [] = true
all_of f (x ∷ xs) = f x && all_of f xs

-- each nonterminal from the number on passes the test
abbrev pub each_from : {A : Type 0} → (ℕ → A → Bool) → ℕ → List A → Bool
each_from f n [] = true
each_from f n (x ∷ xs) = f n x && each_from f (suc n) xs

-- no kind begins two alternatives, at most one of them is empty, and the heads are as they should be
abbrev pub is_ll1 : List (List ℕ) → List ℕ → List (List (List Symbol)) → ℕ → List (List Symbol) → Bool
is_ll1 firsts depths g n alts = are_distinct (get_or firsts n []) && (has_one_empty alts && all_of (has_head g depths (depth_of depths n)) alts)
