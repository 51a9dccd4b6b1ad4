-- A macro's `!` is never the first token, so where the token before the refused one is the offence, there is one.
use Rattle.std.specs.Prelude.{◌≡◌, ℕ, suc, zero, Bool, true, false, ◌&&◌, ◌||◌, nat_eq, List, [], ◌∷◌, ◌++◌, Option, Some, None, ◌<◌, ◌≤◌, length, drop, reverse, if◌then◌else◌}
use Rattle.std.proofs.Common.{refl, sym, ◌∙◌, ap, subst, eqb-true, arith}
use Rattle.grammar_tables.specs.declared.parsing.ParseError.{ParseError}
use Rattle.grammar_tables.specs.declared.parsing.ParseError.TheVariants as error
use Rattle.grammar_tables.specs.declared.symbol.Symbol.{Symbol}
use Rattle.grammar_tables.specs.declared.symbol.Symbol.TheVariants.{Terminal, Nonterminal}
use Rattle.grammar_tables.specs.Grammar.{Grammar, next_kind}
use Rattle.grammar_tables.specs.First.{grammar_with, is_in}
use Rattle.grammar_tables.specs.Parses.{Outcome, accept, reject, led_by, ended_with, Parses}
use Rattle.grammar_tables.specs.Parses.Parses.{done, shift, miss, refuse, expand}
use Rattle.grammar_tables.specs.Answers.{goal_of, symbols_of, StopsWith, StopsBefore}
use Rattle.source_grammar.specs.declared.offence.Offence.TheVariants.{Stray, LeftOut, LeftOutBefore}
use Rattle.source_grammar.specs.Classes.{kind_of}
use Rattle.source_grammar.specs.Terminals.{Not}
use Rattle.source_grammar.specs.Nonterminals.{AfterName}
use Rattle.source_grammar.specs.SourceGrammar.{source_grammar, source_goal, term_goal}
use Rattle.source_grammar.specs.LeftOut.{stop_at, number_of, is_left_out_before, is_left_out, offence_at}
use Rattle.source_grammar.specs.Faults.{HasTokenBefore}
use Rattle.source_grammar.proofs.Listed.{class_lists, listed}
use Rattle.source_grammar.proofs.Firsts.{firsts}
use Rattle.source_grammar.proofs.Conditions.{is_source}

module _ (G : Grammar) where
  -- the nonterminals that end before a first token of the kind, if so many moves tell
  abbrev ended_first : ℕ → Option ℕ → List ℕ → List Symbol → Option (List ℕ)
  ended_first zero k es ss = None
  ended_first (suc fuel) k es [] = Some es
  ended_first (suc fuel) k es (Terminal j ∷ ss) = Some es
  ended_first (suc fuel) k es (Nonterminal n ∷ ss) = by (G.predict n k) (λ r. ended_first fuel k (ended_with n (G.body n r) es) (G.body n r ++ ss))
    where
      by : Option ℕ → (ℕ → Option (List ℕ)) → Option (List ℕ)
      by None f = Some es
      by (Some r) f = f r

  abbrev rest_of : Outcome → List ℕ
  rest_of (accept rs ended ys) = ys
  rest_of (reject ended ss ys) = ys

  abbrev ended_of : Outcome → List ℕ
  ended_of (accept rs ended ys) = ended
  ended_of (reject ended ss ys) = ended

  rest_led : (r : ℕ) (o : Outcome) → rest_of (led_by r o) ≡ rest_of o
  rest_led r (accept rs ended ys) = refl
  rest_led r (reject ended ss ys) = refl

  ended_led : (r : ℕ) (o : Outcome) → ended_of (led_by r o) ≡ ended_of o
  ended_led r (accept rs ended ys) = refl
  ended_led r (reject ended ss ys) = refl

  rest_no_longer : {es : List ℕ} {ss : List Symbol} {xs : List ℕ} {o : Outcome} → Parses G es ss xs o → length (rest_of o) ≤ length xs
  rest_no_longer done = omega arith
  rest_no_longer (shift e p) = let l = rest_no_longer p in omega (arith, l)
  rest_no_longer (miss f) = omega arith
  rest_no_longer (refuse f) = omega arith
  rest_no_longer (expand {o} r e p) = rw (rest_led r o) (rest_no_longer p)

  some_inj : {a b : List ℕ} → Some a ≡ Some b → a ≡ b
  some_inj e = cc

  ended_at_once : {es : List ℕ} {ss : List Symbol} {xs : List ℕ} {o : Outcome} → Parses G es ss xs o → (fuel : ℕ) (fs : List ℕ) → rest_of o ≡ xs → ended_first fuel (next_kind xs) es ss ≡ Some fs → ended_of o ≡ fs
  ended_at_once p zero fs i j = absurd cc
  ended_at_once done (suc fuel) fs i j = some_inj j
  ended_at_once (shift {xs} {o} e p) (suc fuel) fs i j = absurd (let l = rest_no_longer p in omega (arith, l, ap length i))
  ended_at_once (miss f) (suc fuel) fs i j = some_inj j
  ended_at_once (refuse f) (suc fuel) fs i j = some_inj (rw f at j)
  ended_at_once {es = es} {xs = xs} (expand {n = n} {ss = ss} {o = o} r e p) (suc fuel) fs i j =
      ended_led r o ∙ ended_at_once {es = ended_with n (G.body n r) es} p fuel fs (sym (rest_led r o) ∙ i) (rw e at j)

-- what ends before a macro's `!`, were it the first token
abbrev ended_before : ℕ → Grammar → Option (List ℕ)
ended_before goal G = ended_first G 64 (Some (kind_of Not)) [] (goal_of goal)

abbrev IsWithoutName : Option (List ℕ) → Type 0
IsWithoutName None = ⊥
IsWithoutName (Some fs) = is_in (Some (number_of AfterName)) fs ≡ false

before_source : IsWithoutName (ended_before source_goal source_grammar)
unfolding grammar_with class_lists firsts listed
before_source = subst (λ (G : Grammar). IsWithoutName (ended_before source_goal G)) (sym is_source) there
  where
    there : IsWithoutName (ended_before source_goal (grammar_with class_lists firsts listed))
    there = refl

before_term : IsWithoutName (ended_before term_goal source_grammar)
unfolding grammar_with class_lists firsts listed
before_term = subst (λ (G : Grammar). IsWithoutName (ended_before term_goal G)) (sym is_source) there
  where
    there : IsWithoutName (ended_before term_goal (grammar_with class_lists firsts listed))
    there = refl

module _ (goal : ℕ) (fine : IsWithoutName (ended_before goal source_grammar)) where
  without_name : (kinds : List ℕ) (o : Outcome) → Parses source_grammar [] (goal_of goal) kinds o → rest_of source_grammar o ≡ kinds → next_kind kinds ≡ Some (kind_of Not) →
      is_in (Some (number_of AfterName)) (ended_of source_grammar o) ≡ false
  without_name kinds o p e k = by (ended_before goal source_grammar) refl fine
    where
      by : (fs : Option (List ℕ)) → ended_before goal source_grammar ≡ fs → IsWithoutName fs → is_in (Some (number_of AfterName)) (ended_of source_grammar o) ≡ false
      by None i f = absurd f
      by (Some fs) i f = rw (ended_at_once source_grammar p 64 fs e (ap (λ (j : Option ℕ). ended_first source_grammar 64 j [] (goal_of goal)) k ∙ i)) f

  stopped_without : (kinds ended : List ℕ) (expected : List Symbol) → StopsWith source_grammar goal kinds ended expected kinds → next_kind kinds ≡ Some (kind_of Not) → is_in (Some (number_of AfterName)) ended ≡ false
  stopped_without kinds ended [] q k = without_name kinds (accept q.0 ended kinds) q.1 refl k
  stopped_without kinds ended (s ∷ ss) q k = without_name kinds (reject ended (s ∷ ss) kinds) q refl k

  neither : (a b : Bool) → (a ≡ true → b ≡ false) → ((a || false) && (b && true)) || (false || false) ≡ false
  neither false b f = refl
  neither true b f = rw (f refl) refl

  not_before_first : (kinds ended : List ℕ) (expected : List Symbol) → StopsWith source_grammar goal kinds ended expected kinds → is_left_out_before (stop_at kinds 0 ended expected) ≡ false
  not_before_first [] ended expected q = refl
  not_before_first (x ∷ kinds) ended expected q = neither (nat_eq x (kind_of Not)) (is_in (Some (number_of AfterName)) ended)
      (λ e. stopped_without (x ∷ kinds) ended expected q (ap Some (eqb-true x (kind_of Not) e)))

  not_so : (b : Bool) → (if b then LeftOut else Stray) ≡ LeftOutBefore → ⊥
  not_so true e = cc
  not_so false e = cc

  behind_first : (position : ℕ) (kinds ended : List ℕ) (expected : List Symbol) → StopsWith source_grammar goal kinds ended expected (drop position kinds) →
      offence_at (stop_at kinds position ended expected) ≡ LeftOutBefore → 0 < position
  behind_first zero kinds ended expected q e = absurd (not_so (is_left_out (stop_at kinds 0 ended expected)) (rw (not_before_first kinds ended expected q) at e))
  behind_first (suc position) kinds ended expected q e = omega arith

  token_before : (kinds : List ℕ) (e : ParseError) → StopsBefore source_grammar goal kinds e → HasTokenBefore kinds e
  token_before kinds (error.Refused r) q = behind_first r.position kinds (reverse r.ended.items) (reverse (symbols_of r.expected.items)) q.1
  token_before kinds (error.PastLimit position) q = tt
  token_before kinds error.NoMemory q = tt

pub before_in_source : (kinds : List ℕ) (e : ParseError) → StopsBefore source_grammar source_goal kinds e → HasTokenBefore kinds e
before_in_source = token_before source_goal before_source

pub before_in_term : (kinds : List ℕ) (e : ParseError) → StopsBefore source_grammar term_goal kinds e → HasTokenBefore kinds e
before_in_term = token_before term_goal before_term
