-- What passes the test of lines in the list of all alternatives of the grammar of sources passes it in the grammar.
use Rattle.std.proofs.Common.{◌≡◌, ℕ, ◌<◌, zero, suc, true, List, [], ◌∷◌, length, get_or, sym, subst, arith}
use Rattle.grammar_tables.specs.declared.symbol.Symbol.{Symbol}
use Rattle.grammar_tables.specs.First.{all_of, each_from, grammar_with}
use Rattle.grammar_tables.specs.Grammar.{Grammar}
use Rattle.grammar_tables.proofs.LL1Test.{all_each, each_at, lt_less}
use Rattle.source_grammar.specs.SourceGrammar.{source_grammar}
use Rattle.source_grammar.proofs.Conditions.{is_source}
use Rattle.source_grammar.proofs.Firsts.{firsts}
use Rattle.source_grammar.proofs.Listed.{class_lists, listed}
use Rattle.pearlite.specs.Served.{Asks}
use Rattle.pearlite.proofs.Serving.{Kind, Leaves, is_fit}

module _ (asks : ℕ → Asks) (kind : ℕ → Kind) (table : List Leaves) (passes : each_from (λ n alts. all_of (is_fit asks kind table n) alts) 0 listed ≡ true) where
  fits_listed : (n r : ℕ) → (grammar_with class_lists firsts listed).has n r ≡ true → is_fit asks kind table n ((grammar_with class_lists firsts listed).body n r) ≡ true
  unfolding grammar_with
  fits_listed n r h =
      let alts : List (List Symbol) = get_or listed n [] in
      let k : r < length alts = lt_less r (length alts) h in
      all_each (is_fit asks kind table n) alts [] r (each_at (λ m alts. all_of (is_fit asks kind table m) alts) 0 listed [] n n passes (inside listed n r k) (omega arith)) k
    where
      inside : (g : List (List (List Symbol))) (n r : ℕ) → r < length (get_or g n []) → n < length g
      inside [] n r k = absurd (omega arith)
      inside (x ∷ g) zero r k = omega arith
      inside (x ∷ g) (suc n) r k = (let i = inside g n r k in omega (arith, i))

  pub lines_fit : (n r : ℕ) → source_grammar.has n r ≡ true → is_fit asks kind table n (source_grammar.body n r) ≡ true
  lines_fit = subst (λ (G : Grammar). (n r : ℕ) → G.has n r ≡ true → is_fit asks kind table n (G.body n r) ≡ true) (sym is_source) fits_listed
