-- Formulas of lists, from the i-th place on.
use Rattle.std.proofs.Common.{◌≡◌, ◌<◌, refl, ap, sym, ◌∙◌, get_or, add-one, drop-cons, ℕ, zero, suc, ◌+◌, None, arith, List, [], ◌∷◌, ◌++◌, drop, length, map}
use Rattle.logic_term.specs.declared.subst.Replacement.{Replacement}
use Rattle.type_check.specs.declared.program.ClauseKind.{ClauseKind}
use Rattle.type_check.specs.declared.program.ClauseKind.TheVariants.{Requires, Ensures}
use Rattle.type_check.specs.declared.assertion.Assertion.{Assertion}
use Rattle.type_check.specs.declared.program.TypedClause.{TypedClause}
use Rattle.type_check.specs.FirstBad.{bad_of, bad_among, bad_clause}
use Rattle.mir_build.specs.Lowering.{Formula, term_of, formula_span, formulas_of, picked}
use Rattle.mir_build.specs.Numbered.{formula_of}
use Rattle.mir_build.specs.Built.{term_with}
use Rattle.mir_build.proofs.Accepted.{first_none, second_none}

drop_at : {A : Type 0} (xs : List A) (i : ℕ) (d : A) → i < length xs → drop i xs ≡ get_or xs i d ∷ drop (i + 1) xs
drop_at xs i d h = rw (add-one, drop-cons xs i d h) refl

this_at : {A : Type 0} (xs : List A) (i : ℕ) (x : A) → x ≡ get_or xs i x → i < length xs → drop i xs ≡ x ∷ drop (i + 1) xs
this_at xs i x q h = drop_at xs i x h ∙ ap (λ y. y ∷ drop (i + 1) xs) (sym q)

-- ---- of assertions

module _ (as' : List Assertion) (i : ℕ) (a : Assertion) (q : a ≡ get_or as' i a) (h : i < length as') where
  mapped_at : {B : Type 0} (v : Formula → B) → map v (map formula_of (drop i as')) ≡ v (formula_of a) ∷ map v (map formula_of (drop (i + 1) as'))
  mapped_at v = ap (λ bs. map v (map formula_of bs)) (this_at as' i a q h)

  pub invariants_at : (sub : List Replacement) → map (term_with sub) (map formula_of (drop i as')) ≡ term_with sub (formula_of a) ∷ map (term_with sub) (map formula_of (drop (i + 1) as'))
  invariants_at sub = mapped_at (term_with sub)

  pub invariant_spans_at : map formula_span (map formula_of (drop i as')) ≡ formula_span (formula_of a) ∷ map formula_span (map formula_of (drop (i + 1) as'))
  invariant_spans_at = mapped_at formula_span

among_at : (as' : List Assertion) (i : ℕ) (d : Assertion) → i < length as' → bad_among as' ≡ None → bad_of (get_or as' i d) ≡ None
among_at [] i d h g = absurd (omega arith)
among_at (a ∷ as') zero d h g = first_none (bad_of a) (bad_among as') g
among_at (a ∷ as') (suc i) d h g = among_at as' i d (omega arith) (second_none (bad_of a) (bad_among as') g)

pub formula_good : (as' : List Assertion) (i : ℕ) (a : Assertion) → a ≡ get_or as' i a → i < length as' → bad_among as' ≡ None → bad_of a ≡ None
formula_good as' i a q h g = ap bad_of q ∙ among_at as' i a h g

-- ---- of clauses

picked_first : {B : Type 0} (v : Formula → B) (k l : ClauseKind) (a : Assertion) (rest : List Assertion) → map v (map formula_of (picked k l a rest)) ≡ map v (map formula_of (picked k l a [])) ++ map v (map formula_of rest)
picked_first v Requires Requires a rest = refl
picked_first v Requires Ensures a rest = refl
picked_first v Ensures Requires a rest = refl
picked_first v Ensures Ensures a rest = refl

module _ (k : ClauseKind) (cs : List TypedClause) (i : ℕ) (c : TypedClause) (q : c ≡ get_or cs i c) (h : i < length cs) where
  clauses_at : {B : Type 0} (v : Formula → B) → map v (map formula_of (formulas_of k (drop i cs))) ≡ map v (map formula_of (picked k c.kind c.formula [])) ++ map v (map formula_of (formulas_of k (drop (i + 1) cs)))
  clauses_at v = ap (λ ds. map v (map formula_of (formulas_of k ds))) (this_at cs i c q h) ∙ picked_first v k c.kind c.formula _

  pub formulas_at : map term_of (map formula_of (formulas_of k (drop i cs))) ≡ map term_of (map formula_of (picked k c.kind c.formula [])) ++ map term_of (map formula_of (formulas_of k (drop (i + 1) cs)))
  formulas_at = clauses_at term_of

  pub spans_at : map formula_span (map formula_of (formulas_of k (drop i cs))) ≡ map formula_span (map formula_of (picked k c.kind c.formula [])) ++ map formula_span (map formula_of (formulas_of k (drop (i + 1) cs)))
  spans_at = clauses_at formula_span

clause_at : (cs : List TypedClause) (i : ℕ) (d : TypedClause) → i < length cs → bad_clause cs ≡ None → bad_of (get_or cs i d).formula ≡ None
clause_at [] i d h g = absurd (omega arith)
clause_at (c ∷ cs) zero d h g = first_none (bad_of c.formula) (bad_clause cs) g
clause_at (c ∷ cs) (suc i) d h g = clause_at cs i d (omega arith) (second_none (bad_of c.formula) (bad_clause cs) g)

pub clause_good : (cs : List TypedClause) (i : ℕ) (c : TypedClause) → c ≡ get_or cs i c → i < length cs → bad_clause cs ≡ None → bad_of c.formula ≡ None
clause_good cs i c q h g = ap (λ (x : TypedClause). bad_of x.formula) q ∙ clause_at cs i c h g

pub ruleset formulas = (invariants_at, invariant_spans_at, formula_good, formulas_at, spans_at, clause_good)
