-- The terms that a term is in as a first operand.
use Rattle.std.proofs.Common.{◌≡◌, ◌<◌, ◌≤◌, List, [], ◌∷◌, ◌++◌, reverse, Some, sym, ◌∙◌, ap, subst, arith}
use Rattle.std.proofs.lemmas.List.{reverse-append}
use Rattle.std.specs.Borrow.{Bor}
use Rattle.source_kinds.specs.declared.kinds.ArithOp.TheVariants.{Add, Sub, Mul}
use Rattle.logic_term.specs.Term.{negated, arith as by_op, Term, apply, no_terms, and_term}
use Rattle.logic_term.specs.TermView.{term_size}
use Rattle.proof_kernel.specs.Polynomial.{Polynomial, polynomial, IsNarrowTerm}
use Rattle.proof_kernel.specs.PolynomialCode.{left_operand, IsWithin, IsMadeWithin, JoinsNarrowly}

same_operand : {a x : Term} → Some a ≡ Some x → a ≡ x
same_operand e = cc

operand_smaller : (t x : Term) → left_operand t ≡ Some x → term_size x < term_size t
operand_smaller (apply (by_op Add) (and_term a (and_term b no_terms))) x e = subst (λ y. term_size y < term_size (apply (by_op Add) (and_term a (and_term b no_terms)))) (same_operand e) (omega arith)
operand_smaller (apply (by_op Sub) (and_term a (and_term b no_terms))) x e = subst (λ y. term_size y < term_size (apply (by_op Sub) (and_term a (and_term b no_terms)))) (same_operand e) (omega arith)
operand_smaller (apply (by_op Mul) (and_term a (and_term b no_terms))) x e = subst (λ y. term_size y < term_size (apply (by_op Mul) (and_term a (and_term b no_terms)))) (same_operand e) (omega arith)
operand_smaller (apply negated (and_term a no_terms)) x e = subst (λ y. term_size y < term_size (apply negated (and_term a no_terms))) (same_operand e) (omega arith)
operand_smaller t x e = absurd (cc)

narrow_parts : (t x : Term) → left_operand t ≡ Some x → IsNarrowTerm t → IsNarrowTerm x × JoinsNarrowly t (polynomial x)
narrow_parts (apply (by_op Add) (and_term a (and_term b no_terms))) x e h = subst (λ y. IsNarrowTerm y × JoinsNarrowly (apply (by_op Add) (and_term a (and_term b no_terms))) (polynomial y)) (same_operand e) (h.0, (h.1, h.2))
narrow_parts (apply (by_op Sub) (and_term a (and_term b no_terms))) x e h = subst (λ y. IsNarrowTerm y × JoinsNarrowly (apply (by_op Sub) (and_term a (and_term b no_terms))) (polynomial y)) (same_operand e) (h.0, (h.1, h.2))
narrow_parts (apply (by_op Mul) (and_term a (and_term b no_terms))) x e h = subst (λ y. IsNarrowTerm y × JoinsNarrowly (apply (by_op Mul) (and_term a (and_term b no_terms))) (polynomial y)) (same_operand e) (h.0, (h.1, (h.2, h.3)))
narrow_parts (apply negated (and_term a no_terms)) x e h = subst (λ y. IsNarrowTerm y × JoinsNarrowly (apply negated (and_term a no_terms)) (polynomial y)) (same_operand e) h
narrow_parts t x e h = absurd (cc)

narrow_operand : (us : List (Bor Term)) (t whole : Term) → IsWithin us t whole → IsNarrowTerm whole → IsNarrowTerm t
narrow_operand [] t whole w h = subst IsNarrowTerm (sym w) h
narrow_operand (u ∷ us) t whole w h = (narrow_parts u.now t w.0 (narrow_operand us u.now whole w.1 h)).0

within_smaller : (us : List (Bor Term)) (t whole : Term) → IsWithin us t whole → term_size t ≤ term_size whole
within_smaller [] t whole w = subst (λ u. term_size t ≤ term_size u) w (omega arith)
within_smaller (u ∷ us) t whole w =
    let a = operand_smaller u.now t w.0 in
    let b = within_smaller us u.now whole w.1 in
    omega (arith, a, b)

module _ (old rest : List (Bor Term)) (u : Bor Term) (p : Polynomial) (whole : Term) (e : old ≡ rest ++ u ∷ []) (m : IsMadeWithin (reverse old) p whole) where
  within : IsWithin (u ∷ reverse rest) m.0 whole
  within = subst (λ us. IsWithin us m.0 whole) (ap reverse e ∙ reverse-append rest (u ∷ [])) m.1

  pub outer_within : term_size u.now ≤ term_size whole
  outer_within = within_smaller (reverse rest) u.now whole within.1

  pub outer_too_wide : (JoinsNarrowly u.now p → ⊥) → IsNarrowTerm whole → ⊥
  outer_too_wide n h = n (subst (JoinsNarrowly u.now) (sym m.3) (narrow_parts u.now m.0 within.0 (narrow_operand (reverse rest) u.now whole within.1 h)).1)
