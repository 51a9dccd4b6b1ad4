-- The test of equality of terms is exact.
use Rattle.std.proofs.Common.{◌≡◌, ◌&&◌, Bool, true, false, ◌↔◌, refl, ap, ap₂, sym, ◌∙◌, rules, true≢false}
use Rattle.std.specs.Prelude.{IsTrue}
use base.Stored.{Gv, gnil, gnum, gcons}
use Rattle.logic_term.specs.Term.{Term}
use Rattle.logic_term.specs.TermCode.{term_code, term_injective}
use Rattle.logic_term.specs.Same.{same_code, same_term}
use Rattle.logic_term.proofs.FreeLaw.{same_test}

same_code_self : (a : Gv) → same_code a a ≡ true
same_code_self gnil = refl
same_code_self (gnum n) = search rules
same_code_self (gcons a b) = ap₂ (λ x y. x && y) (same_code_self a) (same_code_self b)

and_both : (a b : Bool) → (a && b) ≡ true → (a ≡ true) × (b ≡ true)
and_both true b e = (refl, e)
and_both false b e = absurd (true≢false (sym e))

equal_codes : (a b : Gv) → same_code a b ≡ true → a ≡ b
equal_codes gnil gnil h = refl
equal_codes (gnum m) (gnum n) h = ap gnum (same_test m n h)
equal_codes (gcons a b) (gcons c d) h = let p = and_both (same_code a c) (same_code b d) h in ap₂ gcons (equal_codes a c p.0) (equal_codes b d p.1)
equal_codes a b h = absurd (true≢false (sym h))

pub same_term_equal : (t u : Term) → same_term t u ≡ true → t ≡ u
unfolding same_term
same_term_equal t u h = term_injective t u (equal_codes (term_code t) (term_code u) h)

pub equal_same_term : (t u : Term) → t ≡ u → same_term t u ≡ true
unfolding same_term
equal_same_term t u e = ap (λ v. same_code (term_code t) (term_code v)) (sym e) ∙ same_code_self (term_code t)

answers : (t u : Term) (r b : Bool) → same_term t u ≡ b → IsTrue r ↔ (t ≡ u) → r ≡ b
answers t u true b p h = sym (equal_same_term t u (h.0 refl)) ∙ p
answers t u false true p h = absurd (true≢false (sym (h.1 (same_term_equal t u p))))
answers t u false false p h = refl

-- what an exact test answers
pub same_term_is : (t u : Term) (r : Bool) → IsTrue r ↔ (t ≡ u) → r ≡ same_term t u
same_term_is t u r h = answers t u r (same_term t u) refl h
