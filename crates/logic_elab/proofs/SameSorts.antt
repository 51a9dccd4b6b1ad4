-- The test of equality of types is exact.
use Rattle.std.proofs.Common.{◌≡◌, ℕ, ◌==◌, ◌&&◌, Bool, true, false, ◌↔◌, refl, ap, ap₂, sym, ◌∙◌, rules, true≢false, arith}
use Rattle.std.specs.Prelude.{IsTrue}
use base.Stored.{Gv, gnil, gnum, gcons}
use Rattle.logic_term.specs.Same.{same_code}
use Rattle.logic_term.specs.Ty.{Ty}
use Rattle.logic_term.specs.TyCode.{ty_code, ty_injective}
use Rattle.logic_elab.specs.Sorts.{same_ty}

same_test : (m n : ℕ) → (m == n) ≡ true → m ≡ n
same_test m n h = grind arith

same_code_self : (a : Gv) → same_code a a ≡ true
same_code_self gnil = refl
same_code_self (gnum n) = search rules
same_code_self (gcons a b) = ap₂ (λ x y. x && y) (same_code_self a) (same_code_self b)

and_both : (a b : Bool) → (a && b) ≡ true → (a ≡ true) × (b ≡ true)
and_both true b e = (refl, e)
and_both false b e = absurd (true≢false (sym e))

equal_codes : (a b : Gv) → same_code a b ≡ true → a ≡ b
equal_codes gnil gnil h = refl
equal_codes (gnum m) (gnum n) h = ap gnum (same_test m n h)
equal_codes (gcons a b) (gcons c d) h = let p = and_both (same_code a c) (same_code b d) h in ap₂ gcons (equal_codes a c p.0) (equal_codes b d p.1)
equal_codes a b h = absurd (true≢false (sym h))

pub equal_types : (t u : Ty) → same_ty t u ≡ true → t ≡ u
unfolding same_ty
equal_types t u h = ty_injective t u (equal_codes (ty_code t) (ty_code u) h)

pub same_types : (t u : Ty) → t ≡ u → same_ty t u ≡ true
unfolding same_ty
same_types t u e = ap (λ v. same_code (ty_code t) (ty_code v)) (sym e) ∙ same_code_self (ty_code t)

answers : (t u : Ty) (r b : Bool) → same_ty t u ≡ b → IsTrue r ↔ (t ≡ u) → r ≡ b
answers t u true b p h = sym (same_types t u (h.0 refl)) ∙ p
answers t u false true p h = absurd (true≢false (sym (h.1 (equal_types t u p))))
answers t u false false p h = refl

-- what an exact test answers
pub same_ty_is : (t u : Ty) (r : Bool) → IsTrue r ↔ (t ≡ u) → r ≡ same_ty t u
same_ty_is t u r h = answers t u r (same_ty t u) refl h
