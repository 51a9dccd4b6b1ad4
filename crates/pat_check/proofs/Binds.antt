-- The bindings of parts, one after another.
use Rattle.std.proofs.Common.{◌≡◌, refl, sym, ap, ◌∙◌, ℕ, zero, suc, ◌+◌, ◌<◌, List, [], ◌∷◌, ◌++◌, length, get_or, take, arith, append-nil}
use Rattle.logic_term.specs.Matches.{under_part, bindings, bindings_from}
use Rattle.logic_term.specs.Pattern.{Pat}
use Rattle.logic_term.specs.PatternView.{pats_of}
use Rattle.logic_term.specs.declared.pattern.Binding.{Binding}
use Rattle.logic_term.specs.declared.pattern.PatStep.{PatStep}
use Rattle.pat_check.specs.Tasks.{under}

assoc : {A : Type 0} (xs ys zs : List A) → (xs ++ ys) ++ zs ≡ xs ++ (ys ++ zs)
assoc [] ys zs = refl
assoc (x ∷ xs) ys zs = ap (λ us. x ∷ us) (assoc xs ys zs)

pub under_one : (q : List PatStep) (b : Binding) → b.path ≡ q → b ∷ [] ≡ under q (record { name = b.name; path = [] } ∷ [])
under_one q b e = λ i. record { name = b.name; path = (e ∙ sym (append-nil q)) i } ∷ []

pub under_none : (bs : List Binding) → under [] bs ≡ bs
under_none [] = refl
under_none (b ∷ bs) = ap (λ cs. b ∷ cs) (under_none bs)

under_both : (q : List PatStep) (xs ys : List Binding) → under q (xs ++ ys) ≡ under q xs ++ under q ys
under_both q [] ys = refl
under_both q (x ∷ xs) ys = ap (λ zs. record { name = x.name; path = q ++ x.path } ∷ zs) (under_both q xs ys)

under_step : (q : List PatStep) (n i : ℕ) (bs : List Binding) → under q (under_part n i bs) ≡ under (q ++ record { variant = n; field = i } ∷ []) bs
under_step q n i [] = refl
under_step q n i (b ∷ bs) = λ j. record { name = b.name; path = sym (assoc q (record { variant = n; field = i } ∷ []) b.path) j } ∷ under_step q n i bs j

parts_more : (n j m i : ℕ) (ps : List Pat) (p : Pat) → m ≡ j + i → p ≡ get_or ps i p → i < length ps → bindings_from n j (pats_of (take (suc i) ps)) ≡ bindings_from n j (pats_of (take i ps)) ++ under_part n m (bindings p)
parts_more n j m i [] p e is l = absurd (omega arith)
parts_more n j m zero (x ∷ ps) p e is l =
    let at : j ≡ m = omega (arith, e) in
    append-nil (under_part n j (bindings x)) ∙ (λ k. under_part n (at k) (bindings (sym is k)))
parts_more n j m (suc i) (x ∷ ps) p e is l =
    ap (λ bs. under_part n j (bindings x) ++ bs) (parts_more n (suc j) m i ps p (omega (arith, e)) is (omega arith)) ∙ sym (assoc (under_part n j (bindings x)) (bindings_from n (suc j) (pats_of (take i ps))) (under_part n m (bindings p)))

-- the bindings of one more part
pub part_bound : (q r : List PatStep) (n i : ℕ) (ps : List Pat) (p : Pat) (old now new : List Binding) → p ≡ get_or ps i p → i < length ps → r ≡ q ++ record { variant = n; field = i } ∷ []
    → now ≡ old ++ under q (bindings_from n 0 (pats_of (take i ps))) → new ≡ now ++ under r (bindings p) → new ≡ old ++ under q (bindings_from n 0 (pats_of (take (i + 1) ps)))
part_bound q r n i ps p old now new is l er en e =
    let at : suc i ≡ i + 1 = omega arith in
    let more = parts_more n 0 i i ps p (omega arith) is l in
    let split = under_both q (bindings_from n 0 (pats_of (take i ps))) (under_part n i (bindings p)) in
    e ∙ (λ j. en j ++ under (er j) (bindings p)) ∙ assoc old _ _
    ∙ ap (λ bs. old ++ bs) (ap (λ bs. under q (bindings_from n 0 (pats_of (take i ps))) ++ bs) (sym (under_step q n i (bindings p))) ∙ sym split ∙ ap (under q) (sym more) ∙ ap (λ m. under q (bindings_from n 0 (pats_of (take m ps)))) at)
