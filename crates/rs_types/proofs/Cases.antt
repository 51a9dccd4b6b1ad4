-- Cases of declared types at weights.
use Rattle.std.proofs.Common.{◌≡◌, ℕ, zero, suc, ◌<◌, ◌≤◌, ◌==◌, ◌&&◌, ◌||◌, Bool, true, false, List, [], ◌∷◌, ◌++◌, drop, get_or, length, map, Option, Some, None, slice_get, ◌⊎◌, inl, inr, if◌then◌else◌, refl, sym, ap, ap₂, ◌∙◌, true≢false, arith}
use Rattle.std.proofs.lemmas.Bool.Decides.{nat_tests}
use Rattle.logic_term.specs.Theory.{fields_of, variant_of}
use Rattle.logic_term.specs.Ty.{Tys}
use Rattle.logic_term.specs.declared.declaration.AdtDecl.{AdtDecl}
use Rattle.logic_term.specs.declared.declaration.VariantDecl.{VariantDecl}
use Rattle.logic_term.specs.declared.kinds.AdtId.{AdtId}
use Rattle.rs_types.specs.declared.weighing.Case.{Case}
use Rattle.rs_types.specs.declared.weighing.Question.{Question}
use Rattle.rs_types.specs.Growing.{declared_by}
use Rattle.rs_types.specs.Weighing.{same_weights, is_case, known, is_among, AreNew, field_types, variants_in, variants_at, variants_weight, reweighed, roots_from}
use Rattle.rs_types.proofs.Sound.{both}
use Rattle.rs_types.proofs.Tests.{first_off}

pub order : (m n : ℕ) → (m ≤ n) ⊎ (n < m)
order zero n = inl (omega arith)
order (suc m) zero = inr (omega arith)
order (suc m) (suc n) = more (order m n)
  where
    more : (m ≤ n) ⊎ (n < m) → (suc m ≤ suc n) ⊎ (suc n < suc m)
    more (inl l) = inl (omega arith)
    more (inr l) = inr (omega arith)

-- ---- the same weights

same_number : (m n : ℕ) → (m == n) ≡ true → m ≡ n
same_number m n e = grind (arith, nat_tests)

itself : (n : ℕ) → (n == n) ≡ true
itself n = grind (arith, nat_tests)

pub other_number : (m n : ℕ) (b : Bool) → (m ≡ n → ⊥) → (m == n && b) ≡ false
other_number m n b other = by (m == n) refl
  where
    by : (t : Bool) → (m == n) ≡ t → (m == n && b) ≡ false
    by true e = absurd (other (same_number m n e))
    by false e = ap (λ t. t && b) e

pub same_equal : (ms ns : List ℕ) → same_weights ms ns ≡ true → ms ≡ ns
same_equal [] [] e = refl
same_equal [] (n ∷ ns) e = absurd (true≢false (sym e))
same_equal (m ∷ ms) [] e = absurd (true≢false (sym e))
same_equal (m ∷ ms) (n ∷ ns) e = let q = both (m == n) (same_weights ms ns) e in ap₂ (λ a b. a ∷ b) (same_number m n q.0) (same_equal ms ns q.1)

pub unlike : (ms ns : List ℕ) (i m n : ℕ) → m ≡ get_or ms i m → n ≡ get_or ns i n → i < length ms → i < length ns → (m ≡ n → ⊥) → same_weights (drop i ms) (drop i ns) ≡ false
unlike [] ns i m n e f l k other = absurd (omega arith)
unlike (a ∷ ms) [] i m n e f l k other = absurd (omega arith)
unlike (a ∷ ms) (b ∷ ns) zero m n e f l k other = other_number a b (same_weights ms ns) (λ q. other (e ∙ q ∙ sym f))
unlike (a ∷ ms) (b ∷ ns) (suc i) m n e f l k other = unlike ms ns i m n e f (omega arith) (omega arith) other

second_off : (b c : Bool) → c ≡ false → (b && c) ≡ false
second_off true c e = e
second_off false c e = refl

pub other_length : (ms ns : List ℕ) → (length ms ≡ length ns → ⊥) → same_weights ms ns ≡ false
other_length [] [] other = absurd (other refl)
other_length [] (n ∷ ns) other = refl
other_length (m ∷ ms) [] other = refl
other_length (m ∷ ms) (n ∷ ns) other = second_off (m == n) (same_weights ms ns) (other_length ms ns (λ q. other (ap suc q)))

abbrev pub case_at : ℕ → List ℕ → ℕ → Case
case_at d ws n = record { adt = d; given = ws; weight = n }

pub same_case : (b c : Case) → b.adt ≡ c.adt → b.weight ≡ c.weight → same_weights b.given c.given ≡ true → b ≡ c
same_case b c d w g = ap (λ x. case_at x b.given b.weight) d ∙ ap (λ x. case_at c.adt x b.weight) (same_equal b.given c.given g) ∙ ap (λ x. case_at c.adt c.given x) w

-- ---- each of the cases

abbrev pub Each : (Case → Type 0) → List Case → Type 0
Each P [] = Unit {0}
Each P (c ∷ cs) = P c × Each P cs

module _ (P : Case → Type 0) where
  pub each_of_both : (cs more : List Case) → Each P cs → Each P more → Each P (cs ++ more)
  each_of_both [] more h g = g
  each_of_both (c ∷ cs) more h g = (h.0, each_of_both cs more h.1 g)

  pub each_new : ((c : Case) → c.weight ≡ 0 → P c) → (cs : List Case) → AreNew cs → Each P cs
  each_new f [] h = tt
  each_new f (c ∷ cs) h = (f c h.0, each_new f cs h.1)

  -- the case that is looked up
  abbrev pub Found : ℕ → List ℕ → List Case → Type 0
  Found d ws cs = (c : Case) × (c.adt ≡ d) × (c.given ≡ ws) × (known d ws cs ≡ c.weight) × P c

  pub found : (d : ℕ) (ws : List ℕ) (cs : List Case) → Each P cs → is_among d ws cs ≡ true → Found d ws cs
  found d ws [] h e = absurd (true≢false (sym e))
  found d ws (c ∷ cs) h e = by (is_case d ws c) refl (λ f. found d ws cs h.1 f)
    where
      by : (b : Bool) → is_case d ws c ≡ b → (is_among d ws cs ≡ true → Found d ws cs) → Found d ws (c ∷ cs)
      by true f g = let q = both (c.adt == d) (same_weights c.given ws) f in (c, same_number c.adt d q.0, same_equal c.given ws q.1, ap (λ b. if b then c.weight else known d ws cs) f, h.0)
      by false f g =
          let r = g (sym (first_off (is_case d ws c) (is_among d ws cs) f) ∙ e) in
          (r.0, r.1, r.2, ap (λ b. if b then c.weight else known d ws cs) f ∙ r.3, r.4)

pub unknown : (d : ℕ) (ws : List ℕ) (cs : List Case) → is_among d ws cs ≡ false → known d ws cs ≡ 0
unknown d ws [] e = refl
unknown d ws (c ∷ cs) e = by (is_case d ws c) refl (λ f. unknown d ws cs f)
  where
    by : (b : Bool) → is_case d ws c ≡ b → (is_among d ws cs ≡ false → known d ws cs ≡ 0) → known d ws (c ∷ cs) ≡ 0
    by true f g = absurd (true≢false (sym (ap (λ b. b || is_among d ws cs) f) ∙ e))
    by false f g = ap (λ b. if b then c.weight else known d ws cs) f ∙ g (sym (first_off (is_case d ws c) (is_among d ws cs) f) ∙ e)

-- ---- declarations

module _ (ds : List AdtDecl) where
  pub fields_are : (d : AdtId) (k : ℕ) (v : VariantDecl) → slice_get (variants_at ds d.0) k ≡ Some v → declared_by ds d k ≡ Some (field_types v)
  fields_are d k v e = by (slice_get ds d.0) refl e
    where
      by : (o : Option AdtDecl) → slice_get ds d.0 ≡ o → slice_get (variants_in o) k ≡ Some v → fields_of (variant_of o k) ≡ Some (field_types v)
      by None q f = absurd (nothing k f)
        where
          nothing : (n : ℕ) → slice_get [] n ≡ Some v → ⊥
          nothing zero r = grind (arith, r)
          nothing (suc n) r = grind (arith, r)
      by (Some c) q f = ap fields_of f

  -- a declared type's fields
  pub fields_at : (d : AdtId) (k : ℕ) (fs : Tys) → declared_by ds d k ≡ Some fs → (v : VariantDecl) × (slice_get (variants_at ds d.0) k ≡ Some v) × (fs ≡ field_types v)
  fields_at d k fs e = by (slice_get ds d.0) refl e
    where
      inside : (c : AdtDecl) (o : Option VariantDecl) → slice_get c.variants k ≡ o → fields_of o ≡ Some fs → (v : VariantDecl) × (slice_get c.variants k ≡ Some v) × (fs ≡ field_types v)
      inside c None q f = absurd (nothing f)
        where
          nothing : None ≡ Some fs → ⊥
          nothing r = grind (arith, r)
      inside c (Some v) q f = (v, q, cc)

      by : (o : Option AdtDecl) → slice_get ds d.0 ≡ o → fields_of (variant_of o k) ≡ Some fs → (v : VariantDecl) × (slice_get (variants_in o) k ≡ Some v) × (fs ≡ field_types v)
      by None q f = absurd (nothing f)
        where
          nothing : None ≡ Some fs → ⊥
          nothing r = grind (arith, r)
      by (Some c) q f = inside c (slice_get c.variants k) refl f

pub roots_new : (n : ℕ) (left : List AdtDecl) → AreNew (roots_from n left)
roots_new n [] = tt
roots_new n (d ∷ left) = (refl, roots_new (suc n) left)

module _ (q : Question) (ds : List AdtDecl) (cs : List Case) where
  -- the case of which this is the weight again
  abbrev pub IsSame : Case → Type 0
  IsSame c = variants_weight q cs c.given (variants_at ds c.adt) ≡ c.weight

  pub all_same : (left : List Case) → map (reweighed q ds cs) left ≡ left → Each IsSame left
  all_same [] e = tt
  all_same (c ∷ left) e =
      let head : reweighed q ds cs c ≡ c = cc in
      (ap (λ (x : Case). x.weight) head, all_same left cc)
