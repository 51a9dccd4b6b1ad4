-- The numbers of declared types, as declarations come.
use Rattle.std.proofs.Common.{◌≡◌, ℕ, suc, ◌+◌, ◌==◌, nat_eq, Bool, true, false, cond, List, [], ◌∷◌, ◌++◌, length, take, Option, Some, None, is_some, IsSome, refl, sym, ap, ap₂, ◌∙◌, subst, arith, true≢false}
use Rattle.std.proofs.lemmas.Bool.Decides.{nat_tests}
use Rattle.std.proofs.lemmas.List.{length-append}
use Rattle.std.proofs.Math.Seq.{take-append_seam}
use Rattle.std.specs.HashMap.{HashMap, get}
use Rattle.std.specs.Option.{option_map, option_to_list}
use Rattle.logic_term.specs.declared.declaration.AdtDecl.{AdtDecl}
use Rattle.logic_term.specs.declared.kinds.AdtId.{AdtId}
use Rattle.rs_types.specs.Table.{number_of, HasNumbers}

abbrev number : AdtId → ℕ
number id = id.0

pub there : (o : Option AdtId) (n : Option ℕ) → option_map number o ≡ n → is_some o ≡ true → IsSome n
there (Some id) (Some n) e s = refl
there (Some id) None e s = absurd (true≢false (ap is_some e))
there None n e s = absurd (true≢false (sym s))

pub not_there : (o : Option AdtId) (n : Option ℕ) → option_map number o ≡ n → is_some o ≡ false → n ≡ None
not_there (Some id) n e s = absurd (true≢false s)
not_there None n e s = sym e

absent : (b : Bool) (o : Option ℕ) → cond b (Some 0) (option_map suc o) ≡ None → (b ≡ false) × (o ≡ None)
absent true o e = absurd (true≢false (ap is_some e))
absent false (Some n) e = absurd (true≢false (ap is_some e))
absent false None e = (refl, refl)

behind : (p q : Bool) (n : ℕ) (o : Option ℕ) → (p ≡ true → q ≡ true → ⊥)
    → cond p (Some 0) (option_map suc (cond q (Some n) o)) ≡ cond q (Some (suc n)) (cond p (Some 0) (option_map suc o))
behind true true n o apart = absurd (apart refl refl)
behind true false n o apart = refl
behind false true n o apart = refl
behind false false n o apart = refl

not_both : (c d x : ℕ) → (c == d) ≡ false → (c == x) ≡ true → (d == x) ≡ true → ⊥
not_both c d x e f g = grind (arith, nat_tests)

-- a declaration more gives its own name a number, where that has none
numbers_with : (ds : List AdtDecl) (d : AdtDecl) (x : ℕ) → number_of d.name.0 ds ≡ None → number_of x (ds ++ d ∷ []) ≡ cond (d.name.0 == x) (Some (length ds)) (number_of x ds)
numbers_with [] d x none = refl
numbers_with (c ∷ ds) d x none =
    let apart = absent (c.name.0 == d.name.0) (number_of d.name.0 ds) none in
    ap (λ o. cond (c.name.0 == x) (Some 0) (option_map suc o)) (numbers_with ds d x apart.1)
    ∙ behind (c.name.0 == x) (d.name.0 == x) (length ds) (number_of x ds) (not_both c.name.0 d.name.0 x apart.0)

mapped : (b : Bool) (id : AdtId) (o : Option AdtId) → option_map number (cond b (Some id) o) ≡ cond b (Some id.0) (option_map number o)
mapped true id o = refl
mapped false id o = refl

pub one_more : {S : Type 0} (ds : List AdtDecl) (d : AdtDecl) (id : AdtId) (m n : HashMap ℕ AdtId S) → HasNumbers ds m → number_of d.name.0 ds ≡ None → id.0 ≡ length ds
    → ((x : ℕ) → get nat_eq n x ≡ cond (nat_eq d.name.0 x) (Some id) (get nat_eq m x)) → HasNumbers (ds ++ d ∷ []) n
one_more ds d id m n has none is updates x =
    ap (option_map number) (updates x)
    ∙ mapped (d.name.0 == x) id (get nat_eq m x)
    ∙ ap (λ k. cond (d.name.0 == x) (Some k) (option_map number (get nat_eq m x))) is
    ∙ ap (cond (d.name.0 == x) (Some (length ds))) (has x)
    ∙ sym (numbers_with ds d x none)

pub unchanged : {S : Type 0} (ds : List AdtDecl) (m n : HashMap ℕ AdtId S) → HasNumbers ds m → n.entries ≡ m.entries → HasNumbers ds n
unchanged ds m n has same x = rw same (has x)

same_fronts : (a b : List AdtDecl) (x y : AdtDecl) → a ++ x ∷ [] ≡ b ++ y ∷ [] → a ≡ b
same_fronts a b x y e =
    let long : length (a ++ x ∷ []) ≡ length a + 1 = length-append a (x ∷ []) in
    let long' : length (b ++ y ∷ []) ≡ length b + 1 = length-append b (y ∷ []) in
    let same : length (a ++ x ∷ []) ≡ length (b ++ y ∷ []) = ap length e in
    let n : length a ≡ length b = omega arith in
    sym (take-append_seam a (x ∷ [])) ∙ ap₂ take n e ∙ take-append_seam b (y ∷ [])

-- what was pushed is popped
pub without_last : (ds front : List AdtDecl) (d : AdtDecl) (last : Option AdtDecl) → ds ++ d ∷ [] ≡ front ++ option_to_list last → is_some last ≡ true → front ≡ ds
without_last ds front d (Some e) same there = same_fronts front ds e d (sym same)
without_last ds front d None same there = absurd (true≢false (sym there))

-- ---- a name that is there

-- a declaration of another name changes no number
numbers_kept : (ds : List AdtDecl) (d : AdtDecl) (x : ℕ) → (d.name.0 == x) ≡ false → number_of x (ds ++ d ∷ []) ≡ number_of x ds
numbers_kept [] d x other = ap (λ b. cond b (Some 0) None) other
numbers_kept (c ∷ ds) d x other = ap (λ o. cond (c.name.0 == x) (Some 0) (option_map suc o)) (numbers_kept ds d x other)

-- nor does one of a name that is there
numbers_still : (ds : List AdtDecl) (d : AdtDecl) (x : ℕ) → is_some (number_of x ds) ≡ true → number_of x (ds ++ d ∷ []) ≡ number_of x ds
numbers_still [] d x there = absurd (true≢false (sym there))
numbers_still (c ∷ ds) d x there = by (c.name.0 == x) there (λ h. numbers_still ds d x h)
  where
    mapped_some : (o : Option ℕ) → is_some (option_map suc o) ≡ is_some o
    mapped_some None = refl
    mapped_some (Some n) = refl

    by : (b : Bool) → is_some (cond b (Some 0) (option_map suc (number_of x ds))) ≡ true → (is_some (number_of x ds) ≡ true → number_of x (ds ++ d ∷ []) ≡ number_of x ds)
        → cond b (Some 0) (option_map suc (number_of x (ds ++ d ∷ []))) ≡ cond b (Some 0) (option_map suc (number_of x ds))
    by true h more = refl
    by false h more = ap (option_map suc) (more (sym (mapped_some (number_of x ds)) ∙ h))

same_name : (d x : ℕ) → (d == x) ≡ true → d ≡ x
same_name d x e = grind (arith, nat_tests)

pub one_behind : {S : Type 0} (ds all : List AdtDecl) (d : AdtDecl) (m : HashMap ℕ AdtId S) → HasNumbers ds m → is_some (number_of d.name.0 ds) ≡ true → all ≡ ds ++ d ∷ [] → HasNumbers all m
one_behind ds all d m has there is = subst (λ xs. HasNumbers xs m) (sym is) (λ x. has x ∙ sym (by x (d.name.0 == x) refl))
  where
    by : (x : ℕ) (b : Bool) → (d.name.0 == x) ≡ b → number_of x (ds ++ d ∷ []) ≡ number_of x ds
    by x true e = numbers_still ds d x (subst (λ n. is_some (number_of n ds) ≡ true) (same_name d.name.0 x e) there)
    by x false e = numbers_kept ds d x e
