-- Which declared types are refused, by settled cases.
use Rattle.std.proofs.Common.{◌≡◌, ℕ, zero, suc, ◌+◌, ◌<◌, ◌≤◌, ◌&&◌, nat_lt, Bool, true, false, List, [], ◌∷◌, ◌++◌, drop, get_or, length, map, Option, Some, None, slice_get, ◌⊎◌, inl, inr, if◌then◌else◌, refl, sym, ap, ◌∙◌, subst, true≢false, arith}
use Rattle.std.proofs.lemmas.Bool.Decides.{nat_tests}
use Rattle.text_core.specs.declared.refusal.SourceError.{SourceError}
use Rattle.text_core.specs.declared.span.Span.{Span}
use Rattle.logic_term.specs.Theory.{field_ty}
use Rattle.logic_term.specs.TyView.{tys_of}
use Rattle.logic_term.specs.declared.declaration.AdtDecl.{AdtDecl}
use Rattle.logic_term.specs.declared.declaration.FieldDecl.{FieldDecl}
use Rattle.logic_term.specs.declared.declaration.VariantDecl.{VariantDecl}
use Rattle.rs_types.specs.declared.weighing.Case.{Case}
use Rattle.rs_types.specs.declared.weighing.Question.TheVariants as question
use Rattle.rs_types.specs.Accepted.{all_fields, nested_reference, AreAccepted, AreFlat, IsGood, IsNestedAmong, nested_first, nested_later, IsRefusal, refused_field, refused_type, IsFirstRefusal}
use Rattle.rs_types.specs.Endless.{IsBounded, IsEndless}
use Rattle.rs_types.specs.Heavy.{nested_at}
use Rattle.rs_types.specs.Inhabited.{IsEmpty}
use Rattle.rs_types.specs.Refused.{refused_at, refused_by}
use Rattle.rs_types.specs.Weighing.{known, weight, variants_in, AllAsked, AreAsked, Settled}
use Rattle.rs_types.proofs.Weighed.{empty_by, flat_by, inhabited_by, nested_by, root_asked}

-- ---- fields of several variants

module _ (cs : List Case) where
  in_front : (fs gs : List FieldDecl) (o : Option Span) → nested_at cs fs ≡ o → (o ≡ None) ⊎ ((s : Span) × (o ≡ Some s)) → (nested_at cs (fs ++ gs) ≡ o) ⊎ (o ≡ None)
  in_front fs gs o e (inl n) = inr n
  in_front [] gs o e (inr (s, f)) = absurd (nothing (e ∙ f))
    where
      nothing : None ≡ Some s → ⊥
      nothing r = grind (arith, r)
  in_front (f ∷ fs) gs o e (inr (s, q)) = by (nat_lt 1 (weight question.References cs [] f.ty)) refl (λ r. in_front fs gs o r (inr (s, q)))
    where
      by : (b : Bool) → nat_lt 1 (weight question.References cs [] f.ty) ≡ b → (nested_at cs fs ≡ o → (nested_at cs (fs ++ gs) ≡ o) ⊎ (o ≡ None)) → (nested_at cs (f ∷ fs ++ gs) ≡ o) ⊎ (o ≡ None)
      by true t g = inl (ap (λ b. if b then Some f.span else nested_at cs (fs ++ gs)) t ∙ sym (ap (λ b. if b then Some f.span else nested_at cs fs) t) ∙ e)
      by false t g = more (g (sym (ap (λ b. if b then Some f.span else nested_at cs fs) t) ∙ e))
        where
          more : (nested_at cs (fs ++ gs) ≡ o) ⊎ (o ≡ None) → (nested_at cs (f ∷ fs ++ gs) ≡ o) ⊎ (o ≡ None)
          more (inl r) = inl (ap (λ b. if b then Some f.span else nested_at cs (fs ++ gs)) t ∙ r)
          more (inr r) = inr r

  front_some : (fs gs : List FieldDecl) (s : Span) → nested_at cs fs ≡ Some s → nested_at cs (fs ++ gs) ≡ Some s
  front_some fs gs s e = by (in_front fs gs (Some s) e (inr (s, refl)))
    where
      by : (nested_at cs (fs ++ gs) ≡ Some s) ⊎ (Some s ≡ None) → nested_at cs (fs ++ gs) ≡ Some s
      by (inl r) = r
      by (inr r) = absurd (grind (arith, r))

  front_none : (fs gs : List FieldDecl) → nested_at cs fs ≡ None → nested_at cs (fs ++ gs) ≡ nested_at cs gs
  front_none [] gs e = refl
  front_none (f ∷ fs) gs e = by (nat_lt 1 (weight question.References cs [] f.ty)) refl (λ r. front_none fs gs r)
    where
      by : (b : Bool) → nat_lt 1 (weight question.References cs [] f.ty) ≡ b → (nested_at cs fs ≡ None → nested_at cs (fs ++ gs) ≡ nested_at cs gs) → nested_at cs (f ∷ fs ++ gs) ≡ nested_at cs gs
      by true t g = absurd (nothing (sym (ap (λ b. if b then Some f.span else nested_at cs fs) t) ∙ e))
        where
          nothing : Some f.span ≡ None → ⊥
          nothing r = grind (arith, r)
      by false t g = ap (λ b. if b then Some f.span else nested_at cs (fs ++ gs)) t ∙ g (sym (ap (λ b. if b then Some f.span else nested_at cs fs) t) ∙ e)

  next_one : (vs : List VariantDecl) (i : ℕ) (v : VariantDecl) → v ≡ get_or vs i v → i < length vs → nested_at cs v.fields ≡ None → nested_at cs (all_fields (drop i vs)) ≡ nested_at cs (all_fields (drop (suc i) vs))
  next_one [] i v e l n = absurd (omega arith)
  next_one (u ∷ vs) zero v e l n = front_none u.fields (all_fields vs) (subst (λ (x : VariantDecl). nested_at cs x.fields ≡ None) e n)
  next_one (u ∷ vs) (suc i) v e l n = next_one vs i v e (omega arith) n

  pub next_variant : (vs : List VariantDecl) (i : ℕ) (v : VariantDecl) → v ≡ get_or vs i v → i < length vs → nested_at cs v.fields ≡ None → nested_at cs (all_fields (drop i vs)) ≡ nested_at cs (all_fields (drop (i + 1) vs))
  next_variant vs i v e l n =
      let more : suc i ≡ i + 1 = grind arith in
      next_one vs i v e l n ∙ ap (λ k. nested_at cs (all_fields (drop k vs))) more

  pub at_variant : (vs : List VariantDecl) (i : ℕ) (v : VariantDecl) (s : Span) → v ≡ get_or vs i v → i < length vs → nested_at cs v.fields ≡ Some s → nested_at cs (all_fields (drop i vs)) ≡ Some s
  at_variant [] i v s e l n = absurd (omega arith)
  at_variant (u ∷ vs) zero v s e l n = front_some u.fields (all_fields vs) s (subst (λ (x : VariantDecl). nested_at cs x.fields ≡ Some s) e n)
  at_variant (u ∷ vs) (suc i) v s e l n = at_variant vs i v s e (omega arith) n

-- ---- what is said of fields

within_list : (xs : List AdtDecl) (d : ℕ) (c : AdtDecl) → slice_get xs d ≡ Some c → d < length xs
within_list [] d c e = absurd (nothing d e)
  where
    nothing : (n : ℕ) → slice_get [] n ≡ Some c → ⊥
    nothing zero r = grind (arith, r)
    nothing (suc n) r = grind (arith, r)
within_list (x ∷ xs) zero c e = omega arith
within_list (x ∷ xs) (suc d) c e = let l : d < length xs = within_list xs d c e in omega arith

module _ (ds : List AdtDecl) (cs : List Case) (s : Settled question.References ds cs) where
  two : (n : ℕ) → nat_lt 1 n ≡ true → 2 ≤ n
  two n e = let l : 1 < n = grind (arith, nat_tests) in omega arith

  not_two : (n : ℕ) → nat_lt 1 n ≡ false → 2 ≤ n → ⊥
  not_two n e l = let m : n ≤ 1 = grind (arith, nat_tests) in omega arith

  -- what the look at the fields says
  abbrev Says : Option Span → List FieldDecl → Type 0
  Says None fs = AreFlat ds fs
  Says (Some p) fs = IsNestedAmong ds fs (nested_reference p)

  said : (fs : List FieldDecl) → AreAsked question.References cs [] (tys_of (map field_ty fs)) → Says (nested_at cs fs) fs
  said [] a = tt
  said (f ∷ fs) a = by (nat_lt 1 (weight question.References cs [] f.ty)) refl (said fs a.1)
    where
      more : (o : Option Span) → (nat_lt 1 (weight question.References cs [] f.ty) ≡ false) → Says o fs → Says o (f ∷ fs)
      more None t h = (flat_by ds cs s f.ty a.0 (not_two (weight question.References cs [] f.ty) t), h)
      more (Some p) t h = nested_later (flat_by ds cs s f.ty a.0 (not_two (weight question.References cs [] f.ty) t)) h

      by : (b : Bool) → nat_lt 1 (weight question.References cs [] f.ty) ≡ b → Says (nested_at cs fs) fs → Says (if b then Some f.span else nested_at cs fs) (f ∷ fs)
      by true t h = nested_first (nested_by ds cs s f.ty (two (weight question.References cs [] f.ty) t))
      by false t h = more (nested_at cs fs) t h

  both_asked : (fs gs : List FieldDecl) → AreAsked question.References cs [] (tys_of (map field_ty fs)) → AreAsked question.References cs [] (tys_of (map field_ty gs))
      → AreAsked question.References cs [] (tys_of (map field_ty (fs ++ gs)))
  both_asked [] gs a h = h
  both_asked (f ∷ fs) gs a h = (a.0, both_asked fs gs a.1 h)

  fields_asked : (vs : List VariantDecl) → AllAsked question.References cs [] vs → AreAsked question.References cs [] (tys_of (map field_ty (all_fields vs)))
  fields_asked [] a = tt
  fields_asked (v ∷ vs) a = both_asked v.fields (all_fields vs) a.0 (fields_asked vs a.1)

  said_of : (d : ℕ) (c : AdtDecl) → slice_get ds d ≡ Some c → Says (nested_at cs (all_fields c.variants)) (all_fields c.variants)
  said_of d c e = said (all_fields c.variants) (fields_asked c.variants (subst (λ o. AllAsked question.References cs [] (variants_in o)) e (root_asked question.References ds cs s d (within_list ds d c e))))

  module _ (values : List Case) (v : Settled question.Value ds values) (bounded : List Bool) (is_bounded : (d : ℕ) → get_or bounded d true ≡ true → IsBounded ds d)
      (is_endless : (d : ℕ) → get_or bounded d true ≡ false → IsEndless ds d) where
    abbrev pub good_at : ℕ → Bool
    good_at d = get_or bounded d true && nat_lt 0 (known d [] values)

    -- what the whole look says of a declared type
    abbrev pub Judges : ℕ → AdtDecl → Option SourceError → Type 0
    Judges d c None = IsGood ds d c
    Judges d c (Some e) = IsRefusal ds d c e

    some : (n : ℕ) → nat_lt 0 n ≡ true → n ≡ 0 → ⊥
    some n t e = grind (arith, nat_tests)

    none : (n : ℕ) → nat_lt 0 n ≡ false → n ≡ 0
    none n t = grind (arith, nat_tests)

    bad : (d : ℕ) → d < length ds → (b m : Bool) → get_or bounded d true ≡ b → nat_lt 0 (known d [] values) ≡ m → (b && m) ≡ false → IsEndless ds d ⊎ IsEmpty ds d
    bad d l false m e f g = inl (is_endless d e)
    bad d l true m e f g = inr (empty_by ds values v d l (none (known d [] values) (f ∙ g)))

    good : (d : ℕ) (c : AdtDecl) → AreFlat ds (all_fields c.variants) → d < length ds → (b m : Bool) → get_or bounded d true ≡ b → nat_lt 0 (known d [] values) ≡ m → (b && m) ≡ true → IsGood ds d c
    good d c h l false m e f g = absurd (true≢false (sym g))
    good d c h l true m e f g = record { flat = h; bounded = is_bounded d e; inhabited = inhabited_by ds values v d l (some (known d [] values) (f ∙ g)) }

    pub judged : (d : ℕ) (c : AdtDecl) → slice_get ds d ≡ Some c → Judges d c (refused_by cs (good_at d) c)
    judged d c e = by (nested_at cs (all_fields c.variants)) (said_of d c e) (good_at d) refl
      where
        l : d < length ds
        l = within_list ds d c e

        by : (o : Option Span) → Says o (all_fields c.variants) → (g : Bool) → good_at d ≡ g → Judges d c (refused_at o g c.span)
        by (Some p) h g t = refused_field h
        by None h true t = good d c h l (get_or bounded d true) (nat_lt 0 (known d [] values)) refl refl t
        by None h false t = refused_type h (bad d l (get_or bounded d true) (nat_lt 0 (known d [] values)) refl refl t)

-- ---- one after another

abbrev pub GoodBefore : List AdtDecl → ℕ → Type 0
GoodBefore ds d = (b : ℕ) (c : AdtDecl) → b < d → slice_get ds b ≡ Some c → IsGood ds b c

at_index : (xs : List AdtDecl) (i : ℕ) (x : AdtDecl) → x ≡ get_or xs i x → i < length xs → slice_get xs i ≡ Some x
at_index [] i x e l = absurd (omega arith)
at_index (y ∷ xs) zero x e l = ap Some (sym e)
at_index (y ∷ xs) (suc i) x e l = at_index xs i x e (omega arith)

any_place : (bs : List Bool) (i : ℕ) (b : Bool) → b ≡ get_or bs i b → i < length bs → get_or bs i true ≡ b
any_place [] i b e l = absurd (omega arith)
any_place (a ∷ bs) zero b e l = sym e
any_place (a ∷ bs) (suc i) b e l = any_place bs i b e (omega arith)

module _ (ds : List AdtDecl) (cs values : List Case) (s : Settled question.References ds cs) (v : Settled question.Value ds values) (bounded : List Bool)
    (long : length bounded ≡ length ds) (is_bounded : (d : ℕ) → get_or bounded d true ≡ true → IsBounded ds d) (is_endless : (d : ℕ) → get_or bounded d true ≡ false → IsEndless ds d)
    (d : ℕ) (c : AdtDecl) (at : c ≡ get_or ds d c) (l : d < length ds) (b : Bool) (at_b : b ≡ get_or bounded d b) (g : Bool) (is_good : g ≡ (b && nat_lt 0 (known d [] values))) where
  judged_here : Judges ds cs s values v bounded is_bounded is_endless d c (refused_by cs g c)
  judged_here =
      let same : get_or bounded d true ≡ b = any_place bounded d b at_b (omega arith) in
      let good : good_at ds cs s values v bounded is_bounded is_endless d ≡ g = ap (λ x. x && nat_lt 0 (known d [] values)) same ∙ sym is_good in
      subst (λ x. Judges ds cs s values v bounded is_bounded is_endless d c (refused_by cs x c)) good (judged ds cs s values v bounded is_bounded is_endless d c (at_index ds d c at l))

  pub one_more_good : refused_by cs g c ≡ None → GoodBefore ds d → GoodBefore ds (d + 1)
  one_more_good none before e x m f = by (subst (λ o. Judges ds cs s values v bounded is_bounded is_endless d c o) none judged_here) (below e d m)
    where
      below : (e d : ℕ) → e < d + 1 → (e < d) ⊎ (e ≡ d)
      below zero zero m = inr refl
      below zero (suc d) m = inl (omega arith)
      below (suc e) zero m = absurd (omega arith)
      below (suc e) (suc d) m = next (below e d (omega arith))
        where
          next : (e < d) ⊎ (e ≡ d) → (suc e < suc d) ⊎ (suc e ≡ suc d)
          next (inl k) = inl (omega arith)
          next (inr k) = inr (omega arith)

      by : IsGood ds d c → (e < d) ⊎ (e ≡ d) → IsGood ds e x
      by h (inl k) = before e x k f
      by h (inr k) =
          let same : Some x ≡ Some c = sym f ∙ ap (slice_get ds) k ∙ at_index ds d c at l in
          let x_is : x ≡ c = cc in
          subst (λ n. IsGood ds n x) (sym k) (subst (IsGood ds d) (sym x_is) h)

  pub refused_here : (e : SourceError) → refused_by cs g c ≡ Some e → GoodBefore ds d → IsFirstRefusal ds e
  refused_here e is before = record {
    number = d;
    decl = c;
    there = at_index ds d c at l;
    refused = subst (λ o. Judges ds cs s values v bounded is_bounded is_endless d c o) is judged_here;
    before = λ n x m f. before n x m f;
  }

pub all_good : (ds : List AdtDecl) (d : ℕ) → length ds ≤ d → GoodBefore ds d → AreAccepted ds
all_good ds d l before = record { good = λ n c e. before n c (below n (within_list ds n c e)) e }
  where
    below : (n : ℕ) → n < length ds → n < d
    below n m = omega arith
