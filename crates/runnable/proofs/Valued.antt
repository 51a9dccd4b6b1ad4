-- Types that hold no references have values, where the declared types of a source are accepted.
use Rattle.std.proofs.Common.{◌≡◌, ◌∙◌, refl, sym, ap, subst, ℕ, zero, suc, ◌+◌, pos, Bool, true, false, List, [], ◌∷◌, ◌++◌, length, Option, Some, None, slice_get, if◌then◌else◌, arith}
use Rattle.text_core.specs.declared.name.Name.{Name}
use Rattle.text_core.specs.declared.span.Span.{Span}
use Rattle.source_kinds.specs.declared.kinds.IntKind.{IntKind}
use Rattle.source_kinds.specs.declared.kinds.IntKind.TheVariants.{I8, I16, I32, I64, Isize, U8, U16, U32, U64, Usize}
use Rattle.source_kinds.specs.Range.{fits}
use Rattle.logic_term.specs.declared.declaration.AdtDecl.{AdtDecl}
use Rattle.logic_term.specs.declared.kinds.Ctor.TheVariants.{Tuple, Variant}
use Rattle.logic_term.specs.Sort.{HaveSorts, instance, instances, nth_ty, of_int, of_bool, of_math_int, of_tuple, of_adt, of_boxed, of_none, of_more}
use Rattle.logic_term.specs.Ty.{Ty, Tys, int, bool, math_int, tuple, adt, boxed, param, no_tys, and_ty}
use Rattle.logic_term.specs.Value.{Values, Number, Flag, Made, no_values, and_value}
use Rattle.source_trees.specs.declared.attribute.Attribute.{Attribute}
use Rattle.source_trees.specs.declared.item.Item.{Item}
use Rattle.source_trees.specs.declared.item.ItemNode.{ItemNode}
use Rattle.source_trees.specs.declared.item.ItemNode.TheVariants as item
use Rattle.rs_types.specs.Checked.{AllPass}
use Rattle.rs_types.specs.declared.checks.Check.{Check}
use Rattle.rs_types.specs.declared.checks.Check.TheVariants as check
use Rattle.rs_types.specs.Growing.{declared_by}
use Rattle.rs_types.specs.Inhabited.{HasValue, IsInhabited}
use Rattle.declared_types.specs.Answers.{with_some}
use Rattle.declared_types.specs.DeclaredTypes.{declared_type, heads, item_scope, types_from, takes, prelude, option_type, declares_option, declared_types}
use Rattle.declared_types.specs.Declaring.{checks, checks_from, item_checks, node_checks, struct_fields_checks, variants_checks, named, type_name, value_name}
use Rattle.runnable.specs.Runs.{has_no_lifetimes, is_owned, are_owned}
use Rattle.runnable.proofs.Unrun.{both}

-- ---- each declared type has a value

pass_front : (ds : List AdtDecl) (cs gs : List Check) → AllPass ds (cs ++ gs) → AllPass ds cs
pass_front ds [] gs h = tt
pass_front ds (c ∷ cs) gs h = (h.0, pass_front ds cs gs h.1)

pass_behind : (ds : List AdtDecl) (cs gs : List Check) → AllPass ds (cs ++ gs) → AllPass ds gs
pass_behind ds [] gs h = h
pass_behind ds (c ∷ cs) gs h = pass_behind ds cs gs h.1

module _ (ds hs : List AdtDecl) where
  value_step : (n : ℕ) (own : Span) (as' : List Attribute) (node : ItemNode) (rest : List AdtDecl) → AllPass ds (node_checks hs n own node)
      → ((k : ℕ) (d : AdtDecl) → slice_get rest k ≡ Some d → IsInhabited ds (n + takes node + k)) → (k : ℕ) (d : AdtDecl) → slice_get (with_some (declared_type hs n as' node) rest) k ≡ Some d → IsInhabited ds (n + k)
  value_step n own as' (item.Struct s) rest pass h zero d e = subst (IsInhabited ds) (omega arith) (pass_behind ds (struct_fields_checks (item_scope hs n s.generics) s.fields) (check.Finite n s.name.span ∷ []) pass).0.1
  value_step n own as' (item.Struct s) rest pass h (suc k) d e = subst (IsInhabited ds) (omega arith) (h k d e)
  value_step n own as' (item.Enum x) rest pass h zero d e = subst (IsInhabited ds) (omega arith) (pass_behind ds (variants_checks (item_scope hs n x.generics) [] x.variants) (check.Finite n x.name.span ∷ []) pass).0.1
  value_step n own as' (item.Enum x) rest pass h (suc k) d e = subst (IsInhabited ds) (omega arith) (h k d e)
  value_step n own as' (item.Function f) rest pass h k d e = subst (IsInhabited ds) (omega arith) (h k d e)
  value_step n own as' (item.Trait t) rest pass h k d e = subst (IsInhabited ds) (omega arith) (h k d e)
  value_step n own as' (item.Impl m) rest pass h k d e = subst (IsInhabited ds) (omega arith) (h k d e)
  value_step n own as' item.Use rest pass h k d e = subst (IsInhabited ds) (omega arith) (h k d e)
  value_step n own as' item.ExternCrate rest pass h k d e = subst (IsInhabited ds) (omega arith) (h k d e)

  values_from : (n : ℕ) (ts vs : List Name) (is : List Item) → AllPass ds (checks_from hs n ts vs is) → (k : ℕ) (d : AdtDecl) → slice_get (types_from hs n is) k ≡ Some d → IsInhabited ds (n + k)
  values_from n ts vs [] pass k d e = absurd (cc)
  values_from n ts vs (i ∷ is) pass k d e =
      let us = ts ++ with_some (named (type_name i.node)) [] in
      let ws = vs ++ with_some (named (value_name i.node)) [] in
      let later = checks_from hs (n + takes i.node) us ws is in
      let first = pass_front ds (item_checks hs n ts vs i) later pass in
      value_step n i.own i.attributes i.node (types_from hs (n + takes i.node) is) first.1
      (values_from (n + takes i.node) us ws is (pass_behind ds (item_checks hs n ts vs i) later pass)) k d e

-- `None` is one of `Option`
option_valued : (rest : List AdtDecl) → IsInhabited (option_type ∷ rest) 0
option_valued rest rs ts h = (Made (Variant (record { 0 = 0 }) 0) no_values, of_adt refl of_none)

module _ (is : List Item) (pass : AllPass (declared_types is) (checks is)) where
  inhabited : (d : ℕ) (c : AdtDecl) → slice_get (declared_types is) d ≡ Some c → IsInhabited (declared_types is) d
  unfolding declared_types checks
  inhabited d c e = by (declares_option is) refl (prelude is) refl (declared_types is) refl d c e pass
    where
      by : (b : Bool) → declares_option is ≡ b → (front : List AdtDecl) → front ≡ (if declares_option is then [] else option_type ∷ []) → (ds : List AdtDecl) → ds ≡ front ++ types_from (heads is) (length front) is
          → (d : ℕ) (c : AdtDecl) → slice_get ds d ≡ Some c → AllPass ds (checks_from (heads is) (length front) [] [] is) → IsInhabited ds d
      by b q [] p ds r d c e pass = subst (IsInhabited ds) (omega arith) (values_from ds (heads is) 0 [] [] is pass d c (sym (ap (λ xs. slice_get xs d) r) ∙ e))
      by true q (x ∷ front) p ds r d c e pass = absurd (let none : x ∷ front ≡ [] = p ∙ ap (λ b. if b then [] else option_type ∷ []) q in cc)
      by false q (x ∷ front) p ds r zero c e pass =
          let one : x ∷ front ≡ option_type ∷ [] = p ∙ ap (λ b. if b then [] else option_type ∷ []) q in
          subst (λ xs. IsInhabited xs 0) (sym (r ∙ ap (λ f. f ++ types_from (heads is) (length (x ∷ front)) is) one)) (option_valued (types_from (heads is) (length (x ∷ front)) is))
      by false q (x ∷ []) p ds r (suc d) c e pass = subst (IsInhabited ds) (omega arith) (values_from ds (heads is) 1 [] [] is pass d c (sym (ap (λ xs. slice_get xs (suc d)) r) ∙ e))
      by false q (x ∷ y ∷ front) p ds r (suc d) c e pass = absurd (let one : x ∷ y ∷ front ≡ option_type ∷ [] = p ∙ ap (λ b. if b then [] else option_type ∷ []) q in cc)

  -- ---- each type that holds no references has one

  zero_fits : (k : IntKind) → fits k (pos 0) ≡ true
  zero_fits I8 = refl
  zero_fits I16 = refl
  zero_fits I32 = refl
  zero_fits I64 = refl
  zero_fits Isize = refl
  zero_fits U8 = refl
  zero_fits U16 = refl
  zero_fits U32 = refl
  zero_fits U64 = refl
  zero_fits Usize = refl

  abbrev Valued : Ty → Type 0
  Valued t = HasValue (declared_by (declared_types is)) t

  there : (o : Option AdtDecl) → has_no_lifetimes o ≡ true → (c : AdtDecl) × (o ≡ Some c)
  there None h = absurd (cc)
  there (Some c) h = (c, refl)

  mutual
    pub owned_valued : (t : Ty) → is_owned (declared_types is) t ≡ true → Valued (instance no_tys t)
    owned_valued (int k) h = (Number (pos 0), of_int (zero_fits k))
    owned_valued bool h = (Flag false, of_bool)
    owned_valued math_int h = (Number (pos 0), of_math_int)
    owned_valued (tuple ts) h = let w = all_valued ts h in (Made Tuple w.0, of_tuple w.1)
    owned_valued (adt d rs ts) h =
        let g = both (has_no_lifetimes (slice_get (declared_types is) d.0)) (are_owned (declared_types is) ts) h in
        let c = there (slice_get (declared_types is) d.0) g.0 in
        inhabited d.0 c.0 c.1 rs (instances no_tys ts) (nth_valued ts g.1)
    owned_valued (boxed t) h = let w = owned_valued t h in (w.0, of_boxed w.1)
    owned_valued (param n) h = (Number (pos 0), of_math_int)
    owned_valued _ h = absurd (cc)

    all_valued : (ts : Tys) → are_owned (declared_types is) ts ≡ true → (vs : Values) × HaveSorts (declared_by (declared_types is)) vs (instances no_tys ts)
    all_valued no_tys h = (no_values, of_none)
    all_valued (and_ty t ts) h =
        let g = both (is_owned (declared_types is) t) (are_owned (declared_types is) ts) h in
        let v = owned_valued t g.0 in
        let vs = all_valued ts g.1 in
        (and_value v.0 vs.0, of_more v.1 vs.1)

    nth_valued : (ts : Tys) → are_owned (declared_types is) ts ≡ true → (i : ℕ) → Valued (nth_ty (instances no_tys ts) i)
    nth_valued no_tys h i = (Number (pos 0), of_math_int)
    nth_valued (and_ty t ts) h zero = owned_valued t (both (is_owned (declared_types is) t) (are_owned (declared_types is) ts) h).0
    nth_valued (and_ty t ts) h (suc i) = nth_valued ts (both (is_owned (declared_types is) t) (are_owned (declared_types is) ts) h).1 i
