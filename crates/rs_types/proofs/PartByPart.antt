-- Parts of written types, one after another: what is made so far, before what the others come to.
use Rattle.std.proofs.Common.{◌≡◌, ◌∙◌, refl, sym, ap, subst, ℕ, zero, suc, ◌+◌, ◌≤◌, ◌<◌, ◌==◌, max, cond, List, [], ◌∷◌, ◌++◌, length, drop, Some, None, slice_get, get_or, arith, add-one}
use Rattle.std.specs.Prelude.{Result, Ok, Err}
use Rattle.std.proofs.lemmas.List.{append_assoc, append-nil}
use Rattle.text_core.specs.declared.name.Name.{Name}
use Rattle.text_core.specs.declared.span.Span.{Span}
use Rattle.text_core.specs.declared.refusal.SourceError.{SourceError}
use Rattle.logic_term.specs.declared.kinds.Region.{Region}
use Rattle.rs_types.specs.declared.written.Elision.{Elision}
use Rattle.logic_term.specs.Ty.{Ty}
use Rattle.source_trees.specs.declared.path.Segment.{Segment}
use Rattle.source_trees.specs.declared.types.TypeArgument.{TypeArgument}
use Rattle.source_trees.specs.declared.types.TypeArgument.TheVariants as argument
use Rattle.source_trees.specs.TypeTree.{TypeTree, Types, more, TypeArguments, with_lifetime, with_type}
use Rattle.source_trees.specs.TypeTreeView.{types_of, type_arguments_of, type_tree_size, types_size, type_arguments_size}
use Rattle.rs_types.specs.declared.written.ArgumentList.{ArgumentList}
use Rattle.rs_types.specs.Meant.{Scope, ◌>>=◌, elided, all_elided, place_from, lifetime_named, meant, meant_all, meant_arguments}

-- ---- lists

-- these, and then those that are still to come
abbrev pub behind : {A : Type 0} → List A → Result (List A × Elision) SourceError → Result (List A × Elision) SourceError
behind xs m = m >>= λ p. Ok (xs ++ p.0, p.1)

nothing_before : {A : Type 0} (m : Result (List A × Elision) SourceError) → behind [] m ≡ m
nothing_before (Ok p) = refl
nothing_before (Err e) = refl

one_more : {A : Type 0} (xs : List A) (x : A) (m : Result (List A × Elision) SourceError) → behind xs (m >>= λ p. Ok (x ∷ p.0, p.1)) ≡ behind (xs ++ x ∷ []) m
one_more xs x (Ok p) = ap (λ ys. let r : Result (List _ × Elision) SourceError = Ok (ys, p.1) in r) (sym (append_assoc xs (x ∷ []) p.0))
one_more xs x (Err e) = refl

-- ---- lifetimes that are left out

pub first_elided : (n : ℕ) (m : Elision) (s : Span) → all_elided n m s ≡ behind [] (all_elided n m s)
first_elided n m s = sym (nothing_before (all_elided n m s))

pub one_elided : (n left : ℕ) (m : Elision) (s : Span) (r : Region) (next : Elision) (made : List Region) → left ≡ suc n → elided m s ≡ Ok (r, next) → behind made (all_elided left m s) ≡ behind (made ++ r ∷ []) (all_elided n next s)
one_elided n left m s r next made is e =
    ap (λ k. behind made (all_elided k m s)) is ∙ ap (λ t. behind made (t >>= λ q. all_elided n q.1 s >>= λ rs. Ok (q.0 ∷ rs.0, rs.1))) e ∙ one_more made r (all_elided n next s)

pub elision_refused : (n left : ℕ) (m : Elision) (s : Span) (x : SourceError) (made : List Region) → left ≡ suc n → elided m s ≡ Err x → behind made (all_elided left m s) ≡ Err x
elision_refused n left m s x made is e = ap (λ k. behind made (all_elided k m s)) is ∙ ap (λ t. behind made (t >>= λ q. all_elided n q.1 s >>= λ rs. Ok (q.0 ∷ rs.0, rs.1))) e

-- ---- places of names

some_same : {A : Type 0} {a b : A} → Some a ≡ Some b → a ≡ b
some_same e = cc

dropped : {A : Type 0} (ys : List A) (i : ℕ) (y : A) → slice_get ys i ≡ Some y → drop i ys ≡ y ∷ drop (i + 1) ys
dropped [] i y e = absurd (cc)
dropped (z ∷ ys) zero y e = ap (λ w. w ∷ ys) (some_same e)
dropped (z ∷ ys) (suc i) y e = dropped ys i y e ∙ ap (λ zs. y ∷ zs) (ap (λ n. drop n ys) (add-one i) ∙ sym (ap (λ n. drop n (z ∷ ys)) (add-one (suc i))))

all_dropped : {A : Type 0} (ys : List A) (i : ℕ) → length ys ≤ i → drop i ys ≡ []
all_dropped [] zero far = refl
all_dropped [] (suc i) far = refl
all_dropped (z ∷ ys) zero far = absurd (omega (arith, far))
all_dropped (z ∷ ys) (suc i) far = all_dropped ys i (omega (arith, far))

pub place_on : (ys : List Name) (n i x : ℕ) (y : Name) → slice_get ys i ≡ Some y → place_from n x (drop i ys) ≡ cond (y.0 == x) (Some n) (place_from (n + 1) x (drop (i + 1) ys))
place_on ys n i x y e = ap (place_from n x) (dropped ys i y e)

pub place_end : (ys : List Name) (n i x : ℕ) → length ys ≤ i → place_from n x (drop i ys) ≡ None
place_end ys n i x far = ap (place_from n x) (all_dropped ys i far)

-- ---- types

module _ (Γ : Scope) where
  pub first_meant : (m : Elision) (ws : List TypeTree) → meant_all Γ m (types_of ws) ≡ behind [] (meant_all Γ m (types_of (drop 0 ws)))
  first_meant m ws = sym (nothing_before (meant_all Γ m (types_of ws)))

  -- what the types from one on come to
  step : (made : List Ty) (m : Elision) (w : TypeTree) (rest : Types) (r : Result (Ty × Elision) SourceError) → meant Γ m w ≡ r
      → behind made (meant_all Γ m (more w rest)) ≡ behind made (r >>= λ t. meant_all Γ t.1 rest >>= λ ts. Ok (t.0 ∷ ts.0, ts.1))
  step made m w rest r e = ap (λ q. behind made (q >>= λ t. meant_all Γ t.1 rest >>= λ ts. Ok (t.0 ∷ ts.0, ts.1))) e

  pub one_meant : (ws : List TypeTree) (i : ℕ) (w : TypeTree) (made : List Ty) (m next : Elision) (t : Ty) → slice_get ws i ≡ Some w → meant Γ m w ≡ Ok (t, next)
      → behind made (meant_all Γ m (types_of (drop i ws))) ≡ behind (made ++ t ∷ []) (meant_all Γ next (types_of (drop (i + 1) ws)))
  one_meant ws i w made m next t at e =
      ap (λ xs. behind made (meant_all Γ m (types_of xs))) (dropped ws i w at) ∙ step made m w (types_of (drop (i + 1) ws)) (Ok (t, next)) e ∙ one_more made t (meant_all Γ next (types_of (drop (i + 1) ws)))

  pub part_refused : (ws : List TypeTree) (i : ℕ) (w : TypeTree) (made : List Ty) (m : Elision) (x : SourceError) → slice_get ws i ≡ Some w → meant Γ m w ≡ Err x
      → behind made (meant_all Γ m (types_of (drop i ws))) ≡ Err x
  part_refused ws i w made m x at e = ap (λ xs. behind made (meant_all Γ m (types_of xs))) (dropped ws i w at) ∙ step made m w (types_of (drop (i + 1) ws)) (Err x) e

  pub none_left : (ws : List TypeTree) (i : ℕ) (made : List Ty) (m : Elision) → length ws ≤ i → behind made (meant_all Γ m (types_of (drop i ws))) ≡ Ok (made, m)
  none_left ws i made m far = ap (λ xs. behind made (meant_all Γ m (types_of xs))) (all_dropped ws i far) ∙ ap (λ ts. let r : Result (List Ty × Elision) SourceError = Ok (ts, m) in r) (append-nil made)

-- ---- arguments

abbrev pub joined : ArgumentList → ArgumentList → ArgumentList
joined a b = record { regions = a.regions ++ b.regions; types = a.types ++ b.types }

abbrev pub behind_arguments : ArgumentList → Result (ArgumentList × Elision) SourceError → Result (ArgumentList × Elision) SourceError
behind_arguments a m = m >>= λ p. Ok (joined a p.0, p.1)

as_answer : ArgumentList → Elision → Result (ArgumentList × Elision) SourceError
as_answer a m = Ok (a, m)

lists : List Region → List Ty → ArgumentList
lists rs ts = record { regions = rs; types = ts }

one_more_region : (rs : List Region) (ts : List Ty) (r : Region) (m : Result (ArgumentList × Elision) SourceError)
    → behind_arguments (record { regions = rs; types = ts }) (m >>= λ p. Ok (record { regions = r ∷ p.0.regions; types = p.0.types }, p.1)) ≡ behind_arguments (record { regions = rs ++ r ∷ []; types = ts }) m
unfolding lists as_answer
one_more_region rs ts r (Ok p) = ap (λ qs. as_answer (lists qs (ts ++ p.0.types)) p.1) (sym (append_assoc rs (r ∷ []) p.0.regions))
one_more_region rs ts r (Err e) = refl

one_more_type : (rs : List Region) (ts : List Ty) (t : Ty) (m : Result (ArgumentList × Elision) SourceError)
    → behind_arguments (record { regions = rs; types = ts }) (m >>= λ p. Ok (record { regions = p.0.regions; types = t ∷ p.0.types }, p.1)) ≡ behind_arguments (record { regions = rs; types = ts ++ t ∷ [] }) m
unfolding lists as_answer
one_more_type rs ts t (Ok p) = ap (λ us. as_answer (lists (rs ++ p.0.regions) us) p.1) (sym (append_assoc ts (t ∷ []) p.0.types))
one_more_type rs ts t (Err e) = refl

no_argument_before : (m : Result (ArgumentList × Elision) SourceError) → behind_arguments (record { regions = []; types = [] }) m ≡ m
no_argument_before (Ok p) = refl
no_argument_before (Err e) = refl

module _ (Γ : Scope) where
  pub first_argument : (m : Elision) (ws : List TypeArgument) → meant_arguments Γ m (type_arguments_of ws) ≡ behind_arguments (record { regions = []; types = [] }) (meant_arguments Γ m (type_arguments_of (drop 0 ws)))
  first_argument m ws = sym (no_argument_before (meant_arguments Γ m (type_arguments_of ws)))

  region_step : (rs : List Region) (ts : List Ty) (m : Elision) (l : Segment) (rest : TypeArguments) (r : Result Region SourceError) → lifetime_named Γ l ≡ r
      → behind_arguments (record { regions = rs; types = ts }) (meant_arguments Γ m (with_lifetime l rest))
      ≡ behind_arguments (record { regions = rs; types = ts }) (r >>= λ q. meant_arguments Γ m rest >>= λ a. Ok (record { regions = q ∷ a.0.regions; types = a.0.types }, a.1))
  region_step rs ts m l rest r e =
      ap (λ o. behind_arguments (record { regions = rs; types = ts }) (o >>= λ q. meant_arguments Γ m rest >>= λ a. Ok (record { regions = q ∷ a.0.regions; types = a.0.types }, a.1))) e

  type_step : (rs : List Region) (ts : List Ty) (m : Elision) (w : TypeTree) (rest : TypeArguments) (r : Result (Ty × Elision) SourceError) → meant Γ m w ≡ r
      → behind_arguments (record { regions = rs; types = ts }) (meant_arguments Γ m (with_type w rest))
      ≡ behind_arguments (record { regions = rs; types = ts }) (r >>= λ q. meant_arguments Γ q.1 rest >>= λ a. Ok (record { regions = a.0.regions; types = q.0 ∷ a.0.types }, a.1))
  type_step rs ts m w rest r e =
      ap (λ o. behind_arguments (record { regions = rs; types = ts }) (o >>= λ q. meant_arguments Γ q.1 rest >>= λ a. Ok (record { regions = a.0.regions; types = q.0 ∷ a.0.types }, a.1))) e

  -- the arguments from number i on, behind these
  abbrev pub from_argument : List TypeArgument → ℕ → List Region → List Ty → Elision → Result (ArgumentList × Elision) SourceError
  from_argument ws i rs ts m = behind_arguments (record { regions = rs; types = ts }) (meant_arguments Γ m (type_arguments_of (drop i ws)))

  at_argument : (ws : List TypeArgument) (i : ℕ) (w : TypeArgument) (rs : List Region) (ts : List Ty) (m : Elision) → slice_get ws i ≡ Some w
      → from_argument ws i rs ts m ≡ behind_arguments (record { regions = rs; types = ts }) (meant_arguments Γ m (type_arguments_of (w ∷ drop (i + 1) ws)))
  at_argument ws i w rs ts m at = ap (λ xs. behind_arguments (record { regions = rs; types = ts }) (meant_arguments Γ m (type_arguments_of xs))) (dropped ws i w at)

  pub one_region : (ws : List TypeArgument) (i : ℕ) (l : Segment) (rs : List Region) (ts : List Ty) (m : Elision) (r : Region) → slice_get ws i ≡ Some (argument.Lifetime l) → lifetime_named Γ l ≡ Ok r
      → from_argument ws i rs ts m ≡ from_argument ws (i + 1) (rs ++ r ∷ []) ts m
  one_region ws i l rs ts m r at e =
      at_argument ws i (argument.Lifetime l) rs ts m at ∙ region_step rs ts m l (type_arguments_of (drop (i + 1) ws)) (Ok r) e ∙ one_more_region rs ts r (meant_arguments Γ m (type_arguments_of (drop (i + 1) ws)))

  pub region_refused : (ws : List TypeArgument) (i : ℕ) (l : Segment) (rs : List Region) (ts : List Ty) (m : Elision) (x : SourceError) → slice_get ws i ≡ Some (argument.Lifetime l) → lifetime_named Γ l ≡ Err x
      → from_argument ws i rs ts m ≡ Err x
  region_refused ws i l rs ts m x at e = at_argument ws i (argument.Lifetime l) rs ts m at ∙ region_step rs ts m l (type_arguments_of (drop (i + 1) ws)) (Err x) e

  pub one_type : (ws : List TypeArgument) (i : ℕ) (w : TypeTree) (rs : List Region) (ts : List Ty) (m next : Elision) (t : Ty) → slice_get ws i ≡ Some (argument.Type w) → meant Γ m w ≡ Ok (t, next)
      → from_argument ws i rs ts m ≡ from_argument ws (i + 1) rs (ts ++ t ∷ []) next
  one_type ws i w rs ts m next t at e =
      at_argument ws i (argument.Type w) rs ts m at ∙ type_step rs ts m w (type_arguments_of (drop (i + 1) ws)) (Ok (t, next)) e ∙ one_more_type rs ts t (meant_arguments Γ next (type_arguments_of (drop (i + 1) ws)))

  pub type_refused : (ws : List TypeArgument) (i : ℕ) (w : TypeTree) (rs : List Region) (ts : List Ty) (m : Elision) (x : SourceError) → slice_get ws i ≡ Some (argument.Type w) → meant Γ m w ≡ Err x
      → from_argument ws i rs ts m ≡ Err x
  type_refused ws i w rs ts m x at e = at_argument ws i (argument.Type w) rs ts m at ∙ type_step rs ts m w (type_arguments_of (drop (i + 1) ws)) (Err x) e

  pub no_argument_left : (ws : List TypeArgument) (i : ℕ) (rs : List Region) (ts : List Ty) (m : Elision) → length ws ≤ i → from_argument ws i rs ts m ≡ Ok (record { regions = rs; types = ts }, m)
  unfolding lists as_answer
  no_argument_left ws i rs ts m far =
      ap (λ xs. behind_arguments (record { regions = rs; types = ts }) (meant_arguments Γ m (type_arguments_of xs))) (all_dropped ws i far)
      ∙ ap (λ qs. as_answer (lists qs (ts ++ [])) m) (append-nil rs) ∙ ap (λ us. as_answer (lists rs us) m) (append-nil ts)

-- ---- how deep the parts are

pub tree_smaller : (ws : List TypeTree) (i : ℕ) (w : TypeTree) → w ≡ get_or ws i w → i < length ws → type_tree_size w < types_size (types_of ws)
tree_smaller [] i w e l = absurd (omega arith)
tree_smaller (v ∷ ws) zero w e l = subst (λ u. type_tree_size u < suc (max (type_tree_size v) (types_size (types_of ws)))) (sym e) (omega arith)
tree_smaller (v ∷ ws) (suc i) w e l = omega (arith, tree_smaller ws i w e (omega arith))

pub argument_smaller : (ws : List TypeArgument) (i : ℕ) (v : TypeArgument) (w : TypeTree) → v ≡ get_or ws i v → i < length ws → v ≡ argument.Type w → type_tree_size w < type_arguments_size (type_arguments_of ws)
argument_smaller [] i v w e l is = absurd (omega arith)
argument_smaller (u ∷ ws) zero v w e l is = subst (λ x. type_tree_size w < type_arguments_size (type_arguments_of (x ∷ ws))) (sym is ∙ e) (omega arith)
argument_smaller (argument.Lifetime x ∷ ws) (suc i) v w e l is = omega (arith, argument_smaller ws i v w e (omega arith) is)
argument_smaller (argument.Type x ∷ ws) (suc i) v w e l is = omega (arith, argument_smaller ws i v w e (omega arith) is)
