-- What holds of the terms that names and literals become, and is kept by each form, holds of each term.
use Rattle.std.proofs.Common.{◌≡◌, Bool, true, false, List, [], ◌∷◌, Option, Some, None, Result, Ok, Err, refl, subst}
use Rattle.std.specs.Prelude.{ℕ, ℤ, if◌then◌else◌}
use Rattle.text_core.specs.declared.name.Name.{Name}
use Rattle.text_core.specs.declared.refusal.SourceError.{SourceError}
use Rattle.text_core.specs.declared.span.Span.{Span}
use Rattle.source_kinds.specs.declared.kinds.ArithOp.{ArithOp}
use Rattle.source_kinds.specs.declared.kinds.IntKind.{IntKind}
use Rattle.source_kinds.specs.declared.kinds.Comparison.{Comparison}
use Rattle.source_kinds.specs.declared.kinds.Comparison.TheVariants.{Eq, Ne, Lt, Le, Gt, Ge}
use Rattle.source_kinds.specs.Range.{fits}
use Rattle.source_trees.specs.declared.operator.BinaryTerm.TheVariants.{Implies, Or, And, Compare, Calculate}
use Rattle.source_trees.specs.declared.operator.UnaryTerm.TheVariants.{Neg, Not, View}
use Rattle.source_trees.specs.declared.path.Number.{Number}
use Rattle.source_trees.specs.declared.path.Segment.{Segment}
use Rattle.source_trees.specs.Pterm as T
use Rattle.source_trees.specs.Pterm.{Pterm}
use Rattle.source_trees.specs.PtermView.{span_of}
use Rattle.logic_term.specs.declared.kinds.Ctor.TheVariants.{Tuple}
use Rattle.logic_term.specs.Sorted.{FieldSort}
use Rattle.logic_term.specs.Term.{Term, Terms, apply, made, no_terms, and_term as and_terms, part as part_term, var, lit, truth as truth_term, model, negative as negative_term, not as not_term, calculate, is_less, is_at_most, is_equal, and as and_term, or as or_term, implies as implies_term, Quantifier, bind, if_else}
use Rattle.logic_term.specs.Ty.{Ty, Tys, int, bool, math_int, tuple, no_tys, and_ty}
use Rattle.logic_elab.specs.declared.scope.Symbol.{Symbol}
use Rattle.logic_elab.specs.declared.sorted.SortedTerm.{SortedTerm}
use Rattle.logic_elab.specs.Answers.{◌>>=◌, mismatch, unbuilt, unknown_name, pair}
use Rattle.logic_elab.specs.Binders.{meant_under, inside, symbols_of, bound_all}
use Rattle.logic_elab.specs.Elaborated.{sorted, literal, name_alone, symbol_or, name_term, named_term, answer_or, answer_term, model_of_sort, model_of, formula, number, ordered, is_ordering, ordered_at, compared, connected, quantifier_of, chosen, SortedTerms, no_parts, and_part, has_lifetimes, part_by, parted, selected, elaborated_under, elaborated_parts}
use Rattle.logic_elab.specs.Scope.{Scope}
use Rattle.logic_elab.specs.Sorts.{same_ty, is_math_int, is_bool}
use Rattle.type_parts.specs.Laws.{IsPart}
use Rattle.type_parts.specs.Parts.{field_of, is_boxed, part_if, part_number}
use Rattle.type_parts.proofs.Found.{found_parts}
use Rattle.logic_elab.proofs.Accepted.{bound, held, unless, refused, yes, same_ok}
use Rattle.logic_elab.proofs.SameSorts.{equal_types}

-- P holds of each term, at the sort at its place
abbrev pub Each : (Ty → Term → Type 0) → Tys → Terms → Type 0
Each P no_tys no_terms = Unit {0}
Each P (and_ty s ss) (and_terms t ts) = P s t × Each P ss ts
Each P ss ts = ⊥

-- under these bound names, P, of a sort and a term, holds of variables and literals, and each form without binders keeps it
pub record IsKept (P : Ty → Term → Type 0) (Γ : Scope) (bs : List Symbol) : Type 0 where
  pub variables : (x : Name) (a : Symbol) → meant_under x bs (Γ.variable x) ≡ Some a → P a.sort (var a.name)
  pub answer : (x : Name) (a : Symbol) → meant_under x bs (answer_or Γ.answer (Γ.variable x)) ≡ Some a → P a.sort (var a.name)
  pub integers : (z : ℤ) → P math_int (lit z math_int)
  pub machine_integers : (z : ℤ) (k : IntKind) → fits k z ≡ true → P (int k) (lit z (int k))
  pub truths : (b : Bool) → P bool (truth_term b)
  pub models : (k : IntKind) (t : Term) → P (int k) t → P math_int (model t)
  pub negatives : (t : Term) → P math_int t → P math_int (negative_term t)
  pub denials : (t : Term) → P bool t → P bool (not_term t)
  pub operations : (op : ArithOp) (t u : Term) → P math_int t → P math_int u → P math_int (calculate op t u)
  pub lesses : (t u : Term) → P math_int t → P math_int u → P bool (is_less t u)
  pub at_mosts : (t u : Term) → P math_int t → P math_int u → P bool (is_at_most t u)
  pub equations : (s : Ty) (t u : Term) → P s t → P s u → P bool (is_equal t u)
  pub conjunctions : (t u : Term) → P bool t → P bool u → P bool (and_term t u)
  pub disjunctions : (t u : Term) → P bool t → P bool u → P bool (or_term t u)
  pub implications : (t u : Term) → P bool t → P bool u → P bool (implies_term t u)
  pub choices : (s : Ty) (c t u : Term) → P bool c → P s t → P s u → P s (if_else c t u)
  pub tuples : (ss : Tys) (ts : Terms) → Each P ss ts → P (tuple ss) (apply (made Tuple) ts)
  pub parts : (r : Ty) (n : ℕ) (s : Ty) (t : Term) → FieldSort (record { adts = Γ.types }) r n s → P r t → P s (part_term n t)

bool_sort : (t : Ty) → is_bool t ≡ true → t ≡ bool
bool_sort bool e = refl
bool_sort t e = absurd (cc)

int_sort : (t : Ty) → is_math_int t ≡ true → t ≡ math_int
int_sort math_int e = refl
int_sort t e = absurd (cc)

module _ (P : Ty → Term → Type 0) (Γ : Scope) (bs : List Symbol) (kept : IsKept P Γ bs) where
  abbrev Of : SortedTerm → Type 0
  Of a = P a.sort a.term

  given : (s : Ty) (t : Term) (a : SortedTerm) → P s t → yes (sorted s t) ≡ Ok a → Of a
  given s t a h p = subst Of (same_ok _ _ p) h

  -- ---- names and literals

  variable_holds : (s : Span) (o : Option Symbol) (a : SortedTerm) → ((x : Symbol) → o ≡ Some x → P x.sort (var x.name)) → symbol_or s o ≡ Ok a → Of a
  variable_holds s None a h p = absurd (cc)
  variable_holds s (Some x) a h p = given x.sort (var x.name) a (h x refl) p

  name_holds : (s : Span) (x : Name) (a : SortedTerm) → name_term Γ bs s x ≡ Ok a → Of a
  name_holds s x a p = variable_holds s (meant_under x bs (Γ.variable x)) a (kept.variables x) p

  named_holds : (s : Span) (o : Option Segment) (a : SortedTerm) → named_term Γ bs s o ≡ Ok a → Of a
  named_holds s None a p = absurd (cc)
  named_holds s (Some x) a p = name_holds s x.name a p

  answer_holds : (s : Span) (x : Name) (a : SortedTerm) → answer_term Γ bs s x ≡ Ok a → Of a
  answer_holds s x a p = variable_holds s (meant_under x bs (answer_or Γ.answer (Γ.variable x))) a (kept.answer x) p

  literal_holds : (s : Span) (z : ℤ) (k : Option IntKind) (a : SortedTerm) → literal s z k ≡ Ok a → Of a
  unfolding literal
  literal_holds s z None a p = given math_int (lit z math_int) a (kept.integers z) p
  literal_holds s z (Some k) a p =
      let c = held (fits k z) (Ok (sorted (int k) (lit z (int k)))) (mismatch s) a p in
      given (int k) (lit z (int k)) a (kept.machine_integers z k c.0) c.1

  -- ---- operators

  model_at_holds : (u : Ty) (s : Span) (t : Term) (a : SortedTerm) → P u t → model_of_sort u s t ≡ Ok a → Of a
  model_at_holds (int k) s t a h p = given math_int (model t) a (kept.models k t h) p
  model_at_holds u s t a h p = absurd (cc)

  model_holds : (s : Span) (a r : SortedTerm) → Of a → model_of s a ≡ Ok r → Of r
  unfolding model_of
  model_holds s a r h p = model_at_holds a.sort s a.term r h p

  formula_holds : (s : Span) (a : SortedTerm) (t : Term) → Of a → formula s a ≡ Ok t → P bool t
  unfolding formula
  formula_holds s a t h p =
      let c = held (is_bool a.sort) (Ok a.term) (mismatch s) t p in
      subst (P bool) (same_ok _ _ c.1) (subst (λ u. P u a.term) (bool_sort a.sort c.0) h)

  number_holds : (s : Span) (a : SortedTerm) (t : Term) → Of a → number s a ≡ Ok t → P math_int t
  unfolding number
  number_holds s a t h p =
      let c = held (is_math_int a.sort) (Ok a.term) (mismatch s) t p in
      subst (P math_int) (same_ok _ _ c.1) (subst (λ u. P u a.term) (int_sort a.sort c.0) h)

  ordered_holds : (op : Comparison) (t u : Term) → P math_int t → P math_int u → P bool (ordered op t u)
  ordered_holds Lt t u h k = kept.lesses t u h k
  ordered_holds Le t u h k = kept.at_mosts t u h k
  ordered_holds Gt t u h k = kept.lesses u t k h
  ordered_holds Ge t u h k = kept.at_mosts u t k h
  ordered_holds Eq t u h k = kept.equations math_int t u h k
  ordered_holds Ne t u h k = kept.denials (is_equal t u) (kept.equations math_int t u h k)

  ordered_at_holds : (v : Ty) (op : Comparison) (s : Span) (t u : Term) (r : SortedTerm) → P v t → P v u → ordered_at v op s t u ≡ Ok r → Of r
  ordered_at_holds math_int op s t u r h k p = given bool (ordered op t u) r (ordered_holds op t u h k) p
  ordered_at_holds (int j) op s t u r h k p = given bool (ordered op (model t) (model u)) r (ordered_holds op (model t) (model u) (kept.models j t h) (kept.models j u k)) p
  ordered_at_holds v op s t u r h k p = absurd (cc)

  -- a comparison that is no ordering
  equal_holds : (v : Ty) (op : Comparison) (t u : Term) → is_ordering op ≡ false → P v t → P v u → P bool (ordered op t u)
  equal_holds v Eq t u e h k = kept.equations v t u h k
  equal_holds v Ne t u e h k = kept.denials (is_equal t u) (kept.equations v t u h k)
  equal_holds v op t u e h k = absurd (cc)

  compared_at : (b : Bool) (op : Comparison) (s : Span) (v : Ty) (t u : Term) (r : SortedTerm) → is_ordering op ≡ b → P v t → P v u → (if b then ordered_at v op s t u else Ok (sorted bool (ordered op t u))) ≡ Ok r → Of r
  compared_at true op s v t u r e h k p = ordered_at_holds v op s t u r h k p
  compared_at false op s v t u r e h k p = given bool (ordered op t u) r (equal_holds v op t u e h k) p

  compared_holds : (op : Comparison) (s s' : Span) (a c r : SortedTerm) → Of a → Of c → compared op s s' a c ≡ Ok r → Of r
  unfolding compared
  compared_holds op s s' a c r h k p =
      let q = held (same_ty c.sort a.sort) (if is_ordering op then ordered_at a.sort op s a.term c.term else Ok (sorted bool (ordered op a.term c.term))) (mismatch s') r p in
      compared_at (is_ordering op) op s a.sort a.term c.term r refl h (subst (λ u. P u c.term) (equal_types c.sort a.sort q.0) k) q.1

  -- an `if` of two sides of one sort
  chosen_holds : (s : Span) (c : Term) (a b r : SortedTerm) → P bool c → Of a → Of b → chosen s c a b ≡ Ok r → Of r
  unfolding chosen
  chosen_holds s c a b r f h k p =
      let q = held (same_ty b.sort a.sort) (Ok (sorted a.sort (if_else c a.term b.term))) (mismatch s) r p in
      given a.sort (if_else c a.term b.term) r (kept.choices a.sort c a.term b.term f h (subst (λ u. P u b.term) (equal_types b.sort a.sort q.0) k)) q.1

  -- ---- tuples, parts and fields

  part_by_holds : (s s' : Span) (a : SortedTerm) (o : Option (ℕ × Ty)) (r : SortedTerm) → Of a → IsPart Γ.types a.sort o → part_by s s' a o ≡ Ok r → Of r
  part_by_holds s s' a None r h i p = absurd (refused (is_boxed a.sort) (unbuilt s) (unknown_name s') r p)
  part_by_holds s s' a (Some q) r h i p =
      given q.1 (part_term q.0 a.term) r (kept.parts a.sort q.0 q.1 a.term i h) (unless (has_lifetimes a.sort) (Ok (sorted q.1 (part_term q.0 a.term))) (unbuilt s) r p)

  part_holds : (s : Span) (k : Number) (a r : SortedTerm) → Of a → parted Γ.types s k a ≡ Ok r → Of r
  unfolding parted
  part_holds s k a r h p = part_by_holds s k.span a (part_if Γ.types a.sort (part_number k)) r h ((found_parts Γ.types a.sort).1 (part_number k)) p

  field_holds : (s : Span) (x : Segment) (a r : SortedTerm) → Of a → selected Γ.types s x a ≡ Ok r → Of r
  unfolding selected
  field_holds s x a r h p = part_by_holds s x.span a (field_of Γ.types x.name a.sort) r h ((found_parts Γ.types a.sort).0 x.name) p

  abbrev AllOf : SortedTerms → Type 0
  AllOf ps = Each P ps.sorts ps.terms

  given_parts : (ps rs : SortedTerms) → AllOf ps → yes ps ≡ Ok rs → AllOf rs
  given_parts ps rs h p = subst AllOf (same_ok _ _ p) h

  -- a connective of two formulas
  connected_holds : (op : Term → Term → Term) (m n : Result Term SourceError) (r : SortedTerm) → ((t u : Term) → P bool t → P bool u → P bool (op t u))
      → ((u : Term) → m ≡ Ok u → P bool u) → ((u : Term) → n ≡ Ok u → P bool u) → (pair m n >>= connected op) ≡ Ok r → Of r
  connected_holds op (Ok t) (Ok u) r f h k p = given bool (op t u) r (f t u (h t refl) (k u refl)) p
  connected_holds op (Ok t) (Err e) r f h k p = absurd (cc)
  connected_holds op (Err e) n r f h k p = absurd (cc)

  asserted_by : (t : Pterm) (m : Result SortedTerm SourceError) (u : Term) → ((a : SortedTerm) → m ≡ Ok a → Of a) → (m >>= formula (span_of t)) ≡ Ok u → P bool u
  asserted_by t m u h p =
      let a = bound m (formula (span_of t)) u p in
      formula_holds (span_of t) a.0 u (h a.0 a.1) a.2

-- ---- binders

-- what is kept by each binder is kept by all of a quantifier
module _ (P : List Symbol → Ty → Term → Type 0) (q : Quantifier) (binds : (bs : List Symbol) (b : Symbol) (t : Term) → P (b ∷ bs) bool t → P bs bool (bind q b.name b.sort t)) where
  bound_all_holds : (bs xs : List Symbol) (t : Term) → P (inside bs xs) bool t → P bs bool (bound_all q xs t)
  bound_all_holds bs [] t h = h
  bound_all_holds bs (x ∷ xs) t h = binds bs x (bound_all q xs t) (bound_all_holds (x ∷ bs) xs t h)

-- ---- terms

module _ (P : List Symbol → Ty → Term → Type 0) (Γ : Scope) (kept : (bs : List Symbol) → IsKept (P bs) Γ bs)
    (binds : (q : Quantifier) (bs : List Symbol) (b : Symbol) (t : Term) → P (b ∷ bs) bool t → P bs bool (bind q b.name b.sort t)) where
  mutual
    pub holds_of_each : (bs : List Symbol) (t : Pterm) (r : SortedTerm) → elaborated_under Γ bs t ≡ Ok r → P bs r.sort r.term
    holds_of_each bs (T.integer s z k) r p = literal_holds (P bs) Γ bs (kept bs) s z k r p
    holds_of_each bs (T.truth s b) r p = given (P bs) Γ bs (kept bs) bool (truth_term b) r ((kept bs).truths b) p
    holds_of_each bs (T.answer s x) r p = answer_holds (P bs) Γ bs (kept bs) s x r p
    holds_of_each bs (T.path s w) r p = named_holds (P bs) Γ bs (kept bs) s (name_alone w.node) r p
    holds_of_each bs (T.unary s View t) r p =
        let a = bound (elaborated_under Γ bs t) _ r p in
        model_holds (P bs) Γ bs (kept bs) (span_of t) a.0 r (holds_of_each bs t a.0 a.1) a.2
    holds_of_each bs (T.unary s Neg t) r p =
        let a = bound (elaborated_under Γ bs t) _ r p in
        let x = bound (number (span_of t) a.0) _ r a.2 in
        given (P bs) Γ bs (kept bs) math_int (negative_term x.0) r ((kept bs).negatives x.0 (number_holds (P bs) Γ bs (kept bs) (span_of t) a.0 x.0 (holds_of_each bs t a.0 a.1) x.1)) x.2
    holds_of_each bs (T.unary s Not t) r p =
        let a = bound (elaborated_under Γ bs t) _ r p in
        let x = bound (formula (span_of t) a.0) _ r a.2 in
        given (P bs) Γ bs (kept bs) bool (not_term x.0) r ((kept bs).denials x.0 (formula_holds (P bs) Γ bs (kept bs) (span_of t) a.0 x.0 (holds_of_each bs t a.0 a.1) x.1)) x.2
    holds_of_each bs (T.binary s (Calculate op) t u) r p =
        let a = bound (elaborated_under Γ bs t) _ r p in
        let b = bound (elaborated_under Γ bs u) _ r a.2 in
        let x = bound (number (span_of t) a.0) _ r b.2 in
        let y = bound (number (span_of u) b.0) _ r x.2 in
        given (P bs) Γ bs (kept bs) math_int (calculate op x.0 y.0) r
        ((kept bs).operations op x.0 y.0 (number_holds (P bs) Γ bs (kept bs) (span_of t) a.0 x.0 (holds_of_each bs t a.0 a.1) x.1) (number_holds (P bs) Γ bs (kept bs) (span_of u) b.0 y.0 (holds_of_each bs u b.0 b.1) y.1)) y.2
    holds_of_each bs (T.binary s (Compare op) t u) r p =
        let a = bound (elaborated_under Γ bs t) _ r p in
        let b = bound (elaborated_under Γ bs u) _ r a.2 in
        compared_holds (P bs) Γ bs (kept bs) op (span_of t) (span_of u) a.0 b.0 r (holds_of_each bs t a.0 a.1) (holds_of_each bs u b.0 b.1) b.2
    holds_of_each bs (T.binary s And t u) r p =
        connected_holds (P bs) Γ bs (kept bs) and_term (elaborated_under Γ bs t >>= formula (span_of t)) (elaborated_under Γ bs u >>= formula (span_of u)) r (kept bs).conjunctions
        (λ v q. asserted_by (P bs) Γ bs (kept bs) t (elaborated_under Γ bs t) v (λ a h. holds_of_each bs t a h) q) (λ v q. asserted_by (P bs) Γ bs (kept bs) u (elaborated_under Γ bs u) v (λ a h. holds_of_each bs u a h) q) p
    holds_of_each bs (T.binary s Or t u) r p =
        connected_holds (P bs) Γ bs (kept bs) or_term (elaborated_under Γ bs t >>= formula (span_of t)) (elaborated_under Γ bs u >>= formula (span_of u)) r (kept bs).disjunctions
        (λ v q. asserted_by (P bs) Γ bs (kept bs) t (elaborated_under Γ bs t) v (λ a h. holds_of_each bs t a h) q) (λ v q. asserted_by (P bs) Γ bs (kept bs) u (elaborated_under Γ bs u) v (λ a h. holds_of_each bs u a h) q) p
    holds_of_each bs (T.binary s Implies t u) r p =
        connected_holds (P bs) Γ bs (kept bs) implies_term (elaborated_under Γ bs t >>= formula (span_of t)) (elaborated_under Γ bs u >>= formula (span_of u)) r (kept bs).implications
        (λ v q. asserted_by (P bs) Γ bs (kept bs) t (elaborated_under Γ bs t) v (λ a h. holds_of_each bs t a h) q) (λ v q. asserted_by (P bs) Γ bs (kept bs) u (elaborated_under Γ bs u) v (λ a h. holds_of_each bs u a h) q) p
    holds_of_each bs (T.choice s c t u) r p =
        let a = bound (elaborated_under Γ bs c) _ r p in
        let f = bound (formula (span_of c) a.0) _ r a.2 in
        let x = bound (elaborated_under Γ bs t) _ r f.2 in
        let y = bound (elaborated_under Γ bs u) _ r x.2 in
        chosen_holds (P bs) Γ bs (kept bs) (span_of u) f.0 x.0 y.0 r (formula_holds (P bs) Γ bs (kept bs) (span_of c) a.0 f.0 (holds_of_each bs c a.0 a.1) f.1) (holds_of_each bs t x.0 x.1) (holds_of_each bs u y.0 y.1) y.2
    holds_of_each bs (T.quantified s q xs t) r p =
        let ys = bound (symbols_of Γ.types xs) _ r p in
        let a = bound (elaborated_under Γ (inside bs ys.0) t) _ r ys.2 in
        let f = bound (formula (span_of t) a.0) _ r a.2 in
        let under = inside bs ys.0 in
        given (P bs) Γ bs (kept bs) bool (bound_all (quantifier_of q) ys.0 f.0) r
        (bound_all_holds P (quantifier_of q) (binds (quantifier_of q)) bs ys.0 f.0 (formula_holds (P under) Γ under (kept under) (span_of t) a.0 f.0 (holds_of_each under t a.0 a.1) f.1)) f.2
    holds_of_each bs (T.tuple s ts) r p =
        let ps = bound (elaborated_parts Γ bs ts) _ r p in
        given (P bs) Γ bs (kept bs) (tuple ps.0.sorts) (apply (made Tuple) ps.0.terms) r ((kept bs).tuples ps.0.sorts ps.0.terms (parts_hold bs ts ps.0 ps.1)) ps.2
    holds_of_each bs (T.part s t k) r p =
        let a = bound (elaborated_under Γ bs t) _ r p in
        part_holds (P bs) Γ bs (kept bs) s k a.0 r (holds_of_each bs t a.0 a.1) a.2
    holds_of_each bs (T.field s t x) r p =
        let a = bound (elaborated_under Γ bs t) _ r p in
        field_holds (P bs) Γ bs (kept bs) s x a.0 r (holds_of_each bs t a.0 a.1) a.2
    holds_of_each bs t r p = absurd (cc)

    parts_hold : (bs : List Symbol) (ts : T.Terms) (ps : SortedTerms) → elaborated_parts Γ bs ts ≡ Ok ps → Each (P bs) ps.sorts ps.terms
    parts_hold bs T.none ps p = given_parts (P bs) Γ bs (kept bs) no_parts ps tt p
    parts_hold bs (T.more t ts) ps p =
        let a = bound (elaborated_under Γ bs t) _ ps p in
        let qs = bound (elaborated_parts Γ bs ts) _ ps a.2 in
        given_parts (P bs) Γ bs (kept bs) (and_part a.0 qs.0) ps (holds_of_each bs t a.0 a.1, parts_hold bs ts qs.0 qs.1) qs.2
