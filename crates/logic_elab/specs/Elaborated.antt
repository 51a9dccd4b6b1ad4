-- The terms that the terms of contracts become, with their sorts (Pearlite, Creusot). Literals without suffix and all
-- arithmetic are of the unbounded integers. A term stands in a scope, under what quantifiers around it bind. Parts and fields are those of types (Rust
-- Reference, "Tuple indexing expressions", "Field access expressions").
use Rattle.std.specs.Prelude.{ℕ, ℤ, Bool, true, false, List, [], ◌∷◌, Option, Some, None, Result, Ok, Err, if◌then◌else◌}
use Rattle.text_core.specs.declared.name.Name.{Name}
use Rattle.text_core.specs.declared.refusal.SourceError.{SourceError}
use Rattle.text_core.specs.declared.span.Span.{Span}
use Rattle.source_kinds.specs.declared.kinds.IntKind.{IntKind}
use Rattle.source_kinds.specs.Range.{fits}
use Rattle.logic_term.specs.declared.declaration.AdtDecl.{AdtDecl}
use Rattle.logic_term.specs.declared.kinds.Ctor.TheVariants.{Tuple}
use Rattle.logic_term.specs.Term.{Term, Terms, apply, made, no_terms, and_term as and_terms, part as part_term, var, lit, truth as truth_term, model, negative as negative_term, not as not_term, calculate, is_less, is_at_most, is_equal, and as and_term, or as or_term, implies as implies_term, Quantifier, every, some, if_else}
use Rattle.logic_term.specs.Ty.{Ty, Tys, int, bool, math_int, tuple, adt, no_tys, and_ty}
use Rattle.source_kinds.specs.declared.kinds.Comparison.{Comparison}
use Rattle.source_kinds.specs.declared.kinds.Comparison.TheVariants.{Eq, Ne, Lt, Le, Gt, Ge}
use Rattle.source_trees.specs.declared.operator.BinaryTerm.TheVariants.{Implies, Or, And, Compare, Calculate}
use Rattle.source_trees.specs.declared.operator.Quantifier.{Quantifier as Word}
use Rattle.source_trees.specs.declared.operator.Quantifier.TheVariants.{Forall, Exists}
use Rattle.source_trees.specs.declared.operator.UnaryTerm.TheVariants.{Neg, Not, View}
use Rattle.source_trees.specs.declared.path.Number.{Number}
use Rattle.source_trees.specs.declared.path.Segment.{Segment}
use Rattle.source_trees.specs.Pterm as T
use Rattle.source_trees.specs.Pterm.{Pterm}
use Rattle.source_trees.specs.PtermView.{span_of}
use Rattle.type_parts.specs.Parts.{field_of, is_boxed, part_if, part_number}
use Rattle.logic_elab.specs.declared.sorted.SortedTerm.{SortedTerm}
use Rattle.logic_elab.specs.Answers.{◌>>=◌, unknown_name, mismatch, unbuilt, wanted, pair}
use Rattle.logic_elab.specs.Binders.{meant_under, inside, symbols_of, bound_all}
use Rattle.logic_elab.specs.Scope.{Scope}
use Rattle.logic_elab.specs.Sorts.{same_ty, is_math_int, is_bool}
use Rattle.logic_elab.specs.declared.scope.Symbol.{Symbol}
use Rattle.source_trees.specs.declared.path.PathNode.{PathNode}
use Rattle.source_trees.specs.declared.path.PathNode.TheVariants.{Names}

abbrev pub sorted : Ty → Term → SortedTerm
sorted s t = record { sort = s; term = t }

unfoldable pub literal : Span → ℤ → Option IntKind → Result SortedTerm SourceError
literal s z None = Ok (sorted math_int (lit z math_int))
literal s z (Some k) = wanted (fits k z) s (sorted (int k) (lit z (int k)))

-- a path that is a name alone
unfoldable pub name_alone : PathNode → Option Segment
name_alone (Names first [] []) = Some first
name_alone _ = None

abbrev pub symbol_term : Symbol → SortedTerm
symbol_term x = sorted x.sort (var x.name)

abbrev pub symbol_or : Span → Option Symbol → Result SortedTerm SourceError
symbol_or s None = Err (unknown_name s)
symbol_or s (Some x) = Ok (symbol_term x)

abbrev pub name_term : Scope → List Symbol → Span → Name → Result SortedTerm SourceError
name_term Γ bs s x = symbol_or s (meant_under x bs (Γ.variable x))

abbrev pub named_term : Scope → List Symbol → Span → Option Segment → Result SortedTerm SourceError
named_term Γ bs s None = Err (unbuilt s)
named_term Γ bs s (Some x) = name_term Γ bs s x.name

-- `result` outside of all binders, by its name: the answer, where it is spoken of; else a variable as each other name
abbrev pub answer_or : Option Symbol → Option Symbol → Option Symbol
answer_or None o = o
answer_or (Some a) o = Some a

-- a binder of this name hides the answer, too
abbrev pub answer_term : Scope → List Symbol → Span → Name → Result SortedTerm SourceError
answer_term Γ bs s x = symbol_or s (meant_under x bs (answer_or Γ.answer (Γ.variable x)))

-- the unbounded integer of a machine integer
abbrev pub model_of_sort : Ty → Span → Term → Result SortedTerm SourceError
model_of_sort (int k) s t = Ok (sorted math_int (model t))
model_of_sort _ s t = Err (mismatch s)

unfoldable pub model_of : Span → SortedTerm → Result SortedTerm SourceError
model_of s a = model_of_sort a.sort s a.term

-- a term that has to be a formula, of an unbounded integer
unfoldable pub formula : Span → SortedTerm → Result Term SourceError
formula s a = wanted (is_bool a.sort) s a.term

unfoldable pub number : Span → SortedTerm → Result Term SourceError
number s a = wanted (is_math_int a.sort) s a.term

abbrev pub ordered : Comparison → Term → Term → Term
ordered Lt t u = is_less t u
ordered Le t u = is_at_most t u
ordered Gt t u = is_less u t
ordered Ge t u = is_at_most u t
ordered Eq t u = is_equal t u
ordered Ne t u = not_term (is_equal t u)

abbrev pub is_ordering : Comparison → Bool
is_ordering Eq = false
is_ordering Ne = false
is_ordering _ = true

-- integers of one sort, by their unbounded integers
abbrev pub ordered_at : Ty → Comparison → Span → Term → Term → Result SortedTerm SourceError
ordered_at math_int op s t u = Ok (sorted bool (ordered op t u))
ordered_at (int k) op s t u = Ok (sorted bool (ordered op (model t) (model u)))
ordered_at _ op s t u = Err (mismatch s)

-- the spans are those of the two terms
unfoldable pub compared : Comparison → Span → Span → SortedTerm → SortedTerm → Result SortedTerm SourceError
compared op s r a b =
    if same_ty b.sort a.sort then
    (if is_ordering op then ordered_at a.sort op s a.term b.term else Ok (sorted bool (ordered op a.term b.term)))
    else Err (mismatch r)

abbrev pub connected : (Term → Term → Term) → Term × Term → Result SortedTerm SourceError
connected op p = Ok (sorted bool (op p.0 p.1))

abbrev pub quantifier_of : Word → Quantifier
quantifier_of Forall = every
quantifier_of Exists = some

-- `if` of a condition and two sides of one sort; the span is that of the second
unfoldable pub chosen : Span → Term → SortedTerm → SortedTerm → Result SortedTerm SourceError
chosen s p a b = wanted (same_ty b.sort a.sort) s (sorted a.sort (if_else p a.term b.term))

-- ---- tuples

-- the sorts and the terms of parts
pub record SortedTerms : Type 0 where
  pub sorts : Tys
  pub terms : Terms

abbrev pub no_parts : SortedTerms
no_parts = record { sorts = no_tys; terms = no_terms }

abbrev pub and_part : SortedTerm → SortedTerms → SortedTerms
and_part a ps = record { sorts = and_ty a.sort ps.sorts; terms = and_terms a.term ps.terms }

abbrev pub tuple_term : SortedTerms → SortedTerm
tuple_term ps = sorted (tuple ps.sorts) (apply (made Tuple) ps.terms)

-- ---- parts and fields

-- a declared type at lifetimes
abbrev pub has_lifetimes : Ty → Bool
has_lifetimes (adt d (r ∷ rs) ts) = true
has_lifetimes _ = false

-- the part that is found; so far nothing is looked for behind a box, nor taken of a type with lifetimes. The spans are those of the whole, and of the name or number
abbrev pub part_by : Span → Span → SortedTerm → Option (ℕ × Ty) → Result SortedTerm SourceError
part_by s r a None = if is_boxed a.sort then Err (unbuilt s) else Err (unknown_name r)
part_by s r a (Some p) = if has_lifetimes a.sort then Err (unbuilt s) else Ok (sorted p.1 (part_term p.0 a.term))

-- the span is that of the whole
unfoldable pub parted : List AdtDecl → Span → Number → SortedTerm → Result SortedTerm SourceError
parted ds s k a = part_by s k.span a (part_if ds a.sort (part_number k))

unfoldable pub selected : List AdtDecl → Span → Segment → SortedTerm → Result SortedTerm SourceError
selected ds s x a = part_by s x.span a (field_of ds x.name a.sort)

-- ---- terms

abbrev mutual
  -- the term over what its names mean; what has no row is not built
  pub elaborated_under : Scope → List Symbol → Pterm → Result SortedTerm SourceError
  elaborated_under Γ bs (T.integer s z k) = literal s z k
  elaborated_under Γ bs (T.truth s b) = Ok (sorted bool (truth_term b))
  elaborated_under Γ bs (T.answer s x) = answer_term Γ bs s x
  elaborated_under Γ bs (T.path s p) = named_term Γ bs s (name_alone p.node)
  elaborated_under Γ bs (T.unary s View t) = do
    a ← elaborated_under Γ bs t
    model_of (span_of t) a
  elaborated_under Γ bs (T.unary s Neg t) = do
    a ← elaborated_under Γ bs t
    x ← number (span_of t) a
    Ok (sorted math_int (negative_term x))
  elaborated_under Γ bs (T.unary s Not t) = do
    a ← elaborated_under Γ bs t
    p ← formula (span_of t) a
    Ok (sorted bool (not_term p))
  elaborated_under Γ bs (T.binary s (Calculate op) t u) = do
    a ← elaborated_under Γ bs t
    b ← elaborated_under Γ bs u
    x ← number (span_of t) a
    y ← number (span_of u) b
    Ok (sorted math_int (calculate op x y))
  elaborated_under Γ bs (T.binary s (Compare op) t u) = do
    a ← elaborated_under Γ bs t
    b ← elaborated_under Γ bs u
    compared op (span_of t) (span_of u) a b
  elaborated_under Γ bs (T.binary s And t u) = pair (elaborated_under Γ bs t >>= formula (span_of t)) (elaborated_under Γ bs u >>= formula (span_of u)) >>= connected and_term
  elaborated_under Γ bs (T.binary s Or t u) = pair (elaborated_under Γ bs t >>= formula (span_of t)) (elaborated_under Γ bs u >>= formula (span_of u)) >>= connected or_term
  elaborated_under Γ bs (T.binary s Implies t u) = pair (elaborated_under Γ bs t >>= formula (span_of t)) (elaborated_under Γ bs u >>= formula (span_of u)) >>= connected implies_term
  elaborated_under Γ bs (T.choice s c t u) = do
    a ← elaborated_under Γ bs c
    p ← formula (span_of c) a
    x ← elaborated_under Γ bs t
    y ← elaborated_under Γ bs u
    chosen (span_of u) p x y
  elaborated_under Γ bs (T.quantified s q xs t) = do
    ys ← symbols_of Γ.types xs
    a ← elaborated_under Γ (inside bs ys) t
    p ← formula (span_of t) a
    Ok (sorted bool (bound_all (quantifier_of q) ys p))
  elaborated_under Γ bs (T.tuple s ts) = do
    ps ← elaborated_parts Γ bs ts
    Ok (tuple_term ps)
  elaborated_under Γ bs (T.part s t k) = do
    a ← elaborated_under Γ bs t
    parted Γ.types s k a
  elaborated_under Γ bs (T.field s t x) = do
    a ← elaborated_under Γ bs t
    selected Γ.types s x a
  elaborated_under Γ bs t = Err (unbuilt (span_of t))

  pub elaborated_parts : Scope → List Symbol → T.Terms → Result SortedTerms SourceError
  elaborated_parts Γ bs T.none = Ok no_parts
  elaborated_parts Γ bs (T.more t ts) = do
    a ← elaborated_under Γ bs t
    ps ← elaborated_parts Γ bs ts
    Ok (and_part a ps)

-- the term where no quantifier stands around it
abbrev pub elaborated : Scope → Pterm → Result SortedTerm SourceError
elaborated Γ t = elaborated_under Γ [] t

-- a term that is a formula
abbrev pub asserted_under : Scope → List Symbol → Pterm → Result Term SourceError
asserted_under Γ bs t = elaborated_under Γ bs t >>= formula (span_of t)

abbrev pub asserted : Scope → Pterm → Result Term SourceError
asserted Γ t = elaborated Γ t >>= formula (span_of t)
