-- The fields of a literal, one after another.
use Rattle.std.proofs.Common.{◌≡◌, ◌∙◌, ℕ, zero, suc, ◌+◌, ◌<◌, ◌≤◌, List, [], ◌∷◌, ◌++◌, length, get_or, drop, refl, ap, sym, add-one, drop-cons, Some, Result, Ok, Err, arith}
use Rattle.text_core.specs.declared.fault.PassError.{PassError}
use Rattle.text_core.specs.declared.refusal.SourceError.{SourceError}
use Rattle.text_core.specs.declared.span.Span.{Span}
use Rattle.logic_term.specs.declared.declaration.FieldDecl.{FieldDecl}
use Rattle.logic_term.specs.Ty.{Ty}
use Rattle.source_trees.specs.declared.expr.FieldExpr.{FieldExpr}
use Rattle.source_trees.specs.Expr.{FieldExprs, with_field}
use Rattle.source_trees.specs.ExprView.{expr_size, field_exprs_of, field_exprs_size}
use Rattle.type_check.specs.declared.scope.Variable.{Variable}
use Rattle.type_check.specs.Answers.{◌>>=◌, Refuses, mismatch}
use Rattle.type_check.specs.Setting.{Setting}
use Rattle.type_check.specs.TypedExpr.{TypedExpr, TypedExprs}
use Rattle.type_check.specs.TypedExpr as tree
use Rattle.type_check.specs.TypedExprView.{exprs_of}
use Rattle.type_check.specs.Makers.{Maker}
use Rattle.type_check.specs.Typing.{fields_behind, next_field, no_field_left, typed, typed_fields}
use Rattle.type_check.proofs.Arguments.{and_args, nothing_yet, one, one_more, onto_end}
use Rattle.type_check.proofs.PartByPart.{along, refuses_then}

-- what is left, after these parts
abbrev pub continued : Setting → List Variable → Span → Maker → List FieldExpr → ℕ → List TypedExpr → Result TypedExprs SourceError
continued σ Γ s m fs i vs = typed_fields σ Γ s m (drop i m.fields) (field_exprs_of (drop i fs)) >>= and_args vs

behind_at : (fs : List FieldDecl) (i : ℕ) → fields_behind (drop i fs) ≡ drop (suc i) fs
behind_at [] zero = refl
behind_at [] (suc i) = refl
behind_at (f ∷ fs) zero = refl
behind_at (f ∷ fs) (suc i) = behind_at fs i

fields_at : (fs : List FieldExpr) (i : ℕ) (f : FieldExpr) → f ≡ get_or fs i f → i < length fs → field_exprs_of (drop i fs) ≡ with_field f.span f.name f.value (field_exprs_of (drop (suc i) fs))
fields_at fs i f q h = rw (drop-cons fs i f h) (ap (λ (x : FieldExpr). with_field x.span x.name x.value (field_exprs_of (drop (suc i) fs))) (sym q))

abbrev then_fields : Setting → List Variable → Span → Maker → List FieldDecl → FieldExprs → TypedExpr → Result TypedExprs SourceError
then_fields σ Γ s m left fs a = typed_fields σ Γ s m left fs >>= one a

-- the field of this name, and then the others
abbrev at_field : Setting → List Variable → Span → Maker → FieldExpr → List FieldDecl → FieldExprs → Ty → Result TypedExprs SourceError
at_field σ Γ s m f left fs u = typed σ Γ f.value (Some u) >>= then_fields σ Γ s m left fs

next : (σ : Setting) (Γ : List Variable) (s : Span) (m : Maker) (fs : List FieldExpr) (i : ℕ) (f : FieldExpr) → f ≡ get_or fs i f → i < length fs
    → typed_fields σ Γ s m (drop i m.fields) (field_exprs_of (drop i fs)) ≡ (next_field σ.types m (drop i m.fields) f.name >>= at_field σ Γ s m f (drop (suc i) m.fields) (field_exprs_of (drop (suc i) fs)))
next σ Γ s m fs i f q h =
    ap (λ x. typed_fields σ Γ s m (drop i m.fields) x) (fields_at fs i f q h)
    ∙ ap (λ left. next_field σ.types m (drop i m.fields) f.name >>= at_field σ Γ s m f left (field_exprs_of (drop (suc i) fs))) (behind_at m.fields i)

pub fields_start : (σ : Setting) (Γ : List Variable) (s : Span) (m : Maker) (fs : List FieldExpr) → typed_fields σ Γ s m m.fields (field_exprs_of fs) ≡ continued σ Γ s m fs 0 []
fields_start σ Γ s m fs = nothing_yet (typed_fields σ Γ s m m.fields (field_exprs_of fs))

module _ (σ : Setting) (Γ : List Variable) (s : Span) (m : Maker) (fs : List FieldExpr) (i : ℕ) (f : FieldExpr) (vs : List TypedExpr) (q : f ≡ get_or fs i f) (h : i < length fs)
    (r : typed_fields σ Γ s m m.fields (field_exprs_of fs) ≡ continued σ Γ s m fs i vs) where
  abbrev behind : Ty → Result TypedExprs SourceError
  behind = at_field σ Γ s m f (drop (suc i) m.fields) (field_exprs_of (drop (suc i) fs))

  -- the next field and its value are taken
  pub fields_more : (ws : List TypedExpr) (u : Ty) (v : TypedExpr) → next_field σ.types m (drop i m.fields) f.name ≡ Ok u → typed σ Γ f.value (Some u) ≡ Ok v → ws ≡ vs ++ v ∷ []
      → typed_fields σ Γ s m m.fields (field_exprs_of fs) ≡ continued σ Γ s m fs (i + 1) ws
  fields_more ws u v named p pushed =
      rw add-one
      (r
      ∙ ap (λ (n : Result TypedExprs SourceError). n >>= and_args vs) (next σ Γ s m fs i f q h)
      ∙ ap (λ (n : Result Ty SourceError). (n >>= behind) >>= and_args vs) named
      ∙ ap (λ (n : Result TypedExpr SourceError). (n >>= then_fields σ Γ s m (drop (suc i) m.fields) (field_exprs_of (drop (suc i) fs))) >>= and_args vs) p
      ∙ one_more vs v (typed_fields σ Γ s m (drop (suc i) m.fields) (field_exprs_of (drop (suc i) fs)))
      ∙ ap (continued σ Γ s m fs (suc i)) (sym pushed))

  -- the name is refused
  pub name_stops : (e : PassError) → Refuses e (next_field σ.types m (drop i m.fields) f.name) → Refuses e (typed_fields σ Γ s m m.fields (field_exprs_of fs))
  name_stops e p =
      along e _ _ r
      (refuses_then e _ (and_args vs)
      (along e _ _ (next σ Γ s m fs i f q h)
      (refuses_then e (next_field σ.types m (drop i m.fields) f.name) behind p)))

  -- the value is
  pub value_stops : (e : PassError) (u : Ty) → next_field σ.types m (drop i m.fields) f.name ≡ Ok u → Refuses e (typed σ Γ f.value (Some u)) → Refuses e (typed_fields σ Γ s m m.fields (field_exprs_of fs))
  value_stops e u named p =
      along e _ _ r
      (refuses_then e _ (and_args vs)
      (along e _ _ (next σ Γ s m fs i f q h ∙ ap (λ (n : Result Ty SourceError). n >>= behind) named)
      (refuses_then e (typed σ Γ f.value (Some u)) (then_fields σ Γ s m (drop (suc i) m.fields) (field_exprs_of (drop (suc i) fs))) p)))

drop_all : (fs : List FieldExpr) (n : ℕ) → n ≡ length fs → drop n fs ≡ []
drop_all [] n q = rw q refl
drop_all (f ∷ fs) n q = rw q (drop_all fs (length fs) refl)

at_end : (σ : Setting) (Γ : List Variable) (s : Span) (m : Maker) (fs : List FieldExpr) (n : ℕ) (vs : List TypedExpr) → n ≡ length fs → continued σ Γ s m fs n vs ≡ (no_field_left s (drop n m.fields) >>= and_args vs)
at_end σ Γ s m fs n vs q = ap (λ x. typed_fields σ Γ s m (drop n m.fields) (field_exprs_of x) >>= and_args vs) (drop_all fs n q)

-- behind the last field none may be missing
pub fields_end : (σ : Setting) (Γ : List Variable) (s : Span) (m : Maker) (fs : List FieldExpr) (n : ℕ) (vs : List TypedExpr) → n ≡ length fs → no_field_left s (drop n m.fields) ≡ Ok tree.none → continued σ Γ s m fs n vs ≡ Ok (exprs_of vs)
fields_end σ Γ s m fs n vs q p = at_end σ Γ s m fs n vs q ∙ ap (λ (r : Result TypedExprs SourceError). r >>= and_args vs) p ∙ ap Ok (onto_end vs)

pub end_stops : (e : PassError) (σ : Setting) (Γ : List Variable) (s : Span) (m : Maker) (fs : List FieldExpr) (n : ℕ) (vs : List TypedExpr) → n ≡ length fs
    → typed_fields σ Γ s m m.fields (field_exprs_of fs) ≡ continued σ Γ s m fs n vs → Refuses e (no_field_left s (drop n m.fields)) → Refuses e (typed_fields σ Γ s m m.fields (field_exprs_of fs))
end_stops e σ Γ s m fs n vs q r p = along e _ _ (r ∙ at_end σ Γ s m fs n vs q) (refuses_then e (no_field_left s (drop n m.fields)) (and_args vs) p)

-- a field is missing, and none is
pub some_left : (s : Span) (fs : List FieldDecl) (n : ℕ) → n < length fs → no_field_left s (drop n fs) ≡ Err (mismatch s)
some_left s [] n h = absurd (omega arith)
some_left s (f ∷ fs) zero h = refl
some_left s (f ∷ fs) (suc n) h = some_left s fs n (omega arith)

pub none_left : (s : Span) (fs : List FieldDecl) (n : ℕ) → length fs ≤ n → no_field_left s (drop n fs) ≡ Ok tree.none
none_left s [] zero h = refl
none_left s [] (suc n) h = refl
none_left s (f ∷ fs) zero h = absurd (omega arith)
none_left s (f ∷ fs) (suc n) h = none_left s fs n (omega arith)

-- ---- sizes

smaller : (fs : List FieldExpr) (i : ℕ) (d : FieldExpr) → i < length fs → expr_size (get_or fs i d).value < field_exprs_size (field_exprs_of fs)
smaller [] i d h = absurd (omega arith)
smaller (f ∷ fs) zero d h = omega arith
smaller (f ∷ fs) (suc i) d h = omega (arith, smaller fs i d (omega arith))

pub field_smaller : (fs : List FieldExpr) (i : ℕ) (f : FieldExpr) → f ≡ get_or fs i f → i < length fs → expr_size f.value < field_exprs_size (field_exprs_of fs)
field_smaller fs i f q h = let g : FieldExpr → ℕ = λ f. expr_size f.value in omega (arith, ap g q, smaller fs i f h)
