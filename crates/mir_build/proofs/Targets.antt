-- What an assignment writes and what is copied of a place, by what is at the root of its parts.
use Rattle.std.proofs.Common.{◌≡◌, refl, ap, sym, ◌∙◌, ℕ, ◌+◌, ◌≤◌, ◌<◌, true, false, List, [], ◌∷◌, ◌++◌, true≢false, arith}
use Rattle.logic_term.specs.Ty.{Ty}
use Rattle.text_core.specs.declared.span.Span.{Span}
use Rattle.mir_ir.specs.declared.place.Place.{Place}
use Rattle.mir_ir.specs.declared.statement.Rvalue.TheVariants.{Use}
use Rattle.type_check.specs.FirstBad.{bad_in}
use Rattle.type_check.specs.TypedExpr.{TypedExpr, variable, part}
use Rattle.type_check.specs.TypedExprView.{ty_of, span_of, typed_size}
use Rattle.runnable.specs.CopyDecided.{is_copied}
use Rattle.mir_build.specs.Taking.{taken}
use Rattle.mir_build.specs.Text.{Makes}
use Rattle.mir_build.specs.Lowering.{Around, part_place, is_place, puts}
use Rattle.mir_build.specs.Numbered.{place_of, temporary_count, text_before, labels, locals, into}
use Rattle.mir_build.specs.Reach.{reach}
use Rattle.mir_build.specs.Tasks.{root, is_part, is_variable, parts_of_place}

-- ---- the walk down the parts

pub no_part_root : (e : TypedExpr) → is_part e ≡ false → root e ≡ e
no_part_root (part ty s e n) h = absurd (true≢false h)
no_part_root e h = refl

pub root_of_part : (ty : Ty) (s : Span) (e x : TypedExpr) (n : ℕ) → x ≡ part ty s e n → root x ≡ root e
root_of_part ty s e x n q = ap root q

pub part_smaller : (ty : Ty) (s : Span) (e x : TypedExpr) (n : ℕ) → x ≡ part ty s e n → typed_size e < typed_size x
part_smaller ty s e x n q = omega (arith, ap typed_size q)

pub part_reaches : (ty : Ty) (s : Span) (e x : TypedExpr) (n : ℕ) → x ≡ part ty s e n → reach x ≡ reach e
part_reaches ty s e x n q = ap reach q

pub place_of_part : (scope : List Place) (t : ℕ) (ty : Ty) (s : Span) (e x : TypedExpr) (n : ℕ) → x ≡ part ty s e n → place_of scope t x ≡ part_place (place_of scope t e) n
place_of_part scope t ty s e x n q = ap (place_of scope t) q

-- one number more
pub one_part_more : (p : Place) (ns : List ℕ) (n : ℕ) → parts_of_place p (ns ++ n ∷ []) ≡ parts_of_place (part_place p n) ns
one_part_more p [] n = refl
one_part_more p (m ∷ ns) n = ap (λ q. part_place q m) (one_part_more p ns n)

-- ---- the root

pub root_labels : (e : TypedExpr) → labels (root e) ≡ labels e
root_labels (part ty s e n) = root_labels e
root_labels e = refl

pub root_reaches : (e : TypedExpr) → reach (root e) ≡ reach e
root_reaches (part ty s e n) = root_reaches e
root_reaches e = refl

pub root_good : (e : TypedExpr) → bad_in (root e) ≡ bad_in e
root_good (part ty s e n) = root_good e
root_good e = refl

pub root_size : (e : TypedExpr) → typed_size (root e) ≤ typed_size e
root_size (part ty s e n) = omega (arith, root_size e)
root_size e = omega arith

-- what names a place, and is no variable, is larger than its root
pub root_smaller : (e : TypedExpr) → is_place e ≡ true → is_variable (root e) ≡ false → typed_size (root e) < typed_size e
root_smaller (variable ty s v) h g = absurd (true≢false g)
root_smaller (part ty s e n) h g = omega (arith, root_size e)
root_smaller _ h g = absurd (true≢false (sym h))

-- ---- a variable at the root

pub no_labels : (e : TypedExpr) → is_variable (root e) ≡ true → labels e ≡ 0
no_labels (variable ty s v) h = refl
no_labels (part ty s e n) h = no_labels e h
no_labels _ h = absurd (true≢false (sym h))

pub no_locals : (e : TypedExpr) → is_variable (root e) ≡ true → temporary_count (is_place e) + locals e ≡ 0
no_locals (variable ty s v) h = refl
no_locals (part ty s e n) h = omega (arith, no_locals e h)
no_locals _ h = absurd (true≢false (sym h))

pub nothing_before : (e : TypedExpr) (c : Around) (l t : ℕ) → is_variable (root e) ≡ true → text_before e c l t ≡ []
nothing_before (variable ty s v) c l t h = refl
nothing_before (part ty s e n) c l t h = nothing_before e c l t h
nothing_before _ c l t h = absurd (true≢false (sym h))

-- no temporary stands for it
pub same_place : (scope : List Place) (t : ℕ) (e : TypedExpr) → is_variable (root e) ≡ true → place_of scope t e ≡ place_of scope 0 e
same_place scope t (variable ty s v) h = refl
same_place scope t (part ty s e n) h = ap (λ p. part_place p n) (same_place scope t e h)
same_place scope t _ h = absurd (true≢false (sym h))

-- ---- a temporary at the root

pub root_locals : (e : TypedExpr) → is_variable (root e) ≡ false → temporary_count (is_place e) + locals e ≡ 1 + locals (root e)
root_locals (variable ty s v) h = absurd (true≢false h)
root_locals (part ty s e n) h = omega (arith, root_locals e h)
root_locals e h = refl

pub root_before : (e : TypedExpr) (c : Around) (l t : ℕ) → is_variable (root e) ≡ false → text_before e c l t ≡ Makes t (ty_of (root e)) ∷ into (root e) c l (t + 1) t
root_before (variable ty s v) c l t h = absurd (true≢false h)
root_before (part ty s e n) c l t h = root_before e c l t h
root_before e c l t h = refl

-- ---- the value of a place

place_counts : (e : TypedExpr) → is_place e ≡ true → temporary_count (is_place e) + locals e ≡ locals e
place_counts e h = omega (arith, ap (λ b. temporary_count b + locals e) h)

copied_text : (e : TypedExpr) (c : Around) (l t d : ℕ) → is_place e ≡ true → into e c l t d ≡ text_before e c l t ++ puts (span_of e) d (Use (taken (is_copied c.types (ty_of e)) (place_of c.scope t e))) ∷ []
copied_text (variable ty s v) c l t d h = refl
copied_text (part ty s e n) c l t d h = refl
copied_text _ c l t d h = absurd (true≢false (sym h))

pub copies_no_locals : (e : TypedExpr) → is_place e ≡ true → is_variable (root e) ≡ true → locals e ≡ 0
copies_no_locals e h g = sym (place_counts e h) ∙ no_locals e g

pub copies_locals : (e : TypedExpr) → is_place e ≡ true → is_variable (root e) ≡ false → locals e ≡ 1 + locals (root e)
copies_locals e h g = sym (place_counts e h) ∙ root_locals e g

pub copies_variable : (e : TypedExpr) (c : Around) (l t d : ℕ) → is_place e ≡ true → is_variable (root e) ≡ true → into e c l t d ≡ puts (span_of e) d (Use (taken (is_copied c.types (ty_of e)) (place_of c.scope 0 e))) ∷ []
copies_variable e c l t d h g =
    copied_text e c l t d h
    ∙ ap (λ xs. xs ++ puts (span_of e) d (Use (taken (is_copied c.types (ty_of e)) (place_of c.scope t e))) ∷ []) (nothing_before e c l t g)
    ∙ ap (λ p. puts (span_of e) d (Use (taken (is_copied c.types (ty_of e)) p)) ∷ []) (same_place c.scope t e g)

pub copies_temporary : (e : TypedExpr) (c : Around) (l t d : ℕ) → is_place e ≡ true → is_variable (root e) ≡ false
    → into e c l t d ≡ Makes t (ty_of (root e)) ∷ (into (root e) c l (t + 1) t ++ puts (span_of e) d (Use (taken (is_copied c.types (ty_of e)) (place_of c.scope t e))) ∷ [])
copies_temporary e c l t d h g = copied_text e c l t d h ∙ ap (λ xs. xs ++ puts (span_of e) d (Use (taken (is_copied c.types (ty_of e)) (place_of c.scope t e))) ∷ []) (root_before e c l t g)

pub ruleset walking = (no_part_root, root_of_part, part_smaller, part_reaches, place_of_part, one_part_more)

pub ruleset targets = (root_labels, root_reaches, root_good, root_size, no_labels, no_locals, nothing_before, same_place, root_locals, root_before)

pub ruleset copies = (root_labels, root_reaches, root_good, root_size, root_smaller, no_labels, copies_no_locals, copies_locals, copies_variable, copies_temporary)
