-- One statement of a block, and the end of one binding.
use Rattle.std.proofs.Common.{◌≡◌, refl, ap, sym, ◌∙◌, ℕ, zero, suc, ◌+◌, ◌<◌, ◌≤◌, max, Bool, true, false, List, [], ◌∷◌, ◌++◌, append_assoc, append-nil, length, drop, get_or, add-one, drop-cons, arith}
use Rattle.std.proofs.lemmas.List.{drop-append-le}
use Rattle.text_core.specs.declared.span.Span.{Span}
use Rattle.mir_ir.specs.declared.place.Place.{Place}
use Rattle.type_check.specs.TypedExpr.{TypedExpr, TypedStmts, bind, run}
use Rattle.type_check.specs.TypedExprView.{ty_of, typed_size, stmts_size, stmt_of, stmts_of}
use Rattle.type_check.specs.declared.typed.TypedStmt.{TypedStmt}
use Rattle.mir_build.specs.declared.builder.BodyText.{BodyText}
use Rattle.mir_build.specs.Text.{Line, Makes}
use Rattle.mir_build.specs.Lowering.{Around, whole, binds, dies_in}
use Rattle.mir_build.specs.Numbered.{into, rest, labels, locals}
use Rattle.mir_build.specs.Built.{written}
use Rattle.mir_build.specs.Bindings.{all_die, left_of}
use Rattle.mir_build.proofs.Runs.{written-append}

-- ---- the statements from the i-th on

stmts_at_suc : (ss : List TypedStmt) (i : ℕ) (s : TypedStmt) (end : TypedStmts) → i < length ss → stmts_of (drop i ss) end ≡ stmt_of (get_or ss i s).binds (get_or ss i s).value (stmts_of (drop (i + 1) ss) end)
stmts_at_suc ss i s end h = rw (add-one, drop-cons ss i s h) refl

pub stmts_at : (ss : List TypedStmt) (i : ℕ) (s : TypedStmt) (b : Bool) (end : TypedStmts) → s ≡ get_or ss i s → i < length ss → s.binds ≡ b → stmts_of (drop i ss) end ≡ stmt_of b s.value (stmts_of (drop (i + 1) ss) end)
stmts_at ss i s b end q h e = stmts_at_suc ss i s end h ∙ ap (λ (x : TypedStmt). stmt_of x.binds x.value (stmts_of (drop (i + 1) ss) end)) (sym q) ∙ ap (λ x. stmt_of x s.value (stmts_of (drop (i + 1) ss) end)) e

stmt_size : (b : Bool) (e : TypedExpr) (ss : TypedStmts) → stmts_size (stmt_of b e ss) ≡ suc (max (typed_size e) (stmts_size ss))
stmt_size true e ss = refl
stmt_size false e ss = refl

smaller : (ss : List TypedStmt) (i : ℕ) (d : TypedStmt) (end : TypedStmts) → i < length ss → typed_size (get_or ss i d).value < stmts_size (stmts_of ss end)
smaller [] i d end h = absurd (omega arith)
smaller (s ∷ ss) zero d end h = omega (arith, stmt_size s.binds s.value (stmts_of ss end))
smaller (s ∷ ss) (suc i) d end h = omega (arith, stmt_size s.binds s.value (stmts_of ss end), smaller ss i d end (omega arith))

pub statement_smaller : (ss : List TypedStmt) (i : ℕ) (s : TypedStmt) (end : TypedStmts) → s ≡ get_or ss i s → i < length ss → typed_size s.value < stmts_size (stmts_of ss end)
statement_smaller ss i s end q h = rw q (smaller ss i s end h)

pub end_smaller : (ss : List TypedStmt) (end : TypedStmts) → stmts_size end ≤ stmts_size (stmts_of ss end)
end_smaller [] end = omega arith
end_smaller (s ∷ ss) end = omega (arith, stmt_size s.binds s.value (stmts_of ss end), end_smaller ss end)

-- ---- the ends of bindings

all_die-append : (outer : Bool) (s : Span) (xs : List Place) (x : Place) → all_die outer s (xs ++ x ∷ []) ≡ dies_in outer s x.local ++ all_die outer s xs
all_die-append outer s [] x = sym (append-nil (dies_in outer s x.local))
all_die-append outer s (y ∷ ys) x = ap (λ zs. zs ++ dies_in outer s y.local) (all_die-append outer s ys x) ∙ append_assoc (dies_in outer s x.local) (all_die outer s ys) (dies_in outer s y.local)

-- behind the first n variables there is one more
pub one_more : (outer : Bool) (s : Span) (n : ℕ) (xs : List Place) (x : Place) → n ≤ length xs → all_die outer s (drop n (xs ++ x ∷ [])) ≡ dies_in outer s x.local ++ all_die outer s (drop n xs)
one_more outer s n xs x h = ap (all_die outer s) (drop-append-le n xs (x ∷ []) h) ∙ all_die-append outer s (drop n xs) x

-- ---- one statement

-- the value of a statement goes to a local of its own
abbrev pub value_text : TypedExpr → Around → ℕ → ℕ → List Line
value_text e c l t = Makes t (ty_of e) ∷ into e c l (t + 1) t

module _ (outer : Bool) (s : Span) (n : ℕ) (c : Around) (l t d : ℕ) (e : TypedExpr) (ss : TypedStmts) (x : BodyText) where
  pub ran : written (left_of (run e ss) outer s n c l t d) x ≡ written (left_of ss outer s n c (l + labels e) (t + 1 + locals e) d) (written (value_text e c l t) x)
  ran =
      let value = value_text e c l t in
      let ys = rest ss outer s c (l + labels e) (t + 1 + locals e) d in
      let zs = all_die outer s (drop n c.scope) in
      ap (λ xs. written xs x) (append_assoc value ys zs) ∙ written-append value (ys ++ zs) x

  pub bound : n ≤ length c.scope → written (left_of (bind e ss) outer s n c l t d) x ≡ written (left_of ss outer s n (binds c t) (l + labels e) (t + 1 + locals e) d) (written (value_text e c l t) x)
  bound h =
      let value = value_text e c l t in
      let ys = rest ss outer s (binds c t) (l + labels e) (t + 1 + locals e) d in
      let zs = all_die outer s (drop n c.scope) in
      ap (λ xs. written xs x) (append_assoc value (ys ++ dies_in outer s t) zs ∙ ap (λ xs. value ++ xs) (append_assoc ys (dies_in outer s t) zs ∙ ap (λ xs. ys ++ xs) (sym (one_more outer s n c.scope (whole t) h))))
      ∙ written-append value (ys ++ all_die outer s (drop n (c.scope ++ whole t ∷ []))) x
