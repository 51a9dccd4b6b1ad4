-- The loop over the statements of a block: one more statement, and the end.
use Rattle.std.proofs.Common.{◌≡◌, refl, ap, sym, ◌∙◌, subst, ℕ, ◌+◌, ◌<◌, ◌≤◌, Bool, true, false, List, [], ◌∷◌, length, take, drop, get_or, length-append, arith}
use Rattle.std.proofs.lemmas.List.{drop_all, take-append-le}
use Rattle.text_core.specs.declared.span.Span.{Span}
use Rattle.type_check.specs.TypedExpr.{TypedExpr, TypedStmts}
use Rattle.type_check.specs.TypedExprView.{stmt_of, stmts_of}
use Rattle.type_check.specs.declared.typed.TypedStmt.{TypedStmt}
use Rattle.mir_build.specs.declared.builder.BodyText.{BodyText}
use Rattle.mir_build.specs.Lowering.{Around, whole, binds}
use Rattle.mir_build.specs.Numbered.{rest, labels, labels_of, locals, locals_of}
use Rattle.mir_build.specs.Built.{written}
use Rattle.mir_build.specs.Bindings.{all_die, left_of}
use Rattle.mir_build.proofs.Runs.{written-append}
use Rattle.mir_build.proofs.Bindings.{value_text, stmts_at, ran, bound}

-- what is around the statements behind a statement
abbrev pub around_behind : Bool → Around → ℕ → Around
around_behind true c t = binds c t
around_behind false c t = c

one_on : (b : Bool) (outer : Bool) (s : Span) (n : ℕ) (c : Around) (l t d : ℕ) (e : TypedExpr) (ss : TypedStmts) (x : BodyText) → n ≤ length c.scope
    → written (left_of ss outer s n (around_behind b c t) (l + labels e) (t + 1 + locals e) d) (written (value_text e c l t) x) ≡ written (left_of (stmt_of b e ss) outer s n c l t d) x
one_on true outer s n c l t d e ss x h = sym (bound outer s n c l t d e ss x h)
one_on false outer s n c l t d e ss x h = sym (ran outer s n c l t d e ss x)

labels_on : (b : Bool) (e : TypedExpr) (ss : TypedStmts) → labels_of (stmt_of b e ss) ≡ labels e + labels_of ss
labels_on true e ss = omega arith
labels_on false e ss = omega arith

locals_on : (b : Bool) (e : TypedExpr) (ss : TypedStmts) → locals_of (stmt_of b e ss) ≡ 1 + locals e + locals_of ss
locals_on true e ss = omega arith
locals_on false e ss = omega arith

-- the i-th statement
module _ (ss : List TypedStmt) (i : ℕ) (st : TypedStmt) (end : TypedStmts) (q : st ≡ get_or ss i st) (h : i < length ss) (b : Bool) (e : st.binds ≡ b) where
  -- its value is written to the local t, and the text x becomes y
  pub text_on : (outer : Bool) (s : Span) (n : ℕ) (c around : Around) (l m t d : ℕ) (x y : BodyText) → n ≤ length c.scope → around ≡ around_behind b c t → m ≡ l + labels st.value → t ≡ length x.locals
      → length y.locals ≡ length x.locals + 1 + locals st.value → y ≡ written (value_text st.value c l t) x
      → written (left_of (stmts_of (drop (i + 1) ss) end) outer s n around m (length y.locals) d) y ≡ written (left_of (stmts_of (drop i ss) end) outer s n c l (length x.locals) d) x
  text_on outer s n c around l m t d x y w a p k g z =
      let left = stmts_of (drop (i + 1) ss) end in
      let u : length y.locals ≡ t + 1 + locals st.value = omega (arith, k, g) in
      (λ j. written (left_of left outer s n (a j) (p j) (u j) d) (z j)) ∙ one_on b outer s n c l t d st.value left x w ∙ (λ j. written (left_of (sym (stmts_at ss i st b end q h e) j) outer s n c l (k j) d) x)

  pub labels_at : labels_of (stmts_of (drop i ss) end) ≡ labels st.value + labels_of (stmts_of (drop (i + 1) ss) end)
  labels_at = ap labels_of (stmts_at ss i st b end q h e) ∙ labels_on b st.value (stmts_of (drop (i + 1) ss) end)

  pub locals_at : locals_of (stmts_of (drop i ss) end) ≡ 1 + locals st.value + locals_of (stmts_of (drop (i + 1) ss) end)
  locals_at = ap locals_of (stmts_at ss i st b end q h e) ∙ locals_on b st.value (stmts_of (drop (i + 1) ss) end)

-- behind all statements: the end makes of the text x the text y, and the ends of the bindings make of it z
pub text_end : (ss : List TypedStmt) (i : ℕ) (end : TypedStmts) (outer : Bool) (s : Span) (n : ℕ) (c around : Around) (l t d : ℕ) (x y z : BodyText) → length ss ≤ i → around ≡ c
    → y ≡ written (rest end outer s c l t d) x → z ≡ written (all_die outer s (drop n around.scope)) y → z ≡ written (left_of (stmts_of (drop i ss) end) outer s n c l t d) x
text_end ss i end outer s n c around l t d x y z h a p q =
    let none : stmts_of (drop i ss) end ≡ end = ap (λ xs. stmts_of xs end) (drop_all i ss h) in
    q ∙ (λ j. written (all_die outer s (drop n (a j).scope)) (p j)) ∙ sym (written-append (rest end outer s c l t d) (all_die outer s (drop n c.scope)) x) ∙ (λ j. written (left_of (sym none j) outer s n c l t d) x)

-- ---- what is around

module _ (b : Bool) (c : Around) (t n : ℕ) (h : n ≤ length c.scope) where
  behind_front : take n (around_behind b c t).scope ≡ take n c.scope
  behind_front = by_case b
    where
      by_case : (b : Bool) → take n (around_behind b c t).scope ≡ take n c.scope
      by_case true = take-append-le n c.scope (whole t ∷ []) h
      by_case false = refl

  behind_within : n ≤ length (around_behind b c t).scope
  behind_within = by_case b
    where
      by_case : (b : Bool) → n ≤ length (around_behind b c t).scope
      by_case true = omega (arith, h, length-append c.scope (whole t ∷ []))
      by_case false = h

  behind_loops : (around_behind b c t).loops ≡ c.loops
  behind_loops = by_case b
    where
      by_case : (b : Bool) → (around_behind b c t).loops ≡ c.loops
      by_case true = refl
      by_case false = refl

  behind_types : (around_behind b c t).types ≡ c.types
  behind_types = by_case b
    where
      by_case : (b : Bool) → (around_behind b c t).types ≡ c.types
      by_case true = refl
      by_case false = refl

  pub within_on : (around : Around) → around ≡ around_behind b c t → n ≤ length around.scope
  within_on around a = subst (λ (x : Around). n ≤ length x.scope) (sym a) behind_within

  pub front_on : (around : Around) → around ≡ around_behind b c t → take n around.scope ≡ take n c.scope
  front_on around a = ap (λ (x : Around). take n x.scope) a ∙ behind_front

  pub types_on : (around : Around) → around ≡ around_behind b c t → around.types ≡ c.types
  types_on around a = ap (λ (x : Around). x.types) a ∙ behind_types

  pub loops_on : (around : Around) → around ≡ around_behind b c t → around.loops ≡ c.loops
  loops_on around a = ap (λ (x : Around). x.loops) a ∙ behind_loops
