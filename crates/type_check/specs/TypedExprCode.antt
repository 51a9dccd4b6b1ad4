-- A code for typed expressions, by which the logic tells them apart.
use Rattle.std.specs.Prelude.{◌≡◌, ℕ}
use Rattle.std.proofs.Common.{refl, ap, arith}
use Rattle.std.specs.Coded.{Coded, coded_ℕ, coded_ℤ, coded_bool, coded_list}
use Rattle.text_core.specs.contracts.refusal.Cause as cause
use Rattle.text_core.specs.contracts.span.Span as span
use Rattle.source_kinds.specs.contracts.kinds.BinaryOp as binary_op
use Rattle.source_kinds.specs.contracts.kinds.IntKind as int_kind
use Rattle.logic_term.specs.PatternCode.{coded_pat}
use Rattle.logic_term.specs.TyCode.{coded_ty}
use Rattle.logic_term.specs.contracts.kinds.Ctor as ctor
use Rattle.source_kinds.specs.contracts.kinds.LazyOp as lazy_op
use Rattle.pat_types.specs.contracts.names.BoundName as bound_name
use Rattle.type_check.specs.contracts.assertion.Assertion as assertion
use base.Stored.{Gv, gnil, gnum, gcons, num}
use Rattle.type_check.specs.TypedExpr.{TypedExpr, integer, truth, variable, negative, denied, cast, binary, lazy, assign, update, call, make, part, block, branch, choice, matched, repeat, panics, returned, endless, until_break, break_off, go_on, TypedStmts, done, last, leaving, bind, run, TypedExprs, none, more, TypedArms, no_arms, with_arm}

abbrev pub head : Gv → Gv
head gnil = gnil
head (gnum n) = gnil
head (gcons a b) = a

abbrev pub tail : Gv → Gv
tail gnil = gnil
tail (gnum n) = gnil
tail (gcons a b) = b

abbrev pub tag : Gv → ℕ
tag g = num (head g)

abbrev mutual
  pub typed_code : TypedExpr → Gv
  typed_code (integer a0 a1 a2 a3) = gcons (gnum 0) (gcons (coded_ty.code a0) (gcons (span.the_row.coded.code a1) (gcons (coded_ℤ.code a2) (int_kind.the_row.coded.code a3))))
  typed_code (truth a0 a1 a2) = gcons (gnum 1) (gcons (coded_ty.code a0) (gcons (span.the_row.coded.code a1) (coded_bool.code a2)))
  typed_code (variable a0 a1 a2) = gcons (gnum 2) (gcons (coded_ty.code a0) (gcons (span.the_row.coded.code a1) (coded_ℕ.code a2)))
  typed_code (negative a0 a1 a2) = gcons (gnum 3) (gcons (coded_ty.code a0) (gcons (span.the_row.coded.code a1) (typed_code a2)))
  typed_code (denied a0 a1 a2) = gcons (gnum 4) (gcons (coded_ty.code a0) (gcons (span.the_row.coded.code a1) (typed_code a2)))
  typed_code (cast a0 a1 a2) = gcons (gnum 23) (gcons (coded_ty.code a0) (gcons (span.the_row.coded.code a1) (typed_code a2)))
  typed_code (binary a0 a1 a2 a3 a4) = gcons (gnum 5) (gcons (coded_ty.code a0) (gcons (span.the_row.coded.code a1) (gcons (binary_op.the_row.coded.code a2) (gcons (typed_code a3) (typed_code a4)))))
  typed_code (lazy a0 a1 a2 a3 a4) = gcons (gnum 6) (gcons (coded_ty.code a0) (gcons (span.the_row.coded.code a1) (gcons (lazy_op.the_row.coded.code a2) (gcons (typed_code a3) (typed_code a4)))))
  typed_code (assign a0 a1 a2 a3) = gcons (gnum 7) (gcons (coded_ty.code a0) (gcons (span.the_row.coded.code a1) (gcons (typed_code a2) (typed_code a3))))
  typed_code (update a0 a1 a2 a3 a4) = gcons (gnum 8) (gcons (coded_ty.code a0) (gcons (span.the_row.coded.code a1) (gcons (binary_op.the_row.coded.code a2) (gcons (typed_code a3) (typed_code a4)))))
  typed_code (call a0 a1 a2 a3) = gcons (gnum 9) (gcons (coded_ty.code a0) (gcons (span.the_row.coded.code a1) (gcons (coded_ℕ.code a2) (exprs_code a3))))
  typed_code (make a0 a1 a2 a3) = gcons (gnum 20) (gcons (coded_ty.code a0) (gcons (span.the_row.coded.code a1) (gcons (ctor.the_row.coded.code a2) (exprs_code a3))))
  typed_code (part a0 a1 a2 a3) = gcons (gnum 21) (gcons (coded_ty.code a0) (gcons (span.the_row.coded.code a1) (gcons (typed_code a2) (coded_ℕ.code a3))))
  typed_code (block a0 a1 a2) = gcons (gnum 10) (gcons (coded_ty.code a0) (gcons (span.the_row.coded.code a1) (stmts_code a2)))
  typed_code (branch a0 a1 a2 a3) = gcons (gnum 11) (gcons (coded_ty.code a0) (gcons (span.the_row.coded.code a1) (gcons (typed_code a2) (typed_code a3))))
  typed_code (choice a0 a1 a2 a3 a4) = gcons (gnum 12) (gcons (coded_ty.code a0) (gcons (span.the_row.coded.code a1) (gcons (typed_code a2) (gcons (typed_code a3) (typed_code a4)))))
  typed_code (matched a0 a1 a2 a3) = gcons (gnum 22) (gcons (coded_ty.code a0) (gcons (span.the_row.coded.code a1) (gcons (typed_code a2) (arms_code a3))))
  typed_code (repeat a0 a1 a2 a3 a4) = gcons (gnum 13) (gcons (coded_ty.code a0) (gcons (span.the_row.coded.code a1) (gcons ((coded_list assertion.the_row.coded).code a2) (gcons (typed_code a3) (typed_code a4)))))
  typed_code (panics a0 a1 a2) = gcons (gnum 14) (gcons (coded_ty.code a0) (gcons (span.the_row.coded.code a1) (cause.the_row.coded.code a2)))
  typed_code (returned a0 a1 a2) = gcons (gnum 15) (gcons (coded_ty.code a0) (gcons (span.the_row.coded.code a1) (typed_code a2)))
  typed_code (endless a0 a1 a2 a3) = gcons (gnum 16) (gcons (coded_ty.code a0) (gcons (span.the_row.coded.code a1) (gcons ((coded_list assertion.the_row.coded).code a2) (typed_code a3))))
  typed_code (until_break a0 a1 a2 a3) = gcons (gnum 19) (gcons (coded_ty.code a0) (gcons (span.the_row.coded.code a1) (gcons ((coded_list assertion.the_row.coded).code a2) (typed_code a3))))
  typed_code (break_off a0 a1) = gcons (gnum 17) (gcons (coded_ty.code a0) (span.the_row.coded.code a1))
  typed_code (go_on a0 a1) = gcons (gnum 18) (gcons (coded_ty.code a0) (span.the_row.coded.code a1))

  pub stmts_code : TypedStmts → Gv
  stmts_code done = gcons (gnum 0) gnil
  stmts_code (last a0) = gcons (gnum 1) (typed_code a0)
  stmts_code (bind a0 a1) = gcons (gnum 2) (gcons (typed_code a0) (stmts_code a1))
  stmts_code (run a0 a1) = gcons (gnum 3) (gcons (typed_code a0) (stmts_code a1))
  stmts_code (leaving a0) = gcons (gnum 4) (typed_code a0)

  pub exprs_code : TypedExprs → Gv
  exprs_code none = gcons (gnum 0) gnil
  exprs_code (more a0 a1) = gcons (gnum 1) (gcons (typed_code a0) (exprs_code a1))

  pub arms_code : TypedArms → Gv
  arms_code no_arms = gcons (gnum 0) gnil
  arms_code (with_arm a0 a1 a2 a3) = gcons (gnum 1) (gcons (coded_pat.code a0) (gcons ((coded_list bound_name.the_row.coded).code a1) (gcons (typed_code a2) (arms_code a3))))

mutual
  pub typed_injective : (x y : TypedExpr) → typed_code x ≡ typed_code y → x ≡ y
  typed_injective (integer a0 a1 a2 a3) (integer b0 b1 b2 b3) p =
      λ i. integer (coded_ty.inj a0 b0 (ap (λ g. head (tail g)) p) i) (span.the_row.coded.inj a1 b1 (ap (λ g. head (tail (tail g))) p) i) (coded_ℤ.inj a2 b2 (ap (λ g. head (tail (tail (tail g)))) p) i) (int_kind.the_row.coded.inj a3 b3 (ap (λ g. tail (tail (tail (tail g)))) p) i)
  typed_injective (truth a0 a1 a2) (truth b0 b1 b2) p = λ i. truth (coded_ty.inj a0 b0 (ap (λ g. head (tail g)) p) i) (span.the_row.coded.inj a1 b1 (ap (λ g. head (tail (tail g))) p) i) (coded_bool.inj a2 b2 (ap (λ g. tail (tail (tail g))) p) i)
  typed_injective (variable a0 a1 a2) (variable b0 b1 b2) p = λ i. variable (coded_ty.inj a0 b0 (ap (λ g. head (tail g)) p) i) (span.the_row.coded.inj a1 b1 (ap (λ g. head (tail (tail g))) p) i) (coded_ℕ.inj a2 b2 (ap (λ g. tail (tail (tail g))) p) i)
  typed_injective (negative a0 a1 a2) (negative b0 b1 b2) p = λ i. negative (coded_ty.inj a0 b0 (ap (λ g. head (tail g)) p) i) (span.the_row.coded.inj a1 b1 (ap (λ g. head (tail (tail g))) p) i) (typed_injective a2 b2 (ap (λ g. tail (tail (tail g))) p) i)
  typed_injective (denied a0 a1 a2) (denied b0 b1 b2) p = λ i. denied (coded_ty.inj a0 b0 (ap (λ g. head (tail g)) p) i) (span.the_row.coded.inj a1 b1 (ap (λ g. head (tail (tail g))) p) i) (typed_injective a2 b2 (ap (λ g. tail (tail (tail g))) p) i)
  typed_injective (cast a0 a1 a2) (cast b0 b1 b2) p = λ i. cast (coded_ty.inj a0 b0 (ap (λ g. head (tail g)) p) i) (span.the_row.coded.inj a1 b1 (ap (λ g. head (tail (tail g))) p) i) (typed_injective a2 b2 (ap (λ g. tail (tail (tail g))) p) i)
  typed_injective (binary a0 a1 a2 a3 a4) (binary b0 b1 b2 b3 b4) p =
      λ i. binary (coded_ty.inj a0 b0 (ap (λ g. head (tail g)) p) i) (span.the_row.coded.inj a1 b1 (ap (λ g. head (tail (tail g))) p) i) (binary_op.the_row.coded.inj a2 b2 (ap (λ g. head (tail (tail (tail g)))) p) i)
      (typed_injective a3 b3 (ap (λ g. head (tail (tail (tail (tail g))))) p) i) (typed_injective a4 b4 (ap (λ g. tail (tail (tail (tail (tail g))))) p) i)
  typed_injective (lazy a0 a1 a2 a3 a4) (lazy b0 b1 b2 b3 b4) p =
      λ i. lazy (coded_ty.inj a0 b0 (ap (λ g. head (tail g)) p) i) (span.the_row.coded.inj a1 b1 (ap (λ g. head (tail (tail g))) p) i) (lazy_op.the_row.coded.inj a2 b2 (ap (λ g. head (tail (tail (tail g)))) p) i)
      (typed_injective a3 b3 (ap (λ g. head (tail (tail (tail (tail g))))) p) i) (typed_injective a4 b4 (ap (λ g. tail (tail (tail (tail (tail g))))) p) i)
  typed_injective (assign a0 a1 a2 a3) (assign b0 b1 b2 b3) p =
      λ i. assign (coded_ty.inj a0 b0 (ap (λ g. head (tail g)) p) i) (span.the_row.coded.inj a1 b1 (ap (λ g. head (tail (tail g))) p) i) (typed_injective a2 b2 (ap (λ g. head (tail (tail (tail g)))) p) i) (typed_injective a3 b3 (ap (λ g. tail (tail (tail (tail g)))) p) i)
  typed_injective (update a0 a1 a2 a3 a4) (update b0 b1 b2 b3 b4) p =
      λ i. update (coded_ty.inj a0 b0 (ap (λ g. head (tail g)) p) i) (span.the_row.coded.inj a1 b1 (ap (λ g. head (tail (tail g))) p) i) (binary_op.the_row.coded.inj a2 b2 (ap (λ g. head (tail (tail (tail g)))) p) i)
      (typed_injective a3 b3 (ap (λ g. head (tail (tail (tail (tail g))))) p) i) (typed_injective a4 b4 (ap (λ g. tail (tail (tail (tail (tail g))))) p) i)
  typed_injective (call a0 a1 a2 a3) (call b0 b1 b2 b3) p =
      λ i. call (coded_ty.inj a0 b0 (ap (λ g. head (tail g)) p) i) (span.the_row.coded.inj a1 b1 (ap (λ g. head (tail (tail g))) p) i) (coded_ℕ.inj a2 b2 (ap (λ g. head (tail (tail (tail g)))) p) i) (exprs_injective a3 b3 (ap (λ g. tail (tail (tail (tail g)))) p) i)
  typed_injective (make a0 a1 a2 a3) (make b0 b1 b2 b3) p =
      λ i. make (coded_ty.inj a0 b0 (ap (λ g. head (tail g)) p) i) (span.the_row.coded.inj a1 b1 (ap (λ g. head (tail (tail g))) p) i) (ctor.the_row.coded.inj a2 b2 (ap (λ g. head (tail (tail (tail g)))) p) i) (exprs_injective a3 b3 (ap (λ g. tail (tail (tail (tail g)))) p) i)
  typed_injective (part a0 a1 a2 a3) (part b0 b1 b2 b3) p =
      λ i. part (coded_ty.inj a0 b0 (ap (λ g. head (tail g)) p) i) (span.the_row.coded.inj a1 b1 (ap (λ g. head (tail (tail g))) p) i) (typed_injective a2 b2 (ap (λ g. head (tail (tail (tail g)))) p) i) (coded_ℕ.inj a3 b3 (ap (λ g. tail (tail (tail (tail g)))) p) i)
  typed_injective (block a0 a1 a2) (block b0 b1 b2) p = λ i. block (coded_ty.inj a0 b0 (ap (λ g. head (tail g)) p) i) (span.the_row.coded.inj a1 b1 (ap (λ g. head (tail (tail g))) p) i) (stmts_injective a2 b2 (ap (λ g. tail (tail (tail g))) p) i)
  typed_injective (branch a0 a1 a2 a3) (branch b0 b1 b2 b3) p =
      λ i. branch (coded_ty.inj a0 b0 (ap (λ g. head (tail g)) p) i) (span.the_row.coded.inj a1 b1 (ap (λ g. head (tail (tail g))) p) i) (typed_injective a2 b2 (ap (λ g. head (tail (tail (tail g)))) p) i) (typed_injective a3 b3 (ap (λ g. tail (tail (tail (tail g)))) p) i)
  typed_injective (choice a0 a1 a2 a3 a4) (choice b0 b1 b2 b3 b4) p =
      λ i. choice (coded_ty.inj a0 b0 (ap (λ g. head (tail g)) p) i) (span.the_row.coded.inj a1 b1 (ap (λ g. head (tail (tail g))) p) i) (typed_injective a2 b2 (ap (λ g. head (tail (tail (tail g)))) p) i)
      (typed_injective a3 b3 (ap (λ g. head (tail (tail (tail (tail g))))) p) i) (typed_injective a4 b4 (ap (λ g. tail (tail (tail (tail (tail g))))) p) i)
  typed_injective (matched a0 a1 a2 a3) (matched b0 b1 b2 b3) p =
      λ i. matched (coded_ty.inj a0 b0 (ap (λ g. head (tail g)) p) i) (span.the_row.coded.inj a1 b1 (ap (λ g. head (tail (tail g))) p) i) (typed_injective a2 b2 (ap (λ g. head (tail (tail (tail g)))) p) i) (arms_injective a3 b3 (ap (λ g. tail (tail (tail (tail g)))) p) i)
  typed_injective (repeat a0 a1 a2 a3 a4) (repeat b0 b1 b2 b3 b4) p =
      λ i. repeat (coded_ty.inj a0 b0 (ap (λ g. head (tail g)) p) i) (span.the_row.coded.inj a1 b1 (ap (λ g. head (tail (tail g))) p) i) ((coded_list assertion.the_row.coded).inj a2 b2 (ap (λ g. head (tail (tail (tail g)))) p) i)
      (typed_injective a3 b3 (ap (λ g. head (tail (tail (tail (tail g))))) p) i) (typed_injective a4 b4 (ap (λ g. tail (tail (tail (tail (tail g))))) p) i)
  typed_injective (panics a0 a1 a2) (panics b0 b1 b2) p = λ i. panics (coded_ty.inj a0 b0 (ap (λ g. head (tail g)) p) i) (span.the_row.coded.inj a1 b1 (ap (λ g. head (tail (tail g))) p) i) (cause.the_row.coded.inj a2 b2 (ap (λ g. tail (tail (tail g))) p) i)
  typed_injective (returned a0 a1 a2) (returned b0 b1 b2) p = λ i. returned (coded_ty.inj a0 b0 (ap (λ g. head (tail g)) p) i) (span.the_row.coded.inj a1 b1 (ap (λ g. head (tail (tail g))) p) i) (typed_injective a2 b2 (ap (λ g. tail (tail (tail g))) p) i)
  typed_injective (endless a0 a1 a2 a3) (endless b0 b1 b2 b3) p =
      λ i. endless (coded_ty.inj a0 b0 (ap (λ g. head (tail g)) p) i) (span.the_row.coded.inj a1 b1 (ap (λ g. head (tail (tail g))) p) i) ((coded_list assertion.the_row.coded).inj a2 b2 (ap (λ g. head (tail (tail (tail g)))) p) i)
      (typed_injective a3 b3 (ap (λ g. tail (tail (tail (tail g)))) p) i)
  typed_injective (until_break a0 a1 a2 a3) (until_break b0 b1 b2 b3) p =
      λ i. until_break (coded_ty.inj a0 b0 (ap (λ g. head (tail g)) p) i) (span.the_row.coded.inj a1 b1 (ap (λ g. head (tail (tail g))) p) i) ((coded_list assertion.the_row.coded).inj a2 b2 (ap (λ g. head (tail (tail (tail g)))) p) i)
      (typed_injective a3 b3 (ap (λ g. tail (tail (tail (tail g)))) p) i)
  typed_injective (break_off a0 a1) (break_off b0 b1) p = λ i. break_off (coded_ty.inj a0 b0 (ap (λ g. head (tail g)) p) i) (span.the_row.coded.inj a1 b1 (ap (λ g. tail (tail g)) p) i)
  typed_injective (go_on a0 a1) (go_on b0 b1) p = λ i. go_on (coded_ty.inj a0 b0 (ap (λ g. head (tail g)) p) i) (span.the_row.coded.inj a1 b1 (ap (λ g. tail (tail g)) p) i)
  typed_injective x y p = absurd (omega (arith, ap tag p))

  pub stmts_injective : (x y : TypedStmts) → stmts_code x ≡ stmts_code y → x ≡ y
  stmts_injective done done p = refl
  stmts_injective (last a0) (last b0) p = λ i. last (typed_injective a0 b0 (ap (λ g. tail g) p) i)
  stmts_injective (bind a0 a1) (bind b0 b1) p = λ i. bind (typed_injective a0 b0 (ap (λ g. head (tail g)) p) i) (stmts_injective a1 b1 (ap (λ g. tail (tail g)) p) i)
  stmts_injective (run a0 a1) (run b0 b1) p = λ i. run (typed_injective a0 b0 (ap (λ g. head (tail g)) p) i) (stmts_injective a1 b1 (ap (λ g. tail (tail g)) p) i)
  stmts_injective (leaving a0) (leaving b0) p = λ i. leaving (typed_injective a0 b0 (ap (λ g. tail g) p) i)
  stmts_injective x y p = absurd (omega (arith, ap tag p))

  pub exprs_injective : (x y : TypedExprs) → exprs_code x ≡ exprs_code y → x ≡ y
  exprs_injective none none p = refl
  exprs_injective (more a0 a1) (more b0 b1) p = λ i. more (typed_injective a0 b0 (ap (λ g. head (tail g)) p) i) (exprs_injective a1 b1 (ap (λ g. tail (tail g)) p) i)
  exprs_injective x y p = absurd (omega (arith, ap tag p))

  pub arms_injective : (x y : TypedArms) → arms_code x ≡ arms_code y → x ≡ y
  arms_injective no_arms no_arms p = refl
  arms_injective (with_arm a0 a1 a2 a3) (with_arm b0 b1 b2 b3) p =
      λ i. with_arm (coded_pat.inj a0 b0 (ap (λ g. head (tail g)) p) i) ((coded_list bound_name.the_row.coded).inj a1 b1 (ap (λ g. head (tail (tail g))) p) i)
      (typed_injective a2 b2 (ap (λ g. head (tail (tail (tail g)))) p) i) (arms_injective a3 b3 (ap (λ g. tail (tail (tail (tail g)))) p) i)
  arms_injective x y p = absurd (omega (arith, ap tag p))

abbrev pub coded_typed : Coded TypedExpr
coded_typed = record { code = typed_code; inj = typed_injective }
