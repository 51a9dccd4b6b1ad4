-- A code for expressions, by which the logic tells them apart.
use Rattle.std.specs.Prelude.{◌≡◌, ℕ}
use Rattle.std.proofs.Common.{refl, ap, arith}
use Rattle.std.specs.Coded.{Coded, coded_ℤ, coded_bool, coded_option, coded_list}
use Rattle.text_core.specs.contracts.span.Span as span
use Rattle.source_kinds.specs.contracts.kinds.BinaryOp as binary_op
use Rattle.source_kinds.specs.contracts.kinds.IntKind as int_kind
use Rattle.source_kinds.specs.contracts.kinds.LazyOp as lazy_op
use Rattle.source_trees.specs.contracts.path.Number as number
use Rattle.source_trees.specs.contracts.path.Path as path_of
use Rattle.source_trees.specs.contracts.path.Segment as segment
use Rattle.source_trees.specs.contracts.operator.PanicMacro as panic_macro
use Rattle.source_trees.specs.contracts.operator.GhostMacro as ghost_macro
use Rattle.source_trees.specs.TypeTreeCode.{coded_type_tree}
use Rattle.source_trees.specs.PatCode.{coded_pat}
use Rattle.source_trees.specs.PtermCode.{coded_pterm}
use Rattle.source_trees.specs.contracts.attribute.Attribute as attribute
use Rattle.source_trees.specs.contracts.param.Param as param
use Rattle.source_trees.specs.contracts.statement.StmtKind as stmt_kind
use Rattle.source_trees.specs.contracts.operator.UnaryOp as unary_op
use base.Stored.{Gv, gnil, gnum, gcons, num}
use Rattle.source_trees.specs.Expr.{Expr, integer, truth, receiver, path, literal, tuple, block, block_with, branch, choice, matching, repeat, endless, attributed, closure, bare_return, return_with, break_off, go_on, panic, logical}
use Rattle.source_trees.specs.Expr.{assign, update, lazy, binary, cast, unary, borrow, field, part, method, call, Exprs, none, more, Stmts, no_stmts, with_stmt, Arms, no_arms, with_arm, FieldExprs, no_fields}
use Rattle.source_trees.specs.Expr.{with_field}

abbrev pub head : Gv → Gv
head gnil = gnil
head (gnum n) = gnil
head (gcons a b) = a

abbrev pub tail : Gv → Gv
tail gnil = gnil
tail (gnum n) = gnil
tail (gcons a b) = b

abbrev pub tag : Gv → ℕ
tag g = num (head g)

abbrev mutual
  pub expr_code : Expr → Gv
  expr_code (integer a0 a1 a2) = gcons (gnum 0) (gcons (span.the_row.coded.code a0) (gcons (coded_ℤ.code a1) ((coded_option int_kind.the_row.coded).code a2)))
  expr_code (truth a0 a1) = gcons (gnum 1) (gcons (span.the_row.coded.code a0) (coded_bool.code a1))
  expr_code (receiver a0) = gcons (gnum 2) (span.the_row.coded.code a0)
  expr_code (path a0 a1) = gcons (gnum 3) (gcons (span.the_row.coded.code a0) (path_of.the_row.coded.code a1))
  expr_code (literal a0 a1 a2) = gcons (gnum 4) (gcons (span.the_row.coded.code a0) (gcons (path_of.the_row.coded.code a1) (field_exprs_code a2)))
  expr_code (tuple a0 a1) = gcons (gnum 5) (gcons (span.the_row.coded.code a0) (exprs_code a1))
  expr_code (block a0 a1) = gcons (gnum 6) (gcons (span.the_row.coded.code a0) (stmts_code a1))
  expr_code (block_with a0 a1 a2) = gcons (gnum 7) (gcons (span.the_row.coded.code a0) (gcons (stmts_code a1) (expr_code a2)))
  expr_code (branch a0 a1 a2 a3) = gcons (gnum 8) (gcons (span.the_row.coded.code a0) (gcons ((coded_option coded_pat).code a1) (gcons (expr_code a2) (expr_code a3))))
  expr_code (choice a0 a1 a2 a3 a4) = gcons (gnum 9) (gcons (span.the_row.coded.code a0) (gcons ((coded_option coded_pat).code a1) (gcons (expr_code a2) (gcons (expr_code a3) (expr_code a4)))))
  expr_code (matching a0 a1 a2) = gcons (gnum 10) (gcons (span.the_row.coded.code a0) (gcons (expr_code a1) (arms_code a2)))
  expr_code (repeat a0 a1 a2 a3) = gcons (gnum 11) (gcons (span.the_row.coded.code a0) (gcons ((coded_option coded_pat).code a1) (gcons (expr_code a2) (expr_code a3))))
  expr_code (endless a0 a1) = gcons (gnum 12) (gcons (span.the_row.coded.code a0) (expr_code a1))
  expr_code (attributed a0 a1 a2) = gcons (gnum 13) (gcons (span.the_row.coded.code a0) (gcons ((coded_list attribute.the_row.coded).code a1) (expr_code a2)))
  expr_code (closure a0 a1 a2 a3 a4 a5) =
      gcons (gnum 14) (gcons (span.the_row.coded.code a0) (gcons (span.the_row.coded.code a1) (gcons (coded_bool.code a2) (gcons ((coded_list param.the_row.coded).code a3) (gcons ((coded_option coded_type_tree).code a4) (expr_code a5))))))
  expr_code (bare_return a0) = gcons (gnum 15) (span.the_row.coded.code a0)
  expr_code (return_with a0 a1) = gcons (gnum 16) (gcons (span.the_row.coded.code a0) (expr_code a1))
  expr_code (break_off a0) = gcons (gnum 17) (span.the_row.coded.code a0)
  expr_code (go_on a0) = gcons (gnum 18) (span.the_row.coded.code a0)
  expr_code (panic a0 a1 a2) = gcons (gnum 19) (gcons (span.the_row.coded.code a0) (gcons (panic_macro.the_row.coded.code a1) ((coded_option span.the_row.coded).code a2)))
  expr_code (logical a0 a1 a2) = gcons (gnum 20) (gcons (span.the_row.coded.code a0) (gcons (ghost_macro.the_row.coded.code a1) (coded_pterm.code a2)))
  expr_code (assign a0 a1 a2) = gcons (gnum 21) (gcons (span.the_row.coded.code a0) (gcons (expr_code a1) (expr_code a2)))
  expr_code (update a0 a1 a2 a3 a4) = gcons (gnum 22) (gcons (span.the_row.coded.code a0) (gcons (binary_op.the_row.coded.code a1) (gcons (span.the_row.coded.code a2) (gcons (expr_code a3) (expr_code a4)))))
  expr_code (lazy a0 a1 a2 a3) = gcons (gnum 23) (gcons (span.the_row.coded.code a0) (gcons (lazy_op.the_row.coded.code a1) (gcons (expr_code a2) (expr_code a3))))
  expr_code (binary a0 a1 a2 a3 a4) = gcons (gnum 24) (gcons (span.the_row.coded.code a0) (gcons (binary_op.the_row.coded.code a1) (gcons (span.the_row.coded.code a2) (gcons (expr_code a3) (expr_code a4)))))
  expr_code (cast a0 a1 a2) = gcons (gnum 25) (gcons (span.the_row.coded.code a0) (gcons (expr_code a1) (coded_type_tree.code a2)))
  expr_code (unary a0 a1 a2 a3) = gcons (gnum 26) (gcons (span.the_row.coded.code a0) (gcons (unary_op.the_row.coded.code a1) (gcons (span.the_row.coded.code a2) (expr_code a3))))
  expr_code (borrow a0 a1 a2) = gcons (gnum 27) (gcons (span.the_row.coded.code a0) (gcons (coded_bool.code a1) (expr_code a2)))
  expr_code (field a0 a1 a2 a3) = gcons (gnum 28) (gcons (span.the_row.coded.code a0) (gcons (expr_code a1) (gcons (segment.the_row.coded.code a2) ((coded_list coded_type_tree).code a3))))
  expr_code (part a0 a1 a2) = gcons (gnum 29) (gcons (span.the_row.coded.code a0) (gcons (expr_code a1) (number.the_row.coded.code a2)))
  expr_code (method a0 a1 a2 a3 a4) = gcons (gnum 30) (gcons (span.the_row.coded.code a0) (gcons (expr_code a1) (gcons (segment.the_row.coded.code a2) (gcons ((coded_list coded_type_tree).code a3) (exprs_code a4)))))
  expr_code (call a0 a1 a2) = gcons (gnum 31) (gcons (span.the_row.coded.code a0) (gcons (expr_code a1) (exprs_code a2)))

  pub exprs_code : Exprs → Gv
  exprs_code none = gcons (gnum 0) gnil
  exprs_code (more a0 a1) = gcons (gnum 1) (gcons (expr_code a0) (exprs_code a1))

  pub stmts_code : Stmts → Gv
  stmts_code no_stmts = gcons (gnum 0) gnil
  stmts_code (with_stmt a0 a1 a2 a3) = gcons (gnum 1) (gcons (span.the_row.coded.code a0) (gcons (stmt_kind.the_row.coded.code a1) (gcons (expr_code a2) (stmts_code a3))))

  pub arms_code : Arms → Gv
  arms_code no_arms = gcons (gnum 0) gnil
  arms_code (with_arm a0 a1 a2 a3) = gcons (gnum 1) (gcons (span.the_row.coded.code a0) (gcons (coded_pat.code a1) (gcons (expr_code a2) (arms_code a3))))

  pub field_exprs_code : FieldExprs → Gv
  field_exprs_code no_fields = gcons (gnum 0) gnil
  field_exprs_code (with_field a0 a1 a2 a3) = gcons (gnum 1) (gcons (span.the_row.coded.code a0) (gcons (segment.the_row.coded.code a1) (gcons (expr_code a2) (field_exprs_code a3))))

mutual
  pub expr_injective : (x y : Expr) → expr_code x ≡ expr_code y → x ≡ y
  expr_injective (integer a0 a1 a2) (integer b0 b1 b2) p = λ i. integer
      (span.the_row.coded.inj a0 b0 (ap (λ g. head (tail g)) p) i)
      (coded_ℤ.inj a1 b1 (ap (λ g. head (tail (tail g))) p) i)
      ((coded_option int_kind.the_row.coded).inj a2 b2 (ap (λ g. tail (tail (tail g))) p) i)
  expr_injective (truth a0 a1) (truth b0 b1) p = λ i. truth (span.the_row.coded.inj a0 b0 (ap (λ g. head (tail g)) p) i) (coded_bool.inj a1 b1 (ap (λ g. tail (tail g)) p) i)
  expr_injective (receiver a0) (receiver b0) p = λ i. receiver (span.the_row.coded.inj a0 b0 (ap (λ g. tail g) p) i)
  expr_injective (path a0 a1) (path b0 b1) p = λ i. path (span.the_row.coded.inj a0 b0 (ap (λ g. head (tail g)) p) i) (path_of.the_row.coded.inj a1 b1 (ap (λ g. tail (tail g)) p) i)
  expr_injective (literal a0 a1 a2) (literal b0 b1 b2) p = λ i. literal
      (span.the_row.coded.inj a0 b0 (ap (λ g. head (tail g)) p) i)
      (path_of.the_row.coded.inj a1 b1 (ap (λ g. head (tail (tail g))) p) i)
      (field_exprs_injective a2 b2 (ap (λ g. tail (tail (tail g))) p) i)
  expr_injective (tuple a0 a1) (tuple b0 b1) p = λ i. tuple (span.the_row.coded.inj a0 b0 (ap (λ g. head (tail g)) p) i) (exprs_injective a1 b1 (ap (λ g. tail (tail g)) p) i)
  expr_injective (block a0 a1) (block b0 b1) p = λ i. block (span.the_row.coded.inj a0 b0 (ap (λ g. head (tail g)) p) i) (stmts_injective a1 b1 (ap (λ g. tail (tail g)) p) i)
  expr_injective (block_with a0 a1 a2) (block_with b0 b1 b2) p = λ i. block_with
      (span.the_row.coded.inj a0 b0 (ap (λ g. head (tail g)) p) i)
      (stmts_injective a1 b1 (ap (λ g. head (tail (tail g))) p) i)
      (expr_injective a2 b2 (ap (λ g. tail (tail (tail g))) p) i)
  expr_injective (branch a0 a1 a2 a3) (branch b0 b1 b2 b3) p = λ i. branch
      (span.the_row.coded.inj a0 b0 (ap (λ g. head (tail g)) p) i)
      ((coded_option coded_pat).inj a1 b1 (ap (λ g. head (tail (tail g))) p) i)
      (expr_injective a2 b2 (ap (λ g. head (tail (tail (tail g)))) p) i)
      (expr_injective a3 b3 (ap (λ g. tail (tail (tail (tail g)))) p) i)
  expr_injective (choice a0 a1 a2 a3 a4) (choice b0 b1 b2 b3 b4) p = λ i. choice
      (span.the_row.coded.inj a0 b0 (ap (λ g. head (tail g)) p) i)
      ((coded_option coded_pat).inj a1 b1 (ap (λ g. head (tail (tail g))) p) i)
      (expr_injective a2 b2 (ap (λ g. head (tail (tail (tail g)))) p) i)
      (expr_injective a3 b3 (ap (λ g. head (tail (tail (tail (tail g))))) p) i)
      (expr_injective a4 b4 (ap (λ g. tail (tail (tail (tail (tail g))))) p) i)
  expr_injective (matching a0 a1 a2) (matching b0 b1 b2) p = λ i. matching
      (span.the_row.coded.inj a0 b0 (ap (λ g. head (tail g)) p) i)
      (expr_injective a1 b1 (ap (λ g. head (tail (tail g))) p) i)
      (arms_injective a2 b2 (ap (λ g. tail (tail (tail g))) p) i)
  expr_injective (repeat a0 a1 a2 a3) (repeat b0 b1 b2 b3) p = λ i. repeat
      (span.the_row.coded.inj a0 b0 (ap (λ g. head (tail g)) p) i)
      ((coded_option coded_pat).inj a1 b1 (ap (λ g. head (tail (tail g))) p) i)
      (expr_injective a2 b2 (ap (λ g. head (tail (tail (tail g)))) p) i)
      (expr_injective a3 b3 (ap (λ g. tail (tail (tail (tail g)))) p) i)
  expr_injective (endless a0 a1) (endless b0 b1) p = λ i. endless (span.the_row.coded.inj a0 b0 (ap (λ g. head (tail g)) p) i) (expr_injective a1 b1 (ap (λ g. tail (tail g)) p) i)
  expr_injective (attributed a0 a1 a2) (attributed b0 b1 b2) p = λ i. attributed
      (span.the_row.coded.inj a0 b0 (ap (λ g. head (tail g)) p) i)
      ((coded_list attribute.the_row.coded).inj a1 b1 (ap (λ g. head (tail (tail g))) p) i)
      (expr_injective a2 b2 (ap (λ g. tail (tail (tail g))) p) i)
  expr_injective (closure a0 a1 a2 a3 a4 a5) (closure b0 b1 b2 b3 b4 b5) p = λ i. closure
      (span.the_row.coded.inj a0 b0 (ap (λ g. head (tail g)) p) i)
      (span.the_row.coded.inj a1 b1 (ap (λ g. head (tail (tail g))) p) i)
      (coded_bool.inj a2 b2 (ap (λ g. head (tail (tail (tail g)))) p) i)
      ((coded_list param.the_row.coded).inj a3 b3 (ap (λ g. head (tail (tail (tail (tail g))))) p) i)
      ((coded_option coded_type_tree).inj a4 b4 (ap (λ g. head (tail (tail (tail (tail (tail g)))))) p) i)
      (expr_injective a5 b5 (ap (λ g. tail (tail (tail (tail (tail (tail g)))))) p) i)
  expr_injective (bare_return a0) (bare_return b0) p = λ i. bare_return (span.the_row.coded.inj a0 b0 (ap (λ g. tail g) p) i)
  expr_injective (return_with a0 a1) (return_with b0 b1) p = λ i. return_with (span.the_row.coded.inj a0 b0 (ap (λ g. head (tail g)) p) i) (expr_injective a1 b1 (ap (λ g. tail (tail g)) p) i)
  expr_injective (break_off a0) (break_off b0) p = λ i. break_off (span.the_row.coded.inj a0 b0 (ap (λ g. tail g) p) i)
  expr_injective (go_on a0) (go_on b0) p = λ i. go_on (span.the_row.coded.inj a0 b0 (ap (λ g. tail g) p) i)
  expr_injective (panic a0 a1 a2) (panic b0 b1 b2) p = λ i. panic
      (span.the_row.coded.inj a0 b0 (ap (λ g. head (tail g)) p) i)
      (panic_macro.the_row.coded.inj a1 b1 (ap (λ g. head (tail (tail g))) p) i)
      ((coded_option span.the_row.coded).inj a2 b2 (ap (λ g. tail (tail (tail g))) p) i)
  expr_injective (logical a0 a1 a2) (logical b0 b1 b2) p = λ i. logical
      (span.the_row.coded.inj a0 b0 (ap (λ g. head (tail g)) p) i)
      (ghost_macro.the_row.coded.inj a1 b1 (ap (λ g. head (tail (tail g))) p) i)
      (coded_pterm.inj a2 b2 (ap (λ g. tail (tail (tail g))) p) i)
  expr_injective (assign a0 a1 a2) (assign b0 b1 b2) p = λ i. assign
      (span.the_row.coded.inj a0 b0 (ap (λ g. head (tail g)) p) i)
      (expr_injective a1 b1 (ap (λ g. head (tail (tail g))) p) i)
      (expr_injective a2 b2 (ap (λ g. tail (tail (tail g))) p) i)
  expr_injective (update a0 a1 a2 a3 a4) (update b0 b1 b2 b3 b4) p = λ i. update
      (span.the_row.coded.inj a0 b0 (ap (λ g. head (tail g)) p) i)
      (binary_op.the_row.coded.inj a1 b1 (ap (λ g. head (tail (tail g))) p) i)
      (span.the_row.coded.inj a2 b2 (ap (λ g. head (tail (tail (tail g)))) p) i)
      (expr_injective a3 b3 (ap (λ g. head (tail (tail (tail (tail g))))) p) i)
      (expr_injective a4 b4 (ap (λ g. tail (tail (tail (tail (tail g))))) p) i)
  expr_injective (lazy a0 a1 a2 a3) (lazy b0 b1 b2 b3) p = λ i. lazy
      (span.the_row.coded.inj a0 b0 (ap (λ g. head (tail g)) p) i)
      (lazy_op.the_row.coded.inj a1 b1 (ap (λ g. head (tail (tail g))) p) i)
      (expr_injective a2 b2 (ap (λ g. head (tail (tail (tail g)))) p) i)
      (expr_injective a3 b3 (ap (λ g. tail (tail (tail (tail g)))) p) i)
  expr_injective (binary a0 a1 a2 a3 a4) (binary b0 b1 b2 b3 b4) p = λ i. binary
      (span.the_row.coded.inj a0 b0 (ap (λ g. head (tail g)) p) i)
      (binary_op.the_row.coded.inj a1 b1 (ap (λ g. head (tail (tail g))) p) i)
      (span.the_row.coded.inj a2 b2 (ap (λ g. head (tail (tail (tail g)))) p) i)
      (expr_injective a3 b3 (ap (λ g. head (tail (tail (tail (tail g))))) p) i)
      (expr_injective a4 b4 (ap (λ g. tail (tail (tail (tail (tail g))))) p) i)
  expr_injective (cast a0 a1 a2) (cast b0 b1 b2) p = λ i. cast
      (span.the_row.coded.inj a0 b0 (ap (λ g. head (tail g)) p) i)
      (expr_injective a1 b1 (ap (λ g. head (tail (tail g))) p) i)
      (coded_type_tree.inj a2 b2 (ap (λ g. tail (tail (tail g))) p) i)
  expr_injective (unary a0 a1 a2 a3) (unary b0 b1 b2 b3) p = λ i. unary
      (span.the_row.coded.inj a0 b0 (ap (λ g. head (tail g)) p) i)
      (unary_op.the_row.coded.inj a1 b1 (ap (λ g. head (tail (tail g))) p) i)
      (span.the_row.coded.inj a2 b2 (ap (λ g. head (tail (tail (tail g)))) p) i)
      (expr_injective a3 b3 (ap (λ g. tail (tail (tail (tail g)))) p) i)
  expr_injective (borrow a0 a1 a2) (borrow b0 b1 b2) p = λ i. borrow
      (span.the_row.coded.inj a0 b0 (ap (λ g. head (tail g)) p) i)
      (coded_bool.inj a1 b1 (ap (λ g. head (tail (tail g))) p) i)
      (expr_injective a2 b2 (ap (λ g. tail (tail (tail g))) p) i)
  expr_injective (field a0 a1 a2 a3) (field b0 b1 b2 b3) p = λ i. field
      (span.the_row.coded.inj a0 b0 (ap (λ g. head (tail g)) p) i)
      (expr_injective a1 b1 (ap (λ g. head (tail (tail g))) p) i)
      (segment.the_row.coded.inj a2 b2 (ap (λ g. head (tail (tail (tail g)))) p) i)
      ((coded_list coded_type_tree).inj a3 b3 (ap (λ g. tail (tail (tail (tail g)))) p) i)
  expr_injective (part a0 a1 a2) (part b0 b1 b2) p = λ i. part
      (span.the_row.coded.inj a0 b0 (ap (λ g. head (tail g)) p) i)
      (expr_injective a1 b1 (ap (λ g. head (tail (tail g))) p) i)
      (number.the_row.coded.inj a2 b2 (ap (λ g. tail (tail (tail g))) p) i)
  expr_injective (method a0 a1 a2 a3 a4) (method b0 b1 b2 b3 b4) p = λ i. method
      (span.the_row.coded.inj a0 b0 (ap (λ g. head (tail g)) p) i)
      (expr_injective a1 b1 (ap (λ g. head (tail (tail g))) p) i)
      (segment.the_row.coded.inj a2 b2 (ap (λ g. head (tail (tail (tail g)))) p) i)
      ((coded_list coded_type_tree).inj a3 b3 (ap (λ g. head (tail (tail (tail (tail g))))) p) i)
      (exprs_injective a4 b4 (ap (λ g. tail (tail (tail (tail (tail g))))) p) i)
  expr_injective (call a0 a1 a2) (call b0 b1 b2) p = λ i. call
      (span.the_row.coded.inj a0 b0 (ap (λ g. head (tail g)) p) i)
      (expr_injective a1 b1 (ap (λ g. head (tail (tail g))) p) i)
      (exprs_injective a2 b2 (ap (λ g. tail (tail (tail g))) p) i)
  expr_injective x y p = absurd (omega (arith, ap tag p))

  pub exprs_injective : (x y : Exprs) → exprs_code x ≡ exprs_code y → x ≡ y
  exprs_injective none none p = refl
  exprs_injective (more a0 a1) (more b0 b1) p = λ i. more (expr_injective a0 b0 (ap (λ g. head (tail g)) p) i) (exprs_injective a1 b1 (ap (λ g. tail (tail g)) p) i)
  exprs_injective x y p = absurd (omega (arith, ap tag p))

  pub stmts_injective : (x y : Stmts) → stmts_code x ≡ stmts_code y → x ≡ y
  stmts_injective no_stmts no_stmts p = refl
  stmts_injective (with_stmt a0 a1 a2 a3) (with_stmt b0 b1 b2 b3) p = λ i. with_stmt
      (span.the_row.coded.inj a0 b0 (ap (λ g. head (tail g)) p) i)
      (stmt_kind.the_row.coded.inj a1 b1 (ap (λ g. head (tail (tail g))) p) i)
      (expr_injective a2 b2 (ap (λ g. head (tail (tail (tail g)))) p) i)
      (stmts_injective a3 b3 (ap (λ g. tail (tail (tail (tail g)))) p) i)
  stmts_injective x y p = absurd (omega (arith, ap tag p))

  pub arms_injective : (x y : Arms) → arms_code x ≡ arms_code y → x ≡ y
  arms_injective no_arms no_arms p = refl
  arms_injective (with_arm a0 a1 a2 a3) (with_arm b0 b1 b2 b3) p = λ i. with_arm
      (span.the_row.coded.inj a0 b0 (ap (λ g. head (tail g)) p) i)
      (coded_pat.inj a1 b1 (ap (λ g. head (tail (tail g))) p) i)
      (expr_injective a2 b2 (ap (λ g. head (tail (tail (tail g)))) p) i)
      (arms_injective a3 b3 (ap (λ g. tail (tail (tail (tail g)))) p) i)
  arms_injective x y p = absurd (omega (arith, ap tag p))

  pub field_exprs_injective : (x y : FieldExprs) → field_exprs_code x ≡ field_exprs_code y → x ≡ y
  field_exprs_injective no_fields no_fields p = refl
  field_exprs_injective (with_field a0 a1 a2 a3) (with_field b0 b1 b2 b3) p = λ i. with_field
      (span.the_row.coded.inj a0 b0 (ap (λ g. head (tail g)) p) i)
      (segment.the_row.coded.inj a1 b1 (ap (λ g. head (tail (tail g))) p) i)
      (expr_injective a2 b2 (ap (λ g. head (tail (tail (tail g)))) p) i)
      (field_exprs_injective a3 b3 (ap (λ g. tail (tail (tail (tail g)))) p) i)
  field_exprs_injective x y p = absurd (omega (arith, ap tag p))

abbrev pub coded_expr : Coded Expr
coded_expr = record { code = expr_code; inj = expr_injective }
