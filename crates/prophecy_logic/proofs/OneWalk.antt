-- Two walks from one point are one tree.
use Rattle.std.proofs.Common.{◌≡◌, ◌∙◌, refl, sym, ap, ap₂, ℕ, true, false, List, [], Some, None}
use Rattle.text_core.specs.declared.span.Span.{Span}
use Rattle.logic_term.specs.declared.kinds.Label.{Label}
use Rattle.logic_term.specs.declared.obligation.Contract.{Contract}
use Rattle.logic_term.specs.Ty.{Ty}
use Rattle.mir_ir.specs.declared.place.Operand.{Operand}
use Rattle.mir_ir.specs.declared.place.Place.{Place}
use Rattle.mir_ir.specs.declared.terminator.Terminator.{Terminator}
use Rattle.mir_ir.specs.declared.terminator.TerminatorKind.TheVariants.{Goto, If, Switch, Call, Return, Panic}
use Rattle.mir_ir.specs.declared.body.Body.{Body}
use Rattle.mir_ir.specs.declared.body.Point.{Point}
use Rattle.mir_ir.specs.Layout.{among}
use Rattle.prophecy_logic.specs.Graph.{Setting, Within, by_statement, by_end, Ends, goto, branch, switch, call, return, panic, Sides, no_side, last_side, one_side, Arrives, plain, first, again}
use Rattle.prophecy_logic.specs.Laws.{WalksAreOne}
use Rattle.prophecy_logic.specs.Loop.{head_commands}
use Rattle.prophecy_logic.specs.Row.{goals_of, commands_of}
use Rattle.prophecy_logic.specs.Walk.{where_true, where_false, where_variant, goals_at_entry, goals_of_call, call_commands, Walk, row, fork}
use Rattle.prophecy_logic.proofs.Steps.{some_same, over_statement, to_end, ends_by, sides_by, comes_by}

-- the callee's contract is the one that was found
same_call : (b : Body) (at : Span) (x : _) (args : List Operand) (d d' : Contract) (t t' : Ty) (u u' v : Walk) → d ≡ d' → t ≡ t' → u ≡ u' → v ≡ row (goals_of_call b d' at args) (call_commands b d' x t' args) u'
    → row (goals_of_call b d at args) (call_commands b d x t args) u ≡ v
same_call b at x args d d' t t' u u' v e f g is =
    ap (λ (c : Contract). row (goals_of_call b c at args) (call_commands b c x t args) u) e ∙ ap (λ (s : Ty). row (goals_of_call b d' at args) (call_commands b d' x s args) u) f
    ∙ ap (λ z. row (goals_of_call b d' at args) (call_commands b d' x t' args) z) g ∙ sym is

mutual
  within_once : {w : Setting} {heads : List Label} {p : Point} {u v : Walk} → Within w heads p u → Within w heads p v → u ≡ v
  within_once {w} (by_statement st at r) other =
      let o = over_statement other st at in
      ap (λ z. row (goals_of w.body st.span st.kind) (commands_of w.body st.kind) z) (within_once r o.walks) ∙ sym o.is
  within_once (by_end end at e) other = end_once e (to_end other end at)

  end_once : {w : Setting} {heads : List Label} {end : Terminator} {u v : Walk} → Ends w heads end u → Ends w heads end v → u ≡ v
  end_once (goto l e a) other = arrival_once a (ends_by other (Goto l) e)
  end_once {w} (branch o on_true on_false e a b) other =
      let f = ends_by other (If o on_true on_false) e in
      ap₂ (λ y z. fork (row [] (where_true w.body o) y) (row [] (where_false w.body o) z)) (arrival_once a f.1) (arrival_once b f.3) ∙ sym f.4
  end_once (switch p ls e s) other = sides_once s (ends_by other (Switch p ls) e)
  end_once {w} {end = end} {v = v} (call {v = u} p callee types args l d t e is_d is_t a) other =
      let o = ends_by other (Call p callee types args l) e in
      same_call w.body end.span p.local args d o.2 t o.3 u o.0 v (some_same (sym is_d ∙ o.4)) (some_same (sym is_t ∙ o.5)) (arrival_once a o.1) o.6
  end_once (return e) other = sym (ends_by other Return e)
  end_once (panic cause e) other = sym (ends_by other (Panic cause) e)

  sides_once : {w : Setting} {heads : List Label} {p : Place} {k : ℕ} {ls : List Label} {u v : Walk} → Sides w heads p k ls u → Sides w heads p k ls v → u ≡ v
  sides_once no_side other = sym (sides_by other)
  sides_once {w} {p = p} {k = k} (last_side a) other =
      let o = sides_by other in
      ap (λ z. row [] (where_variant w.body w.decls p k) z) (arrival_once a o.1) ∙ sym o.2
  sides_once {w} {p = p} {k = k} (one_side a s) other =
      let o = sides_by other in
      ap₂ (λ y z. fork (row [] (where_variant w.body w.decls p k) y) z) (arrival_once a o.1) (sides_once s o.3) ∙ sym o.4

  arrival_once : {w : Setting} {heads : List Label} {l : Label} {u v : Walk} → Arrives w heads l u → Arrives w heads l v → u ≡ v
  arrival_once {heads = heads} {l = l} (plain k is e r) other = within_once r (comes_by other k None (among l heads) is e refl)
  arrival_once {w} {l = l} (first k h is e new r) other =
      let o = comes_by other k (Some h) false is e new in
      ap (λ z. row (goals_at_entry h) (head_commands w.body w.init l h) z) (within_once r o.1) ∙ sym o.2
  arrival_once (again k h is e there) other = sym (comes_by other k (Some h) true is e there)

pub walks_are_one : WalksAreOne
walks_are_one w heads l u v a b = arrival_once a b
