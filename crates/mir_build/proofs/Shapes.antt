-- A property of texts that each shape keeps holds of every text that is lowered.
use Rattle.std.proofs.Common.{◌≡◌, sym, subst, ℕ, Bool, true, false, List, [], ◌∷◌, ◌++◌, drop, Option, Some}
use Rattle.logic_term.specs.declared.kinds.Label.{Label}
use Rattle.logic_term.specs.Ty.{Ty}
use Rattle.text_core.specs.declared.refusal.Cause.{Cause}
use Rattle.text_core.specs.declared.span.Span.{Span}
use Rattle.mir_ir.specs.declared.place.Place.{Place}
use Rattle.mir_ir.specs.declared.statement.Statement.{Statement}
use Rattle.mir_ir.specs.declared.terminator.TerminatorKind.TheVariants.{Goto, Panic}
use Rattle.source_kinds.specs.declared.kinds.LazyOp.{LazyOp}
use Rattle.source_kinds.specs.declared.kinds.LazyOp.TheVariants as lazy_op
use Rattle.pat_check.specs.Decision.{Decision}
use Rattle.type_check.specs.TypedExpr.{TypedExpr, TypedStmts, TypedExprs, TypedArms}
use Rattle.mir_build.specs.declared.around.Loop.{Loop}
use Rattle.mir_build.specs.Text.{Line, Puts, Makes, Leaves}
use Rattle.mir_build.specs.Lowering.{Around, Formula, binds, looping, innermost, ends, dies_in, test, fork, split, met, calls, turning, spinning, circling, returning, lazily, Into, of_integer, of_truth, of_variable, of_negative, of_denied, of_cast, of_binary, of_lazy, of_assign}
use Rattle.mir_build.specs.Lowering.{of_update, of_call, of_make, of_part, of_block, of_branch, of_choice, of_leaving_choice, of_repeat, of_panics, of_returned, of_endless, of_until_break, of_break_off, of_go_on, Rest, of_done, of_last, of_leaving}
use Rattle.mir_build.specs.Lowering.{of_bind, of_run, Args, of_none, of_more, PlaceOf, of_name, of_part_place, of_temporary, of_matched, Tests, at_arm, on_truth, on_literal, ArmInto, of_unbound, of_bound, of_later, IntoBody, of_outermost, of_other}
use Rattle.mir_build.proofs.Jumps.{deaths, first_dies_last}

-- the property P holds of what a shape makes where it holds of its parts; Q is one of texts whose edge to the block of the label, if there is one, is still to
-- come
pub record Keeps (P : Around → List Line → Type 0) (Q : Around → Option Label → List Line → Type 0) : Type 0 where
  pub nothing : (c : Around) → P c []
  pub put : (c : Around) (s : Statement) (xs : List Line) → P c xs → P c (Puts s ∷ xs)
  pub make : (c : Around) (x : ℕ) (t : Ty) (xs : List Line) → P c xs → P c (Makes x t ∷ xs)
  pub join : (c : Around) (xs ys : List Line) → P c xs → P c ys → P c (xs ++ ys)
  pub called : (c : Around) (s : Span) (f d : ℕ) (ts : List ℕ) (after : Label) → P c (calls c s f d ts after ∷ [])
  pub tested : (c : Around) (s : Span) (t : ℕ) (yes' no' after : Label) (xs ys : List Line) → P c xs → P c ys → P c (test c s t yes' no' after xs ys)
  pub forked : (c : Around) (s : Span) (t : ℕ) (yes' no' : Label) (xs ys : List Line) → P c xs → P c ys → P c (fork c s t yes' no' xs ys)
  pub panicked : (c : Around) (s : Span) (k : Cause) → P c (Leaves (ends s (Panic k)) ∷ [])
  pub returned : (c : Around) (s : Span) (xs : List Line) → P c xs → P c (returning s xs)
  pub circled : (c : Around) (s : Span) (head : Label) (fs : List Formula) (u : ℕ) (U : Ty) (ys : List Line) → P (looping c head head) ys → P c (circling c s head fs u U ys)
  pub turned : (c : Around) (s : Span) (head body after : Label) (fs : List Formula) (t : ℕ) (T : Ty) (xs : List Line) (u : ℕ) (U : Ty) (ys zs : List Line)
      → P (looping c head after) xs → P (looping c head after) ys → P c zs → P c (turning c s head body after fs t T xs u U ys zs)
  pub spun : (c : Around) (s : Span) (head after : Label) (fs : List Formula) (u : ℕ) (U : Ty) (ys zs : List Line) → P (looping c head after) ys → P c zs → P c (spinning c s head after fs u U ys zs)
  -- edges of the innermost loop, to behind it and to its head
  pub broken : (c : Around) (s : Span) (l : Loop) → innermost c ≡ Some l → P c (Leaves (ends s (Goto l.after)) ∷ [])
  pub gone_on : (c : Around) (s : Span) (l : Loop) → innermost c ≡ Some l → P c (Leaves (ends s (Goto l.head)) ∷ [])
  pub ended : (c : Around) (to : Option Label) (xs : List Line) → P c xs → Q c to xs
  pub told : (c : Around) (s : Span) (u : ℕ) (U : Ty) (v : Statement) (yes' no' : Label) (to : Option Label) (xs ys : List Line) → Q c to xs → Q c to ys → Q c to (Makes u U ∷ Puts v ∷ split c s u yes' no' to xs ys)
  pub meeting : (c : Around) (s : Span) (to : Option Label) (xs : List Line) → Q c to xs → P c (xs ++ met c s to)
  -- a text with one variable more in scope
  pub bound : (c : Around) (t : ℕ) (xs : List Line) → P (binds c t) xs → P c xs

module _ (P : Around → List Line → Type 0) (Q : Around → Option Label → List Line → Type 0) (keeps : Keeps P Q) where
  one : (c : Around) (s : Statement) → P c (Puts s ∷ [])
  one c s = keeps.put c s [] (keeps.nothing c)

  two : (c : Around) (s t : Statement) → P c (Puts s ∷ Puts t ∷ [])
  two c s t = keeps.put c s _ (one c t)

  three : (c : Around) (s t u : Statement) → P c (Puts s ∷ Puts t ∷ Puts u ∷ [])
  three c s t u = keeps.put c s _ (two c t u)

  -- a local that a text writes, and what stands behind it
  made_then : (c : Around) (x : ℕ) (t : Ty) (xs ys : List Line) → P c xs → P c ys → P c (Makes x t ∷ (xs ++ ys))
  made_then c x t xs ys p q = keeps.make c x t _ (keeps.join c xs ys p q)

  of_lazily : (op : LazyOp) (c : Around) (s : Span) (t d : ℕ) (yes' no' after : Label) (ys : List Line) → P c ys → P c (lazily op c s t d yes' no' after ys)
  of_lazily lazy_op.And c s t d yes' no' after ys p = keeps.tested c s t yes' no' after ys _ p (one c _)
  of_lazily lazy_op.Or c s t d yes' no' after ys p = keeps.tested c s t yes' no' after _ ys (one c _) p

  of_dying : (outer : Bool) (c : Around) (s : Span) (x : ℕ) → P c (dies_in outer s x)
  of_dying true c s x = keeps.nothing c
  of_dying false c s x = one c _

  of_deaths : (c : Around) (s : Span) (ps : List Place) → P c (deaths s ps)
  of_deaths c s [] = keeps.nothing c
  of_deaths c s (p ∷ ps) = subst (P c) (sym (first_dies_last s p ps)) (keeps.join c (deaths s ps) _ (of_deaths c s ps) (one c _))

  mutual
    of_text : (c : Around) (e : TypedExpr) (d : ℕ) (xs : List Line) → Into c e d xs → P c xs
    of_text c e d xs of_integer = one c _
    of_text c e d xs of_truth = one c _
    of_text c e d xs (of_variable x q k) = one c _
    of_text c e d xs (of_negative {xs = us} p) = made_then c _ _ us _ (of_text c _ _ us p) (one c _)
    of_text c e d xs (of_denied {xs = us} p) = made_then c _ _ us _ (of_text c _ _ us p) (one c _)
    of_text c e d xs (of_cast {xs = us} p) = made_then c _ _ us _ (of_text c _ _ us p) (one c _)
    of_text c e d xs (of_binary {xs = us} {ys = vs} p q) = made_then c _ _ us _ (of_text c _ _ us p) (made_then c _ _ vs _ (of_text c _ _ vs q) (one c _))
    of_text c e d xs (of_lazy {s = s} {op = op} {t = t} yes' no' after {xs = us} {ys = vs} p q) = made_then c _ _ us _ (of_text c _ _ us p) (of_lazily op c s t d yes' no' after vs (of_text c _ _ vs q))
    of_text c e d xs (of_assign {xs = us} {ys = vs} p q) = made_then c _ _ us _ (of_text c _ _ us p) (keeps.join c vs _ (of_place c _ _ vs q) (two c _ _))
    of_text c e d xs (of_update u {xs = us} {ys = vs} p q) = made_then c _ _ us _ (of_text c _ _ us p) (keeps.join c vs _ (of_place c _ _ vs q) (keeps.make c u _ _ (three c _ _ _)))
    of_text c e d xs (of_call after {xs = us} p) = keeps.join c us _ (of_args c _ _ us p) (keeps.called c _ _ _ _ after)
    of_text c e d xs (of_make {xs = us} p) = keeps.join c us _ (of_args c _ _ us p) (one c _)
    of_text c e d xs (of_part {xs = us} p k) = keeps.join c us _ (of_place c _ _ us p) (one c _)
    of_text c e d xs (of_block p) = of_rest c _ _ _ _ xs p
    of_text c e d xs (of_branch {s = s} {t = t} yes' no' after {xs = us} {ys = vs} p q) = made_then c _ _ us _ (of_text c _ _ us p) (keeps.tested c s t yes' no' after vs _ (of_text c _ _ vs q) (one c _))
    of_text c e d xs (of_choice {s = s} {t = t} yes' no' after {xs = us} {ys = vs} {zs = ws} n p q r) =
        made_then c _ _ us _ (of_text c _ _ us p) (keeps.tested c s t yes' no' after vs ws (of_text c _ _ vs q) (of_text c _ _ ws r))
    of_text c e d xs (of_leaving_choice {s = s} {t = t} yes' no' {xs = us} {ys = vs} {zs = ws} n p q r) =
        made_then c _ _ us _ (of_text c _ _ us p) (keeps.forked c s t yes' no' vs ws (of_text c _ _ vs q) (of_text c _ _ ws r))
    of_text c e d xs (of_matched {s = s} D to {xs = us} {ys = vs} f q l p r) = keeps.join c us _ (of_place c _ _ us p) (keeps.meeting c s to vs (of_tests c s _ _ _ to D d vs r))
    of_text c e d xs (of_repeat {s = s} {t = t} {u = u} head body after fs {xs = us} {ys = vs} g p q) =
        keeps.turned c s head body after fs t _ us u _ vs _ (of_text (looping c head after) _ _ us p) (of_text (looping c head after) _ _ vs q) (one c _)
    of_text c e d xs (of_panics {s = s} {k = k}) = keeps.panicked c s k
    of_text c e d xs (of_returned {s = s} {xs = us} p) = keeps.returned c s us (of_text c _ _ us p)
    of_text c e d xs (of_endless {s = s} {u = u} head fs {ys = vs} g p) = keeps.circled c s head fs u _ vs (of_text (looping c head head) _ _ vs p)
    of_text c e d xs (of_until_break {s = s} {u = u} head after fs {ys = vs} g p) = keeps.spun c s head after fs u _ vs _ (of_text (looping c head after) _ _ vs p) (one c _)
    of_text c e d xs (of_break_off {s = s} l q) = keeps.join c (deaths s (drop l.depth c.scope)) _ (of_deaths c s (drop l.depth c.scope)) (keeps.broken c s l q)
    of_text c e d xs (of_go_on {s = s} l q) = keeps.join c (deaths s (drop l.depth c.scope)) _ (of_deaths c s (drop l.depth c.scope)) (keeps.gone_on c s l q)

    of_place : (c : Around) (e : TypedExpr) (x : Place) (xs : List Line) → PlaceOf c e x xs → P c xs
    of_place c e x xs (of_name x' q) = keeps.nothing c
    of_place c e x xs (of_part_place p) = of_place c _ _ xs p
    of_place c e x xs (of_temporary {xs = us} n p) = keeps.make c _ _ us (of_text c _ _ us p)

    of_tests : (c : Around) (s : Span) (T : Ty) (x : Place) (as' : TypedArms) (to : Option Label) (D : Decision) (d : ℕ) (xs : List Line) → Tests c s T x as' to D d xs → Q c to xs
    of_tests c s T x as' to D d xs (at_arm p) = keeps.ended c to xs (of_arm c s T x as' _ d xs p)
    of_tests c s T x as' to D d xs (on_truth u yes' no' {xs = us} {ys = vs} h p q) = keeps.told c s u _ _ yes' no' to us vs (of_tests c s T x as' to _ d us p) (of_tests c s T x as' to _ d vs q)
    of_tests c s T x as' to D d xs (on_literal u yes' no' k {xs = us} {ys = vs} h g p q) = keeps.told c s u _ _ yes' no' to us vs (of_tests c s T x as' to _ d us p) (of_tests c s T x as' to _ d vs q)

    of_arm : (c : Around) (s : Span) (T : Ty) (x : Place) (as' : TypedArms) (n d : ℕ) (xs : List Line) → ArmInto c s T x as' n d xs → P c xs
    of_arm c s T x as' n d xs (of_unbound p) = of_text c _ d xs p
    of_arm c s T x as' n d xs (of_bound y {xs = us} h k p) = made_then c _ _ _ _ (one c _) (keeps.join c us _ (keeps.bound c y us (of_text (binds c y) _ d us p)) (of_dying false c s y))
    of_arm c s T x as' n d xs (of_later p) = of_arm c s T x _ _ d xs p

    of_rest : (c : Around) (outer : Bool) (s : Span) (ss : TypedStmts) (d : ℕ) (xs : List Line) → Rest c outer s ss d xs → P c xs
    of_rest c outer s ss d xs of_done = one c _
    of_rest c outer s ss d xs (of_last p) = of_text c _ _ xs p
    of_rest c outer s ss d xs (of_leaving {xs = us} p) = keeps.make c _ _ us (of_text c _ _ us p)
    of_rest c outer s ss d xs (of_bind {t = t} {xs = us} {ys = vs} p q) =
        made_then c _ _ us _ (of_text c _ _ us p) (keeps.join c vs _ (keeps.bound c t vs (of_rest (binds c t) _ _ _ _ vs q)) (of_dying outer c s t))
    of_rest c outer s ss d xs (of_run {xs = us} {ys = vs} p q) = made_then c _ _ us vs (of_text c _ _ us p) (of_rest c _ _ _ _ vs q)

    of_args : (c : Around) (es : TypedExprs) (ts : List ℕ) (xs : List Line) → Args c es ts xs → P c xs
    of_args c es ts xs of_none = keeps.nothing c
    of_args c es ts xs (of_more {xs = us} {ys = vs} p q) = made_then c _ _ us vs (of_text c _ _ us p) (of_args c _ _ vs q)

  pub of_body : (c : Around) (e : TypedExpr) (xs : List Line) → IntoBody c e xs → P c xs
  of_body c e xs (of_outermost p) = of_rest c _ _ _ _ xs p
  of_body c e xs (of_other q p) = of_text c e _ xs p
