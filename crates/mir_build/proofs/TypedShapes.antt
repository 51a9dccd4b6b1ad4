-- What the shapes keep holds of the text of each plain expression that is well typed.
use Rattle.std.proofs.Common.{◌≡◌, inl, inr, refl, sym, ◌∙◌, subst, true≢false, ℕ, ℤ, Bool, true, false, List, [], ◌∷◌, ◌++◌, map, length, Option, Some, slice_get, append-nil}
use Rattle.text_core.specs.declared.refusal.Cause.{Cause}
use Rattle.text_core.specs.declared.span.Span.{Span}
use Rattle.logic_term.specs.declared.declaration.AdtDecl.{AdtDecl}
use Rattle.logic_term.specs.declared.kinds.Ctor.{Ctor}
use Rattle.logic_term.specs.declared.kinds.Ctor.TheVariants.{Tuple}
use Rattle.logic_term.specs.declared.kinds.Label.{Label}
use Rattle.logic_term.specs.Ty.{Ty, int, bool}
use Rattle.logic_term.specs.TyView.{tys_of}
use Rattle.rs_types.specs.Copied.{IsCopy}
use Rattle.source_kinds.specs.declared.kinds.BinaryOp.{BinaryOp}
use Rattle.source_kinds.specs.declared.kinds.BinaryOp.TheVariants.{Eq}
use Rattle.source_kinds.specs.declared.kinds.IntKind.{IntKind}
use Rattle.source_kinds.specs.declared.kinds.LazyOp.{LazyOp}
use Rattle.source_kinds.specs.declared.kinds.LazyOp.TheVariants as lazy_op
use Rattle.source_kinds.specs.Range.{fits, widens}
use Rattle.mir_ir.specs.declared.place.Lit.TheVariants as lit
use Rattle.mir_ir.specs.declared.place.Operand.TheVariants.{Copy, Const}
use Rattle.mir_ir.specs.declared.place.Place.{Place}
use Rattle.mir_ir.specs.declared.statement.Rvalue.{Rvalue}
use Rattle.mir_ir.specs.declared.statement.Rvalue.TheVariants.{Use, Binary, Neg, Not, Widen, Make}
use Rattle.mir_ir.specs.declared.terminator.TerminatorKind.TheVariants.{Goto, Panic}
use Rattle.type_check.specs.declared.program.Signature.{Signature}
use Rattle.pat_check.specs.Decision.{Decision}
use Rattle.type_check.specs.TypedExpr.{TypedExpr, TypedStmts, TypedExprs, TypedArms}
use Rattle.type_check.specs.Leaves.{leaves, leaves_at_end, all_arms_leave}
use Rattle.type_check.specs.TypedExprView.{ty_of}
use Rattle.runnable.specs.Runs.{Runs, is_part}
use Rattle.runnable.proofs.RunTypes.{is_copy}
use Rattle.type_check.specs.WellTyped.{unit, operation_ty, is_signed, MakesOf, part_ty, Surroundings, within_loop, EachSpeaks}
use Rattle.mir_build.specs.declared.around.Loop.{Loop}
use Rattle.mir_build.specs.Text.{Line, Leaves}
use Rattle.mir_build.specs.Lowering.{Around, Formula, accepted, whole, part_place, binds, looping, innermost, puts, puts_at, put_unit, moved, ends, made_by, dies_in, die_from, test, fork, split, met, calls, turning, spinning, circling, returning, lazily}
use Rattle.mir_build.specs.Lowering.{by_copy, by_move, Into, of_integer, of_truth, of_variable, of_negative, of_denied, of_cast, of_binary, of_lazy, of_assign, of_update, of_call, of_make, of_part, of_block, of_branch, of_choice, of_leaving_choice}
use Rattle.mir_build.specs.Lowering.{of_repeat, of_panics, of_returned, of_endless, of_until_break, of_break_off, of_go_on}
use Rattle.mir_build.specs.Lowering.{Rest, of_done, of_last, of_leaving, of_bind, of_run, Args, of_none, of_more, PlaceOf, of_name, of_part_place, of_temporary, of_matched, Tests, at_arm, on_truth, on_literal, ArmInto, of_unbound, of_bound, of_later, IntoBody, of_outermost, of_other}
use Rattle.mir_build.proofs.Leaving.{panics_runs, leaving_value, leaving_leaves, leaving_runs, Serves, itself, at_type, serves_runs, last_serves, side_serves, sides_serve, arm_serves, later_serve}
use Rattle.mir_build.proofs.PlainTyping.{IsPlainlyTyped, StatementsFitPlainly, ArgumentsFitPlainly, ArmsFitPlainly}

-- the temporaries that a value takes, the last one first, with their types, and its own type
pub data Takes (c : Around) (Γ : List Ty) : List (ℕ × Ty) → Rvalue → Ty → Type 0 where
  of_number : {z : ℤ} {k : IntKind} {T : Ty} → (T ≡ int k) × (fits k z ≡ true) → Takes c Γ [] (Use (Const (lit.Int z k))) T
  of_bool : {v : Bool} {T : Ty} → T ≡ bool → Takes c Γ [] (Use (Const (lit.Bool v))) T
  of_unit : {T : Ty} → T ≡ unit → Takes c Γ [] (Make Tuple []) T
  of_copy : {T : Ty} (v : ℕ) (p : Place) → slice_get c.scope v ≡ Some p → slice_get Γ v ≡ Some T → Takes c Γ [] (Use (Copy p)) T
  of_minus : {t : ℕ} {T U : Ty} (k : IntKind) → is_signed k ≡ true → U ≡ int k → T ≡ int k → Takes c Γ ((t, T) ∷ []) (Neg (moved t)) U
  of_not : {t : ℕ} {T U : Ty} → U ≡ bool → T ≡ bool → Takes c Γ ((t, T) ∷ []) (Not (moved t)) U
  of_widening : {t : ℕ} {T U : Ty} (j : IntKind) (k : IntKind) → widens j k ≡ true → U ≡ int k → T ≡ int j → Takes c Γ ((t, T) ∷ []) (Widen (moved t) k) U
  of_operation : {t u : ℕ} {op : BinaryOp} {T U V : Ty} → operation_ty op T ≡ Some V → U ≡ T → Takes c Γ ((u, U) ∷ (t, T) ∷ []) (Binary op (moved t) (moved u)) V

-- what a test asks of what is at the place, of the type
pub data Asked (T : Ty) (p : Place) : Rvalue → Type 0 where
  truth_asked : T ≡ bool → Asked T p (Use (Copy p))
  number_asked : {z : ℤ} (k : IntKind) → T ≡ int k → fits k z ≡ true → Asked T p (Binary Eq (Copy p) (Const (lit.Int z k)))

-- `Writes c Γ ts d T xs` is to say of a text that, where the temporaries hold values, it writes a value of the type to local d; `Names c Γ p T xs`
-- that the place, a whole local, has the type behind the text, and `Parts c Γ p T xs` that the place or part has; `Passes c Γ ts Ts xs` that the text writes arguments of the types to the temporaries;
-- `Asks c Γ p T to d U xs` that, where the place holds a value of type T, the text writes one of type U to local d, and its edge to the label is still to come
pub record KeepsTyped (σ : Surroundings) (Writes : Around → List Ty → List (ℕ × Ty) → ℕ → Ty → List Line → Type 0) (Names Parts : Around → List Ty → Place → Ty → List Line → Type 0)
    (Passes : Around → List Ty → List ℕ → List Ty → List Line → Type 0) (Asks : Around → List Ty → Place → Ty → Option Label → ℕ → Ty → List Line → Type 0) : Type 0 where
  pub put : (c : Around) (Γ : List Ty) (ts : List (ℕ × Ty)) (s : Span) (d : ℕ) (r : Rvalue) (T : Ty) → Takes c Γ ts r T → Writes c Γ ts d T (puts s d r ∷ [])
  -- one temporary more
  pub made : (c : Around) (Γ : List Ty) (ts : List (ℕ × Ty)) (t : ℕ) (T : Ty) (xs : List Line) (d : ℕ) (U : Ty) (ys : List Line) → Writes c Γ [] t T xs → Writes c Γ ((t, T) ∷ ts) d U ys → Writes c Γ ts d U (made_by t T xs ++ ys)
  -- one that nothing takes
  pub left : (c : Around) (Γ : List Ty) (t : ℕ) (T : Ty) (d : ℕ) (U : Ty) (xs : List Line) → Writes c Γ [] d U xs → Writes c Γ ((t, T) ∷ []) d U xs
  -- one whose value never comes
  pub leaving : (c : Around) (Γ : List Ty) (t : ℕ) (T : Ty) (d : ℕ) (U : Ty) (xs : List Line) → Writes c Γ [] t T xs → Writes c Γ [] d U xs → Writes c Γ [] d U (made_by t T xs)
  -- what panics serves for every type that runs
  pub panicked : (c : Around) (Γ : List Ty) (s : Span) (k : Cause) (d : ℕ) (T : Ty) → Runs σ.types T → Writes c Γ [] d T (Leaves (ends s (Panic k)) ∷ [])
  -- so does what returns, behind which the answer is in local 0, and a loop that is not left
  pub returned : (c : Around) (Γ : List Ty) (s : Span) (xs : List Line) (d : ℕ) (T : Ty) → Runs σ.types T → Writes c Γ [] 0 σ.answer xs → Writes c Γ [] d T (returning s xs)
  pub circled : (c : Around) (Γ : List Ty) (s : Span) (head : Label) (fs : List Formula) (u : ℕ) (U : Ty) (ys : List Line) (d : ℕ) (T : Ty) → Runs σ.types T → EachSpeaks (length Γ) (map accepted fs)
      → Writes (looping c head head) Γ [] u U ys → Writes c Γ [] d T (circling c s head fs u U ys)
  -- and what leads to behind the innermost loop, or to its head
  pub broken : (c : Around) (Γ : List Ty) (s : Span) (l : Loop) (d : ℕ) (T : Ty) → Runs σ.types T → innermost c ≡ Some l → Writes c Γ [] d T (die_from s l.depth c.scope ++ Leaves (ends s (Goto l.after)) ∷ [])
  pub gone_on : (c : Around) (Γ : List Ty) (s : Span) (l : Loop) (d : ℕ) (T : Ty) → Runs σ.types T → innermost c ≡ Some l → Writes c Γ [] d T (die_from s l.depth c.scope ++ Leaves (ends s (Goto l.head)) ∷ [])
  pub spun : (c : Around) (Γ : List Ty) (s : Span) (head after : Label) (fs : List Formula) (u : ℕ) (U : Ty) (ys : List Line) (d : ℕ) (V : Ty) → V ≡ unit → EachSpeaks (length Γ) (map accepted fs)
      → Writes (looping c head after) Γ [] u U ys → Writes c Γ [] d V (spinning c s head after fs u U ys (put_unit s d ∷ []))
  pub bound : (outer : Bool) (c : Around) (Γ : List Ty) (s : Span) (t : ℕ) (T : Ty) (d : ℕ) (U : Ty) (xs : List Line) → Writes (binds c t) (Γ ++ T ∷ []) [] d U xs → Writes c Γ ((t, T) ∷ []) d U (xs ++ dies_in outer s t)
  pub tested : (c : Around) (Γ : List Ty) (s : Span) (t : ℕ) (T : Ty) (yes' no' after : Label) (d : ℕ) (U : Ty) (xs ys : List Line) → T ≡ bool → Writes c Γ [] d U xs → Writes c Γ [] d U ys
      → Writes c Γ ((t, T) ∷ []) d U (test c s t yes' no' after xs ys)
  pub forked : (c : Around) (Γ : List Ty) (s : Span) (t : ℕ) (T : Ty) (yes' no' : Label) (d : ℕ) (U : Ty) (xs ys : List Line) → T ≡ bool → Writes c Γ [] d U xs → Writes c Γ [] d U ys
      → Writes c Γ ((t, T) ∷ []) d U (fork c s t yes' no' xs ys)
  pub armed : (c : Around) (Γ : List Ty) (p : Place) (T : Ty) (to : Option Label) (d : ℕ) (U : Ty) (xs : List Line) → Writes c Γ [] d U xs → Asks c Γ p T to d U xs
  -- what is at the place is bound
  pub named_there : (c : Around) (Γ : List Ty) (s : Span) (p : Place) (T : Ty) (to : Option Label) (x d : ℕ) (U : Ty) (xs : List Line) → Writes c Γ ((x, T) ∷ []) d U xs → Asks c Γ p T to d U (made_by x T (puts s x (Use (Copy p)) ∷ []) ++ xs)
  pub asked : (c : Around) (Γ : List Ty) (s : Span) (p : Place) (T : Ty) (to : Option Label) (u : ℕ) (r : Rvalue) (yes' no' : Label) (d : ℕ) (U : Ty) (xs ys : List Line) → Asked T p r → Asks c Γ p T to d U xs → Asks c Γ p T to d U ys
      → Asks c Γ p T to d U (made_by u bool (puts s u r ∷ []) ++ split c s u yes' no' to xs ys)
  pub matched : (c : Around) (Γ : List Ty) (s : Span) (p : Place) (T : Ty) (to : Option Label) (d : ℕ) (U : Ty) (xs ys : List Line) → Runs σ.types T → Names c Γ p T xs → Asks c Γ p T to d U ys → Writes c Γ [] d U (xs ++ (ys ++ met c s to))
  pub turned : (c : Around) (Γ : List Ty) (s : Span) (head body after : Label) (fs : List Formula) (t : ℕ) (T : Ty) (xs : List Line) (u : ℕ) (U : Ty) (ys : List Line) (d : ℕ) (V : Ty) → T ≡ bool → V ≡ unit → EachSpeaks (length Γ) (map accepted fs)
      → Writes (looping c head after) Γ [] t T xs → Writes (looping c head after) Γ [] u U ys → Writes c Γ [] d V (turning c s head body after fs t T xs u U ys (put_unit s d ∷ []))
  pub named : (c : Around) (Γ : List Ty) (v : ℕ) (p : Place) (T : Ty) → slice_get c.scope v ≡ Some p → slice_get Γ v ≡ Some T → Names c Γ p T []
  pub temporary : (c : Around) (Γ : List Ty) (t : ℕ) (T : Ty) (xs : List Line) → Writes c Γ [] t T xs → Names c Γ (whole t) T (made_by t T xs)
  pub assigned : (c : Around) (Γ : List Ty) (s : Span) (t : ℕ) (T : Ty) (p : Place) (U : Ty) (d : ℕ) (V : Ty) (xs : List Line) → T ≡ U → V ≡ unit → Names c Γ p U xs
      → Writes c Γ ((t, T) ∷ []) d V (xs ++ puts_at s p (Use (moved t)) ∷ put_unit s d ∷ [])
  pub updated : (c : Around) (Γ : List Ty) (s : Span) (op : BinaryOp) (t u : ℕ) (T : Ty) (p : Place) (U : Ty) (d : ℕ) (V : Ty) (xs : List Line) → operation_ty op T ≡ Some T → T ≡ U → V ≡ unit → Names c Γ p U xs
      → Writes c Γ ((t, T) ∷ []) d V (xs ++ (made_by u T (puts s u (Binary op (Copy p) (moved t)) ∷ []) ++ puts_at s p (Use (moved u)) ∷ put_unit s d ∷ []))
  -- a whole local, and a part of what is at a place
  pub rooted : (c : Around) (Γ : List Ty) (p : Place) (T : Ty) (xs : List Line) → Names c Γ p T xs → Parts c Γ p T xs
  pub further : (c : Around) (Γ : List Ty) (p : Place) (U : Ty) (n : ℕ) (T : Ty) (xs : List Line) → part_ty σ.types U n ≡ Some T → Parts c Γ p U xs → Parts c Γ (part_place p n) T xs
  pub taken : (c : Around) (Γ : List Ty) (s : Span) (p : Place) (d : ℕ) (T : Ty) (xs : List Line) → Runs σ.types T → Parts c Γ p T xs → Writes c Γ [] d T (xs ++ puts s d (Use (Copy p)) ∷ [])
  pub no_arguments : (c : Around) (Γ : List Ty) → Passes c Γ [] [] []
  pub argument : (c : Around) (Γ : List Ty) (t : ℕ) (T U : Ty) (xs : List Line) (ts : List ℕ) (Ts : List Ty) (ys : List Line) → U ≡ T → Writes c Γ [] t U xs → Passes c Γ ts Ts ys → Passes c Γ (t ∷ ts) (T ∷ Ts) (made_by t U xs ++ ys)
  pub constructed : (c : Around) (Γ : List Ty) (s : Span) (k : Ctor) (ts : List ℕ) (Ts : List Ty) (d : ℕ) (T : Ty) (xs : List Line) → Runs σ.types T → MakesOf σ.types k (tys_of Ts) T → Passes c Γ ts Ts xs
      → Writes c Γ [] d T (xs ++ puts s d (Make k (map moved ts)) ∷ [])
  pub called : (c : Around) (Γ : List Ty) (s : Span) (f : ℕ) (g : Signature) (ts : List ℕ) (after : Label) (d : ℕ) (T : Ty) (xs : List Line) → slice_get σ.signatures f ≡ Some g → T ≡ g.answer → Passes c Γ ts g.params xs
      → Writes c Γ [] d T (xs ++ calls c s f d ts after ∷ [])

cast_kind : (j k : IntKind) → int j ≡ int k → j ≡ k
cast_kind j k q = cc

module _ (σ : Surroundings) (Writes : Around → List Ty → List (ℕ × Ty) → ℕ → Ty → List Line → Type 0) (Names Parts : Around → List Ty → Place → Ty → List Line → Type 0)
    (Passes : Around → List Ty → List ℕ → List Ty → List Line → Type 0)
    (Asks : Around → List Ty → Place → Ty → Option Label → ℕ → Ty → List Line → Type 0) (keeps : KeepsTyped σ Writes Names Parts Passes Asks) where
  -- what has a value
  valued : (c : Around) (Γ : List Ty) (b : Bool) (d : ℕ) (T : Ty) (d' : ℕ) (U : Ty) (xs : List Line) → b ≡ false → Serves σ.types b d T d' U → Writes c Γ [] d T xs → Writes c Γ [] d' U xs
  valued c Γ b d T d' U xs n (inl w) p = subst (λ x. Writes c Γ [] x U xs) w.0 (subst (λ V. Writes c Γ [] d V xs) w.1 p)
  valued c Γ b d T d' U xs n (inr w) p = absurd (true≢false (sym w.0 ∙ n))

  unit_put : (c : Around) (Γ : List Ty) (s : Span) (d : ℕ) (T : Ty) → T ≡ unit → Writes c Γ [] d T (put_unit s d ∷ [])
  unit_put c Γ s d T q = keeps.put c Γ [] s d _ T (of_unit q)

  lazily_kept : (op : LazyOp) (c : Around) (Γ : List Ty) (s : Span) (t : ℕ) (T : Ty) (d : ℕ) (U : Ty) (yes' no' after : Label) (xs : List Line) → T ≡ bool → U ≡ bool → Writes c Γ [] d U xs → Writes c Γ ((t, T) ∷ []) d U (lazily op c s t d yes' no' after xs)
  lazily_kept lazy_op.And c Γ s t T d U yes' no' after xs q r p = keeps.tested c Γ s t T yes' no' after d U xs _ q p (keeps.put c Γ [] s d _ U (of_bool r))
  lazily_kept lazy_op.Or c Γ s t T d U yes' no' after xs q r p = keeps.tested c Γ s t T yes' no' after d U _ xs q (keeps.put c Γ [] s d _ U (of_bool r)) p

  -- what runs is Copy, by the declared types around too
  not_moved : (c : Around) (T : Ty) → c.types ≡ σ.types → Runs σ.types T → (IsCopy c.types T → ⊥) → ⊥
  not_moved c T o h k = k (subst (λ (ds : List AdtDecl). IsCopy ds T) (sym o) (is_copy σ.types T h))

  mutual
    of_typed : (i : Bool) (c : Around) → c.types ≡ σ.types → (e : TypedExpr) (d : ℕ) (xs : List Line) → Into c e d xs → (Γ : List Ty) → IsPlainlyTyped (within_loop i σ) Γ e → (d' : ℕ) (U : Ty) → Serves σ.types (leaves e) d (ty_of e) d' U → Writes c Γ [] d' U xs
    of_typed i c o e d xs of_integer Γ h d' U w = valued c Γ _ d _ d' U _ refl w (keeps.put c Γ [] _ d _ _ (of_number h))
    of_typed i c o e d xs of_truth Γ h d' U w = valued c Γ _ d _ d' U _ refl w (keeps.put c Γ [] _ d _ _ (of_bool h))
    of_typed i c o e d xs (of_variable {v = v} x q (by_copy k)) Γ h d' U w = valued c Γ _ d _ d' U _ refl w (keeps.put c Γ [] _ d _ _ (of_copy v x q h.0))
    of_typed i c o e d xs (of_variable {ty = ty} x q (by_move k)) Γ h d' U w = absurd (not_moved c ty o h.1 k)
    of_typed i c o e d xs (of_negative {t = t} {xs = us} p) Γ h d' U w = valued c Γ _ d _ d' U _ refl w (keeps.made c Γ [] t _ us d _ _ (of_typed i c o _ t us p Γ h.4 t _ (itself σ.types)) (keeps.put c Γ _ _ d _ _ (of_minus h.0 h.1 h.2 h.3)))
    of_typed i c o e d xs (of_denied {t = t} {xs = us} p) Γ h d' U w = valued c Γ _ d _ d' U _ refl w (keeps.made c Γ [] t _ us d _ _ (of_typed i c o _ t us p Γ h.2 t _ (itself σ.types)) (keeps.put c Γ _ _ d _ _ (of_not h.0 h.1)))
    of_typed i c o e d xs (of_cast {k = k} {t = t} {xs = us} p) Γ h d' U w =
        let same : h.1 ≡ k = cast_kind h.1 k (sym h.3) in
        valued c Γ _ d _ d' U _ refl w
        (keeps.made c Γ [] t _ us d _ _ (of_typed i c o _ t us p Γ h.5 t _ (itself σ.types)) (keeps.put c Γ _ _ d _ _ (of_widening h.0 k (subst (λ x. widens h.0 x ≡ true) same h.2) refl h.4)))
    of_typed i c o e d xs (of_binary {t = t} {u = u} {xs = us} {ys = vs} p q) Γ h d' U w =
        valued c Γ _ d _ d' U _ refl w
        (keeps.made c Γ [] t _ us d _ _ (of_typed i c o _ t us p Γ h.2 t _ (itself σ.types)) (keeps.made c Γ _ u _ vs d _ _ (of_typed i c o _ u vs q Γ h.3 u _ (itself σ.types)) (keeps.put c Γ _ _ d _ _ (of_operation h.0 h.1))))
    of_typed i c o e d xs (of_lazy {s = s} {op = op} {t = t} yes' no' after {xs = us} {ys = vs} p q) Γ h d' U w =
        valued c Γ _ d _ d' U _ refl w
        (keeps.made c Γ [] t _ us d _ _ (of_typed i c o _ t us p Γ h.3 t _ (itself σ.types)) (lazily_kept op c Γ s t _ d _ yes' no' after vs h.1 h.0 (of_typed i c o _ d vs q Γ h.4 d _ (at_type σ.types (h.2 ∙ sym h.0)))))
    of_typed i c o e d xs (of_assign {s = s} {t = t} {p = x} {xs = us} {ys = vs} p q) Γ h d' U w =
        valued c Γ _ d _ d' U _ refl w (keeps.made c Γ [] t _ us d _ _ (of_typed i c o _ t us p Γ h.3 t _ (itself σ.types)) (keeps.assigned c Γ s t _ x _ d _ vs h.1 h.0 (of_place i c o _ x vs q Γ h.2 h.4)))
    of_typed i c o e d xs (of_update {s = s} {op = op} {t = t} {p = x} u {xs = us} {ys = vs} p q) Γ h d' U w =
        valued c Γ _ d _ d' U _ refl w (keeps.made c Γ [] t _ us d _ _ (of_typed i c o _ t us p Γ h.4 t _ (itself σ.types)) (keeps.updated c Γ s op t u _ x _ d _ vs h.2 h.1 h.0 (of_place i c o _ x vs q Γ h.3 h.5)))
    of_typed i c o e d xs (of_call {s = s} {f = f} {ts = ts} after {xs = us} p) Γ h d' U w = valued c Γ _ d _ d' U _ refl w (keeps.called c Γ s f h.0 ts after d _ us h.1 h.2 (of_args i c o _ ts us p Γ h.0.params h.3))
    of_typed i c o e d xs (of_make {s = s} {k = k} {ts = ts} {xs = us} p) Γ h d' U w = valued c Γ _ d _ d' U _ refl w (keeps.constructed c Γ s k ts h.0 d _ us h.1 h.2 (of_args i c o _ ts us p Γ h.0 h.3))
    of_typed i c o e d xs (of_part {s = s} {p = x} {xs = us} p (by_copy k)) Γ h d' U w = valued c Γ _ d _ d' U _ refl w (keeps.taken c Γ s x d _ us h.0 (of_parts i c o _ x us p Γ h))
    of_typed i c o e d xs (of_part {ty = ty} p (by_move k)) Γ h d' U w = absurd (not_moved c ty o h.0 k)
    of_typed i c o e d xs (of_block p) Γ h d' U w = of_rest i c o _ _ _ d xs p Γ _ h d' U w
    of_typed i c o e d xs (of_branch {s = s} {t = t} yes' no' after {xs = us} {ys = vs} p q) Γ h d' U w =
        valued c Γ _ d _ d' U _ refl w
        (keeps.made c Γ [] t _ us d _ _ (of_typed i c o _ t us p Γ h.3 t _ (itself σ.types)) (keeps.tested c Γ s t _ yes' no' after d _ vs _ h.1 (of_typed i c o _ d vs q Γ h.4 d _ (at_type σ.types (h.2 ∙ sym h.0))) (unit_put c Γ s d _ h.0)))
    of_typed i c o e d xs (of_choice {s = s} {a = a} {b = b} {t = t} yes' no' after {xs = us} {ys = vs} {zs = ws} n p q r) Γ h d' U w =
        valued c Γ _ d _ d' U _ n w
        (keeps.made c Γ [] t _ us d _ _ (of_typed i c o _ t us p Γ h.3 t _ (itself σ.types))
        (keeps.tested c Γ s t _ yes' no' after d _ vs ws h.0 (of_typed i c o _ d vs q Γ h.4 d _ (side_serves σ.types a d _ d _ refl refl h.1)) (of_typed i c o _ d ws r Γ h.5 d _ (side_serves σ.types b d _ d _ refl refl h.2))))
    of_typed i c o e d xs (of_leaving_choice {s = s} {a = a} {b = b} {t = t} yes' no' {xs = us} {ys = vs} {zs = ws} n p q r) Γ h d' U w =
        let g = sides_serve σ.types a b d _ d' U n h.1 h.2 w in
        keeps.made c Γ [] t _ us d' U _ (of_typed i c o _ t us p Γ h.3 t _ (itself σ.types)) (keeps.forked c Γ s t _ yes' no' d' U vs ws h.0 (of_typed i c o _ d vs q Γ h.4 d' U g.0) (of_typed i c o _ d ws r Γ h.5 d' U g.1))
    of_typed i c o e d xs (of_matched {s = s} {p = x} D to {xs = us} {ys = vs} f q l p r) Γ h d' U w =
        keeps.matched c Γ s x _ to d' U us vs h.0 (of_place i c o _ x us p Γ h.1 h.3) (of_tests i c o s _ x _ to D d vs r Γ _ h.0 h.2 d' U w)
    of_typed i c o e d xs (of_repeat {s = s} {t = t} {u = u} head body after fs {xs = us} {ys = vs} g p q) Γ h d' U w =
        valued c Γ _ d _ d' U _ refl w
        (keeps.turned c Γ s head body after fs t _ us u _ vs d _ h.2 h.0 (subst (EachSpeaks (length Γ)) g h.1) (of_typed false (looping c head after) o _ t us p Γ h.4 t _ (itself σ.types)) (of_typed true (looping c head after) o _ u vs q Γ h.5 u _ (itself σ.types)))
    of_typed i c o e d xs (of_panics {ty = T} {s = s} {k = k}) Γ h d' U w = keeps.panicked c Γ s k d' U (serves_runs σ.types _ d T d' U (panics_runs (within_loop i σ) Γ T s k h) w)
    of_typed i c o e d xs (of_returned {ty = T} {s = s} {e = a} {xs = us} p) Γ h d' U w = keeps.returned c Γ s us d' U (serves_runs σ.types _ d T d' U h.0 w) (of_typed i c o a 0 us p Γ h.2 0 _ (at_type σ.types h.1))
    of_typed i c o e d xs (of_endless {ty = T} {s = s} {b = b} {u = u} head fs {ys = vs} g p) Γ h d' U w =
        keeps.circled c Γ s head fs u _ vs d' U (serves_runs σ.types _ d T d' U h.0 w) (subst (EachSpeaks (length Γ)) g h.2) (of_typed true (looping c head head) o b u vs p Γ h.4 u _ (itself σ.types))
    of_typed i c o e d xs (of_until_break {s = s} {b = b} {u = u} head after fs {ys = vs} g p) Γ h d' U w =
        valued c Γ _ d _ d' U _ refl w (keeps.spun c Γ s head after fs u _ vs d _ h.0 (subst (EachSpeaks (length Γ)) g h.2) (of_typed true (looping c head after) o b u vs p Γ h.4 u _ (itself σ.types)))
    of_typed i c o e d xs (of_break_off {ty = T} {s = s} l q) Γ h d' U w = keeps.broken c Γ s l d' U (serves_runs σ.types _ d T d' U h.0 w) q
    of_typed i c o e d xs (of_go_on {ty = T} {s = s} l q) Γ h d' U w = keeps.gone_on c Γ s l d' U (serves_runs σ.types _ d T d' U h.0 w) q

    of_tests : (i : Bool) (c : Around) → c.types ≡ σ.types → (s : Span) (T : Ty) (x : Place) (as' : TypedArms) (to : Option Label) (D : Decision) (d : ℕ) (xs : List Line) → Tests c s T x as' to D d xs
        → (Γ : List Ty) (S : Ty) → Runs σ.types T → ArmsFitPlainly (within_loop i σ) Γ S as' → (d' : ℕ) (U : Ty) → Serves σ.types (all_arms_leave as') d S d' U → Asks c Γ x T to d' U xs
    of_tests i c o s T x as' to D d xs (at_arm p) Γ S g h d' U w = of_arm i c o s T x as' to _ d xs p Γ S g h d' U w
    of_tests i c o s T x as' to D d xs (on_truth u yes' no' {xs = us} {ys = vs} e p q) Γ S g h d' U w =
        keeps.asked c Γ s x T to u _ yes' no' d' U us vs (truth_asked e) (of_tests i c o s T x as' to _ d us p Γ S g h d' U w) (of_tests i c o s T x as' to _ d vs q Γ S g h d' U w)
    of_tests i c o s T x as' to D d xs (on_literal u yes' no' k {xs = us} {ys = vs} e f p q) Γ S g h d' U w =
        keeps.asked c Γ s x T to u _ yes' no' d' U us vs (number_asked k e f) (of_tests i c o s T x as' to _ d us p Γ S g h d' U w) (of_tests i c o s T x as' to _ d vs q Γ S g h d' U w)

    of_arm : (i : Bool) (c : Around) → c.types ≡ σ.types → (s : Span) (T : Ty) (x : Place) (as' : TypedArms) (to : Option Label) (n d : ℕ) (xs : List Line) → ArmInto c s T x as' n d xs
        → (Γ : List Ty) (S : Ty) → Runs σ.types T → ArmsFitPlainly (within_loop i σ) Γ S as' → (d' : ℕ) (U : Ty) → Serves σ.types (all_arms_leave as') d S d' U → Asks c Γ x T to d' U xs
    of_arm i c o s T x as' to n d xs (of_unbound {e = a} {as' = bs} p) Γ S g h d' U w =
        keeps.armed c Γ x T to d' U xs (of_typed i c o a d xs p Γ (subst (λ Δ. IsPlainlyTyped (within_loop i σ) Δ a) (append-nil Γ) h.1) d' U (arm_serves σ.types a (all_arms_leave bs) d S d' U h.0 w))
    of_arm i c o s T x as' to n d xs (of_bound {e = a} {as' = bs} y {xs = us} e (by_copy k) p) Γ S g h d' U w =
        keeps.named_there c Γ s x T to y d' U _
        (keeps.bound false c Γ s y T d' U us (of_typed i (binds c y) o a d us p (Γ ++ T ∷ []) (subst (λ V. IsPlainlyTyped (within_loop i σ) (Γ ++ V ∷ []) a) e h.1) d' U (arm_serves σ.types a (all_arms_leave bs) d S d' U h.0 w)))
    of_arm i c o s T x as' to n d xs (of_bound y e (by_move k) p) Γ S g h d' U w = absurd (not_moved c T o g k)
    of_arm i c o s T x as' to n d xs (of_later {e = a} {as' = bs} p) Γ S g h d' U w = of_arm i c o s T x bs to _ d xs p Γ S g h.2 d' U (later_serve σ.types a (all_arms_leave bs) d S d' U w)

    of_rest : (i : Bool) (c : Around) → c.types ≡ σ.types → (outer : Bool) (s : Span) (ss : TypedStmts) (d : ℕ) (xs : List Line) → Rest c outer s ss d xs → (Γ : List Ty) (T : Ty) → StatementsFitPlainly (within_loop i σ) Γ T ss → (d' : ℕ) (U : Ty) → Serves σ.types (leaves_at_end ss) d T d' U
        → Writes c Γ [] d' U xs
    of_rest i c o outer s ss d xs of_done Γ T h d' U w = valued c Γ _ d T d' U _ refl w (unit_put c Γ s d T h)
    of_rest i c o outer s ss d xs (of_last p) Γ T h d' U w = of_typed i c o _ d xs p Γ h.1 d' U (last_serves σ.types _ d _ T d' U h.0 w)
    of_rest i c o outer s ss d xs (of_leaving {e = e} {t = t} {xs = us} p) Γ T h d' U w =
        let g = leaving_value (within_loop i σ) Γ T e h in
        let never = inr (leaving_leaves (within_loop i σ) Γ T e h, serves_runs σ.types _ d T d' U (leaving_runs (within_loop i σ) Γ T e h) w) in
        keeps.leaving c Γ t _ d' U us (of_typed i c o e t us p Γ g t _ (itself σ.types)) (of_typed i c o e t us p Γ g d' U never)
    of_rest i c o outer s ss d xs (of_bind {t = t} {xs = us} {ys = vs} p q) Γ T h d' U w =
        keeps.made c Γ [] t _ us d' U _ (of_typed i c o _ t us p Γ h.0 t _ (itself σ.types)) (keeps.bound outer c Γ s t _ d' U vs (of_rest i (binds c t) o outer s _ d vs q _ T h.1 d' U w))
    of_rest i c o outer s ss d xs (of_run {t = t} {xs = us} {ys = vs} p q) Γ T h d' U w =
        keeps.made c Γ [] t _ us d' U vs (of_typed i c o _ t us p Γ h.0 t _ (itself σ.types)) (keeps.left c Γ t _ d' U vs (of_rest i c o outer s _ d vs q Γ T h.1 d' U w))

    of_args : (i : Bool) (c : Around) → c.types ≡ σ.types → (es : TypedExprs) (ts : List ℕ) (xs : List Line) → Args c es ts xs → (Γ Ts : List Ty) → ArgumentsFitPlainly (within_loop i σ) Γ es Ts → Passes c Γ ts Ts xs
    of_args i c o es ts xs of_none Γ [] h = keeps.no_arguments c Γ
    of_args i c o es ts xs of_none Γ (T ∷ Ts) h = absurd h
    of_args i c o es ts xs (of_more p q) Γ [] h = absurd h
    of_args i c o es ts xs (of_more {t = t} {ts = us'} {xs = us} {ys = vs} p q) Γ (T ∷ Ts) h = keeps.argument c Γ t T _ us us' Ts vs h.0 (of_typed i c o _ t us p Γ h.1 t _ (itself σ.types)) (of_args i c o _ us' vs q Γ Ts h.2)

    of_place : (i : Bool) (c : Around) → c.types ≡ σ.types → (e : TypedExpr) (x : Place) (xs : List Line) → PlaceOf c e x xs → (Γ : List Ty) → IsPlainlyTyped (within_loop i σ) Γ e → is_part e ≡ false → Names c Γ x (ty_of e) xs
    of_place i c o e x xs (of_name {v = v} y q) Γ h n = keeps.named c Γ v y _ q h.0
    of_place i c o e x xs (of_part_place p) Γ h n = absurd (true≢false n)
    of_place i c o e x xs (of_temporary {t = t} {xs = us} m p) Γ h n = keeps.temporary c Γ t _ us (of_typed i c o e t us p Γ h t _ (itself σ.types))

    of_parts : (i : Bool) (c : Around) → c.types ≡ σ.types → (e : TypedExpr) (x : Place) (xs : List Line) → PlaceOf c e x xs → (Γ : List Ty) → IsPlainlyTyped (within_loop i σ) Γ e → Parts c Γ x (ty_of e) xs
    of_parts i c o e x xs (of_name {v = v} y q) Γ h = keeps.rooted c Γ y _ [] (keeps.named c Γ v y _ q h.0)
    of_parts i c o e x xs (of_part_place {ty = ty} {e = a} {n = n} {p = y} {xs = us} p) Γ h = keeps.further c Γ y (ty_of a) n ty us h.1 (of_parts i c o a y us p Γ h.2)
    of_parts i c o e x xs (of_temporary {t = t} {xs = us} m p) Γ h = keeps.rooted c Γ (whole t) _ (made_by t (ty_of e) us) (keeps.temporary c Γ t _ us (of_typed i c o e t us p Γ h t _ (itself σ.types)))

  pub of_typed_body : (i : Bool) (c : Around) → c.types ≡ σ.types → (e : TypedExpr) (xs : List Line) → IntoBody c e xs → (Γ : List Ty) → IsPlainlyTyped (within_loop i σ) Γ e → Writes c Γ [] 0 (ty_of e) xs
  of_typed_body i c o e xs (of_outermost p) Γ h = of_rest i c o true _ _ 0 xs p Γ _ h 0 _ (itself σ.types)
  of_typed_body i c o e xs (of_other q p) Γ h = of_typed i c o e 0 xs p Γ h 0 _ (itself σ.types)
