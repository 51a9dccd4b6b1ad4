-- What an expression comes to, it comes to by the rules; and by the rules to one thing.
use Rattle.std.proofs.Common.{◌≡◌, Bool, true, false, refl, sym, subst, List, [], Option, Some, None, Result, Ok, Err}
use Rattle.text_core.specs.declared.refusal.SourceError.{SourceError}
use Rattle.text_core.specs.declared.span.Span.{Span}
use Rattle.logic_term.specs.declared.declaration.FieldDecl.{FieldDecl}
use Rattle.logic_term.specs.declared.declaration.VariantKind.TheVariants.{Named}
use Rattle.logic_term.specs.Ty.{Ty, bool}
use Rattle.source_trees.specs.declared.operator.UnaryOp.TheVariants.{Neg, Not}
use Rattle.source_trees.specs.Expr as E
use Rattle.source_trees.specs.Expr.{Expr}
use Rattle.source_trees.specs.Pat.{Pat}
use Rattle.source_trees.specs.TypeTree.{TypeTree}
use Rattle.type_check.specs.declared.operands.Operands.{Operands}
use Rattle.type_check.specs.declared.operands.Order.{Order}
use Rattle.type_check.specs.declared.operands.Order.TheVariants as order
use Rattle.type_check.specs.declared.scope.Variable.{Variable}
use Rattle.type_check.specs.Answers.{◌>>=◌, gather}
use Rattle.type_check.specs.Arms.{Binding, TypedArm, arm_of, pattern_at, in_arm, and_arm}
use Rattle.type_check.specs.Makers.{Maker, maker_of}
use Rattle.type_check.specs.Setting.{Setting, looping, outside}
use Rattle.type_check.specs.TypedExpr.{TypedExpr, TypedExprs, TypedArms}
use Rattle.type_check.specs.TypedExpr as tree
use Rattle.type_check.specs.TypedExprView.{ty_of}
use Rattle.type_check.specs.Typing.{Typed, is_bare, order_of, operands_of, operands, cast_parts, callee_of, params_of, first_of, rest_of, Opened, opened, declared, behind, typed_stmt, given, invariant_of, parts_of, next_field, fields_behind, no_field_left, typed, typed_stmts, typed_args, typed_fields, typed_arm, typed_arms}
use Rattle.type_check.specs.WellTyped.{unit, is_arithmetic}
use Rattle.type_check.specs.Written.{step_of, written_type}
use Rattle.type_check.specs.Rules.{Asks, comes, part, first, operands_in, cast_in, each_arg, each_field, each_stmt, an_arm, each_arm, rule, Types, by_rule, Comes, itself, refused, then, TypedByRules, TypingIsOne}

-- ---- one outcome

mutual
  types_one : (σ : Setting) (Γ : List Variable) (e : Expr) (t : Option Ty) (r other : Typed) → Types σ Γ e t r → Types σ Γ e t other → r ≡ other
  types_one σ Γ e t r other (by_rule c) (by_rule d) = comes_one (rule σ Γ e t) r other c d

  comes_one : (a : Asks) (r other : Typed) → Comes a r → Comes a other → r ≡ other
  comes_one (comes a) r other itself itself = refl
  comes_one (part σ Γ e t k) r other (refused {x = x} c) (refused {x = y} d) = types_one σ Γ e t (Err x) (Err y) c d
  comes_one (part σ Γ e t k) r other (refused {x = x} c) (then {v = w} d m) = let p : Err x ≡ Ok w = types_one σ Γ e t (Err x) (Ok w) c d in absurd (cc)
  comes_one (part σ Γ e t k) r other (then {v = v} c l) (refused {x = y} d) = let p : Ok v ≡ Err y = types_one σ Γ e t (Ok v) (Err y) c d in absurd (cc)
  comes_one (part σ Γ e t k) r other (then {v = v} c l) (then {v = w} d m) =
      let p : Ok v ≡ Ok w = types_one σ Γ e t (Ok v) (Ok w) c d in
      let q : w ≡ v = cc in
      comes_one (k v) r other l (subst (λ u. Comes (k u) other) q m)

pub typing_is_one : TypingIsOne
typing_is_one σ Γ e t r other c d = types_one σ Γ e t r other c d

-- ---- part after part

abbrev assoc : {A B C : Type 0} (m : Result A SourceError) (f : A → Result B SourceError) (g : B → Result C SourceError) → ((m >>= f) >>= g) ≡ (m >>= λ a. f a >>= g)
assoc (Ok a) f g = refl
assoc (Err e) f g = refl

-- what comes of asks, and of a chain that goes on as they do
abbrev Follows : {A : Type 0} → (A → Asks) → (A → Typed) → Type 0
Follows {A} k f = (a : A) → Comes (k a) (f a)

at_first : {A : Type 0} (m : Result A SourceError) (k : A → Asks) (f : A → Typed) → Follows k f → Comes (first m k) (m >>= f)
at_first (Ok a) k f h = h a
at_first (Err e) k f h = itself

at_part : (σ : Setting) (Γ : List Variable) (e : Expr) (t : Option Ty) (m : Typed) (k : TypedExpr → Asks) (f : TypedExpr → Typed) → Types σ Γ e t m → Follows k f → Comes (part σ Γ e t k) (m >>= f)
at_part σ Γ e t (Ok v) k f c h = then c (h v)
at_part σ Γ e t (Err x) k f c h = refused c

-- the same, where what comes of the part is put into something first
at_part_in : {A : Type 0} (σ : Setting) (Γ : List Variable) (e : Expr) (t : Option Ty) (m : Typed) (k : TypedExpr → Asks) (g : TypedExpr → Result A SourceError) (f : A → Typed)
    → Types σ Γ e t m → Follows k (λ v. g v >>= f) → Comes (part σ Γ e t k) ((m >>= g) >>= f)
at_part_in σ Γ e t m k g f c h = subst (Comes (part σ Γ e t k)) (sym (assoc m g f)) (at_part σ Γ e t m k (λ v. g v >>= f) c h)

-- what an expression comes to in a scope at each expected type
abbrev Each : Setting → List Variable → Expr → Type 0
Each σ Γ e = (t : Option Ty) → Types σ Γ e t (typed σ Γ e t)

at_operands : (σ : Setting) (o : Order) (Γ : List Variable) (a b : Expr) (k : Operands → Asks) (f : Operands → Typed) → Each σ Γ a → Each σ Γ b → Follows k f → Comes (operands_in σ o Γ a b k) (operands o (typed σ Γ a) (typed σ Γ b) >>= f)
at_operands σ (order.Against t) Γ a b k f one other h =
    at_part_in σ Γ a (Some t) (typed σ Γ a (Some t)) _ (λ x. typed σ Γ b (Some t) >>= λ y. Ok (operands_of x y)) f (one (Some t))
    (λ x. at_part_in σ Γ b (Some t) (typed σ Γ b (Some t)) _ (λ y. Ok (operands_of x y)) f (other (Some t)) (λ y. h (operands_of x y)))
at_operands σ order.SecondGives Γ a b k f one other h =
    at_part_in σ Γ b None (typed σ Γ b None) _ (λ y. typed σ Γ a (Some (ty_of y)) >>= λ x. Ok (operands_of x y)) f (other None)
    (λ y. at_part_in σ Γ a (Some (ty_of y)) (typed σ Γ a (Some (ty_of y))) _ (λ x. Ok (operands_of x y)) f (one (Some (ty_of y))) (λ x. h (operands_of x y)))
at_operands σ order.FirstGives Γ a b k f one other h =
    at_part_in σ Γ a None (typed σ Γ a None) _ (λ x. typed σ Γ b (Some (ty_of x)) >>= λ y. Ok (operands_of x y)) f (one None)
    (λ x. at_part_in σ Γ b (Some (ty_of x)) (typed σ Γ b (Some (ty_of x))) _ (λ y. Ok (operands_of x y)) f (other (Some (ty_of x))) (λ y. h (operands_of x y)))

at_target : (m : Result Ty SourceError) (a : TypedExpr) (k : TypedExpr × Ty → Asks) (f : TypedExpr × Ty → Typed) → Follows k f → Comes (first m λ u. k (a, u)) ((m >>= λ u. Ok (a, u)) >>= f)
at_target (Ok u) a k f h = h (a, u)
at_target (Err e) a k f h = itself

at_cast : (σ : Setting) (bare : Bool) (Γ : List Variable) (e : Expr) (w : TypeTree) (k : TypedExpr × Ty → Asks) (f : TypedExpr × Ty → Typed) → Each σ Γ e → Follows k f
    → Comes (cast_in σ bare Γ e w k) (cast_parts bare (typed σ Γ e) (written_type σ.types w) >>= f)
at_cast σ true Γ e w k f each h =
    subst (Comes (cast_in σ true Γ e w k)) (sym (assoc (written_type σ.types w) (λ u. typed σ Γ e (Some u) >>= λ a. Ok (a, u)) f))
    (at_first (written_type σ.types w) _ _ (λ u. at_part_in σ Γ e (Some u) (typed σ Γ e (Some u)) _ (λ a. Ok (a, u)) f (each (Some u)) (λ a. h (a, u))))
at_cast σ false Γ e w k f each h =
    at_part_in σ Γ e None (typed σ Γ e None) _ (λ a. written_type σ.types w >>= λ u. Ok (a, u)) f (each None) (λ a. at_target (written_type σ.types w) a k f h)

at_arm : (σ : Setting) (Γ : List Variable) (u : Ty) (t : Option Ty) (p : Pat) (e : Expr) (k : TypedArm → Asks) (f : TypedArm → Typed) → ((b : Binding) → Types σ (in_arm Γ b.1) e t (typed σ (in_arm Γ b.1) e t)) → Follows k f
    → Comes (an_arm σ Γ u t p e k) (typed_arm σ Γ u t p e >>= f)
at_arm σ Γ u t p e k f each h =
    subst (Comes (an_arm σ Γ u t p e k)) (sym (assoc (pattern_at σ.types u p) _ f))
    (at_first (pattern_at σ.types u p) _ _ (λ b. at_part_in σ (in_arm Γ b.1) e t (typed σ (in_arm Γ b.1) e t) _ (λ y. Ok (arm_of b y)) f (each b) (λ y. h (arm_of b y))))

mutual
  types : (σ : Setting) (Γ : List Variable) (e : Expr) (t : Option Ty) → Types σ Γ e t (typed σ Γ e t)
  types σ Γ (E.unary s Neg o e) t = by_rule (at_part σ Γ e t (typed σ Γ e t) _ _ (types σ Γ e t) (λ a. itself))
  types σ Γ (E.unary s Not o e) t = by_rule (at_part σ Γ e (Some bool) (typed σ Γ e (Some bool)) _ _ (types σ Γ e (Some bool)) (λ a. itself))
  types σ Γ (E.cast s e w) t = by_rule (at_cast σ (is_bare e) Γ e w _ _ (λ u. types σ Γ e u) (λ p. itself))
  types σ Γ (E.binary s op o a b) t = by_rule (at_operands σ (order_of (is_arithmetic op) t (is_bare a) (is_bare b)) Γ a b _ _ (λ u. types σ Γ a u) (λ u. types σ Γ b u) (λ p. itself))
  types σ Γ (E.lazy s op a b) t = by_rule
      (at_part σ Γ a (Some bool) (typed σ Γ a (Some bool)) _ _ (types σ Γ a (Some bool)) (λ x. at_part σ Γ b (Some bool) (typed σ Γ b (Some bool)) _ _ (types σ Γ b (Some bool)) (λ y. itself)))
  types σ Γ (E.assign s l e) t = by_rule
      (at_part σ Γ l None (typed σ Γ l None) _ _ (types σ Γ l None) (λ a. at_part σ Γ e (Some (ty_of a)) (typed σ Γ e (Some (ty_of a))) _ _ (types σ Γ e (Some (ty_of a))) (λ b. itself)))
  types σ Γ (E.update s op o l e) t = by_rule
      (at_part σ Γ l None (typed σ Γ l None) _ _ (types σ Γ l None) (λ a. at_part σ Γ e (Some (ty_of a)) (typed σ Γ e (Some (ty_of a))) _ _ (types σ Γ e (Some (ty_of a))) (λ b. itself)))
  types σ Γ (E.call s f es) t = by_rule (at_first (callee_of σ Γ t s f) _ _ (λ g. at_args σ Γ es (params_of g) _ _ (λ as'. itself)))
  types σ Γ (E.tuple s es) t = by_rule (at_args σ Γ es (parts_of t) _ _ (λ as'. itself))
  types σ Γ (E.part s e k) t = by_rule (at_part σ Γ e None (typed σ Γ e None) _ _ (types σ Γ e None) (λ a. itself))
  types σ Γ (E.field s e x []) t = by_rule (at_part σ Γ e None (typed σ Γ e None) _ _ (types σ Γ e None) (λ a. itself))
  types σ Γ (E.literal s p fs) t = by_rule (at_first (maker_of σ.types Named t s p.node) _ _ (λ m. at_fields σ Γ s m m.fields fs _ _ (λ as'. itself)))
  types σ Γ (E.block s ss) t = by_rule (at_stmts σ Γ ss _ _ (λ o. itself))
  types σ Γ (E.block_with s ss e) t = by_rule (at_stmts σ Γ ss _ _ (λ o. at_part σ o.scope e t (typed σ o.scope e t) _ _ (types σ o.scope e t) (λ a. itself)))
  types σ Γ (E.branch s None c a) t = by_rule
      (at_part σ Γ c (Some bool) (typed σ Γ c (Some bool)) _ _ (types σ Γ c (Some bool)) (λ x. at_part σ Γ a (Some unit) (typed σ Γ a (Some unit)) _ _ (types σ Γ a (Some unit)) (λ y. itself)))
  types σ Γ (E.choice s None c a b) t = by_rule
      (at_part σ Γ c (Some bool) (typed σ Γ c (Some bool)) _ _ (types σ Γ c (Some bool)) (λ x. at_part σ Γ a t (typed σ Γ a t) _ _ (types σ Γ a t)
      (λ y. at_part σ Γ b (given t y) (typed σ Γ b (given t y)) _ _ (types σ Γ b (given t y)) (λ z. itself))))
  types σ Γ (E.branch s (Some p) c e) t = by_rule
      (at_part σ Γ c None (typed σ Γ c None) _ _ (types σ Γ c None) (λ a. at_arm σ Γ (ty_of a) (Some unit) p e _ _ (λ b. types σ (in_arm Γ b.1) e (Some unit)) (λ x. itself)))
  types σ Γ (E.choice s (Some p) c d e) t = by_rule
      (at_part σ Γ c None (typed σ Γ c None) _ _ (types σ Γ c None)
      (λ a. at_arm σ Γ (ty_of a) t p d _ _ (λ b. types σ (in_arm Γ b.1) d t) (λ x. at_part σ Γ e (given t x.body) (typed σ Γ e (given t x.body)) _ _ (types σ Γ e (given t x.body)) (λ z. itself))))
  types σ Γ (E.matching s e as') t = by_rule
      (at_part σ Γ e None (typed σ Γ e None) _ _ (types σ Γ e None) (λ a. at_arms σ Γ (ty_of a) t tree.no_arms as' _ _ (λ p. itself)))
  types σ Γ (E.repeat s None c b) t = by_rule
      (at_part (outside σ) Γ c (Some bool) (typed (outside σ) Γ c (Some bool)) _ _ (types (outside σ) Γ c (Some bool))
      (λ x. at_part (looping σ) Γ b (Some unit) (typed (looping σ) Γ b (Some unit)) _ _ (types (looping σ) Γ b (Some unit)) (λ y. itself)))
  types σ Γ (E.attributed s is (E.repeat v None c b)) t = by_rule (at_first (gather (invariant_of σ.types Γ) is) _ _
      (λ is'. at_part (outside σ) Γ c (Some bool) (typed (outside σ) Γ c (Some bool)) _ _ (types (outside σ) Γ c (Some bool))
      (λ x. at_part (looping σ) Γ b (Some unit) (typed (looping σ) Γ b (Some unit)) _ _ (types (looping σ) Γ b (Some unit)) (λ y. itself))))
  types σ Γ (E.repeat s (Some p) c b) t = by_rule
      (at_part (outside σ) Γ c None (typed (outside σ) Γ c None) _ _ (types (outside σ) Γ c None)
      (λ a. at_arm (looping σ) Γ (ty_of a) (Some unit) p b _ _ (λ g. types (looping σ) (in_arm Γ g.1) b (Some unit)) (λ x. itself)))
  types σ Γ (E.attributed s is (E.repeat v (Some p) c b)) t = by_rule (at_first (gather (invariant_of σ.types Γ) is) _ _
      (λ is'. at_part (outside σ) Γ c None (typed (outside σ) Γ c None) _ _ (types (outside σ) Γ c None)
      (λ a. at_arm (looping σ) Γ (ty_of a) (Some unit) p b _ _ (λ g. types (looping σ) (in_arm Γ g.1) b (Some unit)) (λ x. itself))))
  types σ Γ (E.return_with s e) t = by_rule (at_part σ Γ e (Some σ.answer) (typed σ Γ e (Some σ.answer)) _ _ (types σ Γ e (Some σ.answer)) (λ a. itself))
  types σ Γ (E.endless s b) t = by_rule (at_part (looping σ) Γ b (Some unit) (typed (looping σ) Γ b (Some unit)) _ _ (types (looping σ) Γ b (Some unit)) (λ x. itself))
  types σ Γ (E.attributed s is (E.endless v b)) t = by_rule (at_first (gather (invariant_of σ.types Γ) is) _ _
      (λ is'. at_part (looping σ) Γ b (Some unit) (typed (looping σ) Γ b (Some unit)) _ _ (types (looping σ) Γ b (Some unit)) (λ x. itself)))
  types σ Γ e t = by_rule itself

  at_stmts : (σ : Setting) (Γ : List Variable) (ss : E.Stmts) (k : Opened → Asks) (f : Opened → Typed) → Follows k f → Comes (each_stmt σ Γ ss k) (typed_stmts σ Γ ss >>= f)
  at_stmts σ Γ E.no_stmts k f h = h (opened Γ [])
  at_stmts σ Γ (E.with_stmt s kind e ss) k f h =
      let after : (p : _) (a : TypedExpr) → Comes (each_stmt σ (declared Γ p.declares a) ss (λ o. k (behind (typed_stmt p a) o))) ((typed_stmts σ (declared Γ p.declares a) ss >>= λ o. Ok (behind (typed_stmt p a) o)) >>= f) =
      λ p a. subst (Comes (each_stmt σ (declared Γ p.declares a) ss (λ o. k (behind (typed_stmt p a) o)))) (sym (assoc (typed_stmts σ (declared Γ p.declares a) ss) (λ o. Ok (behind (typed_stmt p a) o)) f))
      (at_stmts σ (declared Γ p.declares a) ss (λ o. k (behind (typed_stmt p a) o)) (λ o. f (behind (typed_stmt p a) o)) (λ o. h (behind (typed_stmt p a) o))) in
      subst (Comes (each_stmt σ Γ (E.with_stmt s kind e ss) k)) (sym (assoc (step_of σ.types kind) _ f))
      (at_first (step_of σ.types kind) _ _ (λ p. at_part_in σ Γ e p.expected (typed σ Γ e p.expected) _ _ f (types σ Γ e p.expected) (λ a. after p a)))

  at_args : (σ : Setting) (Γ : List Variable) (es : E.Exprs) (ts : List Ty) (k : TypedExprs → Asks) (f : TypedExprs → Typed) → Follows k f → Comes (each_arg σ Γ es ts k) (typed_args σ Γ es ts >>= f)
  at_args σ Γ E.none ts k f h = h tree.none
  at_args σ Γ (E.more e es) ts k f h =
      at_part_in σ Γ e (first_of ts) (typed σ Γ e (first_of ts)) _ _ f (types σ Γ e (first_of ts))
      (λ a. subst (Comes (each_arg σ Γ es (rest_of ts) (λ as'. k (tree.more a as')))) (sym (assoc (typed_args σ Γ es (rest_of ts)) (λ as'. Ok (tree.more a as')) f))
      (at_args σ Γ es (rest_of ts) (λ as'. k (tree.more a as')) (λ as'. f (tree.more a as')) (λ as'. h (tree.more a as'))))

  at_fields : (σ : Setting) (Γ : List Variable) (s : Span) (m : Maker) (left : List FieldDecl) (fs : E.FieldExprs) (k : TypedExprs → Asks) (f : TypedExprs → Typed) → Follows k f
      → Comes (each_field σ Γ s m left fs k) (typed_fields σ Γ s m left fs >>= f)
  at_fields σ Γ s m left E.no_fields k f h = at_first (no_field_left s left) k f h
  at_fields σ Γ s m left (E.with_field r x e fs) k f h =
      let after : (u : Ty) (a : TypedExpr) → Comes (each_field σ Γ s m (fields_behind left) fs (λ as'. k (tree.more a as'))) ((typed_fields σ Γ s m (fields_behind left) fs >>= λ as'. Ok (tree.more a as')) >>= f) =
      λ u a. subst (Comes (each_field σ Γ s m (fields_behind left) fs (λ as'. k (tree.more a as')))) (sym (assoc (typed_fields σ Γ s m (fields_behind left) fs) (λ as'. Ok (tree.more a as')) f))
      (at_fields σ Γ s m (fields_behind left) fs (λ as'. k (tree.more a as')) (λ as'. f (tree.more a as')) (λ as'. h (tree.more a as'))) in
      subst (Comes (each_field σ Γ s m left (E.with_field r x e fs) k)) (sym (assoc (next_field σ.types m left x) _ f))
      (at_first (next_field σ.types m left x) _ _ (λ u. at_part_in σ Γ e (Some u) (typed σ Γ e (Some u)) _ _ f (types σ Γ e (Some u)) (λ a. after u a)))

  at_arms : (σ : Setting) (Γ : List Variable) (u : Ty) (t : Option Ty) (made : TypedArms) (as' : E.Arms) (k : TypedArms × Option Ty → Asks) (f : TypedArms × Option Ty → Typed) → Follows k f
      → Comes (each_arm σ Γ u t made as' k) (typed_arms σ Γ u t made as' >>= f)
  at_arms σ Γ u t made E.no_arms k f h = h (made, t)
  at_arms σ Γ u t made (E.with_arm r p e as') k f h =
      subst (Comes (each_arm σ Γ u t made (E.with_arm r p e as') k)) (sym (assoc (typed_arm σ Γ u t p e) _ f))
      (at_arm σ Γ u t p e _ _ (λ b. types σ (in_arm Γ b.1) e t) (λ x. at_arms σ Γ u (given t x.body) (and_arm made x) as' k f h))

pub typed_by_rules : TypedByRules
typed_by_rules σ Γ e t = types σ Γ e t
