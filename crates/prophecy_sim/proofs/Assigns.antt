-- What an assignment leads to: its right side does not panic, and its commands give the place's name the place's value.
use Rattle.std.proofs.Common.{◌≡◌, ◌∙◌, refl, sym, ap, ap₂, subst, ℕ, ℤ, pos, negsuc, int_div, int_rem, int_lt, int_le, Bool, true, false, not, cond, List, [], ◌∷◌, map, Some, slice_get, true≢false}
use Rattle.std.proofs.lemmas.Bool.Decides.{Decides-int_eq}
use Rattle.std.specs.Option.{option_map}
use Rattle.std.specs.Ordering.{int_eq}
use Rattle.text_core.specs.declared.name.Name.{Name}
use Rattle.text_core.specs.declared.span.Span.{Span}
use Rattle.logic_term.proofs.Alike.{to, from}
use Rattle.source_kinds.specs.declared.kinds.ArithOp.{ArithOp}
use Rattle.source_kinds.specs.declared.kinds.ArithOp.TheVariants as arith_op
use Rattle.source_kinds.specs.declared.kinds.BinaryOp.{BinaryOp}
use Rattle.source_kinds.specs.declared.kinds.BinaryOp.TheVariants.{Add, Sub, Mul, Div, Rem, Eq, Ne, Lt, Le, Gt, Ge}
use Rattle.logic_term.specs.declared.kinds.Ctor.{Ctor}
use Rattle.source_kinds.specs.declared.kinds.IntKind.{IntKind}
use Rattle.source_kinds.specs.declared.kinds.IntKind.TheVariants.{I8, I16, I32, I64, Isize, U8, U16, U32, U64, Usize}
use Rattle.source_kinds.specs.Range.{lowest, fits, widens}
use Rattle.source_kinds.proofs.Widening.{fits_wider}
use Rattle.logic_term.specs.Sort.{Declarations, HasSort, instance, of_int, of_bool}
use Rattle.logic_term.specs.Theory.{Theory, declared}
use Rattle.logic_term.specs.Ty.{Ty, int, bool, no_tys}
use Rattle.logic_term.specs.Laws.{HaveExactly}
use Rattle.logic_term.specs.Value.{Value, Number, Flag, integer_of, flag_of}
use Rattle.logic_term.specs.Term.{made, Term, Terms, apply, negative, calculate, is_equal}
use Rattle.logic_term.specs.TermView.{terms_of}
use Rattle.logic_term.specs.Term.{not as not_term}
use Rattle.logic_term.specs.Meaning.{Sure, Decided, Structure, Env, with_value, Means, calculated, compared, structure_of}
use Rattle.logic_term.proofs.Coincide.{with_same, with_other}
use Rattle.logic_term.proofs.Made.{made_exactly}
use Rattle.logic_term.proofs.Truth.{Exactly, Computes, computes_model, computes_calculate, computes_negative, of_two_exactly}
use Rattle.mir_ir.specs.declared.place.Place.{Place}
use Rattle.mir_ir.specs.declared.place.Lit.TheVariants as lit
use Rattle.mir_ir.specs.declared.place.Operand.{Operand}
use Rattle.mir_ir.specs.declared.place.Operand.TheVariants.{Copy, Move, Const}
use Rattle.mir_ir.specs.declared.statement.Rvalue.{Rvalue}
use Rattle.mir_ir.specs.declared.statement.Rvalue.TheVariants.{Use, Binary, Neg, Not, Widen, Make, BoxNew}
use Rattle.mir_ir.specs.declared.statement.StatementKind.TheVariants.{Assign}
use Rattle.mir_ir.specs.declared.body.Bodies.{Bodies}
use Rattle.mir_ir.specs.declared.body.Body.{Body}
use Rattle.mir_ir.specs.Body.{whole, place_ty, kind_of, kind_in}
use Rattle.mir_ir.specs.WellFormed.{PlaceHas, OperandHas, operation_ty, IsEquality, OperationHas, RvalueHas, Locals}
use Rattle.mir_ir.proofs.Taking.{CanTake, CanEvaluate}
use Rattle.mir_machine.specs.Step.{same_truth}
use Rattle.prophecy_sim.proofs.Operations.{operation_value, applied, IsInRange, InKind, opposite}
use Rattle.prophecy_sim.proofs.Operands.{operand_value, operand_values, rvalue_value, RvalueIsInRange, operand_means, new_value, can_before}
use Rattle.prophecy_logic.specs.declared.command.Command.TheVariants.{Set}
use Rattle.prophecy_logic.specs.declared.operation.Compared.{Compared as Kinds}
use Rattle.prophecy_logic.specs.declared.operation.Compared.TheVariants.{Truths, Integers}
use Rattle.prophecy_logic.specs.Command.{MovesAll, none, more, by_set}
use Rattle.prophecy_logic.specs.Row.{value_name, name_of, operand_term, operand_ty, integer_term, is_signed, in_range, not_zero, not_least_by_minus_one, compared_ty, comparison}
use Rattle.prophecy_logic.specs.Row.{operation, overflow, division, if_signed, goals_of_kind, goals_of, new_integer, of_comparison, of_operation, of_rvalue, commands_of}
use Rattle.prophecy_logic.proofs.Commands.{GoalsHold}
use Rattle.prophecy_logic.proofs.Operations.{says_exactly, not_exactly, new_moves, range_fits, divisor_not_zero, not_least_there}
use Rattle.prophecy_logic.proofs.Quotients.{quotient_fits, remainder_fits}

-- ---- kinds

place_kind : (b : Body) (p : Place) (ty : Ty) (k : IntKind) → PlaceHas b p ty → ty ≡ int k → kind_in (place_ty b no_tys p) ≡ Some k
place_kind b p ty k h e =
    ap (λ ps. kind_in (whole ps (option_map (instance no_tys) (slice_get b.locals p.local)))) h.0
    ∙ ap (λ o. kind_in (option_map (instance no_tys) o)) h.1 ∙ ap (λ t. kind_of (instance no_tys t)) e

local_kind : (b : Body) (p : Place) (ty : Ty) (k : IntKind) → PlaceHas b p ty → ty ≡ int k → kind_in (slice_get b.locals p.local) ≡ Some k
local_kind b p ty k h e = ap kind_in h.1 ∙ ap kind_of e

-- ---- facts of operators

not_equal : (y z : ℤ) → (y ≡ z → ⊥) → int_eq y z ≡ false
not_equal y z d = by_test (int_eq y z) refl
  where
    by_test : (t : Bool) → int_eq y z ≡ t → int_eq y z ≡ false
    by_test true e = absurd (d ((Decides-int_eq y z).0 e))
    by_test false e = e

truth_same : (c d : Bool) → same_truth c d ≡ true → c ≡ d
truth_same true true e = refl
truth_same true false e = sym e
truth_same false true e = e
truth_same false false e = refl

same_is_true : (c d : Bool) → c ≡ d → same_truth c d ≡ true
same_is_true true d e = sym e
same_is_true false true e = e
same_is_true false false e = refl

-- the type that the operand's first look gives
ty_of : (b : Body) (o : Operand) (ty : Ty) → OperandHas b o ty → operand_ty b o ≡ Some ty
ty_of b (Copy p) ty h = h.1
ty_of b (Move p) ty h = h.1
ty_of b (Const (lit.Int z k)) ty h = ap Some (sym h.0)
ty_of b (Const (lit.Bool c)) ty h = ap Some (sym h)

module _ (S₀ : Structure) where
  -- an equality has the truth value that says whether the values are the same
  equal_exactly : (s t : Term) (ρ : Env) (v w : Value) (c : Bool) → Exactly (Means S₀ s ρ) v → Exactly (Means S₀ t ρ) w → (c ≡ true → v ≡ w) → (v ≡ w → c ≡ true) →
      Exactly (Means S₀ (is_equal s t) ρ) (Flag c)
  equal_exactly s t ρ v w c e g f h = says_exactly _ c (decided c f h)
    where
      decided : (c : Bool) → (c ≡ true → v ≡ w) → (v ≡ w → c ≡ true) → Decided c ((x y : Value) → Means S₀ s ρ x → Means S₀ t ρ y → Sure (x ≡ y))
      decided true f h = λ x y p q n. to _ _ e x p (λ i. to _ _ g y q (λ j. n (i ∙ f refl ∙ sym j)))
      decided false f h = λ same. from _ _ e v refl (λ p. from _ _ g w refl (λ q. same v w p q (λ r. true≢false (sym (h r)))))

  -- where the type has no negative integers, the divisor is not -1
  not_least : (k : IntKind) (span : Span) (s t : Term) (ρ : Env) (y z : ℤ) → fits k z ≡ true → Computes S₀ s ρ y → Computes S₀ t ρ z →
      GoalsHold S₀ ρ (if_signed k (overflow span (not_least_by_minus_one k s t) ∷ [])) →
      y ≡ lowest k → z ≡ negsuc 0 → ⊥
  unfolding is_signed
  not_least I8 span s t ρ y z f c d h = not_least_there S₀ I8 s t ρ y z c d h.0
  not_least I16 span s t ρ y z f c d h = not_least_there S₀ I16 s t ρ y z c d h.0
  not_least I32 span s t ρ y z f c d h = not_least_there S₀ I32 s t ρ y z c d h.0
  not_least I64 span s t ρ y z f c d h = not_least_there S₀ I64 s t ρ y z c d h.0
  not_least Isize span s t ρ y z f c d h = not_least_there S₀ Isize s t ρ y z c d h.0
  not_least U8 span s t ρ y z f c d h = λ e g. true≢false (sym f ∙ ap (fits U8) g)
  not_least U16 span s t ρ y z f c d h = λ e g. true≢false (sym f ∙ ap (fits U16) g)
  not_least U32 span s t ρ y z f c d h = λ e g. true≢false (sym f ∙ ap (fits U32) g)
  not_least U64 span s t ρ y z f c d h = λ e g. true≢false (sym f ∙ ap (fits U64) g)
  not_least Usize span s t ρ y z f c d h = λ e g. true≢false (sym f ∙ ap (fits Usize) g)

-- ---- values of sorts

int_sort : (Δ : Declarations) (k : IntKind) (v : Value) → HasSort Δ v (int k) → (z : ℤ) × (v ≡ Number z) × (fits k z ≡ true)
int_sort Δ k v (of_int {z = z} f) = (z, refl, f)

bool_sort : (Δ : Declarations) (v : Value) → HasSort Δ v bool → (c : Bool) × (v ≡ Flag c)
bool_sort Δ v (of_bool {b = c}) = (c, refl)

-- no local has the name of new values
module _ (Θ : Theory) (b : Body) (not_new : (x : ℕ) (t : Ty) → slice_get b.locals x ≡ Some t → (name_of b x).0 ≡ value_name.0 → ⊥) where
  abbrev W : Structure
  W = structure_of Θ no_tys

  -- the right side does not panic, and the commands lead to an environment in which the place's name has its value, and all other
  -- names but that of new values have what they had
  pub record Assigned (ρ : Env) (p : Place) (r : Rvalue) : Type 0 where
    pub in_range : RvalueIsInRange b (kind_in (place_ty b no_tys p)) ρ r
    pub env : Env
    pub moves : MovesAll W (commands_of b (Assign p r)) ρ env
    pub here : env (name_of b p.local) ≡ rvalue_value b ρ r
    pub elsewhere : (n : Name) → (n.0 ≡ (name_of b p.local).0 → ⊥) → (n.0 ≡ value_name.0 → ⊥) → env n ≡ ρ n

  -- the value is of this sort
  abbrev Has : Ty → Value → Type 0
  Has ty v = HasSort (declared Θ) v ty

  -- ---- operands that are integers, and truth values

  operand_exactly : (ρ : Env) (o : Operand) (w : Value) → operand_value b ρ o ≡ w → Exactly (Means W (operand_term b o) ρ) w
  operand_exactly ρ o w is = subst (λ v. Exactly (Means W (operand_term b o) ρ) v) is (operand_means W b ρ o)

  operand_computes : (ρ : Env) (o : Operand) (y : ℤ) → operand_value b ρ o ≡ Number y → Computes W (integer_term b o) ρ y
  operand_computes ρ o y is = computes_model W (operand_term b o) ρ (Number y) (operand_exactly ρ o (Number y) is)

  module _ (ρ : Env) (span : Span) (p : Place) where
    -- ---- the two forms of commands

    -- the place's name is set to a term that has the value
    set_assigned : (r : Rvalue) (t : Term) → RvalueIsInRange b (kind_in (place_ty b no_tys p)) ρ r → commands_of b (Assign p r) ≡ Set (name_of b p.local) t ∷ [] →
        Exactly (Means W t ρ) (rvalue_value b ρ r) → Assigned ρ p r
    set_assigned r t fine is e =
        let w : Value = rvalue_value b ρ r in
        let x : Name = name_of b p.local in
        record {
          in_range = fine;
          env = with_value ρ x w;
          moves = subst (λ cs. MovesAll W cs ρ (with_value ρ x w)) (sym is) (more (by_set w e) none);
          here = with_same ρ x w;
          elsewhere = λ n d d'. with_other ρ x n w d;
        }

    -- the place's name is set to a new value, which is that of the term
    new_assigned : (r : Rvalue) (k : IntKind) (t : Term) (z : ℤ) → RvalueIsInRange b (kind_in (place_ty b no_tys p)) ρ r → commands_of b (Assign p r) ≡ new_integer b k p.local t →
        rvalue_value b ρ r ≡ Number z → fits k z ≡ true → Computes W t (with_value ρ value_name (Number z)) z → Assigned ρ p r
    new_assigned r k t z fine is value f computes =
        let w : Value = Number z in
        let x : Name = name_of b p.local in
        let ρ₁ : Env = with_value ρ value_name w in
        record {
          in_range = fine;
          env = with_value ρ₁ x w;
          moves = subst (λ cs. MovesAll W cs ρ (with_value ρ₁ x w)) (sym is) (new_moves W k x t ρ z f computes);
          here = with_same ρ₁ x w ∙ sym value;
          elsewhere = λ n d d'. with_other ρ₁ x n w d ∙ with_other ρ value_name n w d';
        }

    -- ---- one operand

    use_assigned : (o : Operand) → Assigned ρ p (Use o)
    use_assigned o = set_assigned (Use o) (operand_term b o) tt refl (operand_means W b ρ o)

    -- a box is what it holds
    box_assigned : (o : Operand) → Assigned ρ p (BoxNew o)
    box_assigned o = set_assigned (BoxNew o) (operand_term b o) tt refl (operand_means W b ρ o)

    parts_exactly : (os : List Operand) → HaveExactly W (terms_of (map (operand_term b) os)) ρ (operand_values b ρ os)
    parts_exactly [] = tt
    parts_exactly (o ∷ os) = (operand_means W b ρ o, parts_exactly os)

    make_assigned : (c : Ctor) (os : List Operand) → Assigned ρ p (Make c os)
    make_assigned c os =
        let ts : Terms = terms_of (map (operand_term b) os) in
        set_assigned (Make c os) (apply (made c) ts) tt refl (made_exactly W c ts ρ (operand_values b ρ os) (parts_exactly os))

    not_assigned : (o : Operand) → Has bool (operand_value b ρ o) → Assigned ρ p (Not o)
    not_assigned o sort =
        let v = bool_sort (declared Θ) (operand_value b ρ o) sort in
        set_assigned (Not o) (not_term (operand_term b o)) tt refl
        (subst (λ c. Exactly (Means W (not_term (operand_term b o)) ρ) (Flag (not c))) (sym (ap flag_of v.1)) (not_exactly W (operand_term b o) ρ v.0 (operand_exactly ρ o (Flag v.0) v.1)))

    neg_assigned : (o : Operand) (ty : Ty) (k : IntKind) → PlaceHas b p ty → ty ≡ int k → OperandHas b o (int k) → Has (int k) (operand_value b ρ o) →
        GoalsHold W ρ (goals_of b span (Assign p (Neg o))) → Assigned ρ p (Neg o)
    neg_assigned o ty k place is has sort goals =
        let v = int_sort (declared Θ) k (operand_value b ρ o) sort in
        let y : ℤ = integer_of (operand_value b ρ o) in
        let is_y : operand_value b ρ o ≡ Number y = v.1 ∙ ap Number (sym (ap integer_of v.1)) in
        let z : ℤ = opposite (operand_value b ρ o) in
        let t : Term = negative (integer_term b o) in
        let ρ₁ : Env = with_value ρ value_name (Number z) in
        let kind = local_kind b p ty k place is in
        let goal = subst (λ c. GoalsHold W ρ (goals_of_kind b c span (Neg o))) kind goals in
        let f : fits k z ≡ true = range_fits W k t ρ z (computes_negative W (integer_term b o) ρ y (operand_computes ρ o y is_y)) goal.0 in
        new_assigned (Neg o) k t z
        (subst (λ c. InKind c (λ k. fits k z ≡ true)) (sym (place_kind b p ty k place is)) f)
        (ap (λ c. of_rvalue b c p.local (Neg o)) kind) refl f
        (computes_negative W (integer_term b o) ρ₁ y (operand_computes ρ₁ o y (new_value b not_new ρ (Number z) o (int k) has ∙ is_y)))

    -- the new value is the same integer
    widen_assigned : (o : Operand) (j k : IntKind) → widens j k ≡ true → OperandHas b o (int j) → Has (int j) (operand_value b ρ o) → Assigned ρ p (Widen o k)
    widen_assigned o j k wide has sort =
        let v = int_sort (declared Θ) j (operand_value b ρ o) sort in
        let ρ₁ : Env = with_value ρ value_name (Number v.0) in
        new_assigned (Widen o k) k (integer_term b o) v.0 tt refl v.1 (fits_wider j k v.0 wide v.2) (operand_computes ρ₁ o v.0 (new_value b not_new ρ (Number v.0) o (int j) has ∙ v.1))

    -- ---- two operands

    module _ (o q : Operand) where
      -- a comparison, by what the first operand's type says is compared
      compared_assigned : (op : BinaryOp) (kinds : Kinds) (w : Value) → compared_ty (operand_ty b o) ≡ kinds →
          of_operation b (kind_in (slice_get b.locals p.local)) p.local op o q (operation op) ≡ of_comparison b p.local op o q → RvalueIsInRange b (kind_in (place_ty b no_tys p)) ρ (Binary op o q) →
          applied op (operand_value b ρ o) (operand_value b ρ q) ≡ w → Exactly (Means W (comparison kinds op (operand_term b o) (operand_term b q)) ρ) w → Assigned ρ p (Binary op o q)
      compared_assigned op kinds w is_kinds is fine value e =
          set_assigned (Binary op o q) (comparison kinds op (operand_term b o) (operand_term b q)) fine
          (is ∙ ap (λ c. Set (name_of b p.local) (comparison c op (operand_term b o) (operand_term b q)) ∷ []) is_kinds)
          (subst (λ v. Exactly (Means W (comparison kinds op (operand_term b o) (operand_term b q)) ρ) v) (sym value) e)

      -- ---- integers

      module _ (k : IntKind) (y z : ℤ) (has_o : OperandHas b o (int k)) (has_q : OperandHas b q (int k)) (is_y : operand_value b ρ o ≡ Number y) (is_z : operand_value b ρ q ≡ Number z) where
        first : Computes W (integer_term b o) ρ y
        first = operand_computes ρ o y is_y

        second : Computes W (integer_term b q) ρ z
        second = operand_computes ρ q z is_z

        integers : compared_ty (operand_ty b o) ≡ Integers
        integers = ap compared_ty (ty_of b o (int k) has_o)

        value_there : (op : BinaryOp) → applied op (operand_value b ρ o) (operand_value b ρ q) ≡ operation_value op y z
        value_there op = ap₂ (applied op) is_y is_z

        same_integers : Exactly (Means W (is_equal (integer_term b o) (integer_term b q)) ρ) (Flag (int_eq y z))
        same_integers = equal_exactly W (integer_term b o) (integer_term b q) ρ (Number y) (Number z) (int_eq y z) first second (λ e. ap Number ((Decides-int_eq y z).0 e))
            (λ e. (Decides-int_eq y z).1 (ap integer_of e))

        eq_assigned : Assigned ρ p (Binary Eq o q)
        eq_assigned = compared_assigned Eq Integers (Flag (int_eq y z)) integers refl tt (value_there Eq) same_integers

        ne_assigned : Assigned ρ p (Binary Ne o q)
        ne_assigned = compared_assigned Ne Integers (Flag (not (int_eq y z))) integers refl tt (value_there Ne)
            (not_exactly W (is_equal (integer_term b o) (integer_term b q)) ρ (int_eq y z) same_integers)

        lt_assigned : Assigned ρ p (Binary Lt o q)
        lt_assigned = compared_assigned Lt Integers (Flag (int_lt y z)) integers refl tt (value_there Lt) (of_two_exactly (compared int_lt) _ _ (Number y) (Number z) first second)

        le_assigned : Assigned ρ p (Binary Le o q)
        le_assigned = compared_assigned Le Integers (Flag (int_le y z)) integers refl tt (value_there Le) (of_two_exactly (compared int_le) _ _ (Number y) (Number z) first second)

        gt_assigned : Assigned ρ p (Binary Gt o q)
        gt_assigned = compared_assigned Gt Integers (Flag (int_lt z y)) integers refl tt (value_there Gt) (of_two_exactly (compared int_lt) _ _ (Number z) (Number y) second first)

        ge_assigned : Assigned ρ p (Binary Ge o q)
        ge_assigned = compared_assigned Ge Integers (Flag (int_le z y)) integers refl tt (value_there Ge) (of_two_exactly (compared int_le) _ _ (Number z) (Number y) second first)

        -- ---- arithmetic, where a place of the kind is written

        module _ (place : kind_in (place_ty b no_tys p) ≡ Some k) (local : kind_in (slice_get b.locals p.local) ≡ Some k) (fits_y : fits k y ≡ true) (fits_z : fits k z ≡ true) where
          -- the exact integer of an operation, in an environment in which the operands have these values
          exact_computes : (σ : Env) (a : ArithOp) → operand_value b σ o ≡ Number y → operand_value b σ q ≡ Number z →
              Computes W (calculate a (integer_term b o) (integer_term b q)) σ (calculated a y z)
          exact_computes σ a at_y at_z = computes_calculate W a (integer_term b o) (integer_term b q) σ y z (operand_computes σ o y at_y) (operand_computes σ q z at_z)

          overflow_fits : (a : ArithOp) → GoalsHold W ρ (overflow span (in_range k (calculate a (integer_term b o) (integer_term b q))) ∷ []) → fits k (calculated a y z) ≡ true
          overflow_fits a h = range_fits W k (calculate a (integer_term b o) (integer_term b q)) ρ (calculated a y z) (exact_computes ρ a is_y is_z) h.0

          goals_there : (op : BinaryOp) → GoalsHold W ρ (goals_of b span (Assign p (Binary op o q))) → GoalsHold W ρ (goals_of_kind b (Some k) span (Binary op o q))
          goals_there op h = subst (λ c. GoalsHold W ρ (goals_of_kind b c span (Binary op o q))) local h

          -- what does not panic, by the kind of the place and the operands' values
          range_there : (op : BinaryOp) → IsInRange (Some k) op y z → RvalueIsInRange b (kind_in (place_ty b no_tys p)) ρ (Binary op o q)
          range_there op h =
              subst (λ c. IsInRange c op (integer_of (operand_value b ρ o)) (integer_of (operand_value b ρ q))) (sym place)
              (subst (λ v. IsInRange (Some k) op (integer_of v) (integer_of (operand_value b ρ q))) (sym is_y) (subst (λ w. IsInRange (Some k) op y (integer_of w)) (sym is_z) h))

          -- an operation whose exact integer is known and is of the type
          known_assigned : (op : BinaryOp) (a : ArithOp) (x : ℤ) → IsInRange (Some k) op y z →
              of_rvalue b (Some k) p.local (Binary op o q) ≡ new_integer b k p.local (calculate a (integer_term b o) (integer_term b q)) →
              operation_value op y z ≡ Number x → calculated a y z ≡ x → fits k x ≡ true → Assigned ρ p (Binary op o q)
          known_assigned op a x fine is value there f =
              let ρ₁ : Env = with_value ρ value_name (Number x) in
              let t : Term = calculate a (integer_term b o) (integer_term b q) in
              new_assigned (Binary op o q) k t x (range_there op fine) (ap (λ c. of_rvalue b c p.local (Binary op o q)) local ∙ is) (ap₂ (applied op) is_y is_z ∙ value) f
              (subst (λ u. Computes W t ρ₁ u) there (exact_computes ρ₁ a (new_value b not_new ρ (Number x) o (int k) has_o ∙ is_y) (new_value b not_new ρ (Number x) q (int k) has_q ∙ is_z)))

          add_assigned : GoalsHold W ρ (goals_of b span (Assign p (Binary Add o q))) → Assigned ρ p (Binary Add o q)
          add_assigned h = let f = overflow_fits arith_op.Add (goals_there Add h) in known_assigned Add arith_op.Add (calculated arith_op.Add y z) f refl refl refl f

          sub_assigned : GoalsHold W ρ (goals_of b span (Assign p (Binary Sub o q))) → Assigned ρ p (Binary Sub o q)
          sub_assigned h = let f = overflow_fits arith_op.Sub (goals_there Sub h) in known_assigned Sub arith_op.Sub (calculated arith_op.Sub y z) f refl refl refl f

          mul_assigned : GoalsHold W ρ (goals_of b span (Assign p (Binary Mul o q))) → Assigned ρ p (Binary Mul o q)
          mul_assigned h = let f = overflow_fits arith_op.Mul (goals_there Mul h) in known_assigned Mul arith_op.Mul (calculated arith_op.Mul y z) f refl refl refl f

          divisor_there : GoalsHold W ρ (division span (not_zero (integer_term b q)) ∷ if_signed k (overflow span (not_least_by_minus_one k (integer_term b o) (integer_term b q)) ∷ [])) →
              (int_eq z (pos 0) ≡ false) × (fits k (int_div y z) ≡ true)
          divisor_there h = (
            not_equal z (pos 0) (divisor_not_zero W (integer_term b q) ρ z second h.0),
            quotient_fits k y z fits_y fits_z (not_least W k span (integer_term b o) (integer_term b q) ρ y z fits_z first second h.1),
          )

          div_assigned : GoalsHold W ρ (goals_of b span (Assign p (Binary Div o q))) → Assigned ρ p (Binary Div o q)
          div_assigned h = let d = divisor_there (goals_there Div h) in known_assigned Div arith_op.Div (int_div y z) d refl refl (ap (λ c. cond c (pos 0) (int_div y z)) d.0) d.1

          rem_assigned : GoalsHold W ρ (goals_of b span (Assign p (Binary Rem o q))) → Assigned ρ p (Binary Rem o q)
          rem_assigned h = let d = divisor_there (goals_there Rem h) in known_assigned Rem arith_op.Rem (int_rem y z) d refl refl (ap (λ c. cond c y (int_rem y z)) d.0) (remainder_fits k y z fits_y)

      -- ---- truth values

      module _ (c d : Bool) (has_o : OperandHas b o bool) (is_c : operand_value b ρ o ≡ Flag c) (is_d : operand_value b ρ q ≡ Flag d) where
        truths : compared_ty (operand_ty b o) ≡ Truths
        truths = ap compared_ty (ty_of b o bool has_o)

        same_truths : Exactly (Means W (is_equal (operand_term b o) (operand_term b q)) ρ) (Flag (same_truth c d))
        same_truths = equal_exactly W (operand_term b o) (operand_term b q) ρ (Flag c) (Flag d) (same_truth c d) (operand_exactly ρ o (Flag c) is_c) (operand_exactly ρ q (Flag d) is_d)
            (λ e. ap Flag (truth_same c d e)) (λ e. same_is_true c d (ap flag_of e))

        truth_eq_assigned : Assigned ρ p (Binary Eq o q)
        truth_eq_assigned = compared_assigned Eq Truths (Flag (same_truth c d)) truths refl tt (ap₂ (applied Eq) is_c is_d) same_truths

        truth_ne_assigned : Assigned ρ p (Binary Ne o q)
        truth_ne_assigned = compared_assigned Ne Truths (Flag (not (same_truth c d))) truths refl tt (ap₂ (applied Ne) is_c is_d)
            (not_exactly W (is_equal (operand_term b o) (operand_term b q)) ρ (same_truth c d) same_truths)

      -- ---- by the operator

      integers_assigned : (op : BinaryOp) (ty : Ty) (k : IntKind) → PlaceHas b p ty → OperandHas b o (int k) → OperandHas b q (int k) → ty ≡ operation_ty op k → Has (int k) (operand_value b ρ o) →
          Has (int k) (operand_value b ρ q) →
          GoalsHold W ρ (goals_of b span (Assign p (Binary op o q))) → Assigned ρ p (Binary op o q)
      integers_assigned op ty k place has_o has_q is sort_o sort_q goals = by_operator op is goals
        where
          v : (y : ℤ) × (operand_value b ρ o ≡ Number y) × (fits k y ≡ true)
          v = int_sort (declared Θ) k (operand_value b ρ o) sort_o

          w : (z : ℤ) × (operand_value b ρ q ≡ Number z) × (fits k z ≡ true)
          w = int_sort (declared Θ) k (operand_value b ρ q) sort_q

          by_operator : (op : BinaryOp) → ty ≡ operation_ty op k → GoalsHold W ρ (goals_of b span (Assign p (Binary op o q))) → Assigned ρ p (Binary op o q)
          by_operator Add is goals = add_assigned k v.0 w.0 has_o has_q v.1 w.1 (place_kind b p ty k place is) (local_kind b p ty k place is) v.2 w.2 goals
          by_operator Sub is goals = sub_assigned k v.0 w.0 has_o has_q v.1 w.1 (place_kind b p ty k place is) (local_kind b p ty k place is) v.2 w.2 goals
          by_operator Mul is goals = mul_assigned k v.0 w.0 has_o has_q v.1 w.1 (place_kind b p ty k place is) (local_kind b p ty k place is) v.2 w.2 goals
          by_operator Div is goals = div_assigned k v.0 w.0 has_o has_q v.1 w.1 (place_kind b p ty k place is) (local_kind b p ty k place is) v.2 w.2 goals
          by_operator Rem is goals = rem_assigned k v.0 w.0 has_o has_q v.1 w.1 (place_kind b p ty k place is) (local_kind b p ty k place is) v.2 w.2 goals
          by_operator Eq is goals = eq_assigned k v.0 w.0 has_o has_q v.1 w.1
          by_operator Ne is goals = ne_assigned k v.0 w.0 has_o has_q v.1 w.1
          by_operator Lt is goals = lt_assigned k v.0 w.0 has_o has_q v.1 w.1
          by_operator Le is goals = le_assigned k v.0 w.0 has_o has_q v.1 w.1
          by_operator Gt is goals = gt_assigned k v.0 w.0 has_o has_q v.1 w.1
          by_operator Ge is goals = ge_assigned k v.0 w.0 has_o has_q v.1 w.1

      truths_assigned : (op : BinaryOp) → OperandHas b o bool → IsEquality op → Has bool (operand_value b ρ o) → Has bool (operand_value b ρ q) → Assigned ρ p (Binary op o q)
      truths_assigned op has_o equality sort_o sort_q = by_operator op equality
        where
          v : (c : Bool) × (operand_value b ρ o ≡ Flag c)
          v = bool_sort (declared Θ) (operand_value b ρ o) sort_o

          w : (d : Bool) × (operand_value b ρ q ≡ Flag d)
          w = bool_sort (declared Θ) (operand_value b ρ q) sort_q

          by_operator : (op : BinaryOp) → IsEquality op → Assigned ρ p (Binary op o q)
          by_operator Eq h = truth_eq_assigned v.0 w.0 has_o v.1 w.1
          by_operator Ne h = truth_ne_assigned v.0 w.0 has_o v.1 w.1
          by_operator _ h = absurd h

      binary_assigned : (op : BinaryOp) (ty of : Ty) → PlaceHas b p ty → OperandHas b o of → OperandHas b q of → OperationHas op of ty → Has (instance no_tys of) (operand_value b ρ o) →
          Has (instance no_tys of) (operand_value b ρ q) →
          GoalsHold W ρ (goals_of b span (Assign p (Binary op o q))) → Assigned ρ p (Binary op o q)
      binary_assigned op ty (int k) place has_o has_q is sort_o sort_q goals = integers_assigned op ty k place has_o has_q is sort_o sort_q goals
      binary_assigned op ty bool place has_o has_q is sort_o sort_q goals = truths_assigned op has_o is.0 sort_o sort_q
      binary_assigned op ty _ place has_o has_q is sort_o sort_q goals = absurd is

    -- ---- right sides

    -- what can be taken has a value of its type
    pub assigned : (bodies : Bodies) (set : Locals) (r : Rvalue) (ty : Ty) → PlaceHas b p ty → RvalueHas bodies b r ty → CanEvaluate set r →
        ((o : Operand) (of : Ty) → OperandHas b o of → CanTake set o → HasSort (declared Θ) (operand_value b ρ o) (instance no_tys of)) →
        GoalsHold W ρ (goals_of b span (Assign p r)) → Assigned ρ p r
    assigned bodies set (Use o) ty place has can sorts goals = use_assigned o
    assigned bodies set (Binary op o q) ty place has can sorts goals =
        binary_assigned o q op ty has.0 place has.1 has.2 has.3 (sorts o has.0 has.1 can.0) (sorts q has.0 has.2 (can_before set o q can.1)) goals
    assigned bodies set (Neg o) ty place has can sorts goals = neg_assigned o ty has.0 place has.3 has.2 (sorts o (int has.0) has.2 can) goals
    assigned bodies set (Not o) ty place has can sorts goals = not_assigned o (sorts o bool has.0 can)
    assigned bodies set (Widen o k) ty place has can sorts goals = widen_assigned o has.0 k has.1 has.2 (sorts o (int has.0) has.2 can)
    assigned bodies set (Make c os) ty place has can sorts goals = make_assigned c os
    assigned bodies set (BoxNew o) ty place has can sorts goals = box_assigned o
