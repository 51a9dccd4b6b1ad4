-- The samples are typed and initialised, and calls of them are proper.
use Rattle.std.proofs.Common.{◌≡◌, ◌∙◌, refl, sym, ap, subst, ℕ, zero, suc, ◌+◌, ◌<◌, ◌≤◌, ◌==◌, ℤ, pos, negsuc, FitsSigned, Bool, true, false, cond, List, Some, None, [], ◌∷◌, length, slice_get, arith}
use Rattle.std.proofs.lemmas.Option.{same_Some}
use Rattle.std.proofs.lemmas.Bool.{eqb-true}
use Rattle.std.specs.Int.{w32}
use Rattle.text_core.specs.declared.refusal.Cause.{Cause}
use Rattle.source_kinds.specs.declared.kinds.BinaryOp.{BinaryOp}
use Rattle.source_kinds.specs.declared.kinds.IntKind.{IntKind}
use Rattle.logic_term.specs.declared.kinds.Ctor.TheVariants.{Tuple}
use Rattle.source_kinds.specs.declared.kinds.IntKind.TheVariants.{I32}
use Rattle.logic_term.specs.declared.kinds.Label.{Label}
use Rattle.source_kinds.specs.Range.{fits, widens}
use Rattle.logic_term.specs.Sort.{Declarations, instance}
use Rattle.logic_term.specs.Theory.{Theory, declared, fields_of, variant_of}
use Rattle.mir_ir.specs.Declares.{theory_in}
use Rattle.logic_term.specs.Ty.{Ty, Tys, int, bool, param, no_tys, and_ty, unit_ty}
use Rattle.mir_ir.specs.declared.place.Lit.TheVariants as lit
use Rattle.mir_ir.specs.declared.place.Operand.{Operand}
use Rattle.mir_ir.specs.declared.place.Operand.TheVariants.{Copy, Const}
use Rattle.mir_ir.specs.declared.statement.Rvalue.{Rvalue}
use Rattle.mir_ir.specs.declared.statement.Rvalue.TheVariants.{Binary, Neg, Not, Widen, Make}
use Rattle.mir_ir.specs.declared.statement.Statement.{Statement}
use Rattle.mir_ir.specs.declared.body.Block.{Block}
use Rattle.mir_ir.specs.declared.body.Body.{Body}
use Rattle.mir_ir.specs.Body.{block_in}
use Rattle.mir_ir.specs.Layout.{among}
use Rattle.mir_ir.specs.Paths.{in_field, at_end}
use Rattle.mir_ir.specs.WellFormed.{HasBlock, operation_ty, IsSigned, RvalueHas, StatementIsTyped, EndIsTyped, IsTyped, Locals, without, with, Within, parameters, IsInitialised, AreSound}
use Rattle.mir_ir.proofs.Taking.{rows_together, CanEvaluate, evaluated, CanRun, run, CanEnd, Carries}
use Rattle.mir_machine.specs.Tree.{Tree, Int, Truth, trees_of}
use Rattle.mir_machine.specs.Frame.{State}
use Rattle.mir_machine.specs.Step.{whole}
use Rattle.mir_machine.specs.Typed.{Met, Typed, AreTyped, is_int, is_truth, none_typed, more_typed}
use Rattle.mir_machine.specs.Good.{IsProper, called}
use Rattle.machine_tests.specs.Run.{sample, absolute, calling, panicking, alone, program, option_decl, option_id, option_ty, option_of, choosing_body, choosing, pair_ty, parting_body, label, IsScalarOf, TakesOne}
use Rattle.mir_ir.specs.declared.body.Bodies.{Bodies}

-- ---- bodies, block by block

abbrev EachBlock : (Label → Block → Type 0) → List (Label × Block) → Type 0
EachBlock P [] = Unit {0}
EachBlock P (b ∷ bs) = P b.0 b.1 × EachBlock P bs

block_found : (P : Label → Block → Type 0) (bs : List (Label × Block)) (l : Label) (k : Block) → EachBlock P bs → block_in bs l ≡ Some k → P l k
block_found P [] l k h e = absurd (cc)
block_found P (b ∷ bs) l k h e = by_test (block_found P bs l k h.1) (b.0.0 == l.0) refl e
  where
    by_test : (block_in bs l ≡ Some k → P l k) → (t : Bool) → (b.0.0 == l.0) ≡ t → cond t (Some b.1) (block_in bs l) ≡ Some k → P l k
    by_test rest true same q = subst (P l) (same_Some _ _ q) (subst (λ (m : Label). P m b.1) (λ i. record { 0 = eqb-true b.0.0 l.0 same i }) h.0)
    by_test rest false other q = rest q

-- the statements from number i on
abbrev EachStatement : (ℕ → Statement → Type 0) → ℕ → List Statement → Type 0
EachStatement P i [] = Unit {0}
EachStatement P i (st ∷ sts) = P i st × EachStatement P (i + 1) sts

statement_found : (P : ℕ → Statement → Type 0) (i : ℕ) (sts : List Statement) (j : ℕ) (st : Statement) → EachStatement P i sts → slice_get sts j ≡ Some st → P (i + j) st
statement_found P i [] j st h e = absurd (cc)
statement_found P i (s ∷ sts) zero st h e = subst (P (i + 0)) (same_Some _ _ e) (subst (λ n. P n s) (here i) h.0)
  where
    here : (i : ℕ) → i ≡ i + 0
    here i = omega arith
statement_found P i (s ∷ sts) (suc j) st h e = subst (λ n. P n st) (there i j) (statement_found P (i + 1) sts j st h.1 e)
  where
    there : (i j : ℕ) → (i + 1) + j ≡ i + suc j
    there i j = omega arith

-- ---- a body with its sets of initialised locals

-- sets: by the number of the label and of the statement
abbrev Sets : Type 0
Sets = ℕ → ℕ → Locals

abbrev StatementIsSound : Bodies → Body → Sets → Label → ℕ → Statement → Type 0
StatementIsSound bodies b sets l i st = StatementIsTyped bodies b st.kind × CanRun (sets l.0 i) st.kind × Within (sets l.0 (i + 1)) (run st.kind (sets l.0 i))

record BlockIsSound (bodies : Bodies) (b : Body) (sets : Sets) (l : Label) (k : Block) : Type 0 where
  statements : EachStatement (StatementIsSound bodies b sets l) 0 k.statements
  typed : EndIsTyped bodies b k.end.kind
  can_end : CanEnd (sets l.0 (length k.statements)) k.end.kind
  carries : Carries (λ l'. sets l'.0 0) (sets l.0 (length k.statements)) k.end.kind

record BodyIsSound (bodies : Bodies) (b : Body) (sets : Sets) : Type 0 where
  ground : b.types ≡ []
  named : length b.names ≡ length b.locals
  answers : b.params + 1 ≤ length b.locals
  begins : HasBlock b b.entry
  entry : Within (sets b.entry.0 0) (parameters b)
  blocks : EachBlock (BlockIsSound bodies b sets) b.blocks

body_sound : (bodies : Bodies) (b : Body) (sets : Sets) (f : ℕ) → b.id ≡ f → BodyIsSound bodies b sets → IsTyped bodies b × IsInitialised b × (b.id ≡ f)
body_sound bodies b sets f numbered h = (
  record {
    ground = h.ground;
    named = h.named;
    answers = h.answers;
    begins = h.begins;
    statements = λ l k i st is_block is_statement. (at l k i st is_block is_statement).0;
    ends = λ l k is_block. (found l k is_block).typed;
  },
  (
    λ l i. sets l.0 i,
    rows_together b (λ l i. sets l.0 i) (record {
      entry = h.entry;
      statements = λ l k i st is_block is_statement. ((at l k i st is_block is_statement).1, (at l k i st is_block is_statement).2);
      ends = λ l k is_block. (found l k is_block).can_end;
      edges = λ l k is_block. (found l k is_block).carries;
    }),
  ),
  numbered,
)
  where
    found : (l : Label) (k : Block) → block_in b.blocks l ≡ Some k → BlockIsSound bodies b sets l k
    found l k is_block = block_found (BlockIsSound bodies b sets) b.blocks l k h.blocks is_block

    at : (l : Label) (k : Block) (i : ℕ) (st : Statement) → block_in b.blocks l ≡ Some k → slice_get k.statements i ≡ Some st → StatementIsSound bodies b sets l i st
    at l k i st is_block is_statement =
        subst (λ n. StatementIsSound bodies b sets l n st) (from_zero i)
        (statement_found (StatementIsSound bodies b sets l) 0 k.statements i st (block_found (BlockIsSound bodies b sets) b.blocks l k h.blocks is_block).statements is_statement)
      where
        from_zero : (i : ℕ) → 0 + i ≡ i
        from_zero i = omega arith

-- ---- one statement

abbrev one_sets : Body → Rvalue → Sets
one_sets b r l zero = parameters b
one_sets b r l (suc i) = with 0 (evaluated r (parameters b))

pub sample_sound : (answer takes : Ty) (r : Rvalue) → RvalueHas (alone (sample answer takes r)) (sample answer takes r) r answer → CanEvaluate (parameters (sample answer takes r)) r → AreSound (alone (sample answer takes r))
sample_sound answer takes r has can (suc f) b e = absurd (cc)
sample_sound answer takes r has can zero b e =
    let s = sample answer takes r in
    subst (λ c. IsTyped (alone s) c × IsInitialised c × (c.id ≡ 0)) (same_Some _ _ e)
    (body_sound (alone s) s (one_sets s r) 0 refl (record {
      ground = refl;
      named = refl;
      answers = omega arith;
      begins = (_, refl);
      entry = λ x h. h;
      blocks = (
        record {
          statements = (((answer, (refl, refl), has), can, λ x h. h), tt);
          typed = tt;
          can_end = refl;
          carries = tt;
        },
        tt,
      );
    }))

pub binary_sound : (k : IntKind) (op : BinaryOp) (n : ℤ) → fits k n ≡ true → AreSound (alone (sample (operation_ty op k) (int k) (Binary op (Copy (whole 1)) (Const (lit.Int n k)))))
binary_sound k op n n_fits =
    sample_sound (operation_ty op k) (int k) (Binary op (Copy (whole 1)) (Const (lit.Int n k))) (int k, (refl, refl), (refl, n_fits), refl) (refl, tt)

pub neg_sound : (k : IntKind) → IsSigned k → AreSound (alone (sample (int k) (int k) (Neg (Copy (whole 1)))))
neg_sound k signed = sample_sound (int k) (int k) (Neg (Copy (whole 1))) (k, signed, (refl, refl), refl) refl

pub wide_sound : (j k : IntKind) → widens j k ≡ true → AreSound (alone (sample (int k) (int j) (Widen (Copy (whole 1)) k)))
wide_sound j k wide = sample_sound (int k) (int j) (Widen (Copy (whole 1)) k) (j, wide, (refl, refl), refl) refl

pub not_sound : AreSound (alone (sample bool bool (Not (Copy (whole 1)))))
not_sound = sample_sound bool bool (Not (Copy (whole 1))) ((refl, refl), refl) refl

pub unit_sound : AreSound (alone (sample unit_ty (int I32) (Make Tuple [])))
unit_sound = sample_sound unit_ty (int I32) (Make Tuple []) ([], tt, refl) tt

-- ---- a panic

panicking_sound : (cause : Cause) → AreSound (alone (panicking cause))
panicking_sound cause (suc f) b e = absurd (cc)
panicking_sound cause zero b e =
    let s = panicking cause in
    subst (λ c. IsTyped (alone s) c × IsInitialised c × (c.id ≡ 0)) (same_Some _ _ e)
    (body_sound (alone s) s (λ l i. parameters s) 0 refl (record {
      ground = refl;
      named = refl;
      answers = omega arith;
      begins = (_, refl);
      entry = λ x h. h;
      blocks = (record { statements = tt; typed = tt; can_end = tt; carries = tt }, tt);
    }))

-- ---- the absolute value, and a call of it

abbrev none : Locals
none x = false

-- the answer alone
abbrev answer_set : Locals
answer_set = with 0 none

abbrev tested : Locals
tested = with 2 (parameters absolute)

abbrev branched : Locals
branched = without 2 tested

abbrev absolute_sets : Sets
absolute_sets zero zero = parameters absolute
absolute_sets zero (suc i) = tested
absolute_sets (suc zero) zero = branched
absolute_sets (suc zero) (suc zero) = with 0 branched
absolute_sets (suc zero) (suc (suc i)) = without 1 (with 0 branched)
absolute_sets (suc (suc zero)) zero = branched
absolute_sets (suc (suc zero)) (suc i) = with 0 (without 1 branched)
absolute_sets (suc (suc (suc l))) i = answer_set

only_answer : (set : Locals) → set 0 ≡ true → Within answer_set set
only_answer set h x inside = by_test (x == 0) refl inside
  where
    by_test : (t : Bool) → (x == 0) ≡ t → cond t true false ≡ true → set x ≡ true
    by_test true e q = subst (λ y. set y ≡ true) (sym (eqb-true x 0 e)) h
    by_test false e q = absurd (cc)

absolute_sound : BodyIsSound program absolute absolute_sets
absolute_sound = record {
  ground = refl;
  named = refl;
  answers = omega arith;
  begins = (_, refl);
  entry = λ x h. h;
  blocks = (
    record {
      statements = (((bool, (refl, refl), (int I32, (refl, refl), (refl, refl), refl)), (refl, tt), λ x h. h), tt);
      typed = ((refl, refl), (_, refl), (_, refl));
      can_end = refl;
      carries = (λ x h. h, λ x h. h);
    },
    (
      record {
        statements = (((int I32, (refl, refl), (I32, tt, (refl, refl), refl)), refl, λ x h. h), (((int I32, refl), tt, λ x h. h), tt));
        typed = (_, refl);
        can_end = tt;
        carries = only_answer (without 1 (with 0 branched)) refl;
      },
      (
        record {
          statements = (((int I32, (refl, refl), (refl, refl)), refl, λ x h. h), tt);
          typed = (_, refl);
          can_end = tt;
          carries = only_answer (with 0 (without 1 branched)) refl;
        },
        (record { statements = tt; typed = tt; can_end = refl; carries = tt }, tt),
      ),
    ),
  );
}

abbrev calling_sets : Sets
calling_sets zero i = parameters calling
calling_sets (suc l) i = with 0 (parameters calling)

calling_sound : BodyIsSound program calling calling_sets
calling_sound = record {
  ground = refl;
  named = refl;
  answers = omega arith;
  begins = (_, refl);
  entry = λ x h. h;
  blocks = (
    record {
      statements = tt;
      typed = ((absolute, int I32, refl, ((refl, refl), tt), refl, (refl, refl), refl), (_, refl));
      can_end = (refl, tt);
      carries = λ x h. h;
    },
    (record { statements = tt; typed = tt; can_end = refl; carries = tt }, tt),
  );
}

pub program_sound : AreSound program
program_sound zero b e = subst (λ c. IsTyped program c × IsInitialised c × (c.id ≡ 0)) (same_Some _ _ e) (body_sound program absolute absolute_sets 0 refl absolute_sound)
program_sound (suc zero) b e = subst (λ c. IsTyped program c × IsInitialised c × (c.id ≡ 1)) (same_Some _ _ e) (body_sound program calling calling_sets 1 refl calling_sound)
program_sound (suc (suc f)) b e = absurd (cc)

-- ---- a switch

-- behind the first block's statement
abbrev chosen : Rvalue → Locals
chosen r = with 2 (evaluated r (parameters (choosing_body r)))

abbrev choosing_sets : Rvalue → Sets
choosing_sets r zero zero = parameters (choosing_body r)
choosing_sets r zero (suc i) = chosen r
choosing_sets r (suc l) zero = chosen r
choosing_sets r (suc l) (suc i) = with 0 (chosen r)

leads_on : (r : Rvalue) (n : ℕ) → among (label n) (label 1 ∷ label 2 ∷ []) ≡ true → Within (choosing_sets r n 0) (chosen r)
leads_on r zero e = absurd (cc)
leads_on r (suc n) e = λ x h. h

sides : (r : Rvalue) (k : ℕ) (l : Label) → slice_get (label 1 ∷ label 2 ∷ []) k ≡ Some l → HasBlock (choosing_body r) l
sides r zero l e = subst (HasBlock (choosing_body r)) (same_Some _ _ e) (_, refl)
sides r (suc zero) l e = subst (HasBlock (choosing_body r)) (same_Some _ _ e) (_, refl)
sides r (suc (suc k)) l e = absurd (cc)

choosing_sound : (r : Rvalue) → RvalueHas (choosing r) (choosing_body r) r option_ty → CanEvaluate (parameters (choosing_body r)) r → BodyIsSound (choosing r) (choosing_body r) (choosing_sets r)
choosing_sound r has can = record {
  ground = refl;
  named = refl;
  answers = omega arith;
  begins = (_, refl);
  entry = λ x h. h;
  blocks = (
    record {
      statements = (((option_ty, (refl, refl), has), can, λ x h. h), tt);
      typed = record { number = option_id; regions = []; types = and_ty (int I32) no_tys; place = (refl, refl); declaration = option_decl; is_declared = refl; count = refl; blocks = sides r };
      can_end = refl;
      carries = λ m e. leads_on r m.0 e;
    },
    (
      record { statements = (((int I32, (refl, refl), (refl, refl)), tt, λ x h. h), tt); typed = tt; can_end = refl; carries = tt },
      (record { statements = (((int I32, (refl, refl), (refl, refl)), tt, λ x h. h), tt); typed = tt; can_end = refl; carries = tt }, tt),
    ),
  );
}

choosing_are_sound : (r : Rvalue) → RvalueHas (choosing r) (choosing_body r) r option_ty → CanEvaluate (parameters (choosing_body r)) r → AreSound (choosing r)
choosing_are_sound r has can zero b e =
    subst (λ c. IsTyped (choosing r) c × IsInitialised c × (c.id ≡ 0)) (same_Some _ _ e)
    (body_sound (choosing r) (choosing_body r) (choosing_sets r) 0 refl (choosing_sound r has can))
choosing_are_sound r has can (suc f) b e = absurd (cc)

pub none_sound : (bodies : Bodies) → bodies ≡ choosing (option_of 0 []) → AreSound bodies
none_sound bodies are = subst AreSound (sym are) (choosing_are_sound (option_of 0 []) ([], tt, ([], and_ty (int I32) no_tys, no_tys, refl, refl, refl)) tt)

pub some_sound : (bodies : Bodies) → bodies ≡ choosing (option_of 1 (Copy (whole 1) ∷ [])) → AreSound bodies
some_sound bodies are =
    subst AreSound (sym are)
    (choosing_are_sound (option_of 1 (Copy (whole 1) ∷ [])) (int I32 ∷ [], ((refl, refl), tt), ([], and_ty (int I32) no_tys, and_ty (param 0) no_tys, refl, refl, refl)) (refl, tt))

pub choosing_takes : (bodies : Bodies) (r : Rvalue) (t : Tree (Unit {0})) (x : ℤ) → bodies ≡ choosing r → t ≡ Int x → fits I32 x ≡ true → TakesOne bodies 0 t
choosing_takes bodies r t x are is_x x_fits = (choosing_body r, int I32, ap (λ (bs : Bodies). slice_get bs.bodies 0) are, refl, subst (IsScalarOf (int I32)) (sym is_x) x_fits)

-- ---- a part of a pair

abbrev parting_sets : Sets
parting_sets l zero = parameters parting_body
parting_sets l (suc zero) = with 2 (parameters parting_body)
parting_sets l (suc (suc i)) = with 0 (with 2 (parameters parting_body))

parting_body_sound : BodyIsSound (alone parting_body) parting_body parting_sets
parting_body_sound = record {
  ground = refl;
  named = refl;
  answers = omega arith;
  begins = (_, refl);
  entry = λ x h. h;
  blocks = (
    record {
      statements = (
        ((pair_ty, (refl, refl), (int I32 ∷ int I32 ∷ [], ((refl, refl), ((refl, refl), tt)), refl)), (tt, (refl, tt)), λ x h. h),
        (((int I32, (refl, refl), (pair_ty, refl, in_field refl at_end)), refl, λ x h. h), tt),
      );
      typed = tt;
      can_end = refl;
      carries = tt;
    },
    tt,
  );
}

pub parting_sound : (bodies : Bodies) → bodies ≡ alone parting_body → AreSound bodies
parting_sound bodies are = subst AreSound (sym are) sound
  where
    sound : AreSound (alone parting_body)
    sound zero b e =
        subst (λ c. IsTyped (alone parting_body) c × IsInitialised c × (c.id ≡ 0)) (same_Some _ _ e)
        (body_sound (alone parting_body) parting_body parting_sets 0 refl parting_body_sound)
    sound (suc f) b e = absurd (cc)

pub parting_takes : (bodies : Bodies) (t : Tree (Unit {0})) (x : ℤ) → bodies ≡ alone parting_body → t ≡ Int x → fits I32 x ≡ true → TakesOne bodies 0 t
parting_takes bodies t x are is_x x_fits = (parting_body, int I32, ap (λ (bs : Bodies). slice_get bs.bodies 0) are, refl, subst (IsScalarOf (int I32)) (sym is_x) x_fits)

-- ---- calls

scalar_typed : (Δ : Declarations) (s : State (Unit {0})) (ty : Ty) (t : Tree (Unit {0})) → IsScalarOf ty t → Typed Δ s t ty []
scalar_typed Δ s (int k) (Int z) h = is_int h
scalar_typed Δ s bool (Truth b) h = is_truth
scalar_typed Δ s _ _ h = absurd h

-- a call at one argument, with no trees outside
pub one_call : (bodies : Bodies) (f : ℕ) (θ : Tys) (args held : List (Tree (Unit {0}))) (t : Tree (Unit {0})) → θ ≡ no_tys → args ≡ t ∷ [] → held ≡ [] → TakesOne bodies f t →
    (Θ : Theory) × (b : Body) × (met : List Met) × IsProper Θ bodies f θ args held b met
one_call bodies f θ args held t is_ground is_t is_empty (b, ty, is_body, params, scalar) = (
  theory_in bodies,
  b,
  [],
  rw (is_ground, is_t, is_empty) (record {
    of = is_body;
    declares = λ d decl e k. ap (λ o. fields_of (variant_of o k)) e;
    ground = refl;
    outside_typed = tt;
    typed = subst (λ tys. AreTyped (declared (theory_in bodies)) (called b f no_tys (t ∷ []) []) (trees_of (t ∷ [])) tys []) (sym params) (more_typed (scalar_typed (declared (theory_in bodies)) (called b f no_tys (t ∷ []) []) ty t scalar) none_typed);
    outer = tt;
    apart = λ i j r q e g mutable over. absurd (cc);
  }),
)

-- ---- what tests make

pub binary_samples : (bodies : Bodies) (answer takes : Ty) (first : Operand) (k : IntKind) (op : BinaryOp) (n : ℤ) → bodies ≡ alone (sample answer takes (Binary op first (Const (lit.Int n k)))) → answer ≡ operation_ty op k → takes ≡ int k → first ≡ Copy (whole 1) → fits k n ≡ true → AreSound bodies
binary_samples bodies answer takes first k op n are is_answer is_takes is_first n_fits =
    subst AreSound
    (sym (are ∙ ap (λ ty. alone (sample ty takes (Binary op first (Const (lit.Int n k))))) is_answer
    ∙ ap (λ ty. alone (sample (operation_ty op k) ty (Binary op first (Const (lit.Int n k))))) is_takes
    ∙ ap (λ o. alone (sample (operation_ty op k) (int k) (Binary op o (Const (lit.Int n k))))) is_first))
    (binary_sound k op n n_fits)

pub neg_samples : (bodies : Bodies) (answer takes : Ty) (first : Operand) (k : IntKind) → bodies ≡ alone (sample answer takes (Neg first)) → answer ≡ int k → takes ≡ int k → first ≡ Copy (whole 1) → IsSigned k → AreSound bodies
neg_samples bodies answer takes first k are is_answer is_takes is_first signed =
    subst AreSound
    (sym (are ∙ ap (λ ty. alone (sample ty takes (Neg first))) is_answer ∙ ap (λ ty. alone (sample (int k) ty (Neg first))) is_takes ∙ ap (λ o. alone (sample (int k) (int k) (Neg o))) is_first))
    (neg_sound k signed)

pub wide_samples : (bodies : Bodies) (answer takes : Ty) (first : Operand) (j k : IntKind) → bodies ≡ alone (sample answer takes (Widen first k)) → answer ≡ int k → takes ≡ int j → first ≡ Copy (whole 1) → widens j k ≡ true → AreSound bodies
wide_samples bodies answer takes first j k are is_answer is_takes is_first wide =
    subst AreSound
    (sym (are ∙ ap (λ ty. alone (sample ty takes (Widen first k))) is_answer ∙ ap (λ ty. alone (sample (int k) ty (Widen first k))) is_takes ∙ ap (λ o. alone (sample (int k) (int j) (Widen o k))) is_first))
    (wide_sound j k wide)

pub not_samples : (bodies : Bodies) (first : Operand) → bodies ≡ alone (sample bool bool (Not first)) → first ≡ Copy (whole 1) → AreSound bodies
not_samples bodies first are is_first = subst AreSound (sym (are ∙ ap (λ o. alone (sample bool bool (Not o))) is_first)) not_sound

pub unit_samples : (bodies : Bodies) (answer takes : Ty) (os : List Operand) → bodies ≡ alone (sample answer takes (Make Tuple os)) → answer ≡ unit_ty → takes ≡ int I32 → os ≡ [] → AreSound bodies
unit_samples bodies answer takes os are is_answer is_takes none =
    subst AreSound
    (sym (are ∙ ap (λ ty. alone (sample ty takes (Make Tuple os))) is_answer ∙ ap (λ ty. alone (sample unit_ty ty (Make Tuple os))) is_takes ∙ ap (λ qs. alone (sample unit_ty (int I32) (Make Tuple qs))) none))
    unit_sound

pub sample_takes : (bodies : Bodies) (answer takes : Ty) (r : Rvalue) (t : Tree (Unit {0})) (k : IntKind) (x : ℤ) → bodies ≡ alone (sample answer takes r) → takes ≡ int k → t ≡ Int x → fits k x ≡ true → TakesOne bodies 0 t
sample_takes bodies answer takes r t k x are is_takes is_x x_fits =
    (sample answer takes r, int k, ap (λ (bs : Bodies). slice_get bs.bodies 0) are, ap (λ ty. and_ty (instance no_tys ty) no_tys) is_takes, subst (IsScalarOf (int k)) (sym is_x) x_fits)

pub truth_takes : (bodies : Bodies) (r : Rvalue) (b : Bool) → bodies ≡ alone (sample bool bool r) → TakesOne bodies 0 (Truth b)
truth_takes bodies r b are = (sample bool bool r, bool, ap (λ (bs : Bodies). slice_get bs.bodies 0) are, refl, tt)

pub panicking_samples : (bodies : Bodies) (cause : Cause) → bodies ≡ alone (panicking cause) → AreSound bodies
panicking_samples bodies cause are = subst AreSound (sym are) (panicking_sound cause)

pub panicking_takes : (bodies : Bodies) (cause : Cause) (t : Tree (Unit {0})) (x : ℤ) → bodies ≡ alone (panicking cause) → t ≡ Int x → fits I32 x ≡ true → TakesOne bodies 0 t
panicking_takes bodies cause t x are is_x x_fits = (panicking cause, int I32, ap (λ (bs : Bodies). slice_get bs.bodies 0) are, refl, subst (IsScalarOf (int I32)) (sym is_x) x_fits)

pub program_takes : (bodies : Bodies) (f : ℕ) (t : Tree (Unit {0})) (x : ℤ) → bodies ≡ program → f < 2 → t ≡ Int x → fits I32 x ≡ true → TakesOne bodies f t
program_takes bodies zero t x are below is_x x_fits = (absolute, int I32, ap (λ (bs : Bodies). slice_get bs.bodies 0) are, refl, subst (IsScalarOf (int I32)) (sym is_x) x_fits)
program_takes bodies (suc zero) t x are below is_x x_fits = (calling, int I32, ap (λ (bs : Bodies). slice_get bs.bodies 1) are, refl, subst (IsScalarOf (int I32)) (sym is_x) x_fits)
program_takes bodies (suc (suc f)) t x are below is_x x_fits = absurd (omega arith)

pub fits_i32 : (z : ℤ) → FitsSigned w32 z → fits I32 z ≡ true
fits_i32 (pos n) h = grind arith
fits_i32 (negsuc n) h = grind arith
