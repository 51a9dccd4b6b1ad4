-- Operands and right sides, where each initialised local shows the value that its name has.
use Rattle.std.proofs.Common.{◌≡◌, ◌∙◌, ⊎_elim, refl, sym, ap, subst, ℕ, ◌==◌, Bool, true, false, not, cond, List, [], ◌∷◌, Option, Some, slice_get, eq-eqb, ne_eqb, true≢false}
use Rattle.text_core.specs.declared.span.Span.{Span}
use Rattle.source_kinds.specs.declared.kinds.IntKind.{IntKind}
use Rattle.source_kinds.specs.Range.{fits}
use Rattle.logic_term.specs.Meaning.{Structure, Env, Means, with_value}
use Rattle.logic_term.specs.Term.{Term, var, part}
use Rattle.logic_term.specs.Theory.{Theory}
use Rattle.logic_term.specs.Ty.{Ty}
use Rattle.logic_term.specs.Value.{Value, Values, Number, Flag, no_values, and_value, integer_of, flag_of, nth_part}
use Rattle.logic_term.specs.Value as value
use Rattle.logic_term.proofs.Alike.{alike_same}
use Rattle.logic_term.proofs.Coincide.{with_other}
use Rattle.logic_term.proofs.Truth.{Exactly, part_exactly}
use Rattle.mir_ir.specs.declared.place.Lit.{Lit}
use Rattle.mir_ir.specs.declared.place.Lit.TheVariants as lit
use Rattle.mir_ir.specs.declared.place.Operand.{Operand}
use Rattle.mir_ir.specs.declared.place.Operand.TheVariants.{Copy, Move, Const}
use Rattle.mir_ir.specs.declared.place.Place.{Place}
use Rattle.mir_ir.specs.declared.place.Proj.{Proj}
use Rattle.mir_ir.specs.declared.place.Proj.TheVariants.{Field, Variant, Deref}
use Rattle.mir_ir.specs.declared.statement.Rvalue.{Rvalue}
use Rattle.mir_ir.specs.declared.statement.Rvalue.TheVariants.{Use, Binary, Neg, Not, Widen, Make, BoxNew}
use Rattle.mir_ir.specs.declared.body.Body.{Body}
use Rattle.mir_ir.specs.WellFormed.{Locals, Within, PlaceHas, OperandHas, UsedHas, with, without}
use Rattle.mir_ir.proofs.Paths.{AllUsed}
use Rattle.mir_ir.proofs.Taking.{CanTake, CanTakeAll, taken, all_taken, evaluated}
use Rattle.mir_machine.specs.Try.{Try, Yields, ◌>>=◌, need}
use Rattle.mir_machine.specs.Tree.{Tree, Boxed, Gone}
use Rattle.mir_machine.specs.Frame.{State}
use Rattle.mir_machine.specs.Memory.{tree_at}
use Rattle.mir_machine.specs.Step.{binary, negated, inverted, literal}
use Rattle.mir_machine.specs.Taken.{operands_of, value_of}
use Rattle.mir_machine.specs.Invariant.{Stop, local_at}
use Rattle.mir_machine.proofs.Paths.{IsAlong, whole_along, field_along, box_along}
use Rattle.mir_machine.proofs.Tried.{Quiet}
use Rattle.mir_machine.proofs.Writes.{Written, written_apart}
use Rattle.mir_machine.proofs.TypedRows.{apart, Took, TookAll, took_none, took_more}
use Rattle.prophecy_logic.specs.Row.{value_name, name_of, part_at, operand_term}
use Rattle.prophecy_sim.proofs.Owned.{Shows, AllShow, field_shows, held_shows, int_shows, truth_shows, box_shows, made_shows}
use Rattle.prophecy_sim.proofs.Operations.{applied, InKind, IsInRange, opposite, binary_shows, negated_shows, inverted_shows}

-- ---- the values of right sides in an environment

abbrev pub literal_value : Lit → Value
literal_value (lit.Int z k) = Number z
literal_value (lit.Bool b) = Flag b

-- the part at the end of the path. A box is what it holds
abbrev pub value_at : Value → List Proj → Value
value_at v [] = v
value_at v (Field n ∷ path) = value_at (nth_part n v) path
value_at v (Variant n ∷ path) = value_at v path
value_at v (Deref ∷ path) = value_at v path

abbrev pub place_value : Body → Env → Place → Value
place_value b ρ p = value_at (ρ (name_of b p.local)) p.path

abbrev pub operand_value : Body → Env → Operand → Value
operand_value b ρ (Copy p) = place_value b ρ p
operand_value b ρ (Move p) = place_value b ρ p
operand_value b ρ (Const l) = literal_value l

abbrev pub operand_values : Body → Env → List Operand → Values
operand_values b ρ [] = no_values
operand_values b ρ (o ∷ os) = and_value (operand_value b ρ o) (operand_values b ρ os)

abbrev pub rvalue_value : Body → Env → Rvalue → Value
rvalue_value b ρ (Use o) = operand_value b ρ o
rvalue_value b ρ (Binary op x y) = applied op (operand_value b ρ x) (operand_value b ρ y)
rvalue_value b ρ (Neg o) = Number (opposite (operand_value b ρ o))
rvalue_value b ρ (Not o) = Flag (not (flag_of (operand_value b ρ o)))
rvalue_value b ρ (Widen o k) = operand_value b ρ o
rvalue_value b ρ (Make c os) = value.Made c (operand_values b ρ os)
rvalue_value b ρ (BoxNew o) = operand_value b ρ o

-- the right side does not panic, where a place of this kind is written
abbrev pub RvalueIsInRange : Body → Option IntKind → Env → Rvalue → Type 0
RvalueIsInRange b kind ρ (Use o) = Unit {0}
RvalueIsInRange b kind ρ (Binary op x y) = IsInRange kind op (integer_of (operand_value b ρ x)) (integer_of (operand_value b ρ y))
RvalueIsInRange b kind ρ (Neg o) = InKind kind (λ k. fits k (opposite (operand_value b ρ o)) ≡ true)
RvalueIsInRange b kind ρ (Not o) = Unit {0}
RvalueIsInRange b kind ρ (Widen o k) = Unit {0}
RvalueIsInRange b kind ρ (Make c os) = Unit {0}
RvalueIsInRange b kind ρ (BoxNew o) = Unit {0}

-- the term of a part has the part's value
part_means : (S : Structure) (ρ : Env) (path : List Proj) (t : Term) (v : Value) → Exactly (Means S t ρ) v → Exactly (Means S (part_at t path) ρ) (value_at v path)
part_means S ρ [] t v e = e
part_means S ρ (Field n ∷ path) t v e = part_means S ρ path (part n t) (nth_part n v) (part_exactly S n t ρ v e)
part_means S ρ (Variant n ∷ path) t v e = part_means S ρ path t v e
part_means S ρ (Deref ∷ path) t v e = part_means S ρ path t v e

-- the term of an operand has the operand's value
pub operand_means : (S : Structure) (b : Body) (ρ : Env) (o : Operand) → Exactly (Means S (operand_term b o) ρ) (operand_value b ρ o)
operand_means S b ρ (Copy p) = part_means S ρ p.path (var (name_of b p.local)) (ρ (name_of b p.local)) (alike_same _)
operand_means S b ρ (Move p) = part_means S ρ p.path (var (name_of b p.local)) (ρ (name_of b p.local)) (alike_same _)
operand_means S b ρ (Const (lit.Int z k)) = alike_same _
operand_means S b ρ (Const (lit.Bool c)) = alike_same _

-- a whole local has the value of its name
pub whole_value : (b : Body) (ρ : Env) (p : Place) (ty : Ty) → PlaceHas b p ty → place_value b ρ p ≡ ρ (name_of b p.local)
whole_value b ρ p ty has = ap (value_at (ρ (name_of b p.local))) has.0

-- a new value changes no operand, where no local has its name
pub new_value : (b : Body) → ((x : ℕ) (ty : Ty) → slice_get b.locals x ≡ Some ty → (name_of b x).0 ≡ value_name.0 → ⊥) → (ρ : Env) (w : Value) (o : Operand) (ty : Ty) → OperandHas b o ty →
    operand_value b (with_value ρ value_name w) o ≡ operand_value b ρ o
new_value b not_new ρ w (Copy p) ty has = ap (λ v. value_at v p.path) (with_other ρ value_name (name_of b p.local) w (not_new p.local ty has.1))
new_value b not_new ρ w (Move p) ty has = ap (λ v. value_at v p.path) (with_other ρ value_name (name_of b p.local) w (not_new p.local ty has.1))
new_value b not_new ρ w (Const l) ty has = refl

-- ---- what is initialised after a right side was so before

pub without_before : (x : ℕ) (set : Locals) (y : ℕ) → without x set y ≡ true → set y ≡ true
without_before x set y e = by_test (y == x) e
  where
    by_test : (t : Bool) → cond t false (set y) ≡ true → set y ≡ true
    by_test true e = absurd (cc)
    by_test false e = e

pub taken_before : (o : Operand) (set : Locals) (y : ℕ) → taken o set y ≡ true → set y ≡ true
taken_before (Copy p) set y e = e
taken_before (Const l) set y e = e
taken_before (Move p) set y e = without_before p.local set y e

pub all_taken_before : (os : List Operand) (set : Locals) (y : ℕ) → all_taken os set y ≡ true → set y ≡ true
all_taken_before [] set y e = e
all_taken_before (o ∷ os) set y e = taken_before o set y (all_taken_before os (taken o set) y e)

pub evaluated_before : (r : Rvalue) (set : Locals) (y : ℕ) → evaluated r set y ≡ true → set y ≡ true
evaluated_before (Use o) set y e = taken_before o set y e
evaluated_before (Binary op a b) set y e = taken_before a set y (taken_before b (taken a set) y e)
evaluated_before (Neg o) set y e = taken_before o set y e
evaluated_before (Not o) set y e = taken_before o set y e
evaluated_before (Widen o k) set y e = taken_before o set y e
evaluated_before (Make c os) set y e = all_taken_before os set y e
evaluated_before (BoxNew o) set y e = taken_before o set y e

-- what is initialised behind a write of local x is x, or was so before
pub with_before : (x : ℕ) (set : Locals) (y : ℕ) → (y == x) ≡ false → with x set y ≡ true → set y ≡ true
with_before x set y other e = sym (ap (λ c. cond c true (set y)) other) ∙ e

-- an operand that can be taken behind another can be taken before it
pub can_before : (set : Locals) (o p : Operand) → CanTake (taken o set) p → CanTake set p
can_before set o (Copy p) h = taken_before o set p.local h
can_before set o (Move p) h = taken_before o set p.local h
can_before set o (Const l) h = tt

-- ---- locals

module _ {K : Type 0} (b : Body) where
  -- the tree of each local of the set, in the frame of this number, shows the value of the local's name
  abbrev pub Agree : State K → ℕ → Locals → Env → Type 0
  Agree st n set ρ = (x : ℕ) (ty : Ty) (t : Tree K) → set x ≡ true → slice_get b.locals x ≡ Some ty → tree_at st (local_at n x) ≡ Yields t → Shows t (ρ (name_of b x))

  pub agree_within : (small large : Locals) (st : State K) (n : ℕ) (ρ : Env) → Within small large → Agree st n large ρ → Agree st n small ρ
  agree_within small large st n ρ w h x ty t inside = h x ty t (w x inside)

  pub agree_moved : (st u : State K) (n : ℕ) (set : Locals) (ρ : Env) → ((x : ℕ) → tree_at u (local_at n x) ≡ tree_at st (local_at n x)) → Agree st n set ρ → Agree u n set ρ
  agree_moved st u n set ρ same h x ty t inside is_ty e = h x ty t inside is_ty (sym (same x) ∙ e)

  pub agree_gone : {st u : State K} {n : ℕ} {ks : List Stop} (set : Locals) (ρ : Env) (x : ℕ) → Written st (local_at n x) Gone ks u → Agree st n set ρ → Agree u n (without x set) ρ
  agree_gone {n = n} set ρ x w h y ty t inside is_ty e =
      ⊎_elim
      (λ same. absurd (true≢false (sym inside ∙ ap (λ c. cond c false (set y)) (eq-eqb y x same))))
      (λ other. h y ty t (without_before x set y inside) is_ty (sym (written_apart w (local_at n y) (λ i d. other d)) ∙ e))
      (apart x y)

  -- local x has the tree, and its name the value
  pub agree_set : {st u : State K} {n : ℕ} {ks : List Stop} {v : Tree K} (set : Locals) (ρ σ : Env) (x : ℕ) → Written st (local_at n x) v ks u → Agree st n set ρ → Shows v (σ (name_of b x)) →
      ((y : ℕ) (ty : Ty) → slice_get b.locals y ≡ Some ty → (y ≡ x → ⊥) → σ (name_of b y) ≡ ρ (name_of b y)) →
      Agree u n (with x set) σ
  agree_set {u = u} {n = n} {v = v} set ρ σ x w h shows others y ty t inside is_ty e =
      ⊎_elim
      (λ same.
      let is_t : v ≡ t = same_yield v t (sym w.here ∙ sym (ap (λ z. tree_at u (local_at n z)) same) ∙ e) in
      subst (λ z. Shows t (σ (name_of b z))) (sym same) (subst (λ (w : Tree K). Shows w (σ (name_of b x))) is_t shows))
      (λ other. subst (Shows t) (sym (others y ty is_ty other)) (h y ty t (with_before x set y (ne_eqb y x other) inside) is_ty (sym (written_apart w (local_at n y) (λ i d. other d)) ∙ e)))
      (apart x y)
    where
      same_yield : (v t : Tree K) → Yields v ≡ Yields t → v ≡ t
      same_yield v t q = cc

  -- ---- operands

  literal_shows : (l : Lit) → Shows {K = K} (literal l) (literal_value l)
  literal_shows (lit.Int z k) = int_shows K z
  literal_shows (lit.Bool c) = truth_shows K c

  -- along a path a tree shows the part of what it shows
  part_shows : {w t : Tree K} {path : List Proj} {v : Value} → IsAlong w path t → Shows w v → Shows t (value_at v path)
  part_shows whole_along h = h
  part_shows {v = v} (field_along {c = c} {ts = ts} {t = u} {n = n} is_u along) h = part_shows along (field_shows c ts n u v is_u h)
  part_shows {v = v} (box_along {t = u} along) h = part_shows along (held_shows u v h)

  -- the tree that an operand gave shows the operand's value
  pub took_shows : {st u : State K} {n : ℕ} {set : Locals} {t : Tree K} (Θ : Theory) (ρ : Env) (o : Operand) (ty : Ty) → UsedHas Θ b o ty → CanTake set o → Agree st n set ρ → Took n st set o u t → Shows t (operand_value b ρ o)
  took_shows Θ ρ (Copy p) ty (whole_ty, is_ty, leads) can h took = let (w, is_w, along) = took.is_read in part_shows along (h p.local whole_ty w can is_ty is_w)
  took_shows {t = t} Θ ρ (Move p) ty has can h took = subst (Shows t) (sym (whole_value b ρ p ty has)) (h p.local ty t can has.1 took.is_read)
  took_shows Θ ρ (Const l) ty has can h took = subst (λ (w : Tree K). Shows w (literal_value l)) (sym took.is_read) (literal_shows l)

  pub took_agrees : {st u : State K} {n : ℕ} {set : Locals} {t : Tree K} (ρ : Env) (o : Operand) → Agree st n set ρ → Took n st set o u t → Agree u n (taken o set) ρ
  took_agrees {set = set} ρ o h took x ty t inside is_ty e = h x ty t (taken_before o set x inside) is_ty (sym (took.same x inside) ∙ e)

  pub took_all_agree : {n : ℕ} {st u : State K} {set : Locals} {os : List Operand} {ts : List (Tree K)} (ρ : Env) → Agree st n set ρ → TookAll n st set os u ts → Agree u n (all_taken os set) ρ
  took_all_agree ρ h took_none = h
  took_all_agree ρ h (took_more {o = o} took rest) = took_all_agree ρ (took_agrees ρ o h took) rest

  pub took_all_show : {n : ℕ} {st u : State K} {set : Locals} {os : List Operand} {ts : List (Tree K)} (Θ : Theory) (ρ : Env) (tys : List Ty) → AllUsed Θ b os tys → CanTakeAll set os → Agree st n set ρ → TookAll n st set os u ts →
      AllShow ts (operand_values b ρ os)
  took_all_show Θ ρ tys have can h took_none = tt
  took_all_show Θ ρ [] have can h (took_more took rest) = absurd have
  took_all_show Θ ρ (ty ∷ tys) have can h (took_more {o = o} took rest) = (took_shows Θ ρ o ty have.0 can.0 h took, took_all_show Θ ρ tys have.1 can.1 (took_agrees ρ o h took) rest)

  -- ---- right sides

  -- what is made of one tree, or of two
  one_shows : (ts : List (Tree K)) (v w : Value) (make : Tree K → Try (Tree K)) → AllShow ts (and_value v no_values) → ((t : Tree K) → Shows t v → Quiet (λ r. Shows r w) (make t)) → Quiet (λ r. Shows r w) (need (slice_get ts 0) >>= make)
  one_shows [] v w make h go = absurd h
  one_shows (t ∷ ts) v w make h go = go t h.0

  two_show : (ts : List (Tree K)) (u v w : Value) (make : Tree K → Tree K → Try (Tree K)) → AllShow ts (and_value u (and_value v no_values)) → ((x y : Tree K) → Shows x u → Shows y v → Quiet (λ r. Shows r w) (make x y)) →
      Quiet (λ r. Shows r w) (need (slice_get ts 0) >>= λ x. need (slice_get ts 1) >>= make x)
  two_show [] u v w make h go = absurd h
  two_show (x ∷ []) u v w make h go = absurd h.1
  two_show (x ∷ y ∷ ts) u v w make h go = go x y h.0 h.1.0

  use_shows : (ts : List (Tree K)) (v : Value) → AllShow ts (and_value v no_values) → Quiet (λ r. Shows r v) (need (slice_get ts 0))
  use_shows [] v h = absurd h
  use_shows (t ∷ ts) v h = h.0

  pub value_shows : (ρ : Env) (kind : Option IntKind) (span : Span) (r : Rvalue) (ts : List (Tree K)) → AllShow ts (operand_values b ρ (operands_of r)) → RvalueIsInRange b kind ρ r →
      Quiet (λ t. Shows t (rvalue_value b ρ r)) (value_of kind span r ts)
  value_shows ρ kind span (Use o) ts shows in_range = use_shows ts (operand_value b ρ o) shows
  value_shows ρ kind span (Binary op x y) ts shows in_range =
      two_show ts (operand_value b ρ x) (operand_value b ρ y) (rvalue_value b ρ (Binary op x y)) (binary kind span op) shows
      (λ t u shows_t shows_u. binary_shows K kind span op t u (operand_value b ρ x) (operand_value b ρ y) shows_t shows_u in_range)
  value_shows ρ kind span (Neg o) ts shows in_range =
      one_shows ts (operand_value b ρ o) (Number (opposite (operand_value b ρ o))) (negated kind span) shows (λ t shows_t. negated_shows K kind span t (operand_value b ρ o) shows_t in_range)
  value_shows ρ kind span (Not o) ts shows in_range =
      one_shows ts (operand_value b ρ o) (Flag (not (flag_of (operand_value b ρ o)))) inverted shows (λ t shows_t. inverted_shows K t (operand_value b ρ o) shows_t)
  value_shows ρ kind span (Widen o k) ts shows in_range = use_shows ts (operand_value b ρ o) shows
  value_shows ρ kind span (Make c os) ts shows in_range = made_shows c ts (operand_values b ρ os) shows
  value_shows ρ kind span (BoxNew o) ts shows in_range = one_shows ts (operand_value b ρ o) (operand_value b ρ o) (λ t. Yields (Boxed t)) shows (λ t shows_t. box_shows t (operand_value b ρ o) shows_t)
