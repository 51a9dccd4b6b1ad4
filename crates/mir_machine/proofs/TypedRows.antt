-- What the rows of the running frame do to a state in which its locals are typed: operands, right sides and statements.
use Rattle.std.proofs.Common.{◌≡◌, ◌∙◌, ◌⊎◌, inl, inr, ⊎_elim, refl, sym, ap, subst, ℕ, zero, suc, ◌-◌, ◌==◌, Bool, true, false, cond, List, [], ◌∷◌, length, Option, Some, slice_get, eq-eqb, ne_eqb, arith}
use Rattle.std.proofs.lemmas.Bool.{eqb-true}
use Rattle.std.proofs.lemmas.Option.{same_Some}
use Rattle.std.specs.Option.{option_map}
use Rattle.text_core.specs.declared.span.Span.{Span}
use Rattle.source_kinds.specs.declared.kinds.IntKind.{IntKind}
use Rattle.source_kinds.specs.Range.{widens}
use Rattle.source_kinds.proofs.Widening.{fits_wider}
use Rattle.logic_term.specs.declared.kinds.Ctor.{Ctor}
use Rattle.logic_term.specs.declared.kinds.Ctor.TheVariants.{Tuple, Variant, Closure}
use Rattle.logic_term.specs.Ty.{Ty, Tys, int, bool, boxed}
use Rattle.logic_term.specs.TyView.{tys_of}
use Rattle.logic_term.specs.Sort.{Declarations, instance, instances}
use Rattle.logic_term.specs.Sorted.{MadeSort}
use Rattle.logic_term.specs.Theory.{Theory}
use Rattle.logic_term.proofs.SortParts.{instances_instances}
use Rattle.mir_ir.specs.declared.place.Lit.{Lit}
use Rattle.mir_ir.specs.declared.place.Lit.TheVariants as lit
use Rattle.mir_ir.specs.declared.place.Place.{Place}
use Rattle.mir_ir.specs.declared.place.Operand.{Operand}
use Rattle.mir_ir.specs.declared.place.Operand.TheVariants.{Copy, Move, Const}
use Rattle.mir_ir.specs.declared.statement.Rvalue.{Rvalue}
use Rattle.mir_ir.specs.declared.statement.Rvalue.TheVariants.{Use, Binary, Neg, Not, Widen, Make, BoxNew}
use Rattle.mir_ir.specs.declared.statement.StatementKind.{StatementKind}
use Rattle.mir_ir.specs.declared.statement.StatementKind.TheVariants.{Assign, Dead}
use Rattle.mir_ir.specs.declared.body.Body.{Body}
use Rattle.mir_ir.specs.declared.body.Bodies.{Bodies}
use Rattle.mir_ir.specs.Body.{whole as whole_ty, place_ty, kind_of, kind_in}
use Rattle.mir_ir.specs.Declares.{Declares, theory_in}
use Rattle.mir_ir.specs.Paths.{LeadsTo}
use Rattle.mir_ir.specs.WellFormed.{PlaceHas, LitHas, UsedHas, RvalueHas, StatementIsTyped, Locals, without, with, Within}
use Rattle.mir_ir.proofs.Declared.{declared_there}
use Rattle.mir_ir.proofs.Paths.{AllUsed, operand_used, operands_used, leads_instance}
use Rattle.mir_ir.proofs.Taking.{CanTake, taken, CanTakeAll, all_taken, CanEvaluate, evaluated, CanRun, run}
use Rattle.mir_machine.specs.Try.{Try, Yields, ◌>>=◌, need}
use Rattle.mir_machine.specs.Tree.{Tree, Trees, Int, Truth, Made, Boxed, Gone, trees_of}
use Rattle.mir_machine.specs.Frame.{State}
use Rattle.mir_machine.specs.Memory.{is_there, read, write, put_at, tree_at, tree_in, walk, spot_of, running}
use Rattle.mir_machine.specs.Step.{Taken, operand, operands, binary, negated, inverted, literal, whole, past, statement_step}
use Rattle.mir_machine.specs.Taken.{operands_of, boxed_first, value_of}
use Rattle.mir_machine.specs.Typed.{AreTyped, is_tuple, is_adt, is_boxed, none_typed}
use Rattle.mir_machine.specs.Invariant.{Stop, stops, local_at, HasType, HoldsLocals}
use Rattle.mir_machine.proofs.Tried.{then_then, Goes, goes_then}
use Rattle.mir_machine.proofs.TypedTrees.{has_type_kept, has_shape, has_int, has_truth, SameOutside}
use Rattle.mir_machine.proofs.Paths.{IsAlong, Have, have_more, within_spot, tree_within, Reached, reached}
use Rattle.mir_machine.proofs.Operators.{binary_goes, negated_goes, inverted_goes}
use Rattle.mir_machine.proofs.OperandsFirst.{rvalue-row}
use Rattle.mir_machine.proofs.Writes.{Written, written_apart, put_yields, written_elsewhere, written_on, SameTrees, SameElsewhere, at_next, past_yields, whole-path}

false_true : {P : Type 0} → false ≡ true → P
false_true e = absurd (cc)

-- two numbers are the same, or not
pub apart : (x y : ℕ) → (y ≡ x) ⊎ (y ≡ x → ⊥)
apart x y = by_test (y == x) refl
  where
    by_test : (t : Bool) → (y == x) ≡ t → (y ≡ x) ⊎ (y ≡ x → ⊥)
    by_test true e = inl (eqb-true y x e)
    by_test false e = inr (λ q. false_true (sym e ∙ eq-eqb y x q))

running_stops : {K : Type 0} (s : State K) → running s ≡ length (stops s) - 1
running_stops [] = refl
running_stops (f ∷ fs) = omega (arith, lengths fs)
  where
    lengths : {K : Type 0} (s : State K) → length (stops s) ≡ length s
    lengths [] = refl
    lengths (f ∷ fs) = ap suc (lengths fs)

-- as many frames, so the running one has the same number
pub still_running : {K : Type 0} (s u : State K) (n : ℕ) → stops u ≡ stops s → running s ≡ n → running u ≡ n
still_running s u n e is = running_stops u ∙ ap (λ ks. length ks - 1) e ∙ sym (running_stops s) ∙ is

-- ---- a write of a local of the running frame

pub write_yields : {K : Type 0} (s : State K) (n : ℕ) (p : Place) (u w : Tree K) → running s ≡ n → p.path ≡ [] → tree_at s (local_at n p.local) ≡ Yields w
    → (s' : State K) × (write s p u ≡ Yields s') × Written s (local_at n p.local) u (stops s) s'
write_yields s n p u w is_n no_path e =
    let (s', is, written) = put_yields s (local_at n p.local) u w e in
    (s', ap (λ q. write s q u) (whole-path p no_path) ∙ ap (λ k. put_at s (local_at k p.local) u) is_n ∙ is, written)

-- it is written, and the frame goes on
pub write_then : {K : Type 0} (s : State K) (n : ℕ) (p : Place) (u w : Tree K) (k : State K → Try (State K)) (ls : List Stop) → running s ≡ n → p.path ≡ [] → tree_at s (local_at n p.local) ≡ Yields w
    → ((v : State K) → stops v ≡ stops s → (v' : State K) × (k v ≡ Yields v') × (stops v' ≡ ls) × SameTrees v v')
    → (s' : State K) × ((write s p u >>= k) ≡ Yields s') × Written s (local_at n p.local) u ls s'
write_then s n p u w k ls is_n no_path e go =
    let (v, is_v, written) = write_yields s n p u w is_n no_path e in
    let (v', is_v', stay, same) = go v written.stay in
    (v', ap (λ m. m >>= k) is_v ∙ is_v', written_on ls v' written stay same)

-- ---- right sides

pub evaluated_is : (r : Rvalue) (set : Locals) → all_taken (operands_of r) set ≡ evaluated r set
evaluated_is (Use o) set = refl
evaluated_is (Binary op x y) set = refl
evaluated_is (Neg o) set = refl
evaluated_is (Not o) set = refl
evaluated_is (Widen o k) set = refl
evaluated_is (Make c os) set = refl
evaluated_is (BoxNew o) set = refl

pub can_take_all : (r : Rvalue) (set : Locals) → CanEvaluate set r → CanTakeAll set (operands_of r)
can_take_all (Use o) set h = (h, tt)
can_take_all (Binary op x y) set h = (h.0, (h.1, tt))
can_take_all (Neg o) set h = (h, tt)
can_take_all (Not o) set h = (h, tt)
can_take_all (Widen o k) set h = (h, tt)
can_take_all (Make c os) set h = h
can_take_all (BoxNew o) set h = (h, tt)

pub kind_of_place : (b : Body) (θ : Tys) (p : Place) (ty : Ty) → PlaceHas b p ty → kind_in (place_ty b θ p) ≡ kind_of (instance θ ty)
kind_of_place b θ p ty h =
    ap (λ ps. kind_in (whole_ty ps (option_map (instance θ) (slice_get b.locals p.local)))) h.0 ∙ ap (λ o. kind_in (option_map (instance θ) o)) h.1

-- n: the number of the running frame
module _ {K : Type 0} (n : ℕ) where
  -- the tree is that which the operand names: of a place that is copied, the part to which its path leads
  abbrev pub IsRead : State K → Operand → Tree K → Type 0
  IsRead s (Copy p) t = (w : Tree K) × (tree_at s (local_at n p.local) ≡ Yields w) × IsAlong w p.path t
  IsRead s (Move p) t = tree_at s (local_at n p.local) ≡ Yields t
  IsRead s (Const l) t = t ≡ literal l

  -- the operand was taken: what is initialised behind it is as it was
  pub record Took (s : State K) (set : Locals) (o : Operand) (u : State K) (t : Tree K) : Type 0 where
    pub stay : stops u ≡ stops s
    pub elsewhere : SameElsewhere n s u
    pub is_read : IsRead s o t
    pub same : (x : ℕ) → taken o set x ≡ true → tree_at u (local_at n x) ≡ tree_at s (local_at n x)

  -- operands were taken, one after another
  pub data TookAll : State K → Locals → List Operand → State K → List (Tree K) → Type 0 where
    took_none : {s : State K} {set : Locals} → TookAll s set [] s []
    took_more : {s u v : State K} {set : Locals} {o : Operand} {os : List Operand} {t : Tree K} {ts : List (Tree K)} → Took s set o u t → TookAll u (taken o set) os v ts → TookAll s set (o ∷ os) v (t ∷ ts)

-- ---- rows of a frame whose locals are typed

-- the trees have the types, one for each
pub record AreOf {K : Type 0} (Δ : Declarations) (s : State K) (θ : Tys) (ts : List (Tree K)) (tys : List Ty) : Type 0 where
  pub count : length ts ≡ length tys
  pub each : (i : ℕ) (ty : Ty) → slice_get tys i ≡ Some ty → (t : Tree K) × (slice_get ts i ≡ Some t) × HasType Δ s (instance θ ty) t

pub are_of_none : {K : Type 0} {Δ : Declarations} {s : State K} {θ : Tys} → AreOf Δ s θ [] []
are_of_none = record { count = refl; each = λ i ty e. absurd (cc) }

pub are_of_more : {K : Type 0} {Δ : Declarations} {s : State K} {θ : Tys} {ts : List (Tree K)} {tys : List Ty} (t : Tree K) (ty : Ty) → HasType Δ s (instance θ ty) t → AreOf Δ s θ ts tys → AreOf Δ s θ (t ∷ ts) (ty ∷ tys)
are_of_more {K} {Δ} {s} {θ} {ts} {tys} t ty h hs = record { count = ap suc hs.count; each = at }
  where
    at : (i : ℕ) (q : Ty) → slice_get (ty ∷ tys) i ≡ Some q → (u : Tree K) × (slice_get (t ∷ ts) i ≡ Some u) × HasType Δ s (instance θ q) u
    at zero q e = (t, refl, subst (λ of. HasType Δ s (instance θ of) t) (same_Some _ _ e) h)
    at (suc i) q e = hs.each i q e

pub are_of_kept : {K : Type 0} {Δ : Declarations} {s : State K} {θ : Tys} {ts : List (Tree K)} {tys : List Ty} (u : State K) → SameOutside s u → AreOf Δ s θ ts tys → AreOf Δ u θ ts tys
are_of_kept u same h = record { count = h.count; each = λ i ty e. let t = h.each i ty e in (t.0, t.1, has_type_kept u same t.2) }

-- the operands of a right side have these types
abbrev pub operand_tys : (bodies : Bodies) (b : Body) (r : Rvalue) (ty : Ty) → RvalueHas bodies b r ty → List Ty
operand_tys bodies b (Use o) ty has = ty ∷ []
operand_tys bodies b (Binary op x y) ty has = has.0 ∷ has.0 ∷ []
operand_tys bodies b (Neg o) ty has = int has.0 ∷ []
operand_tys bodies b (Not o) ty has = bool ∷ []
operand_tys bodies b (Widen o k) ty has = int has.0 ∷ []
operand_tys bodies b (Make c os) ty has = has.0
operand_tys bodies b (BoxNew o) ty has = has.0 ∷ []

pub operands_have : (bodies : Bodies) (b : Body) (r : Rvalue) (ty : Ty) (has : RvalueHas bodies b r ty) → AllUsed (theory_in bodies) b (operands_of r) (operand_tys bodies b r ty has)
operands_have bodies b (Use o) ty has = (has, tt)
operands_have bodies b (Binary op x y) ty (of, has_x, has_y, op_has) = (operand_used (theory_in bodies) b x of has_x, (operand_used (theory_in bodies) b y of has_y, tt))
operands_have bodies b (Neg o) ty (k, signed, has, is_ty) = (operand_used (theory_in bodies) b o (int k) has, tt)
operands_have bodies b (Not o) ty (has, is_ty) = (operand_used (theory_in bodies) b o bool has, tt)
operands_have bodies b (Widen o k) ty (j, wide, has, is_ty) = (operand_used (theory_in bodies) b o (int j) has, tt)
operands_have bodies b (Make c os) ty (tys, have, made) = operands_used (theory_in bodies) b os tys have
operands_have bodies b (BoxNew o) ty (of, has, is_ty) = (operand_used (theory_in bodies) b o of has, tt)

-- a value is made of trees of these types
pub have_all : {K : Type 0} (Δ : Declarations) (s : State K) (θ : Tys) (ts : List (Tree K)) (tys : List Ty) → AreOf Δ s θ ts tys → Have Δ s (trees_of ts) (instances θ (tys_of tys))
have_all Δ s θ [] [] are = record { met = []; typed = none_typed; outer = tt }
have_all Δ s θ [] (ty ∷ tys) are = absurd (omega (arith, are.count))
have_all Δ s θ (t ∷ ts) [] are = absurd (omega (arith, are.count))
have_all Δ s θ (t ∷ ts) (ty ∷ tys) are =
    let first = are.each 0 ty refl in
    have_more Δ s (subst (HasType Δ s (instance θ ty)) (sym (same_Some _ _ first.1)) first.2)
    (have_all Δ s θ ts tys (record { count = omega (arith, are.count); each = λ i q e. are.each (suc i) q e }))

pub made_typed : {K : Type 0} (Δ : Declarations) (s : State K) (θ : Tys) (bodies : Bodies) → Declares Δ bodies → (c : Ctor) (ts : Trees K) (tys : Tys) (ty : Ty) → MadeSort (theory_in bodies) c tys ty → Have Δ s ts (instances θ tys)
    → HasType Δ s (instance θ ty) (Made c ts)
made_typed Δ s θ bodies declares Tuple ts tys ty is h = subst (λ q. HasType Δ s (instance θ q) (Made Tuple ts)) (sym is) (record { met = h.met; typed = is_tuple h.typed; outer = h.outer })
made_typed Δ s θ bodies declares (Variant d k) ts tys ty (rs, args, fs, is, e, fields) h =
    let typed : AreTyped Δ s ts (instances (instances θ args) fs) h.met = subst (λ qs. AreTyped Δ s ts qs h.met) (ap (instances θ) fields ∙ instances_instances θ args fs) h.typed in
    subst (λ q. HasType Δ s (instance θ q) (Made (Variant d k) ts)) (sym is) (record { met = h.met; typed = is_adt (declared_there Δ bodies declares d k fs e) typed; outer = h.outer })
made_typed Δ s θ bodies declares (Closure n) ts tys ty is h = absurd is

-- the place's local is initialised, and the path leads from its type to another
pub record IsPlaceOf (Θ : Theory) (b : Body) (θ : Tys) (set : Locals) (p : Place) (of : Ty) : Type 0 where
  pub ty : Ty
  pub is_ty : slice_get b.locals p.local ≡ Some ty
  pub is_in : set p.local ≡ true
  pub leads : LeadsTo Θ (instance θ ty) p.path of

-- inside: the running frame is not the outside
module _ {K : Type 0} (Δ : Declarations) (b : Body) (θ : Tys) (n : ℕ) (inside : n ≡ 0 → ⊥) where
  abbrev pub Held : State K → Locals → Type 0
  Held s set = HoldsLocals Δ s n b θ set

  pub outside_same : (s u : State K) → SameElsewhere n s u → SameOutside s u
  outside_same s u h at e = h at (λ q. inside (sym q ∙ e))

  pub held_within : {s : State K} (small large : Locals) → Within small large → Held s large → Held s small
  held_within small large w h = record { slot = h.slot; typed = λ x ty t is_in. h.typed x ty t (w x is_in) }

  slot_written : {s u : State K} {t : Tree K} {ks : List Stop} {set : Locals} (x : ℕ) → Written s (local_at n x) t ks u → Held s set → (y : ℕ) (ty : Ty) → slice_get b.locals y ≡ Some ty → (w : Tree K) × (tree_at u (local_at n y) ≡ Yields w)
  slot_written {u = u} {t = t} x w h y ty is_ty =
      ⊎_elim
      (λ same. (t, ap (λ z. tree_at u (local_at n z)) same ∙ w.here))
      (λ other. ((h.slot y ty is_ty).0, written_apart w (local_at n y) (λ e d. other d) ∙ (h.slot y ty is_ty).1))
      (apart x y)

  pub held_gone : {s u : State K} {ks : List Stop} {set : Locals} {v : Tree K} (x : ℕ) → Written s (local_at n x) v ks u → Held s set → Held u (without x set)
  held_gone {s} {u} {ks} {set} x w h = record {
    slot = slot_written x w h;
    typed = λ y ty t is_in is_ty e.
        ⊎_elim
        (λ same. false_true (sym (ap (λ c. cond c false (set y)) (eq-eqb y x same)) ∙ is_in))
        (λ other. has_type_kept u (outside_same s u (written_elsewhere n refl w))
        (h.typed y ty t (sym (ap (λ c. cond c false (set y)) (ne_eqb y x other)) ∙ is_in) is_ty (sym (written_apart w (local_at n y) (λ e d. other d)) ∙ e)))
        (apart x y);
  }

  pub held_set : {s u : State K} {ks : List Stop} {set : Locals} {t : Tree K} (x : ℕ) (ty : Ty) → Written s (local_at n x) t ks u → slice_get b.locals x ≡ Some ty → HasType Δ s (instance θ ty) t → Held s set → Held u (with x set)
  held_set {s} {u} {ks} {set} {t} x ty w is_x typed h =
      let kept : SameOutside s u = outside_same s u (written_elsewhere n refl w) in
      record {
        slot = slot_written x w h;
        typed = λ y ty' t' is_in is_ty e.
            ⊎_elim
            (λ same.
            let is_t : Yields t ≡ Yields t' = sym w.here ∙ sym (ap (λ z. tree_at u (local_at n z)) same) ∙ e in
            let ty_is : ty ≡ ty' = same_Some _ _ (sym is_x ∙ subst (λ z. slice_get b.locals z ≡ Some ty') same is_ty) in
            subst (λ v. HasType Δ u (instance θ ty') v) (same_tree t t' is_t) (subst (λ q. HasType Δ u (instance θ q) t) ty_is (has_type_kept u kept typed)))
            (λ other. has_type_kept u kept
            (h.typed y ty' t' (sym (ap (λ c. cond c true (set y)) (ne_eqb y x other)) ∙ is_in) is_ty (sym (written_apart w (local_at n y) (λ e d. other d)) ∙ e)))
            (apart x y);
      }
    where
      same_tree : (t t' : Tree K) → Yields t ≡ Yields t' → t ≡ t'
      same_tree t t' e = cc

  -- ---- operands

  pub record Takes (s : State K) (set : Locals) (o : Operand) (ty : Ty) : Type 0 where
    pub after : State K
    pub tree : Tree K
    pub yields : operand s o ≡ Yields (after, tree)
    pub took : Took n s set o after tree
    pub held : Held after (taken o set)
    pub typed : HasType Δ after (instance θ ty) tree

  -- a local that is initialised is read
  pub local_read : (s : State K) (set : Locals) (x : ℕ) (ty : Ty) → Held s set → slice_get b.locals x ≡ Some ty → set x ≡ true
      → (t : Tree K) × (tree_at s (local_at n x) ≡ Yields t) × (is_there t ≡ Yields t) × HasType Δ s (instance θ ty) t
  local_read s set x ty h is_ty is_in =
      let u = h.slot x ty is_ty in
      let typed = h.typed x ty u.0 is_in is_ty u.1 in
      (u.0, u.1, (has_shape typed).0, typed)

  pub read_yields : (s : State K) (p : Place) (t : Tree K) → running s ≡ n → p.path ≡ [] → tree_at s (local_at n p.local) ≡ Yields t → is_there t ≡ Yields t → read s p ≡ Yields t
  read_yields s p t is_n no_path e there =
      ap (read s) (whole-path p no_path) ∙ ap (λ k. tree_at s (local_at k p.local) >>= is_there) is_n ∙ ap (λ (m : Try (Tree K)). m >>= is_there) e ∙ there

  -- the local's tree, and its part at the place
  pub record At (s : State K) (p : Place) (ty of : Ty) : Type 0 where
    pub tree : Tree K
    pub is_tree : tree_at s (local_at n p.local) ≡ Yields tree
    pub there : Reached Δ s tree ty p.path of
    pub is_spot : spot_of s p ≡ Yields (within_spot (local_at n p.local) there.children)
    pub is_part : tree_at s (within_spot (local_at n p.local) there.children) ≡ Yields there.part

  pub at_place : (bodies : Bodies) → Declares Δ bodies → (s : State K) (set : Locals) (p : Place) (of : Ty) → running s ≡ n → Held s set → (q : IsPlaceOf (theory_in bodies) b θ set p of) → At s p (instance θ q.ty) of
  at_place bodies declares s set p of is_n h q =
      let (t, is_t, there, typed) = local_read s set p.local q.ty h q.is_ty q.is_in in
      let r = reached Δ bodies declares s q.leads t typed.met typed.typed typed.outer in
      record {
        tree = t;
        is_tree = is_t;
        there = r;
        is_spot = ap (λ k. walk s (local_at k p.local) p.path) is_n ∙ r.walks (local_at n p.local) is_t;
        is_part = tree_within s (local_at n p.local) r.children ∙ ap (λ (m : Try (Tree K)). m >>= tree_in r.children) is_t ∙ r.is_part;
      }

  -- it reads as its part there
  pub place_read : {s : State K} {p : Place} {ty of : Ty} (a : At s p ty of) → read s p ≡ Yields a.there.part
  place_read {s} a = ap (λ m. m >>= λ at. tree_at s at >>= is_there) a.is_spot ∙ ap (λ (m : Try (Tree K)). m >>= is_there) a.is_part ∙ (has_shape a.there.typed).0

  literal_typed : (s : State K) (l : Lit) (ty : Ty) → LitHas l ty → HasType Δ s (instance θ ty) (literal l)
  literal_typed s (lit.Int z k) ty (e, fit) = subst (λ t. HasType Δ s (instance θ t) (Int z)) (sym e) (has_int k z fit)
  literal_typed s (lit.Bool x) ty e = subst (λ t. HasType Δ s (instance θ t) (Truth x)) (sym e) (has_truth x)

  pub take_yields : (bodies : Bodies) → Declares Δ bodies → (s : State K) (set : Locals) (o : Operand) (ty : Ty) → running s ≡ n → Held s set → UsedHas (theory_in bodies) b o ty → CanTake set o → Takes s set o ty
  take_yields bodies declares s set (Copy p) ty is_n h (whole_ty, is_ty, leads) can =
      let a = at_place bodies declares s set p (instance θ ty) is_n h (record { ty = whole_ty; is_ty = is_ty; is_in = can; leads = leads_instance θ leads }) in
      record {
        after = s;
        tree = a.there.part;
        yields = ap (λ (m : Try (Tree K)). m >>= λ t. Yields (s, t)) (place_read a);
        took = record { stay = refl; elsewhere = λ at d. refl; is_read = (a.tree, a.is_tree, a.there.along); same = λ x i. refl };
        held = h;
        typed = a.there.typed;
      }
  take_yields bodies declares s set (Move p) ty is_n h has can =
      let (t, is_t, there, typed) = local_read s set p.local ty h has.1 can in
      let (s', is_s', w) = write_yields s n p Gone t is_n has.0 is_t in
      record {
        after = s';
        tree = t;
        yields = ap (λ (m : Try (Tree K)). m >>= λ t. write s p Gone >>= λ s'. Yields (s', t)) (read_yields s p t is_n has.0 is_t there) ∙ ap (λ (m : Try (State K)). m >>= λ s'. Yields (s', t)) is_s';
        took = record {
          stay = w.stay;
          elsewhere = written_elsewhere n refl w;
          is_read = is_t;
          same = λ x i. written_apart w (local_at n x) (λ e d. false_true (sym (ap (λ c. cond c false (set x)) (eq-eqb x p.local d)) ∙ i));
        };
        held = held_gone p.local w h;
        typed = has_type_kept s' (outside_same s s' (written_elsewhere n refl w)) typed;
      }
  take_yields bodies declares s set (Const l) ty is_n h has can = record {
    after = s;
    tree = literal l;
    yields = refl;
    took = record { stay = refl; elsewhere = λ at d. refl; is_read = refl; same = λ x i. refl };
    held = h;
    typed = literal_typed s l ty has;
  }

  pub record TakesAll (s : State K) (set : Locals) (os : List Operand) (tys : List Ty) : Type 0 where
    pub after : State K
    pub trees : List (Tree K)
    pub yields : operands s os ≡ Yields (after, trees)
    pub stay : stops after ≡ stops s
    pub elsewhere : SameElsewhere n s after
    pub took : TookAll n s set os after trees
    pub held : Held after (all_taken os set)
    pub typed : AreOf Δ after θ trees tys

  pub take_all_yields : (bodies : Bodies) → Declares Δ bodies → (s : State K) (set : Locals) (os : List Operand) (tys : List Ty) → running s ≡ n → Held s set → AllUsed (theory_in bodies) b os tys → CanTakeAll set os → TakesAll s set os tys
  take_all_yields bodies declares s set [] [] is_n h have can = record { after = s; trees = []; yields = refl; stay = refl; elsewhere = λ at d. refl; took = took_none; held = h; typed = are_of_none }
  take_all_yields bodies declares s set [] (ty ∷ tys) is_n h have can = absurd have
  take_all_yields bodies declares s set (o ∷ os) [] is_n h have can = absurd have
  take_all_yields bodies declares s set (o ∷ os) (ty ∷ tys) is_n h have can =
      let first = take_yields bodies declares s set o ty is_n h have.0 can.0 in
      let rest = take_all_yields bodies declares first.after (taken o set) os tys (still_running s first.after n first.took.stay is_n) first.held have.1 can.1 in
      record {
        after = rest.after;
        trees = first.tree ∷ rest.trees;
        yields = ap (λ (m : Try (Taken K)). m >>= λ r. operands r.0 os >>= λ q. Yields (q.0, r.1 ∷ q.1)) first.yields
            ∙ ap (λ (m : Try (State K × List (Tree K))). m >>= λ q. Yields (q.0, first.tree ∷ q.1)) rest.yields;
        stay = rest.stay ∙ first.took.stay;
        elsewhere = λ at d. rest.elsewhere at d ∙ first.took.elsewhere at d;
        took = took_more first.took rest.took;
        held = rest.held;
        typed = are_of_more first.tree ty (has_type_kept rest.after (outside_same first.after rest.after rest.elsewhere) first.typed) rest.typed;
      }

  -- ---- values of right sides

  -- of the tree that has to be there
  with_tree : (P : Tree K → Type 0) (o : Option (Tree K)) (t : Tree K) (k : Tree K → Try (Tree K)) → o ≡ Some t → Goes P (k t) → Goes P (need o >>= k)
  with_tree P o t k e h = subst (λ (q : Option (Tree K)). Goes P (need q >>= k)) (sym e) h

  one_goes : (u : State K) (of ty : Ty) (make : Tree K → Try (Tree K)) (ts : List (Tree K)) → AreOf Δ u θ ts (of ∷ [])
      → ((t : Tree K) → HasType Δ u (instance θ of) t → Goes (HasType Δ u (instance θ ty)) (make t)) → Goes (HasType Δ u (instance θ ty)) (need (slice_get ts 0) >>= make)
  one_goes u of ty make ts are go = let t = are.each 0 of refl in with_tree (HasType Δ u (instance θ ty)) (slice_get ts 0) t.0 make t.1 (go t.0 t.2)

  use_goes : (u : State K) (ty : Ty) (ts : List (Tree K)) → AreOf Δ u θ ts (ty ∷ []) → Goes (HasType Δ u (instance θ ty)) (need (slice_get ts 0))
  use_goes u ty ts are = let t = are.each 0 ty refl in subst (λ (q : Option (Tree K)). Goes (HasType Δ u (instance θ ty)) (need q)) (sym t.1) t.2

  -- the integer is one of the wider type
  wide_goes : (u : State K) (j k : IntKind) (ts : List (Tree K)) → widens j k ≡ true → AreOf Δ u θ ts (int j ∷ []) → Goes (HasType Δ u (int k)) (need (slice_get ts 0))
  wide_goes u j k ts wide are =
      let t = are.each 0 (int j) refl in
      let (z, is, e) = (has_shape t.2).1 in
      subst (λ (q : Option (Tree K)). Goes (HasType Δ u (int k)) (need q)) (sym t.1) (subst (HasType Δ u (int k)) (sym is) (has_int k z (fits_wider j k z wide e)))

  box_goes : (u : State K) (of : Ty) (ts : List (Tree K)) → AreOf Δ u θ ts (of ∷ []) → Goes (HasType Δ u (boxed (instance θ of))) (boxed_first ts)
  box_goes u of ts are =
      let t = are.each 0 of refl in
      with_tree (HasType Δ u (boxed (instance θ of))) (slice_get ts 0) t.0 (λ v. Yields (Boxed v)) t.1 (record { met = t.2.met; typed = is_boxed t.2.typed; outer = t.2.outer })

  -- what is made of trees of these types is of the right side's type
  value_goes : (bodies : Bodies) → Declares Δ bodies → (u : State K) (span : Span) (r : Rvalue) (ty : Ty) (has : RvalueHas bodies b r ty) (ts : List (Tree K)) → AreOf Δ u θ ts (operand_tys bodies b r ty has)
      → Goes (HasType Δ u (instance θ ty)) (value_of (kind_of (instance θ ty)) span r ts)
  value_goes bodies declares u span (Use o) ty has ts are = use_goes u ty ts are
  value_goes bodies declares u span (Binary op x y) ty (of, has_x, has_y, op_has) ts are =
      let t = are.each 0 of refl in
      let w = are.each 1 of refl in
      let kind : Option IntKind = kind_of (instance θ ty) in
      let P : Tree K → Type 0 = HasType Δ u (instance θ ty) in
      with_tree P (slice_get ts 0) t.0 (λ x. need (slice_get ts 1) >>= binary kind span op x) t.1
      (with_tree P (slice_get ts 1) w.0 (binary kind span op t.0) w.1 (binary_goes Δ u θ span op of ty t.0 w.0 op_has (has_shape t.2) (has_shape w.2)))
  value_goes bodies declares u span (Neg o) ty (k, signed, has, is_ty) ts are =
      subst (λ q. Goes (HasType Δ u (instance θ q)) (value_of (kind_of (instance θ q)) span (Neg o) ts)) (sym is_ty)
      (one_goes u (int k) (int k) (negated (Some k) span) ts are (λ t typed. negated_goes Δ u k span t (has_shape typed)))
  value_goes bodies declares u span (Not o) ty (has, is_ty) ts are =
      subst (λ q. Goes (HasType Δ u (instance θ q)) (value_of (kind_of (instance θ q)) span (Not o) ts)) (sym is_ty)
      (one_goes u bool bool inverted ts are (λ t typed. inverted_goes Δ u t (has_shape typed)))
  value_goes bodies declares u span (Widen o k) ty (j, wide, has, is_ty) ts are =
      subst (λ q. Goes (HasType Δ u (instance θ q)) (value_of (kind_of (instance θ q)) span (Widen o k) ts)) (sym is_ty) (wide_goes u j k ts wide are)
  value_goes bodies declares u span (Make c os) ty (tys, have, made) ts are = made_typed Δ u θ bodies declares c (trees_of ts) (tys_of tys) ty made (have_all Δ u θ ts tys are)
  value_goes bodies declares u span (BoxNew o) ty (of, has, is_ty) ts are =
      subst (λ q. Goes (HasType Δ u (instance θ q)) (boxed_first ts)) (sym is_ty) (box_goes u of ts are)

  -- ---- statements

  -- an assignment takes its operands, makes its value of their trees, and puts it where the place is
  pub record Assigns (bodies : Bodies) (s : State K) (set : Locals) (span : Span) (p : Place) (r : Rvalue) (ty : Ty) (ks : List Stop) : Type 0 where
    pub tys : List Ty
    pub have : AllUsed (theory_in bodies) b (operands_of r) tys
    pub takes : TakesAll s set (operands_of r) tys
    pub value : Goes (HasType Δ takes.after (instance θ ty)) (value_of (kind_in (place_ty b θ p)) span r takes.trees)
    pub puts : (t : Tree K) → (v : State K) × ((write takes.after p t >>= past) ≡ Yields v) × Written takes.after (local_at n p.local) t ks v
    pub row : statement_step b θ s span (Assign p r) ≡ (value_of (kind_in (place_ty b θ p)) span r takes.trees >>= λ t. write takes.after p t >>= past)

  pub assign_yields : (bodies : Bodies) → Declares Δ bodies → (s : State K) (set : Locals) (span : Span) (p : Place) (r : Rvalue) (ty : Ty) (g : Stop) (gs : List Stop) → running s ≡ n → stops s ≡ g ∷ gs → Held s set
      → PlaceHas b p ty → RvalueHas bodies b r ty → CanEvaluate set r → Assigns bodies s set span p r ty (at_next g ∷ gs)
  assign_yields bodies declares s set span p r ty g gs is_n is_stops h has_p has can =
      let kind : Option IntKind = kind_in (place_ty b θ p) in
      let tys : List Ty = operand_tys bodies b r ty has in
      let takes = take_all_yields bodies declares s set (operands_of r) tys is_n h (operands_have bodies b r ty has) (can_take_all r set can) in
      let finish : Taken K → Try (State K) = λ q. write q.0 p q.1 >>= past in
      let beside : Tree K → Try (Taken K) = λ t. Yields (takes.after, t) in
      let slot = takes.held.slot p.local ty has_p.1 in
      record {
        tys = tys;
        have = operands_have bodies b r ty has;
        takes = takes;
        value = subst (λ k. Goes (HasType Δ takes.after (instance θ ty)) (value_of k span r takes.trees)) (sym (kind_of_place b θ p ty has_p)) (value_goes bodies declares takes.after span r ty has takes.trees takes.typed);
        puts = λ t. write_then takes.after n p t slot.0 past (at_next g ∷ gs) (still_running s takes.after n takes.stay is_n) has_p.0 slot.1 (λ v stay. past_yields v g gs (stay ∙ takes.stay ∙ is_stops));
        row = ap (λ (m : Try (Taken K)). m >>= finish) (rvalue-row s kind span r)
            ∙ ap (λ (m : Try (State K × List (Tree K))). (m >>= λ q. value_of kind span r q.1 >>= λ t. Yields (q.0, t)) >>= finish) takes.yields
            ∙ then_then (value_of kind span r takes.trees) beside finish;
      }

  pub dead_yields : (s : State K) (set : Locals) (span : Span) (x : ℕ) (ty : Ty) (g : Stop) (gs : List Stop) → running s ≡ n → stops s ≡ g ∷ gs → Held s set → slice_get b.locals x ≡ Some ty
      → (v : State K) × (statement_step b θ s span (Dead x) ≡ Yields v) × Written s (local_at n x) Gone (at_next g ∷ gs) v
  dead_yields s set span x ty g gs is_n is_stops h is_ty =
      let slot = h.slot x ty is_ty in
      write_then s n (whole x) Gone slot.0 past (at_next g ∷ gs) is_n refl slot.1 (λ v stay. past_yields v g gs (stay ∙ is_stops))

  -- what a statement comes to
  pub record Ran (s : State K) (set : Locals) (kind : StatementKind) (ks : List Stop) (v : State K) : Type 0 where
    pub held : Held v (run kind set)
    pub stay : stops v ≡ ks
    pub elsewhere : SameElsewhere n s v

  -- the value of an assignment was put
  pub assigned_ran : {bodies : Bodies} {s : State K} {set : Locals} {span : Span} {p : Place} {r : Rvalue} {ty : Ty} {ks : List Stop} (a : Assigns bodies s set span p r ty ks) (t : Tree K) (v : State K)
      → PlaceHas b p ty → HasType Δ a.takes.after (instance θ ty) t → Written a.takes.after (local_at n p.local) t ks v → Ran s set (Assign p r) ks v
  assigned_ran {set = set} {p = p} {r = r} {ty = ty} a t v has typed w = record {
    held = held_set p.local ty w has.1 typed (subst (Held a.takes.after) (evaluated_is r set) a.takes.held);
    stay = w.stay;
    elsewhere = λ at d. written_elsewhere n refl w at d ∙ a.takes.elsewhere at d;
  }

  pub run_goes : (bodies : Bodies) → Declares Δ bodies → (s : State K) (set : Locals) (span : Span) (kind : StatementKind) (g : Stop) (gs : List Stop) → running s ≡ n → stops s ≡ g ∷ gs → Held s set → StatementIsTyped bodies b kind → CanRun set kind
      → Goes (Ran s set kind (at_next g ∷ gs)) (statement_step b θ s span kind)
  run_goes bodies declares s set span (Assign p r) g gs is_n is_stops h (ty, has, typed) can =
      let a = assign_yields bodies declares s set span p r ty g gs is_n is_stops h has typed can in
      let P : State K → Type 0 = Ran s set (Assign p r) (at_next g ∷ gs) in
      let kind : Option IntKind = kind_in (place_ty b θ p) in
      subst (Goes P) (sym a.row)
      (goes_then (HasType Δ a.takes.after (instance θ ty)) P (value_of kind span r a.takes.trees) (λ t. write a.takes.after p t >>= past) a.value
      (λ t is_typed. let v = a.puts t in subst (Goes P) (sym v.1) (assigned_ran a t v.0 has is_typed v.2)))
  run_goes bodies declares s set span (Dead x) g gs is_n is_stops h (ty, is_ty) can =
      let (v, is_v, w) = dead_yields s set span x ty g gs is_n is_stops h is_ty in
      subst (Goes (Ran s set (Dead x) (at_next g ∷ gs))) (sym is_v) (record { held = held_gone x w h; stay = w.stay; elsewhere = written_elsewhere n refl w })
