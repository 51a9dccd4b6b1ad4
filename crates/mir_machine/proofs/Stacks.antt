-- Frames that wait, frames that begin, and what they hold in other states.
use Rattle.std.proofs.Common.{◌≡◌, ◌∙◌, refl, sym, ap, subst, ℕ, zero, suc, ◌+◌, ◌-◌, ◌<◌, ◌≤◌, nat_lt, ◌&&◌, Bool, true, false, List, [], ◌∷◌, ◌++◌, length, take, drop, replicate, Some, None, slice_get, arith}
use Rattle.std.proofs.lemmas.Bool.{ltb-true}
use Rattle.std.proofs.lemmas.List.{length-append, length-replicate, length-take, length-drop}
use Rattle.std.proofs.lemmas.Option.{slice_get_within, same_Some}
use Rattle.logic_term.specs.Ty.{Ty, Tys}
use Rattle.logic_term.specs.TyView.{tys_of}
use Rattle.logic_term.specs.Sort.{Declarations, instance, instances, nth_ty}
use Rattle.mir_ir.specs.declared.body.Body.{Body}
use Rattle.mir_ir.specs.declared.body.Bodies.{Bodies}
use Rattle.mir_ir.specs.WellFormed.{Locals, Labelling, IsTyped, parameters}
use Rattle.mir_machine.specs.Try.{need}
use Rattle.mir_machine.specs.Tree.{Tree, Gone, trees_of}
use Rattle.mir_machine.specs.Frame.{State}
use Rattle.mir_machine.specs.Memory.{tree_at}
use Rattle.mir_machine.specs.Step.{entered}
use Rattle.mir_machine.specs.Typed.{Met, AreTyped, more_typed}
use Rattle.mir_machine.specs.Good.{Each}
use Rattle.mir_machine.specs.Invariant.{Stop, local_at, HasType, HoldsLocals, Behind, from_outside, one_waits, WaitsAt}
use Rattle.mir_machine.proofs.TypedTrees.{has_type_kept, SameOutside, each_front, each_behind}
use Rattle.mir_machine.proofs.TypedRows.{AreOf, are_of_none, are_of_more}
use Rattle.mir_machine.proofs.Writes.{SameElsewhere, first_local}
use Rattle.mir_machine.proofs.Undoing.{needed}

-- ---- frames that wait

module _ {C : Type 0} where
  pub behind_some : {W : ℕ → Stop → C → C → Type 0} {first d : C} {gs : List Stop} → Behind W first d gs → length gs ≡ 0 → ⊥
  behind_some (from_outside) e = omega (arith, e)
  behind_some (one_waits w rest) e = omega (arith, e)

  -- what holds of each frame that waits may be changed, where only frames below the number are asked
  pub behind_to : {W V : ℕ → Stop → C → C → Type 0} {first d : C} {gs : List Stop} (n : ℕ) → ((m : ℕ) (g : Stop) (c d : C) → m < n → W m g c d → V m g c d) → length gs ≤ n → Behind W first d gs → Behind V first d gs
  behind_to n f below from_outside = from_outside
  behind_to n f below (one_waits {g} {gs} {c} {d} w rest) = one_waits (f (length gs) g c d (omega (arith, below)) w) (behind_to n f (omega (arith, below)) rest)

  -- the outside alone is behind the first call
  pub outside_is : {W : ℕ → Stop → C → C → Type 0} {first d : C} {out : Stop} → Behind W first d (out ∷ []) → d ≡ first
  outside_is (from_outside) = refl
  outside_is (one_waits w rest) = absurd (behind_some rest refl)

  -- a frame that waits, and those behind it
  pub record Waited (W : ℕ → Stop → C → C → Type 0) (first d : C) (g : Stop) (gs : List Stop) : Type 0 where
    pub caller : C
    pub waits : W (length gs) g caller d
    pub behind : Behind W first caller gs

  pub waits_are : {W : ℕ → Stop → C → C → Type 0} {first d : C} {g h : Stop} {gs : List Stop} → Behind W first d (g ∷ h ∷ gs) → Waited W first d g (h ∷ gs)
  waits_are (one_waits {c = c} w rest) = record { caller = c; waits = w; behind = rest }

module _ {K : Type 0} (Δ : Declarations) where
  -- locals that are the same in another state, which has the same outside
  pub held_moved : {s u : State K} {m : ℕ} {b : Body} {θ : Tys} {set : Locals} → ((x : ℕ) → tree_at u (local_at m x) ≡ tree_at s (local_at m x)) → SameOutside s u → HoldsLocals Δ s m b θ set → HoldsLocals Δ u m b θ set
  held_moved {s} {u} {m} same outside h = record {
    slot = λ x ty is_ty. let t = h.slot x ty is_ty in (t.0, same x ∙ t.1);
    typed = λ x ty t is_in is_ty e. has_type_kept u outside (h.typed x ty t is_in is_ty (sym (same x) ∙ e));
  }

  -- a frame waits in each state in which what is not of another frame is the same
  pub waits_kept : {s u : State K} (bodies : Bodies) (labelling : ℕ → Labelling) (n m : ℕ) (g : Stop) (c d : ℕ) → (n ≡ 0 → ⊥) → (m ≡ n → ⊥) → SameElsewhere n s u → WaitsAt Δ bodies labelling s m g c d → WaitsAt Δ bodies labelling u m g c d
  waits_kept bodies labelling n m g c d inside other same w = record {
    is_caller = w.is_caller;
    in_body = w.in_body;
    is_last = w.is_last;
    place = w.place;
    callee = w.callee;
    types = w.types;
    operands = w.operands;
    next = w.next;
    is_call = w.is_call;
    is_callee = w.is_callee;
    locals = held_moved (λ x. same (local_at m x) other) (λ at e. same at (λ q. inside (sym q ∙ e))) w.locals;
  }

  -- ---- arguments

  pub typed_args : (s : State K) (θ : Tys) (args : List (Tree K)) (tys : List Ty) (met : List Met) → AreTyped Δ s (trees_of args) (instances θ (tys_of tys)) met → Each (λ r. r.place.frame ≡ 0) met → AreOf Δ s θ args tys
  typed_args s θ [] [] met h outer = are_of_none
  typed_args s θ [] (ty ∷ tys) met h outer = elim h [ ]
  typed_args s θ (t ∷ args) [] met h outer = elim h [ ]
  typed_args s θ (t ∷ args) (ty ∷ tys) met (more_typed {first = first} {rest = rest} h hs) outer =
      are_of_more t ty (record { met = first; typed = h; outer = each_front (λ r. r.place.frame ≡ 0) first rest outer }) (typed_args s θ args tys rest hs (each_behind (λ r. r.place.frame ≡ 0) first rest outer))

-- ---- a frame that begins

pub get_first : {A : Type 0} (xs : List A) (i : ℕ) → i < length xs → (x : A) × (slice_get xs i ≡ Some x)
get_first [] i h = absurd (omega arith)
get_first (x ∷ xs) zero h = (x, refl)
get_first (x ∷ xs) (suc i) h = get_first xs i (omega arith)

get_take : {A : Type 0} (xs : List A) (p n : ℕ) → n < p → slice_get (take p xs) n ≡ slice_get xs n
get_take [] zero n h = refl
get_take [] (suc p) n h = refl
get_take (x ∷ xs) zero n h = absurd (omega arith)
get_take (x ∷ xs) (suc p) zero h = refl
get_take (x ∷ xs) (suc p) (suc n) h = get_take xs p n (omega arith)

get_drop : {A : Type 0} (xs : List A) (n : ℕ) → slice_get (drop 1 xs) n ≡ slice_get xs (suc n)
get_drop [] n = refl
get_drop (x ∷ xs) n = refl

get_append : {A : Type 0} (xs ys : List A) (n : ℕ) (x : A) → slice_get xs n ≡ Some x → slice_get (xs ++ ys) n ≡ Some x
get_append [] ys n x e = absurd (cc)
get_append (z ∷ xs) ys zero x e = e
get_append (z ∷ xs) ys (suc n) x e = get_append xs ys n x e

start_length : {K : Type 0} (args : List (Tree K)) (n : ℕ) → length args + 1 ≤ n → length (Gone ∷ (args ++ replicate (n - 1 - length args) Gone)) ≡ n
start_length {K} args n h = omega (arith, length-append args (replicate (n - 1 - length args) Gone), length-replicate {A = Tree K} (n - 1 - length args) Gone)

params_length : (bodies : Bodies) (b : Body) → IsTyped bodies b → length (take b.params (drop 1 b.locals)) ≡ b.params
params_length bodies b typed = let h = typed.answers in grind (arith, length-take, length-drop)

and_right : (a b : Bool) → (a && b) ≡ true → b ≡ true
and_right true b e = e
and_right false b e = absurd (cc)

-- a frame at its body's entry holds its parameters
pub entered_held : {K : Type 0} (Δ : Declarations) (bodies : Bodies) (b : Body) (f : ℕ) (θ : Tys) (args : List (Tree K)) (u : State K) → IsTyped bodies b
    → AreOf Δ (entered b f θ args ∷ u) θ args (take b.params (drop 1 b.locals)) → HoldsLocals Δ (entered b f θ args ∷ u) (length u) b θ (parameters b)
entered_held {K} Δ bodies b f θ args u typed of_args = record {
  slot = λ x ty e. let t = get_first (entered b f θ args).locals x (omega (arith, room, slice_get_within b.locals x ty e)) in (t.0, first_local (entered b f θ args) u x ∙ ap need t.1);
  typed = λ x ty t is_in is_ty e. held x ty t is_in is_ty (needed (slice_get (entered b f θ args).locals x) t (sym (first_local (entered b f θ args) u x) ∙ e));
}
  where
    tys : List Ty
    tys = take b.params (drop 1 b.locals)

    count : length args ≡ b.params
    count = of_args.count ∙ params_length bodies b typed

    room : length (entered b f θ args).locals ≡ length b.locals
    room = start_length args (length b.locals) (omega (arith, count, typed.answers))

    held : (x : ℕ) (ty : Ty) (t : Tree K) → parameters b x ≡ true → slice_get b.locals x ≡ Some ty → slice_get (entered b f θ args).locals x ≡ Some t → HasType Δ (entered b f θ args ∷ u) (instance θ ty) t
    held zero ty t is_in is_ty is_t = absurd (let e : false ≡ true = is_in in cc)
    held (suc n) ty t is_in is_ty is_t =
        let below : n < b.params = (let h = ltb-true (suc n) (b.params + 1) (and_right (nat_lt 0 (suc n)) (nat_lt (suc n) (b.params + 1)) is_in) in omega arith) in
        let found = of_args.each n ty (get_take (drop 1 b.locals) b.params n below ∙ get_drop b.locals n ∙ is_ty) in
        subst (HasType Δ (entered b f θ args ∷ u) (instance θ ty)) (same_Some _ _ (sym (get_append args (replicate (length b.locals - 1 - length args) Gone) n found.0 found.1) ∙ is_t)) found.2

-- ---- lists

pub get_past : {A : Type 0} (xs : List A) (i : ℕ) → slice_get xs i ≡ None → length xs ≤ i
get_past [] i e = omega arith
get_past (x ∷ xs) zero e = absurd (cc)
get_past (x ∷ xs) (suc i) e = omega (arith, get_past xs i e)

pub answer_is : (ts : List Ty) (ty : Ty) → slice_get ts 0 ≡ Some ty → nth_ty (tys_of ts) 0 ≡ ty
answer_is [] ty e = absurd (cc)
answer_is (t ∷ ts) ty e = same_Some _ _ e
