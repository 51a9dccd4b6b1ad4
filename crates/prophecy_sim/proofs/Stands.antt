-- Where the locals of a frame stand in an environment: each that is initialised has a tree of its type, which reads as the value of the
-- local's name.
use Rattle.std.proofs.Common.{◌≡◌, sym, subst, ℕ, true, Some, slice_get}
use Rattle.logic_term.specs.Meaning.{Env}
use Rattle.logic_term.specs.Sort.{HasSort, instance, of_int, of_bool}
use Rattle.logic_term.specs.Ty.{Ty, no_tys}
use Rattle.logic_term.specs.Value.{Number, Flag}
use Rattle.mir_ir.specs.declared.place.Lit.TheVariants as lit
use Rattle.mir_ir.specs.declared.place.Place.{Place}
use Rattle.mir_ir.specs.declared.place.Operand.{Operand}
use Rattle.mir_ir.specs.declared.place.Operand.TheVariants.{Copy, Move, Const}
use Rattle.mir_ir.specs.declared.body.Body.{Body}
use Rattle.mir_ir.specs.WellFormed.{Locals, PlaceHas, OperandHas}
use Rattle.mir_ir.proofs.Taking.{CanTake}
use Rattle.mir_machine.specs.Tree.{Tree}
use Rattle.mir_machine.specs.Try.{Yields}
use Rattle.mir_machine.specs.Frame.{State}
use Rattle.mir_machine.specs.Memory.{tree_at}
use Rattle.mir_machine.specs.Reads.{Owner, Reads}
use Rattle.mir_machine.specs.Good.{not_lent}
use Rattle.mir_machine.specs.Invariant.{local_at, HoldsLocals}
use Rattle.mir_machine.proofs.Stacks.{held_moved}
use Rattle.mir_machine.proofs.TypedTrees.{SameOutside}
use Rattle.prophecy_logic.specs.Row.{name_of}
use Rattle.prophecy_sim.proofs.Setup.{Setup, FunctionOf, declarations, local_fits}
use Rattle.prophecy_sim.proofs.Owned.{fit_shows, fit_sort}
use Rattle.prophecy_sim.proofs.Operands.{place_value, operand_value, whole_value, Agree, agree_moved}

module _ {K : Type 0} (s : Setup K) (f : FunctionOf s) where
  abbrev b : Body
  b = f.body

  -- in the state the frame of this number has trees of their types in these locals
  abbrev pub Holding : State K → ℕ → Locals → Type 0
  Holding st frame set = HoldsLocals (declarations s) st frame b no_tys set

  -- and they stand in the environment; a part of a tree that is gone reads as any value
  pub record Stands (st : State K) (frame : ℕ) (set : Locals) (ρ : Env) : Type 0 where
    pub held : Holding st frame set
    pub reads : (x : ℕ) (ty : Ty) (t : Tree K) → set x ≡ true → slice_get b.locals x ≡ Some ty → tree_at st (local_at frame x) ≡ Yields t
        → Reads true st s.final not_lent Owner (local_at frame x) t (ρ (name_of b x))

  pub stands_agree : {st : State K} {frame : ℕ} {set : Locals} {ρ : Env} → Stands st frame set ρ → Agree b st frame set ρ
  stands_agree {ρ = ρ} h x ty t inside is_ty e =
      fit_shows (declarations s) (instance no_tys ty) t (ρ (name_of b x)) (local_fits s f x ty t is_ty (h.held.typed x ty t inside is_ty e)) (h.reads x ty t inside is_ty e)

  -- locals of these types stand wherever the frame is
  pub they_stand : (st : State K) (frame : ℕ) {set : Locals} {ρ : Env} → Holding st frame set → Agree b st frame set ρ → Stands st frame set ρ
  they_stand st frame held agrees = record { held = held; reads = λ x ty t inside is_ty e. agrees x ty t inside is_ty e true st s.final Owner (local_at frame x) }

  -- in a state in which they and the outside are the same
  pub stands_elsewhere : {st : State K} {frame : ℕ} {set : Locals} {ρ : Env} (u : State K) → ((x : ℕ) → tree_at u (local_at frame x) ≡ tree_at st (local_at frame x)) → SameOutside st u →
      Stands st frame set ρ → Stands u frame set ρ
  stands_elsewhere {st} {frame} {set} {ρ} u same outside h = they_stand u frame (held_moved (declarations s) same outside h.held) (agree_moved b st u frame set ρ same (stands_agree h))

  -- ---- values have their sorts

  pub local_sort : (st : State K) (frame : ℕ) (set : Locals) (ρ : Env) → Holding st frame set → Agree b st frame set ρ → (x : ℕ) (ty : Ty) → slice_get b.locals x ≡ Some ty → set x ≡ true →
      HasSort (declarations s) (ρ (name_of b x)) (instance no_tys ty)
  local_sort st frame set ρ held agrees x ty is_ty inside =
      let t = held.slot x ty is_ty in
      fit_sort (declarations s) (instance no_tys ty) t.0 (ρ (name_of b x)) (local_fits s f x ty t.0 is_ty (held.typed x ty t.0 inside is_ty t.1)) (agrees x ty t.0 inside is_ty t.1)

  place_sort : (st : State K) (frame : ℕ) (set : Locals) (ρ : Env) → Holding st frame set → Agree b st frame set ρ → (p : Place) (ty : Ty) → PlaceHas b p ty → set p.local ≡ true →
      HasSort (declarations s) (place_value b ρ p) (instance no_tys ty)
  place_sort st frame set ρ held agrees p ty has can =
      subst (λ v. HasSort (declarations s) v (instance no_tys ty)) (sym (whole_value b ρ p ty has)) (local_sort st frame set ρ held agrees p.local ty has.1 can)

  pub operand_sort : (st : State K) (frame : ℕ) (set : Locals) (ρ : Env) → Holding st frame set → Agree b st frame set ρ → (o : Operand) (ty : Ty) → OperandHas b o ty → CanTake set o →
      HasSort (declarations s) (operand_value b ρ o) (instance no_tys ty)
  operand_sort st frame set ρ held agrees (Copy p) ty has can = place_sort st frame set ρ held agrees p ty has can
  operand_sort st frame set ρ held agrees (Move p) ty has can = place_sort st frame set ρ held agrees p ty has can
  operand_sort st frame set ρ held agrees (Const (lit.Int z k)) ty has can = subst (λ t. HasSort (declarations s) (Number z) (instance no_tys t)) (sym has.0) (of_int has.1)
  operand_sort st frame set ρ held agrees (Const (lit.Bool c)) ty has can = subst (λ t. HasSort (declarations s) (Flag c) (instance no_tys t)) (sym has) of_bool
