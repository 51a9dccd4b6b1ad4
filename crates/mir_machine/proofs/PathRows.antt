-- Writing and moving along a path from a local of the running frame.
use Rattle.std.proofs.Common.{◌≡◌, ◌∙◌, refl, ap, ℕ, List, [], Option, Some, None, slice_get, slice_set}
use Rattle.logic_term.specs.Sort.{Declarations}
use Rattle.logic_term.specs.Ty.{Ty, Tys}
use Rattle.mir_ir.specs.declared.body.Body.{Body}
use Rattle.mir_ir.specs.declared.body.Bodies.{Bodies}
use Rattle.mir_ir.specs.declared.place.Place.{Place}
use Rattle.mir_ir.specs.Declares.{Declares, theory_in}
use Rattle.mir_ir.specs.WellFormed.{Locals, with, without}
use Rattle.mir_machine.specs.Try.{Try, Yields, Panics, Sticks, ◌>>=◌, need}
use Rattle.mir_machine.specs.Tree.{Tree, Gone}
use Rattle.mir_machine.specs.Frame.{Frame, State}
use Rattle.mir_machine.specs.Memory.{tree_in, put_in, frame_at, set_frame, tree_at, put_at, running, write}
use Rattle.mir_machine.specs.Invariant.{stops, local_at, HasType, HoldsLocals}
use Rattle.mir_machine.proofs.Writes.{put_yields, put_in_goes, SameElsewhere, written_elsewhere}
use Rattle.mir_machine.proofs.TypedRows.{IsPlaceOf, at_place, held_set, held_gone}
use Rattle.mir_machine.proofs.Paths.{within_spot}

-- what is put at a part of a local is put by the whole local with that part
put_as_whole : {K : Type 0} (s : State K) (n x : ℕ) (children : List ℕ) (u t t' : Tree K) → tree_at s (local_at n x) ≡ Yields t → put_in children u t ≡ Yields t' → put_at s (within_spot (local_at n x) children) u ≡ put_at s (local_at n x) t'
put_as_whole {K} s n x children u t t' e is = in_frame (frame_at s n) e
  where
    changed : Frame K → Tree K → State K
    changed f d = set_frame s n (record f { locals = slice_set f.locals x d })

    same_tree : (v w : Tree K) → Yields v ≡ Yields w → v ≡ w
    same_tree v w q = cc

    in_local : (f : Frame K) (o : Option (Tree K)) → (need o >>= tree_in []) ≡ Yields t → (need o >>= λ v. put_in children u v >>= λ d. Yields (changed f d)) ≡ (need o >>= λ v. put_in [] t' v >>= λ d. Yields (changed f d))
    in_local f (Some v) q = ap (λ (m : Try (Tree K)). m >>= λ d. Yields (changed f d)) (ap (put_in children u) (same_tree v t q) ∙ is)
    in_local f None q = refl

    in_frame : (m : Try (Frame K)) → (m >>= λ f. need (slice_get f.locals x) >>= tree_in []) ≡ Yields t
        → (m >>= λ f. need (slice_get f.locals x) >>= λ v. put_in children u v >>= λ d. Yields (changed f d)) ≡ (m >>= λ f. need (slice_get f.locals x) >>= λ v. put_in [] t' v >>= λ d. Yields (changed f d))
    in_frame (Yields f) q = in_local f (slice_get f.locals x) q
    in_frame (Panics c p) q = refl
    in_frame Sticks q = refl

-- inside: the running frame is not the outside
module _ {K : Type 0} (Δ : Declarations) (b : Body) (θ : Tys) (n : ℕ) (inside : n ≡ 0 → ⊥) (bodies : Bodies) (declares : Declares Δ bodies) where
  abbrev H : State K → Locals → Type 0
  H s set = HoldsLocals Δ s n b θ set

  -- a value of its type is put there, and what is initialised stays so
  pub place_written : (s : State K) (set : Locals) (p : Place) (of : Ty) (u : Tree K) → running s ≡ n → H s set → IsPlaceOf (theory_in bodies) b θ set p of → HasType Δ s of u
      → (v : State K) × (write s p u ≡ Yields v) × (stops v ≡ stops s) × SameElsewhere n s v × H v (with p.local set)
  place_written s set p of u is_n h q typed =
      let a = at_place Δ b θ n inside bodies declares s set p of is_n h q in
      let (t', is_t', typed') = a.there.puts u typed in
      let (v, is_v, w) = put_yields s (local_at n p.local) t' a.tree a.is_tree in (
        v,
        ap (λ m. m >>= λ at. put_at s at u) a.is_spot ∙ put_as_whole s n p.local a.there.children u a.tree t' a.is_tree is_t' ∙ is_v,
        w.stay,
        written_elsewhere n refl w,
        held_set Δ b θ n inside p.local q.ty w q.is_ty typed' h,
      )

  -- what is there is moved out: so far the whole local holds nothing of its type from then on
  pub place_moved : (s : State K) (set : Locals) (p : Place) (of : Ty) → running s ≡ n → H s set → IsPlaceOf (theory_in bodies) b θ set p of → (v : State K) × (write s p Gone ≡ Yields v) × (stops v ≡ stops s) × SameElsewhere n s v × H v (without p.local set)
  place_moved s set p of is_n h q =
      let a = at_place Δ b θ n inside bodies declares s set p of is_n h q in
      let (t', is_t', there) = put_in_goes a.there.children a.tree Gone a.there.part a.there.is_part in
      let (v, is_v, w) = put_yields s (local_at n p.local) t' a.tree a.is_tree in (
        v,
        ap (λ m. m >>= λ at. put_at s at Gone) a.is_spot ∙ put_as_whole s n p.local a.there.children Gone a.tree t' a.is_tree is_t' ∙ is_v,
        w.stay,
        written_elsewhere n refl w,
        held_gone Δ b θ n inside p.local w h,
      )
