-- What the rows of steps, of blocks' ends and of returns yield, where what they look up is known.
use Rattle.std.proofs.Common.{◌≡◌, ◌∙◌, refl, sym, ap, ℕ, Bool, cond, List, ◌∷◌, length, Option, Some, None, slice_get}
use Rattle.std.specs.Prelude.{option_and_then}
use Rattle.text_core.specs.declared.span.Span.{Span}
use Rattle.logic_term.specs.declared.kinds.Label.{Label}
use Rattle.logic_term.specs.Ty.{Ty, no_tys}
use Rattle.mir_ir.specs.declared.place.Place.{Place}
use Rattle.mir_ir.specs.declared.place.Operand.{Operand}
use Rattle.mir_ir.specs.declared.terminator.Callee.{Callee}
use Rattle.mir_ir.specs.declared.terminator.TerminatorKind.TheVariants.{Goto, If, Switch, Call, Return}
use Rattle.mir_ir.specs.declared.body.Block.{Block}
use Rattle.mir_ir.specs.declared.body.Body.{Body}
use Rattle.mir_ir.specs.declared.body.Bodies.{Bodies}
use Rattle.mir_ir.specs.Body.{block_in}
use Rattle.mir_ir.specs.Callees.{callee_of, callee_body}
use Rattle.mir_machine.specs.Try.{Try, Yields, ◌>>=◌, need}
use Rattle.mir_machine.specs.Tree.{Tree, Truth}
use Rattle.mir_machine.specs.Frame.{Frame, State}
use Rattle.mir_machine.specs.Memory.{is_there, tree_at, write}
use Rattle.mir_machine.specs.Code.{Code}
use Rattle.mir_machine.specs.Step.{Outcome, Running, Taken, operand, operands, truth_of, switched, at_label, callee_frame, entered, answered, come_back, end_step, row, try_step}
use Rattle.mir_machine.specs.Invariant.{Stop, stops, local_at}
use Rattle.mir_machine.proofs.Writes.{SameTrees, at_start, label_yields, first_local}

-- the callee's number and its body
pub callee_found : (bodies : Bodies) (callee : Callee) (c : Body) → callee_body bodies callee ≡ Some c → (m : ℕ) × (callee_of bodies callee ≡ Some m) × (slice_get bodies.bodies m ≡ Some c)
callee_found bodies callee c e = by (callee_of bodies callee) refl e
  where
    by : (o : Option ℕ) → callee_of bodies callee ≡ o → option_and_then (slice_get bodies.bodies) o ≡ Some c → (m : ℕ) × (callee_of bodies callee ≡ Some m) × (slice_get bodies.bodies m ≡ Some c)
    by (Some m) is h = (m, is, h)
    by None is h = absurd (cc)

module _ {K : Type 0} (code : Code K) where
  abbrev go_on : State K → Try (Outcome K)
  go_on s = Yields (Running s)

  -- ---- steps

  pub step-row : (f : Frame K) (fs : State K) (b : Body) (k : Block) → slice_get code.program.bodies f.function ≡ Some b → block_in b.blocks f.label ≡ Some k
      → try_step code (f ∷ fs) ≡ row code b f.types (f ∷ fs) k.end (slice_get k.statements f.statement)
  step-row f fs b k is_body is_block =
      ap (λ (o : Option Body). need o >>= λ b. need (block_in b.blocks f.label) >>= λ k. row code b f.types (f ∷ fs) k.end (slice_get k.statements f.statement)) is_body
      ∙ ap (λ (o : Option Block). need o >>= λ k. row code b f.types (f ∷ fs) k.end (slice_get k.statements f.statement)) is_block

  -- ---- ends of blocks

  pub goto-row : (s : State K) (at : Span) (l : Label) (g : Stop) (gs : List Stop) → stops s ≡ g ∷ gs → (v : State K) × (end_step code s at (Goto l) ≡ Yields (Running v)) × (stops v ≡ at_start l g ∷ gs) × SameTrees s v
  goto-row s at l g gs e = let (v, is_v, stay, same) = label_yields s l g gs e in (v, ap (λ (m : Try (State K)). m >>= go_on) is_v, stay, same)

  pub if-row : (s u : State K) (at : Span) (o : Operand) (c : Bool) (l r : Label) (g : Stop) (gs : List Stop) → operand s o ≡ Yields (u, Truth c) → stops u ≡ g ∷ gs
      → (v : State K) × (end_step code s at (If o l r) ≡ Yields (Running v)) × (stops v ≡ at_start (cond c l r) g ∷ gs) × SameTrees u v
  if-row s u at o c l r g gs taken e =
      let (v, is_v, stay, same) = label_yields u (cond c l r) g gs e in
      (v, ap (λ (m : Try (Taken K)). m >>= λ r'. truth_of r'.1 >>= λ b. at_label (cond b l r) r'.0 >>= go_on) taken ∙ ap (λ (m : Try (State K)). m >>= go_on) is_v, stay, same)

  pub switch-row : (s : State K) (at : Span) (p : Place) (ls : List Label) (l : Label) (g : Stop) (gs : List Stop) → switched s p ls ≡ Yields l → stops s ≡ g ∷ gs
      → (v : State K) × (end_step code s at (Switch p ls) ≡ Yields (Running v)) × (stops v ≡ at_start l g ∷ gs) × SameTrees s v
  switch-row s at p ls l g gs is_l e =
      let (v, is_v, stay, same) = label_yields s l g gs e in
      (v, ap (λ (m : Try Label). m >>= λ l. at_label l s >>= go_on) is_l ∙ ap (λ (m : Try (State K)). m >>= go_on) is_v, stay, same)

  pub call-row : (s u : State K) (at : Span) (p : Place) (callee : Callee) (types : List Ty) (os : List Operand) (l : Label) (args : List (Tree K)) (m : ℕ) (c : Body) → operands s os ≡ Yields (u, args)
      → callee_of code.program callee ≡ Some m → slice_get code.program.bodies m ≡ Some c → end_step code s at (Call p callee types os l) ≡ Yields (Running (entered c m no_tys args ∷ u))
  call-row s u at p callee types os l args m c taken is_m is_c =
      let run_it : Frame K → Try (Outcome K) = λ f. Yields (Running (f ∷ u)) in
      ap (λ (q : Try (State K × List (Tree K))). q >>= λ r. callee_frame code.program callee r.1 >>= λ f. Yields (Running (f ∷ r.0))) taken
      ∙ ap (λ (o : Option ℕ). (need o >>= λ n. need (slice_get code.program.bodies n) >>= λ b. Yields (entered b n no_tys args)) >>= run_it) is_m
      ∙ ap (λ (o : Option Body). (need o >>= λ b. Yields (entered b m no_tys args)) >>= run_it) is_c

  pub return-row : (f : Frame K) (fs : State K) (at : Span) (t : Tree K) → tree_at (f ∷ fs) (local_at (length fs) 0) ≡ Yields t → is_there t ≡ Yields t → end_step code (f ∷ fs) at Return ≡ come_back code.program t fs
  return-row f fs at t is_t there =
      ap (λ (m : Try (Tree K)). m >>= λ t. is_there t >>= λ t'. come_back code.program t' fs) (sym (first_local f fs 0) ∙ is_t)
      ∙ ap (λ (m : Try (Tree K)). m >>= λ t'. come_back code.program t' fs) there

-- ---- returns

-- the frame that waited at a call has its answer put
pub back-row : {K : Type 0} (bodies : Bodies) (t : Tree K) (f g : Frame K) (fs : State K) (b : Body) (k : Block) (p : Place) (callee : Callee) (types : List Ty) (os : List Operand) (l : Label)
    → slice_get bodies.bodies f.function ≡ Some b → block_in b.blocks f.label ≡ Some k → k.end.kind ≡ Call p callee types os l
    → come_back bodies t (f ∷ g ∷ fs) ≡ ((write (f ∷ g ∷ fs) p t >>= at_label l) >>= λ s. Yields (Running s))
back-row {K} bodies t f g fs b k p callee types os l is_body is_block is_call =
    let last : State K → Try (Outcome K) = λ s. Yields (Running s) in
    ap (λ (o : Option Body). need o >>= λ b. need (block_in b.blocks f.label) >>= λ k. answered t (f ∷ g ∷ fs) k.end.kind >>= last) is_body
    ∙ ap (λ (o : Option Block). need o >>= λ k. answered t (f ∷ g ∷ fs) k.end.kind >>= last) is_block
    ∙ ap (λ end. answered t (f ∷ g ∷ fs) end >>= last) is_call
