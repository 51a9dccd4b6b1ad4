-- The invariants at heads speak of locals that are initialised there, and what is gone there is not.
use Rattle.std.proofs.Common.{◌≡◌, refl, ap, sym, ◌∙◌, subst, ℕ, zero, suc, ◌<◌, true, false, List, [], ◌∷◌, map, length, Option, Some, None, slice_get, true≢false, inr}
use Rattle.std.specs.Option.{is_some}
use Rattle.std.proofs.lemmas.Option.{slice_get_within}
use Rattle.text_core.specs.declared.name.Name.{Name}
use Rattle.logic_term.specs.declared.declaration.AdtDecl.{AdtDecl}
use Rattle.logic_term.specs.declared.kinds.Label.{Label}
use Rattle.logic_term.specs.Free.{free}
use Rattle.logic_term.specs.Term.{Term}
use Rattle.logic_term.specs.Ty.{Ty}
use Rattle.mir_ir.specs.declared.body.Block.{Block}
use Rattle.mir_ir.specs.declared.body.Body.{Body}
use Rattle.mir_ir.specs.declared.body.Head.{Head}
use Rattle.mir_ir.specs.declared.body.Initialised.{Initialised}
use Rattle.mir_ir.specs.declared.body.Point.{Point}
use Rattle.mir_ir.specs.declared.place.Place.{Place}
use Rattle.mir_ir.specs.Body.{block_in}
use Rattle.mir_ir.specs.WellFormed.{Locals}
use Rattle.type_check.specs.declared.program.Signature.{Signature}
use Rattle.type_check.specs.declared.program.TypedFunction.{TypedFunction}
use Rattle.runnable.specs.Runs.{Runs}
use Rattle.mir_build.specs.Laws.{HeadsAreThere}
use Rattle.mir_ir.specs.Names.{IsNameIn}
use Rattle.mir_build.specs.Text.{owned}
use Rattle.mir_build.specs.Lowering.{whole, gone_at, LowersTo}
use Rattle.mir_build.proofs.LawLists.{Has, here, there, has_count}
use Rattle.mir_build.proofs.LawNames.{IsLocalIn, EachFree, HeadFits}
use Rattle.mir_build.proofs.LawTyped.{is_local}
use Rattle.mir_build.proofs.LawTypes.{Callee}
use Rattle.mir_build.proofs.LawInit.{block_at, BlockFits, IsLabelled}
use Rattle.mir_build.proofs.LawBlocks.{BlockTyped}
use Rattle.mir_build.proofs.LawFunction.{start, start_fits, owned_absent, body_labelling, blocks_typed}
use Rattle.mir_build.proofs.LawLocals.{local_number, named}
use Rattle.mir_ir.specs.declared.body.Bodies.{Bodies}
use Rattle.mir_build.proofs.Basics.{some_same}
use Rattle.mir_build.proofs.PlainTyping.{FunctionFitsPlainly}

free_at : (set : Locals) (ts : List Term) (j : ℕ) (t : Term) → EachFree set ts → slice_get ts j ≡ Some t → (x : Name) → free x t ≡ true → IsLocalIn set x
free_at set [] j t h e x f = absurd (cc)
free_at set (u ∷ ts) zero t h e x f = h.0 x (subst (λ v. free x v ≡ true) (sym (some_same e)) f)
free_at set (u ∷ ts) (suc j) t h e x f = free_at set ts j t h.1 e x f

mapped_at : {A B : Type 0} (g : A → B) (xs : List A) (j : ℕ) (y : B) → slice_get (map g xs) j ≡ Some y → (x : A) × Has x xs × (y ≡ g x)
mapped_at g [] j y e = absurd (cc)
mapped_at g (x ∷ xs) zero y e = (x, here, sym (some_same e))
mapped_at g (x ∷ xs) (suc j) y e = let w = mapped_at g xs j y e in (w.0, there w.1, w.2)

within_locals : (b : Body) (y : ℕ) → is_local b y ≡ true → y < length b.locals
within_locals b y h = by_case (slice_get b.locals y) refl h
  where
    by_case : (o : Option Ty) → slice_get b.locals y ≡ o → is_some o ≡ true → y < length b.locals
    by_case None e g = absurd (true≢false (sym g))
    by_case (Some t) e g = slice_get_within b.locals y t e

module _ (owner : List ℕ) (f : TypedFunction) (b : Body) (gone : Initialised) {δ : List AdtDecl} {τ : List Signature} (l : LowersTo δ τ owner f b gone) (σ : List Signature) (bodies : Bodies) (decls : bodies.decls ≡ δ) (fits : FunctionFitsPlainly δ σ f)
    (callees : (n : ℕ) (g : Signature) → slice_get σ n ≡ Some g → Callee bodies n g) (answers : (n : ℕ) (g : Signature) → slice_get σ n ≡ Some g → Runs δ g.answer) where
  sets : Label → Locals
  sets = start owner f b gone l σ fits

  head_free : (m : Label) (k : Block) (h : Head) → block_in b.blocks m ≡ Some k → k.head ≡ Some h → HeadFits (sets m) (Some h)
  unfolding sets
  head_free m k h e q = subst (HeadFits (sets m)) q (block_at (BlockFits sets) b.blocks m k (start_fits owner f b gone l σ fits) e).head

  head_local : (m : Label) (k : Block) (h : Head) → block_in b.blocks m ≡ Some k → k.head ≡ Some h → HeadFits (is_local b) (Some h)
  head_local m k h e q = subst (HeadFits (is_local b)) q (block_at (BlockTyped bodies b) b.blocks m k (blocks_typed owner f b gone l σ bodies decls fits callees answers) e).head

  -- a local of the set, and of the body
  name_in : (set : Locals) (x : Name) → IsLocalIn set x → IsLocalIn (is_local b) x → IsNameIn b set x
  name_in set x v w =
      let q : v.0 ≡ w.0 = local_number v.0 w.0 (ap (λ (z : Name). z.0) (sym v.2 ∙ w.2)) in
      (v.0, v.1, named owner f b gone l v.0 (within_locals b v.0 (subst (λ y. is_local b y ≡ true) (sym q) w.1)) ∙ ap Some (sym v.2))

  absent : (j m : ℕ) (g : Point × List Place) (p : Place) → slice_get gone.gone j ≡ Some g → slice_get g.1 m ≡ Some p → sets g.0.label p.local ≡ false
  unfolding sets
  absent j m g p e r =
      let v = mapped_at gone_at (owned l.text) j g (ap (λ gs. slice_get gs j) (sym l.holds_nothing) ∙ e) in
      let w = mapped_at whole v.0.1 m p (ap (λ (z : Point × List Place). slice_get z.1 m) (sym v.2) ∙ r) in
      let q = owned_absent owner f b gone l σ fits v.0 v.1 w.0 (has_count w.0 v.0.1 w.1) in
      ap (λ (z : Point × List Place). sets z.0.label p.local) v.2 ∙ ap (λ (z : Place). sets v.0.0 z.local) w.2 ∙ q

  pub labelled : IsLabelled b (start owner f b gone l σ fits)
  labelled = body_labelling owner f b gone l σ fits

  pub heads_speak : HeadsAreThere b gone labelled.at
  unfolding sets
  heads_speak = record {
    over = λ m k h e q j t r x v.
        let w = name_in (sets m) x (free_at (sets m) h.invariants j t (head_free m k h e q).0 r x v) (free_at (is_local b) h.invariants j t (head_local m k h e q).0 r x v) in
        inr (w.0, ap (λ (S : Locals). S w.0) (labelled.starts m) ∙ w.1, w.2);
    spans = λ m k h e q. (head_local m k h e q).1;
    there = λ j m g p e r. ap (λ (S : Locals). S p.local) (labelled.starts g.0.label) ∙ absent j m g p e r;
  }
