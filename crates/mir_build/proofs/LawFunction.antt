-- The body of a function that lowers: its blocks, the types of its locals and the sets of its labels.
use Rattle.std.proofs.Common.{◌≡◌, refl, ap, sym, ◌∙◌, subst, ℕ, suc, ◌+◌, ◌<◌, ◌≤◌, ◌==◌, ◌&&◌, nat_lt, Bool, true, false, cond, List, [], ◌∷◌, ◌++◌, map, length, Some, slice_get, arith, length-append}
use Rattle.std.proofs.lemmas.Bool.Decides.{nat_tests}
use Rattle.logic_term.specs.declared.declaration.AdtDecl.{AdtDecl}
use Rattle.logic_term.specs.declared.kinds.Label.{Label}
use Rattle.logic_term.specs.Ty.{Ty}
use Rattle.mir_ir.specs.declared.body.Body.{Body}
use Rattle.mir_ir.specs.declared.body.Initialised.{Initialised}
use Rattle.mir_ir.specs.declared.place.Place.{Place}
use Rattle.mir_ir.specs.Layout.{IsLaidOut}
use Rattle.mir_ir.specs.WellFormed.{Locals, with, parameters, IsTyped}
use Rattle.type_check.specs.declared.program.Signature.{Signature}
use Rattle.type_check.specs.declared.program.TypedFunction.{TypedFunction}
use Rattle.type_check.specs.TypedExprView.{span_of}
use Rattle.runnable.specs.Runs as running
use Rattle.type_check.specs.WellTyped.{surroundings_of}
use Rattle.mir_build.specs.Text.{fresh, begun, made, owned}
use Rattle.mir_build.specs.Lowering.{numbers, counted, paired, all_locals, local_name, entry_title, around_body, whole, LowersTo}
use Rattle.mir_build.proofs.Numbers.{count}
use Rattle.mir_build.proofs.LawLists.{Has, here, there, has_left, has_right, count-append}
use Rattle.mir_build.proofs.LawFlow.{flows, in_no_loop}
use Rattle.mir_build.proofs.LawLayout.{titles, labels, titles_of, labels_of, Flowing, flowing_of, Once, laid_out}
use Rattle.mir_build.proofs.LawRuns.{with_self, Runs, Agree, labels_in, Laid, HasNone}
use Rattle.mir_build.proofs.LawLaid.{weight, Apart}
use Rattle.mir_build.proofs.LawSets.{Scoped, Meets, no_loops, text_laid}
use Rattle.mir_build.proofs.LawTyped.{AreTyped, MadeFits, ScopeFits}
use Rattle.mir_build.proofs.LawTypes.{Callee, text_typed}
use Rattle.mir_build.proofs.LawInit.{set_of, agree, EachBlock, BlockFits, begun_fits, owned_not_there, block_at, IsLabelled, labelling}
use Rattle.mir_build.proofs.OneBody.{labels_once, locals_once}
use Rattle.mir_build.proofs.LawBlocks.{typed_at, BlockTyped, typed_blocks, has_block, end_typed}
use Rattle.mir_ir.specs.declared.body.Bodies.{Bodies}
use Rattle.mir_build.proofs.PlainTyping.{FunctionFitsPlainly}

-- ---- numbers of parameters

pub counted_length : {A : Type 0} (n : ℕ) (xs : List A) → length (counted n xs) ≡ length xs
counted_length n [] = refl
counted_length n (x ∷ xs) = ap suc (counted_length (n + 1) xs)

counted_places : {A : Type 0} (n : ℕ) (xs : List A) → length (map whole (counted n xs)) ≡ length xs
counted_places n [] = refl
counted_places n (x ∷ xs) = ap suc (counted_places (n + 1) xs)

has_places : {A : Type 0} (n : ℕ) (xs : List A) (p : Place) → Has p (map whole (counted n xs)) → (n ≤ p.local) × (p.local < n + length xs)
has_places n [] p h = elim h [ ]
has_places n (y ∷ xs) p here = (omega arith, omega arith)
has_places n (y ∷ xs) p (there h) = let w = has_places (n + 1) xs p h in (omega arith, omega arith)

counts_paired : (n : ℕ) (ts : List Ty) (x : ℕ) → n ≤ x → x < n + length ts → 1 ≤ count x (numbers (paired n ts))
counts_paired n [] x h g = absurd (omega arith)
counts_paired n (t ∷ ts) x h g = by_test (x == n) refl (λ k. counts_paired (n + 1) ts x k (omega arith))
  where
    differ : x ≡ n → (x == n) ≡ false → ⊥
    differ q d = grind (arith, nat_tests)

    by_test : (c : Bool) → (x == n) ≡ c → (n + 1 ≤ x → 1 ≤ count x (numbers (paired (n + 1) ts))) → 1 ≤ cond c 1 0 + count x (numbers (paired (n + 1) ts))
    by_test true e rest = omega arith
    by_test false e rest = let other : x ≡ n → ⊥ = λ q. differ q e in omega (arith, rest (omega (arith, other)))

pub paired_length : (n : ℕ) (ts : List Ty) → length (paired n ts) ≡ length ts
paired_length n [] = refl
paired_length n (t ∷ ts) = ap suc (paired_length (n + 1) ts)

pub has_place : {A : Type 0} (x : A) (xs : List A) → Has x xs → (i : ℕ) × (slice_get xs i ≡ Some x)
has_place x xs here = (0, refl)
has_place x xs (there h) = let w = has_place x _ h in (suc w.0, w.1)

fits_paired : (b : Body) (n : ℕ) (ts : List Ty) → MadeFits b (paired n ts) → ScopeFits b (map whole (counted n ts)) ts
fits_paired b n [] m = tt
fits_paired b n (t ∷ ts) m = ((refl, m.fits n t here), fits_paired b (n + 1) ts (record { fits = λ x u h. m.fits x u (there h) }))

-- ---- tests

is_parameter : (p x : ℕ) → 1 ≤ x → x < 1 + p → (nat_lt 0 x && nat_lt x (p + 1)) ≡ true
is_parameter p x h g = grind (arith, nat_tests)

from_parameter : (p x : ℕ) → (nat_lt 0 x && nat_lt x (p + 1)) ≡ true → (1 ≤ x) × (x < 1 + p)
from_parameter p x e = (lower p x e, upper p x e)
  where
    lower : (p x : ℕ) → (nat_lt 0 x && nat_lt x (p + 1)) ≡ true → 1 ≤ x
    lower p x e = grind (arith, nat_tests)

    upper : (p x : ℕ) → (nat_lt 0 x && nat_lt x (p + 1)) ≡ true → x < 1 + p
    upper p x e = grind (arith, nat_tests)

-- ---- the function's own locals

module _ (owner : List ℕ) (f : TypedFunction) (b : Body) (gone : Initialised) {δ : List AdtDecl} {τ : List Signature} (l : LowersTo δ τ owner f b gone) where
  pub locals_fit : MadeFits b (all_locals f l.text)
  locals_fit = record { fits = λ x t h. let w = has_place (x, t) (all_locals f l.text) h in l.locals w.0 x t w.1 }

  pub answer_fits : slice_get b.locals 0 ≡ Some f.signature.answer
  answer_fits = locals_fit.fits 0 f.signature.answer here

  params_fit : MadeFits b (paired 1 f.signature.params)
  params_fit = record { fits = λ x t h. locals_fit.fits x t (there (has_left (paired 1 f.signature.params) (made l.text) h)) }

  pub text_fits : MadeFits b (made l.text)
  text_fits = record { fits = λ x t h. locals_fit.fits x t (there (has_right (paired 1 f.signature.params) (made l.text) h)) }

  pub scope_fits : ScopeFits b (map whole (counted 1 f.signature.params)) f.signature.params
  scope_fits = fits_paired b 1 f.signature.params params_fit

  pub locals_length : length b.locals ≡ 1 + (length f.signature.params + length (made l.text))
  locals_length =
      let e : length (paired 1 f.signature.params ++ made l.text) ≡ length (paired 1 f.signature.params) + length (made l.text) = length-append (paired 1 f.signature.params) (made l.text) in
      omega (arith, l.all, e, paired_length 1 f.signature.params)

  -- ---- layout

  pub body_once : Once (labels b.blocks)
  body_once = subst Once (sym (ap labels l.blocks ∙ labels_of (fresh (entry_title b.entry)) l.text _)) (labels_once δ τ owner f b gone l)

  body_titles : titles b.blocks ≡ entry_title b.entry ∷ begun l.text
  body_titles = ap titles l.blocks ∙ titles_of (fresh (entry_title b.entry)) l.text _

  body_flows : Flowing (titles b.blocks) b.blocks
  body_flows = subst (Flowing (titles b.blocks)) (sym l.blocks)
      (flowing_of (titles b.blocks) _ refl [] [] l.text
      (flows (around_body δ f) f.body l.text l.into (titles b.blocks) [] (λ t h. subst (λ bs. Has t bs) (sym body_titles) (there h)) (in_no_loop (titles b.blocks) []))
      (fresh (entry_title b.entry)) refl)

  pub body_laid_out : IsLaidOut b
  body_laid_out = laid_out b (entry_title b.entry) refl refl refl (subst (λ bs. Has (entry_title b.entry) bs) (sym body_titles) here) body_once body_flows

  -- ---- sets

  is_param : (x : ℕ) → 1 ≤ x → x < 1 + length f.signature.params → parameters b x ≡ true
  is_param x h g = is_parameter b.params x h (omega (arith, l.params))

  scoped : Scoped (around_body δ f) f.signature.params (parameters b) (parameters b)
  scoped = record {
    count = sym (counted_places 1 f.signature.params);
    holds = λ p h. let w = has_places 1 f.signature.params p h in is_param p.local w.0 w.1;
    kept = λ x h. h;
    apart = λ m e p h. absurd (cc);
  }

  numbers-append : (ps ms : List (ℕ × Ty)) → numbers (ps ++ ms) ≡ numbers ps ++ numbers ms
  numbers-append [] ms = refl
  numbers-append (p ∷ ps) ms = ap (λ ns. p.0 ∷ ns) (numbers-append ps ms)

  weight_param : (x : ℕ) → weight (parameters b x) ≤ count x (numbers (paired 1 f.signature.params))
  weight_param x = by_test (parameters b x) refl
    where
      by_test : (c : Bool) → parameters b x ≡ c → weight c ≤ count x (numbers (paired 1 f.signature.params))
      by_test false e = omega arith
      by_test true e = let w = from_parameter b.params x e in counts_paired 1 f.signature.params x w.0 (omega (arith, w.1, l.params))

  apart : Apart (parameters b) (0 ∷ numbers (made l.text))
  apart = record {
    once = λ x.
        let e : count x (numbers (paired 1 f.signature.params ++ made l.text)) ≡ count x (numbers (paired 1 f.signature.params)) + count x (numbers (made l.text)) =
        ap (count x) (numbers-append (paired 1 f.signature.params) (made l.text)) ∙ count-append x (numbers (paired 1 f.signature.params)) (numbers (made l.text)) in
        omega (arith, e, weight_param x, locals_once δ τ owner f b gone l x);
  }

  -- ---- the labelling

  module _ (σ : List Signature) (fits : FunctionFitsPlainly δ σ f) where
    runs_from : Laid (Meets [] (parameters b)) (parameters b) l.text (with 0 (parameters b))
    runs_from = text_laid (surroundings_of δ σ f.signature) false (around_body δ f) refl f.body l.text l.into f.signature.params (parameters b) (parameters b) scoped fits.body apart

    starts : List (Label × Locals)
    starts = (b.entry, parameters b) ∷ runs_from.starts

    pub start : Label → Locals
    start = set_of starts

    starts_once : Once (labels_in starts)
    unfolding starts
    starts_once = subst Once (sym (ap (λ ls. b.entry.0 ∷ ls) runs_from.are)) (labels_once δ τ owner f b gone l)

    agreed : Agree start starts
    unfolding start
    agreed = agree starts starts_once

    at_entry : start b.entry ≡ parameters b
    unfolding starts
    at_entry = agreed.0

    text_runs : Runs start (parameters b) l.text (with 0 (parameters b))
    unfolding starts
    text_runs = runs_from.runs start agreed.1 (no_loops (parameters b) start)

    pub start_fits : EachBlock (BlockFits start) b.blocks
    start_fits = subst (EachBlock (BlockFits start)) (sym l.blocks)
        (begun_fits start (span_of f.body) (with 0 (parameters b)) (with_self 0 (parameters b)) (entry_title b.entry) l.text
        (subst (λ S. Runs start S l.text (with 0 (parameters b))) (sym at_entry) text_runs) tt)

    pub owned_absent : (e : Label × List ℕ) → Has e (owned l.text) → HasNone (start e.0) e.1
    owned_absent e h = owned_not_there start (with 0 (parameters b)) (parameters b) l.text text_runs e h

    pub body_labelling : IsLabelled b start
    body_labelling = labelling b start start_fits (λ x h. subst (λ (S : Locals). S x ≡ true) at_entry h)

  -- ---- types

  module _ (σ : List Signature) (bodies : Bodies) (decls : bodies.decls ≡ δ) (fits : FunctionFitsPlainly δ σ f) (callees : (n : ℕ) (g : Signature) → slice_get σ n ≡ Some g → Callee bodies n g) (answers : (n : ℕ) (g : Signature) → slice_get σ n ≡ Some g → running.Runs δ g.answer) where
    pub lines_typed : AreTyped δ bodies b l.text
    lines_typed = text_typed (surroundings_of δ σ f.signature) bodies decls b callees answers answer_fits false (around_body δ f) refl f.body l.text l.into f.signature.params
        (record { scope = scope_fits; types_run = fits.params }) fits.body (answer_fits ∙ ap Some (sym fits.of_answer)) text_fits

    pub blocks_typed : EachBlock (BlockTyped bodies b) b.blocks
    blocks_typed = subst (EachBlock (BlockTyped bodies b)) (sym l.blocks) (typed_blocks δ bodies b (span_of f.body) l.text (fresh (entry_title b.entry)) lines_typed (tt, tt))

    map_length : {A B : Type 0} (g : A → B) (xs : List A) → length (map g xs) ≡ length xs
    map_length g [] = refl
    map_length g (x ∷ xs) = ap suc (map_length g xs)

    pub body_typed : IsTyped bodies b
    body_typed = record {
      ground = l.types;
      named = ap length l.names ∙ map_length local_name (counted 0 b.locals) ∙ counted_length 0 b.locals;
      answers = omega (arith, locals_length, l.params);
      begins = (body_laid_out.entry, body_laid_out.is_entry);
      statements = λ m k i st e h. typed_at bodies b k.statements i st (block_at (BlockTyped bodies b) b.blocks m k blocks_typed e).statements h;
      ends = λ m k e. end_typed bodies b k.end.kind (block_at (BlockTyped bodies b) b.blocks m k blocks_typed e).end (λ to a. has_block b m k to (body_laid_out.edges m to k e a));
    }
