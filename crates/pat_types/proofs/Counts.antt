-- Another number of parts than the type has.
use Rattle.std.proofs.Common.{◌≡◌, ◌∙◌, ℕ, zero, suc, ◌<◌, ◌≤◌, List, [], ◌∷◌, length, drop, Err, refl, ap, arith}
use Rattle.std.proofs.Math.ListN.{drop_of_length-le}
use Rattle.text_core.specs.declared.span.Span.{Span}
use Rattle.logic_term.specs.declared.declaration.AdtDecl.{AdtDecl}
use Rattle.logic_term.specs.declared.pattern.BindingKind.{BindingKind}
use Rattle.logic_term.specs.Pattern.{Pat}
use Rattle.logic_term.specs.Ty.{Ty}
use Rattle.logic_term.specs.TyView.{tys_of}
use Rattle.source_trees.specs.Pat.{Pat as Written}
use Rattle.source_trees.specs.PatView.{pats_of}
use Rattle.pat_types.specs.declared.names.BoundName.{BoundName}
use Rattle.pat_types.specs.Answers.{mismatch}
use Rattle.pat_types.specs.PatternTyping.{typed_parts}

some : {A : Type 0} (xs : List A) (k : ℕ) → k < length xs → 0 < length (drop k xs)
some [] k h = absurd (omega arith)
some (x ∷ xs) zero h = omega arith
some (x ∷ xs) (suc k) h = some xs k (omega arith)

module _ (ds : List AdtDecl) (m : BindingKind) (s : Span) (made : List Pat) (xs : List BoundName) (ps : List Written) (ts : List Ty) (i : ℕ) where
  some_left : (qs : List Written) → 0 < length qs → typed_parts ds m s made xs (pats_of qs) (tys_of []) ≡ Err (mismatch s)
  some_left [] h = absurd (omega arith)
  some_left (q ∷ qs) h = refl

  some_wanted : (us : List Ty) → 0 < length us → typed_parts ds m s made xs (pats_of []) (tys_of us) ≡ Err (mismatch s)
  some_wanted [] h = absurd (omega arith)
  some_wanted (u ∷ us) h = refl

  pub one_too_many : i < length ps → length ts ≤ i → typed_parts ds m s made xs (pats_of (drop i ps)) (tys_of (drop i ts)) ≡ Err (mismatch s)
  one_too_many h l = ap (λ us. typed_parts ds m s made xs (pats_of (drop i ps)) (tys_of us)) (drop_of_length-le ts l) ∙ some_left (drop i ps) (some ps i h)

  pub one_missing : length ps ≤ i → i < length ts → typed_parts ds m s made xs (pats_of (drop i ps)) (tys_of (drop i ts)) ≡ Err (mismatch s)
  one_missing l h = ap (λ qs. typed_parts ds m s made xs (pats_of qs) (tys_of (drop i ts))) (drop_of_length-le ps l) ∙ some_wanted (drop i ts) (some ts i h)
