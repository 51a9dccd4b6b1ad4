-- What no constructor makes, and constructors without parts.
use Rattle.std.proofs.Common.{◌≡◌, ◌<◌, List, [], ◌∷◌, length, Err, refl, arith}
use Rattle.text_core.specs.declared.span.Span.{Span}
use Rattle.logic_term.specs.declared.declaration.VariantKind.{VariantKind}
use Rattle.logic_term.specs.declared.kinds.Ctor.{Ctor}
use Rattle.logic_term.specs.declared.kinds.TyUnary.{TyUnary}
use Rattle.logic_term.specs.declared.kinds.TyUnary.TheVariants as unary
use Rattle.logic_term.specs.Ty.{Ty}
use Rattle.logic_term.specs.TyView.{made_by, tys_of}
use Rattle.constructors.specs.Constructors.{Constructor}
use Rattle.pat_types.specs.declared.names.BoundName.{BoundName}
use Rattle.pat_types.specs.Answers.{mismatch}
use Rattle.pat_types.specs.PatternTyping.{alone, makes}

pub no_unary_maker : (s : Span) (k : VariantKind) (op : TyUnary) (t : Ty) (c : Constructor) → makes s k (made_by op t) c ≡ Err (mismatch s)
no_unary_maker s k unary.Boxed t c = refl
no_unary_maker s k (unary.Shared r) t c = refl
no_unary_maker s k (unary.Unique r) t c = refl
no_unary_maker s k unary.View t c = refl
no_unary_maker s k unary.Snapshot t c = refl

pub alone_without : (s : Span) (t : Ty) (xs : List BoundName) (c : Ctor) (ts : List Ty) → 0 < length ts → alone s t xs (c, tys_of ts) ≡ Err (mismatch s)
alone_without s t xs c [] h = absurd (omega arith)
alone_without s t xs c (u ∷ us) h = refl
