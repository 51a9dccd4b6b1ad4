-- What takes a place is decided, since which types are Copy is.
use Rattle.std.proofs.Common.{◌≡◌, refl, ap, sym, ◌∙◌, true≢false, Bool, true, false, List}
use Rattle.logic_term.specs.Ty.{Ty}
use Rattle.logic_term.specs.declared.declaration.AdtDecl.{AdtDecl}
use Rattle.mir_ir.specs.declared.place.Operand.{Operand}
use Rattle.mir_ir.specs.declared.place.Operand.TheVariants.{Move}
use Rattle.mir_ir.specs.declared.place.Place.{Place}
use Rattle.runnable.specs.CopyDecided.{is_copied}
use Rattle.runnable.proofs.CopyDecided.{tells_copy}
use Rattle.mir_build.specs.Lowering.{Takes, by_copy, by_move}
use Rattle.mir_build.specs.Taking.{taken}

-- the operand that takes a place is one
pub takes : (ds : List AdtDecl) (t : Ty) (p : Place) → Takes ds t p (taken (is_copied ds t) p)
takes ds t p = by (is_copied ds t) refl
  where
    by : (b : Bool) → is_copied ds t ≡ b → Takes ds t p (taken b p)
    by true q = by_copy ((tells_copy ds t).0 q)
    by false q = by_move (λ h. true≢false (sym ((tells_copy ds t).1 h) ∙ q))

pub one_takes : (ds : List AdtDecl) (t : Ty) (p : Place) (o : Operand) → Takes ds t p o → o ≡ taken (is_copied ds t) p
one_takes ds t p o (by_copy h) = ap (λ b. taken b p) (sym ((tells_copy ds t).1 h))
one_takes ds t p o (by_move h) = by (is_copied ds t) refl
  where
    by : (b : Bool) → is_copied ds t ≡ b → Move p ≡ taken (is_copied ds t) p
    by true q = absurd (h ((tells_copy ds t).0 q))
    by false q = ap (λ b. taken b p) (sym q)
