-- The arguments of a declared type, one after another.
use Rattle.std.proofs.Common.{◌≡◌, ℕ, zero, suc, ◌+◌, ◌<◌, ◌&&◌, Bool, true, false, List, [], ◌∷◌, length, drop, get_or, refl, sym, ap, ◌∙◌, arith}
use Rattle.logic_term.specs.Ty.{Ty, Tys, no_tys, and_ty}
use Rattle.logic_term.specs.TyView.{tys_of}
use Rattle.rs_types.proofs.Tests.{first_off, or_left}
use Rattle.rs_types.specs.Holding.{Rows, argument_stands, stands}

module _ (rows : Rows) (p a : ℕ → Bool) where
  none_count : (ts : Tys) → argument_stands rows p a [] ts ≡ false
  none_count no_tys = refl
  none_count (and_ty t ts) = refl

  past_all : (k : ℕ) (ts : Tys) → argument_stands rows p a (drop k []) ts ≡ false
  past_all zero ts = none_count ts
  past_all (suc k) ts = none_count ts

  at_head : (held : List Bool) (t : Ty) (ts : Tys) → (get_or held 0 false && stands rows p a t) ≡ false → argument_stands rows p a held (and_ty t ts) ≡ argument_stands rows p a (drop 1 held) ts
  at_head [] t ts e = sym (none_count ts)
  at_head (h ∷ held) t ts e = first_off (h && stands rows p a t) (argument_stands rows p a held ts) e

  after_one : (held : List Bool) (ts : List Ty) (i : ℕ) (t : Ty) → t ≡ get_or ts i t → i < length ts → (get_or held i false && stands rows p a t) ≡ false
      → argument_stands rows p a (drop i held) (tys_of (drop i ts)) ≡ argument_stands rows p a (drop (suc i) held) (tys_of (drop (suc i) ts))
  after_one held [] i t e l off = absurd (omega arith)
  after_one [] (u ∷ ts) i t e l off = past_all i (tys_of (drop i (u ∷ ts))) ∙ sym (past_all (suc i) (tys_of (drop (suc i) (u ∷ ts))))
  after_one (h ∷ held) (u ∷ ts) zero t e l off = ap (λ x. argument_stands rows p a (h ∷ held) (and_ty x (tys_of ts))) (sym e) ∙ at_head (h ∷ held) t (tys_of ts) off
  after_one (h ∷ held) (u ∷ ts) (suc i) t e l off = after_one held ts i t e (omega arith) off

  -- what does not stand in one argument is looked for in the next ones
  pub next_argument : (held : List Bool) (ts : List Ty) (i : ℕ) (t : Ty) → t ≡ get_or ts i t → i < length ts → (get_or held i false && stands rows p a t) ≡ false
      → argument_stands rows p a (drop i held) (tys_of (drop i ts)) ≡ argument_stands rows p a (drop (i + 1) held) (tys_of (drop (i + 1) ts))
  next_argument held ts i t e l off =
      let more : suc i ≡ i + 1 = grind arith in
      after_one held ts i t e l off ∙ ap (λ k. argument_stands rows p a (drop k held) (tys_of (drop k ts))) more

  none_there : (t : Ty) → (get_or [] 0 false && stands rows p a t) ≡ true → ⊥
  none_there t e = grind (arith, e)

  pub found_argument : (held : List Bool) (ts : List Ty) (i : ℕ) (t : Ty) → t ≡ get_or ts i t → i < length ts → (get_or held i false && stands rows p a t) ≡ true
      → argument_stands rows p a (drop i held) (tys_of (drop i ts)) ≡ true
  found_argument held [] i t e l on = absurd (omega arith)
  found_argument [] (u ∷ ts) zero t e l on = absurd (none_there t on)
  found_argument (h ∷ held) (u ∷ ts) zero t e l on = ap (λ x. argument_stands rows p a (h ∷ held) (and_ty x (tys_of ts))) (sym e) ∙ or_left (h && stands rows p a t) (argument_stands rows p a held (tys_of ts)) on
  found_argument [] (u ∷ ts) (suc i) t e l on = absurd (none_there t on)
  found_argument (h ∷ held) (u ∷ ts) (suc i) t e l on = found_argument held ts i t e (omega arith) on
