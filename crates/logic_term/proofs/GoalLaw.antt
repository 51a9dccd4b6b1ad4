-- A goal without free names: what stands before its formula in its normal form are the entries, with numbers for their variables.
use Rattle.std.proofs.Common.{◌≡◌, ℕ, true, List, [], ◌∷◌, refl, sym, ◌∙◌, ap, subst}
use Rattle.text_core.specs.declared.name.Name.{Name}
use Rattle.logic_term.specs.declared.context.Entry.{Entry}
use Rattle.logic_term.specs.declared.context.Entry.TheVariants.{Variable, Known}
use Rattle.logic_term.specs.Canonical.{above_free}
use Rattle.logic_term.specs.Context.{closed, numbered, numbered_term, IsOpened}
use Rattle.logic_term.specs.Normal.{reduced}
use Rattle.logic_term.specs.Placed.{itself, placed}
use Rattle.logic_term.specs.Term.{Term, implies, forall}
use Rattle.logic_term.proofs.Depths.{reduced_closed, closed_above}

placed_closed : (es : List Entry) (φ : Term) → placed true 0 itself (closed es φ) ≡ closed (numbered es) (numbered_term es φ)
placed_closed [] φ = refl
placed_closed (Variable x s ∷ es) φ = placed_closed es (forall x s φ)
placed_closed (Known a ∷ es) φ = placed_closed es (implies a φ)

opened : (es : List Entry) (φ t u : Term) → above_free [] (closed es φ) ≡ 0 → t ≡ reduced (closed es φ) → u ≡ numbered_term es φ → IsOpened t es u
opened es φ t u none is here = record {
  is = is ∙ reduced_closed (closed es φ) none ∙ placed_closed es φ ∙ ap (closed (numbered es)) (sym here);
  no_free = ap (above_free []) is ∙ closed_above (closed es φ) none;
}

-- the same, where the closed formula is made of a shared formula
pub opened_at : (es ds : List Entry) (φ ψ k t u : Term) (n : ℕ) → ds ≡ es → t ≡ reduced (closed es φ) → ψ ≡ φ → k ≡ closed es ψ → n ≡ above_free [] k → n ≡ 0 → u ≡ numbered_term es φ → IsOpened t ds u
opened_at es ds φ ψ k t u n same is shared made above none here =
    let is_closed : closed es φ ≡ k = ap (closed es) (sym shared) ∙ sym made in
    subst (λ cs. IsOpened t cs u) (sym same) (opened es φ t u (ap (above_free []) is_closed ∙ sym above ∙ none) is here)
