-- The parts of a tuple, one after another.
use Rattle.std.proofs.Common.{◌≡◌, ◌∙◌, ℕ, zero, suc, ◌+◌, ◌<◌, List, [], ◌∷◌, ◌++◌, length, get_or, drop, refl, ap, ap₂, sym, add-one, drop-cons, Result, Ok, Err, arith}
use Rattle.text_core.specs.declared.fault.PassError.{PassError}
use Rattle.text_core.specs.declared.refusal.SourceError.{SourceError}
use Rattle.logic_term.specs.Term.{Term, Terms, and_term}
use Rattle.logic_term.specs.TermView.{terms_of}
use Rattle.logic_term.specs.Ty.{Ty, Tys, and_ty}
use Rattle.logic_term.specs.TyView.{tys_of}
use Rattle.source_trees.specs.Pterm as T
use Rattle.source_trees.specs.Pterm.{Pterm}
use Rattle.source_trees.specs.PtermView.{pterm_size, terms_of as written_terms, terms_size}
use Rattle.logic_elab.specs.declared.scope.Symbol.{Symbol}
use Rattle.logic_elab.specs.declared.sorted.SortedTerm.{SortedTerm}
use Rattle.logic_elab.specs.Answers.{◌>>=◌, Refuses}
use Rattle.logic_elab.specs.Elaborated.{SortedTerms, and_part, elaborated_parts, elaborated_under}
use Rattle.logic_elab.specs.Scope.{Scope}
use Rattle.logic_elab.proofs.Stops.{along, refuses_then}

-- these sorts, and then the others; these terms, too
abbrev pub sorts_onto : List Ty → Tys → Tys
sorts_onto [] end = end
sorts_onto (s ∷ ss) end = and_ty s (sorts_onto ss end)

abbrev pub terms_onto : List Term → Terms → Terms
terms_onto [] end = end
terms_onto (t ∷ ts) end = and_term t (terms_onto ts end)

abbrev pub and_parts : List Ty → List Term → SortedTerms → Result SortedTerms SourceError
and_parts ss ts end = Ok (record { sorts = sorts_onto ss end.sorts; terms = terms_onto ts end.terms })

-- what is left, after these parts
abbrev pub continued : Scope → List Symbol → List Pterm → ℕ → List Ty → List Term → Result SortedTerms SourceError
continued Γ bs ps i ss ts = elaborated_parts Γ bs (written_terms (drop i ps)) >>= and_parts ss ts

pub sorts_more : (ss : List Ty) (s : Ty) (end : Tys) → sorts_onto ss (and_ty s end) ≡ sorts_onto (ss ++ s ∷ []) end
sorts_more [] s end = refl
sorts_more (r ∷ ss) s end = ap (and_ty r) (sorts_more ss s end)

terms_more : (ts : List Term) (t : Term) (end : Terms) → terms_onto ts (and_term t end) ≡ terms_onto (ts ++ t ∷ []) end
terms_more [] t end = refl
terms_more (u ∷ ts) t end = ap (and_term u) (terms_more ts t end)

pub onto_end : (ss : List Ty) → sorts_onto ss (tys_of []) ≡ tys_of ss
onto_end [] = refl
onto_end (s ∷ ss) = ap (and_ty s) (onto_end ss)

terms_end : (ts : List Term) → terms_onto ts (terms_of []) ≡ terms_of ts
terms_end [] = refl
terms_end (t ∷ ts) = ap (and_term t) (terms_end ts)

both_parts : (ss rs : Tys) (ts us : Terms) → ss ≡ rs → ts ≡ us → (let r : SortedTerms = record { sorts = ss; terms = ts } in r) ≡ record { sorts = rs; terms = us }
both_parts ss rs ts us p q = ap₂ (λ s t. let r : SortedTerms = record { sorts = s; terms = t } in r) p q

abbrev one : SortedTerm → SortedTerms → Result SortedTerms SourceError
one a r = Ok (and_part a r)

one_more : (ss : List Ty) (ts : List Term) (a : SortedTerm) (m : Result SortedTerms SourceError) → ((m >>= one a) >>= and_parts ss ts) ≡ (m >>= and_parts (ss ++ a.sort ∷ []) (ts ++ a.term ∷ []))
one_more ss ts a (Ok r) = ap Ok (both_parts _ _ _ _ (sorts_more ss a.sort r.sorts) (terms_more ts a.term r.terms))
one_more ss ts a (Err e) = refl

nothing_yet : (m : Result SortedTerms SourceError) → m ≡ (m >>= and_parts [] [])
nothing_yet (Ok r) = refl
nothing_yet (Err e) = refl

module _ (Γ : Scope) (bs : List Symbol) where
  pub parts_start : (ps : List Pterm) → elaborated_parts Γ bs (written_terms ps) ≡ continued Γ bs ps 0 [] []
  parts_start ps = nothing_yet (elaborated_parts Γ bs (written_terms ps))

  abbrev then_parts : T.Terms → SortedTerm → Result SortedTerms SourceError
  then_parts ps a = elaborated_parts Γ bs ps >>= one a

  parts_at : (ps : List Pterm) (i : ℕ) (p : Pterm) → p ≡ get_or ps i p → i < length ps → written_terms (drop i ps) ≡ T.more p (written_terms (drop (suc i) ps))
  parts_at ps i p q h = rw (drop-cons ps i p h) (ap (λ x. T.more x (written_terms (drop (suc i) ps))) (sym q))

  next : (ps : List Pterm) (i : ℕ) (p : Pterm) → p ≡ get_or ps i p → i < length ps → elaborated_parts Γ bs (written_terms (drop i ps)) ≡ (elaborated_under Γ bs p >>= then_parts (written_terms (drop (suc i) ps)))
  next ps i p q h = ap (elaborated_parts Γ bs) (parts_at ps i p q h)

  parts_more : (ps : List Pterm) (i : ℕ) (p : Pterm) (ss : List Ty) (ts : List Term) (a : SortedTerm) → p ≡ get_or ps i p → i < length ps → elaborated_under Γ bs p ≡ Ok a
      → continued Γ bs ps i ss ts ≡ continued Γ bs ps (i + 1) (ss ++ a.sort ∷ []) (ts ++ a.term ∷ [])
  parts_more ps i p ss ts a q h e =
      rw add-one
      (ap (λ m. m >>= and_parts ss ts) (next ps i p q h)
      ∙ ap (λ (m : Result SortedTerm SourceError). (m >>= then_parts (written_terms (drop (suc i) ps))) >>= and_parts ss ts) e
      ∙ one_more ss ts a (elaborated_parts Γ bs (written_terms (drop (suc i) ps))))

  -- from the start
  pub parts_more_all : (ps : List Pterm) (i : ℕ) (p : Pterm) (ss rs : List Ty) (ts us : List Term) (a : SortedTerm) → p ≡ get_or ps i p → i < length ps → elaborated_under Γ bs p ≡ Ok a
      → rs ≡ ss ++ a.sort ∷ [] → us ≡ ts ++ a.term ∷ [] → elaborated_parts Γ bs (written_terms ps) ≡ continued Γ bs ps i ss ts → elaborated_parts Γ bs (written_terms ps) ≡ continued Γ bs ps (i + 1) rs us
  parts_more_all ps i p ss rs ts us a q h e sorts terms r = r ∙ parts_more ps i p ss ts a q h e ∙ ap₂ (continued Γ bs ps (i + 1)) (sym sorts) (sym terms)

  -- from the start
  pub parts_stop_all : (f : PassError) (ps : List Pterm) (i : ℕ) (p : Pterm) (ss : List Ty) (ts : List Term) → p ≡ get_or ps i p → i < length ps
      → elaborated_parts Γ bs (written_terms ps) ≡ continued Γ bs ps i ss ts → Refuses f (elaborated_under Γ bs p) → Refuses f (elaborated_parts Γ bs (written_terms ps))
  parts_stop_all f ps i p ss ts q h r e =
      along f _ _ r
      (refuses_then f _ (and_parts ss ts)
      (along f _ _ (next ps i p q h)
      (refuses_then f (elaborated_under Γ bs p) (then_parts (written_terms (drop (suc i) ps))) e)))

  drop_all : (ps : List Pterm) (n : ℕ) → n ≡ length ps → drop n ps ≡ []
  drop_all [] n q = rw q refl
  drop_all (p ∷ ps) n q = rw q (drop_all ps (length ps) refl)

  pub parts_end : (ps : List Pterm) (n : ℕ) (ss : List Ty) (ts : List Term) → n ≡ length ps → continued Γ bs ps n ss ts ≡ Ok (record { sorts = tys_of ss; terms = terms_of ts })
  parts_end ps n ss ts q = rw (drop_all ps n q) (ap Ok (both_parts _ _ _ _ (onto_end ss) (terms_end ts)))

smaller : (ps : List Pterm) (i : ℕ) (d : Pterm) → i < length ps → pterm_size (get_or ps i d) < terms_size (written_terms ps)
smaller [] i d h = absurd (omega arith)
smaller (p ∷ ps) zero d h = omega arith
smaller (p ∷ ps) (suc i) d h = omega (arith, smaller ps i d (omega arith))

pub part_smaller : (ps : List Pterm) (i : ℕ) (p : Pterm) → p ≡ get_or ps i p → i < length ps → pterm_size p < terms_size (written_terms ps)
part_smaller ps i p q h = omega (arith, ap pterm_size q, smaller ps i p h)
