-- Hypotheses that are still to be added, one after the other.
use Rattle.std.proofs.Common.{◌≡◌, ℕ, suc, ◌+◌, ◌<◌, ◌≤◌, List, [], ◌∷◌, ◌++◌, length, get_or, drop, drop-cons, add-one, append_assoc, append-nil, sym, ◌∙◌, ap, ap₂}
use Rattle.std.proofs.lemmas.List.{drop_all}
use Rattle.logic_term.specs.Term.{Term}
use Rattle.proof_kernel.specs.Intro.{assuming}
use Rattle.proof_kernel.specs.Rules.{label, labelled}
use Rattle.proof_kernel.specs.Sequent.{Sequent}

-- the sequent with the terms as the hypotheses k, k + 1, .. of step s
abbrev pub with_rest : ℕ → ℕ → Sequent → List Term → Sequent
with_rest s k q ts = record { vars = q.vars; hyps = q.hyps ++ labelled s k ts; goal = q.goal }

-- one of them is added
pub one_labelled : (s j k i : ℕ) (q next whole : Sequent) (ts : List Term) (t d : Term) → i < length ts → t ≡ get_or ts i d → next ≡ assuming q (label s k) t → j ≡ k + 1
    → with_rest s k q (drop i ts) ≡ whole → with_rest s j next (drop (i + 1) ts) ≡ whole
one_labelled s j k i q next whole ts t d l is made more h =
    let left : drop i ts ≡ t ∷ drop (i + 1) ts = rw (add-one, drop-cons ts i d) (ap (λ u. u ∷ drop (suc i) ts) (sym is)) in
    ap₂ (λ p m. with_rest s m p (drop (i + 1) ts)) made (more ∙ add-one k)
    ∙ ap (λ hs. record { vars = q.vars; hyps = hs; goal = q.goal }) (append_assoc q.hyps ((label s k, t) ∷ []) (labelled s (suc k) (drop (i + 1) ts)))
    ∙ ap (λ us. with_rest s k q us) (sym left) ∙ h

-- all of them are
pub all_labelled : (s k i : ℕ) (q whole : Sequent) (ts : List Term) → length ts ≤ i → with_rest s k q (drop i ts) ≡ whole → q ≡ whole
all_labelled s k i q whole ts l h =
    sym (ap (λ us. with_rest s k q us) (drop_all i ts l) ∙ ap (λ hs. record { vars = q.vars; hyps = hs; goal = q.goal }) (append-nil q.hyps)) ∙ h
