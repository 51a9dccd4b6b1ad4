-- An obligation is left exactly where the file has no derivation of it.
use Rattle.std.proofs.Common.{◌≡◌, ◌∙◌, refl, sym, subst, ℕ, List, [], ◌∷◌, None, Some}
use Rattle.std.specs.Prelude.{◌↔◌}
use Rattle.logic_term.specs.declared.obligation.Obligation.{Obligation}
use Rattle.mir_machine.specs.Good.{Each}
use Rattle.proof_kernel.specs.Accepts.{Accepts}
use Rattle.proof_kernel.specs.declared.setting.Tables.{Tables}
use Rattle.proof_kernel.proofs.AcceptLaw.{accepts_proofs}
use Rattle.proof_text.specs.declared.proof.Proof.{Proof}
use Rattle.report_out.specs.declared.verdict.LeftItem.{LeftItem}
use Rattle.report_out.specs.declared.verdict.Reason.{Reason}
use Rattle.verify_core.specs.Verdict.{steps_of, Settles, HasDerivation, Judges}
use Rattle.verify_core.proofs.StepsOnce.{refused_is_no_proof}

-- ---- obligations

pub settled_derives : (T : Tables) (ps : List Proof) (o : Obligation) → Settles T ps o None → HasDerivation T ps o
settled_derives T ps o (Settles.proved {p = p} found accepted) = record { proof = p; is_for_it = found; derives = (accepts_proofs T o (steps_of p.steps)).0 accepted }

some_proof : (p q : Proof) → Some p ≡ Some q → p ≡ q
some_proof p q e = cc

pub left_underived : (T : Tables) (ps : List Proof) (o : Obligation) (r : Reason) → Settles T ps o (Some r) → HasDerivation T ps o → ⊥
left_underived T ps o r (Settles.missing none) has = absurd (let e : None ≡ Some has.proof = sym none ∙ has.is_for_it in cc)
left_underived T ps o r (Settles.refused {p = p} {line = line} found refused) has =
    let same : has.proof ≡ p = some_proof has.proof p (sym has.is_for_it ∙ found) in
    let accepted : Accepts T o (steps_of has.proof.steps) = (accepts_proofs T o (steps_of has.proof.steps)).1 has.derives in
    refused_is_no_proof T o p.steps p.«end» line refused (subst (λ (q : Proof). Accepts T o (steps_of q.steps)) same accepted)

not_empty : (x : LeftItem) (xs : List LeftItem) → (x ∷ xs) ≡ [] → ⊥
not_empty x xs e = absurd cc

pub all_derived : (T : Tables) (ps : List Proof) (os : List Obligation) (left : List LeftItem) (n : ℕ) → Judges T ps os left n → left ≡ [] → Each (HasDerivation T ps) os
all_derived T ps [] left n judged e = tt
all_derived T ps (o ∷ os) left n (Judges.proved settled rest) e = (settled_derives T ps o settled, all_derived T ps os left _ rest e)
all_derived T ps (o ∷ os) (i ∷ left) n (Judges.left settled rest) e = absurd (not_empty i left e)

pub none_left_over : (T : Tables) (ps : List Proof) (os : List Obligation) (left : List LeftItem) (n : ℕ) → Judges T ps os left n → Each (HasDerivation T ps) os → left ≡ []
none_left_over T ps [] left n Judges.none each = refl
none_left_over T ps (o ∷ os) left n (Judges.proved settled rest) each = none_left_over T ps os left _ rest each.1
none_left_over T ps (o ∷ os) left n (Judges.left {r = r} settled rest) each = absurd (left_underived T ps o r settled each.0)

-- nothing is left exactly where each obligation has a derivation
pub left_exactly : (T : Tables) (ps : List Proof) (os : List Obligation) (left : List LeftItem) (n : ℕ) → Judges T ps os left n → (left ≡ []) ↔ Each (HasDerivation T ps) os
left_exactly T ps os left n judged = (all_derived T ps os left n judged, none_left_over T ps os left n judged)
