-- The status of parts, one after another.
use Rattle.std.proofs.Common.{◌≡◌, refl, sym, ap, ◌∙◌, ℕ, suc, ◌+◌, ◌<◌, List, [], ◌∷◌, length, get_or, drop, arith}
use Rattle.std.proofs.Math.Seq.{drop-cons}
use Rattle.logic_term.specs.Pattern.{Pat}
use Rattle.logic_term.specs.PatternView.{pats_of}
use Rattle.pat_check.specs.Findings.{at_part}
use Rattle.pat_check.specs.Known.{Known}
use Rattle.pat_check.specs.KnownView.{knowns_of}
use Rattle.pat_check.specs.Rows.{next}
use Rattle.pat_check.specs.Status.{Status, fails, sure, asks, also, first, later, status, statuses}

-- of the parts_of from i on
abbrev pub from : ℕ → ℕ → List Pat → List Known → Status
from n i [] [] = sure
from n i [] (k ∷ ks) = fails
from n i (p ∷ ps) [] = fails
from n i (p ∷ ps) (k ∷ ks) = also (at_part n i (status p k)) (from n (suc i) ps ks)

also_later : (n i : ℕ) (s t : Status) → also (at_part n (suc i) s) (later t) ≡ later (also (at_part n i s) t)
also_later n i fails t = refl
also_later n i sure t = refl
also_later n i (asks p w) fails = refl
also_later n i (asks p w) sure = refl
also_later n i (asks p w) (asks q x) = refl

from_later : (n i : ℕ) (ps : List Pat) (ks : List Known) → from n (suc i) ps ks ≡ later (from n i ps ks)
from_later n i [] [] = refl
from_later n i [] (k ∷ ks) = refl
from_later n i (p ∷ ps) [] = refl
from_later n i (p ∷ ps) (k ∷ ks) = ap (also (at_part n (suc i) (status p k))) (from_later n (suc i) ps ks) ∙ also_later n i (status p k) (from n (suc i) ps ks)

at_first : (n : ℕ) (s : Status) → at_part n 0 s ≡ first n s
at_first n fails = refl
at_first n sure = refl
at_first n (asks p w) = refl

pub from_statuses : (n : ℕ) (ps : List Pat) (ks : List Known) → from n 0 ps ks ≡ statuses n (pats_of ps) (knowns_of ks)
from_statuses n [] [] = refl
from_statuses n [] (k ∷ ks) = refl
from_statuses n (p ∷ ps) [] = refl
from_statuses n (p ∷ ps) (k ∷ ks) = (λ i. also (at_first n (status p k) i) (from_later n 0 ps ks i)) ∙ ap (λ s. also (first n (status p k)) (later s)) (from_statuses n ps ks)

pub also_fail : (s : Status) → also s fails ≡ fails
also_fail fails = refl
also_fail sure = refl
also_fail (asks p w) = refl

pub also_sure : (s : Status) → also s sure ≡ s
also_sure fails = refl
also_sure sure = refl
also_sure (asks p w) = refl

pub also_assoc : (s t u : Status) → also (also s t) u ≡ also s (also t u)
also_assoc fails t u = refl
also_assoc sure t u = refl
also_assoc (asks p w) fails u = refl
also_assoc (asks p w) sure fails = refl
also_assoc (asks p w) sure sure = refl
also_assoc (asks p w) sure (asks q x) = refl
also_assoc (asks p w) (asks q x) fails = refl
also_assoc (asks p w) (asks q x) sure = refl
also_assoc (asks p w) (asks q x) (asks r y) = refl

-- lists of other lengths do not go together
from_lengths : (n i : ℕ) (ps : List Pat) (ks : List Known) → (length ps ≡ length ks → ⊥) → from n i ps ks ≡ fails
from_lengths n i [] [] d = absurd (d refl)
from_lengths n i [] (k ∷ ks) d = refl
from_lengths n i (p ∷ ps) [] d = refl
from_lengths n i (p ∷ ps) (k ∷ ks) d = ap (also (at_part n i (status p k))) (from_lengths n (suc i) ps ks (λ e. d (omega (arith, e)))) ∙ also_fail (at_part n i (status p k))

pub other_lengths : (n : ℕ) (ps : List Pat) (ks : List Known) → (length ps ≡ length ks → ⊥) → fails ≡ statuses n (pats_of ps) (knowns_of ks)
other_lengths n ps ks d = sym (from_lengths n 0 ps ks d) ∙ from_statuses n ps ks

-- one more part
pub from_more : (n i : ℕ) (ps : List Pat) (ks : List Known) (p : Pat) (k : Known) (found next total : Status) → p ≡ get_or ps i p → k ≡ get_or ks i k → i < length ps → i < length ks
    → next ≡ at_part n i (status p k) → also found (from n i (drop i ps) (drop i ks)) ≡ total → also (also found next) (from n (i + 1) (drop (i + 1) ps) (drop (i + 1) ks)) ≡ total
from_more n i ps ks p k found next total ep ek lp lk en e =
    let rest : ℕ → Status = λ m. from n m (drop m ps) (drop m ks) in
    let dp : drop i ps ≡ p ∷ drop (suc i) ps = drop-cons ps i p lp ∙ ap (λ x. x ∷ drop (suc i) ps) (sym ep) in
    let dk : drop i ks ≡ k ∷ drop (suc i) ks = drop-cons ks i k lk ∙ ap (λ x. x ∷ drop (suc i) ks) (sym ek) in
    let one : rest i ≡ also (at_part n i (status p k)) (rest (suc i)) = λ j. from n i (dp j) (dk j) in
    let more : i + 1 ≡ suc i = omega arith in
    ap (λ m. also (also found next) (rest m)) more ∙ also_assoc found next (rest (suc i)) ∙ ap (λ s. also found (also s (rest (suc i)))) en ∙ ap (also found) (sym one) ∙ e
