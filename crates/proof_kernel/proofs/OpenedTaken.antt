-- Numbered entries, taken off at once.
use Rattle.std.proofs.Common.{◌≡◌, ℕ, zero, suc, ◌+◌, ◌<◌, List, [], ◌∷◌, ◌++◌, length, get_or, drop, drop-cons, add-one, refl, sym, ◌∙◌, ap, ap₂, arith}
use Rattle.std.specs.Prelude.{zip}
use Rattle.std.proofs.lemmas.List.{length-append}
use Rattle.text_core.specs.declared.name.Name.{Name}
use Rattle.logic_term.specs.declared.context.Entry.{Entry}
use Rattle.logic_term.specs.declared.context.Entry.TheVariants.{Variable, Known}
use Rattle.logic_term.specs.Context.{count_variables, numbered_term}
use Rattle.logic_term.specs.Term.{Term, implies, forall}
use Rattle.logic_term.specs.Ty.{Ty}
use Rattle.proof_kernel.specs.Intro.{taken}
use Rattle.proof_kernel.specs.Opened.{sorts_in, count_known, renames_from, opened_hypotheses, opened_sequent, EntriesAreTakenOff}
use Rattle.proof_kernel.specs.Sequent.{Sequent}

pub zip_none : (names : List Name) (ss : List Ty) → ss ≡ [] → zip names ss ≡ []
zip_none [] ss e = refl
zip_none (x ∷ xs) [] e = refl
zip_none (x ∷ xs) (s ∷ ss) e = absurd (cc)

zip_more : (names : List Name) (ss : List Ty) (t : Ty) (d : Name) → length ss < length names → zip names (ss ++ t ∷ []) ≡ zip names ss ++ (get_or names (length ss) d, t) ∷ []
zip_more [] ss t d l = absurd (omega arith)
zip_more (x ∷ xs) [] t d l = ap (λ ps. (x, t) ∷ ps) (zip_none xs [] refl)
zip_more (x ∷ xs) (s ∷ ss) t d l = ap (λ ps. (x, s) ∷ ps) (zip_more xs ss t d (omega arith))

pub sorts_length : (es : List Entry) → length (sorts_in es) ≡ count_variables es
sorts_length [] = refl
sorts_length (Variable x s ∷ es) = length-append (sorts_in es) (s ∷ []) ∙ add-one (length (sorts_in es)) ∙ ap suc (sorts_length es)
sorts_length (Known a ∷ es) = sorts_length es

renames_more : (i n m : ℕ) (names : List Name) (d : Name) → m ≡ i + n → n < length names → renames_from i n names ++ record { from = record { 0 = m }; to = get_or names n d } ∷ [] ≡ renames_from i (suc n) names
renames_more i n m [] d e l = absurd (omega arith)
renames_more i zero m (x ∷ xs) d e l = let same : m ≡ i = omega (arith, e) in ap (λ k. record { from = record { 0 = k }; to = x } ∷ []) same
renames_more i (suc n) m (x ∷ xs) d e l = ap (λ rs. record { from = record { 0 = i }; to = x } ∷ rs) (renames_more (suc i) n m xs d (omega (arith, e)) (omega arith))

abbrev with_variables : ℕ → List Name → List Entry → Term → List (Name × Ty) → Sequent
with_variables s names es goal vs = record { vars = vs; hyps = opened_hypotheses s names es; goal = goal }

pub entries_taken : EntriesAreTakenOff
entries_taken s names [] φ goal l = ap (λ vs. taken s 1 names [] φ (record { vars = vs; hyps = []; goal = goal })) (sym (zip_none names [] refl))
entries_taken s names (Known a ∷ es) φ goal l = entries_taken s names es (implies (numbered_term es a) φ) goal l
entries_taken s names (Variable y t ∷ es) φ goal l =
    let c : ℕ = count_variables es in
    let d : Name = record { 0 = 0 } in
    let x : Name = get_or names c d in
    let below : c < length names = omega arith in
    let here : drop c names ≡ x ∷ drop (suc c) names = drop-cons names c d below in
    let sorts : length (sorts_in es) < length names = omega (arith, sorts_length es) in
    let vars : zip names (sorts_in es) ++ (x, t) ∷ [] ≡ zip names (sorts_in es ++ t ∷ []) =
    ap (λ k. zip names (sorts_in es) ++ (get_or names k d, t) ∷ []) (sym (sorts_length es)) ∙ sym (zip_more names (sorts_in es) t d sorts) in
    entries_taken s names es (forall (record { 0 = c }) t φ) goal (omega arith)
    ∙ ap (λ ns. taken s (suc (count_known es)) ns (renames_from 0 c names) (forall (record { 0 = c }) t φ) (opened_sequent s names es goal)) here
    ∙ ap₂ (λ rs vs. taken s (suc (count_known es)) (drop (suc c) names) rs φ (with_variables s names es goal vs)) (renames_more 0 c c names d (omega arith) below) vars
