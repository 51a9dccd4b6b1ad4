-- Where taking off starts.
use Rattle.std.proofs.Common.{◌≡◌, ℕ, ◌+◌, ◌≤◌, List, [], ◌++◌, length, drop, reverse, sym, ◌∙◌, ap, ap₂, add-one, append-nil, arith}
use Rattle.std.specs.Prelude.{zip, Result, Ok, Err, IfOk}
use Rattle.std.proofs.lemmas.List.{length-reverse}
use Rattle.text_core.specs.declared.name.Name.{Name}
use Rattle.text_core.specs.declared.fault.NoMemory.{NoMemory}
use Rattle.logic_term.specs.declared.context.Entry.{Entry}
use Rattle.logic_term.specs.declared.kinds.Label2.{Label2}
use Rattle.logic_term.specs.declared.subst.Renaming.{Renaming}
use Rattle.logic_term.specs.Context.{count_variables, IsOpened}
use Rattle.logic_term.specs.Term.{Term}
use Rattle.logic_term.specs.Ty.{Ty}
use Rattle.proof_kernel.specs.declared.intro.Start.{Start}
use Rattle.proof_kernel.specs.Intro.{taken, TakesOn, IsAbove}
use Rattle.proof_kernel.specs.Opened.{assuming_opened, count_known, opened_hypotheses, opened_sequent, opened_variables, renames_from, sorts_in}
use Rattle.proof_kernel.specs.Rules.{free_in_hyps}
use Rattle.proof_kernel.specs.Sequent.{Sequent}
use Rattle.proof_kernel.proofs.IntroLaw.{not_free_above}
use Rattle.proof_kernel.proofs.OpenedTaken.{entries_taken, sorts_length, zip_none}
use Rattle.proof_kernel.proofs.Taken.{sequent}

-- ---- the variables

same_sequent : {us vs : List (Name × Ty)} {gs hs : List (Label2 × Term)} {a b : Term} → us ≡ vs → gs ≡ hs → a ≡ b → sequent us gs a ≡ sequent vs hs b
same_sequent e f g = λ i. sequent (e i) (f i) (g i)

pub all_variables : (names : List Name) (used : ℕ) (q all : Sequent) (ss ts : List Ty) → ts ≡ [] → q.vars ++ zip names (reverse ss) ≡ all.vars ++ zip (drop used names) (reverse ts) → all.hyps ≡ q.hyps → all.goal ≡ q.goal
    → all ≡ record { vars = q.vars ++ zip names (reverse ss); hyps = q.hyps; goal = q.goal }
all_variables names used q all ss ts e vars hyps goal =
    let ended : all.vars ++ zip (drop used names) (reverse ts) ≡ all.vars = ap (λ ps. all.vars ++ ps) (zip_none (drop used names) (reverse ts) (ap reverse e)) ∙ append-nil all.vars in
    same_sequent (sym (vars ∙ ended)) hyps goal

pub sorts_fit : (es : List Entry) (ss : List Ty) (n : ℕ) → reverse ss ≡ sorts_in es → count_variables es ≤ n → length ss ≤ n
sorts_fit es ss n e l = let same : length ss ≡ count_variables es = sym (length-reverse ss) ∙ ap length e ∙ sorts_length es in omega (arith, same, l)

-- ---- the start

-- from the formula of an obligation
pub takes_opened : (s : ℕ) (names : List Name) (first : Sequent) (es : List Entry) (used k : ℕ) (bound : List Renaming) (φ t : Term) (q : Sequent)
    → first.vars ≡ [] → first.hyps ≡ [] → IsOpened first.goal es φ → count_variables es ≤ length names
    → t ≡ φ → q ≡ assuming_opened (record { vars = first.vars ++ opened_variables names es; hyps = first.hyps; goal = first.goal }) s names es
    → bound ≡ renames_from 0 (count_variables es) names → k ≡ count_known es + 1 → used ≡ count_variables es → TakesOn s names first used k bound t q
takes_opened s names first es used k bound φ t q no_vars no_hyps opened enough is same bounds parts uses = record {
  within = omega (arith, uses, enough);
  same = all;
}
  where
    bare : first ≡ record { vars = []; hyps = []; goal = first.goal }
    bare = λ i. record { vars = no_vars i; hyps = no_hyps i; goal = first.goal }

    whole : q ≡ opened_sequent s names es first.goal
    whole = same ∙ ap₂ (λ vs hs. record { vars = vs ++ opened_variables names es; hyps = hs ++ opened_hypotheses s names es; goal = first.goal }) no_vars no_hyps

    all : taken s 1 names [] first.goal first ≡ taken s k (drop used names) bound t q
    all =
        ap₂ (λ g n. taken s 1 names [] g n) opened.is bare
        ∙ entries_taken s names es φ first.goal enough
        ∙ ap₂ (λ j us. taken s j (drop us names) (renames_from 0 (count_variables es) names) φ (opened_sequent s names es first.goal)) (sym (parts ∙ add-one (count_known es))) (sym uses)
        ∙ ap₂ (λ bs n. taken s k (drop used names) bs φ n) (sym bounds) (sym whole)
        ∙ ap (λ g. taken s k (drop used names) bound g q) (sym is)

-- a goal without free names, with nothing before it
pub above_all : (n : ℕ) (first : Sequent) (es : List Entry) (φ : Term) → first.hyps ≡ [] → IsOpened first.goal es φ → IsAbove n first
above_all n first es φ no_hyps opened = λ x l. (ap (free_in_hyps x) no_hyps, not_free_above x first.goal (omega (arith, opened.no_free)))

-- the same, where memory may have been refused
pub starts_opened : (s : ℕ) (names : List Name) (first : Sequent) (es : List Entry) (φ : Term) (r : Result Start NoMemory)
    → first.vars ≡ [] → first.hyps ≡ [] → IsOpened first.goal es φ → count_variables es ≤ length names
    → IfOk r (λ at. at.formula ≡ φ)
    → IfOk r (λ at. at.left.q ≡ assuming_opened (record { vars = first.vars ++ opened_variables names es; hyps = first.hyps; goal = first.goal }) s names es)
    → IfOk r (λ at. at.left.bound.items ≡ renames_from 0 (count_variables es) names) → IfOk r (λ at. at.left.part ≡ count_known es + 1) → IfOk r (λ at. at.used ≡ count_variables es)
    → IfOk r (λ at. TakesOn s names first at.used at.left.part at.left.bound.items at.formula at.left.q)
starts_opened s names first es φ (Err e) no_vars no_hyps opened enough is same bounds parts uses = is
starts_opened s names first es φ (Ok at) no_vars no_hyps opened enough is same bounds parts uses =
    takes_opened s names first es at.used at.left.part at.left.bound.items φ at.formula at.left.q no_vars no_hyps opened enough is same bounds parts uses

pub starts_above : (first : Sequent) (es : List Entry) (φ : Term) (r : Result Start NoMemory) → first.hyps ≡ [] → IsOpened first.goal es φ → IfOk r (λ at. at.formula ≡ φ) → IfOk r (λ at. IsAbove at.above first)
starts_above first es φ (Err e) no_hyps opened h = h
starts_above first es φ (Ok at) no_hyps opened h = above_all at.above first es φ no_hyps opened
