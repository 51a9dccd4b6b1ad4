-- What is true of the format.
use Rattle.std.specs.Prelude.{◌≡◌, ◌⊎◌, ℕ, List, ◌++◌, map}
use Rattle.text_core.specs.Names.{words, HaveOnePlace}
use Rattle.proof_kernel.specs.declared.step.Step.{Step}
use Rattle.proof_kernel.specs.declared.step.Step.TheVariants.{Intro, Hyp, Split, Lin, OnGoal, OnHypothesis, OnTwo, Rewrite, Decide, OnTerm, Divide, Instantiate, Unpack, ByVariants, Induct}
use Rattle.source_trees.specs.Pterm.{Pterm}
use Rattle.proof_text.specs.declared.proof.NumberedStep.{NumberedStep}
use Rattle.proof_text.specs.declared.proof.Proof.{Proof}
use Rattle.proof_text.specs.declared.proof.ProofFile.{ProofFile}
use Rattle.term_texts.specs.TermTexts.{SpellsWholeTerm}
use Rattle.proof_text.specs.ProofTextWords.{Each}
use Rattle.proof_text.specs.ProofTextLines.{text_at}
use Rattle.proof_text.specs.ProofFileForm.{IsFileOf, SpellsProofs, IsFirstBadLine}

-- ---- the same proofs, each under a table of its own

-- the steps are the same, and name the same texts
abbrev pub AlikeStep : List (List ℕ) → List (List ℕ) → Step → Step → Type 0
AlikeStep table other (Intro ms) (Intro ns) = map (text_at table) ms ≡ map (text_at other) ns
AlikeStep table other (Hyp l) (Hyp m) = l ≡ m
AlikeStep table other Split Split = Unit {0}
AlikeStep table other (Lin ms) (Lin ns) = ms ≡ ns
AlikeStep table other (OnGoal r) (OnGoal s) = r ≡ s
AlikeStep table other (OnHypothesis r l) (OnHypothesis s m) = (r ≡ s) × (l ≡ m)
AlikeStep table other (OnTwo r k l) (OnTwo s m n) = (r ≡ s) × (k ≡ m) × (l ≡ n)
AlikeStep table other (Rewrite r) (Rewrite s) = r ≡ s
AlikeStep table other (Decide l to) (Decide m goal) = (l ≡ m) × (to ≡ goal)
AlikeStep table other (OnTerm r t) (OnTerm s u) = (r ≡ s) × ((text : List ℕ) × SpellsWholeTerm table text t × SpellsWholeTerm other text u)
AlikeStep table other (Divide t u) (Divide v w) =
    ((text : List ℕ) × SpellsWholeTerm table text t × SpellsWholeTerm other text v) × ((text : List ℕ) × SpellsWholeTerm table text u × SpellsWholeTerm other text w)
AlikeStep table other (Instantiate l ts) (Instantiate m us) = (l ≡ m) × Each (λ (t u : Pterm). (text : List ℕ) × SpellsWholeTerm table text t × SpellsWholeTerm other text u) ts us
AlikeStep table other (Unpack l x) (Unpack m y) = (l ≡ m) × (text_at table x ≡ text_at other y)
AlikeStep table other (ByVariants t ms) (ByVariants u ns) =
    ((text : List ℕ) × SpellsWholeTerm table text t × SpellsWholeTerm other text u) × (map (map (text_at table)) ms ≡ map (map (text_at other)) ns)
AlikeStep table other (Induct x ms) (Induct y ns) = (text_at table x ≡ text_at other y) × (map (map (text_at table)) ms ≡ map (map (text_at other)) ns)
AlikeStep table other _ _ = ⊥

abbrev pub AlikeProof : List (List ℕ) → List (List ℕ) → Proof → Proof → Type 0
AlikeProof table other p q =
    (p.number ≡ q.number) × (p.owner ≡ q.owner) × (p.«end» ≡ q.«end») × Each (λ (s t : NumberedStep). (s.line ≡ t.line) × AlikeStep table other s.step t.step) p.steps q.steps

-- ---- the laws

-- from each table a text spells a file, or it has a first bad line, and never both; that line is one, and so are the proofs, but for the
-- tables that name their texts
pub record HasOneReading : Type 0 where
  pub either : (old : List (List ℕ)) (bytes : List ℕ) → ((file : ProofFile) × SpellsProofs old bytes file) ⊎ ((n : ℕ) × IsFirstBadLine bytes n)
  pub not_both : (table : List (List ℕ)) (bytes : List ℕ) (proofs : List Proof) (n : ℕ) → IsFileOf table bytes proofs → IsFirstBadLine bytes n → ⊥
  pub one_line : (bytes : List ℕ) (m n : ℕ) → IsFirstBadLine bytes m → IsFirstBadLine bytes n → m ≡ n
  pub alike : (table other : List (List ℕ)) (bytes : List ℕ) (ps qs : List Proof) → IsFileOf table bytes ps → IsFileOf other bytes qs → Each (AlikeProof table other) ps qs

-- from a table in which no text stands twice, a text spells one file
abbrev pub IsSpelledOnce : Type 0
IsSpelledOnce = (old : List (List ℕ)) (bytes : List ℕ) (one other : ProofFile) → HaveOnePlace (words ++ old) → SpellsProofs old bytes one → SpellsProofs old bytes other → one ≡ other
