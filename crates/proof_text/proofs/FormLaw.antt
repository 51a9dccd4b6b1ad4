-- A text has one reading.
use Rattle.std.proofs.Common.{◌≡◌, ℕ, List, [], ◌∷◌, ◌++◌, Result, Ok, Err, ◌⊎◌, inl, inr, refl, sym, ◌∙◌, ap, subst}
use Rattle.std.specs.Prelude.{IfOk, OnOk, IsOk, ◌==◌}
use Rattle.std.specs.List.{slice_split}
use Rattle.text_core.specs.Names.{words, HaveOnePlace}
use Rattle.name_tables.specs.NameTables.{with_names}
use Rattle.name_tables.proofs.Tables.{one_place_each}
use Rattle.proof_text.specs.declared.fault.ProofTextError.{ProofTextError}
use Rattle.proof_text.specs.declared.fault.ProofTextError.TheVariants as errors
use Rattle.proof_text.specs.declared.proof.NumberedStep.{NumberedStep}
use Rattle.proof_text.specs.declared.proof.Proof.{Proof}
use Rattle.proof_text.specs.declared.proof.ProofFile.{ProofFile}
use Rattle.proof_text.specs.ProofTextWords.{Each}
use Rattle.proof_text.specs.ProofFileForm.{IsFileOf, SpellsProofs, HasNamesOf, IsFirstBadLine}
use Rattle.proof_text.specs.ProofTextFile.{StepText, ProofText, IsStepOf, IsProofOf, proofs_of}
use Rattle.proof_text.specs.ProofTextLaws.{AlikeStep, AlikeProof, HasOneReading, IsSpelledOnce}
use Rattle.proof_text.proofs.EndLemmas.{ReadsAs}
use Rattle.proof_text.proofs.FormBytes.{file_read, read_file, file_there, bad_read, read_bad}
use Rattle.proof_text.proofs.StepLaw.{alike_step, step_once}
use Rattle.proof_text.proofs.NameOrder.{lines_name_once}

-- ---- what is read has the format

-- what was read from the old table to the new one, and the names that it was given
pub ok_form : (old new : List (List ℕ)) (bytes : List ℕ) (r : Result ProofFile ProofTextError) → IfOk r (λ file. ReadsAs new bytes file) → OnOk r (HasNamesOf old bytes new) →
    IfOk r (λ file. SpellsProofs old bytes file)
ok_form old new bytes (Ok file) h named = (named.0, named.1, subst (λ (table : List (List ℕ)). IsFileOf table bytes file.proofs) named.2 (read_file new bytes h.0 file.proofs h.1 h.2))
ok_form old new bytes (Err e) h named = tt

pub none_form : (table : List (List ℕ)) (bytes : List ℕ) (n : ℕ) (proofs : List Proof) → proofs_of bytes ≡ Err n → IsFileOf table bytes proofs → ⊥
none_form table bytes n proofs bad file =
    let read = file_read table bytes proofs file in
    let good : proofs_of bytes ≡ Ok read.0 = read.1 in
    cc

-- ---- one answer

not_both : (table : List (List ℕ)) (bytes : List ℕ) (proofs : List Proof) (n : ℕ) → IsFileOf table bytes proofs → IsFirstBadLine bytes n → ⊥
not_both table bytes proofs n f b = none_form table bytes n proofs (read_bad bytes n b) f

one_line : (bytes : List ℕ) (m n : ℕ) → IsFirstBadLine bytes m → IsFirstBadLine bytes n → m ≡ n
one_line bytes m n a b =
    let first : proofs_of bytes ≡ Err m = read_bad bytes m a in
    let second : proofs_of bytes ≡ Err n = read_bad bytes n b in
    cc

-- ---- which answer is due

pub file_due : (bytes : List ℕ) (r : Result ProofFile ProofTextError) (table : List (List ℕ)) (proofs : List Proof) → ((n : ℕ) → r ≡ Err (errors.BadLine n) → IsFirstBadLine bytes n) → IsFileOf table bytes proofs →
    IsOk r ⊎ (r ≡ Err errors.NoMemory)
file_due bytes (Ok file) table proofs bad f = inl refl
file_due bytes (Err (errors.BadLine n)) table proofs bad f = absurd (not_both table bytes proofs n f (bad n refl))
file_due bytes (Err errors.NoMemory) table proofs bad f = inr refl

pub line_due : (table : List (List ℕ)) (bytes : List ℕ) (r : Result ProofFile ProofTextError) (n : ℕ) → IfOk r (λ file. ReadsAs table bytes file) → ((m : ℕ) → r ≡ Err (errors.BadLine m) → IsFirstBadLine bytes m) →
    IsFirstBadLine bytes n → (r ≡ Err (errors.BadLine n)) ⊎ (r ≡ Err errors.NoMemory)
line_due table bytes (Ok file) n ok bad b = absurd (not_both table bytes file.proofs n (read_file table bytes ok.0 file.proofs ok.1 ok.2) b)
line_due table bytes (Err (errors.BadLine m)) n ok bad b = inl (ap (λ k. Err (errors.BadLine k)) (one_line bytes m n (bad m refl) b))
line_due table bytes (Err errors.NoMemory) n ok bad b = inr refl

-- ---- the same proofs under each table

module _ (table other : List (List ℕ)) where
  alike_steps : (said : List StepText) (ss ts : List NumberedStep) → Each (IsStepOf table) said ss → Each (IsStepOf other) said ts →
      Each (λ (s t : NumberedStep). (s.line ≡ t.line) × AlikeStep table other s.step t.step) ss ts
  alike_steps [] [] [] h k = tt
  alike_steps [] [] (t ∷ ts) h k = absurd k
  alike_steps [] (s ∷ ss) ts h k = absurd h
  alike_steps (x ∷ xs) [] ts h k = absurd h
  alike_steps (x ∷ xs) (s ∷ ss) [] h k = absurd k
  alike_steps (x ∷ xs) (s ∷ ss) (t ∷ ts) h k = ((sym h.0.0 ∙ k.0.0, alike_step table other x.text s.step t.step h.0.1 k.0.1), alike_steps xs ss ts h.1 k.1)

  alike_proof : (said : ProofText) (p q : Proof) → IsProofOf table said p → IsProofOf other said q → AlikeProof table other p q
  alike_proof said p q h k = (sym h.0 ∙ k.0, sym h.1 ∙ k.1, sym h.2 ∙ k.2, alike_steps said.steps p.steps q.steps h.3 k.3)

  alike_proofs : (said : List ProofText) (ps qs : List Proof) → Each (IsProofOf table) said ps → Each (IsProofOf other) said qs → Each (AlikeProof table other) ps qs
  alike_proofs [] [] [] h k = tt
  alike_proofs [] [] (q ∷ qs) h k = absurd k
  alike_proofs [] (p ∷ ps) qs h k = absurd h
  alike_proofs (x ∷ xs) [] qs h k = absurd h
  alike_proofs (x ∷ xs) (p ∷ ps) [] h k = absurd k
  alike_proofs (x ∷ xs) (p ∷ ps) (q ∷ qs) h k = (alike_proof x p q h.0 k.0, alike_proofs xs ps qs h.1 k.1)

same_said : (table other : List (List ℕ)) (bytes : List ℕ) (ps qs : List Proof) (f : IsFileOf table bytes ps) (g : IsFileOf other bytes qs) → (file_read other bytes qs g).0 ≡ (file_read table bytes ps f).0
same_said table other bytes ps qs f g =
    let first : proofs_of bytes ≡ Ok (file_read table bytes ps f).0 = (file_read table bytes ps f).1 in
    let second : proofs_of bytes ≡ Ok (file_read other bytes qs g).0 = (file_read other bytes qs g).1 in
    cc

alike : (table other : List (List ℕ)) (bytes : List ℕ) (ps qs : List Proof) → IsFileOf table bytes ps → IsFileOf other bytes qs → Each (AlikeProof table other) ps qs
alike table other bytes ps qs f g =
    let read = file_read table bytes ps f in
    alike_proofs table other read.0 ps qs read.2
    (subst (λ (said : List ProofText). Each (IsProofOf other) said qs) (same_said table other bytes ps qs f g) (file_read other bytes qs g).2)

-- ---- one file

module _ (table : List (List ℕ)) (place : HaveOnePlace (words ++ table)) where
  numbered_once : (said : StepText) (s t : NumberedStep) → IsStepOf table said s → IsStepOf table said t → s ≡ t
  numbered_once said s t h k =
      let line : s.line ≡ t.line = sym h.0 ∙ k.0 in
      let step : s.step ≡ t.step = step_once table place said.text s.step t.step h.1 k.1 in
      ap (λ n. record s { line = n }) line ∙ ap (λ x. record t { step = x }) step

  steps_once : (said : List StepText) (ss ts : List NumberedStep) → Each (IsStepOf table) said ss → Each (IsStepOf table) said ts → ss ≡ ts
  steps_once [] [] [] h k = refl
  steps_once [] [] (t ∷ ts) h k = absurd k
  steps_once [] (s ∷ ss) ts h k = absurd h
  steps_once (x ∷ xs) [] ts h k = absurd h
  steps_once (x ∷ xs) (s ∷ ss) [] h k = absurd k
  steps_once (x ∷ xs) (s ∷ ss) (t ∷ ts) h k =
      let here : s ≡ t = numbered_once x s t h.0 k.0 in
      let rest : ss ≡ ts = steps_once xs ss ts h.1 k.1 in
      cc

  proof_once : (said : ProofText) (p q : Proof) → IsProofOf table said p → IsProofOf table said q → p ≡ q
  proof_once said p q h k =
      let number : p.number ≡ q.number = sym h.0 ∙ k.0 in
      let owner : p.owner ≡ q.owner = sym h.1 ∙ k.1 in
      let ends : p.«end» ≡ q.«end» = sym h.2 ∙ k.2 in
      let steps : p.steps ≡ q.steps = steps_once said.steps p.steps q.steps h.3 k.3 in
      ap (λ n. record p { number = n }) number
      ∙ (ap (λ o. record p { number = q.number; owner = o }) owner
      ∙ (ap (λ s. record p { number = q.number; owner = q.owner; steps = s }) steps
      ∙ ap (λ e. record q { «end» = e }) ends))

  proofs_once : (said : List ProofText) (ps qs : List Proof) → Each (IsProofOf table) said ps → Each (IsProofOf table) said qs → ps ≡ qs
  proofs_once [] [] [] h k = refl
  proofs_once [] [] (q ∷ qs) h k = absurd k
  proofs_once [] (p ∷ ps) qs h k = absurd h
  proofs_once (x ∷ xs) [] qs h k = absurd h
  proofs_once (x ∷ xs) (p ∷ ps) [] h k = absurd k
  proofs_once (x ∷ xs) (p ∷ ps) (q ∷ qs) h k =
      let here : p ≡ q = proof_once x p q h.0 k.0 in
      let rest : ps ≡ qs = proofs_once xs ps qs h.1 k.1 in
      cc

pub spelled_once : IsSpelledOnce
spelled_once old bytes one other place a b =
    let table : List (List ℕ) = with_names old a.0 in
    let texts : b.0 ≡ a.0 = lines_name_once (slice_split (λ b. b == 10) bytes) b.0 a.0 b.1 a.1 in
    let second : IsFileOf table bytes other.proofs = subst (λ (ts : List (List ℕ)). IsFileOf (with_names old ts) bytes other.proofs) texts b.2 in
    let read = file_read table bytes one.proofs a.2 in
    let also : Each (IsProofOf table) read.0 other.proofs =
    subst (λ (said : List ProofText). Each (IsProofOf table) said other.proofs) (same_said table table bytes one.proofs other.proofs a.2 second) (file_read table bytes other.proofs second).2 in
    ap (λ ps. record one { proofs = ps }) (proofs_once table (one_place_each old a.0 place) read.0 one.proofs other.proofs read.2 also)

-- ---- one reading

reading : (old : List (List ℕ)) (bytes : List ℕ) (r : Result (List ProofText) ℕ) → proofs_of bytes ≡ r → ((file : ProofFile) × SpellsProofs old bytes file) ⊎ ((n : ℕ) × IsFirstBadLine bytes n)
reading old bytes (Ok said) e = inl (file_there old bytes said e)
reading old bytes (Err n) e = inr (n, bad_read bytes n e)

pub one_reading : HasOneReading
one_reading = record {
  either = λ old bytes. reading old bytes (proofs_of bytes) refl;
  not_both = not_both;
  one_line = one_line;
  alike = alike;
}
