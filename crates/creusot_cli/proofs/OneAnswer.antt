-- Of one verb, source and proofs there is one answer.
use Rattle.std.proofs.Common.{◌≡◌, ◌∙◌, refl, sym, ap, subst, ℕ, ◌≤◌, List, [], ◌++◌, length, Option, Some, None}
use Rattle.text_core.specs.declared.refusal.Limit.{Limit}
use Rattle.text_core.specs.declared.refusal.SourceError.{SourceError}
use Rattle.text_core.specs.Names.{words, HaveOnePlace}
use Rattle.name_tables.specs.NameTables.{with_names}
use Rattle.proof_text.specs.declared.proof.Proof.{Proof}
use Rattle.proof_text.specs.declared.proof.ProofFile.{ProofFile}
use Rattle.proof_text.specs.ProofFileForm.{IsFirstBadLine}
use Rattle.proof_text.proofs.FormLaw.{one_reading, spelled_once}
use Rattle.report_out.specs.Report.{report_of, source_error_line, proof_error_line, limit_line}
use Rattle.call_words.specs.declared.request.Verb.{Verb}
use Rattle.call_words.specs.declared.request.Verb.TheVariants.{Verify, List as Listing}
use Rattle.verify_core.specs.declared.program.Program.{Program}
use Rattle.verify_core.specs.Prepared.{IsPrepared, IsRefused, IsPastLimit, most_bytes}
use Rattle.verify_core.specs.Verdict.{IsVerdict}
use Rattle.verify_core.proofs.NameCounts.{one_place_of_names}
use Rattle.verify_core.proofs.OneAnswer.{one_refusal, refused_not_past, one_limit, prepared_not_past, prepared_not_refused, one_program}
use Rattle.verify_core.proofs.OneVerdict.{verdict_once}
use Rattle.creusot_cli.specs.Answer.{Fetched, whole, longer, source_limit, proofs_limit, IsProgramOf, RefusesFetched, AreProofs, AnswersVerify, AnswersList, DoesVerb, AnswersOn, AnswersAreOne, status_of}

abbrev pub Same : ℕ → List ℕ → ℕ → List ℕ → Type 0
Same s xs t ys = (s ≡ t) × (xs ≡ ys)

-- ---- what was read

one_whole : (f : Fetched) (xs ys : List ℕ) → f ≡ whole xs → f ≡ whole ys → xs ≡ ys
one_whole f xs ys h g = cc

one_length : (f : Fetched) (m n : ℕ) → f ≡ longer m → f ≡ longer n → m ≡ n
one_length f m n h g = cc

not_both : (f : Fetched) (n : ℕ) (xs : List ℕ) → f ≡ longer n → f ≡ whole xs → ⊥
not_both f n xs h g = cc

-- ---- one file of proofs

long_not_read : (table : List (List ℕ)) (o : Option Fetched) (n : ℕ) (given : List Proof) → o ≡ Some (longer n) → AreProofs table o given → ⊥
long_not_read table _ n _ e AreProofs.absent = cc
long_not_read table _ n _ e (AreProofs.given bytes short spelled) = cc

bad_not_read : (table : List (List ℕ)) (o : Option Fetched) (bytes : List ℕ) (line : ℕ) (given : List Proof) → o ≡ Some (whole bytes) → IsFirstBadLine bytes line → AreProofs table o given → ⊥
bad_not_read table _ bytes line _ e bad AreProofs.absent = cc
bad_not_read table _ bytes line _ e bad (AreProofs.given {file} other short spelled) =
    let same : bytes ≡ other = cc in
    one_reading.not_both (with_names table spelled.0) other file.proofs line spelled.2 (subst (λ (x : List ℕ). IsFirstBadLine x line) same bad)

same_proofs : (table : List (List ℕ)) (o : Option Fetched) (one other : List Proof) → HaveOnePlace (words ++ table) → AreProofs table o one → AreProofs table o other → one ≡ other
same_proofs table None _ _ place AreProofs.absent AreProofs.absent = refl
same_proofs table (Some (longer n)) _ _ place are _ = elim are [ ]
same_proofs table (Some (whole bytes)) _ _ place (AreProofs.given {file} _ short spelled) (AreProofs.given {file = file₂} _ short₂ spelled₂) =
    ap (λ (x : ProofFile). x.proofs) (spelled_once table bytes file file₂ place spelled spelled₂)

module _ (source : List ℕ) (p : Program) (proofs : Option Fetched) (place : HaveOnePlace (words ++ p.names)) where
  one_of_proofs : {s t : ℕ} {xs ys : List ℕ} → AnswersVerify source p proofs s xs → AnswersVerify source p proofs t ys → Same s xs t ys
  one_of_proofs (AnswersVerify.proofs_long {n = m} e far) (AnswersVerify.proofs_long {n} g beyond) =
      let same : m ≡ n = cc in
      (refl, ap (λ (k : ℕ). limit_line (proofs_limit k)) same)
  one_of_proofs (AnswersVerify.proofs_long e far) (AnswersVerify.proofs_refused bytes g short bad) = absurd cc
  one_of_proofs (AnswersVerify.proofs_long {n} e far) (AnswersVerify.reported given are is) = absurd (long_not_read p.names proofs n given e are)
  one_of_proofs (AnswersVerify.proofs_refused bytes e short bad) (AnswersVerify.proofs_long g far) = absurd cc
  one_of_proofs (AnswersVerify.proofs_refused {line = m} bytes e short bad) (AnswersVerify.proofs_refused {line = n} other g short₂ bad₂) =
      let same : bytes ≡ other = cc in
      (refl, ap proof_error_line (one_reading.one_line other m n (subst (λ (x : List ℕ). IsFirstBadLine x m) same bad) bad₂))
  one_of_proofs (AnswersVerify.proofs_refused {line} bytes e short bad) (AnswersVerify.reported given are is) = absurd (bad_not_read p.names proofs bytes line given e bad are)
  one_of_proofs (AnswersVerify.reported given are is) (AnswersVerify.proofs_long {n} g far) = absurd (long_not_read p.names proofs n given g are)
  one_of_proofs (AnswersVerify.reported given are is) (AnswersVerify.proofs_refused {line} bytes g short bad) = absurd (bad_not_read p.names proofs bytes line given g bad are)
  one_of_proofs (AnswersVerify.reported {v = one} given are is) (AnswersVerify.reported {v = other} given₂ are₂ is₂) =
      let e = same_proofs p.names proofs given given₂ place are are₂ in
      let same : one ≡ other = verdict_once given₂ p one other (subst (λ (x : List Proof). IsVerdict x p one) e is) is₂ in
      (ap status_of same, ap (report_of source) same)

one_of_list : (bytes : List ℕ) (p : Program) {s t : ℕ} {xs ys : List ℕ} → AnswersList bytes p s xs → AnswersList bytes p t ys → Same s xs t ys
one_of_list bytes p AnswersList.listed AnswersList.listed = (refl, refl)

-- by verb
one_of_verb : (v : Verb) (bytes : List ℕ) (p : Program) (proofs : Option Fetched) {s t : ℕ} {xs ys : List ℕ} → HaveOnePlace (words ++ p.names) → DoesVerb v bytes p proofs s xs → DoesVerb v bytes p proofs t ys → Same s xs t ys
one_of_verb Verify bytes p proofs place h g = one_of_proofs bytes p proofs place h g
one_of_verb Listing bytes p proofs place h g = one_of_list bytes p h g

-- ---- one source

-- what is found of a source
data Found : Type 0 where
  too_long : ℕ → Found
  refused : List ℕ → SourceError → Found
  past : List ℕ → Limit → Found
  accepted : List ℕ → Program → Found

module _ (verb : Verb) (source : Fetched) (proofs : Option Fetched) where
  abbrev Finds : Found → Type 0
  Finds (too_long n) = source ≡ longer n
  Finds (refused bytes error) = (source ≡ whole bytes) × (length bytes ≤ most_bytes) × IsRefused bytes error
  Finds (past bytes limit) = (source ≡ whole bytes) × (length bytes ≤ most_bytes) × IsPastLimit bytes limit
  Finds (accepted bytes p) = IsProgramOf source bytes p

  abbrev Answering : Found → ℕ → List ℕ → Type 0
  Answering (too_long n) s xs = Same s xs 7 (limit_line (source_limit n))
  Answering (refused bytes error) s xs = Same s xs 3 (source_error_line bytes error)
  Answering (past bytes limit) s xs = Same s xs 7 (limit_line limit)
  Answering (accepted bytes p) s xs = DoesVerb verb bytes p proofs s xs

  parted : {s : ℕ} {xs : List ℕ} → AnswersOn verb source proofs s xs → (f : Found) × Finds f × Answering f s xs
  parted (AnswersOn.by_source (RefusesFetched.source_long {n} e far)) = (too_long n, e, (refl, refl))
  parted (AnswersOn.by_source (RefusesFetched.source_refused {bytes} {error} e short is)) = (refused bytes error, (e, short, is), (refl, refl))
  parted (AnswersOn.by_source (RefusesFetched.limit_passed {bytes} {limit} e short is)) = (past bytes limit, (e, short, is), (refl, refl))
  parted (AnswersOn.by_verb bytes p is does) = (accepted bytes p, is, does)

  same_found : (f g : Found) → Finds f → Finds g → f ≡ g
  same_found (too_long m) (too_long n) h g = ap too_long (one_length source m n h g)
  same_found (too_long m) (refused bytes error) h g = absurd (not_both source m bytes h g.0)
  same_found (too_long m) (past bytes limit) h g = absurd (not_both source m bytes h g.0)
  same_found (too_long m) (accepted bytes p) h g = absurd (not_both source m bytes h g.is_whole)
  same_found (refused bytes error) (too_long n) h g = absurd (not_both source n bytes g h.0)
  same_found (refused bytes error) (refused other wrong) h g =
      let e = one_whole source bytes other h.0 g.0 in
      ap (λ (x : List ℕ). refused x error) e ∙ ap (refused other) (one_refusal other error wrong (subst (λ (x : List ℕ). IsRefused x error) e h.2) g.2)
  same_found (refused bytes error) (past other limit) h g =
      let e = one_whole source bytes other h.0 g.0 in
      absurd (refused_not_past other g.1 error limit (subst (λ (x : List ℕ). IsRefused x error) e h.2) g.2)
  same_found (refused bytes error) (accepted other p) h g =
      let e = one_whole source bytes other h.0 g.is_whole in
      absurd (prepared_not_refused other p error g.prepared (subst (λ (x : List ℕ). IsRefused x error) e h.2))
  same_found (past bytes limit) (too_long n) h g = absurd (not_both source n bytes g h.0)
  same_found (past bytes limit) (refused other wrong) h g =
      let e = one_whole source bytes other h.0 g.0 in
      absurd (refused_not_past other g.1 wrong limit g.2 (subst (λ (x : List ℕ). IsPastLimit x limit) e h.2))
  same_found (past bytes limit) (past other bound) h g =
      let e = one_whole source bytes other h.0 g.0 in
      ap (λ (x : List ℕ). past x limit) e ∙ ap (past other) (one_limit other g.1 limit bound (subst (λ (x : List ℕ). IsPastLimit x limit) e h.2) g.2)
  same_found (past bytes limit) (accepted other p) h g =
      let e = one_whole source bytes other h.0 g.is_whole in
      absurd (prepared_not_past other g.short p limit g.prepared (subst (λ (x : List ℕ). IsPastLimit x limit) e h.2))
  same_found (accepted bytes p) (too_long n) h g = absurd (not_both source n bytes g h.is_whole)
  same_found (accepted bytes p) (refused other wrong) h g =
      let e = one_whole source bytes other h.is_whole g.0 in
      absurd (prepared_not_refused other p wrong (subst (λ (x : List ℕ). IsPrepared x p) e h.prepared) g.2)
  same_found (accepted bytes p) (past other limit) h g =
      let e = one_whole source bytes other h.is_whole g.0 in
      absurd (prepared_not_past other g.1 p limit (subst (λ (x : List ℕ). IsPrepared x p) e h.prepared) g.2)
  same_found (accepted bytes p) (accepted other q) h g =
      let e = one_whole source bytes other h.is_whole g.is_whole in
      ap (λ (x : List ℕ). accepted x p) e ∙ ap (accepted other) (one_program other p q (subst (λ (x : List ℕ). IsPrepared x p) e h.prepared) g.prepared)

  -- ---- one answer

  of_one_found : (f : Found) {s t : ℕ} {xs ys : List ℕ} → Finds f → Answering f s xs → Answering f t ys → Same s xs t ys
  of_one_found (too_long n) is h g = (h.0 ∙ sym g.0, h.1 ∙ sym g.1)
  of_one_found (refused bytes error) is h g = (h.0 ∙ sym g.0, h.1 ∙ sym g.1)
  of_one_found (past bytes limit) is h g = (h.0 ∙ sym g.0, h.1 ∙ sym g.1)
  of_one_found (accepted bytes p) is h g = one_of_verb verb bytes p proofs (one_place_of_names bytes p is.prepared) h g

  one_answer : {s t : ℕ} {xs ys : List ℕ} → AnswersOn verb source proofs s xs → AnswersOn verb source proofs t ys → Same s xs t ys
  one_answer {s} {t} {xs} {ys} h g =
      let f = parted h in
      let k = parted g in
      let e : f.0 ≡ k.0 = same_found f.0 k.0 f.1 k.1 in
      of_one_found k.0 k.1 (subst (λ (x : Found). Answering x s xs) e f.2) k.2

pub answers_are_one : AnswersAreOne
answers_are_one verb source proofs s t xs ys h g = one_answer verb source proofs h g
