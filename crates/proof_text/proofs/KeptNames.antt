-- What is spelled under a table of names is spelled under each that grew from it; and the texts that it grew by have names there.
use Rattle.std.proofs.Common.{◌≡◌, ℕ, zero, suc, Bool, true, false, ◌||◌, List, [], ◌∷◌, ◌++◌, length, slice_get, Some, refl, sym, ◌∙◌, ap, subst, append_assoc, arith, true≢false}
use Rattle.std.specs.List.{list_any}
use Rattle.std.specs.Str.{bytes_eq}
use Rattle.std.proofs.lemmas.List.{append-nil}
use Rattle.std.proofs.lemmas.Slice.Eq.{bytes_eq-Decides}
use Rattle.text_core.specs.Names.{words}
use Rattle.text_core.specs.declared.name.Name.{Name}
use Rattle.text_core.proofs.NamesLemmas.{slice_get-append_left, slice_get-append_right}
use Rattle.name_tables.specs.NameTables.{is_named, with_name, with_names}
use Rattle.name_tables.proofs.Tables.{same_where_named, longer_where_unnamed}
use Rattle.proof_text.specs.declared.proof.NumberedStep.{NumberedStep}
use Rattle.proof_text.specs.declared.proof.Proof.{Proof}
use Rattle.proof_text.specs.declared.reader.Stage.{Stage}
use Rattle.proof_text.specs.declared.reader.Stage.TheVariants as stages
use Rattle.proof_text.specs.ProofTextLines.{text_at}
use Rattle.proof_text.specs.ProofTextFile.{StepText, ProofText, IsStepOf, IsProofOf, State, start, between, within}
use Rattle.proof_text.specs.ProofTextReads.{IsStageOf}
use Rattle.proof_text.proofs.TermLists.{each_map}
use Rattle.proof_text.proofs.StepLaw.{KeepsTexts, AreNamed, kept_step}

-- ---- tables that grow

one_longer : (given : List (List ℕ)) (text : List ℕ) (b : Bool) → is_named given text ≡ b → (more : List (List ℕ)) × (with_name given text ≡ given ++ more)
one_longer given text true e = ([], same_where_named given text e ∙ sym (append-nil given))
one_longer given text false e = (text ∷ [], longer_where_unnamed given text e)

longer : (given texts : List (List ℕ)) → (more : List (List ℕ)) × (with_names given texts ≡ given ++ more)
longer given [] = ([], sym (append-nil given))
longer given (text ∷ texts) =
    let first = one_longer given text (is_named given text) refl in
    let rest = longer (with_name given text) texts in
    (first.0 ++ rest.0, rest.1 ∙ (ap (λ l. l ++ rest.0) first.1 ∙ append_assoc given first.0 rest.0))

pub grown_keeps : (given texts : List (List ℕ)) → KeepsTexts given (with_names given texts)
grown_keeps given texts k text h =
    let more = longer given texts in
    ap (λ (ts : List (List ℕ)). slice_get (words ++ ts) k) more.1
    ∙ (ap (λ (ts : List (List ℕ)). slice_get ts k) (sym (append_assoc words given more.0)) ∙ slice_get-append_left (words ++ given) more.0 k text h)

pub keeps_by : (old new texts : List (List ℕ)) → new ≡ with_names old texts → KeepsTexts old new
keeps_by old new texts e = subst (KeepsTexts old) (sym e) (grown_keeps old texts)

rest_any : (a b : Bool) → (a || b) ≡ true → a ≡ false → b ≡ true
rest_any true b h e = absurd (true≢false e)
rest_any false b h e = h

place_by : (t u : List ℕ) (ts : List (List ℕ)) (b : Bool) → bytes_eq t u ≡ b → (b ≡ false → (k : ℕ) × (slice_get ts k ≡ Some t)) → (k : ℕ) × (slice_get (u ∷ ts) k ≡ Some t)
place_by t u ts true e rest = (zero, ap Some (sym ((bytes_eq-Decides t u).0 e)))
place_by t u ts false e rest = let p = rest refl in (suc p.0, p.1)

place_in : (t : List ℕ) (ts : List (List ℕ)) → list_any (bytes_eq t) ts ≡ true → (k : ℕ) × (slice_get ts k ≡ Some t)
place_in t [] h = absurd (true≢false (sym h))
place_in t (u ∷ ts) h = place_by t u ts (bytes_eq t u) refl (λ e. place_in t ts (rest_any (bytes_eq t u) (list_any (bytes_eq t) ts) h e))

place_of : (given : List (List ℕ)) (text : List ℕ) (b : Bool) → is_named given text ≡ b → (k : ℕ) × (slice_get (words ++ with_name given text) k ≡ Some text)
place_of given text true e =
    let p = place_in text (words ++ given) e in
    (p.0, ap (λ (ts : List (List ℕ)). slice_get (words ++ ts) p.0) (same_where_named given text e) ∙ p.1)
place_of given text false e =
    let whole : words ++ with_name given text ≡ (words ++ given) ++ text ∷ [] = ap (λ (ts : List (List ℕ)). words ++ ts) (longer_where_unnamed given text e) ∙ sym (append_assoc words given (text ∷ [])) in
    (length (words ++ given), ap (λ (ts : List (List ℕ)). slice_get ts (length (words ++ given))) whole ∙ slice_get-append_right (words ++ given) (text ∷ []) 0 (length (words ++ given)) (omega arith))

pub each_named : (given texts : List (List ℕ)) → AreNamed (with_names given texts) texts
each_named given [] = tt
each_named given (text ∷ texts) =
    let p = place_of given text (is_named given text) refl in
    let name : Name = record { 0 = p.0 } in
    let there : text_at (with_names (with_name given text) texts) name ≡ Some text = grown_keeps (with_name given text) texts p.0 text p.1 in
    ((name, there), each_named (with_name given text) texts)

-- ---- what is said stays said

module _ (old new : List (List ℕ)) (keeps : KeepsTexts old new) where
  kept_one : (x : StepText) (y : NumberedStep) → IsStepOf old x y → IsStepOf new x y
  kept_one x y h = (h.0, kept_step old new keeps x.text y.step h.1)

  kept_proof : (x : ProofText) (y : Proof) → IsProofOf old x y → IsProofOf new x y
  kept_proof x y h = (h.0, h.1, h.2, each_map (IsStepOf old) (IsStepOf new) kept_one x.steps y.steps h.3)

  pub kept_state : (s : State) (stage : Stage) → IsStageOf old s stage → IsStageOf new s stage
  kept_state start stages.Start h = h
  kept_state (between ps) (stages.Between done) h = each_map (IsProofOf old) (IsProofOf new) kept_proof ps done h
  kept_state (within ps n o ss) (stages.Within done opened) h =
      (each_map (IsProofOf old) (IsProofOf new) kept_proof ps done h.0, h.1, h.2, each_map (IsStepOf old) (IsStepOf new) kept_one ss opened.steps.items h.3)
  kept_state _ _ h = absurd h
