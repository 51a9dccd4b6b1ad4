-- The lines of the format, read one by one.
use Rattle.std.proofs.Common.{◌≡◌, ℕ, suc, ◌+◌, ◌==◌, ◌||◌, ◌&&◌, Bool, true, false, cond, List, [], ◌∷◌, ◌++◌, length, map, codes, Option, Some, None, Ok, refl, sym, ◌∙◌, ap, subst, arith, add-zero, append_assoc}
use Rattle.std.specs.Str.{bytes_eq}
use Rattle.std.proofs.lemmas.List.{append-nil, map-append}
use Rattle.std.proofs.lemmas.Bool.Decides.{nat_tests}
use Rattle.std.proofs.lemmas.Slice.Eq.{bytes_eq-Decides}
use Rattle.proof_text.specs.ProofTextWords.{◌>>=◌, Each}
use Rattle.proof_text.specs.declared.proof.NumberedStep.{NumberedStep}
use Rattle.proof_text.specs.declared.proof.Proof.{Proof}
use Rattle.proof_text.specs.ProofFileForm.{StepLines, ProofLines, ProofsLines, key_of, IsOther, NoTwoAlike, HasForm}
use Rattle.proof_text.specs.ProofTextFile.{StepText, ProofText, IsStepOf, IsProofOf, State, start, between, within, is_proved, state_after, next_state, or_bad, and_then, state_after_all}
use Rattle.proof_text.proofs.LineLaw.{comment_passed, heading_is, end_is}
use Rattle.proof_text.proofs.StepLaw.{step_line}

-- ---- lines after others

run_then : (xs ys : List (List ℕ)) (n : ℕ) (o : Option State) →
    ((t : State) → state_after_all (xs ++ ys) t (n + 1) ≡ and_then (state_after_all xs t (n + 1)) (λ u. state_after_all ys u (n + 1 + length xs))) →
    and_then (or_bad n o) (λ t. state_after_all (xs ++ ys) t (n + 1)) ≡ and_then (and_then (or_bad n o) (λ t. state_after_all xs t (n + 1))) (λ u. state_after_all ys u (n + suc (length xs)))
run_then xs ys n None h = refl
run_then xs ys n (Some t) h =
    let e : n + 1 + length xs ≡ n + suc (length xs) = omega arith in
    h t ∙ ap (λ k. and_then (state_after_all xs t (n + 1)) (λ u. state_after_all ys u k)) e

pub run_append : (xs ys : List (List ℕ)) (s : State) (n : ℕ) → state_after_all (xs ++ ys) s n ≡ and_then (state_after_all xs s n) (λ t. state_after_all ys t (n + length xs))
run_append [] ys s n = ap (state_after_all ys s) (sym (add-zero n))
run_append (x ∷ xs) ys s n = run_then xs ys n (next_state s n x) (λ t. run_append xs ys t (n + 1))

-- ---- the format leads from state to state

abbrev pub said_at : ℕ → List ℕ → List StepText → ℕ → ProofText
said_at k o steps e = record { number = k; owner = o; steps = steps; «end» = e }

-- what the lines of steps lead to
abbrev StepsRun : List (List ℕ) → List ProofText → ℕ → List ℕ → List (List ℕ) → ℕ → List (List ℕ) → List NumberedStep → List StepText → Type 0
StepsRun table ps k o rest n texts steps done =
    (said : List StepText) × (state_after_all (texts ++ rest) (within ps k o done) n ≡ state_after_all rest (within ps k o (done ++ said)) (n + length texts)) × Each (IsStepOf table) said steps

steps_run : (table : List (List ℕ)) (ps : List ProofText) (k : ℕ) (o : List ℕ) (rest : List (List ℕ)) {n : ℕ} {texts : List (List ℕ)} {steps : List NumberedStep} (done : List StepText) →
    StepLines table n texts steps → StepsRun table ps k o rest n texts steps done
steps_run table ps k o rest {n = n} done StepLines.no_step = (
  [],
  ap (λ d. state_after_all rest (within ps k o d) n) (sym (append-nil done)) ∙ ap (state_after_all rest (within ps k o (done ++ []))) (sym (add-zero n)),
  tt,
)
steps_run table ps k o rest {n = n} done (StepLines.comment {text = text} {texts = texts} {steps = steps} e lines) =
    let s : State = within ps k o done in
    let number : n + 1 + length texts ≡ n + suc (length texts) = omega arith in
    let more = steps_run table ps k o rest done lines in (
      more.0,
      ap (λ l. and_then (or_bad n (l >>= state_after s n text)) (λ t. state_after_all (texts ++ rest) t (n + 1))) (comment_passed text e)
          ∙ (more.1 ∙ ap (state_after_all rest (within ps k o (done ++ more.0))) number),
      more.2,
    )
steps_run table ps k o rest {n = n} done (StepLines.one_step {text = text} {texts = texts} {step = step} {steps = steps} e lines) =
    let s : State = within ps k o done in
    let here : StepText = record { line = n; text = text } in
    let number : n + 1 + length texts ≡ n + suc (length texts) = omega arith in
    let more = steps_run table ps k o rest (done ++ here ∷ []) lines in (
      here ∷ more.0,
      ap (λ l. and_then (or_bad n (l >>= state_after s n text)) (λ t. state_after_all (texts ++ rest) t (n + 1))) (step_line table text step e)
          ∙ (more.1
          ∙ (ap (λ d. state_after_all rest (within ps k o d) (n + 1 + length texts)) (append_assoc done (here ∷ []) more.0)
          ∙ ap (state_after_all rest (within ps k o (done ++ here ∷ more.0))) number)),
      ((refl, e), more.2),
    )

-- ---- no two alike

differs : (a b : Bool) → ((a ≡ true) × (b ≡ true) → ⊥) → (a && b) ≡ false
differs true true h = absurd (h (refl, refl))
differs true false h = refl
differs false b h = refl

neither : (a b : Bool) → a ≡ false → b ≡ false → (a || b) ≡ false
neither a b e f = rw (e, f)

same_owner : (xs ys : List ℕ) → bytes_eq xs ys ≡ true → xs ≡ ys
same_owner xs ys e = (bytes_eq-Decides xs ys).0 e

pub owner_same : (xs : List ℕ) → bytes_eq xs xs ≡ true
owner_same xs = (bytes_eq-Decides xs xs).1 refl

others_differ : (p q : ProofText) → (((p.number ≡ q.number) × (p.owner ≡ q.owner)) → ⊥) → (p.number == q.number && bytes_eq p.owner q.owner) ≡ false
others_differ p q h =
    differs (p.number == q.number) (bytes_eq p.owner q.owner)
    (λ e. let number : p.number == q.number ≡ true = e.0 in h (grind (arith, nat_tests, number), same_owner p.owner q.owner e.1))

other_than : (q : ℕ × List ℕ) (ps rest : List (ℕ × List ℕ)) (p : ℕ × List ℕ) → IsOther q (ps ++ p ∷ rest) → ((q.0 ≡ p.0) × (q.1 ≡ p.1)) → ⊥
other_than q [] rest p h = h.0
other_than q (r ∷ ps) rest p h = other_than q ps rest p h.1

-- the same of proofs by their lines
abbrev pub text_key : ProofText → ℕ × List ℕ
text_key said = (said.number, said.owner)

pub is_new : (ps : List ProofText) (rest : List (ℕ × List ℕ)) (p : ProofText) → NoTwoAlike (map text_key ps ++ text_key p ∷ rest) → is_proved p.number p.owner ps ≡ false
unfolding is_proved
is_new [] rest p h = refl
is_new (q ∷ ps) rest p h =
    neither (q.number == p.number && bytes_eq q.owner p.owner) (is_proved p.number p.owner ps) (others_differ q p (other_than (text_key q) (map text_key ps) rest (text_key p) h.0)) (is_new ps rest p h.1)

-- ---- a file leads to its proofs

-- what the lines of a proof lead to
abbrev ProofRun : List (List ℕ) → List ProofText → ℕ → List (List ℕ) → List (List ℕ) → Proof → Type 0
ProofRun table ps n own texts proof =
    (said : ProofText) × (state_after_all (own ++ texts) (between ps) n ≡ state_after_all texts (between (ps ++ said ∷ [])) (proof.«end» + 1)) × IsProofOf table said proof

proof_run : (table : List (List ℕ)) (ps : List ProofText) (n : ℕ) (own texts : List (List ℕ)) (proof : Proof) → ProofLines table n own proof → is_proved proof.number proof.owner ps ≡ false →
    ProofRun table ps n own texts proof
proof_run table ps n own texts proof p new =
    let k : ℕ = proof.number in
    let o : List ℕ = proof.owner in
    let whole : own ++ texts ≡ p.head ∷ (p.body ++ (p.foot ∷ texts)) = ap (λ l. l ++ texts) p.whole ∙ ap (λ l. p.head ∷ l) (append_assoc p.body (p.foot ∷ []) texts) in
    let more : List (List ℕ) = p.body ++ (p.foot ∷ texts) in
    let last : ℕ = n + 1 + length p.body in
    let steps = steps_run table ps k o (p.foot ∷ texts) [] p.steps in (
      said_at k o steps.0 proof.«end»,
      ap (λ l. state_after_all l (between ps) n) whole
          ∙ (ap (λ l. and_then (or_bad n (l >>= state_after (between ps) n p.head)) (λ t. state_after_all more t (n + 1))) (heading_is p.head k o p.heads)
          ∙ (ap (λ b. and_then (or_bad n (cond b None (Some (within ps k o [])))) (λ t. state_after_all more t (n + 1))) new
          ∙ (steps.1
          ∙ (ap (λ l. and_then (or_bad last (l >>= state_after (within ps k o steps.0) last p.foot)) (λ t. state_after_all texts t (last + 1))) (end_is p.foot p.ends)
          ∙ ap (λ e. state_after_all texts (between (ps ++ said_at k o steps.0 e ∷ [])) (e + 1)) (sym p.ends_at))))),
      (refl, refl, refl, steps.2),
    )

-- what the lines of proofs lead to
abbrev ProofsRun : List (List ℕ) → List ProofText → ℕ → List (List ℕ) → List Proof → Type 0
ProofsRun table ps n texts proofs = (said : List ProofText) × (state_after_all texts (between ps) n ≡ Ok (between (ps ++ said))) × Each (IsProofOf table) said proofs

same_key : (table : List (List ℕ)) (said : ProofText) (proof : Proof) → IsProofOf table said proof → key_of proof ≡ text_key said
same_key table said proof h = (λ i. (sym h.0 i, sym h.1 i))

proofs_run : (table : List (List ℕ)) {n : ℕ} {texts : List (List ℕ)} {proofs : List Proof} (ps : List ProofText) → ProofsLines table n texts proofs → NoTwoAlike (map text_key ps ++ map key_of proofs) →
    ProofsRun table ps n texts proofs
proofs_run table ps ProofsLines.no_proof distinct = ([], ap (λ l. Ok (between l)) (sym (append-nil ps)), tt)
proofs_run table {n = n} ps (ProofsLines.comment {text = text} {texts = texts} e lines) distinct =
    let more = proofs_run table ps lines distinct in
    (more.0, ap (λ l. and_then (or_bad n (l >>= state_after (between ps) n text)) (λ t. state_after_all texts t (n + 1))) (comment_passed text e) ∙ more.1, more.2)
proofs_run table {n = n} ps (ProofsLines.one_proof {own = own} {texts = texts} {proof = proof} {proofs = proofs} p lines) distinct =
    let keys : List (ℕ × List ℕ) = map key_of proofs in
    let here : ProofText = said_at proof.number proof.owner [] 0 in
    let first = proof_run table ps n own texts proof p (is_new ps keys here distinct) in
    let key : key_of proof ≡ text_key first.0 = same_key table first.0 proof first.2 in
    let apart : map text_key ps ++ key_of proof ∷ keys ≡ map text_key (ps ++ first.0 ∷ []) ++ keys =
    ap (λ x. map text_key ps ++ x ∷ keys) key
    ∙ (sym (append_assoc (map text_key ps) (text_key first.0 ∷ []) keys) ∙ ap (λ l. l ++ keys) (sym (map-append text_key ps (first.0 ∷ [])))) in
    let more = proofs_run table (ps ++ first.0 ∷ []) lines (subst NoTwoAlike apart distinct) in (
      first.0 ∷ more.0,
      first.1 ∙ (more.1 ∙ ap (λ l. Ok (between l)) (append_assoc ps (first.0 ∷ []) more.0)),
      (first.2, more.2),
    )

abbrev pub header : List ℕ
header = codes "creusot-proofs 1"

pub headed_run : (others : List (List ℕ)) (n : ℕ) → state_after_all (header ∷ others) start n ≡ state_after_all others (between []) (n + 1)
headed_run others n = ap (λ b. and_then (or_bad n (cond b (Some (between [])) None)) (λ t. state_after_all others t (n + 1))) (owner_same header)

pub form_run : (table lines : List (List ℕ)) (proofs : List Proof) → HasForm table lines proofs →
    (said : List ProofText) × (state_after_all lines start 1 ≡ Ok (between said)) × Each (IsProofOf table) said proofs
form_run table lines proofs f =
    let run = proofs_run table [] f.proved f.distinct in
    (run.0, ap (λ l. state_after_all l start 1) f.headed ∙ (headed_run f.others 1 ∙ run.1), run.2)
