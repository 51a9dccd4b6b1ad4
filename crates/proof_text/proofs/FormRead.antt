-- Lines that are read one by one have the format.
use Rattle.std.proofs.Common.{◌≡◌, ℕ, suc, ◌+◌, ◌==◌, ◌||◌, ◌&&◌, Bool, true, false, cond, List, [], ◌∷◌, ◌++◌, length, map, codes, Option, Some, None, Result, Ok, Err, refl, sym, ◌∙◌, ap, subst, arith, add-zero, append_assoc, true≢false}
use Rattle.std.specs.Str.{bytes_eq}
use Rattle.std.proofs.lemmas.List.{append-nil, map-append}
use Rattle.std.proofs.lemmas.Bool.Decides.{nat_tests}
use Rattle.std.proofs.lemmas.Slice.Eq.{bytes_eq-Decides}
use Rattle.name_tables.specs.NameTables.{with_names}
use Rattle.proof_text.specs.declared.proof.NumberedStep.{NumberedStep}
use Rattle.proof_text.specs.declared.proof.Proof.{Proof}
use Rattle.proof_text.specs.ProofTextWords.{◌>>=◌, Each}
use Rattle.proof_text.specs.ProofTextLines.{NamesTexts, IsHeading, IsEnd}
use Rattle.proof_text.specs.ProofFileForm.{IsComment, StepLines, ProofLines, ProofsLines, key_of, IsOther, NoTwoAlike, HasForm, LinesName, AreLines, BeginsFile}
use Rattle.proof_text.specs.ProofTextFile.{Line, passed, heading, step, «end», line_of, StepText, ProofText, IsStepOf, IsProofOf, State, start, between, within, is_proved, state_after, next_state, or_bad, and_then, state_after_all}
use Rattle.proof_text.proofs.LineLaw.{IsKind, line_kind, end_is}
use Rattle.proof_text.proofs.StepLaw.{AreNamed, step_there, step_names}
use Rattle.proof_text.proofs.NameOrder.{header_names, comment_names, heading_names, end_line_names}
use Rattle.proof_text.proofs.KeptNames.{each_named}
use Rattle.proof_text.proofs.TermLists.{named_parts}
use Rattle.proof_text.proofs.FormRuns.{run_append, said_at, text_key, header, headed_run, form_run}

-- ---- what the lines have, of whatever proofs they are

abbrev StepsIn : ℕ → List (List ℕ) → List StepText → Type 0
StepsIn n texts said = (table : List (List ℕ)) (steps : List NumberedStep) → Each (IsStepOf table) said steps → StepLines table n texts steps

abbrev ProofsIn : ℕ → List (List ℕ) → List ProofText → Type 0
ProofsIn n texts said = (table : List (List ℕ)) (proofs : List Proof) → Each (IsProofOf table) said proofs → ProofsLines table n texts proofs

no_step : (n : ℕ) → StepsIn n [] []
no_step n table [] h = StepLines.no_step
no_step n table (s ∷ steps) h = absurd h

comment_step : (n : ℕ) (text : List ℕ) (texts : List (List ℕ)) (said : List StepText) → IsComment text → StepsIn (n + 1) texts said → StepsIn n (text ∷ texts) said
comment_step n text texts said c more table steps h = StepLines.comment c (more table steps h)

one_step : (n : ℕ) (text : List ℕ) (texts : List (List ℕ)) (said : List StepText) → StepsIn (n + 1) texts said → StepsIn n (text ∷ texts) (record { line = n; text = text } ∷ said)
one_step n text texts said more table [] h = absurd h
one_step n text texts said more table (s ∷ steps) h =
    let here : StepLines table n (text ∷ texts) (record { line = n; step = s.step } ∷ steps) = StepLines.one_step h.0.1 (more table steps h.1) in
    subst (λ (m : ℕ). StepLines table n (text ∷ texts) (record { line = m; step = s.step } ∷ steps)) h.0.0 here

no_proof : (n : ℕ) → ProofsIn n [] []
no_proof n table [] h = ProofsLines.no_proof
no_proof n table (p ∷ proofs) h = absurd h

comment_proof : (n : ℕ) (text : List ℕ) (texts : List (List ℕ)) (said : List ProofText) → IsComment text → ProofsIn (n + 1) texts said → ProofsIn n (text ∷ texts) said
comment_proof n text texts said c more table proofs h = ProofsLines.comment c (more table proofs h)

one_proof : (n : ℕ) (own texts : List (List ℕ)) (first : ProofText) (said : List ProofText) → ((table : List (List ℕ)) (proof : Proof) → IsProofOf table first proof → ProofLines table n own proof) →
    ProofsIn (first.«end» + 1) texts said → ProofsIn n (own ++ texts) (first ∷ said)
one_proof n own texts first said here more table [] h = absurd h
one_proof n own texts first said here more table (p ∷ proofs) h =
    ProofsLines.one_proof (here table p h.0) (subst (λ (e : ℕ). ProofsLines table (e + 1) texts proofs) h.0.2 (more table proofs h.1))

-- ---- what leads from a state to the end of a proof

-- between two proofs: more proofs
record MoreProofs (ps : List ProofText) (n : ℕ) (texts : List (List ℕ)) (qs : List ProofText) : Type 0 where
  proofs : List ProofText
  lines : ProofsIn n texts proofs
  whole : qs ≡ ps ++ proofs

-- within a proof: its other steps, its end, and more proofs
record RestOfProof (ps : List ProofText) (k : ℕ) (o : List ℕ) (done : List StepText) (n : ℕ) (texts : List (List ℕ)) (qs : List ProofText) : Type 0 where
  body : List (List ℕ)
  foot : List ℕ
  others : List (List ℕ)
  steps : List StepText
  proofs : List ProofText
  whole : texts ≡ body ++ foot ∷ others
  step_lines : StepsIn n body steps
  ends : IsEnd foot
  lines : ProofsIn (n + length body + 1) others proofs
  are : qs ≡ ps ++ said_at k o (done ++ steps) (n + length body) ∷ proofs

abbrev Leads : State → ℕ → List (List ℕ) → List ProofText → Type 0
Leads start n texts qs = Unit {0}
Leads (between ps) n texts qs = MoreProofs ps n texts qs
Leads (within ps k o done) n texts qs = RestOfProof ps k o done n texts qs

-- what is known of the lines after this one
abbrev AllLead : List (List ℕ) → Type 0
AllLead texts = (s : State) (qs : List ProofText) (n : ℕ) → state_after_all texts s n ≡ Ok (between qs) → Leads s n texts qs

opened : (text : List ℕ) (texts : List (List ℕ)) (ps qs : List ProofText) (n k : ℕ) (o : List ℕ) (b : Bool) → AllLead texts → IsHeading text k o →
    and_then (or_bad n (cond b None (Some (within ps k o [])))) (λ t. state_after_all texts t (n + 1)) ≡ Ok (between qs) → MoreProofs ps n (text ∷ texts) qs
opened text texts ps qs n k o true lead is e = absurd (cc)
opened text texts ps qs n k o false lead is e =
    let r : RestOfProof ps k o [] (n + 1) texts qs = lead (within ps k o []) qs (n + 1) e in
    let first : ProofText = said_at k o r.steps (n + 1 + length r.body) in
    let own : List (List ℕ) = text ∷ r.body ++ r.foot ∷ [] in
    let here : (table : List (List ℕ)) (proof : Proof) → IsProofOf table first proof → ProofLines table n own proof = λ table proof h. record {
      head = text;
      body = r.body;
      foot = r.foot;
      whole = refl;
      heads = subst (λ (w : List ℕ). IsHeading text proof.number w) h.1 (subst (λ (m : ℕ). IsHeading text m o) h.0 is);
      steps = r.step_lines table proof.steps h.3;
      ends = r.ends;
      ends_at = sym h.2;
    } in
    let all : own ++ r.others ≡ text ∷ texts = ap (λ l. text ∷ l) (append_assoc r.body (r.foot ∷ []) r.others ∙ sym r.whole) in
    record {
      proofs = first ∷ r.proofs;
      lines = subst (λ l. ProofsIn n l (first ∷ r.proofs)) all (one_proof n own r.others first r.proofs here r.lines);
      whole = r.are;
    }

from_between : (text : List ℕ) (texts : List (List ℕ)) (ps qs : List ProofText) (n : ℕ) (l : Option Line) → AllLead texts → line_of text ≡ l →
    and_then (or_bad n (l >>= state_after (between ps) n text)) (λ t. state_after_all texts t (n + 1)) ≡ Ok (between qs) → MoreProofs ps n (text ∷ texts) qs
from_between text texts ps qs n None lead is e = absurd (cc)
from_between text texts ps qs n (Some passed) lead is e =
    let r : MoreProofs ps (n + 1) texts qs = lead (between ps) qs (n + 1) e in
    record { proofs = r.proofs; lines = comment_proof n text texts r.proofs (line_kind text passed is) r.lines; whole = r.whole }
from_between text texts ps qs n (Some (heading k o)) lead is e = opened text texts ps qs n k o (is_proved k o ps) lead (line_kind text (heading k o) is) e
from_between text texts ps qs n (Some step) lead is e = absurd (cc)
from_between text texts ps qs n (Some «end») lead is e = absurd (cc)

-- one line more of the proof
one_more : (text : List ℕ) (texts : List (List ℕ)) (ps qs : List ProofText) (k : ℕ) (o : List ℕ) (done new : List StepText) (n : ℕ) →
    ((body : List (List ℕ)) (steps : List StepText) → StepsIn (n + 1) body steps → StepsIn n (text ∷ body) (new ++ steps)) →
    RestOfProof ps k o (done ++ new) (n + 1) texts qs → RestOfProof ps k o done n (text ∷ texts) qs
one_more text texts ps qs k o done new n more r =
    let number : n + 1 + length r.body ≡ n + suc (length r.body) = omega arith in
    record {
      body = text ∷ r.body;
      foot = r.foot;
      others = r.others;
      steps = new ++ r.steps;
      proofs = r.proofs;
      whole = ap (λ l. text ∷ l) r.whole;
      step_lines = more r.body r.steps r.step_lines;
      ends = r.ends;
      lines = subst (λ m. ProofsIn (m + 1) r.others r.proofs) number r.lines;
      are = r.are ∙ (ap (λ d. ps ++ said_at k o d (n + 1 + length r.body) ∷ r.proofs) (append_assoc done new r.steps)
          ∙ ap (λ m. ps ++ said_at k o (done ++ (new ++ r.steps)) m ∷ r.proofs) number);
    }

closed : (text : List ℕ) (texts : List (List ℕ)) (ps qs : List ProofText) (k : ℕ) (o : List ℕ) (done : List StepText) (n : ℕ) → IsEnd text →
    MoreProofs (ps ++ said_at k o done n ∷ []) (n + 1) texts qs → RestOfProof ps k o done n (text ∷ texts) qs
closed text texts ps qs k o done n is r =
    let here : n ≡ n + 0 = sym (add-zero n) in
    record {
      body = [];
      foot = text;
      others = texts;
      steps = [];
      proofs = r.proofs;
      whole = refl;
      step_lines = no_step n;
      ends = is;
      lines = subst (λ m. ProofsIn (m + 1) texts r.proofs) here r.lines;
      are = r.whole ∙ (append_assoc ps (said_at k o done n ∷ []) r.proofs
          ∙ (ap (λ d. ps ++ said_at k o d n ∷ r.proofs) (sym (append-nil done)) ∙ ap (λ m. ps ++ said_at k o (done ++ []) m ∷ r.proofs) here));
    }

from_within : (text : List ℕ) (texts : List (List ℕ)) (ps qs : List ProofText) (k : ℕ) (o : List ℕ) (done : List StepText) (n : ℕ) (l : Option Line) → AllLead texts → line_of text ≡ l →
    and_then (or_bad n (l >>= state_after (within ps k o done) n text)) (λ t. state_after_all texts t (n + 1)) ≡ Ok (between qs) → RestOfProof ps k o done n (text ∷ texts) qs
from_within text texts ps qs k o done n None lead is e = absurd (cc)
from_within text texts ps qs k o done n (Some passed) lead is e =
    let r : RestOfProof ps k o done (n + 1) texts qs = lead (within ps k o done) qs (n + 1) e in
    one_more text texts ps qs k o done [] n (λ body steps lines. comment_step n text body steps (line_kind text passed is) lines) (subst (λ d. RestOfProof ps k o d (n + 1) texts qs) (sym (append-nil done)) r)
from_within text texts ps qs k o done n (Some (heading m w)) lead is e = absurd (cc)
from_within text texts ps qs k o done n (Some step) lead is e =
    one_more text texts ps qs k o done (record { line = n; text = text } ∷ []) n (λ body steps lines. one_step n text body steps lines)
    (lead (within ps k o (done ++ record { line = n; text = text } ∷ [])) qs (n + 1) e)
from_within text texts ps qs k o done n (Some «end») lead is e =
    closed text texts ps qs k o done n (line_kind text «end» is) (lead (between (ps ++ said_at k o done n ∷ [])) qs (n + 1) e)

leads : (texts : List (List ℕ)) → AllLead texts
leads [] start qs n e = tt
leads [] (between ps) qs n e = let same : qs ≡ ps = cc in record { proofs = []; lines = no_proof n; whole = same ∙ sym (append-nil ps) }
leads [] (within ps k o done) qs n e = absurd (cc)
leads (text ∷ texts) start qs n e = tt
leads (text ∷ texts) (between ps) qs n e = from_between text texts ps qs n (line_of text) (leads texts) refl e
leads (text ∷ texts) (within ps k o done) qs n e = from_within text texts ps qs k o done n (line_of text) (leads texts) refl e

-- ---- no two proofs are alike on the way

abbrev IsSound : State → Type 0
IsSound start = Unit {0}
IsSound (between ps) = NoTwoAlike (map text_key ps)
IsSound (within ps k o done) = NoTwoAlike (map text_key ps) × (is_proved k o ps ≡ false)

or_parts : (a b : Bool) → (a || b) ≡ false → (a ≡ false) × (b ≡ false)
or_parts false b e = (refl, e)
or_parts true b e = absurd (true≢false e)

same_differs : (p q : ProofText) → (q.number == p.number && bytes_eq q.owner p.owner) ≡ false → (q.number ≡ p.number) × (q.owner ≡ p.owner) → ⊥
same_differs p q e same =
    let number : (q.number == p.number) ≡ true = let n : q.number ≡ p.number = same.0 in grind (arith, nat_tests, n) in
    let owner : bytes_eq q.owner p.owner ≡ true = (bytes_eq-Decides q.owner p.owner).1 same.1 in
    let both : (q.number == p.number && bytes_eq q.owner p.owner) ≡ true = rw (number, owner) in
    true≢false (sym both ∙ e)

other_more : (q p : ℕ × List ℕ) (ps : List (ℕ × List ℕ)) → IsOther q ps → ((q.0 ≡ p.0) × (q.1 ≡ p.1) → ⊥) → IsOther q (ps ++ p ∷ [])
other_more q p [] h n = (n, tt)
other_more q p (r ∷ ps) h n = (h.0, other_more q p ps h.1 n)

keys_more : (ps : List ProofText) (p : ProofText) → NoTwoAlike (map text_key ps) → is_proved p.number p.owner ps ≡ false → NoTwoAlike (map text_key ps ++ text_key p ∷ [])
unfolding is_proved
keys_more [] p h e = (tt, tt)
keys_more (q ∷ ps) p h e =
    let parts = or_parts (q.number == p.number && bytes_eq q.owner p.owner) (is_proved p.number p.owner ps) e in
    (other_more (text_key q) (text_key p) (map text_key ps) h.0 (same_differs p q parts.0), keys_more ps p h.1 parts.1)

alike_more : (ps : List ProofText) (p : ProofText) → NoTwoAlike (map text_key ps) → is_proved p.number p.owner ps ≡ false → NoTwoAlike (map text_key (ps ++ p ∷ []))
alike_more ps p h e = subst NoTwoAlike (sym (map-append text_key ps (p ∷ []))) (keys_more ps p h e)

header_sound : (b : Bool) (t : State) → cond b (Some (between [])) None ≡ Some t → IsSound t
header_sound true t e = let same : between [] ≡ t = cc in subst IsSound same tt
header_sound false t e = absurd (cc)

heading_sound : (ps : List ProofText) (k : ℕ) (o : List ℕ) (b : Bool) (t : State) → is_proved k o ps ≡ b → NoTwoAlike (map text_key ps) → cond b None (Some (within ps k o [])) ≡ Some t → IsSound t
heading_sound ps k o true t is h e = absurd (cc)
heading_sound ps k o false t is h e = let same : within ps k o [] ≡ t = cc in subst IsSound same (h, is)

same_sound : (s t : State) → Some s ≡ Some t → IsSound s → IsSound t
same_sound s t e h = let same : s ≡ t = cc in subst IsSound same h

line_sound : (s t : State) (n : ℕ) (text : List ℕ) (l : Line) → IsSound s → state_after s n text l ≡ Some t → IsSound t
line_sound s t n text passed h e = same_sound s t e h
line_sound (between ps) t n text (heading k o) h e = heading_sound ps k o (is_proved k o ps) t refl h e
line_sound (within ps k o done) t n text step h e = same_sound (within ps k o (done ++ record { line = n; text = text } ∷ [])) t e h
line_sound (within ps k o done) t n text «end» h e = same_sound (between (ps ++ said_at k o done n ∷ [])) t e (alike_more ps (said_at k o done n) h.0 h.1)
line_sound start t n text (heading k o) h e = absurd (cc)
line_sound start t n text step h e = absurd (cc)
line_sound start t n text «end» h e = absurd (cc)
line_sound (between ps) t n text step h e = absurd (cc)
line_sound (between ps) t n text «end» h e = absurd (cc)
line_sound (within ps k o done) t n text (heading m w) h e = absurd (cc)

said_sound : (s t : State) (n : ℕ) (text : List ℕ) (l : Option Line) → IsSound s → (l >>= state_after s n text) ≡ Some t → IsSound t
said_sound s t n text None h e = absurd (cc)
said_sound s t n text (Some l) h e = line_sound s t n text l h e

next_sound : (s t : State) (n : ℕ) (text : List ℕ) → IsSound s → next_state s n text ≡ Some t → IsSound t
next_sound start t n text h e = header_sound (bytes_eq text header) t e
next_sound (between ps) t n text h e = said_sound (between ps) t n text (line_of text) h e
next_sound (within ps k o done) t n text h e = said_sound (within ps k o done) t n text (line_of text) h e

run_from : (texts : List (List ℕ)) (n : ℕ) (t : State) (o : Option State) → and_then (or_bad n o) (λ u. state_after_all texts u (n + 1)) ≡ Ok t → (u : State) × (o ≡ Some u) × (state_after_all texts u (n + 1) ≡ Ok t)
run_from texts n t None e = absurd (cc)
run_from texts n t (Some u) e = (u, refl, e)

run_sound : (texts : List (List ℕ)) (s t : State) (n : ℕ) → IsSound s → state_after_all texts s n ≡ Ok t → IsSound t
run_sound [] s t n h e = let same : s ≡ t = cc in subst IsSound same h
run_sound (text ∷ texts) s t n h e =
    let first = run_from texts n t (next_state s n text) e in
    run_sound texts first.0 t (n + 1) (next_sound s first.0 n text h first.1) first.2

-- ---- where the texts have names, the lines spell steps

abbrev AreSteps : List (List ℕ) → List StepText → Type 0
AreSteps table said = (steps : List NumberedStep) × Each (IsStepOf table) said steps

abbrev AreProofs : List (List ℕ) → List ProofText → Type 0
AreProofs table said = (proofs : List Proof) × Each (IsProofOf table) said proofs

abbrev IsSpelled : List (List ℕ) → State → Type 0
IsSpelled table start = Unit {0}
IsSpelled table (between ps) = AreProofs table ps
IsSpelled table (within ps k o done) = AreProofs table ps × AreSteps table done

each_more : {A B : Type 0} (R : A → B → Type 0) (xs : List A) (ys : List B) (x : A) (y : B) → Each R xs ys → R x y → Each R (xs ++ x ∷ []) (ys ++ y ∷ [])
each_more R [] [] x y h r = (r, tt)
each_more R (a ∷ xs) (b ∷ ys) x y h r = (h.0, each_more R xs ys x y h.1 r)
each_more R [] (b ∷ ys) x y h r = absurd h
each_more R (a ∷ xs) [] x y h r = absurd h

module _ (table : List (List ℕ)) where
  step_more : (said : List StepText) (n : ℕ) (text : List ℕ) (texts : List (List ℕ)) → IsKind text step → NamesTexts text texts → AreNamed table texts → AreSteps table said → AreSteps table (said ++ record { line = n; text = text } ∷ [])
  step_more said n text texts kind names named h =
      let s = step_there table text texts kind.0 kind.1 names named in
      let numbered : NumberedStep = record { line = n; step = s.0 } in
      (h.0 ++ numbered ∷ [], each_more (IsStepOf table) said h.0 (record { line = n; text = text }) numbered h.1 (refl, s.1))

  proof_more : (ps : List ProofText) (k : ℕ) (o : List ℕ) (done : List StepText) (n : ℕ) → AreProofs table ps → AreSteps table done → AreProofs table (ps ++ said_at k o done n ∷ [])
  proof_more ps k o done n h steps =
      let proof : Proof = record { number = k; owner = o; steps = steps.0; «end» = n } in
      (h.0 ++ proof ∷ [], each_more (IsProofOf table) ps h.0 (said_at k o done n) proof h.1 (refl, refl, refl, steps.1))

  header_spelled : (b : Bool) (t : State) → cond b (Some (between [])) None ≡ Some t → IsSpelled table t
  header_spelled true t e = let same : between [] ≡ t = cc in subst (IsSpelled table) same ([], tt)
  header_spelled false t e = absurd (cc)

  heading_spelled : (ps : List ProofText) (k : ℕ) (o : List ℕ) (b : Bool) (t : State) → AreProofs table ps → cond b None (Some (within ps k o [])) ≡ Some t → IsSpelled table t
  heading_spelled ps k o true t h e = absurd (cc)
  heading_spelled ps k o false t h e = let same : within ps k o [] ≡ t = cc in subst (IsSpelled table) same (h, ([], tt))

  same_spelled : (s t : State) → Some s ≡ Some t → IsSpelled table s → IsSpelled table t
  same_spelled s t e h = let same : s ≡ t = cc in subst (IsSpelled table) same h

  line_spelled : (s t : State) (n : ℕ) (text : List ℕ) (l : Line) (texts : List (List ℕ)) → IsKind text l → NamesTexts text texts → AreNamed table texts → IsSpelled table s → state_after s n text l ≡ Some t → IsSpelled table t
  line_spelled s t n text passed texts kind names named h e = same_spelled s t e h
  line_spelled (between ps) t n text (heading k o) texts kind names named h e = heading_spelled ps k o (is_proved k o ps) t h e
  line_spelled (within ps k o done) t n text step texts kind names named h e =
      same_spelled (within ps k o (done ++ record { line = n; text = text } ∷ [])) t e (h.0, step_more done n text texts kind names named h.1)
  line_spelled (within ps k o done) t n text «end» texts kind names named h e = same_spelled (between (ps ++ said_at k o done n ∷ [])) t e (proof_more ps k o done n h.0 h.1)
  line_spelled start t n text (heading k o) texts kind names named h e = absurd (cc)
  line_spelled start t n text step texts kind names named h e = absurd (cc)
  line_spelled start t n text «end» texts kind names named h e = absurd (cc)
  line_spelled (between ps) t n text step texts kind names named h e = absurd (cc)
  line_spelled (between ps) t n text «end» texts kind names named h e = absurd (cc)
  line_spelled (within ps k o done) t n text (heading m w) texts kind names named h e = absurd (cc)

  said_spelled : (s t : State) (n : ℕ) (text : List ℕ) (l : Option Line) (texts : List (List ℕ)) → line_of text ≡ l → NamesTexts text texts → AreNamed table texts → IsSpelled table s → (l >>= state_after s n text) ≡ Some t → IsSpelled table t
  said_spelled s t n text None texts is names named h e = absurd (cc)
  said_spelled s t n text (Some l) texts is names named h e = line_spelled s t n text l texts (line_kind text l is) names named h e

  next_spelled : (s t : State) (n : ℕ) (text : List ℕ) (texts : List (List ℕ)) → NamesTexts text texts → AreNamed table texts → IsSpelled table s → next_state s n text ≡ Some t → IsSpelled table t
  next_spelled start t n text texts names named h e = header_spelled (bytes_eq text header) t e
  next_spelled (between ps) t n text texts names named h e = said_spelled (between ps) t n text (line_of text) texts refl names named h e
  next_spelled (within ps k o done) t n text texts names named h e = said_spelled (within ps k o done) t n text (line_of text) texts refl names named h e

  run_spelled : (texts all : List (List ℕ)) (s t : State) (n : ℕ) → LinesName texts all → AreNamed table all → IsSpelled table s → state_after_all texts s n ≡ Ok t → IsSpelled table t
  run_spelled [] all s t n names named h e = let same : s ≡ t = cc in subst (IsSpelled table) same h
  run_spelled (text ∷ texts) all s t n names named h e =
      let first = run_from texts n t (next_state s n text) e in
      let parts = named_parts table names.0 names.1 (subst (AreNamed table) names.4 named) in
      run_spelled texts names.1 first.0 t (n + 1) names.3 parts.1 (next_spelled s first.0 n text names.0 names.2 parts.0 h first.1) first.2

-- the lines that lead to these proofs spell them, where their texts have names
pub proofs_there : (table lines texts : List (List ℕ)) (said : List ProofText) → LinesName lines texts → AreNamed table texts → state_after_all lines start 1 ≡ Ok (between said) →
    (proofs : List Proof) × Each (IsProofOf table) said proofs
proofs_there table lines texts said names named e = run_spelled table lines texts start (between said) 1 names named tt e

-- ---- the lines that lead somewhere name texts

kind_names : (text : List ℕ) (l : Line) → IsKind text l → (texts : List (List ℕ)) × NamesTexts text texts
kind_names text passed h = ([], comment_names text h)
kind_names text (heading number owner) h = ([], heading_names text number owner h)
kind_names text step h = step_names text h.1
kind_names text «end» h = ([], end_line_names text h)

header_line : (text : List ℕ) (b : Bool) (t : State) → bytes_eq text header ≡ b → cond b (Some (between [])) None ≡ Some t → (texts : List (List ℕ)) × NamesTexts text texts
header_line text true t is e = ([], header_names text is)
header_line text false t is e = absurd (cc)

said_names : (s t : State) (n : ℕ) (text : List ℕ) (l : Option Line) → line_of text ≡ l → (l >>= state_after s n text) ≡ Some t → (texts : List (List ℕ)) × NamesTexts text texts
said_names s t n text None is e = absurd (cc)
said_names s t n text (Some l) is e = kind_names text l (line_kind text l is)

next_names : (s t : State) (n : ℕ) (text : List ℕ) → next_state s n text ≡ Some t → (texts : List (List ℕ)) × NamesTexts text texts
next_names start t n text e = header_line text (bytes_eq text header) t refl e
next_names (between ps) t n text e = said_names (between ps) t n text (line_of text) refl e
next_names (within ps k o done) t n text e = said_names (within ps k o done) t n text (line_of text) refl e

pub run_names : (lines : List (List ℕ)) (s t : State) (n : ℕ) → state_after_all lines s n ≡ Ok t → (texts : List (List ℕ)) × LinesName lines texts
run_names [] s t n e = ([], refl)
run_names (text ∷ lines) s t n e =
    let first = run_from lines n t (next_state s n text) e in
    let own = next_names s first.0 n text first.1 in
    let others = run_names lines first.0 t (n + 1) first.2 in
    (own.0 ++ others.0, (own.0, others.0, own.1, others.1, refl))

-- ---- the format

same_keys : (table : List (List ℕ)) (said : List ProofText) (proofs : List Proof) → Each (IsProofOf table) said proofs → map text_key said ≡ map key_of proofs
same_keys table [] [] h = refl
same_keys table [] (p ∷ proofs) h = absurd h
same_keys table (x ∷ said) [] h = absurd h
same_keys table (x ∷ said) (p ∷ proofs) h =
    let here : text_key x ≡ key_of p = λ i. (h.0.0 i, h.0.1 i) in
    ap (λ k. k ∷ map text_key said) here ∙ ap (λ ks. key_of p ∷ ks) (same_keys table said proofs h.1)

form_from : (table : List (List ℕ)) (text : List ℕ) (texts : List (List ℕ)) (said : List ProofText) (proofs : List Proof) (b : Bool) → bytes_eq text header ≡ b → Each (IsProofOf table) said proofs →
    and_then (or_bad 1 (cond b (Some (between [])) None)) (λ t. state_after_all texts t 2) ≡ Ok (between said) → HasForm table (text ∷ texts) proofs
form_from table text texts said proofs false is each e = absurd (cc)
form_from table text texts said proofs true is each e =
    let r : MoreProofs [] 2 texts said = leads texts (between []) said 2 e in
    record {
      others = texts;
      headed = ap (λ l. l ∷ texts) ((bytes_eq-Decides text header).0 is);
      proved = r.lines table proofs (subst (λ (ps : List ProofText). Each (IsProofOf table) ps proofs) r.whole each);
      distinct = subst NoTwoAlike (same_keys table said proofs each) (run_sound texts (between []) (between said) 2 tt e);
    }

pub form_of : (table lines : List (List ℕ)) (said : List ProofText) (proofs : List Proof) → state_after_all lines start 1 ≡ Ok (between said) → Each (IsProofOf table) said proofs → HasForm table lines proofs
form_of table [] said proofs e each = absurd (cc)
form_of table (text ∷ texts) said proofs e each = form_from table text texts said proofs (bytes_eq text header) refl each e

-- ---- what can be continued

-- from each state some lines lead to a file
finish : (s : State) (n : ℕ) → (more : List (List ℕ)) × AreLines more × ((qs : List ProofText) × (state_after_all more s n ≡ Ok (between qs)))
finish start n = (header ∷ [], (refl, tt), ([], headed_run [] n))
finish (between ps) n = ([], tt, (ps, refl))
finish (within ps k o done) n = (
  codes "end" ∷ [],
  (refl, tt),
  (
    ps ++ said_at k o done n ∷ [],
    ap (λ l. and_then (or_bad n (l >>= state_after (within ps k o done) n (codes "end"))) (λ t. state_after_all [] t (n + 1))) (end_is (codes "end") refl),
  ),
)

pub begins : (lines : List (List ℕ)) (s : State) → state_after_all lines start 1 ≡ Ok s → BeginsFile lines
begins lines s e =
    let f = finish s (1 + length lines) in
    let all : List (List ℕ) = lines ++ f.0 in
    let leads_there : state_after_all all start 1 ≡ Ok (between f.2.0) =
    run_append lines f.0 start 1 ∙ (ap (λ r. and_then r (λ t. state_after_all f.0 t (1 + length lines))) e ∙ f.2.1) in
    let names = run_names all start (between f.2.0) 1 leads_there in
    let table : List (List ℕ) = with_names [] names.0 in
    let spelled = proofs_there table all names.0 f.2.0 names.1 (each_named [] names.0) leads_there in
    record {
      more = f.0;
      are_lines = f.1;
      table = table;
      proofs = spelled.0;
      form = form_of table all f.2.0 spelled.0 leads_there spelled.1;
    }

some_state : {A : Type 0} (r : Result State ℕ) (f : State → Result A ℕ) (x : A) → and_then r f ≡ Ok x → (s : State) × (r ≡ Ok s)
some_state (Ok s) f x e = (s, refl)
some_state (Err n) f x e = absurd (cc)

pub begun : (lines : List (List ℕ)) → BeginsFile lines → (s : State) × (state_after_all lines start 1 ≡ Ok s)
begun lines b =
    let run = form_run b.table (lines ++ b.more) b.proofs b.form in
    some_state (state_after_all lines start 1) (λ t. state_after_all b.more t (1 + length lines)) (between run.0)
    (sym (run_append lines b.more start 1) ∙ run.1)
