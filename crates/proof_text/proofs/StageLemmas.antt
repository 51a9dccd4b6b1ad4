-- How a file goes on from line to line.
use Rattle.std.proofs.Common.{◌≡◌, ℕ, ◌+◌, ◌≤◌, ◌<◌, List, [], ◌∷◌, ◌++◌, length, map, drop, get_or, Bool, true, false, ◌&&◌, ◌||◌, Option, None, Some, Result, Ok, Err, refl, sym, ◌∙◌, ap, nat_eq, codes, arith, add-one, drop-cons, subst, Bor, cond}
use Rattle.std.specs.List.{list_any, slice_split, onto_first}
use Rattle.std.specs.Str.{bytes_eq}
use Rattle.proof_text.specs.declared.proof.NumberedStep.{NumberedStep}
use Rattle.proof_text.specs.declared.proof.Proof.{Proof}
use Rattle.proof_text.specs.declared.reader.Stage.{Stage}
use Rattle.proof_text.specs.declared.reader.Stage.TheVariants as stages
use Rattle.proof_text.specs.declared.line.Line as code
use Rattle.proof_text.specs.declared.fault.Fault.{Fault}
use Rattle.proof_text.specs.declared.fault.Fault.TheVariants.{Bad, NoMemory}
use Rattle.proof_text.specs.declared.fault.ProofTextError.{ProofTextError}
use Rattle.proof_text.specs.declared.fault.ProofTextError.TheVariants as errors
use Rattle.proof_text.specs.ProofTextWords.{◌>>=◌}
use Rattle.proof_text.specs.ProofTextWords.{Each}
use Rattle.proof_text.specs.ProofTextLines.{SpellsStep}
use Rattle.proof_text.specs.ProofTextReads.{Reads, ReadsLines, IsLineOf, IsStageOf, is_start, total_length}
use Rattle.proof_text.specs.ProofTextFile.{StepText, ProofText, IsStepOf, IsProofOf, State, start, between, within, is_proved, state_after, next_state, state_after_all}
use Rattle.proof_text.specs.ProofTextFile.{line_of, step as a_step, «end»}
use Rattle.proof_text.specs.ProofTextFile.{Line as LineKind}

pub each_push : {A B : Type 0} (R : A → B → Type 0) (xs : List A) (ys : List B) (x : A) (y : B) → Each R xs ys → R x y → Each R (xs ++ x ∷ []) (ys ++ y ∷ [])
each_push R [] [] x y h r = (r, tt)
each_push R (a ∷ xs) (b ∷ ys) x y h r = (h.0, each_push R xs ys x y h.1 r)
each_push R [] (b ∷ ys) x y h r = absurd h
each_push R (a ∷ xs) [] x y h r = absurd h

-- one more step is said
pub step_said : (table : List (List ℕ)) (ss : List StepText) (old new : List NumberedStep) (n : ℕ) (text : List ℕ) (step : NumberedStep) → Each (IsStepOf table) ss old → n ≡ step.line →
    SpellsStep table text step.step → new ≡ old ++ step ∷ [] → Each (IsStepOf table) (ss ++ record { line = n; text = text } ∷ []) new
step_said table ss old new n text step h e r is = rw is (each_push (IsStepOf table) ss old (record { line = n; text = text }) step h (e, r))

-- one more proof is said
pub end_said : (table : List (List ℕ)) (ps : List ProofText) (old new : List Proof) (said : ProofText) (proof : Proof) → Each (IsProofOf table) ps old → IsProofOf table said proof → new ≡ old ++ proof ∷ [] → Each (IsProofOf table) (ps ++ said ∷ []) new
end_said table ps old new said proof h r is = rw is (each_push (IsProofOf table) ps old said proof h r)

pub same_proved : (table : List (List ℕ)) (number : ℕ) (owner : List ℕ) (said : List ProofText) (proofs : List Proof) → Each (IsProofOf table) said proofs → list_any (λ p. nat_eq p.number number && bytes_eq p.owner owner) proofs ≡ is_proved number owner said
unfolding is_proved
same_proved table number owner [] [] h = refl
same_proved table number owner (x ∷ xs) (y ∷ ys) h =
    ap (λ n. (nat_eq n number && bytes_eq y.owner owner) || list_any (λ p. nat_eq p.number number && bytes_eq p.owner owner) ys) (sym h.0.0)
    ∙ ap (λ o. (nat_eq x.number number && bytes_eq o owner) || list_any (λ p. nat_eq p.number number && bytes_eq p.owner owner) ys) (sym h.0.1)
    ∙ ap (λ b. (nat_eq x.number number && bytes_eq x.owner owner) || b) (same_proved table number owner xs ys h.1)
same_proved table number owner [] (y ∷ ys) h = absurd h
same_proved table number owner (x ∷ xs) [] h = absurd h

abbrev pub now : Bor (List ℕ) → List ℕ
now x = x.now

-- the next of the lines
pub goes_on : (lines : List (Bor (List ℕ))) (i : ℕ) (d : Bor (List ℕ)) (s t : State) → i < length lines → next_state s (i + 1) (now (get_or lines i d)) ≡ Some t → state_after_all (map now (drop i lines)) s (i + 1) ≡ state_after_all (map now (drop (i + 1) lines)) t (i + 1 + 1)
goes_on lines i d s t h e =
    ap (λ ls. state_after_all (map now ls) s (i + 1)) (drop-cons lines i d h)
    ∙ rw e (ap (λ j. state_after_all (map now (drop j lines)) t (i + 1 + 1)) (sym (add-one i)))

pub stops : (lines : List (Bor (List ℕ))) (i : ℕ) (d : Bor (List ℕ)) (s : State) → i < length lines → next_state s (i + 1) (now (get_or lines i d)) ≡ None → state_after_all (map now (drop i lines)) s (i + 1) ≡ Err (i + 1)
stops lines i d s h e =
    ap (λ ls. state_after_all (map now ls) s (i + 1)) (drop-cons lines i d h) ∙ rw e refl

first_longer : (x : ℕ) (parts : List (List ℕ)) → total_length (onto_first x parts) ≤ total_length parts + 1
first_longer x [] = omega arith
first_longer x (p ∷ ps) = omega arith

by_test : (t : Bool) (b : ℕ) (bs : List ℕ) (parts : List (List ℕ)) → total_length parts ≤ length bs → total_length (cond t ([] ∷ parts) (onto_first b parts)) ≤ length (b ∷ bs)
by_test true b bs parts h = omega arith
by_test false b bs parts h = omega (arith, first_longer b parts)

-- the pieces are no longer than the whole
pub pieces_short : (p : ℕ → Bool) (bs : List ℕ) → total_length (slice_split p bs) ≤ length bs
pieces_short p [] = omega arith
pieces_short p (b ∷ bs) = by_test (p b) b bs (slice_split p bs) (pieces_short p bs)

pub total_first : (lines : List (Bor (List ℕ))) (i : ℕ) (d : Bor (List ℕ)) → i < length lines → total_length (map now (drop i lines)) ≡ length (now (get_or lines i d)) + total_length (map now (drop (i + 1) lines))
total_first lines i d h =
    ap (λ ls. total_length (map now ls)) (drop-cons lines i d h)
    ∙ ap (λ j. length (now (get_or lines i d)) + total_length (map now (drop j lines))) (sym (add-one i))

-- new is old with one more step
abbrev pub WithStep : NumberedStep → Stage → Stage → Type 0
WithStep step (stages.Within done opened) (stages.Within same more) =
    (same ≡ done) × (more.number ≡ opened.number) × (more.owner.now ≡ opened.owner.now) × (more.steps.items ≡ opened.steps.items ++ step ∷ [])
WithStep step _ _ = ⊥

pub step_goes_on : (table : List (List ℕ)) (s : State) (old new : Stage) (n : ℕ) (text : List ℕ) (step : NumberedStep) → WithStep step old new → IsStageOf table s old → n ≡ step.line → SpellsStep table text step.step → Reads {X = Stage} (IsStageOf table) (Ok new) (state_after s n text a_step)
step_goes_on table (within ps k o ss) (stages.Within done opened) (stages.Within same more) n text step w h e r =
    (subst (Each (IsProofOf table) ps) (sym w.0) h.0, h.1 ∙ sym w.1, h.2 ∙ sym w.2, step_said table ss opened.steps.items more.steps.items n text step h.3 e r w.3)
step_goes_on table start (stages.Within done opened) (stages.Within same more) n text step w h e r = absurd h
step_goes_on table (between ps) (stages.Within done opened) (stages.Within same more) n text step w h e r = absurd h
step_goes_on table s stages.Start new n text step w h e r = absurd w
step_goes_on table s (stages.Between done) new n text step w h e r = absurd w
step_goes_on table s (stages.Within done opened) stages.Start n text step w h e r = absurd w
step_goes_on table s (stages.Within done opened) (stages.Between same) n text step w h e r = absurd w

-- new is old with its open proof ended
abbrev pub WithProof : Proof → Stage → Stage → Type 0
WithProof proof (stages.Within done opened) (stages.Between more) =
    (proof.number ≡ opened.number) × (proof.owner ≡ opened.owner.now) × (proof.steps ≡ opened.steps.items) × (more ≡ done ++ proof ∷ [])
WithProof proof _ _ = ⊥

pub proof_goes_on : (table : List (List ℕ)) (s : State) (old new : Stage) (n : ℕ) (text : List ℕ) (proof : Proof) → WithProof proof old new → IsStageOf table s old → proof.«end» ≡ n → Reads {X = Stage} (IsStageOf table) (Ok new) (state_after s n text «end»)
proof_goes_on table (within ps k o ss) (stages.Within done opened) (stages.Between more) n text proof w h e =
    end_said table ps done more (record { number = k; owner = o; steps = ss; «end» = n }) proof h.0
    (h.1 ∙ sym w.0, h.2 ∙ sym w.1, sym e, subst (Each (IsStepOf table) ss) (sym w.2) h.3) w.3
proof_goes_on table start (stages.Within done opened) (stages.Between more) n text proof w h e = absurd h
proof_goes_on table (between ps) (stages.Within done opened) (stages.Between more) n text proof w h e = absurd h
proof_goes_on table s stages.Start new n text proof w h e = absurd w
proof_goes_on table s (stages.Between done) new n text proof w h e = absurd w
proof_goes_on table s (stages.Within done opened) stages.Start n text proof w h e = absurd w
proof_goes_on table s (stages.Within done opened) (stages.Within same more) n text proof w h e = absurd w

-- before the first line and after it
pub at_start : (table : List (List ℕ)) (s : State) (stage : Stage) → is_start stage ≡ true → IsStageOf table s stage → s ≡ start
at_start table start stages.Start e h = refl
at_start table (between ps) stages.Start e h = absurd h
at_start table (within ps k o ss) stages.Start e h = absurd h
at_start table s (stages.Between done) e h = cc
at_start table s (stages.Within done opened) e h = cc

pub past_start : (table : List (List ℕ)) (s : State) (stage : Stage) (n : ℕ) (text : List ℕ) → is_start stage ≡ false → IsStageOf table s stage → next_state s n text ≡ (line_of text >>= state_after s n text)
past_start table start stages.Start n text e h = cc
past_start table start (stages.Between done) n text e h = absurd h
past_start table start (stages.Within done opened) n text e h = absurd h
past_start table (between ps) stage n text e h = refl
past_start table (within ps k o ss) stage n text e h = refl

goes_by : (table : List (List ℕ)) (s : State) (stage : Stage) (line : code.Line) (n : ℕ) (text : List ℕ) (r : Result Stage Fault) (o : Option LineKind) → Reads (IsLineOf table text) (Ok line) o → IsStageOf table s stage →
    ((said : LineKind) → IsStageOf table s stage → IsLineOf table text said line → Reads (IsStageOf table) r (state_after s n text said)) → Reads (IsStageOf table) r (o >>= state_after s n text)
goes_by table s stage line n text r None reads h f = absurd reads
goes_by table s stage line n text r (Some said) reads h f = f said h reads

pub line_goes_on : (table : List (List ℕ)) (s : State) (stage : Stage) (line : code.Line) (n : ℕ) (text : List ℕ) (r : Result Stage Fault) → is_start stage ≡ false → Reads (IsLineOf table text) (Ok line) (line_of text) →
    IsStageOf table s stage → ((said : LineKind) → IsStageOf table s stage → IsLineOf table text said line → Reads (IsStageOf table) r (state_after s n text said)) → Reads (IsStageOf table) r (next_state s n text)
line_goes_on table s stage line n text r e reads h f =
    subst (Reads (IsStageOf table) r) (sym (past_start table s stage n text e h)) (goes_by table s stage line n text r (line_of text) reads h f)

pub line_fails : (table : List (List ℕ)) (s : State) (stage : Stage) (n : ℕ) (text : List ℕ) (e : Fault) → is_start stage ≡ false → IsStageOf table s stage → Reads (IsLineOf table text) (Err e) (line_of text) → Reads (IsStageOf table) (Err e) (next_state s n text)
line_fails table s stage n text Bad b h reads = past_start table s stage n text b h ∙ ap (λ o. o >>= state_after s n text) reads
line_fails table s stage n text NoMemory b h reads = tt

pub header_read : (table : List (List ℕ)) (s : State) (stage new : Stage) (n : ℕ) (text : List ℕ) → is_start stage ≡ true → IsStageOf table s stage → bytes_eq text (codes "creusot-proofs 1") ≡ true → IsStageOf table (between []) new → Reads (IsStageOf table) (Ok new) (next_state s n text)
header_read table s stage new n text b h e r = rw (at_start table s stage b h) (rw e r)

pub header_bad : (table : List (List ℕ)) (s : State) (stage : Stage) (n : ℕ) (text : List ℕ) → is_start stage ≡ true → IsStageOf table s stage → bytes_eq text (codes "creusot-proofs 1") ≡ false → next_state s n text ≡ None
header_bad table s stage n text b h e = rw (at_start table s stage b h) (rw e refl)

-- the lines one by one
keeps_by : (table : List (List ℕ)) (lines : List (Bor (List ℕ))) (i : ℕ) (d : Bor (List ℕ)) (s : State) (stage : Stage) (all : Result State ℕ) (o : Option State) → next_state s (i + 1) (now (get_or lines i d)) ≡ o → i < length lines →
    Reads {X = Stage} (IsStageOf table) (Ok stage) o → state_after_all (map now (drop i lines)) s (i + 1) ≡ all → (t : State) × IsStageOf table t stage × (state_after_all (map now (drop (i + 1) lines)) t (i + 1 + 1) ≡ all) × (o ≡ Some t)
keeps_by table lines i d s stage all None e h reads r = absurd reads
keeps_by table lines i d s stage all (Some t) e h reads r = (t, reads, sym (goes_on lines i d s t h e) ∙ r, refl)

pub keeps_on : (table : List (List ℕ)) (lines : List (Bor (List ℕ))) (i : ℕ) (d : Bor (List ℕ)) (s : State) (stage : Stage) (all : Result State ℕ) → i < length lines →
    Reads {X = Stage} (IsStageOf table) (Ok stage) (next_state s (i + 1) (now (get_or lines i d))) → state_after_all (map now (drop i lines)) s (i + 1) ≡ all →
    (t : State) × IsStageOf table t stage × (state_after_all (map now (drop (i + 1) lines)) t (i + 1 + 1) ≡ all) × (next_state s (i + 1) (now (get_or lines i d)) ≡ Some t)
keeps_on table lines i d s stage all h reads r = keeps_by table lines i d s stage all _ refl h reads r

pub breaks_off : (table : List (List ℕ)) (lines : List (Bor (List ℕ))) (i : ℕ) (d : Bor (List ℕ)) (s : State) (all : Result State ℕ) (e : Fault) (p : ProofTextError) → i < length lines →
    Reads {X = Stage} (IsStageOf table) (Err e) (next_state s (i + 1) (now (get_or lines i d))) → state_after_all (map now (drop i lines)) s (i + 1) ≡ all → (e ≡ Bad → p ≡ errors.BadLine (i + 1)) → (e ≡ NoMemory → p ≡ errors.NoMemory) →
    ReadsLines {X = Stage} (IsStageOf table) (Err p) all
breaks_off table lines i d s all Bad p h reads r bad memory = rw (bad refl) (sym r ∙ stops lines i d s h reads)
breaks_off table lines i d s all NoMemory p h reads r bad memory = rw (memory refl) tt

pub all_read : (table : List (List ℕ)) (s : State) (stage : Stage) (all : Result State ℕ) → IsStageOf table s stage → Ok s ≡ all → ReadsLines {X = Stage} (IsStageOf table) (Ok stage) all
all_read table s stage all h e = subst (ReadsLines {X = Stage} (IsStageOf table) (Ok stage)) e h

-- the names that a line leaves room for
pub room_after : (lines : List (Bor (List ℕ))) (i : ℕ) (d : Bor (List ℕ)) (new old bound : ℕ) → i < length lines → new ≤ old + length (now (get_or lines i d)) → old + total_length (map now (drop i lines)) ≤ bound → new + total_length (map now (drop (i + 1) lines)) ≤ bound
room_after lines i d new old bound h grown room = omega (arith, total_first lines i d h)

pub room_at : (lines : List (Bor (List ℕ))) (i : ℕ) (d : Bor (List ℕ)) (old bound : ℕ) → i < length lines → old + total_length (map now (drop i lines)) ≤ bound → old + length (now (get_or lines i d)) ≤ bound
room_at lines i d old bound h room = omega (arith, total_first lines i d h)
