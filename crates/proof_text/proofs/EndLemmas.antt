-- How a file ends.
use Rattle.std.proofs.Common.{◌≡◌, ℕ, ◌+◌, ◌-◌, ◌≤◌, ◌<◌, List, [], ◌∷◌, ◌++◌, length, map, take, get_or, Bool, true, false, Result, Ok, Err, refl, sym, ◌∙◌, ap, arith, Bor, subst, length-append}
use Rattle.std.specs.List.{slice_split}
use Rattle.std.specs.Prelude.{IfOk}
use Rattle.std.proofs.lemmas.List.{map-append, length-map}
use Rattle.std.proofs.lemmas.List.Splits.{length-slice_split}
use Rattle.std.proofs.lemmas.List.Sums.{count_by-le-length}
use Rattle.std.proofs.Math.Dec.{eqb}
use Rattle.proof_text.specs.declared.proof.ProofFile.{ProofFile}
use Rattle.proof_text.specs.declared.reader.Stage.{Stage}
use Rattle.proof_text.specs.declared.reader.Stage.TheVariants as stages
use Rattle.proof_text.specs.declared.fault.ProofTextError.{ProofTextError}
use Rattle.proof_text.specs.declared.fault.ProofTextError.TheVariants as errors
use Rattle.proof_text.specs.ProofTextFile.{ProofText, IsProofOf, State, start, between, within, and_then, state_after_all, proofs_at_end, proofs_of_pieces, proofs_of}
use Rattle.proof_text.specs.ProofTextWords.{Each}
use Rattle.proof_text.specs.ProofTextReads.{ReadsLines, IsStageOf, total_length}
use Rattle.proof_text.proofs.StageLemmas.{now, pieces_short}

abbrev pub IsFile : List (List ℕ) → List ProofText → ProofFile → Type 0
IsFile table said file = Each (IsProofOf table) said file.proofs

all_but_last : (xs : List (List ℕ)) (x : List ℕ) → take (length xs) (xs ++ x ∷ []) ≡ xs
all_but_last [] x = refl
all_but_last (y ∷ ys) x = ap (λ zs. y ∷ zs) (all_but_last ys x)

the_last : (xs : List (List ℕ)) (x : List ℕ) → get_or (xs ++ x ∷ []) (length xs) [] ≡ x
the_last [] x = refl
the_last (y ∷ ys) x = the_last ys x

by_count : (xs : List (List ℕ)) (x : List ℕ) (count : ℕ) → count ≡ length xs → and_then (state_after_all (take count (xs ++ x ∷ [])) start 1) (proofs_at_end (count + 1) (get_or (xs ++ x ∷ []) count [])) ≡ and_then (state_after_all xs start 1) (proofs_at_end (length xs + 1) x)
by_count xs x count e =
    ap (λ n. and_then (state_after_all (take n (xs ++ x ∷ [])) start 1) (proofs_at_end (n + 1) (get_or (xs ++ x ∷ []) n []))) e
    ∙ ap (λ ys. and_then (state_after_all ys start 1) (proofs_at_end (length xs + 1) (get_or (xs ++ x ∷ []) (length xs) []))) (all_but_last xs x)
    ∙ ap (λ y. and_then (state_after_all xs start 1) (proofs_at_end (length xs + 1) y)) (the_last xs x)

pub last_apart : (xs : List (List ℕ)) (x : List ℕ) → proofs_of_pieces (xs ++ x ∷ []) ≡ and_then (state_after_all xs start 1) (proofs_at_end (length xs + 1) x)
last_apart xs x = by_count xs x (length (xs ++ x ∷ []) - 1) (omega (arith, length-append xs (x ∷ [])))

pub pieces_are : (pieces lines : List (Bor (List ℕ))) (rest : Bor (List ℕ)) → pieces ≡ lines ++ rest ∷ [] → proofs_of_pieces (map now pieces) ≡ and_then (state_after_all (map now lines) start 1) (proofs_at_end (length lines + 1) (now rest))
pieces_are pieces lines rest h =
    ap (λ ps. proofs_of_pieces (map now ps)) h
    ∙ ap proofs_of_pieces (map-append now lines (rest ∷ []))
    ∙ last_apart (map now lines) (now rest)
    ∙ ap (λ n. and_then (state_after_all (map now lines) start 1) (proofs_at_end (n + 1) (now rest))) (simp length-map)

fails_by : (table : List (List ℕ)) (e : ProofTextError) (state : Result State ℕ) (f : State → Result (List ProofText) ℕ) → ReadsLines {X = Stage} (IsStageOf table) (Err e) state → ReadsLines {X = ProofFile} (IsFile table) (Err e) (and_then state f)
fails_by table (errors.BadLine n) state f h = ap (λ r. and_then r f) h
fails_by table errors.NoMemory state f h = tt

pub lines_fail : (table : List (List ℕ)) (pieces lines : List (Bor (List ℕ))) (rest : Bor (List ℕ)) (e : ProofTextError) → pieces ≡ lines ++ rest ∷ [] →
    ReadsLines {X = Stage} (IsStageOf table) (Err e) (state_after_all (map now lines) start 1) → ReadsLines {X = ProofFile} (IsFile table) (Err e) (proofs_of_pieces (map now pieces))
lines_fail table pieces lines rest e h reads = subst (ReadsLines {X = ProofFile} (IsFile table) (Err e)) (sym (pieces_are pieces lines rest h)) (fails_by table e _ _ reads)

ends_by : (table : List (List ℕ)) (stage : Stage) (state : Result State ℕ) (r : Result ProofFile ProofTextError) (f : State → Result (List ProofText) ℕ) → ReadsLines {X = Stage} (IsStageOf table) (Ok stage) state →
    ((s : State) → IsStageOf table s stage → ReadsLines (IsFile table) r (f s)) → ReadsLines (IsFile table) r (and_then state f)
ends_by table stage (Ok s) r f h g = g s h
ends_by table stage (Err n) r f h g = absurd h

pub lines_end : (table : List (List ℕ)) (pieces lines : List (Bor (List ℕ))) (rest : Bor (List ℕ)) (stage : Stage) (r : Result ProofFile ProofTextError) → pieces ≡ lines ++ rest ∷ [] →
    ReadsLines {X = Stage} (IsStageOf table) (Ok stage) (state_after_all (map now lines) start 1) → ((s : State) → IsStageOf table s stage → ReadsLines (IsFile table) r (proofs_at_end (length lines + 1) (now rest) s)) →
    ReadsLines (IsFile table) r (proofs_of_pieces (map now pieces))
lines_end table pieces lines rest stage r h reads g = subst (ReadsLines (IsFile table) r) (sym (pieces_are pieces lines rest h)) (ends_by table stage _ r _ reads g)

-- where a file may not end, and where it may
pub not_at_start : (table : List (List ℕ)) (s : State) (stage : Stage) (n : ℕ) (rest : List ℕ) → stage ≡ stages.Start → IsStageOf table s stage → proofs_at_end n rest s ≡ Err n
not_at_start table s stage n rest e h = by_state s rest (subst (IsStageOf table s) e h)
  where
    by_state : (s : State) (rest : List ℕ) → IsStageOf table s stages.Start → proofs_at_end n rest s ≡ Err n
    by_state start [] h = refl
    by_state start (b ∷ bs) h = refl
    by_state (between ps) rest h = absurd h
    by_state (within ps k o ss) rest h = absurd h

abbrev pub is_within : Stage → Bool
is_within (stages.Within done opened) = true
is_within _ = false

pub not_within : (table : List (List ℕ)) (s : State) (stage : Stage) (n : ℕ) (rest : List ℕ) → is_within stage ≡ true → IsStageOf table s stage → proofs_at_end n rest s ≡ Err n
not_within table (within ps k o ss) stage n [] e h = refl
not_within table (within ps k o ss) stage n (b ∷ bs) e h = refl
not_within table start stages.Start n rest e h = cc
not_within table start (stages.Between done) n rest e h = cc
not_within table start (stages.Within done opened) n rest e h = absurd h
not_within table (between ps) stages.Start n rest e h = cc
not_within table (between ps) (stages.Between done) n rest e h = cc
not_within table (between ps) (stages.Within done opened) n rest e h = absurd h

pub not_with_rest : (s : State) (n : ℕ) (rest : List ℕ) → 0 < length rest → proofs_at_end n rest s ≡ Err n
not_with_rest s n [] h = absurd (omega arith)
not_with_rest start n (b ∷ bs) h = refl
not_with_rest (between ps) n (b ∷ bs) h = refl
not_with_rest (within ps k o ss) n (b ∷ bs) h = refl

abbrev pub Holds : Stage → ProofFile → Type 0
Holds (stages.Between done) file = file.proofs ≡ done
Holds _ file = ⊥

pub ends_between : (table : List (List ℕ)) (s : State) (stage : Stage) (n : ℕ) (rest : List ℕ) (file : ProofFile) → Holds stage file → rest ≡ [] → IsStageOf table s stage → ReadsLines {X = ProofFile} (IsFile table) (Ok file) (proofs_at_end n rest s)
ends_between table s stage n rest file holds e h = rw e (by_state s stage holds h)
  where
    by_state : (s : State) (stage : Stage) → Holds stage file → IsStageOf table s stage → ReadsLines {X = ProofFile} (IsFile table) (Ok file) (proofs_at_end n [] s)
    by_state (between ps) (stages.Between done) holds h = subst (Each (IsProofOf table) ps) (sym holds) h
    by_state start (stages.Between done) holds h = absurd h
    by_state (within ps k o ss) (stages.Between done) holds h = absurd h
    by_state s stages.Start holds h = absurd holds
    by_state s (stages.Within done opened) holds h = absurd holds

-- the pieces are few and short
pub few_pieces : (pieces : List (Bor (List ℕ))) (bytes : List ℕ) → map now pieces ≡ slice_split (λ b. eqb b 10) bytes → length pieces ≤ length bytes + 1
few_pieces pieces bytes h =
    let as_many : length (map now pieces) ≡ length (slice_split (λ b. eqb b 10) bytes) = ap length h in
    omega (arith, simp length-map at as_many, length-slice_split (λ b. eqb b 10) bytes, count_by-le-length (λ b. eqb b 10) bytes)

pub short_pieces : (pieces : List (Bor (List ℕ))) (bytes : List ℕ) → map now pieces ≡ slice_split (λ b. eqb b 10) bytes → total_length (map now pieces) ≤ length bytes
short_pieces pieces bytes h = omega (arith, ap total_length h, pieces_short (λ b. eqb b 10) bytes)

total_append : (xs : List (List ℕ)) (x : List ℕ) → total_length (xs ++ x ∷ []) ≡ total_length xs + length x
total_append [] x = omega arith
total_append (y ∷ ys) x = omega (arith, total_append ys x)

pub lines_short : (pieces lines : List (Bor (List ℕ))) (rest : Bor (List ℕ)) → pieces ≡ lines ++ rest ∷ [] → total_length (map now lines) ≤ total_length (map now pieces)
lines_short pieces lines rest h =
    omega (arith, ap (λ ps. total_length (map now ps)) h, ap total_length (map-append now lines (rest ∷ [])), total_append (map now lines) (now rest))

-- the bytes read line by line are this file
abbrev pub ReadsAs : List (List ℕ) → List ℕ → ProofFile → Type 0
ReadsAs table bytes file = (said : List ProofText) × (proofs_of bytes ≡ Ok said) × Each (IsProofOf table) said file.proofs

-- what the pieces say, the bytes do
pub spelled : (table : List (List ℕ)) (bytes : List ℕ) (pieces : List (List ℕ)) (file : ProofFile) → pieces ≡ slice_split (λ b. eqb b 10) bytes → ReadsLines {X = ProofFile} (IsFile table) (Ok file) (proofs_of_pieces pieces) → ReadsAs table bytes file
unfolding proofs_of
spelled table bytes pieces file e h = by_result (proofs_of_pieces pieces) (ap proofs_of_pieces (sym e)) h
  where
    by_result : (r : Result (List ProofText) ℕ) → proofs_of_pieces (slice_split (λ b. eqb b 10) bytes) ≡ r → ReadsLines {X = ProofFile} (IsFile table) (Ok file) r → ReadsAs table bytes file
    by_result (Ok said) is h = (said, is, h)
    by_result (Err n) is h = absurd h

pub first_bad : (table : List (List ℕ)) (bytes : List ℕ) (pieces : List (List ℕ)) (n : ℕ) → pieces ≡ slice_split (λ b. eqb b 10) bytes → ReadsLines {X = ProofFile} (IsFile table) (Err (errors.BadLine n)) (proofs_of_pieces pieces) → proofs_of bytes ≡ Err n
unfolding proofs_of
first_bad table bytes pieces n e h = ap proofs_of_pieces (sym e) ∙ h

pub ok_from : (table : List (List ℕ)) (bytes : List ℕ) (pieces : List (List ℕ)) (r : Result ProofFile ProofTextError) → pieces ≡ slice_split (λ b. eqb b 10) bytes → ReadsLines (IsFile table) r (proofs_of_pieces pieces) → IfOk r (λ file. ReadsAs table bytes file)
ok_from table bytes pieces (Ok file) e h = spelled table bytes pieces file e h
ok_from table bytes pieces (Err p) e h = tt

pub bad_from : (table : List (List ℕ)) (bytes : List ℕ) (pieces : List (List ℕ)) (r : Result ProofFile ProofTextError) (n : ℕ) → pieces ≡ slice_split (λ b. eqb b 10) bytes → ReadsLines (IsFile table) r (proofs_of_pieces pieces) → r ≡ Err (errors.BadLine n) → proofs_of bytes ≡ Err n
bad_from table bytes pieces r n e h is = first_bad table bytes pieces n e (subst (λ (q : Result ProofFile ProofTextError). ReadsLines (IsFile table) q (proofs_of_pieces pieces)) is h)
