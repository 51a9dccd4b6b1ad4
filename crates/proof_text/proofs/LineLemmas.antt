-- Lines and their words.
use Rattle.std.proofs.Common.{◌≡◌, ℕ, ◌+◌, ◌≤◌, codes, List, length, map, Bool, true, false, cond, Option, None, Some, Result, Ok, Err, refl, ap, nat_eq, arith, Bor}
use Rattle.std.specs.List.{slice_split}
use Rattle.std.specs.Option.{option_map, option_copied}
use Rattle.std.specs.Result.{MatchResult, result_ok}
use Rattle.std.specs.Str.{IsUtf8, is_utf8}
use Rattle.std.proofs.lemmas.Str.{IsUtf8-from_is_utf8, is_utf8-from_IsUtf8}
use Rattle.std.proofs.lemmas.List.{length-map}
use Rattle.std.proofs.lemmas.List.Splits.{length-slice_split}
use Rattle.std.proofs.lemmas.List.Sums.{count_by-le-length}
use Rattle.std.specs.Str.{bytes_eq}
use Rattle.proof_kernel.specs.declared.step.Step.{Step}
use Rattle.proof_text.specs.declared.line.Line as code
use Rattle.proof_text.specs.declared.line.Line.TheVariants as lines
use Rattle.proof_text.specs.declared.fault.Fault.{Fault}
use Rattle.proof_text.specs.ProofTextLines.{heading_of, SpellsParts}
use Rattle.proof_text.specs.ProofTextFile.{heading, line_by_head}
use Rattle.proof_text.specs.ProofTextReads.{Reads, IsHeaded, utf8_of}
use Rattle.proof_text.proofs.StepLaw.{parts_are}
use Rattle.proof_text.proofs.StageLemmas.{now}

pub few_words : (c : ℕ) (words : List (Bor (List ℕ))) (text : List ℕ) → map now words ≡ slice_split (λ b. nat_eq b c) text → length words ≤ length text + 1
few_words c words text h =
    let as_many : length (map now words) ≡ length (slice_split (λ b. nat_eq b c) text) = ap length h in
    omega (arith, simp length-map at as_many, length-slice_split (λ b. nat_eq b c) text, count_by-le-length (λ b. nat_eq b c) text)

pub utf8_is : {E : Type 0} (bs : List ℕ) (r : Result (Bor (List ℕ)) E) (Q : E → Type 0) → MatchResult r (λ s. (s.now ≡ bs) × IsUtf8 bs) (λ e. (IsUtf8 bs → ⊥) × Q e) → option_copied (result_ok r) ≡ utf8_of bs
utf8_is bs (Ok x) Q m = let passes = is_utf8-from_IsUtf8 bs m.1 in rw passes (ap Some m.0)
utf8_is bs (Err e) Q m = by (is_utf8 bs) refl where
  by : (passes : Bool) → is_utf8 bs ≡ passes → None ≡ cond passes (Some bs) None
  by true h = absurd (m.0 (IsUtf8-from_is_utf8 bs h))
  by false h = refl

-- a step that is read is a line of its head and rest
pub headed_step : (table : List (List ℕ)) (head : List ℕ) (rest : Option (List ℕ)) (s : Step) → SpellsParts table head rest s → bytes_eq head (codes "proof") ≡ false → bytes_eq head (codes "end") ≡ false →
    Reads {X = code.Line} (IsHeaded table head rest) (Ok (lines.Step s)) (line_by_head head rest)
unfolding line_by_head
headed_step table head rest s h p e = rw (p, e, parts_are table head rest s h) h

-- the first line of a proof is a line of its head and rest
pub headed_proof : (table : List (List ℕ)) (head : List ℕ) (rest : Option (List ℕ)) (word : List ℕ) (r : Result code.Line Fault) → bytes_eq head (codes "proof") ≡ true → rest ≡ Some word →
    Reads (IsHeaded table head (Some word)) r (option_map (λ h. heading h.0 h.1) (heading_of word)) → Reads (IsHeaded table head rest) r (line_by_head head rest)
unfolding line_by_head
headed_proof table head rest word r p e reads = rw (e, p) reads
