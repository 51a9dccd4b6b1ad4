-- Lines of two terms, and of a label and terms, as they are read.
use Rattle.std.proofs.Common.{◌≡◌, ℕ, ◌+◌, ◌<◌, ◌≤◌, Bool, true, false, cond, List, [], ◌∷◌, ◌++◌, length, map, take, get_or, Option, Some, None, Ok, refl, sym, ap, subst, arith, codes, nat_eq, nat_lt, length-append, Bor}
use Rattle.std.specs.Global.{Vec}
use Rattle.std.specs.List.{slice_split, position_or_len, before_first, after_first}
use Rattle.std.proofs.lemmas.Bool.Decides.{nat_tests}
use Rattle.std.proofs.lemmas.List.Sums.{split_at_first}
use Rattle.logic_term.specs.declared.kinds.Label2.{Label2}
use Rattle.source_trees.specs.Pterm.{Pterm}
use Rattle.source_words.specs.Words.{GivesNames, identifiers_in}
use Rattle.term_texts.specs.TermTexts.{SpellsWholeTerm}
use Rattle.term_texts.proofs.TermLaw.{kept_term}
use Rattle.proof_kernel.specs.declared.step.Step.TheVariants.{Divide}
use Rattle.proof_text.specs.ProofTextWords.{◌>>=◌, Each, cut, before_space, behind_space, two_texts, at_semicolon, texts_from, texts_of, texts_in, label_of, label_and_text, label_and_texts}
use Rattle.proof_text.specs.ProofTextLines.{SpellsParts}
use Rattle.proof_text.specs.ProofTextReads.{Reads, total_length}
use Rattle.proof_text.proofs.TermLists.{each_map, up_to_next}
use Rattle.proof_text.proofs.StageLemmas.{now, each_push, pieces_short}
use Rattle.proof_text.proofs.KeptNames.{keeps_by}
use Rattle.proof_text.proofs.NumeralLemmas.{space_there}

cut_shorter : (c : ℕ) (bs : List ℕ) (p : List ℕ × List ℕ) → cut c bs ≡ Some p → length p.0 + length p.1 ≤ length bs
cut_shorter c bs p e = at (nat_lt (position_or_len (λ b. nat_eq b c) bs) (length bs)) refl e
  where
    at : (t : Bool) → nat_lt (position_or_len (λ b. nat_eq b c) bs) (length bs) ≡ t → cond t (Some (before_first (λ b. nat_eq b c) bs, after_first (λ b. nat_eq b c) bs)) None ≡ Some p → length p.0 + length p.1 ≤ length bs
    at true is f =
        let same : (before_first (λ b. nat_eq b c) bs, after_first (λ b. nat_eq b c) bs) ≡ p = cc in
        let there : position_or_len (λ b. nat_eq b c) bs < length bs = grind (arith, nat_tests, is) in
        let split = split_at_first (λ b. nat_eq b c) bs 0 there in
        subst (λ (q : List ℕ × List ℕ). length q.0 + length q.1 ≤ length bs) same
        (omega (arith, ap length split, length-append (before_first (λ b. nat_eq b c) bs) (get_or bs (position_or_len (λ b. nat_eq b c) bs) 0 ∷ after_first (λ b. nat_eq b c) bs)))
    at false is f = absurd (cc)

before_shorter : (bs front : List ℕ) → before_space bs ≡ Some front → length front ≤ length bs
before_shorter bs front e = omega (arith, ap length (space_there bs front e), length-append front (32 ∷ []))

behind_shorter : (bs rest : List ℕ) → behind_space bs ≡ Some rest → length rest ≤ length bs
behind_shorter [] rest e = absurd (cc)
behind_shorter (b ∷ bs) rest e = at (nat_eq b 32) e
  where
    at : (t : Bool) → cond t (Some bs) None ≡ Some rest → length rest ≤ length (b ∷ bs)
    at true f = let same : bs ≡ rest = cc in subst (λ (r : List ℕ). length r ≤ length (b ∷ bs)) same (omega arith)
    at false f = absurd (cc)

-- both together are no longer than the rest
pub two_shorter : (rest : List ℕ) (texts : List ℕ × List ℕ) → two_texts rest ≡ Some texts → length texts.0 + length texts.1 ≤ length rest
unfolding two_texts
two_shorter rest texts e = by_cut (cut 59 rest) refl e
  where
    by_behind : (parts : List ℕ × List ℕ) (first : List ℕ) (o : Option (List ℕ)) → length parts.0 + length parts.1 ≤ length rest → length first ≤ length parts.0 → behind_space parts.1 ≡ o →
        (o >>= (λ (second : List ℕ). Some (first, second))) ≡ Some texts → length texts.0 + length texts.1 ≤ length rest
    by_behind parts first None h k is f = absurd (cc)
    by_behind parts first (Some second) h k is f =
        let same : (first, second) ≡ texts = cc in
        subst (λ (q : List ℕ × List ℕ). length q.0 + length q.1 ≤ length rest) same (omega (arith, h, k, behind_shorter parts.1 second is))

    by_before : (parts : List ℕ × List ℕ) (o : Option (List ℕ)) → length parts.0 + length parts.1 ≤ length rest → before_space parts.0 ≡ o →
        (o >>= (λ (first : List ℕ). behind_space parts.1 >>= (λ (second : List ℕ). Some (first, second)))) ≡ Some texts → length texts.0 + length texts.1 ≤ length rest
    by_before parts None h is f = absurd (cc)
    by_before parts (Some first) h is f = by_behind parts first (behind_space parts.1) h (before_shorter parts.0 first is) refl f

    by_cut : (o : Option (List ℕ × List ℕ)) → cut 59 rest ≡ o →
        (o >>= (λ (parts : List ℕ × List ℕ). before_space parts.0 >>= (λ (first : List ℕ). behind_space parts.1 >>= (λ (second : List ℕ). Some (first, second))))) ≡ Some texts → length texts.0 + length texts.1 ≤ length rest
    by_cut None is f = absurd (cc)
    by_cut (Some parts) is f = by_before parts (before_space parts.0) (cut_shorter 59 rest parts is) refl f

-- the terms that were read, the second behind the first
pub two_spelled : (mid new : List (List ℕ)) (rest : List ℕ) (texts : List ℕ × List ℕ) (t u : Pterm) → two_texts rest ≡ Some texts → SpellsWholeTerm mid texts.0 t → GivesNames mid texts.1 new → SpellsWholeTerm new texts.1 u →
    SpellsParts new (codes "div") (Some rest) (Divide t u)
two_spelled mid new rest texts t u e h g k = (refl, (texts, e, kept_term mid new (keeps_by mid new (identifiers_in texts.1 g.tokens) g.is) texts.0 t h, k))

-- ---- a label and terms

behind_label_shorter : (rest : List ℕ) (found : Label2 × List ℕ) → label_and_text rest ≡ Some found → length found.1 ≤ length rest
unfolding label_and_text
behind_label_shorter rest found e = by_cut (cut 32 rest) refl e
  where
    by_label : (parts : List ℕ × List ℕ) (o : Option Label2) → length parts.0 + length parts.1 ≤ length rest → (o >>= (λ (label : Label2). Some (label, parts.1))) ≡ Some found → length found.1 ≤ length rest
    by_label parts None h f = absurd (cc)
    by_label parts (Some label) h f = let same : parts.1 ≡ found.1 = cc in subst (λ (t : List ℕ). length t ≤ length rest) same (omega (arith, h))

    by_cut : (o : Option (List ℕ × List ℕ)) → cut 32 rest ≡ o → (o >>= (λ (parts : List ℕ × List ℕ). label_of parts.0 >>= (λ (label : Label2). Some (label, parts.1)))) ≡ Some found → length found.1 ≤ length rest
    by_cut None is f = absurd (cc)
    by_cut (Some parts) is f = by_label parts (label_of parts.0) (cut_shorter 32 rest parts is) f

-- what stands around a semicolon
semicolon_shorter : (front back : List ℕ) (ends : List ℕ × List ℕ) → at_semicolon front back ≡ Some ends → (length ends.0 ≤ length front) × (length ends.1 ≤ length back)
semicolon_shorter front back ends e = by_before (before_space front) refl e
  where
    by_behind : (first : List ℕ) (o : Option (List ℕ)) → length first ≤ length front → behind_space back ≡ o → (o >>= (λ (second : List ℕ). Some (first, second))) ≡ Some ends → (length ends.0 ≤ length front) × (length ends.1 ≤ length back)
    by_behind first None h is f = absurd (cc)
    by_behind first (Some second) h is f =
        let same : (first, second) ≡ ends = cc in
        subst (λ (q : List ℕ × List ℕ). (length q.0 ≤ length front) × (length q.1 ≤ length back)) same (h, behind_shorter back second is)

    by_before : (o : Option (List ℕ)) → before_space front ≡ o → (o >>= (λ (first : List ℕ). behind_space back >>= (λ (second : List ℕ). Some (first, second)))) ≡ Some ends → (length ends.0 ≤ length front) × (length ends.1 ≤ length back)
    by_before None is f = absurd (cc)
    by_before (Some first) is f = by_behind first (behind_space back) (before_shorter front first is) refl f

from_shorter : (text : List ℕ) (pieces texts : List (List ℕ)) → texts_from text pieces ≡ Some texts → total_length texts ≤ length text + total_length pieces
from_shorter text [] texts e = let same : text ∷ [] ≡ texts = cc in subst (λ (ts : List (List ℕ)). total_length ts ≤ length text + 0) same (omega arith)
from_shorter text (piece ∷ pieces) texts e = by_ends (at_semicolon text piece) refl (λ next others is. from_shorter next pieces others is) e
  where
    by_others : (ends : List ℕ × List ℕ) (o : Option (List (List ℕ))) → length ends.0 ≤ length text → length ends.1 ≤ length piece → ((others : List (List ℕ)) → o ≡ Some others → total_length others ≤ length ends.1 + total_length pieces) →
        (o >>= (λ (others : List (List ℕ)). Some (ends.0 ∷ others))) ≡ Some texts → total_length texts ≤ length text + (length piece + total_length pieces)
    by_others ends None h k short f = absurd (cc)
    by_others ends (Some others) h k short f =
        let same : ends.0 ∷ others ≡ texts = cc in
        let rest = short others refl in
        subst (λ (ts : List (List ℕ)). total_length ts ≤ length text + (length piece + total_length pieces)) same (omega (arith, h, k, rest))

    by_ends : (o : Option (List ℕ × List ℕ)) → at_semicolon text piece ≡ o → ((next : List ℕ) (others : List (List ℕ)) → texts_from next pieces ≡ Some others → total_length others ≤ length next + total_length pieces) →
        (o >>= (λ (ends : List ℕ × List ℕ). texts_from ends.1 pieces >>= (λ (others : List (List ℕ)). Some (ends.0 ∷ others)))) ≡ Some texts → total_length texts ≤ length text + (length piece + total_length pieces)
    by_ends None is short f = absurd (cc)
    by_ends (Some ends) is short f = let both = semicolon_shorter text piece ends is in by_others ends (texts_from ends.1 pieces) both.0 both.1 (short ends.1) f

of_shorter : (pieces texts : List (List ℕ)) → texts_of pieces ≡ Some texts → total_length texts ≤ total_length pieces
of_shorter [] texts e = absurd (cc)
of_shorter (piece ∷ pieces) texts e = from_shorter piece pieces texts e

in_shorter : (text : List ℕ) (texts : List (List ℕ)) → texts_in text ≡ Some texts → total_length texts ≤ length text
unfolding texts_in
in_shorter text texts e = omega (arith, of_shorter (slice_split (λ b. nat_eq b 59) text) texts e, pieces_short (λ b. nat_eq b 59) text)

pub terms_shorter : (rest : List ℕ) (found : Label2 × List (List ℕ)) → label_and_texts rest ≡ Some found → total_length found.1 ≤ length rest
unfolding label_and_texts
terms_shorter rest found e = by_label (label_and_text rest) refl e
  where
    by_texts : (parts : Label2 × List ℕ) (o : Option (List (List ℕ))) → length parts.1 ≤ length rest → texts_in parts.1 ≡ o → (o >>= (λ (texts : List (List ℕ)). Some (parts.0, texts))) ≡ Some found → total_length found.1 ≤ length rest
    by_texts parts None h is f = absurd (cc)
    by_texts parts (Some texts) h is f =
        let same : (parts.0, texts) ≡ found = cc in
        let short = in_shorter parts.1 texts is in
        subst (λ (q : Label2 × List (List ℕ)). total_length q.1 ≤ length rest) same (omega (arith, h, short))

    by_label : (o : Option (Label2 × List ℕ)) → label_and_text rest ≡ o → (o >>= (λ (parts : Label2 × List ℕ). texts_in parts.1 >>= (λ (texts : List (List ℕ)). Some (parts.0, texts)))) ≡ Some found → total_length found.1 ≤ length rest
    by_label None is f = absurd (cc)
    by_label (Some parts) is f = by_texts parts (texts_in parts.1) (behind_label_shorter rest parts is) refl f

-- the texts that were read
pub read_shorter : (rest : List ℕ) (label : Label2) (texts : Vec (Bor (List ℕ))) →
    Reads {X = Label2 × Vec (Bor (List ℕ))} (λ said found. (said.0 ≡ found.0) × (said.1 ≡ map now found.1.items)) (Ok (label, texts)) (label_and_texts rest) → total_length (map now texts.items) ≤ length rest
read_shorter rest label texts h = by (label_and_texts rest) refl h
  where
    by : (o : Option (Label2 × List (List ℕ))) → label_and_texts rest ≡ o → Reads {X = Label2 × Vec (Bor (List ℕ))} (λ said found. (said.0 ≡ found.0) × (said.1 ≡ map now found.1.items)) (Ok (label, texts)) o → total_length (map now texts.items) ≤ length rest
    by None is k = absurd k
    by (Some found) is k = subst (λ (ts : List (List ℕ)). total_length ts ≤ length rest) k.1 (terms_shorter rest found is)

-- one more term is spelled
pub next_spelled : (before new : List (List ℕ)) (texts : List (Bor (List ℕ))) (ts more : List Pterm) (i : ℕ) (d : Bor (List ℕ)) (t : Pterm) → i < length texts → more ≡ ts ++ t ∷ [] → Each (SpellsWholeTerm before) (map now (take i texts)) ts →
    GivesNames before (now (get_or texts i d)) new → SpellsWholeTerm new (now (get_or texts i d)) t → Each (SpellsWholeTerm new) (map now (take (i + 1) texts)) more
next_spelled before new texts ts more i d t h is so_far g k =
    let text : List ℕ = now (get_or texts i d) in
    let keeps = keeps_by before new (identifiers_in text g.tokens) g.is in
    let kept : Each (SpellsWholeTerm new) (map now (take i texts)) ts = each_map (SpellsWholeTerm before) (SpellsWholeTerm new) (kept_term before new keeps) (map now (take i texts)) ts so_far in
    subst (λ (xs : List (List ℕ)). Each (SpellsWholeTerm new) xs more) (up_to_next texts i d h)
    (subst (λ (ys : List Pterm). Each (SpellsWholeTerm new) (map now (take i texts) ++ text ∷ []) ys) (sym is) (each_push (SpellsWholeTerm new) (map now (take i texts)) ts text t kept k))
