-- The names that a file gives, line by line.
use Rattle.std.proofs.Common.{◌≡◌, ℕ, ◌+◌, ◌<◌, ◌≤◌, Bool, true, false, List, [], ◌∷◌, ◌++◌, length, map, take, get_or, codes, Option, Some, None, Result, Ok, Err, subst, refl, sym, ◌∙◌, ap, append_assoc, Bor, ◌||◌, ◌==◌, true≢false}
use Rattle.std.specs.Prelude.{OnOk}
use Rattle.std.specs.List.{slice_split}
use Rattle.std.specs.Str.{bytes_eq}
use Rattle.std.proofs.Math.Dec.{eqb}
use Rattle.std.proofs.lemmas.List.{take_all, take_more, map-append, append-nil}
use Rattle.std.proofs.lemmas.Slice.Eq.{bytes_eq-Decides}
use Rattle.name_tables.specs.NameTables.{with_name, with_names}
use Rattle.name_tables.proofs.Tables.{names_append as tables_append}
use Rattle.proof_text.specs.declared.proof.ProofFile.{ProofFile}
use Rattle.proof_text.specs.declared.fault.ProofTextError.{ProofTextError}
use Rattle.proof_kernel.specs.declared.step.TermRule.{TermRule}
use Rattle.proof_text.specs.declared.rule_words.TermLine.TheVariants.{Rule, Division, Instance}
use Rattle.source_words.specs.Words.{GivesNames, identifiers_in}
use Rattle.proof_text.specs.ProofTextRules.{lists_behind, term_line_of}
use Rattle.proof_text.specs.ProofTextReads.{GivesTexts}
use Rattle.proof_text.specs.ProofTextWords.{two_texts, lists_of, joined}
use Rattle.proof_text.specs.ProofTextLines.{rest_of, texts_by, terms_behind, NamesInRule, NamesInTerms, NamesInTwo, NamesByLine, NamesOfParts, NamesTexts, IsHeading, IsEnd}
use Rattle.proof_text.specs.ProofTextFile.{is_passed}
use Rattle.proof_text.specs.ProofFileForm.{IsComment, LinesName, HasNamesOf}
use Rattle.proof_text.proofs.LineLaw.{more_before, not_empty, hash_is}
use Rattle.proof_text.proofs.StepLaw.{line_names_once}
use Rattle.proof_text.proofs.StageLemmas.{now}

-- ---- the words of a line

-- one more text
pub one_more_named : (old before new : List (List ℕ)) (texts : List (Bor (List ℕ))) (i : ℕ) (d : Bor (List ℕ)) → i < length texts → before ≡ with_names old (map now (take i texts)) →
    new ≡ with_name before (now (get_or texts i d)) → new ≡ with_names old (map now (take (i + 1) texts))
one_more_named old before new texts i d h so_far more =
    more
    ∙ (ap (λ (ts : List (List ℕ)). with_name ts (now (get_or texts i d))) so_far
    ∙ (sym (tables_append old (map now (take i texts)) (now (get_or texts i d) ∷ []))
    ∙ ap (with_names old) (sym (map-append now (take i texts) (get_or texts i d ∷ [])) ∙ ap (map now) (sym (take_more texts i d h)))))

-- the first and the last line of a proof name nothing
pub proof_names : (rest : Option (List ℕ)) → NamesOfParts (codes "proof") rest []
unfolding NamesOfParts texts_by term_line_of
proof_names rest = refl

pub end_names : (rest : Option (List ℕ)) → NamesOfParts (codes "end") rest []
unfolding NamesOfParts texts_by term_line_of
end_names rest = refl

pub none_by : (head word : List ℕ) (rest : Option (List ℕ)) → bytes_eq head word ≡ true → NamesOfParts word rest [] → NamesOfParts head rest []
none_by head word rest e h = subst (λ (w : List ℕ). NamesOfParts w rest []) (sym ((bytes_eq-Decides head word).0 e)) h

pub heading_names : (text : List ℕ) (number : ℕ) (owner : List ℕ) → IsHeading text number owner → NamesTexts text []
heading_names text number owner h = subst (λ (w : List ℕ). NamesOfParts w (rest_of text) []) (sym h.1) (proof_names (rest_of text))

pub end_line_names : (text : List ℕ) → IsEnd text → NamesTexts text []
unfolding NamesOfParts texts_by term_line_of
end_line_names text h = subst (λ (t : List ℕ). NamesTexts t []) (sym h) refl

pub header_names : (text : List ℕ) → bytes_eq text (codes "creusot-proofs 1") ≡ true → NamesTexts text []
unfolding NamesOfParts texts_by term_line_of
header_names text e = subst (λ (t : List ℕ). NamesTexts t []) (sym ((bytes_eq-Decides text (codes "creusot-proofs 1")).0 e)) refl

hash_names : (b : ℕ) (bs : List ℕ) → b ≡ 35 → NamesTexts (b ∷ bs) []
unfolding NamesOfParts texts_by term_line_of
hash_names b bs e =
    subst (λ (c : ℕ). NamesTexts (c ∷ bs) []) (sym e) (subst (λ (h : List ℕ). NamesOfParts h (rest_of (35 ∷ bs)) []) (sym (more_before 35 bs refl)) refl)

pub comment_names : (text : List ℕ) → IsComment text → NamesTexts text []
unfolding NamesOfParts texts_by term_line_of
comment_names [] h = refl
comment_names (b ∷ bs) h = hash_names b bs h

passed_is : (b : ℕ) (bs : List ℕ) (t s : Bool) → (length (b ∷ bs) == 0) ≡ t → (b == 35) ≡ s → (t || s) ≡ true → NamesTexts (b ∷ bs) []
passed_is b bs true s empty hash e = absurd (not_empty b bs empty)
passed_is b bs false true empty hash e = hash_names b bs (hash_is b hash)
passed_is b bs false false empty hash e = absurd (true≢false (sym e))

pub passed_names : (text : List ℕ) → is_passed text ≡ true → NamesTexts text []
passed_names [] e = comment_names [] tt
passed_names (b ∷ bs) e = passed_is b bs (length (b ∷ bs) == 0) (b == 35) refl refl e

-- ---- line by line

pub on_ok : {A E : Type 0} {P : Type 0} (r : Result A E) → P → OnOk r P
on_ok (Ok x) p = p
on_ok (Err e) p = tt

pub on_both : {A E : Type 0} {P Q : Type 0} (r : Result A E) → OnOk r P → (P → Q) → OnOk r Q
on_both (Ok x) p f = f p
on_both (Err e) p f = tt

-- no text is given a name
pub gives_none : (Names : List (List ℕ) → Type 0) (old : List (List ℕ)) → Names [] → GivesTexts Names old old
gives_none Names old h = ([], h, refl)

-- the texts of the rule and of none are those of the line
pub gives_plain : (head : List ℕ) (rest : Option (List ℕ)) (old new : List (List ℕ)) → None ≡ term_line_of head → new ≡ with_names old (texts_by head rest) → GivesTexts (NamesOfParts head rest) old new
unfolding NamesOfParts
gives_plain head rest old new e h = (texts_by head rest, subst (λ o. NamesByLine o head rest (texts_by head rest)) e refl, h)

pub gives_rule : (head rest : List ℕ) (own : Option (List ℕ)) (rule : TermRule) (old new : List (List ℕ)) → Some (Rule rule) ≡ term_line_of head → own ≡ Some rest → GivesTexts (NamesInRule (lists_behind rule rest) (Some rest)) old new →
    GivesTexts (NamesOfParts head own) old new
unfolding NamesOfParts
gives_rule head rest own rule old new e is g = (g.0, subst (λ r. NamesByLine (term_line_of head) head r g.0) (sym is) (subst (λ o. NamesByLine o head (Some rest) g.0) e g.1), g.2)

-- what a term alone names
pub gives_term : (old new : List (List ℕ)) (rest : List ℕ) (o : Option (List ℕ × List (List ℕ))) → o ≡ None → GivesNames old rest new → GivesTexts (NamesInRule o (Some rest)) old new
gives_term old new rest o none g =
    let texts : List (List ℕ) = identifiers_in rest g.tokens in
    let names : NamesInRule None (Some rest) texts = record { tokens = g.tokens; are_tokens = g.are_tokens; are = refl } in
    (texts, subst (λ r. NamesInRule r (Some rest) texts) (sym none) names, g.is)

-- and one before lists of names
pub gives_lists : (old mid new : List (List ℕ)) (text : List ℕ) (words : List (List ℕ)) (rest : Option (List ℕ)) → GivesNames old text mid → new ≡ with_names mid (joined (lists_of words)) → GivesTexts (NamesInRule (Some (text, words)) rest) old new
gives_lists old mid new text words rest g more =
    let own : List (List ℕ) = identifiers_in text g.tokens in
    let others : List (List ℕ) = joined (lists_of words) in
    (own ++ others, (own, record { tokens = g.tokens; are_tokens = g.are_tokens; are = refl }, refl), more ∙ (ap (λ (ts : List (List ℕ)). with_names ts others) g.is ∙ sym (tables_append old own others)))

pub gives_two : (head rest : List ℕ) (own : Option (List ℕ)) (old new : List (List ℕ)) → Some Division ≡ term_line_of head → own ≡ Some rest → GivesTexts (NamesInTwo (two_texts rest)) old new → GivesTexts (NamesOfParts head own) old new
unfolding NamesOfParts
gives_two head rest own old new e is g = (g.0, subst (λ r. NamesByLine (term_line_of head) head r g.0) (sym is) (subst (λ o. NamesByLine o head (Some rest) g.0) e g.1), g.2)

pub gives_instance : (head rest : List ℕ) (own : Option (List ℕ)) (old new : List (List ℕ)) → Some Instance ≡ term_line_of head → own ≡ Some rest → GivesTexts (NamesInTerms (terms_behind (Some rest))) old new → GivesTexts (NamesOfParts head own) old new
unfolding NamesOfParts
gives_instance head rest own old new e is g = (g.0, subst (λ r. NamesByLine (term_line_of head) head r g.0) (sym is) (subst (λ o. NamesByLine o head (Some rest) g.0) e g.1), g.2)

-- what two terms name, one behind the other
pub gives_both : (old mid new : List (List ℕ)) (rest : List ℕ) (texts : List ℕ × List ℕ) → two_texts rest ≡ Some texts → GivesNames old texts.0 mid → GivesNames mid texts.1 new → GivesTexts (NamesInTwo (two_texts rest)) old new
gives_both old mid new rest texts e g h =
    let first : List (List ℕ) = identifiers_in texts.0 g.tokens in
    let second : List (List ℕ) = identifiers_in texts.1 h.tokens in
    let names : NamesInTwo (Some texts) (first ++ second) =
    (first, second, record { tokens = g.tokens; are_tokens = g.are_tokens; are = refl }, record { tokens = h.tokens; are_tokens = h.are_tokens; are = refl }, refl) in
    (first ++ second, subst (λ o. NamesInTwo o (first ++ second)) (sym e) names, h.is ∙ (ap (λ (ts : List (List ℕ)). with_names ts second) g.is ∙ sym (tables_append old first second)))

pub names_append : (xs ys a b : List (List ℕ)) → LinesName xs a → LinesName ys b → LinesName (xs ++ ys) (a ++ b)
names_append [] ys a b h k = subst (λ (ts : List (List ℕ)). LinesName ys (ts ++ b)) (sym h) k
names_append (x ∷ xs) ys a b h k =
    (h.0, h.1 ++ b, h.2, names_append xs ys h.1 b h.3 k, ap (λ ts. ts ++ b) h.4 ∙ append_assoc h.0 h.1 b)

names_push : (xs : List (List ℕ)) (x : List ℕ) (a b : List (List ℕ)) → LinesName xs a → NamesTexts x b → LinesName (xs ++ x ∷ []) (a ++ b)
names_push xs x a b h k = names_append xs (x ∷ []) a b h (b, [], k, refl, sym (append-nil b))

-- an empty line behind them names nothing
pub names_with_none : (lines texts : List (List ℕ)) → LinesName lines texts → LinesName (lines ++ [] ∷ []) texts
names_with_none lines texts h = subst (λ (ts : List (List ℕ)). LinesName (lines ++ [] ∷ []) ts) (append-nil texts) (names_push lines [] texts [] h (comment_names [] tt))

-- lines name one list of texts
pub lines_name_once : (lines one other : List (List ℕ)) → LinesName lines one → LinesName lines other → one ≡ other
lines_name_once [] one other a b = a ∙ sym b
lines_name_once (line ∷ lines) one other a b =
    let own : a.0 ≡ b.0 = line_names_once line a.0 b.0 a.2 b.2 in
    let others : a.1 ≡ b.1 = lines_name_once lines a.1 b.1 a.3 b.3 in
    a.4 ∙ (ap (λ ts. ts ++ a.1) own ∙ (ap (λ ts. b.0 ++ ts) others ∙ sym b.4))

-- one more line
pub line_named : (old before new : List (List ℕ)) (lines : List (Bor (List ℕ))) (i : ℕ) (d : Bor (List ℕ)) → i < length lines → GivesTexts (LinesName (map now (take i lines))) old before →
    GivesTexts (NamesTexts (now (get_or lines i d))) before new → GivesTexts (LinesName (map now (take (i + 1) lines))) old new
line_named old before new lines i d h so_far more =
    let line : List ℕ = now (get_or lines i d) in
    let texts : List (List ℕ) = so_far.0 ++ more.0 in
    let all : map now (take i lines) ++ line ∷ [] ≡ map now (take (i + 1) lines) = sym (map-append now (take i lines) (get_or lines i d ∷ [])) ∙ ap (map now) (sym (take_more lines i d h)) in (
      texts,
      subst (λ (ls : List (List ℕ)). LinesName ls texts) all (names_push (map now (take i lines)) line so_far.0 more.0 so_far.1 more.1),
      more.2 ∙ (ap (λ (ts : List (List ℕ)). with_names ts more.0) so_far.2 ∙ sym (tables_append old so_far.0 more.0)),
    )

-- all lines
pub all_named : (old names : List (List ℕ)) (lines : List (Bor (List ℕ))) (at : ℕ) → length lines ≤ at → GivesTexts (LinesName (map now (take at lines))) old names → GivesTexts (LinesName (map now lines)) old names
all_named old names lines at h named = subst (λ (ls : List (Bor (List ℕ))). GivesTexts (LinesName (map now ls)) old names) (take_all at lines h) named

-- an empty rest names nothing
pub pieces_named : (old new : List (List ℕ)) (pieces lines : List (Bor (List ℕ))) (rest : Bor (List ℕ)) → pieces ≡ lines ++ rest ∷ [] → now rest ≡ [] → GivesTexts (LinesName (map now lines)) old new →
    GivesTexts (LinesName (map now pieces)) old new
pieces_named old new pieces lines rest h e named =
    let all : map now lines ++ [] ∷ [] ≡ map now pieces = ap (λ (r : List ℕ). map now lines ++ r ∷ []) (sym e) ∙ (sym (map-append now lines (rest ∷ [])) ∙ ap (map now) (sym h)) in
    (named.0, subst (λ (ls : List (List ℕ)). LinesName ls named.0) all (names_with_none (map now lines) named.0 named.1), named.2)

-- what the pieces name, the bytes do
pub named_from : (old new : List (List ℕ)) (bytes : List ℕ) (pieces : List (List ℕ)) (r : Result ProofFile ProofTextError) → pieces ≡ slice_split (λ b. eqb b 10) bytes → OnOk r (GivesTexts (LinesName pieces) old new) →
    OnOk r (HasNamesOf old bytes new)
named_from old new bytes pieces (Ok file) is named = (named.0, subst (λ (ls : List (List ℕ)). LinesName ls named.0) is named.1, named.2)
named_from old new bytes pieces (Err e) is named = tt
