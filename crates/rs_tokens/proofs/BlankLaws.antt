-- Blanks at the front of a text.
use Rattle.std.proofs.Common.{◌≡◌, ℕ, ◌+◌, ◌-◌, ◌<◌, ◌≤◌, Bool, true, false, ◌||◌, ◌==◌, not, List, [], ◌∷◌, ◌++◌, length, take, drop, get_or, refl, sym, ap, subst, ◌∙◌, append_assoc, arith, inl, inr}
use Rattle.std.proofs.lemmas.Bool.{false≢true, cases_lt, eqb-true}
use Rattle.std.specs.Str.{IsUtf8, IsCharBoundary}
use Rattle.std.proofs.lemmas.Str.{IsUtf8-drop, IsUtf8-nil, IsCharBoundary-before_ascii, IsCharBoundary-after_ascii, IsCharBoundary-from_drop}
use Rattle.std.proofs.lemmas.List.Sums.{prefix_len_stops}
use Rattle.std.proofs.Math.Seq.{drop-append_seam}
use Rattle.std.proofs.lemmas.List.{drop-drop, drop_all, length-append}
use Rattle.std.specs.List.{prefix_len}
use Rattle.rs_tokens.specs.Blanks.{begins, is_white, is_no_line_feed, line_end, opens_comment, CommentEnds, BlankEnds, white, line, block, Skips, none, more}
use Rattle.rs_tokens.proofs.CommentLaws.{comment_last}
use Rattle.rs_tokens.proofs.ListLaws.{or_true, get_or_seam, begins_true, rest_of, same_head, no_cons}

-- ---- a blank in the code's terms

pub line_blank : (text : List ℕ) (len : ℕ) → begins text 47 47 ≡ true → len ≡ prefix_len is_no_line_feed (take (length text - 2) (drop 2 text)) → BlankEnds text (drop (2 + len) text)
line_blank text len h count =
    let count' : len ≡ prefix_len is_no_line_feed (drop 2 text) = count ∙ ap (prefix_len is_no_line_feed) (rest_of 2 text) in
    let end : drop (2 + len) text ≡ line_end (drop 2 text) =
    ap (λ (n : ℕ). drop n text) (omega arith) ∙ sym (drop-drop len 2 text) ∙ ap (λ (n : ℕ). drop n (drop 2 text)) count' in
    line (begins_true text 47 47 h) end

pub block_blank : (text : List ℕ) (len : ℕ) → begins text 47 42 ≡ true → CommentEnds (take (length text - 2) (drop 2 text)) (drop len (take (length text - 2) (drop 2 text))) → BlankEnds text (drop (2 + len) text)
block_blank text len h ends =
    let ends' : CommentEnds (drop 2 text) (drop len (drop 2 text)) = subst (λ (t : List ℕ). CommentEnds t (drop len t)) (rest_of 2 text) ends in
    let where_to : drop len (drop 2 text) ≡ drop (2 + len) text = drop-drop len 2 text ∙ ap (λ (n : ℕ). drop n text) (omega arith) in
    block (begins_true text 47 42 h) (subst (λ (t : List ℕ). CommentEnds (drop 2 text) t) where_to ends')

-- ---- where no blank stands

pub blank_nil : (text after : List ℕ) → text ≡ [] → BlankEnds text after → ⊥
blank_nil text after is (white e w) = no_cons _ _ (sym is ∙ e)
blank_nil text after is (line e w) = no_cons _ _ (sym is ∙ e)
blank_nil text after is (block e w) = no_cons _ _ (sym is ∙ e)

pub no_blank : (text others : List ℕ) (b : ℕ) → text ≡ b ∷ others → is_white b ≡ false → begins text 47 47 ≡ false → ((rest : List ℕ) → begins text 47 42 ≡ true → CommentEnds (drop 2 text) rest → ⊥)
    → (after : List ℕ) → BlankEnds text after → ⊥
no_blank text others b is black no_line unclosed after (white e w) = false≢true (sym black ∙ ap is_white (same_head text _ _ _ _ is e) ∙ w)
no_blank text others b is black no_line unclosed after (line e w) = false≢true (sym no_line ∙ ap (λ (t : List ℕ). begins t 47 47) e)
no_blank text others b is black no_line unclosed after (block {inside} e ends) =
    unclosed after (ap opens_comment e) (subst (λ (t : List ℕ). CommentEnds t after) (sym (ap (drop 2) e)) ends)

-- a blank at a place
pub blank_at : (text : List ℕ) (at len : ℕ) → BlankEnds (take (length text - at) (drop at text)) (drop len (take (length text - at) (drop at text))) → BlankEnds (drop at text) (drop (at + len) text)
blank_at text at len h =
    subst (λ (t : List ℕ). BlankEnds (drop at text) t) (drop-drop len at text) (subst (λ (t : List ℕ). BlankEnds t (drop len t)) (rest_of at text) h)

-- ---- behind a blank a character begins

not_false : (q : Bool) → not q ≡ false → q ≡ true
not_false true h = refl
not_false false h = absurd (false≢true (sym h))

white_small : (b : ℕ) → is_white b ≡ true → b < 128
white_small b h =
    elim (or_true (((b == 32) || (b == 9)) || (b == 13)) (b == 10) h) [
      | inl first ↦ elim (or_true ((b == 32) || (b == 9)) (b == 13) first) [
        | inl second ↦ elim (or_true (b == 32) (b == 9) second) [ inl e ↦ omega (arith, eqb-true b 32 e) | inr e ↦ omega (arith, eqb-true b 9 e) ]
        | inr e ↦ omega (arith, eqb-true b 13 e)
      ]
      | inr e ↦ omega (arith, eqb-true b 10 e)
    ]

-- behind an ASCII byte
after_ascii : (text front rest : List ℕ) (b : ℕ) → IsUtf8 text → text ≡ front ++ (b ∷ rest) → b < 128 → IsUtf8 rest
after_ascii text front rest b utf8 is small =
    let i = length front in
    let whole : text ≡ (front ++ (b ∷ [])) ++ rest = is ∙ sym (append_assoc front (b ∷ []) rest) in
    let len : length (front ++ (b ∷ [])) ≡ i + 1 = length-append front (b ∷ []) in
    let byte : get_or text i 0 ≡ b = ap (λ (t : List ℕ). get_or t i 0) is ∙ get_or_seam front b rest in
    let boundary = IsCharBoundary-after_ascii text i utf8 (omega (arith, ap length is, length-append front (b ∷ rest))) (omega arith) in
    subst IsUtf8 (ap (λ (k : ℕ). drop k text) (sym len) ∙ ap (drop (length (front ++ (b ∷ [])))) whole ∙ drop-append_seam (front ++ (b ∷ [])) rest) (IsUtf8-drop text (i + 1) utf8 boundary)

line_utf8 : (text : List ℕ) → IsUtf8 text → IsUtf8 (line_end text)
line_utf8 text utf8 =
    let k = prefix_len is_no_line_feed text in
    elim (cases_lt k (length text)) [
      | inl lt ↦ let stop : is_no_line_feed (get_or text k 0) ≡ false = prefix_len_stops is_no_line_feed text 0 lt in
          let byte : get_or text k 0 ≡ 10 = eqb-true (get_or text k 0) 10 (not_false (get_or text k 0 == 10) stop) in
          IsUtf8-drop text k utf8 (IsCharBoundary-before_ascii text k lt (omega arith))
      | inr ge ↦ subst IsUtf8 (sym (drop_all k text ge)) IsUtf8-nil
    ]

blank_utf8 : (text rest : List ℕ) → IsUtf8 text → BlankEnds text rest → IsUtf8 rest
blank_utf8 text rest utf8 (white {b} e w) = after_ascii text [] rest b utf8 e (white_small b w)
blank_utf8 text rest utf8 (line {more = inside} e w) = subst IsUtf8 (sym w) (line_utf8 inside (after_ascii text (47 ∷ []) inside 47 utf8 e (omega arith)))
blank_utf8 text rest utf8 (block {inside} e ends) =
    let last = comment_last inside rest ends in
    after_ascii text (47 ∷ (42 ∷ (last.0 ++ (42 ∷ [])))) rest 47 utf8 (e ∙ ap (λ (x : List ℕ). 47 ∷ (42 ∷ x)) (last.1 ∙ sym (append_assoc last.0 (42 ∷ []) (47 ∷ rest)))) (omega arith)

skips_utf8 : (text rest : List ℕ) → IsUtf8 text → Skips text rest → IsUtf8 rest
skips_utf8 text rest utf8 (none e) = subst IsUtf8 e utf8
skips_utf8 text rest utf8 (more {after} blank skips) = skips_utf8 after rest (blank_utf8 text after utf8 blank) skips

pub skips_boundary : (text : List ℕ) (n : ℕ) → IsUtf8 text → n ≤ length text → Skips text (drop n text) → IsCharBoundary text n
skips_boundary text n utf8 within skips = IsCharBoundary-from_drop text n within (skips_utf8 text (drop n text) utf8 skips)
