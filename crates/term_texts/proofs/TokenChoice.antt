-- Whether a text is tokens is decided: each part of a lexer, as a proof.
use Rattle.std.proofs.Common.{◌≡◌, ℕ, zero, suc, ◌+◌, ◌<◌, ◌≤◌, Bool, true, false, ◌&&◌, ◌==◌, List, [], ◌∷◌, ◌++◌, length, take, drop, Option, Some, None, ◌⊎◌, inl, inr, refl, sym, ◌∙◌, ap, subst, arith, append_assoc, length-append, length-drop}
use Rattle.std.specs.Prelude.{◌≢◌}
use Rattle.std.specs.List.{list_all, prefix_len}
use Rattle.std.specs.Str.{is_utf8}
use Rattle.std.proofs.lemmas.Bool.{false≢true, eqb-true, cases_lt}
use Rattle.std.proofs.lemmas.Bool.Decides.{nat_tests}
use Rattle.std.proofs.lemmas.List.{take-append-drop, length-take-le}
use Rattle.std.proofs.lemmas.Str.{IsUtf8-from_is_utf8, is_utf8-from_IsUtf8}
use Rattle.std.proofs.Math.Seq.{drop-append_seam}
use Rattle.text_core.specs.declared.span.Span.{Span}
use Rattle.rs_tokens.specs.declared.token.Token.{Token}
use Rattle.rs_tokens.specs.declared.token.TokenKind.{TokenKind}
use Rattle.rs_tokens.specs.declared.token.TokenKind.TheVariants.{Int, Str, Lifetime}
use Rattle.rs_tokens.specs.Tables.{marks, kind_in}
use Rattle.rs_tokens.specs.Tokens.{IsWord, word_kind, is_digit, continues_digits, base_of, after_base, is_suffix, IsInteger, StringEnds, IsString, IsQuotedWord, IsToken, IsLongestToken, refused_of, is_word}
use Rattle.rs_tokens.specs.Tokens.StringEnds.{quote, escape, plain}
use Rattle.rs_tokens.specs.Tokens.IsToken.{word, integer, string, lifetime, mark}
use Rattle.rs_tokens.specs.Blanks.{begins, is_white, is_no_line_feed, line_end, opens_comment, closes_comment, CommentEnds, close, nested, other, BlankEnds, white, line, block, Skips, none, more, Settles}
use Rattle.rs_tokens.specs.Reading.{Gives, HasEnded, HasTokens, ended, token, AreTokens}
use Rattle.rs_tokens.proofs.ListLaws.{same_head, same_tail, same_second, no_cons, and_true, begins_true, front_take, front_le}
use Rattle.rs_tokens.proofs.CommentLaws.{comment_nil, comment_open, comment_other, one_end, comment_last}
use Rattle.rs_tokens.proofs.BlankLaws.{blank_nil, no_blank}
use Rattle.rs_tokens.proofs.StringLaws.{string_nil, string_quote, string_escape, string_open_escape, string_plain}
use Rattle.rs_tokens.proofs.IdentifierLaws.{word_passes, passes_word}
use Rattle.rs_tokens.proofs.TokenLaws.{one_kind}
use Rattle.rs_tokens.proofs.OneReading.{one_token, token_no_end}
use Rattle.source_words.proofs.TokenCounts.{few_tokens}

abbrev pub Choice : Type 0 → Type 0
Choice P = P ⊎ (P → ⊥)

pub by_test : (b : Bool) → Choice (b ≡ true)
by_test true = inl refl
by_test false = inr (λ e. false≢true e)

same_number : (m n : ℕ) → Choice (m ≡ n)
same_number m n = by (m == n) refl
  where
    by : (b : Bool) → (m == n) ≡ b → Choice (m ≡ n)
    by true e = inl (eqb-true m n e)
    by false e = inr (λ (same : m ≡ n). let test : (m == n) ≡ true = grind (arith, nat_tests, same) in false≢true (sym e ∙ test))

-- ---- comments and blanks

comment_shorter : (text rest : List ℕ) → CommentEnds text rest → length rest < length text
comment_shorter text rest h = let last = comment_last text rest h in omega (arith, ap length last.1, length-append last.0 (42 ∷ (47 ∷ rest)))

abbrev CommentEnd : List ℕ → Type 0
CommentEnd text = (rest : List ℕ) × CommentEnds text rest

-- the same of each text that is no longer
abbrev ShortEnd : ℕ → Type 0
ShortEnd n = (t : List ℕ) → length t ≤ n → Choice (CommentEnd t)

comment_end : (n : ℕ) (text : List ℕ) → length text ≤ n → Choice (CommentEnd text)
comment_end n [] h = inr (λ c. comment_nil [] c.0 refl c.1)
comment_end zero (b ∷ bs) h = absurd (omega (arith, h))
comment_end (suc n) (b ∷ bs) h = by (λ t le. comment_end n t le) (closes_comment (b ∷ bs)) (opens_comment (b ∷ bs)) refl refl
  where
    inside : List ℕ
    inside = drop 2 (b ∷ bs)

    shorter : length inside ≤ n
    shorter = omega (arith, h, length-drop 2 (b ∷ bs))

    behind : (after : List ℕ) → (b ∷ bs) ≡ 47 ∷ (42 ∷ inside) → CommentEnds inside after → Choice (CommentEnd after) → Choice (CommentEnd (b ∷ bs))
    behind after is ends (inl c) = inl (c.0, nested is ends c.1)
    behind after is ends (inr never) = inr (λ c.
        let o = comment_open (b ∷ bs) inside c.0 is c.1 in
        never (c.0, subst (λ (x : List ℕ). CommentEnds x c.0) (sym (one_end inside after o.0 ends o.1)) o.2))

    unclosed : ShortEnd n → (b ∷ bs) ≡ 47 ∷ (42 ∷ inside) → Choice (CommentEnd inside) → Choice (CommentEnd (b ∷ bs))
    unclosed others is (inl c) = behind c.0 is c.1 (others c.0 (omega (arith, shorter, comment_shorter inside c.0 c.1)))
    unclosed others is (inr never) = inr (λ c. let o = comment_open (b ∷ bs) inside c.0 is c.1 in never (o.0, o.1))

    next : closes_comment (b ∷ bs) ≡ false → opens_comment (b ∷ bs) ≡ false → Choice (CommentEnd bs) → Choice (CommentEnd (b ∷ bs))
    next k o (inl c) = inl (c.0, other refl o k c.1)
    next k o (inr never) = inr (λ c. never (c.0, comment_other (b ∷ bs) bs c.0 b refl o k c.1))

    by : ShortEnd n → (s t : Bool) → closes_comment (b ∷ bs) ≡ s → opens_comment (b ∷ bs) ≡ t → Choice (CommentEnd (b ∷ bs))
    by others true t k o = inl (inside, close (begins_true (b ∷ bs) 42 47 k))
    by others false true k o = unclosed others (begins_true (b ∷ bs) 47 42 o) (others inside shorter)
    by others false false k o = next k o (others bs (omega (arith, h)))

abbrev BlankEnd : List ℕ → Type 0
BlankEnd text = (rest : List ℕ) × BlankEnds text rest

blank_end : (text : List ℕ) → Choice (BlankEnd text)
blank_end [] = inr (λ c. blank_nil [] c.0 refl c.1)
blank_end (b ∷ bs) = by (is_white b) (begins (b ∷ bs) 47 47) (begins (b ∷ bs) 47 42) refl refl refl
  where
    inside : List ℕ
    inside = drop 2 (b ∷ bs)

    no_more : is_white b ≡ false → begins (b ∷ bs) 47 47 ≡ false → (begins (b ∷ bs) 47 42 ≡ true → CommentEnd inside → ⊥) → Choice (BlankEnd (b ∷ bs))
    no_more w l never = inr (λ c. no_blank (b ∷ bs) bs b refl w l (λ rest o e. never o (rest, e)) c.0 c.1)

    opened : is_white b ≡ false → begins (b ∷ bs) 47 47 ≡ false → begins (b ∷ bs) 47 42 ≡ true → Choice (CommentEnd inside) → Choice (BlankEnd (b ∷ bs))
    opened w l o (inl c) = inl (c.0, block (begins_true (b ∷ bs) 47 42 o) c.1)
    opened w l o (inr never) = no_more w l (λ _ c. never c)

    by : (s t u : Bool) → is_white b ≡ s → begins (b ∷ bs) 47 47 ≡ t → begins (b ∷ bs) 47 42 ≡ u → Choice (BlankEnd (b ∷ bs))
    by true t u w l o = inl (bs, white refl w)
    by false true u w l o = inl (line_end inside, line (begins_true (b ∷ bs) 47 47 l) refl)
    by false false true w l o = opened w l o (comment_end (length inside) inside (omega arith))
    by false false false w l o = no_more w l (λ is c. false≢true (sym o ∙ is))

-- what stands before the rest
blank_front : (text rest : List ℕ) → BlankEnds text rest → (b : ℕ) × (before : List ℕ) × (text ≡ (b ∷ before) ++ rest)
blank_front text rest (white {b} e w) = (b, [], e)
blank_front text rest (line {more = inside} e w) =
    let k = prefix_len is_no_line_feed inside in
    (47, 47 ∷ take k inside, e ∙ ap (λ (x : List ℕ). 47 ∷ (47 ∷ x)) (sym (take-append-drop k inside) ∙ ap (λ (r : List ℕ). take k inside ++ r) (sym w)))
blank_front text rest (block {inside} e ends) =
    let last = comment_last inside rest ends in
    (47, 42 ∷ (last.0 ++ (42 ∷ (47 ∷ []))), e ∙ ap (λ (x : List ℕ). 47 ∷ (42 ∷ x)) (last.1 ∙ sym (append_assoc last.0 (42 ∷ (47 ∷ [])) rest)))

blank_shorter : (text rest : List ℕ) → BlankEnds text rest → length rest < length text
blank_shorter text rest h = let f = blank_front text rest h in omega (arith, ap length f.2, length-append (f.0 ∷ f.1) rest)

skips_front : (text rest : List ℕ) → Skips text rest → (before : List ℕ) × (text ≡ before ++ rest)
skips_front text rest (none e) = ([], e)
skips_front text rest (more {after} blank skips) =
    let first = blank_front text after blank in
    let others = skips_front after rest skips in
    ((first.0 ∷ first.1) ++ others.0, first.2 ∙ (ap (λ (x : List ℕ). (first.0 ∷ first.1) ++ x) others.1 ∙ sym (append_assoc (first.0 ∷ first.1) others.0 rest)))

-- what stands behind all blanks
settled : (n : ℕ) (text : List ℕ) → length text ≤ n → (rest : List ℕ) × Settles text rest
settled zero text h = by (blank_end text)
  where
    by : Choice (BlankEnd text) → (rest : List ℕ) × Settles text rest
    by (inl c) = absurd (omega (arith, h, blank_shorter text c.0 c.1))
    by (inr never) = (text, record { skips = none refl; stops = λ after b. never (after, b) })
settled (suc n) text h = by (λ t le. settled n t le) (blank_end text)
  where
    by : ((t : List ℕ) → length t ≤ n → (rest : List ℕ) × Settles t rest) → Choice (BlankEnd text) → (rest : List ℕ) × Settles text rest
    by others (inl c) = let r = others c.0 (omega (arith, h, blank_shorter text c.0 c.1)) in (r.0, record { skips = more c.1 r.1.skips; stops = r.1.stops })
    by others (inr never) = (text, record { skips = none refl; stops = λ after b. never (after, b) })

white_no_slash : (b : ℕ) → b ≡ 47 → is_white b ≡ true → ⊥
white_no_slash b e h = false≢true (sym (ap is_white e) ∙ h)

no_line_block : (text a b : List ℕ) → text ≡ 47 ∷ (47 ∷ a) → text ≡ 47 ∷ (42 ∷ b) → ⊥
no_line_block text a b e f = let n : 47 ≡ 42 = same_head (47 ∷ a) a b 47 42 refl (same_tail text (47 ∷ a) (42 ∷ b) 47 47 e f) in omega (arith, n)

one_blank : (text a b : List ℕ) → BlankEnds text a → BlankEnds text b → a ≡ b
one_blank text a b (white e w) (white f v) = same_tail text _ _ _ _ e f
one_blank text a b (white {b = c} e w) (line f v) = absurd (white_no_slash c (same_head text _ _ _ _ e f) w)
one_blank text a b (white {b = c} e w) (block f v) = absurd (white_no_slash c (same_head text _ _ _ _ e f) w)
one_blank text a b (line e w) (white {b = c} f v) = absurd (white_no_slash c (same_head text _ _ _ _ f e) v)
one_blank text a b (line e w) (line f v) = w ∙ ap line_end (same_second text _ _ _ _ _ _ e f) ∙ sym v
one_blank text a b (line {more = m} e w) (block {inside} f v) = absurd (no_line_block text m inside e f)
one_blank text a b (block e w) (white {b = c} f v) = absurd (white_no_slash c (same_head text _ _ _ _ f e) v)
one_blank text a b (block {inside} e w) (line {more = m} f v) = absurd (no_line_block text m inside f e)
one_blank text a b (block {inside} e w) (block {inside = another} f v) = one_end inside a b w (subst (λ (x : List ℕ). CommentEnds x b) (same_second text _ _ _ _ _ _ f e) v)

one_rest : (text a b : List ℕ) → Skips text a → Skips text b → ((after : List ℕ) → BlankEnds a after → ⊥) → ((after : List ℕ) → BlankEnds b after → ⊥) → a ≡ b
one_rest text a b (none e) (none f) sa sb = sym e ∙ f
one_rest text a b (none e) (more {after} blank skips) sa sb = absurd (sa after (subst (λ (x : List ℕ). BlankEnds x after) e blank))
one_rest text a b (more {after} blank skips) (none f) sa sb = absurd (sb after (subst (λ (x : List ℕ). BlankEnds x after) f blank))
one_rest text a b (more {after} blank skips) (more {after = next} another others) sa sb =
    one_rest after a b skips (subst (λ (x : List ℕ). Skips x b) (one_blank text next after another blank) others) sa sb

settles_once : (text a b : List ℕ) → Settles text a → Settles text b → a ≡ b
settles_once text a b s t = one_rest text a b s.skips t.skips s.stops t.stops

-- ---- one token

-- the first number up to the bound that passes, or none
search_for : (f : ℕ → Bool) (n : ℕ) → ((k : ℕ) × (f k ≡ true)) ⊎ ((k : ℕ) → k ≤ n → f k ≡ true → ⊥)
search_for f n = by n (f n) refl
  where
    last : (n : ℕ) → f n ≡ false → ((k : ℕ) × (f k ≡ true)) ⊎ ((k : ℕ) → suc k ≤ n → f k ≡ true → ⊥) → ((k : ℕ) × (f k ≡ true)) ⊎ ((k : ℕ) → k ≤ n → f k ≡ true → ⊥)
    last n e (inl found) = inl found
    last n e (inr never) = inr (λ k le is. elim (cases_lt k n) [
      | inl lt ↦ never k (omega (arith, lt)) is
      | inr ge ↦ let same : k ≡ n = omega (arith, le, ge) in false≢true (sym e ∙ (ap f (sym same) ∙ is))
    ])

    before : (n : ℕ) → ((k : ℕ) × (f k ≡ true)) ⊎ ((k : ℕ) → k ≤ n → f k ≡ true → ⊥) → ((k : ℕ) × (f k ≡ true)) ⊎ ((k : ℕ) → suc k ≤ suc n → f k ≡ true → ⊥)
    before n (inl found) = inl found
    before n (inr never) = inr (λ k le is. never k (omega (arith, le)) is)

    by : (n : ℕ) (b : Bool) → f n ≡ b → ((k : ℕ) × (f k ≡ true)) ⊎ ((k : ℕ) → k ≤ n → f k ≡ true → ⊥)
    by n true e = inl (n, e)
    by zero false e = last zero e (inr (λ k le is. absurd (omega (arith, le))))
    by (suc n) false e = last (suc n) e (before n (by n (f n) refl))

integer_there : (text : List ℕ) → Choice (IsInteger text)
integer_there text = at (after_base text) refl
  where
    base : ℕ
    base = base_of text

    passes : List ℕ → ℕ → Bool
    passes rest k = list_all (continues_digits base) (take k rest) && is_suffix (drop k rest)

    cut : (first : ℕ) (rest : List ℕ) → after_base text ≡ first ∷ rest → is_digit base first ≡ true → ((k : ℕ) × (passes rest k ≡ true)) ⊎ ((k : ℕ) → k ≤ length rest → passes rest k ≡ true → ⊥) → Choice (IsInteger text)
    cut first rest e d (inl found) =
        let both = and_true (list_all (continues_digits base) (take found.0 rest)) (is_suffix (drop found.0 rest)) found.1 in
        inl (record {
          first = first;
          others = take found.0 rest;
          suffix = drop found.0 rest;
          parts = e ∙ ap (λ (x : List ℕ). first ∷ x) (sym (take-append-drop found.0 rest));
          digit = d;
          digits = both.0;
          ends = both.1;
        })
    cut first rest e d (inr never) = inr (λ i.
        let split : i.others ++ i.suffix ≡ rest = same_tail (after_base text) (i.others ++ i.suffix) rest i.first first i.parts e in
        let front : take (length i.others) rest ≡ i.others = front_take i.others i.suffix rest split in
        let back : drop (length i.others) rest ≡ i.suffix = ap (drop (length i.others)) (sym split) ∙ drop-append_seam i.others i.suffix in
        never (length i.others) (front_le i.others i.suffix rest split) (rw (front, back, i.digits, i.ends) refl))

    digit : (first : ℕ) (rest : List ℕ) → after_base text ≡ first ∷ rest → (b : Bool) → is_digit base first ≡ b → Choice (IsInteger text)
    digit first rest e true d = cut first rest e d (search_for (passes rest) (length rest))
    digit first rest e false d = inr (λ i. false≢true (sym d ∙ (ap (is_digit base) (same_head (after_base text) rest (i.others ++ i.suffix) first i.first e i.parts) ∙ i.digit)))

    at : (body : List ℕ) → after_base text ≡ body → Choice (IsInteger text)
    at [] e = inr (λ i. no_cons i.first (i.others ++ i.suffix) (sym e ∙ i.parts))
    at (first ∷ rest) e = digit first rest e (is_digit base first) refl

abbrev ShortString : ℕ → Type 0
ShortString n = (t : List ℕ) → length t ≤ n → Choice (StringEnds t [])

string_ends : (n : ℕ) (text : List ℕ) → length text ≤ n → Choice (StringEnds text [])
string_ends n [] h = inr (λ s. string_nil [] [] refl s)
string_ends zero (b ∷ bs) h = absurd (omega (arith, h))
string_ends (suc n) (b ∷ bs) h = by (λ t le. string_ends n t le) (same_number b 34) (same_number b 92)
  where
    at_quote : b ≡ 34 → (bs : List ℕ) → Choice (StringEnds (b ∷ bs) [])
    at_quote e [] = inl (quote (ap (λ (x : ℕ). x ∷ []) e))
    at_quote e (c ∷ cs) = inr (λ s. no_cons c cs (sym (string_quote (b ∷ (c ∷ cs)) (c ∷ cs) [] (ap (λ (x : ℕ). x ∷ (c ∷ cs)) e) s)))

    behind : b ≡ 92 → (c : ℕ) (cs : List ℕ) → Choice (StringEnds cs []) → Choice (StringEnds (b ∷ (c ∷ cs)) [])
    behind e c cs (inl s) = inl (escape (ap (λ (x : ℕ). x ∷ (c ∷ cs)) e) s)
    behind e c cs (inr never) = inr (λ s. never (string_escape (b ∷ (c ∷ cs)) cs [] c (ap (λ (x : ℕ). x ∷ (c ∷ cs)) e) s))

    at_escape : ShortString n → b ≡ 92 → (bs : List ℕ) → length (b ∷ bs) ≤ suc n → Choice (StringEnds (b ∷ bs) [])
    at_escape others e [] h = inr (λ s. string_open_escape (b ∷ []) [] (ap (λ (x : ℕ). x ∷ []) e) s)
    at_escape others e (c ∷ cs) h = behind e c cs (others cs (omega (arith, h)))

    at_plain : b ≢ 34 → b ≢ 92 → Choice (StringEnds bs []) → Choice (StringEnds (b ∷ bs) [])
    at_plain p q (inl s) = inl (plain refl p q s)
    at_plain p q (inr never) = inr (λ s. never (string_plain (b ∷ bs) bs [] b refl p q s))

    by : ShortString n → Choice (b ≡ 34) → Choice (b ≡ 92) → Choice (StringEnds (b ∷ bs) [])
    by others (inl e) c = at_quote e bs
    by others (inr p) (inl e) = at_escape others e bs h
    by others (inr p) (inr q) = at_plain p q (others bs (omega (arith, h)))

string_there : (text : List ℕ) → Choice (IsString text)
string_there [] = inr (λ s. no_cons 34 s.inside s.opens)
string_there (b ∷ bs) = by (same_number b 34) (string_ends (length bs) bs (omega arith))
  where
    by : Choice (b ≡ 34) → Choice (StringEnds bs []) → Choice (IsString (b ∷ bs))
    by (inl e) (inl s) = inl (record { inside = bs; opens = ap (λ (x : ℕ). x ∷ bs) e; closes = s })
    by (inl e) (inr never) = inr (λ s. never (subst (λ (x : List ℕ). StringEnds x []) (same_tail (b ∷ bs) s.inside bs 34 b s.opens refl) s.closes))
    by (inr p) c = inr (λ s. p (same_head (b ∷ bs) bs s.inside b 34 refl s.opens))

word_there : (text : List ℕ) → Choice (IsWord text)
word_there text = by (by_test (is_word text))
  where
    by : Choice (is_word text ≡ true) → Choice (IsWord text)
    by (inl e) = inl (passes_word text e)
    by (inr never) = inr (λ w. never (word_passes text w))

quoted_there : (text : List ℕ) → Choice (IsQuotedWord text)
quoted_there [] = inr (λ q. no_cons 39 q.word q.opens)
quoted_there (b ∷ bs) = by (same_number b 39) (word_there bs)
  where
    by : Choice (b ≡ 39) → Choice (IsWord bs) → Choice (IsQuotedWord (b ∷ bs))
    by (inl e) (inl w) = inl (record { word = bs; opens = ap (λ (x : ℕ). x ∷ bs) e; is_word = w })
    by (inl e) (inr never) = inr (λ q. never (subst IsWord (same_tail (b ∷ bs) q.word bs 39 b q.opens refl) q.is_word))
    by (inr p) c = inr (λ q. p (same_head (b ∷ bs) bs q.word b 39 refl q.opens))

abbrev OneKind : List ℕ → Type 0
OneKind text = (kind : TokenKind) × IsToken kind text

no_kind : (text : List ℕ) (kind : TokenKind) → (IsWord text → ⊥) → (IsInteger text → ⊥) → (IsString text → ⊥) → (IsQuotedWord text → ⊥) → kind_in marks text ≡ None → IsToken kind text → ⊥
no_kind text kind w i s q m (word h e) = w h
no_kind text kind w i s q m (integer h e) = i h
no_kind text kind w i s q m (string h e) = s h
no_kind text kind w i s q m (lifetime h e) = q h
no_kind text kind w i s q m (mark e) = let none : None ≡ Some kind = sym m ∙ e in cc

kind_there : (text : List ℕ) → Choice (OneKind text)
kind_there text = by (word_there text) (integer_there text) (string_there text) (quoted_there text) (kind_in marks text) refl
  where
    by : Choice (IsWord text) → Choice (IsInteger text) → Choice (IsString text) → Choice (IsQuotedWord text) → (m : Option TokenKind) → kind_in marks text ≡ m → Choice (OneKind text)
    by (inl w) i s q m e = inl (word_kind text, word w refl)
    by (inr w) (inl i) s q m e = inl (Int, integer i refl)
    by (inr w) (inr i) (inl s) q m e = inl (Str, string s refl)
    by (inr w) (inr i) (inr s) (inl q) m e = inl (Lifetime, lifetime q refl)
    by (inr w) (inr i) (inr s) (inr q) (Some kind) e = inl (kind, mark e)
    by (inr w) (inr i) (inr s) (inr q) None e = inr (λ k. no_kind text k.0 w i s q e k.1)

-- the longest front up to the bound that is a token
record LongestTo (text : List ℕ) (n : ℕ) : Type 0 where
  kind : TokenKind
  len : ℕ
  within : len ≤ n
  is_token : IsToken kind (take len text)
  above : (m : ℕ) (k : TokenKind) → len < m → m ≤ n → IsToken k (take m text) → ⊥

abbrev NoneTo : List ℕ → ℕ → Type 0
NoneTo text n = (m : ℕ) (k : TokenKind) → m ≤ n → IsToken k (take m text) → ⊥

longest_to : (text : List ℕ) (n : ℕ) → LongestTo text n ⊎ NoneTo text n
longest_to text n = by n (kind_there (take n text))
  where
    here : (n : ℕ) → OneKind (take n text) → LongestTo text n
    here n c = record { kind = c.0; len = n; within = omega arith; is_token = c.1; above = λ m k lt le t. omega (arith, lt, le) }

    last : (n m : ℕ) (k : TokenKind) → m ≡ n → (OneKind (take n text) → ⊥) → IsToken k (take m text) → ⊥
    last n m k same never t = never (k, subst (λ (i : ℕ). IsToken k (take i text)) same t)

    further : (n : ℕ) → (OneKind (take (suc n) text) → ⊥) → LongestTo text n ⊎ NoneTo text n → LongestTo text (suc n) ⊎ NoneTo text (suc n)
    further n never (inl l) = inl (record {
      kind = l.kind;
      len = l.len;
      within = omega (arith, l.within);
      is_token = l.is_token;
      above = λ m k lt le t. elim (cases_lt m (suc n)) [
        | inl low ↦ l.above m k lt (omega (arith, low)) t
        | inr high ↦ last (suc n) m k (omega (arith, le, high)) never t
      ];
    })
    further n never (inr below) = inr (λ m k le t. elim (cases_lt m (suc n)) [
      | inl low ↦ below m k (omega (arith, low)) t
      | inr high ↦ last (suc n) m k (omega (arith, le, high)) never t
    ])

    by : (n : ℕ) → Choice (OneKind (take n text)) → LongestTo text n ⊎ NoneTo text n
    by n (inl c) = inl (here n c)
    by zero (inr never) = inr (λ m k le t. last zero m k (omega (arith, le)) never t)
    by (suc n) (inr never) = further n never (by n (kind_there (take n text)))

abbrev OneToken : List ℕ → Type 0
OneToken text = (kind : TokenKind) × (len : ℕ) × IsLongestToken kind text len

token_there : (text : List ℕ) → Choice (OneToken text)
token_there text = by (longest_to text (length text))
  where
    by : LongestTo text (length text) ⊎ NoneTo text (length text) → Choice (OneToken text)
    by (inl l) = inl (
      l.kind,
      l.len,
      record {
        within = l.within;
        token = l.is_token;
        longest = λ another front back e t. elim (cases_lt l.len (length front)) [
          | inl longer ↦ absurd (l.above (length front) another longer (front_le front back text e) (subst (IsToken another) (sym (front_take front back text e)) t))
          | inr within ↦ within
        ];
      },
    )
    by (inr never) = inr (λ t. never t.1 t.0 t.2.within t.2.token)

longest_at_most : (text : List ℕ) (j k : TokenKind) (n m : ℕ) → IsLongestToken j text n → IsLongestToken k text m → n ≤ m
longest_at_most text j k n m a b = omega (arith, b.longest j (take n text) (drop n text) (take-append-drop n text) a.token, length-take-le n text a.within)

one_length : (text : List ℕ) (j k : TokenKind) (n m : ℕ) → IsLongestToken j text n → IsLongestToken k text m → n ≡ m
one_length text j k n m a b = omega (arith, longest_at_most text j k n m a b, longest_at_most text k j m n b a)

same_refusal : (text : List ℕ) (j k : TokenKind) (n m : ℕ) → IsLongestToken j text n → IsLongestToken k text m → refused_of j (take n text) ≡ refused_of k (take m text)
same_refusal text j k n m a b =
    let len : n ≡ m = one_length text j k n m a b in
    let kind : j ≡ k = one_kind j k (take n text) a.token (subst (λ (i : ℕ). IsToken k (take i text)) (sym len) b.token) in
    ap (λ (i : TokenKind). refused_of i (take n text)) kind ∙ ap (λ (i : ℕ). refused_of k (take i text)) len

-- ---- the next token

module _ (bytes : List ℕ) (at : ℕ) where
  abbrev NextToken : Type 0
  NextToken = (next : Token) × Gives bytes at next

  -- what stands behind all blanks from the offset on, and where
  module _ (rest : List ℕ) (settles : Settles (drop at bytes) rest) where
    abbrev before : List ℕ
    before = take at bytes ++ (skips_front (drop at bytes) rest settles.skips).0

    whole : bytes ≡ before ++ rest
    whole =
        let f = skips_front (drop at bytes) rest settles.skips in
        sym (take-append-drop at bytes) ∙ (ap (λ (x : List ℕ). take at bytes ++ x) f.1 ∙ sym (append_assoc (take at bytes) f.0 rest))

    abbrev start : ℕ
    start = length before

    here : drop start bytes ≡ rest
    here = ap (drop start) whole ∙ drop-append_seam before rest

    same_place : (next : Token) → Gives bytes at next → drop next.span.start bytes ≡ rest
    same_place next g = settles_once (drop at bytes) (drop next.span.start bytes) rest g.settles settles

    commented : opens_comment rest ≡ true → Choice NextToken
    commented o = inr (λ n. false≢true (sym n.1.no_comment ∙ (ap opens_comment (same_place n.0 n.1) ∙ o)))

    refused_here : (t : OneToken rest) (k : ℕ) → refused_of t.0 (take t.1 rest) ≡ Some k → Choice NextToken
    refused_here t k e = inr (λ n.
        let place = same_place n.0 n.1 in
        let stands : IsLongestToken n.0.kind rest n.1.len = subst (λ (x : List ℕ). IsLongestToken n.0.kind x n.1.len) place n.1.stands in
        let admitted : refused_of n.0.kind (take n.1.len rest) ≡ None = ap (λ (x : List ℕ). refused_of n.0.kind (take n.1.len x)) (sym place) ∙ n.1.admitted in
        let both : None ≡ Some k = sym admitted ∙ (same_refusal rest n.0.kind t.0 n.1.len t.1 stands t.2 ∙ e) in
        cc)

    given_here : opens_comment rest ≡ false → (t : OneToken rest) → refused_of t.0 (take t.1 rest) ≡ None → Choice NextToken
    given_here o t e =
        let next : Token = record { kind = t.0; span = record { start = start; end = start + t.1 } } in
        inl (
          next,
          record {
            len = t.1;
            ends = refl;
            within = omega (arith, t.2.within, ap length whole, length-append before rest);
            settles = subst (Settles (drop at bytes)) (sym here) settles;
            no_comment = ap opens_comment here ∙ o;
            stands = subst (λ (x : List ℕ). IsLongestToken t.0 x t.1) (sym here) t.2;
            admitted = ap (λ (x : List ℕ). refused_of t.0 (take t.1 x)) here ∙ e;
          },
        )

    by_refusal : opens_comment rest ≡ false → (t : OneToken rest) (r : Option ℕ) → refused_of t.0 (take t.1 rest) ≡ r → Choice NextToken
    by_refusal o t (Some k) e = refused_here t k e
    by_refusal o t None e = given_here o t e

    by_token : opens_comment rest ≡ false → Choice (OneToken rest) → Choice NextToken
    by_token o (inl t) = by_refusal o t (refused_of t.0 (take t.1 rest)) refl
    by_token o (inr never) = inr (λ n. never (n.0.kind, n.1.len, subst (λ (x : List ℕ). IsLongestToken n.0.kind x n.1.len) (same_place n.0 n.1) n.1.stands))

    by_comment : (b : Bool) → opens_comment rest ≡ b → Choice NextToken
    by_comment true o = commented o
    by_comment false o = by_token o (token_there rest)

    by_end : (r : List ℕ) → rest ≡ r → Choice (HasEnded bytes at)
    by_end [] e = inl (subst (Settles (drop at bytes)) e settles)
    by_end (b ∷ bs) e = inr (λ h. no_cons b bs (settles_once (drop at bytes) [] rest h settles ∙ e))

  rest_here : (rest : List ℕ) × Settles (drop at bytes) rest
  rest_here = settled (length (drop at bytes)) (drop at bytes) (omega arith)

  next_there : Choice NextToken
  next_there = by_comment rest_here.0 rest_here.1 (opens_comment rest_here.0) refl

  end_there : Choice (HasEnded bytes at)
  end_there = by_end rest_here.0 rest_here.1 rest_here.0 refl

-- ---- all tokens

no_more : (bytes : List ℕ) (at : ℕ) (tokens : List Token) (end : Option Span) → end ≡ None → HasTokens bytes at tokens end → ((next : Token) × Gives bytes at next → ⊥) → HasEnded bytes at
no_more bytes at _ _ e (ended h) never = h
no_more bytes at _ _ e (HasTokens.refused h) never = absurd (cc)
no_more bytes at _ _ e (token {first} g behind) never = absurd (never (first, g))

-- what follows the first token
record Follows (bytes : List ℕ) (at : ℕ) (next : Token) (tokens : List Token) : Type 0 where
  others : List Token
  split : tokens ≡ next ∷ others
  follow : HasTokens bytes next.span.end others None

follows : (bytes : List ℕ) (at : ℕ) (next : Token) (tokens : List Token) (end : Option Span) → end ≡ None → Gives bytes at next → HasTokens bytes at tokens end → Follows bytes at next tokens
follows bytes at next _ _ e g (ended h) = absurd (token_no_end bytes at next g h)
follows bytes at next _ _ e g (HasTokens.refused h) = absurd (cc)
follows bytes at next _ _ e g (token {first} {others} {end} h behind) =
    let same : first ≡ next = one_token bytes at first next h g in
    record {
      others = others;
      split = ap (λ (t : Token). t ∷ others) same;
      follow = subst (λ (t : Token). HasTokens bytes t.span.end others None) same (subst (HasTokens bytes first.span.end others) e behind);
    }

-- so many tokens at most
abbrev Few : List ℕ → ℕ → ℕ → Type 0
Few bytes n at = (tokens : List Token) × HasTokens bytes at tokens None × (length tokens ≤ n)

few_there : (bytes : List ℕ) (n at : ℕ) → Choice (Few bytes n at)
few_there bytes zero at = by (next_there bytes at) (end_there bytes at)
  where
    by : Choice ((next : Token) × Gives bytes at next) → Choice (HasEnded bytes at) → Choice (Few bytes zero at)
    by (inl next) e = inr (λ t. let f = follows bytes at next.0 t.0 None refl next.1 t.1 in omega (arith, t.2, ap length f.split))
    by (inr never) (inl e) = inl ([], ended e, omega arith)
    by (inr never) (inr going) = inr (λ t. going (no_more bytes at t.0 None refl t.1 never))
few_there bytes (suc n) at = by (λ k. few_there bytes n k) (next_there bytes at) (end_there bytes at)
  where
    behind : (next : Token) → Gives bytes at next → Choice (Few bytes n next.span.end) → Choice (Few bytes (suc n) at)
    behind next g (inl t) = inl (next ∷ t.0, token g t.1, omega (arith, t.2))
    behind next g (inr never) = inr (λ t.
        let f = follows bytes at next t.0 None refl g t.1 in
        never (f.others, f.follow, omega (arith, t.2, ap length f.split)))

    by : ((k : ℕ) → Choice (Few bytes n k)) → Choice ((next : Token) × Gives bytes at next) → Choice (HasEnded bytes at) → Choice (Few bytes (suc n) at)
    by others (inl next) e = behind next.0 next.1 (others next.0.span.end)
    by others (inr never) (inl e) = inl ([], ended e, omega arith)
    by others (inr never) (inr going) = inr (λ t. going (no_more bytes at t.0 None refl t.1 never))

-- the bytes are tokens, or are none
pub tokens_there : (bytes : List ℕ) → Choice ((tokens : List Token) × AreTokens bytes tokens)
tokens_there bytes = by (by_test (is_utf8 bytes)) (few_there bytes (length bytes) 0)
  where
    by : Choice (is_utf8 bytes ≡ true) → Choice (Few bytes (length bytes) 0) → Choice ((tokens : List Token) × AreTokens bytes tokens)
    by (inr never) f = inr (λ t. never (is_utf8-from_IsUtf8 bytes t.1.text))
    by (inl u) (inl f) = inl (f.0, record { text = IsUtf8-from_is_utf8 bytes u; tokens_of = f.1 })
    by (inl u) (inr never) = inr (λ t. never (t.0, t.1.tokens_of, few_tokens bytes t.0 t.1))
