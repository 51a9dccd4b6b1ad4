-- What kind of line a text is.
use Rattle.std.proofs.Common.{◌≡◌, ℕ, suc, ◌+◌, ◌≤◌, ◌==◌, ◌||◌, Bool, true, false, cond, not, nat_lt, List, [], ◌∷◌, length, take, Option, Some, None, refl, sym, ◌∙◌, ap, subst, arith, codes}
use Rattle.std.specs.Prelude.{is_none}
use Rattle.std.specs.List.{position_or_len, prefix_len, before_first, after_first}
use Rattle.std.specs.Option.{option_map}
use Rattle.std.specs.Str.{bytes_eq, chars, is_utf8}
use Rattle.std.specs.Char.{encode_utf8}
use Rattle.std.proofs.lemmas.List.{take_all}
use Rattle.std.proofs.lemmas.Bool.Decides.{nat_tests}
use Rattle.std.proofs.lemmas.Slice.Eq.{bytes_eq-Decides}
use Rattle.proof_text.specs.ProofTextWords.{◌>>=◌}
use Rattle.proof_text.specs.ProofTextLines.{head_of, rest_of, heading_of, IsHeading, IsEnd}
use Rattle.proof_text.specs.ProofFileForm.{IsComment}
use Rattle.proof_text.specs.ProofTextFile.{is_step, Line, passed, heading, step, «end», line_if, line_by_head, line_of}

abbrev pub IsKind : List ℕ → Line → Type 0
IsKind text passed = IsComment text
IsKind text (heading number owner) = IsHeading text number owner
IsKind text step = (is_utf8 text ≡ true) × (is_step (head_of text) (rest_of text) ≡ true)
IsKind text «end» = IsEnd text

or_right : (a b : Bool) → b ≡ true → (a || b) ≡ true
or_right true b e = refl
or_right false b e = e

neither : (a b : Bool) → a ≡ false → b ≡ false → (a || b) ≡ false
neither a b e f = rw (e, f)

is_hash : (b : ℕ) → b ≡ 35 → (b == 35) ≡ true
is_hash b e = grind (arith, nat_tests)

pub hash_is : (b : ℕ) → (b == 35) ≡ true → b ≡ 35
hash_is b e = grind (arith, nat_tests)

pub not_empty : (b : ℕ) (bs : List ℕ) → (length (b ∷ bs) == 0) ≡ true → ⊥
not_empty b bs e = let none : length (b ∷ bs) ≡ 0 = grind (arith, nat_tests) in omega (arith, none)

some_length : (b : ℕ) (bs : List ℕ) (t : Bool) → (length (b ∷ bs) == 0) ≡ t → (length (b ∷ bs) == 0) ≡ false
some_length b bs true e = absurd (not_empty b bs e)
some_length b bs false e = e

pub comment_passed : (text : List ℕ) → IsComment text → line_of text ≡ Some passed
unfolding line_of
comment_passed [] h = refl
comment_passed (b ∷ bs) h =
    ap (λ t. cond t (Some passed) (cond (is_utf8 (b ∷ bs)) (line_by_head (head_of (b ∷ bs)) (rest_of (b ∷ bs))) None)) (or_right (length (b ∷ bs) == 0) (b == 35) (is_hash b h))

-- ---- the head of a text

none_before : (b : ℕ) (bs : List ℕ) → (b == 32) ≡ true → head_of (b ∷ bs) ≡ []
none_before b bs e = ap (λ t. take (cond (not t) (1 + prefix_len (λ x. not (x == 32)) bs) 0) (b ∷ bs)) e

pub more_before : (b : ℕ) (bs : List ℕ) → (b == 32) ≡ false → head_of (b ∷ bs) ≡ b ∷ head_of bs
more_before b bs e =
    let one : 1 + prefix_len (λ x. not (x == 32)) bs ≡ suc (prefix_len (λ x. not (x == 32)) bs) = omega arith in
    ap (λ t. take (cond (not t) (1 + prefix_len (λ x. not (x == 32)) bs) 0) (b ∷ bs)) e ∙ ap (λ k. take k (b ∷ bs)) one

first_of : (b : ℕ) (bs : List ℕ) (c : ℕ) (cs : List ℕ) (t : Bool) → (b == 32) ≡ t → head_of (b ∷ bs) ≡ c ∷ cs → b ≡ c
first_of b bs c cs true e h = let none : head_of (b ∷ bs) ≡ [] = none_before b bs e in absurd (cc)
first_of b bs c cs false e h = let more : head_of (b ∷ bs) ≡ b ∷ head_of bs = more_before b bs e in cc

-- no comment begins with such a word
abbrev pub is_plain : List ℕ → Bool
is_plain [] = false
is_plain (c ∷ cs) = not (c == 35)

not_hash : (b c : ℕ) → b ≡ c → not (c == 35) ≡ true → (b == 35) ≡ false
not_hash b c e h = by (c == 35) refl h
  where
    by : (t : Bool) → (c == 35) ≡ t → not t ≡ true → (b == 35) ≡ false
    by true is n = absurd (cc)
    by false is n = ap (λ x. x == 35) e ∙ is

plain_by : (b : ℕ) (bs head : List ℕ) → head_of (b ∷ bs) ≡ head → is_plain head ≡ true → (b == 35) ≡ false
plain_by b bs [] e h = absurd (cc)
plain_by b bs (c ∷ cs) e h = not_hash b c (first_of b bs c cs (b == 32) refl e) h

-- what is text and no comment is a line by its head
pub text_line : (text : List ℕ) → is_plain (head_of text) ≡ true → is_utf8 text ≡ true → line_of text ≡ line_by_head (head_of text) (rest_of text)
unfolding line_of
text_line [] h u = absurd (cc)
text_line (b ∷ bs) h u =
    ap (λ t. cond t (Some passed) (cond (is_utf8 (b ∷ bs)) (line_by_head (head_of (b ∷ bs)) (rest_of (b ∷ bs))) None))
    (neither (length (b ∷ bs) == 0) (b == 35) (some_length b bs (length (b ∷ bs) == 0) refl) (plain_by b bs (head_of (b ∷ bs)) refl h))
    ∙ ap (λ t. cond t (line_by_head (head_of (b ∷ bs)) (rest_of (b ∷ bs))) None) u

-- ---- what a line is

not_below : (m n : ℕ) → nat_lt m n ≡ false → n ≤ m
not_below m n e = grind (arith, nat_tests)

whole_by : (text : List ℕ) (t : Bool) → nat_lt (position_or_len (λ b. b == 32) text) (length text) ≡ t →
    option_map (λ (parts : List ℕ × List ℕ). parts.1) (cond t (Some (before_first (λ b. b == 32) text, after_first (λ b. b == 32) text)) None) ≡ None → head_of text ≡ text
whole_by text true is e = absurd (cc)
whole_by text false is e = take_all (position_or_len (λ b. b == 32) text) text (not_below (position_or_len (λ b. b == 32) text) (length text) is)

-- a text without a rest is its head
whole : (text : List ℕ) → rest_of text ≡ None → head_of text ≡ text
whole text e = whole_by text (nat_lt (position_or_len (λ b. b == 32) text) (length text)) refl e

same_head : (head word : List ℕ) → bytes_eq head word ≡ true → head ≡ word
same_head head word e = (bytes_eq-Decides head word).0 e

heading_kind : (text : List ℕ) (l : Line) (h : Option (ℕ × List ℕ)) → is_utf8 text ≡ true → bytes_eq (head_of text) (codes "proof") ≡ true → (rest_of text >>= heading_of) ≡ h →
    option_map (λ h. heading h.0 h.1) h ≡ Some l → IsKind text l
heading_kind text l None u p is e = absurd (cc)
heading_kind text l (Some h) u p is e = let same : heading h.0 h.1 ≡ l = cc in subst (IsKind text) same (u, same_head (head_of text) (codes "proof") p, is)

end_kind : (text : List ℕ) (l : Line) (rest : Option (List ℕ)) → bytes_eq (head_of text) (codes "end") ≡ true → rest_of text ≡ rest → line_if (is_none rest) «end» ≡ Some l → IsKind text l
end_kind text l None p is e = let same : «end» ≡ l = cc in subst (IsKind text) same (sym (whole text is) ∙ same_head (head_of text) (codes "end") p)
end_kind text l (Some r) p is e = absurd (cc)

step_kind : (text : List ℕ) (l : Line) (t : Bool) → is_utf8 text ≡ true → is_step (head_of text) (rest_of text) ≡ t → line_if t step ≡ Some l → IsKind text l
step_kind text l true u is e = let same : step ≡ l = cc in subst (IsKind text) same (u, is)
step_kind text l false u is e = absurd (cc)

by_words : (text : List ℕ) (l : Line) (a b : Bool) → is_utf8 text ≡ true → bytes_eq (head_of text) (codes "proof") ≡ a → bytes_eq (head_of text) (codes "end") ≡ b →
    cond a (option_map (λ h. heading h.0 h.1) (rest_of text >>= heading_of)) (cond b (line_if (is_none (rest_of text)) «end») (line_if (is_step (head_of text) (rest_of text)) step)) ≡ Some l → IsKind text l
by_words text l true b u p q e = heading_kind text l (rest_of text >>= heading_of) u p refl e
by_words text l false true u p q e = end_kind text l (rest_of text) q refl e
by_words text l false false u p q e = step_kind text l (is_step (head_of text) (rest_of text)) u refl e

by_head : (text : List ℕ) (l : Line) (t : Bool) → is_utf8 text ≡ t → cond t (line_by_head (head_of text) (rest_of text)) None ≡ Some l → IsKind text l
unfolding line_by_head
by_head text l true u e = by_words text l (bytes_eq (head_of text) (codes "proof")) (bytes_eq (head_of text) (codes "end")) u refl refl e
by_head text l false u e = absurd (cc)

by_first : (b : ℕ) (bs : List ℕ) (l : Line) (t s : Bool) → (length (b ∷ bs) == 0) ≡ t → (b == 35) ≡ s →
    cond (t || s) (Some passed) (cond (is_utf8 (b ∷ bs)) (line_by_head (head_of (b ∷ bs)) (rest_of (b ∷ bs))) None) ≡ Some l → IsKind (b ∷ bs) l
by_first b bs l true s empty hash e = absurd (not_empty b bs empty)
by_first b bs l false true empty hash e = let same : passed ≡ l = cc in subst (IsKind (b ∷ bs)) same (hash_is b hash)
by_first b bs l false false empty hash e = by_head (b ∷ bs) l (is_utf8 (b ∷ bs)) refl e

pub line_kind : (text : List ℕ) (l : Line) → line_of text ≡ Some l → IsKind text l
unfolding line_of
line_kind [] l e = let same : passed ≡ l = cc in subst (IsKind []) same tt
line_kind (b ∷ bs) l e = by_first b bs l (length (b ∷ bs) == 0) (b == 35) refl refl e

-- ---- and the other way round

heading_line : (head : List ℕ) (rest : Option (List ℕ)) (number : ℕ) (owner : List ℕ) → head ≡ codes "proof" → (rest >>= heading_of) ≡ Some (number, owner) → line_by_head head rest ≡ Some (heading number owner)
unfolding line_by_head
heading_line head rest number owner h e = rw h (ap (option_map (λ (x : ℕ × List ℕ). heading x.0 x.1)) e)

plain_proof : (head : List ℕ) → head ≡ codes "proof" → is_plain head ≡ true
plain_proof head h = ap is_plain h

pub heading_is : (text : List ℕ) (number : ℕ) (owner : List ℕ) → IsHeading text number owner → line_of text ≡ Some (heading number owner)
heading_is text number owner h = text_line text (plain_proof (head_of text) h.1) h.0 ∙ heading_line (head_of text) (rest_of text) number owner h.1 h.2

end_text : is_utf8 (codes "end") ≡ true
unfolding is_utf8 chars encode_utf8
end_text = refl

end_line : line_of (codes "end") ≡ Some «end»
unfolding line_of line_by_head
end_line = rw end_text refl

pub end_is : (text : List ℕ) → IsEnd text → line_of text ≡ Some «end»
end_is text h = ap line_of h ∙ end_line
