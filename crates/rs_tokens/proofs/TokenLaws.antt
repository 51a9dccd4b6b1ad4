-- The longest token at the front of a text.
use Rattle.std.proofs.Common.{◌≡◌, ◌≢◌, ℕ, zero, suc, ◌+◌, ◌-◌, ◌<◌, ◌≤◌, Bool, true, false, ◌&&◌, ◌||◌, ◌==◌, cond, List, [], ◌∷◌, ◌++◌, length, take, drop, get_or, slice_get, Option, Some, None, refl, sym, ap, subst, ◌∙◌, arith, inl, inr}
use Rattle.std.specs.Prelude.{IsSome, is_some, nat_lt, nat_le, encode_utf8_all, MatchOption}
use Rattle.std.specs.Char.{is_ascii_alphabetic}
use Rattle.std.specs.List.{list_all}
use Rattle.std.specs.Str.{IsUtf8, IsCharBoundary}
use Rattle.std.proofs.lemmas.Bool.{false≢true, cases_lt, eqb-true, ltb-true, le-leb, leb-true}
use Rattle.std.proofs.lemmas.Bool.Decides.{nat_tests}
use Rattle.std.proofs.lemmas.List.{length-append, take-append-drop}
use Rattle.std.proofs.lemmas.Str.{char_from_byte, IsUtf8-from_ascii, IsCharBoundary-from_take, IsCharBoundary-after_ascii}
use Rattle.unicode_ident.specs.Ident.{is_xid_start}
use Rattle.unicode_ident.proofs.IdentLemmas.{is_xid_start-ascii}
use Rattle.rs_tokens.specs.declared.token.Front.{Front}
use Rattle.rs_tokens.specs.declared.token.TokenKind.{TokenKind}
use Rattle.rs_tokens.specs.declared.token.TokenKind.TheVariants.{Int, Str, Lifetime}
use Rattle.rs_tokens.specs.Tables.{Row, marks, kind_in}
use Rattle.rs_tokens.specs.Tokens.{is_digit, IsWord, word_kind, IsInteger, IsString, IsQuotedWord, StringEnds, HasLongest, HasNone, IsToken, word, integer, string, lifetime, mark, IsLongestToken, HasNoToken}
use Rattle.rs_tokens.proofs.ListLaws.{and_true, or_true, same_head, eqb_unlike, head_of, rest_of}
use Rattle.rs_tokens.proofs.MarkLaws.{row_passes, mark_len}
use Rattle.rs_tokens.proofs.IntegerLaws.{integer_head, integer_ascii}
use Rattle.rs_tokens.proofs.StringLaws.{string_last, string_longest, no_string_form}
use Rattle.rs_tokens.proofs.WordLaws.{word_some, quoted_longest, no_quoted_form}

-- ---- the first byte tells the form

or_third : (p q r : Bool) → r ≡ true → (p || (q || r)) ≡ true
or_third true q r h = refl
or_third false true r h = refl
or_third false false r h = h

-- a letter, `_`, or a byte of a character past ASCII
is_word_byte : ℕ → Bool
is_word_byte b = is_ascii_alphabetic b || ((b == 95) || nat_le 128 b)

word_byte : (text rest : List ℕ) (b : ℕ) → IsWord text → text ≡ b ∷ rest → is_word_byte b ≡ true
unfolding is_word_byte
word_byte text rest b w is =
    elim (cases_lt b 128) [
      | inl small ↦ let first : get_or text 0 0 ≡ b = ap (λ (t : List ℕ). get_or t 0 0) is in
          let same : w.first ≡ b = char_from_byte text (encode_utf8_all w.others) w.first (sym w.spells) (omega arith) (omega (arith, ap length is)) ∙ first in
          elim (or_true (is_xid_start w.first) (w.first == 95) w.begins) [
            | inl starts ↦ let letter : is_ascii_alphabetic b ≡ true = sym (is_xid_start-ascii b small) ∙ ap is_xid_start (sym same) ∙ starts in
                ap (λ (q : Bool). q || ((b == 95) || nat_le 128 b)) letter
            | inr low ↦ ap is_word_byte (sym same ∙ eqb-true w.first 95 low)
          ]
      | inr large ↦ or_third (is_ascii_alphabetic b) (b == 95) (nat_le 128 b) (le-leb 128 b large)
    ]

-- what a byte may begin: 0 a word, 1 an integer, 2 a string, 3 a lifetime, 4 a mark
lead : ℕ → ℕ
lead b = cond (is_digit 10 b) 1 (cond (b == 34) 2 (cond (b == 39) 3 (cond (is_word_byte b) 0 4)))

digit_range : (b : ℕ) → is_digit 10 b ≡ true → b < 58
digit_range b h = grind (arith, nat_tests)

word_range : (b : ℕ) → is_word_byte b ≡ true → 65 ≤ b
unfolding is_word_byte
word_range b h =
    elim (or_true (is_ascii_alphabetic b) ((b == 95) || nat_le 128 b) h) [
      | inl letter ↦ elim (or_true (nat_le 65 b && nat_le b 90) (nat_le 97 b && nat_le b 122) letter) [
        | inl upper ↦ leb-true 65 b (and_true (nat_le 65 b) (nat_le b 90) upper).0
        | inr lower ↦ omega (arith, leb-true 97 b (and_true (nat_le 97 b) (nat_le b 122) lower).0)
      ]
      | inr other ↦ elim (or_true (b == 95) (nat_le 128 b) other) [ inl low ↦ omega (arith, eqb-true b 95 low) | inr large ↦ omega (arith, leb-true 128 b large) ]
    ]

no_digit : (b : ℕ) → 65 ≤ b → is_digit 10 b ≡ false
no_digit b large = by (is_digit 10 b) refl where
  by : (q : Bool) → is_digit 10 b ≡ q → is_digit 10 b ≡ false
  by true e = absurd (let small = digit_range b e in omega arith)
  by false e = e

lead_digit : (b : ℕ) → is_digit 10 b ≡ true → lead b ≡ 1
unfolding lead
lead_digit b h = ap (λ (q : Bool). cond q 1 (cond (b == 34) 2 (cond (b == 39) 3 (cond (is_word_byte b) 0 4)))) h

lead_quote : lead 34 ≡ 2
unfolding lead
lead_quote = refl

lead_tick : lead 39 ≡ 3
unfolding lead
lead_tick = refl

lead_by : (b : ℕ) → is_digit 10 b ≡ false → (b == 34) ≡ false → (b == 39) ≡ false → lead b ≡ cond (is_word_byte b) 0 4
unfolding lead
lead_by b d q t = rw (d, q, t) refl

lead_word : (b : ℕ) → is_word_byte b ≡ true → lead b ≡ 0
lead_word b h =
    let large = word_range b h in
    lead_by b (no_digit b large) (eqb_unlike b 34 (let n : b ≢ 34 = omega arith in n)) (eqb_unlike b 39 (let n : b ≢ 39 = omega arith in n)) ∙ ap (λ (q : Bool). cond q 0 4) h

-- no mark begins with what another form begins with
begins_mark : List ℕ → Bool
begins_mark [] = false
begins_mark (b ∷ rest) = lead b == 4

all_begin_marks : list_all (λ (row : Row). begins_mark row.text) marks ≡ true
unfolding begins_mark lead is_word_byte marks
all_begin_marks = refl

lead_mark : (text rest : List ℕ) (b : ℕ) → is_some (kind_in marks text) ≡ true → text ≡ b ∷ rest → lead b ≡ 4
unfolding begins_mark
lead_mark text rest b h is = eqb-true (lead b) 4 (ap begins_mark (sym is) ∙ row_passes begins_mark marks text all_begin_marks h)

-- ---- every token begins with some byte

pub token_some : (kind : TokenKind) (text : List ℕ) → IsToken kind text → 1 ≤ length text
token_some kind text (word w e) = word_some text w
token_some kind text (integer n e) = omega (arith, ap length (integer_head text n).2)
token_some kind text (string s e) = omega (arith, ap length s.opens)
token_some kind text (lifetime l e) = omega (arith, ap length l.opens)
token_some kind text (mark e) = (mark_len text (ap is_some e)).0

pub some_head : (text : List ℕ) → 1 ≤ length text → (b : ℕ) × (rest : List ℕ) × (text ≡ b ∷ rest)
some_head [] h = absurd (omega arith)
some_head (b ∷ rest) h = (b, rest, refl)

word_lead : (text rest : List ℕ) (b : ℕ) → IsWord text → text ≡ b ∷ rest → lead b ≡ 0
word_lead text rest b w is = lead_word b (word_byte text rest b w is)

integer_lead : (text rest : List ℕ) (b : ℕ) → IsInteger text → text ≡ b ∷ rest → lead b ≡ 1
integer_lead text rest b n is =
    let head = integer_head text n in
    lead_digit b (ap (is_digit 10) (same_head text rest head.1 b head.0 is head.2) ∙ head.3)

string_lead : (text rest : List ℕ) (b : ℕ) → IsString text → text ≡ b ∷ rest → lead b ≡ 2
string_lead text rest b s is = ap lead (same_head text rest s.inside b 34 is s.opens) ∙ lead_quote

quoted_lead : (text rest : List ℕ) (b : ℕ) → IsQuotedWord text → text ≡ b ∷ rest → lead b ≡ 3
quoted_lead text rest b l is = ap lead (same_head text rest l.word b 39 is l.opens) ∙ lead_tick

-- the kind of a token by its first byte
kind_at : ℕ → List ℕ → Option TokenKind
kind_at n text = cond (n == 0) (Some (word_kind text)) (cond (n == 1) (Some Int) (cond (n == 2) (Some Str) (cond (n == 3) (Some Lifetime) (kind_in marks text))))

token_kind : (kind : TokenKind) (text rest : List ℕ) (b : ℕ) → IsToken kind text → text ≡ b ∷ rest → kind_at (lead b) text ≡ Some kind
unfolding kind_at
token_kind kind text rest b (word w e) is = ap (λ (n : ℕ). kind_at n text) (word_lead text rest b w is) ∙ ap Some (sym e)
token_kind kind text rest b (integer n e) is = ap (λ (n : ℕ). kind_at n text) (integer_lead text rest b n is) ∙ ap Some (sym e)
token_kind kind text rest b (string s e) is = ap (λ (n : ℕ). kind_at n text) (string_lead text rest b s is) ∙ ap Some (sym e)
token_kind kind text rest b (lifetime l e) is = ap (λ (n : ℕ). kind_at n text) (quoted_lead text rest b l is) ∙ ap Some (sym e)
token_kind kind text rest b (mark e) is = ap (λ (n : ℕ). kind_at n text) (lead_mark text rest b (ap is_some e) is) ∙ e

-- a text is a token of one kind
pub one_kind : (kind other : TokenKind) (text : List ℕ) → IsToken kind text → IsToken other text → kind ≡ other
one_kind kind other text t u =
    let head = some_head text (token_some kind text t) in
    some_of kind other (sym (token_kind kind text head.1 head.0 t head.2) ∙ token_kind other text head.1 head.0 u head.2) where
      some_of : (x y : TokenKind) → Some x ≡ Some y → x ≡ y
      some_of x y e = cc

-- ---- from the longest of a form to the longest token

only_integer : (kind : TokenKind) (text rest : List ℕ) (b : ℕ) → lead b ≡ 1 → text ≡ b ∷ rest → IsToken kind text → IsInteger text
only_integer kind text rest b l is (word w e) = absurd (omega (arith, l, word_lead text rest b w is))
only_integer kind text rest b l is (integer n e) = n
only_integer kind text rest b l is (string s e) = absurd (omega (arith, l, string_lead text rest b s is))
only_integer kind text rest b l is (lifetime q e) = absurd (omega (arith, l, quoted_lead text rest b q is))
only_integer kind text rest b l is (mark e) = absurd (omega (arith, l, lead_mark text rest b (ap is_some e) is))

only_string : (kind : TokenKind) (text rest : List ℕ) (b : ℕ) → lead b ≡ 2 → text ≡ b ∷ rest → IsToken kind text → IsString text
only_string kind text rest b l is (word w e) = absurd (omega (arith, l, word_lead text rest b w is))
only_string kind text rest b l is (integer n e) = absurd (omega (arith, l, integer_lead text rest b n is))
only_string kind text rest b l is (string s e) = s
only_string kind text rest b l is (lifetime q e) = absurd (omega (arith, l, quoted_lead text rest b q is))
only_string kind text rest b l is (mark e) = absurd (omega (arith, l, lead_mark text rest b (ap is_some e) is))

only_quoted : (kind : TokenKind) (text rest : List ℕ) (b : ℕ) → lead b ≡ 3 → text ≡ b ∷ rest → IsToken kind text → IsQuotedWord text
only_quoted kind text rest b l is (word w e) = absurd (omega (arith, l, word_lead text rest b w is))
only_quoted kind text rest b l is (integer n e) = absurd (omega (arith, l, integer_lead text rest b n is))
only_quoted kind text rest b l is (string s e) = absurd (omega (arith, l, string_lead text rest b s is))
only_quoted kind text rest b l is (lifetime q e) = q
only_quoted kind text rest b l is (mark e) = absurd (omega (arith, l, lead_mark text rest b (ap is_some e) is))

only_word : (kind : TokenKind) (text rest : List ℕ) (b : ℕ) → lead b ≡ 0 → text ≡ b ∷ rest → IsToken kind text → IsWord text
only_word kind text rest b l is (word w e) = w
only_word kind text rest b l is (integer n e) = absurd (omega (arith, l, integer_lead text rest b n is))
only_word kind text rest b l is (string s e) = absurd (omega (arith, l, string_lead text rest b s is))
only_word kind text rest b l is (lifetime q e) = absurd (omega (arith, l, quoted_lead text rest b q is))
only_word kind text rest b l is (mark e) = absurd (omega (arith, l, lead_mark text rest b (ap is_some e) is))

only_mark : (kind : TokenKind) (text rest : List ℕ) (b : ℕ) → lead b ≡ 4 → text ≡ b ∷ rest → IsToken kind text → IsSome (kind_in marks text)
only_mark kind text rest b l is (word w e) = absurd (omega (arith, l, word_lead text rest b w is))
only_mark kind text rest b l is (integer n e) = absurd (omega (arith, l, integer_lead text rest b n is))
only_mark kind text rest b l is (string s e) = absurd (omega (arith, l, string_lead text rest b s is))
only_mark kind text rest b l is (lifetime q e) = absurd (omega (arith, l, quoted_lead text rest b q is))
only_mark kind text rest b l is (mark e) = ap is_some e

-- a front that is not empty begins with the text's first byte
front_head : (text rest front back : List ℕ) (b : ℕ) → text ≡ b ∷ rest → front ++ back ≡ text → 1 ≤ length front → (more : List ℕ) × (front ≡ b ∷ more)
front_head text rest [] back b is whole some = absurd (omega arith)
front_head text rest (x ∷ front) back b is whole some = (front, ap (λ (v : ℕ). v ∷ front) (same_head text (front ++ back) rest x b (sym whole) is))

-- the tokens that begin with this byte have this form
HaveForm : ℕ → (List ℕ → Type 0) → Type 0
HaveForm b Form = (kind : TokenKind) (front more : List ℕ) → front ≡ b ∷ more → IsToken kind front → Form front

longest_by : (Form : List ℕ → Type 0) (text rest : List ℕ) (b n : ℕ) (kind : TokenKind) → text ≡ b ∷ rest → HaveForm b Form → IsToken kind (take n text) → HasLongest Form text n → IsLongestToken kind text n
unfolding HaveForm
longest_by Form text rest b n kind is form token longest = record {
  within = longest.within;
  token = token;
  longest = λ other front back whole t. let head = front_head text rest front back b is whole (token_some other front t) in
      longest.longest front back whole (form other front head.0 head.1 t);
}

none_by : (Form : List ℕ → Type 0) (text rest : List ℕ) (b : ℕ) → text ≡ b ∷ rest → HaveForm b Form → HasNone Form text → HasNoToken text
unfolding HaveForm
none_by Form text rest b is form none kind front back whole t =
    let head = front_head text rest front back b is whole (token_some kind front t) in
    none front back whole (form kind front head.0 head.1 t)

pub no_token_empty : (text : List ℕ) → length text ≡ 0 → HasNoToken text
no_token_empty text empty kind front back whole t = omega (arith, token_some kind front t, ap length whole, length-append front back)

pub longest_integer : (text rest : List ℕ) (b n : ℕ) → text ≡ b ∷ rest → is_digit 10 b ≡ true → HasLongest IsInteger text n → IsLongestToken Int text n
unfolding HaveForm
longest_integer text rest b n is digit longest =
    longest_by IsInteger text rest b n Int is (λ kind front more is t. only_integer kind front more b (lead_digit b digit) is t) (integer longest.form refl) longest

pub longest_string : (text rest : List ℕ) (b n : ℕ) → text ≡ b ∷ rest → b ≡ 34 → HasLongest IsString text n → IsLongestToken Str text n
unfolding HaveForm
longest_string text rest b n is e longest =
    longest_by IsString text rest b n Str is (λ kind front more is t. only_string kind front more b (ap lead e ∙ lead_quote) is t) (string longest.form refl) longest

pub no_string : (text rest : List ℕ) (b : ℕ) → text ≡ b ∷ rest → b ≡ 34 → HasNone IsString text → HasNoToken text
unfolding HaveForm
no_string text rest b is e missing = none_by IsString text rest b is (λ kind front more is t. only_string kind front more b (ap lead e ∙ lead_quote) is t) missing

pub longest_lifetime : (text rest : List ℕ) (b n : ℕ) → text ≡ b ∷ rest → b ≡ 39 → HasLongest IsQuotedWord text n → IsLongestToken Lifetime text n
unfolding HaveForm
longest_lifetime text rest b n is e longest =
    longest_by IsQuotedWord text rest b n Lifetime is (λ kind front more is t. only_quoted kind front more b (ap lead e ∙ lead_tick) is t) (lifetime longest.form refl) longest

pub no_lifetime : (text rest : List ℕ) (b : ℕ) → text ≡ b ∷ rest → b ≡ 39 → HasNone IsQuotedWord text → HasNoToken text
unfolding HaveForm
no_lifetime text rest b is e missing = none_by IsQuotedWord text rest b is (λ kind front more is t. only_quoted kind front more b (ap lead e ∙ lead_tick) is t) missing

pub longest_word : (text rest : List ℕ) (b n : ℕ) (kind : TokenKind) → text ≡ b ∷ rest → kind ≡ word_kind (take n text) → HasLongest IsWord text n → IsLongestToken kind text n
unfolding HaveForm
longest_word text rest b n kind is e longest =
    let head = front_head text rest (take n text) (drop n text) b is (take-append-drop n text) (word_some (take n text) longest.form) in
    let l = word_lead (take n text) head.0 b longest.form head.1 in
    longest_by IsWord text rest b n kind is (λ kind front more is t. only_word kind front more b l is t) (word longest.form e) longest

pub longest_mark_token : (text rest : List ℕ) (b n : ℕ) (kind : TokenKind) → text ≡ b ∷ rest → kind_in marks (take n text) ≡ Some kind → HasLongest (λ mark. IsSome (kind_in marks mark)) text n → IsLongestToken kind text n
unfolding HaveForm
longest_mark_token text rest b n kind is e longest =
    let head = front_head text rest (take n text) (drop n text) b is (take-append-drop n text) (mark_len (take n text) longest.form).0 in
    let l = lead_mark (take n text) head.0 b longest.form head.1 in
    longest_by (λ mark. IsSome (kind_in marks mark)) text rest b n kind is (λ kind front more is t. only_mark kind front more b l is t) (mark e) longest

-- where neither a digit nor a quote stands first, no word and no mark, no token stands
pub no_other : (text rest : List ℕ) (b : ℕ) → text ≡ b ∷ rest → is_digit 10 b ≡ false → b ≢ 34 → b ≢ 39 → HasNone IsWord text → HasNone (λ mark. IsSome (kind_in marks mark)) text → HasNoToken text
no_other text rest b is d q t no_words no_marks kind front back whole (word w e) = no_words front back whole w
no_other text rest b is d q t no_words no_marks kind front back whole (integer n e) =
    let head = integer_head front n in
    let first = front_head text rest front back b is whole (omega (arith, ap length head.2)) in
    false≢true (sym d ∙ ap (is_digit 10) (same_head front first.0 head.1 b head.0 first.1 head.2) ∙ head.3)
no_other text rest b is d q t no_words no_marks kind front back whole (string s e) =
    let first = front_head text rest front back b is whole (omega (arith, ap length s.opens)) in
    q (same_head front first.0 s.inside b 34 first.1 s.opens)
no_other text rest b is d q t no_words no_marks kind front back whole (lifetime l e) =
    let first = front_head text rest front back b is whole (omega (arith, ap length l.opens)) in
    t (same_head front first.0 l.word b 39 first.1 l.opens)
no_other text rest b is d q t no_words no_marks kind front back whole (mark e) = no_marks front back whole (ap is_some e)

-- ---- a token ends where a character ends

-- all bytes are ASCII
pub all_ascii : List ℕ → Bool
all_ascii text = list_all (λ (b : ℕ). nat_lt b 128) text

ascii_at : (text : List ℕ) (i : ℕ) → all_ascii text ≡ true → get_or text i 0 < 128
unfolding all_ascii
ascii_at [] i h = omega arith
ascii_at (b ∷ text) zero h = ltb-true b 128 (and_true (nat_lt b 128) (all_ascii text) h).0
ascii_at (b ∷ text) (suc i) h = ascii_at text i (and_true (nat_lt b 128) (all_ascii text) h).1

ascii_boundary : (text : List ℕ) (n : ℕ) → IsUtf8 text → n ≤ length text → all_ascii (take n text) ≡ true → IsCharBoundary text n
ascii_boundary text n utf8 within ascii = IsCharBoundary-from_take text n utf8 within (IsUtf8-from_ascii (take n text) (λ i. ascii_at (take n text) i ascii))

all_marks_ascii : list_all (λ (row : Row). all_ascii row.text) marks ≡ true
unfolding all_ascii marks
all_marks_ascii = refl

pub mark_boundary : (text : List ℕ) (n : ℕ) (kind : TokenKind) → IsUtf8 text → n ≤ length text → kind_in marks (take n text) ≡ Some kind → IsCharBoundary text n
mark_boundary text n kind utf8 within found =
    ascii_boundary text n utf8 within (row_passes all_ascii marks (take n text) all_marks_ascii (ap is_some found))

pub integer_boundary : (text : List ℕ) (n : ℕ) → IsUtf8 text → n ≤ length text → IsInteger (take n text) → IsCharBoundary text n
unfolding all_ascii
integer_boundary text n utf8 within form = ascii_boundary text n utf8 within (integer_ascii (take n text) form)

pub string_boundary : (text inside : List ℕ) (n : ℕ) → text ≡ 34 ∷ inside → IsUtf8 text → n ≤ length inside → StringEnds inside (drop n inside) → IsCharBoundary text (1 + n)
string_boundary text inside n opens utf8 within ends =
    let last = string_last inside n within ends in
    let shift : get_or text (suc (n - 1)) 0 ≡ 34 = ap (λ (t : List ℕ). get_or t (suc (n - 1)) 0) opens ∙ last.1 in
    let at : suc (n - 1) ≡ n = omega (arith, last.0) in
    let here : get_or text n 0 ≡ 34 = ap (λ (k : ℕ). get_or text k 0) (sym at) ∙ shift in
    subst (λ (k : ℕ). IsCharBoundary text k) (let e : n + 1 ≡ 1 + n = omega arith in e)
    (IsCharBoundary-after_ascii text n utf8 (omega (arith, ap length opens)) (omega arith))

-- ---- in the code's terms

pub nil_of : (text : List ℕ) → None ≡ slice_get text 0 → length text ≡ 0
nil_of [] e = refl
nil_of (b ∷ text) e = absurd cc

module _ (bytes text : List ℕ) (b : ℕ) (same : bytes ≡ text) (first : Some b ≡ slice_get bytes 0) where
  opens : text ≡ b ∷ drop 1 text
  opens = subst (λ (t : List ℕ). t ≡ b ∷ drop 1 t) same (head_of bytes b first)

  tail_is : take (length bytes - 1) (drop 1 bytes) ≡ drop 1 text
  tail_is = rest_of 1 bytes ∙ ap (drop 1) same

  pub integer_stands : (n : ℕ) → is_digit 10 b ≡ true → HasLongest IsInteger bytes n → IsLongestToken Int text n
  integer_stands n digit longest = longest_integer text (drop 1 text) b n opens digit (subst (λ (t : List ℕ). HasLongest IsInteger t n) same longest)

  pub integer_ends : (n : ℕ) → IsUtf8 text → HasLongest IsInteger bytes n → IsCharBoundary text n
  integer_ends n utf8 longest =
      let here = subst (λ (t : List ℕ). HasLongest IsInteger t n) same longest in
      integer_boundary text n utf8 here.within here.form

  pub string_stands : (n : ℕ) → b ≡ 34 → n ≤ length (take (length bytes - 1) (drop 1 bytes)) → StringEnds (take (length bytes - 1) (drop 1 bytes)) (drop n (take (length bytes - 1) (drop 1 bytes))) → IsLongestToken Str text (1 + n)
  string_stands n e within ends =
      longest_string text (drop 1 text) b (1 + n) opens e
      (string_longest text (drop 1 text) (opens ∙ ap (λ (x : ℕ). x ∷ drop 1 text) e) n (omega (arith, within, ap length tail_is)) (subst (λ (t : List ℕ). StringEnds t (drop n t)) tail_is ends))

  pub string_ends : (n : ℕ) → b ≡ 34 → IsUtf8 text → n ≤ length (take (length bytes - 1) (drop 1 bytes)) → StringEnds (take (length bytes - 1) (drop 1 bytes)) (drop n (take (length bytes - 1) (drop 1 bytes))) → IsCharBoundary text (1 + n)
  string_ends n e utf8 within ends =
      string_boundary text (drop 1 text) n (opens ∙ ap (λ (x : ℕ). x ∷ drop 1 text) e) utf8 (omega (arith, within, ap length tail_is)) (subst (λ (t : List ℕ). StringEnds t (drop n t)) tail_is ends)

  pub no_string_stands : b ≡ 34 → ((rest : List ℕ) → StringEnds (take (length bytes - 1) (drop 1 bytes)) rest → ⊥) → HasNoToken text
  no_string_stands e never =
      no_string text (drop 1 text) b opens e
      (no_string_form text (drop 1 text) (opens ∙ ap (λ (x : ℕ). x ∷ drop 1 text) e) (λ rest h. never rest (subst (λ (t : List ℕ). StringEnds t rest) (sym tail_is) h)))

  pub first_within : 0 < length text
  first_within = omega (arith, ap length opens)

  pub tick_ends : b ≡ 39 → IsUtf8 text → IsCharBoundary text 1
  tick_ends e utf8 =
      let here : get_or text 0 0 ≡ 39 = ap (λ (t : List ℕ). get_or t 0 0) opens ∙ e in
      IsCharBoundary-after_ascii text 0 utf8 first_within (omega arith)

  pub lifetime_stands : (n : ℕ) (tail : List ℕ) → tail ≡ drop 1 text → b ≡ 39 → HasLongest IsWord tail n → IsLongestToken Lifetime text (1 + n)
  lifetime_stands n tail is e longest =
      longest_lifetime text (drop 1 text) b (1 + n) opens e
      (quoted_longest text (drop 1 text) (opens ∙ ap (λ (x : ℕ). x ∷ drop 1 text) e) n (subst (λ (t : List ℕ). HasLongest IsWord t n) is longest))

  pub no_lifetime_stands : (tail : List ℕ) → tail ≡ drop 1 text → b ≡ 39 → HasNone IsWord tail → HasNoToken text
  no_lifetime_stands tail is e never =
      no_lifetime text (drop 1 text) b opens e
      (no_quoted_form text (drop 1 text) (opens ∙ ap (λ (x : ℕ). x ∷ drop 1 text) e) (subst (λ (t : List ℕ). HasNone IsWord t) is never))

  pub word_stands : (n : ℕ) (kind : TokenKind) → kind ≡ word_kind (take n bytes) → HasLongest IsWord text n → IsLongestToken kind text n
  word_stands n kind e longest = longest_word text (drop 1 text) b n kind opens (e ∙ ap (λ (t : List ℕ). word_kind (take n t)) same) longest

  pub mark_stands : (r : Option Front) → is_digit 10 b ≡ false → b ≢ 34 → b ≢ 39 → HasNone IsWord text → MatchOption r (Unit {0}) (λ front. kind_in marks (take front.len bytes) ≡ Some front.kind)
      → MatchOption r (HasNone (λ mark. IsSome (kind_in marks mark)) bytes) (λ front. HasLongest (λ mark. IsSome (kind_in marks mark)) bytes front.len)
      → MatchOption r (HasNoToken text) (λ front. IsLongestToken front.kind text front.len)
  mark_stands (Some front) d q t no_words found longest =
      longest_mark_token text (drop 1 text) b front.len front.kind opens (ap (λ (t : List ℕ). kind_in marks (take front.len t)) (sym same) ∙ found)
      (subst (λ (t : List ℕ). HasLongest (λ mark. IsSome (kind_in marks mark)) t front.len) same longest)
  mark_stands None d q t no_words found longest =
      no_other text (drop 1 text) b opens d q t no_words (subst (λ (t : List ℕ). HasNone (λ mark. IsSome (kind_in marks mark)) t) same longest)

  pub mark_ends : (r : Option Front) → IsUtf8 text → MatchOption r (Unit {0}) (λ front. kind_in marks (take front.len bytes) ≡ Some front.kind)
      → MatchOption r (HasNone (λ mark. IsSome (kind_in marks mark)) bytes) (λ front. HasLongest (λ mark. IsSome (kind_in marks mark)) bytes front.len)
      → MatchOption r (Unit {0}) (λ front. IsCharBoundary text front.len)
  mark_ends (Some front) utf8 found longest =
      mark_boundary text front.len front.kind utf8 (omega (arith, longest.within, ap length same)) (ap (λ (t : List ℕ). kind_in marks (take front.len t)) (sym same) ∙ found)
  mark_ends None utf8 found longest = tt
