-- What the words of a proof file spell.
use Rattle.std.specs.Prelude.{ℕ, ℤ, pos, neg_ℤ, ◌+◌, ◌^◌, List, [], ◌∷◌, ◌++◌, length, drop, codes, Bool, ◌&&◌, ◌||◌, Option, None, Some, slice_index, nat_lt, ◌==◌, if◌then◌else◌}
use Rattle.std.specs.Char.{is_ascii_digit}
use Rattle.std.specs.List.{list_all, slice_split, position_or_len, before_first, after_first}
use Rattle.std.specs.Option.{option_map}
use Rattle.std.specs.Str.{bytes_eq}
use Rattle.std.specs.Str.Parse.{digits_value}
use Rattle.logic_term.specs.declared.kinds.Label2.{Label2}
use Rattle.proof_kernel.specs.declared.step.Multiple.{Multiple}
use Rattle.proof_kernel.specs.declared.step.Reference.{Reference}
use Rattle.proof_kernel.specs.declared.step.Reference.TheVariants.{Goal, Hyp, Back}
use Rattle.rs_tokens.specs.Tokens.{is_identifier}

infixl 10 ◌>>=◌
abbrev pub ◌>>=◌ : {A B : Type 0} → Option A → (A → Option B) → Option B
None >>= f = None
(Some x) >>= f = f x

-- item by item
abbrev pub Each : {A B : Type 0} → (A → B → Type 0) → List A → List B → Type 0
Each R [] [] = Unit {0}
Each R (x ∷ xs) (y ∷ ys) = R x y × Each R xs ys
Each R _ _ = ⊥

-- `0`, or decimal digits of which the first is not `0`
unfoldable pub is_numeral : List ℕ → Bool
is_numeral word = if slice_index word 0 == 48 then length word == 1 else nat_lt 0 (length word) && list_all is_ascii_digit word

-- the value of a numeral, where it is below the bound
abbrev pub numeral_below : ℕ → List ℕ → Option ℕ
numeral_below bound word = if is_numeral word && nat_lt (digits_value 10 word) bound then Some (digits_value 10 word) else None

abbrev pub number_of : List ℕ → Option ℕ
number_of word = numeral_below (2 ^ 32) word

-- what follows a `-`
abbrev pub after_minus : List ℕ → Option (List ℕ)
after_minus word = if slice_index word 0 == 45 then Some (drop 1 word) else None

-- the first where there is one, or the second
abbrev pub or_else : {A B C : Type 0} → (A → C) → (B → C) → Option A → B → C
or_else f g (Some x) y = f x
or_else f g None y = g y

-- a number of 128 bits with a sign: a numeral, or `-` and a numeral
unfoldable pub multiplier_of : List ℕ → Option ℤ
multiplier_of word =
    or_else (λ digits. option_map (λ n. neg_ℤ (pos n)) (numeral_below (2 ^ 127 + 1) digits))
    (λ digits. option_map pos (numeral_below (2 ^ 127) digits)) (after_minus word) word

-- what stands before and after the first such byte
abbrev pub cut : ℕ → List ℕ → Option (List ℕ × List ℕ)
cut byte word =
    if nat_lt (position_or_len (λ b. b == byte) word) (length word)
    then Some (before_first (λ b. b == byte) word, after_first (λ b. b == byte) word)
    else None

-- what stands before a space at the end
abbrev pub before_space : List ℕ → Option (List ℕ)
before_space [] = None
before_space (b ∷ []) = if b == 32 then Some [] else None
before_space (b ∷ c ∷ bs) = option_map (λ front. b ∷ front) (before_space (c ∷ bs))

-- what stands behind a space at the start
abbrev pub behind_space : List ℕ → Option (List ℕ)
behind_space [] = None
behind_space (b ∷ bs) = if b == 32 then Some bs else None

-- the texts before and behind ` ; `, where it stands at the first semicolon
unfoldable pub two_texts : List ℕ → Option (List ℕ × List ℕ)
two_texts rest = do
  parts ← cut 59 rest
  first ← before_space parts.0
  second ← behind_space parts.1
  Some (first, second)

-- what stands before and behind a semicolon, without the space on each side of it
abbrev pub at_semicolon : List ℕ → List ℕ → Option (List ℕ × List ℕ)
at_semicolon front back = do
  first ← before_space front
  second ← behind_space back
  Some (first, second)

-- the text, and those behind it, of which each piece but the text still has the semicolon's space before it
abbrev pub texts_from : List ℕ → List (List ℕ) → Option (List (List ℕ))
texts_from text [] = Some (text ∷ [])
texts_from text (piece ∷ pieces) = do
  ends ← at_semicolon text piece
  others ← texts_from ends.1 pieces
  Some (ends.0 ∷ others)

abbrev pub texts_of : List (List ℕ) → Option (List (List ℕ))
texts_of [] = None
texts_of (piece ∷ pieces) = texts_from piece pieces

-- one text or more: each semicolon has one space before it and one behind it, and stands between two of them
unfoldable pub texts_in : List ℕ → Option (List (List ℕ))
texts_in text = texts_of (slice_split (λ b. b == 59) text)

-- a byte and those behind it, cut at the last such byte among those behind it, or else at the byte itself
abbrev pub last_from : ℕ → ℕ → List ℕ → Option (List ℕ × List ℕ) → Option (List ℕ × List ℕ)
last_from byte b bs (Some parts) = Some (b ∷ parts.0, parts.1)
last_from byte b bs None = if b == byte then Some ([], bs) else None

-- what stands before and after the last such byte
abbrev pub cut_last : ℕ → List ℕ → Option (List ℕ × List ℕ)
cut_last byte [] = None
cut_last byte (b ∷ bs) = last_from byte b bs (cut_last byte bs)

-- words, with one space before each
abbrev pub spaced_words : List ℕ → Option (List (List ℕ))
spaced_words [] = Some []
spaced_words (b ∷ bs) = option_map (slice_split (λ c. c == 32)) (behind_space (b ∷ bs))

-- what stands between two lists of names
abbrev pub is_bar : List ℕ → Bool
is_bar word = bytes_eq word (codes "|")

abbrev pub is_listed : List ℕ → Bool
is_listed word = is_bar word || is_identifier word

-- a text, and the names and bars behind ` :`, of which the colon is the last one
unfoldable pub text_and_names : List ℕ → Option (List ℕ × List (List ℕ))
text_and_names rest = do
  parts ← cut_last 58 rest
  text ← before_space parts.0
  words ← spaced_words parts.1
  if list_all is_listed words then Some (text, words) else None

-- the same, the text being a name
unfoldable pub name_and_names : List ℕ → Option (List ℕ × List (List ℕ))
name_and_names rest = do
  parts ← text_and_names rest
  if is_identifier parts.0 then Some parts else None

-- the lists of names: what stands before the first bar, between two of them, and behind the last
abbrev pub lists_of : List (List ℕ) → List (List (List ℕ))
lists_of words = slice_split is_bar words

-- the names of all lists, in order
abbrev pub joined : List (List (List ℕ)) → List (List ℕ)
joined [] = []
joined (texts ∷ lists) = texts ++ joined lists

-- `S.P`: two numbers with a point between
unfoldable pub label_of : List ℕ → Option Label2
label_of word = do
  parts ← cut 46 word
  step ← number_of parts.0
  part ← number_of parts.1
  Some (record { step = step; part = part })

-- a label, and what stands behind one space
unfoldable pub label_and_text : List ℕ → Option (Label2 × List ℕ)
label_and_text rest = do
  parts ← cut 32 rest
  label ← label_of parts.0
  Some (label, parts.1)

-- a label, and behind one space one text or more
unfoldable pub label_and_texts : List ℕ → Option (Label2 × List (List ℕ))
label_and_texts rest = do
  parts ← label_and_text rest
  texts ← texts_in parts.1
  Some (parts.0, texts)

-- `goal`, a label, or `-` and a label
unfoldable pub reference_of : List ℕ → Option Reference
reference_of word =
    if bytes_eq word (codes "goal") then Some Goal
    else or_else (λ label. option_map Back (label_of label)) (λ label. option_map Hyp (label_of label)) (after_minus word) word

-- `M:REF`: a multiplier and a reference with a colon between
unfoldable pub multiple_of : List ℕ → Option Multiple
multiple_of word = do
  parts ← cut 58 word
  by ← multiplier_of parts.0
  of ← reference_of parts.1
  Some (record { by = by; of = of })
