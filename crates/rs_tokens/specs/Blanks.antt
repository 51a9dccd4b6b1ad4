-- What stands between tokens.
use Rattle.std.specs.Prelude.{◌≡◌, ℕ, Bool, false, ◌==◌, ◌&&◌, ◌||◌, not, List, [], ◌∷◌, drop, IsTrue}
use Rattle.std.specs.List.{prefix_len}

-- ---- white space and line comments (Rust Reference, "Whitespace" and "Comments")

-- space, tab, carriage return, line feed
abbrev pub is_white : ℕ → Bool
is_white b = (b == 32) || (b == 9) || (b == 13) || (b == 10)

-- the text begins with these two bytes
abbrev pub begins : List ℕ → ℕ → ℕ → Bool
begins [] a b = false
begins (x ∷ []) a b = false
begins (x ∷ y ∷ rest) a b = (x == a) && (y == b)

abbrev pub is_no_line_feed : ℕ → Bool
is_no_line_feed b = not (b == 10)

-- what is left from the line's end on
abbrev pub line_end : List ℕ → List ℕ
line_end text = drop (prefix_len is_no_line_feed text) text

-- ---- block comments (Rust Reference, "Comments")

-- `/*`
abbrev pub opens_comment : List ℕ → Bool
opens_comment text = begins text 47 42

-- `*/`
abbrev pub closes_comment : List ℕ → Bool
closes_comment text = begins text 42 47

-- Behind the `/*` of a comment, the text runs to the `*/` that closes it, and the rest follows it: comments inside are closed before.
pub data CommentEnds : List ℕ → List ℕ → Type 0 where
  close : {text rest : List ℕ} → text ≡ 42 ∷ (47 ∷ rest) → CommentEnds text rest
  nested : {text inside after rest : List ℕ} → text ≡ 47 ∷ (42 ∷ inside) → CommentEnds inside after → CommentEnds after rest → CommentEnds text rest
  other : {text more rest : List ℕ} {b : ℕ} → text ≡ b ∷ more → opens_comment text ≡ false → closes_comment text ≡ false → CommentEnds more rest → CommentEnds text rest

-- ---- blanks

-- The text begins with one blank, and the rest follows it.
pub data BlankEnds : List ℕ → List ℕ → Type 0 where
  white : {text rest : List ℕ} {b : ℕ} → text ≡ b ∷ rest → IsTrue (is_white b) → BlankEnds text rest
  line : {text rest more : List ℕ} → text ≡ 47 ∷ (47 ∷ more) → rest ≡ line_end more → BlankEnds text rest
  block : {text rest inside : List ℕ} → text ≡ 47 ∷ (42 ∷ inside) → CommentEnds inside rest → BlankEnds text rest

-- The text begins with blanks, as many as there are or none, and the rest follows them.
pub data Skips : List ℕ → List ℕ → Type 0 where
  none : {text rest : List ℕ} → text ≡ rest → Skips text rest
  more : {text after rest : List ℕ} → BlankEnds text after → Skips after rest → Skips text rest

-- The rest stands behind all blanks at the front of the text. A comment that is not closed is no blank.
pub record Settles (text rest : List ℕ) : Type 0 where
  pub skips : Skips text rest
  pub stops : (after : List ℕ) → BlankEnds rest after → ⊥
