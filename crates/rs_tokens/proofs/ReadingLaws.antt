-- The tokens of a whole text.
use Rattle.std.proofs.Common.{◌≡◌, ℕ, ◌+◌, ◌≤◌, Bool, true, false, cond, List, [], ◌∷◌, length, take, drop, Some, None, refl, sym, ap, subst, ◌∙◌, arith}
use Rattle.std.specs.Prelude.{encode_utf8, nat_lt}
use Rattle.std.proofs.lemmas.List.{length-append, length-take-le, length-drop, drop-drop}
use Rattle.rs_tokens.specs.declared.token.TokenKind.{TokenKind}
use Rattle.rs_tokens.specs.declared.token.TokenKind.TheVariants.{Ident, Lifetime, Int}
use Rattle.rs_tokens.specs.Tokens.{IsLongestToken, refused_of, bounded, names_lifetime, word_kind, longest_identifier, largest_integer, integer_value}
use Rattle.rs_tokens.specs.Reading.{IsRefused, comment, string, character, token, Gives, Refuses, HasEnded}
use Rattle.rs_tokens.specs.Blanks.{opens_comment, Settles}
use Rattle.std.specs.Str.{IsUtf8, IsCharBoundary}
use Rattle.rs_tokens.proofs.BlankLaws.{skips_boundary}
use Rattle.rs_tokens.proofs.TokenLaws.{token_some}

-- ---- what is shown of a refusal stands in the text

bounded_len : (measure bound len n : ℕ) → bounded measure bound len ≡ Some n → n ≡ len
bounded_len measure bound len n e = by (nat_lt bound measure) e where
  by : (q : Bool) → cond q (Some len) None ≡ Some n → n ≡ len
  by true e = cc
  by false e = absurd cc

refused_len : (kind : TokenKind) (text : List ℕ) (n : ℕ) → 1 ≤ length text → refused_of kind text ≡ Some n → n ≤ length text
refused_len Ident text n some e = omega (arith, bounded_len (length text) longest_identifier (length text) n e)
refused_len Lifetime text n some e = by (names_lifetime (word_kind (drop 1 text))) e where
  by : (q : Bool) → cond q (bounded (length text) (1 + longest_identifier) (length text)) (Some 1) ≡ Some n → n ≤ length text
  by true e = omega (arith, bounded_len (length text) (1 + longest_identifier) (length text) n e)
  by false e = let one : n ≡ 1 = cc in omega arith
refused_len Int text n some e = omega (arith, bounded_len (integer_value text) largest_integer (length text) n e)
refused_len _ text n some e = absurd (none_some n e) where
  none_some : (n : ℕ) → None ≡ Some n → ⊥
  none_some n e = cc

pub refused_within : (text : List ℕ) (len : ℕ) → IsRefused text len → len ≤ length text
refused_within text len (comment o e) = omega arith
refused_within text len (string more o n e) = omega arith
refused_within text len (character c more o is n m e) = omega (arith, ap length is, length-append (encode_utf8 c) more)
refused_within text len (token {kind} {size} o stands e) =
    omega (arith, refused_len kind (take size text) len (token_some kind (take size text) stands.token) e, length-take-le size text stands.within, stands.within)

-- ---- a call of the lexer

module _ (bytes left here : List ℕ) (at skipped : ℕ) (within : at ≤ length bytes) (left_is : left ≡ drop at bytes) (some : skipped ≤ length left)
    (here_is : here ≡ drop skipped left) where
  stands_at : here ≡ drop (at + skipped) bytes
  stands_at = here_is ∙ ap (drop skipped) left_is ∙ drop-drop skipped at bytes

  pub here_len : at + skipped + length here ≡ length bytes
  here_len = omega (arith, ap length here_is, length-drop skipped left, ap length left_is, length-drop at bytes)

  settles_at : Settles left (drop skipped left) → Settles (drop at bytes) (drop (at + skipped) bytes)
  settles_at h = subst (λ (x : List ℕ). Settles x (drop (at + skipped) bytes)) left_is (subst (λ (x : List ℕ). Settles left x) (sym here_is ∙ stands_at) h)

  pub found_token : (kind : TokenKind) (len : ℕ) → Settles left (drop skipped left) → opens_comment here ≡ false → IsLongestToken kind here len → refused_of kind (take len here) ≡ None
      → Gives bytes at (record { kind = kind; span = record { start = at + skipped; end = at + skipped + len } })
  found_token kind len settles closed stands admitted = record {
    len = len;
    ends = refl;
    within = omega (arith, here_len, stands.within);
    settles = settles_at settles;
    no_comment = ap opens_comment (sym stands_at) ∙ closed;
    stands = subst (λ (x : List ℕ). IsLongestToken kind x len) stands_at stands;
    admitted = ap (λ (x : List ℕ). refused_of kind (take len x)) (sym stands_at) ∙ admitted;
  }

  pub found_refusal : (len : ℕ) → Settles left (drop skipped left) → IsRefused here len
      → Refuses bytes at (record { start = at + skipped; end = at + skipped + len })
  found_refusal len settles refused = record {
    len = len;
    ends = refl;
    within = omega (arith, here_len);
    settles = settles_at settles;
    refused = subst (λ (x : List ℕ). IsRefused x len) stands_at refused;
  }

  pub found_end : Settles left (drop skipped left) → length here ≡ 0 → HasEnded bytes at
  found_end settles empty =
      subst (λ (x : List ℕ). Settles (drop at bytes) x) (nil_from (drop (at + skipped) bytes) (omega (arith, ap length stands_at))) (settles_at settles) where
        nil_from : (xs : List ℕ) → length xs ≡ 0 → xs ≡ []
        nil_from [] e = refl
        nil_from (x ∷ xs) e = absurd (omega arith)

  pub left_behind : (len : ℕ) (behind : List ℕ) → behind ≡ drop len here → behind ≡ drop (at + skipped + len) bytes
  left_behind len behind is = is ∙ ap (drop len) stands_at ∙ drop-drop len (at + skipped) bytes

pub settled_boundary : (bytes left : List ℕ) (skipped : ℕ) → bytes ≡ left → IsUtf8 bytes → skipped ≤ length bytes → Settles bytes (drop skipped bytes) → IsCharBoundary left skipped
settled_boundary bytes left skipped same utf8 within settles =
    subst (λ (x : List ℕ). IsCharBoundary x skipped) same (skips_boundary bytes skipped utf8 within settles.skips)
