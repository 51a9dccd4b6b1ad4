-- Words and identifiers, as tests.
use Rattle.std.proofs.Common.{◌≡◌, ℕ, Bool, true, false, not, ◌&&◌, ◌||◌, cond, List, [], ◌∷◌, length, take, ◌==◌, Some, None, refl, sym, ap, subst, ◌∙◌, arith}
use Rattle.std.specs.Prelude.{nat_lt, nat_le, encode_utf8_all}
use lib.Utf8.{scalar, scalars}
use Rattle.std.specs.List.{list_all}
use Rattle.std.specs.Str.{bytes_eq, chars, IsUtf8, is_utf8}
use Rattle.std.proofs.lemmas.Bool.{false≢true, eqb-true, eq-eqb}
use Rattle.std.proofs.lemmas.List.{append-nil}
use Rattle.std.proofs.Math.Seq.{take-length}
use Rattle.std.proofs.lemmas.Bool.Decides.{nat_tests}
use Rattle.std.proofs.lemmas.Str.{chars_from_encodes, encodes-chars, IsUtf8-from_is_utf8, is_utf8-from_IsUtf8}
use Rattle.ucd_table.specs.Steps.{step_value}
use Rattle.ucd_table.proofs.Stepped.{Stepped, zip_stepped}
use Rattle.ucd_table.proofs.Facts.{Stepped-everywhere}
use Rattle.ucd_derived.proofs.BinaryLemmas.{is_xid_continue_stepped}
use Rattle.unicode_ident.proofs.Computing.{unicode_ident}
use Rattle.unicode_ident.specs.Ident.{is_xid_continue}
use Rattle.rs_tokens.specs.declared.token.TokenKind.{TokenKind}
use Rattle.rs_tokens.specs.declared.token.TokenKind.TheVariants.{Ident}
use Rattle.rs_tokens.specs.Tables.{Row, marks, kind_in}
use Rattle.rs_tokens.specs.Tokens.{begins_word, IsWord, word_kind, IsToken, word, integer, string, lifetime, mark, HasLongest, HasNone, longest_identifier, bounded, refused_of, spell_word, is_word, is_ident, is_identifier}
use Rattle.rs_tokens.proofs.ListLaws.{and_true}
use Rattle.rs_tokens.proofs.WordLaws.{begins_continues}

-- ---- the characters of words are scalar values

scalar_is : (c : ℕ) → scalar c ≡ step_value false ((55296, true) ∷ (57344, false) ∷ (1114112, true) ∷ []) c
unfolding step_value
scalar_is c = grind (arith, nat_tests)

unfoldable scalar_stepped : Stepped scalar
scalar_stepped = record { default = false; steps = (55296, true) ∷ (57344, false) ∷ (1114112, true) ∷ []; gives = scalar_is }

continues_scalar : (c : ℕ) → is_xid_continue c ≡ true → scalar c ≡ true
unfolding unicode_ident scalar_stepped
continues_scalar c continues =
    let both = zip_stepped (λ a b. not a || b) is_xid_continue scalar is_xid_continue_stepped scalar_stepped in
    subst (λ a. (not a || scalar c) ≡ true) continues (Stepped-everywhere _ both refl c)

continue_scalars : (cs : List ℕ) → list_all is_xid_continue cs ≡ true → scalars cs ≡ true
continue_scalars [] h = refl
continue_scalars (c ∷ cs) h =
    let both = and_true (is_xid_continue c) (list_all is_xid_continue cs) h in
    rw (continues_scalar c both.0, continue_scalars cs both.1) refl

-- ---- words

pub word_passes : (text : List ℕ) → IsWord text → is_word text ≡ true
unfolding is_word
word_passes text w =
    let passes : scalars (w.first ∷ w.others) ≡ true = rw (continues_scalar w.first (begins_continues w.first w.begins), continue_scalars w.others w.continues) refl in
    let utf8 : IsUtf8 text = (w.first ∷ w.others, (passes, w.spells)) in
    let spell : spell_word (chars text) ≡ true = ap spell_word (sym (chars_from_encodes (w.first ∷ w.others) text utf8 w.spells)) ∙ rw (w.begins, w.continues) refl in
    rw (is_utf8-from_IsUtf8 text utf8, spell) refl

pub passes_word : (text : List ℕ) → is_word text ≡ true → IsWord text
unfolding is_word
passes_word text h =
    let both = and_true (is_utf8 text) (spell_word (chars text)) h in
    by (chars text) (encodes-chars text (IsUtf8-from_is_utf8 text both.0)) both.1 where
      by : (cs : List ℕ) → encode_utf8_all cs ≡ text → spell_word cs ≡ true → IsWord text
      by [] spells h = absurd (false≢true h)
      by (c ∷ cs) spells h =
          let parts = and_true (begins_word c) (list_all is_xid_continue cs) h in
          record { first = c; others = cs; spells = spells; begins = parts.0; continues = parts.1 }

-- the longest word is the whole text just where the text is a word
pub whole_word : (text : List ℕ) (len : ℕ) → HasLongest IsWord text len → (len == length text) ≡ is_word text
whole_word text len longest = by (len == length text) (is_word text) refl refl where
  by : (same passes : Bool) → (len == length text) ≡ same → is_word text ≡ passes → same ≡ passes
  by true true e p = refl
  by false false e p = refl
  by true false e p =
      let whole : take len text ≡ text = ap (λ (n : ℕ). take n text) (eqb-true len (length text) e) ∙ take-length text in
      absurd (false≢true (sym p ∙ word_passes text (subst IsWord whole longest.form)))
  by false true e p =
      let within = longest.longest text [] (append-nil text) (passes_word text p) in
      let same : len ≡ length text = omega (arith, within, longest.within) in
      absurd (false≢true (sym e ∙ eq-eqb len (length text) same))

pub no_whole_word : (text : List ℕ) → HasNone IsWord text → is_word text ≡ false
no_whole_word text none = by (is_word text) refl where
  by : (passes : Bool) → is_word text ≡ passes → passes ≡ false
  by true p = absurd (none text [] (append-nil text) (passes_word text p))
  by false p = refl

-- ---- identifiers

-- the kind in a table is the kind of a row
kind_passes : (p : TokenKind → Bool) (rows : List Row) (text : List ℕ) (kind : TokenKind) → list_all (λ (row : Row). p row.kind) rows ≡ true → kind_in rows text ≡ Some kind → p kind ≡ true
kind_passes p [] text kind all h = absurd cc
kind_passes p (row ∷ rows) text kind all h =
    let both = and_true (p row.kind) (list_all (λ (r : Row). p r.kind) rows) all in
    by (bytes_eq row.text text) h both.0 (kind_passes p rows text kind both.1)
  where
    by : (q : Bool) → cond q (Some row.kind) (kind_in rows text) ≡ Some kind → p row.kind ≡ true → (kind_in rows text ≡ Some kind → p kind ≡ true) → p kind ≡ true
    by true h here later = let same : row.kind ≡ kind = cc in ap p (sym same) ∙ here
    by false h here later = later h

no_mark_is_ident : list_all (λ (row : Row). not (is_ident row.kind)) marks ≡ true
unfolding marks
no_mark_is_ident = refl

ident_is : (kind : TokenKind) → is_ident kind ≡ true → kind ≡ Ident
ident_is Ident h = refl
ident_is _ h = absurd cc

ident_word : (text : List ℕ) → IsToken Ident text → IsWord text × (word_kind text ≡ Ident)
ident_word text (word w e) = (w, sym e)
ident_word text (integer n e) = absurd cc
ident_word text (string s e) = absurd cc
ident_word text (lifetime q e) = absurd cc
ident_word text (mark e) = absurd (false≢true (kind_passes (λ kind. not (is_ident kind)) marks text Ident no_mark_is_ident e))

within_bound : (n : ℕ) → nat_le n longest_identifier ≡ true → bounded n longest_identifier n ≡ None
within_bound n h = let not_past : nat_lt longest_identifier n ≡ false = grind (arith, nat_tests) in rw not_past refl

bound_within : (n : ℕ) (past : Bool) → nat_lt longest_identifier n ≡ past → cond past (Some n) None ≡ None → nat_le n longest_identifier ≡ true
bound_within n true e h = absurd cc
bound_within n false e h = grind (arith, nat_tests)

pub identifier_token : (text : List ℕ) → is_identifier text ≡ true → IsToken Ident text × (refused_of Ident text ≡ None)
unfolding is_identifier
identifier_token text h =
    let front = and_true (is_word text && nat_le (length text) longest_identifier) (is_ident (word_kind text)) h in
    let parts = and_true (is_word text) (nat_le (length text) longest_identifier) front.0 in
    (word (passes_word text parts.0) (sym (ident_is (word_kind text) front.1)), within_bound (length text) parts.1)

pub token_identifier : (text : List ℕ) → IsToken Ident text → refused_of Ident text ≡ None → is_identifier text ≡ true
unfolding is_identifier
token_identifier text token admitted =
    let w = ident_word text token in
    rw (word_passes text w.0, bound_within (length text) (nat_lt longest_identifier (length text)) refl admitted) (ap is_ident w.1)
