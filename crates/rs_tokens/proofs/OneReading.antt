-- A text has one list of tokens.
use Rattle.std.proofs.Common.{◌≡◌, ℕ, ◌≤◌, true, false, List, [], ◌∷◌, ◌++◌, length, take, drop, get_or, Option, Some, None, refl, sym, ap, subst, ◌∙◌, append_assoc, arith}
use Rattle.std.specs.Prelude.{encode_utf8}
use Rattle.std.proofs.lemmas.Bool.{false≢true}
use Rattle.std.proofs.lemmas.List.{length-append, length-take-le, length-drop, take-append-drop, append-nil}
use Rattle.std.proofs.lemmas.Str.{encode_same, char_from_byte}
use Rattle.text_core.specs.declared.span.Span.{Span}
use Rattle.rs_tokens.specs.declared.token.Token.{Token}
use Rattle.rs_tokens.specs.declared.token.TokenKind.{TokenKind}
use Rattle.rs_tokens.specs.Tokens.{IsToken, IsLongestToken, HasNoToken, refused_of}
use Rattle.rs_tokens.specs.Blanks.{is_white, line_end, opens_comment, CommentEnds, BlankEnds, white, line, block, Skips, none, more, Settles}
use Rattle.rs_tokens.specs.Reading.{IsRefused, comment, string, character, token, Gives, Refuses, HasEnded, HasTokens, ended, refused, HasGiven, nothing, one_more, AreTokens}
use Rattle.std.specs.Str.{IsUtf8}
use Rattle.rs_tokens.proofs.ListLaws.{same_head, same_tail, same_second, begins_true}
use Rattle.rs_tokens.proofs.CommentLaws.{one_end}
use Rattle.rs_tokens.proofs.TokenLaws.{one_kind, token_some}
use Rattle.rs_tokens.proofs.WordLaws.{encode_some}

-- ---- blanks

white_no_slash : (b : ℕ) → b ≡ 47 → is_white b ≡ true → ⊥
white_no_slash b e h = false≢true (sym (ap is_white e) ∙ h)

blank_one : (text a b : List ℕ) → BlankEnds text a → BlankEnds text b → a ≡ b
blank_one text a b (white e w) (white f v) = same_tail text _ _ _ _ e f
blank_one text a b (white {b = c} e w) (line f v) = absurd (white_no_slash c (same_head text _ _ _ _ e f) w)
blank_one text a b (white {b = c} e w) (block f v) = absurd (white_no_slash c (same_head text _ _ _ _ e f) w)
blank_one text a b (line e w) (white {b = c} f v) = absurd (white_no_slash c (same_head text _ _ _ _ f e) v)
blank_one text a b (line e w) (line f v) = w ∙ ap line_end (same_second text _ _ _ _ _ _ e f) ∙ sym v
blank_one text a b (line {more = m} e w) (block {inside} f v) = absurd (let n : 47 ≡ 42 = same_head (47 ∷ m) m inside 47 42 refl (same_tail text (47 ∷ m) (42 ∷ inside) 47 47 e f) in omega arith)
blank_one text a b (block e w) (white {b = c} f v) = absurd (white_no_slash c (same_head text _ _ _ _ f e) v)
blank_one text a b (block {inside} e w) (line {more = m} f v) = absurd (let n : 47 ≡ 42 = same_head (47 ∷ m) m inside 47 42 refl (same_tail text (47 ∷ m) (42 ∷ inside) 47 47 f e) in omega arith)
blank_one text a b (block {inside} e w) (block {inside = other} f v) =
    one_end inside a b w (subst (λ (x : List ℕ). CommentEnds x b) (same_second text _ _ _ _ _ _ f e) v)

skips_one : (text a b : List ℕ) → Skips text a → Skips text b → ((after : List ℕ) → BlankEnds a after → ⊥) → ((after : List ℕ) → BlankEnds b after → ⊥) → a ≡ b
skips_one text a b (none e) (none f) sa sb = sym e ∙ f
skips_one text a b (none e) (more {after} blank skips) sa sb = absurd (sa after (subst (λ (x : List ℕ). BlankEnds x after) e blank))
skips_one text a b (more {after} blank skips) (none f) sa sb = absurd (sb after (subst (λ (x : List ℕ). BlankEnds x after) f blank))
skips_one text a b (more {after} blank skips) (more {after = next} other others) sa sb =
    skips_one after a b skips (subst (λ (x : List ℕ). Skips x b) (blank_one text next after other blank) others) sa sb

settles_one : (text a b : List ℕ) → Settles text a → Settles text b → a ≡ b
settles_one text a b s t = skips_one text a b s.skips t.skips s.stops t.stops

-- ---- the longest token

longest_le : (text : List ℕ) (j k : TokenKind) (n m : ℕ) → IsLongestToken j text n → IsLongestToken k text m → n ≤ m
longest_le text j k n m a b = omega (arith, b.longest j (take n text) (drop n text) (take-append-drop n text) a.token, length-take-le n text a.within)

longest_same : (text : List ℕ) (j k : TokenKind) (n m : ℕ) → IsLongestToken j text n → IsLongestToken k text m → n ≡ m
longest_same text j k n m a b = omega (arith, longest_le text j k n m a b, longest_le text k j m n b a)

longest_kind : (text : List ℕ) (j k : TokenKind) (n m : ℕ) → IsLongestToken j text n → IsLongestToken k text m → j ≡ k
longest_kind text j k n m a b =
    one_kind j k (take n text) a.token (subst (λ (i : ℕ). IsToken k (take i text)) (sym (longest_same text j k n m a b)) b.token)

longest_refused : (text : List ℕ) (j k : TokenKind) (n m : ℕ) → IsLongestToken j text n → IsLongestToken k text m → refused_of j (take n text) ≡ refused_of k (take m text)
longest_refused text j k n m a b =
    ap (λ (i : TokenKind). refused_of i (take n text)) (longest_kind text j k n m a b) ∙ ap (λ (i : ℕ). refused_of k (take i text)) (longest_same text j k n m a b)

no_token_contra : (text : List ℕ) (k : TokenKind) (n : ℕ) → HasNoToken text → IsLongestToken k text n → ⊥
no_token_contra text k n missing a = missing k (take n text) (drop n text) (take-append-drop n text) a.token

pub longest_some : (text : List ℕ) (k : TokenKind) (n : ℕ) → IsLongestToken k text n → (1 ≤ n) × (1 ≤ length text)
longest_some text k n a = (omega (arith, token_some k (take n text) a.token, length-take-le n text a.within), omega (arith, token_some k (take n text) a.token, length-take-le n text a.within, a.within))

-- ---- refusals

some_len : (a b : ℕ) → Some a ≡ Some b → a ≡ b
some_len a b e = cc

none_some : (a : ℕ) → None ≡ Some a → ⊥
none_some a e = cc

quote_char : (text inside after : List ℕ) (c : ℕ) → text ≡ 34 ∷ inside → text ≡ encode_utf8 c ++ after → c ≡ 34
quote_char text inside after c e f =
    let first : get_or text 0 0 ≡ 34 = ap (λ (t : List ℕ). get_or t 0 0) e in
    char_from_byte text after c f (omega arith) (omega (arith, ap length e)) ∙ first

refused_one : (text : List ℕ) (n m : ℕ) → IsRefused text n → IsRefused text m → n ≡ m
refused_one text n m (comment o e) (comment p f) = e ∙ sym f
refused_one text n m (comment o e) (string inside p k f) = e ∙ sym f
refused_one text n m (comment o e) (character c after p is q k f) = absurd (false≢true (sym p ∙ o))
refused_one text n m (comment o e) (token p stands f) = absurd (false≢true (sym p ∙ o))
refused_one text n m (string inside o k e) (comment p f) = e ∙ sym f
refused_one text n m (string inside o k e) (string after p l f) = e ∙ sym f
refused_one text n m (string inside o k e) (character c after p is q l f) = absurd (q (quote_char text inside after c o is))
refused_one text n m (string inside o k e) (token {kind} {size} p stands f) = absurd (no_token_contra text kind size k stands)
refused_one text n m (character c after o is q k e) (comment p f) = absurd (false≢true (sym o ∙ p))
refused_one text n m (character c after o is q k e) (string inside p l f) = absurd (q (quote_char text inside after c p is))
refused_one text n m (character c after o is q k e) (character d others p at r l f) =
    e ∙ ap (λ (x : ℕ). length (encode_utf8 x)) (encode_same c d after others (sym is ∙ at)).0 ∙ sym f
refused_one text n m (character c after o is q k e) (token {kind} {size} p stands f) = absurd (no_token_contra text kind size k stands)
refused_one text n m (token o stands e) (comment p f) = absurd (false≢true (sym o ∙ p))
refused_one text n m (token {kind} {size} o stands e) (string inside p k f) = absurd (no_token_contra text kind size k stands)
refused_one text n m (token {kind} {size} o stands e) (character c after p is q k f) = absurd (no_token_contra text kind size k stands)
refused_one text n m (token {kind} {size} o stands e) (token {kind = other} {size = long} p others f) =
    some_len n m (sym e ∙ longest_refused text kind other size long stands others ∙ f)

refused_not_given : (text : List ℕ) (k : TokenKind) (n m : ℕ) → opens_comment text ≡ false → IsLongestToken k text n → refused_of k (take n text) ≡ None → IsRefused text m → ⊥
refused_not_given text k n m closed stands admitted (comment o e) = false≢true (sym closed ∙ o)
refused_not_given text k n m closed stands admitted (string inside o missing e) = no_token_contra text k n missing stands
refused_not_given text k n m closed stands admitted (character c after o is q missing e) = no_token_contra text k n missing stands
refused_not_given text k n m closed stands admitted (token {kind} {size} o other e) =
    none_some m (sym admitted ∙ longest_refused text k kind n size stands other ∙ e)

refused_some : (text : List ℕ) (n : ℕ) → IsRefused text n → 1 ≤ length text
refused_some text n (comment o e) = omega (arith, ap length (begins_true text 47 42 o))
refused_some text n (string inside o k e) = omega (arith, ap length o)
refused_some text n (character c after o is q k e) = omega (arith, ap length is, length-append (encode_utf8 c) after, encode_some c)
refused_some text n (token {kind} {size} o stands e) = (longest_some text kind size stands).1

-- ---- one answer at each place

-- an offset is known by what stands behind it
same_offset : (bytes : List ℕ) (i j : ℕ) → i ≤ length bytes → j ≤ length bytes → drop i bytes ≡ drop j bytes → i ≡ j
same_offset bytes i j a b e = omega (arith, ap length e, length-drop i bytes, length-drop j bytes)

start_within : (bytes : List ℕ) (at : ℕ) (t : Token) → Gives bytes at t → t.span.start ≤ length bytes
start_within bytes at t g = omega (arith, g.ends, g.within)

same_span : (a b : Span) → a.start ≡ b.start → a.end ≡ b.end → a ≡ b
same_span a b s e =
    let from : ℕ → Span = λ x. record { start = x; end = a.end } in
    let to : ℕ → Span = λ x. record { start = b.start; end = x } in
    ap from s ∙ ap to e

same_token : (t u : Token) → t.kind ≡ u.kind → t.span.start ≡ u.span.start → t.span.end ≡ u.span.end → t ≡ u
same_token t u k s e =
    let of_kind : TokenKind → Token = λ x. record { kind = x; span = t.span } in
    let of_span : Span → Token = λ x. record { kind = u.kind; span = x } in
    ap of_kind k ∙ ap of_span (same_span t.span u.span s e)

pub one_token : (bytes : List ℕ) (at : ℕ) (t u : Token) → Gives bytes at t → Gives bytes at u → t ≡ u
one_token bytes at t u g h =
    let rest = settles_one (drop at bytes) (drop t.span.start bytes) (drop u.span.start bytes) g.settles h.settles in
    let start : t.span.start ≡ u.span.start = same_offset bytes t.span.start u.span.start (start_within bytes at t g) (start_within bytes at u h) rest in
    let other : IsLongestToken u.kind (drop t.span.start bytes) h.len = subst (λ (x : List ℕ). IsLongestToken u.kind x h.len) (sym rest) h.stands in
    let kind : t.kind ≡ u.kind = longest_kind (drop t.span.start bytes) t.kind u.kind g.len h.len g.stands other in
    let len : g.len ≡ h.len = longest_same (drop t.span.start bytes) t.kind u.kind g.len h.len g.stands other in
    let end : t.span.end ≡ u.span.end = omega (arith, g.ends, h.ends, start, len) in
    same_token t u kind start end

pub token_no_end : (bytes : List ℕ) (at : ℕ) (t : Token) → Gives bytes at t → HasEnded bytes at → ⊥
token_no_end bytes at t g h =
    let rest = settles_one (drop at bytes) (drop t.span.start bytes) [] g.settles h in
    omega (arith, (longest_some (drop t.span.start bytes) t.kind g.len g.stands).1, ap length rest)

pub token_no_refusal : (bytes : List ℕ) (at : ℕ) (t : Token) (span : Span) → Gives bytes at t → Refuses bytes at span → ⊥
token_no_refusal bytes at t span g r =
    let rest = settles_one (drop at bytes) (drop span.start bytes) (drop t.span.start bytes) r.settles g.settles in
    refused_not_given (drop t.span.start bytes) t.kind g.len r.len g.no_comment g.stands g.admitted (subst (λ (x : List ℕ). IsRefused x r.len) rest r.refused)

pub end_no_refusal : (bytes : List ℕ) (at : ℕ) (span : Span) → HasEnded bytes at → Refuses bytes at span → ⊥
end_no_refusal bytes at span h r =
    let rest = settles_one (drop at bytes) (drop span.start bytes) [] r.settles h in
    omega (arith, refused_some (drop span.start bytes) r.len r.refused, ap length rest)

pub one_refusal : (bytes : List ℕ) (at : ℕ) (a b : Span) → Refuses bytes at a → Refuses bytes at b → a ≡ b
one_refusal bytes at a b r s =
    let rest = settles_one (drop at bytes) (drop a.start bytes) (drop b.start bytes) r.settles s.settles in
    let start : a.start ≡ b.start = same_offset bytes a.start b.start r.within s.within rest in
    let len : r.len ≡ s.len = refused_one (drop a.start bytes) r.len s.len r.refused (subst (λ (x : List ℕ). IsRefused x s.len) (sym rest) s.refused) in
    same_span a b start (let e : a.end ≡ b.end = omega (arith, r.ends, s.ends, start, len) in e)

-- ---- one list

pub one_list : (bytes : List ℕ) (at : ℕ) (ts us : List Token) (a b : Option Span) → HasTokens bytes at ts a → HasTokens bytes at us b → (ts ≡ us) × (a ≡ b)
one_list bytes at ts us a b (ended h) (ended k) = (refl, refl)
one_list bytes at ts us a b (ended h) (refused {span} r) = absurd (end_no_refusal bytes at span h r)
one_list bytes at ts us a b (ended h) (token {first} g others) = absurd (token_no_end bytes at first g h)
one_list bytes at ts us a b (refused {span} r) (ended k) = absurd (end_no_refusal bytes at span k r)
one_list bytes at ts us a b (refused {span} r) (refused {span = other} s) = (refl, ap Some (one_refusal bytes at span other r s))
one_list bytes at ts us a b (refused {span} r) (token {first} g others) = absurd (token_no_refusal bytes at first span g r)
one_list bytes at ts us a b (token {first} g others) (ended k) = absurd (token_no_end bytes at first g k)
one_list bytes at ts us a b (token {first} g others) (refused {span} r) = absurd (token_no_refusal bytes at first span g r)
one_list bytes at ts us a b (token {first} {others} g rest) (token {first = other} {others = later} h tail) =
    let same = one_token bytes at other first h g in
    let both = one_list bytes first.span.end others later a b rest (subst (λ (t : Token). HasTokens bytes t.span.end later b) same tail) in
    (ap (λ (t : Token). t ∷ others) (sym same) ∙ ap (λ (x : List Token). other ∷ x) both.0, both.1)

-- ---- what a lexer has given

pub given_begins : (bytes : List ℕ) (given later : List Token) (at : ℕ) (end : Option Span) → HasGiven bytes given at → HasTokens bytes at later end → HasTokens bytes 0 (given ++ later) end
given_begins bytes given later at end nothing h = h
given_begins bytes _ later at end (one_more {given = before} {at = from} {next} so_far g) h =
    subst (λ (x : List Token). HasTokens bytes 0 x end) (sym (append_assoc before (next ∷ []) later)) (given_begins bytes before (next ∷ later) from end so_far (token g h))

pub given_whole : (bytes : List ℕ) (given : List Token) (at : ℕ) → IsUtf8 bytes → HasGiven bytes given at → HasEnded bytes at → AreTokens bytes given
given_whole bytes given at utf8 so_far h =
    record { text = utf8; tokens_of = subst (λ (x : List Token). HasTokens bytes 0 x None) (append-nil given) (given_begins bytes given [] at None so_far (ended h)) }

pub given_refused : (bytes : List ℕ) (given : List Token) (at : ℕ) (span : Span) → HasGiven bytes given at → Refuses bytes at span → HasTokens bytes 0 given (Some span)
given_refused bytes given at span so_far r =
    subst (λ (x : List Token). HasTokens bytes 0 x (Some span)) (append-nil given) (given_begins bytes given [] at (Some span) so_far (refused r))
