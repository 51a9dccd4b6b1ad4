-- Where a string ends.
use Rattle.std.proofs.Common.{◌≡◌, ◌≢◌, ℕ, ◌+◌, ◌<◌, ◌≤◌, List, [], ◌∷◌, ◌++◌, length, take, drop, get_or, suc, ◌-◌, append_assoc, refl, sym, ap, subst, ◌∙◌, arith, inl, inr, ◌⊎◌}
use Rattle.std.proofs.lemmas.List.{drop_all, length-append, length-drop, length-take-le, take-append-drop}
use Rattle.std.proofs.Math.Seq.{take-append_seam}
use Rattle.std.proofs.lemmas.Bool.{cases_lt}
use Rattle.rs_tokens.specs.Tokens.{StringEnds, quote, escape, plain, IsString, HasLongest, HasNone}
use Rattle.rs_tokens.proofs.ListLaws.{get_or_seam, drop_byte, same_head, same_tail, same_second, no_cons}

-- ---- by what stands first

pub string_nil : (text rest : List ℕ) → text ≡ [] → StringEnds text rest → ⊥
string_nil text rest is (quote e) = no_cons _ _ (sym is ∙ e)
string_nil text rest is (escape e more) = no_cons _ _ (sym is ∙ e)
string_nil text rest is (plain e a b more) = no_cons _ _ (sym is ∙ e)

pub string_quote : (text more rest : List ℕ) → text ≡ 34 ∷ more → StringEnds text rest → more ≡ rest
string_quote text more rest is (quote e) = same_tail text _ _ _ _ is e
string_quote text more rest is (escape e t) = absurd (omega (arith, same_head text _ _ _ _ is e))
string_quote text more rest is (plain e not_quote b2 t) = absurd (not_quote (same_head text _ _ _ _ e is))

pub string_escape : (text more rest : List ℕ) (c : ℕ) → text ≡ 92 ∷ (c ∷ more) → StringEnds text rest → StringEnds more rest
string_escape text more rest c is (quote e) = absurd (omega (arith, same_head text _ _ _ _ is e))
string_escape text more rest c is (escape e t) = subst (λ (u : List ℕ). StringEnds u rest) (same_second text _ _ _ _ _ _ e is) t
string_escape text more rest c is (plain e b1 not_escape t) = absurd (not_escape (same_head text _ _ _ _ e is))

pub string_open_escape : (text rest : List ℕ) → text ≡ 92 ∷ [] → StringEnds text rest → ⊥
string_open_escape text rest is (quote e) = omega (arith, same_head text _ _ _ _ is e)
string_open_escape text rest is (escape e t) = no_cons _ _ (same_tail text _ _ _ _ is e)
string_open_escape text rest is (plain e b1 not_escape t) = not_escape (same_head text _ _ _ _ e is)

pub string_plain : (text more rest : List ℕ) (c : ℕ) → text ≡ c ∷ more → c ≢ 34 → c ≢ 92 → StringEnds text rest → StringEnds more rest
string_plain text more rest c is n m (quote e) = absurd (n (same_head text _ _ _ _ is e))
string_plain text more rest c is n m (escape e t) = absurd (m (same_head text _ _ _ _ is e))
string_plain text more rest c is n m (plain e b1 b2 t) = subst (λ (u : List ℕ). StringEnds u rest) (same_tail text _ _ _ _ e is) t

-- ---- a step of the loop

-- from either place the string ends at the same rest
pub record SameEnd (text other : List ℕ) : Type 0 where
  pub to : (rest : List ℕ) → StringEnds text rest → StringEnds other rest
  pub from : (rest : List ℕ) → StringEnds other rest → StringEnds text rest

pub same_start : (text : List ℕ) → SameEnd text text
same_start text = record { to = λ rest h. h; from = λ rest h. h }

module _ (text : List ℕ) (at b : ℕ) (within : at < length text) (is : b ≡ get_or text at 0) (so_far : SameEnd text (drop at text)) where
  pub end_quote : b ≡ 34 → StringEnds text (drop (at + 1) text)
  end_quote e = so_far.from (drop (at + 1) text) (quote (drop_byte text at b within is ∙ ap (λ (x : ℕ). x ∷ drop (at + 1) text) e))

  pub step_plain : b ≢ 34 → b ≢ 92 → SameEnd text (drop (at + 1) text)
  step_plain n m =
      let here = drop_byte text at b within is in
      record {
        to = λ rest h. string_plain (drop at text) (drop (at + 1) text) rest b here n m (so_far.to rest h);
        from = λ rest h. so_far.from rest (plain here n m h);
      }

  escape_by : b ≡ 92 → (at + 1 < length text) ⊎ (length text ≤ at + 1) → SameEnd text (drop (at + 2) text)
  escape_by e (inl lt) =
      let next : drop (at + 1) text ≡ get_or text (at + 1) 0 ∷ drop ((at + 1) + 1) text = drop_byte text (at + 1) (get_or text (at + 1) 0) lt refl in
      let two : drop ((at + 1) + 1) text ≡ drop (at + 2) text = ap (λ (n : ℕ). drop n text) (omega arith) in
      let here = drop_byte text at b within is in
      let whole : drop at text ≡ 92 ∷ (get_or text (at + 1) 0 ∷ drop (at + 2) text) = cc in
      record {
        to = λ rest h. string_escape (drop at text) (drop (at + 2) text) rest (get_or text (at + 1) 0) whole (so_far.to rest h);
        from = λ rest h. so_far.from rest (escape whole h);
      }
  escape_by e (inr ge) =
      let next : drop (at + 1) text ≡ [] = drop_all (at + 1) text ge in
      let past : drop (at + 2) text ≡ [] = drop_all (at + 2) text (omega arith) in
      let here = drop_byte text at b within is in
      let whole : drop at text ≡ 92 ∷ [] = cc in
      record {
        to = λ rest h. absurd (string_open_escape (drop at text) rest whole (so_far.to rest h));
        from = λ rest h. absurd (string_nil (drop (at + 2) text) rest past h);
      }

  pub step_escape : b ≡ 92 → SameEnd text (drop (at + 2) text)
  step_escape e = escape_by e (cases_lt (at + 1) (length text))

-- ---- the longest string

one_string_end : (text a b : List ℕ) → StringEnds text a → StringEnds text b → a ≡ b
one_string_end text a b (quote e) h = string_quote text a b e h
one_string_end text a b (escape {more} {b = c} e t) h = one_string_end more a b t (string_escape text more b c e h)
one_string_end text a b (plain {more} {b = c} e n m t) h = one_string_end more a b t (string_plain text more b c e n m h)

string_append : (text rest more : List ℕ) → StringEnds text rest → StringEnds (text ++ more) (rest ++ more)
string_append text rest more (quote e) = quote (ap (λ (x : List ℕ). x ++ more) e)
string_append text rest more (escape {more = next} e t) = escape (ap (λ (x : List ℕ). x ++ more) e) (string_append next rest more t)
string_append text rest more (plain {more = next} e n m t) = plain (ap (λ (x : List ℕ). x ++ more) e) n m (string_append next rest more t)

-- a text that ends with a quote
EndsWithQuote : List ℕ → Type 0
EndsWithQuote text = (before : List ℕ) × (text ≡ before ++ (34 ∷ []))

-- what stands before the rest
string_front : (text rest : List ℕ) → StringEnds text rest → (front : List ℕ) × (text ≡ front ++ rest) × StringEnds front [] × (EndsWithQuote front)
unfolding EndsWithQuote
string_front text rest (quote e) = (34 ∷ [], e, quote refl, ([], refl))
string_front text rest (escape {more} {b} e t) =
    let f = string_front more rest t in
    (92 ∷ (b ∷ f.0), e ∙ ap (λ (x : List ℕ). 92 ∷ (b ∷ x)) f.1, escape refl f.2, (92 ∷ (b ∷ f.3.0), ap (λ (x : List ℕ). 92 ∷ (b ∷ x)) f.3.1))
string_front text rest (plain {more} {b} e n m t) =
    let f = string_front more rest t in
    (b ∷ f.0, e ∙ ap (λ (x : List ℕ). b ∷ x) f.1, plain refl n m f.2, (b ∷ f.3.0, ap (λ (x : List ℕ). b ∷ x) f.3.1))

string_take : (text : List ℕ) (n : ℕ) → n ≤ length text → StringEnds text (drop n text) → (StringEnds (take n text) []) × (EndsWithQuote (take n text))
string_take text n within h =
    let f = string_front text (drop n text) h in
    let len : length f.0 ≡ n = omega (arith, ap length f.1, length-append f.0 (drop n text), length-drop n text) in
    let same : take n text ≡ f.0 = ap (λ (k : ℕ). take k text) (sym len) ∙ ap (take (length f.0)) f.1 ∙ take-append_seam f.0 (drop n text) in
    (subst (λ (x : List ℕ). StringEnds x []) (sym same) f.2, subst EndsWithQuote (sym same) f.3)

module _ (text inside : List ℕ) (opens : text ≡ 34 ∷ inside) where
  pub string_longest : (n : ℕ) → n ≤ length inside → StringEnds inside (drop n inside) → HasLongest IsString text (1 + n)
  string_longest n within ends =
      let one : 1 + n ≡ suc n = omega arith in
      record {
        within = omega (arith, ap length opens);
        form = record {
          inside = take n inside;
          opens = ap (λ (k : ℕ). take k text) one ∙ ap (take (suc n)) opens;
          closes = (string_take inside n within ends).0;
        };
        longest = λ front back whole s.
            let t : s.inside ++ back ≡ inside = same_tail text _ _ 34 34 (sym whole ∙ ap (λ (x : List ℕ). x ++ back) s.opens) opens in
            let other : StringEnds inside back = subst (λ (x : List ℕ). StringEnds x back) t (string_append s.inside [] back s.closes) in
            let same : back ≡ drop n inside = one_string_end inside back (drop n inside) other ends in
            omega (arith, ap length same, length-drop n inside, ap length t, length-append s.inside back, ap length s.opens);
      }

  pub no_string_form : ((rest : List ℕ) → StringEnds inside rest → ⊥) → HasNone IsString text
  no_string_form never front back whole s =
      let t : s.inside ++ back ≡ inside = same_tail text _ _ 34 34 (sym whole ∙ ap (λ (x : List ℕ). x ++ back) s.opens) opens in
      never back (subst (λ (x : List ℕ). StringEnds x back) t (string_append s.inside [] back s.closes))

-- the last byte of a string is its quote
pub string_last : (text : List ℕ) (n : ℕ) → n ≤ length text → StringEnds text (drop n text) → (1 ≤ n) × (get_or text (n - 1) 0 ≡ 34)
unfolding EndsWithQuote
string_last text n within ends =
    let l = (string_take text n within ends).1 in
    let len : n ≡ suc (length l.0) = omega (arith, ap length l.1, length-append l.0 (34 ∷ []), length-take-le n text within) in
    let at : n - 1 ≡ length l.0 = omega arith in
    let whole : text ≡ l.0 ++ (34 ∷ drop n text) = sym (take-append-drop n text) ∙ ap (λ (x : List ℕ). x ++ drop n text) l.1 ∙ append_assoc l.0 (34 ∷ []) (drop n text) in
    (omega arith, ap (λ (k : ℕ). get_or text k 0) at ∙ ap (λ (x : List ℕ). get_or x (length l.0) 0) whole ∙ get_or_seam l.0 34 (drop n text))
