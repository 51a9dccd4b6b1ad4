-- Where a comment ends.
use Rattle.std.proofs.Common.{◌≡◌, ℕ, zero, suc, ◌≤◌, true, false, List, [], ◌∷◌, ◌++◌, refl, sym, ap, subst, ◌∙◌, append_assoc, arith}
use Rattle.std.proofs.lemmas.Bool.{false≢true}
use Rattle.rs_tokens.specs.Blanks.{opens_comment, closes_comment, CommentEnds, close, nested, other}
use Rattle.rs_tokens.proofs.ListLaws.{same_head, same_tail, same_second, no_cons}

-- ---- by what stands first

pub opens_at : (text more : List ℕ) → text ≡ 47 ∷ (42 ∷ more) → opens_comment text ≡ true
opens_at text more e = ap opens_comment e

pub closes_at : (text more : List ℕ) → text ≡ 42 ∷ (47 ∷ more) → closes_comment text ≡ true
closes_at text more e = ap closes_comment e

pub comment_nil : (text rest : List ℕ) → text ≡ [] → CommentEnds text rest → ⊥
comment_nil text rest is (close e) = no_cons _ _ (sym is ∙ e)
comment_nil text rest is (nested e t u) = no_cons _ _ (sym is ∙ e)
comment_nil text rest is (other e a b t) = no_cons _ _ (sym is ∙ e)

pub comment_close : (text more rest : List ℕ) → text ≡ 42 ∷ (47 ∷ more) → CommentEnds text rest → more ≡ rest
comment_close text more rest is (close e) = same_second text _ _ _ _ _ _ is e
comment_close text more rest is (nested e t u) = absurd (omega (arith, same_head text _ _ _ _ is e))
comment_close text more rest is (other e a b t) = absurd (false≢true (sym b ∙ closes_at text _ is))

pub comment_open : (text inside rest : List ℕ) → text ≡ 47 ∷ (42 ∷ inside) → CommentEnds text rest → (after : List ℕ) × CommentEnds inside after × CommentEnds after rest
comment_open text inside rest is (close e) = absurd (omega (arith, same_head text _ _ _ _ is e))
comment_open text inside rest is (nested {after} e t u) = (after, subst (λ (u : List ℕ). CommentEnds u after) (same_second text _ _ _ _ _ _ e is) t, u)
comment_open text inside rest is (other e a b t) = absurd (false≢true (sym a ∙ opens_at text _ is))

pub comment_other : (text more rest : List ℕ) (c : ℕ) → text ≡ c ∷ more → opens_comment text ≡ false → closes_comment text ≡ false → CommentEnds text rest → CommentEnds more rest
comment_other text more rest c is n m (close e) = absurd (false≢true (sym m ∙ closes_at text _ e))
comment_other text more rest c is n m (nested e t u) = absurd (false≢true (sym n ∙ opens_at text _ e))
comment_other text more rest c is n m (other e a b t) = subst (λ (u : List ℕ). CommentEnds u rest) (same_tail text _ _ _ _ e is) t

-- a comment ends at one place
pub one_end : (text a b : List ℕ) → CommentEnds text a → CommentEnds text b → a ≡ b
one_end text a b (close e) h = comment_close text a b e h
one_end text a b (nested {inside} {after} e t u) h =
    let other_end = comment_open text inside b e h in
    let same : after ≡ other_end.0 = one_end inside after other_end.0 t other_end.1 in
    one_end after a b u (subst (λ (x : List ℕ). CommentEnds x b) (sym same) other_end.2)
one_end text a b (other {more} {b = c} e n m t) h = one_end more a b t (comment_other text more b c e n m h)

-- ---- comments in comments

-- the text closes so many comments, one in another, and the rest follows
abbrev pub Closes : ℕ → List ℕ → List ℕ → Type 0
Closes zero text rest = text ≡ rest
Closes (suc n) text rest = (after : List ℕ) × CommentEnds text after × Closes n after rest

-- the comment ends at a rest just where so many are closed before it
pub record SameClose (text other : List ℕ) (depth : ℕ) : Type 0 where
  pub to : (rest : List ℕ) → CommentEnds text rest → Closes depth other rest
  pub from : (rest : List ℕ) → Closes depth other rest → CommentEnds text rest

pub same_start : (text : List ℕ) → SameClose text text 1
same_start text = record { to = λ rest h. (rest, h, refl); from = λ rest h. subst (λ (x : List ℕ). CommentEnds text x) h.2 h.1 }

pub close_step : (text here more : List ℕ) (n m : ℕ) → n ≡ suc m → here ≡ 42 ∷ (47 ∷ more) → SameClose text here n → SameClose text more m
close_step text here more n m count is so_far =
    let so_far : SameClose text here (suc m) = subst (λ (k : ℕ). SameClose text here k) count so_far in
    record {
      to = λ rest h. let c = so_far.to rest h in subst (λ (x : List ℕ). Closes m x rest) (sym (comment_close here more c.0 is c.1)) c.2;
      from = λ rest h. so_far.from rest (more, close is, h);
    }

pub open_step : (text here more : List ℕ) (n m : ℕ) → m ≡ suc n → 1 ≤ n → here ≡ 47 ∷ (42 ∷ more) → SameClose text here n → SameClose text more m
open_step text here more zero m count some is so_far = absurd (omega arith)
open_step text here more (suc n) m count some is so_far =
    subst (λ (k : ℕ). SameClose text more k) (sym count)
    record {
      to = λ rest h. let c = so_far.to rest h in let o = comment_open here more c.0 is c.1 in (o.0, o.1, (c.0, o.2, c.2));
      from = λ rest h. so_far.from rest (h.2.0, nested is h.1 h.2.1, h.2.2);
    }

pub other_step : (text here more : List ℕ) (n b : ℕ) → 1 ≤ n → here ≡ b ∷ more → opens_comment here ≡ false → closes_comment here ≡ false → SameClose text here n → SameClose text more n
other_step text here more zero b some is o k so_far = absurd (omega arith)
other_step text here more (suc n) b some is o k so_far =
    record {
      to = λ rest h. let c = so_far.to rest h in (c.0, comment_other here more c.0 b is o k c.1, c.2);
      from = λ rest h. so_far.from rest (h.0, other is o k h.1, h.2);
    }

-- with no text left, an open comment does not end
pub none_left : (text here rest : List ℕ) (n : ℕ) → 1 ≤ n → here ≡ [] → SameClose text here n → CommentEnds text rest → ⊥
none_left text here rest zero some is so_far h = omega arith
none_left text here rest (suc n) some is so_far h = comment_nil here (so_far.to rest h).0 is (so_far.to rest h).1

-- a comment ends with its `*/`
pub comment_last : (text rest : List ℕ) → CommentEnds text rest → (before : List ℕ) × (text ≡ before ++ (42 ∷ (47 ∷ rest)))
comment_last text rest (close e) = ([], e)
comment_last text rest (nested {inside} {after} e t u) =
    let a = comment_last inside after t in
    let b = comment_last after rest u in (
      47 ∷ (42 ∷ (a.0 ++ (42 ∷ (47 ∷ b.0)))),
      e ∙ ap (λ (x : List ℕ). 47 ∷ (42 ∷ x)) (a.1 ∙ ap (λ (x : List ℕ). a.0 ++ (42 ∷ (47 ∷ x))) b.1 ∙ sym (append_assoc a.0 (42 ∷ (47 ∷ b.0)) (42 ∷ (47 ∷ rest)))),
    )
comment_last text rest (other {more} {b} e n m t) =
    let a = comment_last more rest t in (b ∷ a.0, e ∙ ap (λ (x : List ℕ). b ∷ x) a.1)
