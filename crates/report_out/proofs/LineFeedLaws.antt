-- Counting line feeds by their offsets.
use Rattle.std.proofs.Common.{◌≡◌, ◌∙◌, refl, sym, ap, subst, ℕ, zero, suc, ◌+◌, ◌<◌, ◌≤◌, ◌==◌, Bool, true, false, cond, List, [], ◌∷◌, ◌++◌, length, take, drop, get_or, count_by, arith}
use Rattle.std.proofs.lemmas.List.Sums.{sum_by-cons}
use Rattle.std.proofs.lemmas.List.{append-nil}
use Rattle.std.specs.Prelude.{if◌then◌else◌}
use Rattle.report_out.specs.LineFeeds.{feeds_from, line_feeds}
use Rattle.report_out.specs.Report.{line_number}

-- so many line feeds are among the first bytes
abbrev feeds_in : ℕ → List ℕ → ℕ
feeds_in m bytes = count_by (λ b. b == 10) (take m bytes)

one_more : (m b : ℕ) (bytes : List ℕ) → feeds_in (suc m) (b ∷ bytes) ≡ (cond (b == 10) 1 0) + feeds_in m bytes
one_more m b bytes = sum_by-cons (λ x. cond (x == 10) 1 0) b (take m bytes)

with_feed : (m b : ℕ) (bytes : List ℕ) → (b == 10) ≡ true → feeds_in (suc m) (b ∷ bytes) ≡ 1 + feeds_in m bytes
with_feed m b bytes e = let one : ◌≡◌ {A = ℕ} (cond (b == 10) 1 0) 1 = ap (λ t. cond t 1 0) e in omega (arith, one_more m b bytes, one)

without_feed : (m b : ℕ) (bytes : List ℕ) → (b == 10) ≡ false → feeds_in (suc m) (b ∷ bytes) ≡ feeds_in m bytes
without_feed m b bytes e = let none : ◌≡◌ {A = ℕ} (cond (b == 10) 1 0) 0 = ap (λ t. cond t 1 0) e in omega (arith, one_more m b bytes, none)

feeds_cons : (n b : ℕ) (bytes : List ℕ) (t : Bool) → (b == 10) ≡ t → feeds_from n (b ∷ bytes) ≡ (if t then n ∷ feeds_from (suc n) bytes else feeds_from (suc n) bytes)
feeds_cons n b bytes t e = ap (λ u. if u then n ∷ feeds_from (suc n) bytes else feeds_from (suc n) bytes) e

-- no feed stands before the first byte
from_start : (n i d : ℕ) (bytes : List ℕ) → i < length (feeds_from n bytes) → n ≤ get_or (feeds_from n bytes) i d
from_start n i d [] within = absurd (omega (arith, within))
from_start n i d (b ∷ bytes) within = by_byte (λ j. from_start (suc n) j d bytes) (b == 10) refl i within
  where
    by_byte : ((j : ℕ) → j < length (feeds_from (suc n) bytes) → suc n ≤ get_or (feeds_from (suc n) bytes) j d) → (t : Bool) → (b == 10) ≡ t → (i : ℕ) → i < length (feeds_from n (b ∷ bytes)) → n ≤ get_or (feeds_from n (b ∷ bytes)) i d
    by_byte rest_of true e zero l = subst (λ xs. n ≤ get_or xs 0 d) (sym (feeds_cons n b bytes true e)) (omega arith)
    by_byte rest_of true e (suc i) l =
        let here : suc i < length (n ∷ feeds_from (suc n) bytes) = subst (λ xs. suc i < length xs) (feeds_cons n b bytes true e) l in
        let later = rest_of i (omega (arith, here)) in
        subst (λ xs. n ≤ get_or xs (suc i) d) (sym (feeds_cons n b bytes true e)) (omega (arith, later))
    by_byte rest_of false e i l =
        let here : i < length (feeds_from (suc n) bytes) = subst (λ xs. i < length xs) (feeds_cons n b bytes false e) l in
        let later = rest_of i here in
        subst (λ xs. n ≤ get_or xs i d) (sym (feeds_cons n b bytes false e)) (omega (arith, later))

-- a feed that stands before an offset is one of those before it
feed_before : (n m i d : ℕ) (bytes : List ℕ) → i < length (feeds_from n bytes) → get_or (feeds_from n bytes) i d < n + m → i < feeds_in m bytes
feed_before n m i d [] within below = absurd (omega (arith, within))
feed_before n zero i d (b ∷ bytes) within below = absurd (omega (arith, below, from_start n i d (b ∷ bytes) within))
feed_before n (suc m) i d (b ∷ bytes) within below = by_byte (λ j. feed_before (suc n) m j d bytes) (b == 10) refl i within below
  where
    by_byte : ((j : ℕ) → j < length (feeds_from (suc n) bytes) → get_or (feeds_from (suc n) bytes) j d < suc n + m → j < feeds_in m bytes) → (t : Bool) →
        (b == 10) ≡ t → (i : ℕ) → i < length (feeds_from n (b ∷ bytes)) → get_or (feeds_from n (b ∷ bytes)) i d < n + suc m → i < feeds_in (suc m) (b ∷ bytes)
    by_byte rest_of true e zero l below = omega (arith, with_feed m b bytes e)
    by_byte rest_of true e (suc i) l below =
        let here : suc i < length (n ∷ feeds_from (suc n) bytes) = subst (λ xs. suc i < length xs) (feeds_cons n b bytes true e) l in
        let at : get_or (feeds_from (suc n) bytes) i d < n + suc m = subst (λ xs. get_or xs (suc i) d < n + suc m) (feeds_cons n b bytes true e) below in
        let rest = rest_of i (omega (arith, here)) (omega (arith, at)) in
        omega (arith, rest, with_feed m b bytes e)
    by_byte rest_of false e i l below =
        let here : i < length (feeds_from (suc n) bytes) = subst (λ xs. i < length xs) (feeds_cons n b bytes false e) l in
        let at : get_or (feeds_from (suc n) bytes) i d < n + suc m = subst (λ xs. get_or xs i d < n + suc m) (feeds_cons n b bytes false e) below in
        let rest = rest_of i here (omega (arith, at)) in
        omega (arith, rest, without_feed m b bytes e)

-- a feed that does not stand before it is none of them
feed_behind : (n m i d : ℕ) (bytes : List ℕ) → i < length (feeds_from n bytes) → n + m ≤ get_or (feeds_from n bytes) i d → feeds_in m bytes ≤ i
feed_behind n m i d [] within above = absurd (omega (arith, within))
feed_behind n zero i d (b ∷ bytes) within above = omega arith
feed_behind n (suc m) i d (b ∷ bytes) within above = by_byte (λ j. feed_behind (suc n) m j d bytes) (b == 10) refl i within above
  where
    by_byte : ((j : ℕ) → j < length (feeds_from (suc n) bytes) → suc n + m ≤ get_or (feeds_from (suc n) bytes) j d → feeds_in m bytes ≤ j) → (t : Bool) →
        (b == 10) ≡ t → (i : ℕ) → i < length (feeds_from n (b ∷ bytes)) → n + suc m ≤ get_or (feeds_from n (b ∷ bytes)) i d → feeds_in (suc m) (b ∷ bytes) ≤ i
    by_byte rest_of true e zero l above =
        let at : n + suc m ≤ n = subst (λ xs. n + suc m ≤ get_or xs 0 d) (feeds_cons n b bytes true e) above in
        absurd (omega (arith, at))
    by_byte rest_of true e (suc i) l above =
        let here : suc i < length (n ∷ feeds_from (suc n) bytes) = subst (λ xs. suc i < length xs) (feeds_cons n b bytes true e) l in
        let at : n + suc m ≤ get_or (feeds_from (suc n) bytes) i d = subst (λ xs. n + suc m ≤ get_or xs (suc i) d) (feeds_cons n b bytes true e) above in
        let rest = rest_of i (omega (arith, here)) (omega (arith, at)) in
        omega (arith, rest, with_feed m b bytes e)
    by_byte rest_of false e i l above =
        let here : i < length (feeds_from (suc n) bytes) = subst (λ xs. i < length xs) (feeds_cons n b bytes false e) l in
        let at : n + suc m ≤ get_or (feeds_from (suc n) bytes) i d = subst (λ xs. n + suc m ≤ get_or xs i d) (feeds_cons n b bytes false e) above in
        let rest = rest_of i here (omega (arith, at)) in
        omega (arith, rest, without_feed m b bytes e)

-- there are as many feeds as the bytes have
all_feeds : (n m : ℕ) (bytes : List ℕ) → feeds_in m bytes ≤ length (feeds_from n bytes)
all_feeds n zero [] = omega arith
all_feeds n (suc m) [] = omega arith
all_feeds n zero (b ∷ bytes) = omega arith
all_feeds n (suc m) (b ∷ bytes) = by_byte (all_feeds (suc n) m bytes) (b == 10) refl
  where
    by_byte : feeds_in m bytes ≤ length (feeds_from (suc n) bytes) → (t : Bool) → (b == 10) ≡ t → feeds_in (suc m) (b ∷ bytes) ≤ length (feeds_from n (b ∷ bytes))
    by_byte rest true e = omega (arith, rest, with_feed m b bytes e, ap length (feeds_cons n b bytes true e))
    by_byte rest false e = omega (arith, rest, without_feed m b bytes e, ap length (feeds_cons n b bytes false e))

-- ---- the search by halves

-- so many feeds at least, and so many at most, stand before the offset
pub record IsBetween (source : List ℕ) (offset first last : ℕ) : Type 0 where
  pub least : 1 + first ≤ line_number source offset
  pub most : line_number source offset ≤ 1 + last

pub at_start : (source feeds : List ℕ) (offset : ℕ) → feeds ≡ line_feeds source → IsBetween source offset 0 (length feeds)
at_start source feeds offset e = record { least = omega arith; most = omega (arith, all_feeds 0 offset source, ap length e) }

pub in_upper_half : (source feeds : List ℕ) (offset first last middle d : ℕ) → feeds ≡ line_feeds source → IsBetween source offset first last → middle < length feeds → get_or feeds middle d < offset → IsBetween source offset (middle + 1) last
in_upper_half source feeds offset first last middle d e between within below =
    let there : middle < length (line_feeds source) = subst (λ xs. middle < length xs) e within in
    let before : get_or (line_feeds source) middle d < offset = subst (λ xs. get_or xs middle d < offset) e below in
    record { least = omega (arith, feed_before 0 offset middle d source there (omega (arith, before))); most = between.most }

pub in_lower_half : (source feeds : List ℕ) (offset first last middle d : ℕ) → feeds ≡ line_feeds source → IsBetween source offset first last → middle < length feeds → offset ≤ get_or feeds middle d → IsBetween source offset first middle
in_lower_half source feeds offset first last middle d e between within above =
    let there : middle < length (line_feeds source) = subst (λ xs. middle < length xs) e within in
    let behind : offset ≤ get_or (line_feeds source) middle d = subst (λ xs. offset ≤ get_or xs middle d) e above in
    record { least = between.least; most = omega (arith, feed_behind 0 offset middle d source there (omega (arith, behind))) }

pub found : (source : List ℕ) (offset first last : ℕ) → IsBetween source offset first last → last ≤ first → 1 + first ≡ line_number source offset
found source offset first last between met = omega (arith, between.least, between.most, met)
