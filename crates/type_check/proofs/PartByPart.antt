-- Lists that are made part by part: what is left, behind what is made.
use Rattle.std.proofs.Common.{◌≡◌, ◌∙◌, ℕ, zero, suc, ◌+◌, ◌<◌, ◌≤◌, List, [], ◌∷◌, ◌++◌, length, get_or, drop, refl, ap, sym, add-one, drop-cons, append_assoc, append-nil, Option, Some, None, Result, Ok, Err, arith}
use Rattle.text_core.specs.declared.refusal.SourceError.{SourceError}
use Rattle.text_core.specs.declared.fault.PassError.{PassError}
pub use Rattle.logic_elab.proofs.Stops.{along, refuses_then}
use Rattle.type_check.specs.Answers.{◌>>=◌, Refuses, each, with_some, gather}

-- these, and then the others
abbrev pub onto : {B : Type 0} → List B → List B → Result (List B) SourceError
onto made rest = Ok (made ++ rest)

nothing_yet : {B : Type 0} (m : Result (List B) SourceError) → m ≡ (m >>= onto [])
nothing_yet (Ok r) = refl
nothing_yet (Err e) = refl

drop_all : {A : Type 0} (xs : List A) (n : ℕ) → length xs ≤ n → drop n xs ≡ []
drop_all [] zero h = refl
drop_all [] (suc n) h = refl
drop_all (x ∷ xs) zero h = absurd (omega arith)
drop_all (x ∷ xs) (suc n) h = drop_all xs n (omega arith)

split_at : {A : Type 0} (xs : List A) (i : ℕ) (x : A) → x ≡ get_or xs i x → i < length xs → drop i xs ≡ x ∷ drop (suc i) xs
split_at xs i x q h = drop-cons xs i x h ∙ ap (λ y. y ∷ drop (suc i) xs) (sym q)

-- ---- each of a list

abbrev pub each_left : {A B : Type 0} → (A → Result B SourceError) → List A → List B → Result (List B) SourceError
each_left f xs made = each f xs >>= onto made

abbrev consed : {B : Type 0} → B → List B → Result (List B) SourceError
consed y ys = Ok (y ∷ ys)

abbrev after : {A B : Type 0} → (A → Result B SourceError) → List A → B → Result (List B) SourceError
after f xs y = each f xs >>= consed y

pushed : {B : Type 0} (made : List B) (y : B) (m : Result (List B) SourceError) → ((m >>= consed y) >>= onto made) ≡ (m >>= onto (made ++ y ∷ []))
pushed made y (Ok r) = ap Ok (sym (append_assoc made (y ∷ []) r))
pushed made y (Err e) = refl

module _ {A B : Type 0} (f : A → Result B SourceError) (xs : List A) where
  pub each_start : each f xs ≡ each_left f (drop 0 xs) []
  each_start = nothing_yet (each f xs)

  next : (i : ℕ) (x : A) → x ≡ get_or xs i x → i < length xs → each f (drop i xs) ≡ (f x >>= after f (drop (suc i) xs))
  next i x q h = ap (each f) (split_at xs i x q h)

  pub each_more : (i : ℕ) (x : A) (made : List B) (y : B) → x ≡ get_or xs i x → i < length xs → f x ≡ Ok y
      → each_left f (drop i xs) made ≡ each_left f (drop (i + 1) xs) (made ++ y ∷ [])
  each_more i x made y q h p =
      rw add-one
      (ap (λ (m : Result (List B) SourceError). m >>= onto made) (next i x q h)
      ∙ ap (λ (m : Result B SourceError). (m >>= after f (drop (suc i) xs)) >>= onto made) p
      ∙ pushed made y (each f (drop (suc i) xs)))

  pub each_stop : (stop : PassError) (i : ℕ) (x : A) (made : List B) → x ≡ get_or xs i x → i < length xs → each f xs ≡ each_left f (drop i xs) made → Refuses stop (f x) → Refuses stop (each f xs)
  each_stop stop i x made q h r p =
      along stop _ _ r
      (refuses_then stop (each f (drop i xs)) (onto made)
      (along stop _ _ (next i x q h)
      (refuses_then stop (f x) (after f (drop (suc i) xs)) p)))

  pub each_end : (n : ℕ) (made : List B) → length xs ≤ n → each f xs ≡ each_left f (drop n xs) made → each f xs ≡ Ok made
  each_end n made h r = r ∙ ap (λ (zs : List A). each_left f zs made) (drop_all xs n h) ∙ ap Ok (append-nil made)

-- ---- each of a list that makes something

abbrev pub gather_left : {A B : Type 0} → (A → Result (Option B) SourceError) → List A → List B → Result (List B) SourceError
gather_left f xs made = gather f xs >>= onto made

abbrev joined : {B : Type 0} → Option B → List B → Result (List B) SourceError
joined y ys = Ok (with_some y ys)

abbrev gathered : {A B : Type 0} → (A → Result (Option B) SourceError) → List A → Option B → Result (List B) SourceError
gathered f xs y = gather f xs >>= joined y

put : {B : Type 0} (made : List B) (y : Option B) (r : List B) → made ++ with_some y r ≡ (made ++ with_some y []) ++ r
put made None r = ap (λ m. m ++ r) (sym (append-nil made))
put made (Some y) r = sym (append_assoc made (y ∷ []) r)

put_behind : {B : Type 0} (made : List B) (y : Option B) (m : Result (List B) SourceError) → ((m >>= joined y) >>= onto made) ≡ (m >>= onto (made ++ with_some y []))
put_behind made y (Ok r) = ap Ok (put made y r)
put_behind made y (Err e) = refl

module _ {A B : Type 0} (f : A → Result (Option B) SourceError) (xs : List A) where
  pub gather_start : gather f xs ≡ gather_left f (drop 0 xs) []
  gather_start = nothing_yet (gather f xs)

  next_made : (i : ℕ) (x : A) → x ≡ get_or xs i x → i < length xs → gather f (drop i xs) ≡ (f x >>= gathered f (drop (suc i) xs))
  next_made i x q h = ap (gather f) (split_at xs i x q h)

  pub gather_more : (i : ℕ) (x : A) (made : List B) (y : Option B) → x ≡ get_or xs i x → i < length xs → f x ≡ Ok y
      → gather_left f (drop i xs) made ≡ gather_left f (drop (i + 1) xs) (made ++ with_some y [])
  gather_more i x made y q h p =
      rw add-one
      (ap (λ (m : Result (List B) SourceError). m >>= onto made) (next_made i x q h)
      ∙ ap (λ (m : Result (Option B) SourceError). (m >>= gathered f (drop (suc i) xs)) >>= onto made) p
      ∙ put_behind made y (gather f (drop (suc i) xs)))

  pub gather_stop : (stop : PassError) (i : ℕ) (x : A) (made : List B) → x ≡ get_or xs i x → i < length xs → gather f xs ≡ gather_left f (drop i xs) made → Refuses stop (f x) → Refuses stop (gather f xs)
  gather_stop stop i x made q h r p =
      along stop _ _ r
      (refuses_then stop (gather f (drop i xs)) (onto made)
      (along stop _ _ (next_made i x q h)
      (refuses_then stop (f x) (gathered f (drop (suc i) xs)) p)))

  pub gather_end : (n : ℕ) (made : List B) → length xs ≤ n → gather f xs ≡ gather_left f (drop n xs) made → gather f xs ≡ Ok made
  gather_end n made h r = r ∙ ap (λ (zs : List A). gather_left f zs made) (drop_all xs n h) ∙ ap Ok (append-nil made)
