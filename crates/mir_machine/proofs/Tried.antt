-- One part of a step after another, and what holds of each value that a part may come to.
use Rattle.std.proofs.Common.{◌≡◌, refl, Option, Some, None}
use Rattle.mir_machine.specs.Try.{Try, Yields, Panics, Sticks, ◌>>=◌, need}

-- ---- one part of a step after another

pub then_then : {A B C : Type 0} (m : Try A) (k : A → Try B) (l : B → Try C) → ((m >>= k) >>= l) ≡ (m >>= λ a. k a >>= l)
then_then (Yields a) k l = refl
then_then (Panics c s) k l = refl
then_then Sticks k l = refl

pub then_same : {A B : Type 0} (m : Try A) (k l : A → Try B) → ((a : A) → k a ≡ l a) → (m >>= k) ≡ (m >>= l)
then_same (Yields a) k l h = h a
then_same (Panics c s) k l h = refl
then_same Sticks k l h = refl

-- ---- what holds of each value that may come

-- the value that comes, if one comes, has P; and it does not stick
abbrev pub Goes : {A : Type 0} → (A → Type 0) → Try A → Type 0
Goes P (Yields a) = P a
Goes P (Panics cause span) = Unit {0}
Goes P Sticks = ⊥

pub goes_then : {A B : Type 0} (P : A → Type 0) (Q : B → Type 0) (m : Try A) (k : A → Try B) → Goes P m → ((a : A) → P a → Goes Q (k a)) → Goes Q (m >>= k)
goes_then P Q (Yields a) k h go = go a h
goes_then P Q (Panics c s) k h go = tt
goes_then P Q Sticks k h go = absurd h

-- the value that comes, if one comes, has P; and it does not panic
abbrev pub Quiet : {A : Type 0} → (A → Type 0) → Try A → Type 0
Quiet P (Yields a) = P a
Quiet P (Panics cause span) = ⊥
Quiet P Sticks = Unit {0}

pub quiet_then : {A B : Type 0} (P : A → Type 0) (Q : B → Type 0) (m : Try A) (k : A → Try B) → Quiet P m → ((a : A) → P a → Quiet Q (k a)) → Quiet Q (m >>= k)
quiet_then P Q (Yields a) k h go = go a h
quiet_then P Q (Panics c s) k h go = absurd h
quiet_then P Q Sticks k h go = tt

pub quiet_need : {A B : Type 0} (Q : B → Type 0) (o : Option A) (k : A → Try B) → ((a : A) → o ≡ Some a → Quiet Q (k a)) → Quiet Q (need o >>= k)
quiet_need Q (Some a) k go = go a refl
quiet_need Q None k go = tt

pub quiet_weaker : {A : Type 0} (P Q : A → Type 0) (m : Try A) → Quiet P m → ((a : A) → P a → Q a) → Quiet Q m
quiet_weaker P Q (Yields a) h go = go a h
quiet_weaker P Q (Panics c s) h go = h
quiet_weaker P Q Sticks h go = tt

-- where it does not stick either
pub quiet_both : {A : Type 0} (P Q : A → Type 0) (m : Try A) → Goes P m → Quiet Q m → Quiet (λ a. P a × Q a) m
quiet_both P Q (Yields a) g q = (g, q)
quiet_both P Q (Panics c s) g q = q
quiet_both P Q Sticks g q = absurd g
