-- Places in what is known, and in values.
use Rattle.std.proofs.Common.{◌≡◌, refl, ℕ, zero, suc, true, List, [], ◌∷◌}
use Rattle.logic_term.specs.Matches.{seen, is_made, nth_value, value_at}
use Rattle.logic_term.specs.Value.{Value, Values, no_values, and_value, parts_of}
use Rattle.logic_term.specs.declared.pattern.PatStep.{PatStep}
use Rattle.pat_check.proofs.Tests.{both, and_of}
use Rattle.pat_check.specs.Known.{Known, Knowns, anything, other, number, flag, built, no_knowns, and_known, agrees, agree_all, nth_known, set_known, part_known, with_part, known_at, put}

agree_set : (ks : Knowns) (vs : Values) (n : ℕ) (w : Known) → agree_all ks vs ≡ true → agrees w (nth_value vs n) ≡ true → agree_all (set_known ks n w) vs ≡ true
agree_set no_knowns vs n w a b = a
agree_set (and_known k ks) no_values zero w a b = absurd (cc)
agree_set (and_known k ks) no_values (suc n) w a b = absurd (cc)
agree_set (and_known k ks) (and_value v vs) zero w a b = and_of _ _ b (both (agrees k v) _ a).1
agree_set (and_known k ks) (and_value v vs) (suc n) w a b = and_of _ _ (both (agrees k v) _ a).0 (agree_set ks vs n w (both (agrees k v) _ a).1 b)

agree_nth : (ks : Knowns) (vs : Values) (n : ℕ) → agree_all ks vs ≡ true → agrees (nth_known ks n) (nth_value vs n) ≡ true
agree_nth no_knowns vs n a = refl
agree_nth (and_known k ks) no_values zero a = absurd (cc)
agree_nth (and_known k ks) no_values (suc n) a = absurd (cc)
agree_nth (and_known k ks) (and_value v vs) zero a = (both (agrees k v) _ a).0
agree_nth (and_known k ks) (and_value v vs) (suc n) a = agree_nth ks vs n (both (agrees k v) _ a).1

agree_part : (k : Known) (v : Value) (n : ℕ) → agrees k v ≡ true → agrees (part_known k n) (nth_value (parts_of (seen v)) n) ≡ true
agree_part anything v n a = refl
agree_part (other t zs) v n a = refl
agree_part (number z) v n a = refl
agree_part (flag b) v n a = refl
agree_part (built c ks) v n a = agree_nth ks (parts_of (seen v)) n (both (is_made c (seen v)) _ a).1

agree_with : (k : Known) (v : Value) (n : ℕ) (w : Known) → agrees k v ≡ true → agrees w (nth_value (parts_of (seen v)) n) ≡ true → agrees (with_part k n w) v ≡ true
agree_with anything v n w a b = a
agree_with (other t zs) v n w a b = a
agree_with (number z) v n w a b = a
agree_with (flag c) v n w a b = a
agree_with (built c ks) v n w a b =
    let g = both (is_made c (seen v)) _ a in
    and_of _ _ g.0 (agree_set ks (parts_of (seen v)) n w g.1 b)

-- what is known of a place is known of what stands there
pub agrees_at : (k : Known) (p : List PatStep) (v : Value) → agrees k v ≡ true → agrees (known_at k p) (value_at v p) ≡ true
agrees_at k [] v a = a
agrees_at k (s ∷ p) v a = agrees_at (part_known k s.field) p (nth_value (parts_of (seen v)) s.field) (agree_part k v s.field a)

-- more may be known, where it is true
pub agrees_put : (k : Known) (p : List PatStep) (w : Known) (v : Value) → agrees k v ≡ true → agrees w (value_at v p) ≡ true → agrees (put k p w) v ≡ true
agrees_put k [] w v a b = b
agrees_put k (s ∷ p) w v a b = agree_with k v s.field (put (part_known k s.field) p w) a (agrees_put (part_known k s.field) p w (nth_value (parts_of (seen v)) s.field) (agree_part k v s.field a) b)
