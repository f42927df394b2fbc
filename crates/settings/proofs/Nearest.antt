-- The smallest range that holds an address, picked among all that do, is its owner's. Assumes nothing.
use Rattle.std.proofs.Common.{◌≡◌, ℕ, zero, suc, ◌+◌, ◌<◌, ◌≤◌, Bool, true, false, cond, ◌⊎◌, List, [], ◌∷◌, length, get_or, Some, None, Option, MatchOption, IfSome, IsSomeAnd, sym, refl, ap, ◌∙◌, subst, leb, inl, inr, arith}
use Rattle.std.proofs.lemmas.Bool.Decides.{nat_tests, leb_tells}
use Rattle.std.proofs.lemmas.Option.{none-some, same_Some}
use Rattle.std.specs.Iterator.Runs.{Run, AnyItem, ItemsCountUp}
use Rattle.std.specs.List.{filter}
use Rattle.std.specs.Option.{option_map}
use Rattle.settings.specs.declared.ranges.Range.{Range}
use Rattle.settings.specs.Owners.{Table, Owns, Nobodys}
use Rattle.settings.specs.Ranges.{range_at, holds, span, IsPrefix, nobody, owner_below, as_gate}
use Rattle.settings.proofs.Owning.{one_block, owner_longest, owner_unique}

-- what passes a test is kept
kept : (t : ℕ → Bool) (xs : List ℕ) (k : ℕ) → k < length xs → t (get_or xs k 0) ≡ true → (j : ℕ) × (j < length (filter t xs)) × (get_or (filter t xs) j 0 ≡ get_or xs k 0)
kept t [] k less passes = absurd (omega arith)
kept t (x ∷ xs) zero less passes = by (t x) passes
  where
    by : (b : Bool) → b ≡ true → (j : ℕ) × (j < length (cond b (x ∷ filter t xs) (filter t xs))) × (get_or (cond b (x ∷ filter t xs) (filter t xs)) j 0 ≡ x)
    by true e = (0, omega arith, refl)
    by false e = absurd (let z : ◌≡◌ {A = ℕ} 0 1 = cc in omega arith)
kept t (x ∷ xs) (suc k) less passes = by (t x) (kept t xs k (omega arith) passes)
  where
    by : (b : Bool) → (j : ℕ) × (j < length (filter t xs)) × (get_or (filter t xs) j 0 ≡ get_or xs k 0) → (j : ℕ) × (j < length (cond b (x ∷ filter t xs) (filter t xs))) × (get_or (cond b (x ∷ filter t xs) (filter t xs)) j 0 ≡ get_or xs k 0)
    by true found = (suc found.0, omega (arith, found.1), found.2)
    by false found = found

-- and what is kept was there, and passes
was : (t : ℕ → Bool) (xs : List ℕ) (j : ℕ) → j < length (filter t xs) → (k : ℕ) × (k < length xs) × (get_or (filter t xs) j 0 ≡ get_or xs k 0) × (t (get_or xs k 0) ≡ true)
was t [] j less = absurd (omega arith)
was t (x ∷ xs) j less = by (t x) refl j less (λ i d. was t xs i d)
  where
    by : (b : Bool) → t x ≡ b → (i : ℕ) → i < length (cond b (x ∷ filter t xs) (filter t xs)) → ((m : ℕ) → m < length (filter t xs) → (k : ℕ) × (k < length xs) × (get_or (filter t xs) m 0 ≡ get_or xs k 0) × (t (get_or xs k 0) ≡ true)) → (k : ℕ) × (k < suc (length xs)) × (get_or (cond b (x ∷ filter t xs) (filter t xs)) i 0 ≡ get_or (x ∷ xs) k 0) × (t (get_or (x ∷ xs) k 0) ≡ true)
    by true e zero d before = (0, omega arith, refl, e)
    by true e (suc i) d before = let found = before i (omega arith) in (suc found.0, omega (arith, found.1), found.2, found.3)
    by false e i d before = let found = before i d in (suc found.0, omega (arith, found.1), found.2, found.3)

clash : true ≡ false → ⊥
clash e = let z : ◌≡◌ {A = ℕ} 0 1 = cc in omega arith

-- the item at a place of a run, of which something is known
item_is : (q : Option ℕ) (v m : ℕ) → option_map (λ y. y) q ≡ Some v → IsSomeAnd q (λ x. x ≡ m) → v ≡ m
item_is None v m read is = absurd is
item_is (Some x) v m read is = sym (same_Some x v read) ∙ is

item_has : (P : ℕ → Type 0) (q : Option ℕ) (v : ℕ) → option_map (λ y. y) q ≡ Some v → IfSome q P → P v
item_has P None v read has = absurd (none-some v read)
item_has P (Some x) v read has = subst P (same_Some x v read) has

-- the items of a whole run that counts from 0 up
pub counted : {S : Type 0} {steps : S → Option ℕ → S → Type 0} (q : Run steps) (n : ℕ) → ItemsCountUp q 0 n → q.whole ≡ true → (length q.items ≡ n) × ((k : ℕ) → k < n → get_or q.items k 0 ≡ k)
counted q n up whole =
    let size : q.len ≡ n = omega (arith, up.1 whole) in
    (sym q.long ∙ size, λ k less. same_Some _ _ (sym (q.reads k 0 (omega (arith, size))) ∙ up.3 k (omega (arith, size))) ∙ omega arith)

-- what is known of the value in an option, said otherwise
pub turned : {A : Type 0} (o : Option A) (P : Type 0) (Q R : A → Type 0) → MatchOption o P Q → ((x : A) → Q x → R x) → MatchOption o P R
turned None P Q R known by = known
turned (Some x) P Q R known by = by x known

module _ (rs : List Range) (a n : ℕ) (t : Table rs n) where
  -- two gates whose ranges hold the address have ranges of different sizes
  differ : (i j : ℕ) → i < n → j < n → (i ≡ j → ⊥) → holds (range_at rs i) a ≡ true → holds (range_at rs j) a ≡ true → span (range_at rs i) ≡ span (range_at rs j) → ⊥
  differ i j x y other h k e = by (leb_tells (i + 1) j)
    where
      p : IsPrefix (range_at rs i)
      p = t.prefixes i x

      q : IsPrefix (range_at rs j)
      q = t.prefixes j y

      by : ((leb (i + 1) j ≡ true) × (i + 1 ≤ j)) ⊎ ((leb (i + 1) j ≡ false) × (j < i + 1)) → ⊥
      by (inl l) = clash (sym (one_block (range_at rs i) (range_at rs j) p.0 q.0 a p.1 q.1 h k e) ∙ t.apart i j (omega (arith, l.1)) y)
      by (inr l) = clash (sym (one_block (range_at rs j) (range_at rs i) q.0 p.0 a q.1 p.1 k h (sym e)) ∙ t.apart j i (omega (arith, l.1, other)) x)

  -- a gate whose range holds the address, where no other range that does is smaller, owns it
  nearest_owns : (m : ℕ) → m < n → holds (range_at rs m) a ≡ true → ((g : ℕ) → g < n → holds (range_at rs g) a ≡ true → span (range_at rs m) ≤ span (range_at rs g)) → Owns rs n a m
  nearest_owns m is held least =
      record { is = is; held = held; longest = λ g less h other. (let le = least g less h in let apart = differ m g is less (λ z. other (sym z)) held h in omega (arith, le, apart)) }

  -- so it is the owner, and where no range holds the address nobody is
  owner_of : (m : ℕ) → Owns rs n a m → Some m ≡ as_gate (owner_below rs a n)
  owner_of m own = by (owner_longest rs n t a)
    where
      by : ((owner_below rs a n ≡ nobody) × Nobodys rs n a) ⊎ Owns rs n a (owner_below rs a n) → Some m ≡ as_gate (owner_below rs a n)
      by (inl none) = absurd (clash (sym own.held ∙ none.1 m own.is))
      by (inr it) =
          let few : m < 32 = omega (arith, own.is, t.few) in
          let gate : Some m ≡ as_gate m = grind (arith, nat_tests) in
          gate ∙ ap as_gate (owner_unique rs n a m (owner_below rs a n) own it)

  none_of : Nobodys rs n a → None ≡ as_gate (owner_below rs a n)
  none_of none = by (owner_longest rs n t a)
    where
      by : ((owner_below rs a n ≡ nobody) × Nobodys rs n a) ⊎ Owns rs n a (owner_below rs a n) → None ≡ as_gate (owner_below rs a n)
      by (inl nobodys) = ap as_gate (sym nobodys.0)
      by (inr it) = absurd (clash (sym it.held ∙ none (owner_below rs a n) it.is))

  -- what is picked by size among the gates whose ranges hold the address is the owner
  pub owner_found : {S : Type 0} {steps : S → Option ℕ → S → Type 0} (p : Run steps) (gates : List ℕ) (o : Option ℕ) → p.items ≡ filter (λ g. holds (range_at rs g) a) gates → length gates ≡ n → ((k : ℕ) → k < n → get_or gates k 0 ≡ k) → MatchOption o (p.len ≡ 0) (λ m. AnyItem p (λ x. x ≡ m) × ((k : ℕ) → IfSome (p.at k) (λ x. span (range_at rs m) ≤ span (range_at rs x)))) → o ≡ as_gate (owner_below rs a n)
  owner_found p gates o are long count found = by o found
    where
      test : ℕ → Bool
      test g = holds (range_at rs g) a

      size : p.len ≡ length (filter test gates)
      size = p.long ∙ ap length are

      there : (g : ℕ) → g < n → test g ≡ true → (j : ℕ) × (j < p.len) × (get_or p.items j 0 ≡ g)
      there g less passes =
          let k = kept test gates g (omega (arith, long)) (ap test (count g less) ∙ passes) in
          (k.0, omega (arith, k.1, size), ap (λ l. get_or l k.0 0) are ∙ k.2 ∙ count g less)

      by : (r : Option ℕ) → MatchOption r (p.len ≡ 0) (λ m. AnyItem p (λ x. x ≡ m) × ((k : ℕ) → IfSome (p.at k) (λ x. span (range_at rs m) ≤ span (range_at rs x)))) → r ≡ as_gate (owner_below rs a n)
      by None none = none_of (λ g less. out g less (test g) refl)
        where
          out : (g : ℕ) → g < n → (b : Bool) → test g ≡ b → test g ≡ false
          out g less false e = e
          out g less true e = let k = there g less e in absurd (omega (arith, k.1, none))
      by (Some m) some =
          let item : get_or p.items some.0.0 0 ≡ m = item_is (p.at some.0.0) _ m (p.reads some.0.0 0 some.0.1) some.0.2 in
          let w = was test gates some.0.0 (omega (arith, some.0.1, size)) in
          let is : m ≡ w.0 = sym item ∙ ap (λ l. get_or l some.0.0 0) are ∙ w.2 ∙ count w.0 (omega (arith, w.1, long)) in
          let held : test m ≡ true = ap test (is ∙ sym (count w.0 (omega (arith, w.1, long)))) ∙ w.3 in
          owner_of m (nearest_owns m (omega (arith, w.1, long, is)) held (λ g less h. (let k = there g less h in let le = item_has (λ x. span (range_at rs m) ≤ span (range_at rs x)) (p.at k.0) _ (p.reads k.0 0 k.1) (some.1 k.0) in subst (λ x. span (range_at rs m) ≤ span (range_at rs x)) k.2 le)))
