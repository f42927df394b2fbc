-- The owner found from gate 0 up is the one with the longest prefix. Assumes nothing.
use Rattle.std.proofs.Common.{◌≡◌, ℕ, zero, suc, ◌+◌, ◌-◌, ◌*◌, ◌/◌, ◌%◌, ◌^◌, ◌<◌, ◌≤◌, Bool, true, false, cond, ◌&&◌, ◌||◌, eqb, ltb, ◌⊎◌, List, sym, refl, ap, ◌∙◌, inl, inr, arith}
use Rattle.std.proofs.lemmas.Nat.{pow_pos, div-add-mod', div-mul-add}
use Rattle.std.proofs.lemmas.Bool.Decides.{nat_tests, eqb_tells}
use Rattle.settings.specs.declared.ranges.Range.{Range}
use Rattle.settings.specs.Ranges.{range_at, holds, span, PrefixOf, IsPrefix, same_range, nobody, better, owner_below}
use Rattle.settings.specs.Owners.{Table, Holds, Owns, Nobodys, OwnerIsLongest, OwnerIsUnique}

-- a whole block of z addresses that holds a begins where a does, less what is left over
block : (f z a : ℕ) → 0 < z → f % z ≡ 0 → f ≤ a → a < f + z → f ≡ a / z * z
block f z a some whole low high =
    let own : f / z * z ≡ f = omega (arith, div-add-mod' f z) in
    let split : f / z * z + (a - f) ≡ a = omega arith in
    let same : a / z ≡ f / z = ap (λ n. n / z) (sym split) ∙ div-mul-add (f / z) z (a - f) (omega arith) in
    sym own ∙ ap (λ q. q * z) (sym same)

-- two prefixes of one size that hold one address are the same
pub one_block : (r s : Range) (m k a : ℕ) → PrefixOf m r → PrefixOf k s → holds r a ≡ true → holds s a ≡ true → span r ≡ span s → same_range r s ≡ true
one_block r s m k a p q hr hs e =
    let zr : ℕ = 2 ^ (32 - m) in
    let zs : ℕ = 2 ^ (32 - k) in
    let somer : 0 < zr = pow_pos (32 - m) in
    let somes : 0 < zs = pow_pos (32 - k) in
    let lr : r.first ≤ a = grind (arith, nat_tests) in
    let hr' : a ≤ r.last = grind (arith, nat_tests) in
    let ls : s.first ≤ a = grind (arith, nat_tests) in
    let hs' : a ≤ s.last = grind (arith, nat_tests) in
    let sizes : zr ≡ zs = omega (arith, p.ends, q.ends) in
    let fr : r.first ≡ a / zr * zr = block r.first zr a somer p.begins lr (omega (arith, p.ends)) in
    let fs : s.first ≡ a / zs * zs = block s.first zs a somes q.begins ls (omega (arith, q.ends)) in
    let firsts : r.first ≡ s.first = fr ∙ ap (λ z. a / z * z) sizes ∙ sym fs in
    grind (arith, nat_tests)

module _ (rs : List Range) (a : ℕ) where
  -- what holds of the owner among the gates below n
  abbrev So : ℕ → ℕ → Type 0
  So n o = ((o ≡ nobody) × Nobodys rs n a) ⊎ Owns rs n a o

  -- a gate that doesn't hold the address changes nothing
  passed : (n o : ℕ) → holds (range_at rs n) a ≡ false → So n o → So (suc n) o
  passed n o out (inl none) = inl (none.0, λ j less. by j less (eqb_tells j n))
    where
      by : (j : ℕ) → j < suc n → ((eqb j n ≡ true) × (j ≡ n)) ⊎ ((eqb j n ≡ false) × (j ≡ n → ⊥)) → holds (range_at rs j) a ≡ false
      by j less (inl e) = ap (λ i. holds (range_at rs i) a) e.1 ∙ out
      by j less (inr e) = none.1 j (omega (arith, e.1))
  passed n o out (inr own) =
      inr (record { is = omega (arith, own.is); held = own.held; longest = λ j less held other. by j less held other (eqb_tells j n) })
    where
      by : (j : ℕ) → j < suc n → Holds rs j a → (j ≡ o → ⊥) → ((eqb j n ≡ true) × (j ≡ n)) ⊎ ((eqb j n ≡ false) × (j ≡ n → ⊥)) → span (range_at rs o) < span (range_at rs j)
      by j less held other (inl e) = absurd (clash (sym (ap (λ i. holds (range_at rs i) a) e.1 ∙ out) ∙ held))
        where
          clash : false ≡ true → ⊥
          clash z = let w : ◌≡◌ {A = ℕ} 0 1 = cc in omega arith
      by j less held other (inr e) = own.longest j (omega (arith, e.1)) held other

  -- the first that holds it owns it
  first : (n : ℕ) → Holds rs n a → Nobodys rs n a → So (suc n) n
  first n held none =
      inr (record { is = omega arith; held = held; longest = λ j less h other. absurd (clash (sym (none j (omega (arith, other))) ∙ h)) })
    where
      clash : false ≡ true → ⊥
      clash z = let w : ◌≡◌ {A = ℕ} 0 1 = cc in omega arith

  -- a longer prefix takes its place
  closer : (n o : ℕ) → Holds rs n a → Owns rs n a o → span (range_at rs n) < span (range_at rs o) → So (suc n) n
  closer n o held own less =
      inr (record { is = omega arith; held = held; longest = λ j below h other. by j below h other (eqb_tells j o) })
    where
      by : (j : ℕ) → j < suc n → Holds rs j a → (j ≡ n → ⊥) → ((eqb j o ≡ true) × (j ≡ o)) ⊎ ((eqb j o ≡ false) × (j ≡ o → ⊥)) → span (range_at rs n) < span (range_at rs j)
      by j below h other (inl e) = omega (arith, ap (λ i. span (range_at rs i)) e.1, less)
      by j below h other (inr e) = omega (arith, own.longest j (omega (arith, other)) h e.1, less)

  -- a shorter one doesn't
  farther : (n o : ℕ) → Owns rs n a o → span (range_at rs o) < span (range_at rs n) → So (suc n) o
  farther n o own less =
      inr (record { is = omega (arith, own.is); held = own.held; longest = λ j below h other. by j below h other (eqb_tells j n) })
    where
      by : (j : ℕ) → j < suc n → Holds rs j a → (j ≡ o → ⊥) → ((eqb j n ≡ true) × (j ≡ n)) ⊎ ((eqb j n ≡ false) × (j ≡ n → ⊥)) → span (range_at rs o) < span (range_at rs j)
      by j below h other (inl e) = omega (arith, ap (λ i. span (range_at rs i)) e.1, less)
      by j below h other (inr e) = own.longest j (omega (arith, e.1)) h other

  -- by whether the gate holds the address, and whether its prefix is longer
  step : (n o : ℕ) → n < 32 → ((i : ℕ) → i < suc n → IsPrefix (range_at rs i)) → ((i : ℕ) → i < n → same_range (range_at rs i) (range_at rs n) ≡ false) → So n o → So (suc n) (better rs a n o)
  step n o few prefixes apart so = by_held (holds (range_at rs n) a) refl so
    where
      by_less : (o : ℕ) (b : Bool) → holds (range_at rs n) a ≡ true → ltb (span (range_at rs n)) (span (range_at rs o)) ≡ b → Owns rs n a o → So (suc n) (cond b n o)
      by_less o true held less own = closer n o held own (grind (arith, nat_tests))
      by_less o false held less own =
          let mine = prefixes n (omega arith) in
          let theirs = prefixes o (omega (arith, own.is)) in
          let differ : span (range_at rs o) ≡ span (range_at rs n) → ⊥ = λ e. clash (sym (one_block (range_at rs o) (range_at rs n) theirs.0 mine.0 a theirs.1 mine.1 own.held held e) ∙ apart o own.is) in
          farther n o own (grind (arith, nat_tests))
        where
          clash : true ≡ false → ⊥
          clash z = let w : ◌≡◌ {A = ℕ} 0 1 = cc in omega arith

      by_held : (b : Bool) → holds (range_at rs n) a ≡ b → So n o → So (suc n) (cond (b && (eqb o nobody || ltb (span (range_at rs n)) (span (range_at rs o)))) n o)
      by_held false out s = passed n o out s
      by_held true held (inl none) = fits (eqb o nobody) (grind (arith, nat_tests))
        where
          fits : (t : Bool) → t ≡ true → So (suc n) (cond (t || ltb (span (range_at rs n)) (span (range_at rs o))) n o)
          fits true e = first n held none.1
          fits false e = absurd (let w : ◌≡◌ {A = ℕ} 0 1 = cc in omega arith)
      by_held true held (inr own) = fits (eqb o nobody) (grind (arith, nat_tests, own.is))
        where
          fits : (t : Bool) → t ≡ false → So (suc n) (cond (t || ltb (span (range_at rs n)) (span (range_at rs o))) n o)
          fits false e = by_less o (ltb (span (range_at rs n)) (span (range_at rs o))) held refl own
          fits true e = absurd (let w : ◌≡◌ {A = ℕ} 0 1 = cc in omega arith)

  all : (n gates : ℕ) → Table rs gates → n ≤ gates → So n (owner_below rs a n)
  all zero gates t le = inl (refl, λ j less. absurd (omega arith))
  all (suc n) gates t le =
      step n (owner_below rs a n) (omega (arith, t.few)) (λ i less. t.prefixes i (omega arith)) (λ i less. t.apart i n less (omega arith)) (all n gates t (omega arith))

pub owner_longest : OwnerIsLongest
owner_longest rs gates t a = all rs a gates gates t (omega arith)

pub owner_unique : OwnerIsUnique
owner_unique rs gates address a b p q = by (eqb_tells a b)
  where
    by : ((eqb a b ≡ true) × (a ≡ b)) ⊎ ((eqb a b ≡ false) × (a ≡ b → ⊥)) → a ≡ b
    by (inl e) = e.1
    by (inr e) = absurd (omega (arith, p.longest b q.is q.held (λ z. e.1 (sym z)), q.longest a p.is p.held e.1))
