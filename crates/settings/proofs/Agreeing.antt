-- Settings that are made from one plan are allowed, and agree. Assumes nothing.
use Rattle.std.proofs.Common.{◌≡◌, ℕ, zero, suc, ◌+◌, ◌-◌, ◌*◌, ◌<◌, ◌≤◌, Bool, true, false, cond, eqb, leb, ltb, ◌≢◌, ◌⊎◌, List, length, get_or, take, drop, replicate, Ok, sym, refl, ap, ◌∙◌, inl, inr, arith}
use Rattle.std.proofs.lemmas.List.FromFn.{length-map-range_with_len, get_or-map-range_with_len}
use Rattle.std.proofs.lemmas.List.{length-set, length-take-le, length-drop, length-append, length-replicate, get_or-set_same, get_or-set_other, get_or-replicate, get_or_append_left, get_or-append_right, get_or-take, ext_get_or}
use Rattle.std.proofs.lemmas.Bool.Decides.{nat_tests, eqb_tells, leb_tells}
use Rattle.settings.specs.declared.plans.Key.{Key}
use Rattle.settings.specs.declared.plans.Plan.{Plan}
use Rattle.settings.specs.declared.plans.Settings.{Settings}
use Rattle.settings.specs.Fields.{part}
use Rattle.settings.specs.Plans.{blank_key, empty_settings, key_at}
use Rattle.settings.specs.Making.{pair_place, drawn_needed, key_for, keys_for, settings_for, all_settings, settings_at, Agree, AllRead}
use Rattle.settings.specs.Reading.{settings_read, all_zero}
use Rattle.settings.specs.Sound.{filled, SoundPlan, Sound}
use Rattle.settings.specs.Writing.{bytes_of}
use Rattle.settings.proofs.Written.{reads_back}

-- a pair's place is the same from both ends, and within the drawn bytes
place_same : (a b : ℕ) → a ≢ b → pair_place a b ≡ pair_place b a
place_same a b other = grind (arith, nat_tests)

pub pair_within : (a b n : ℕ) → a < n → b < n → a ≢ b → n ≤ 32 → 32 * pair_place a b + 32 ≤ 1024 * n
pair_within a b n x y other few = grind (arith, nat_tests)

-- a list whose places from a number on are blank is filled so
filled-same : (n : ℕ) (xs : List Key) → n ≤ 32 → length xs ≡ 32 → ((j : ℕ) → n ≤ j → j < 32 → get_or xs j blank_key ≡ blank_key) → filled n blank_key xs ≡ xs
filled-same n xs few long past =
    let front : length (take n xs) ≡ n = length-take-le n xs (omega arith) in
    let all : length (filled n blank_key xs) ≡ 32 = length-append (take n xs) (replicate (32 - n) blank_key) ∙ omega (arith, front, length-replicate (32 - n) blank_key) in
    ext_get_or blank_key (filled n blank_key xs) xs (omega (arith, all)) (λ j less. by j (omega (arith, all)) front (leb_tells n j))
  where
    by : (j : ℕ) → j < 32 → length (take n xs) ≡ n → ((leb n j ≡ true) × (n ≤ j)) ⊎ ((leb n j ≡ false) × (j < n)) → get_or (filled n blank_key xs) j blank_key ≡ get_or xs j blank_key
    by j less front (inl e) =
        get_or-append_right (take n xs) (replicate (32 - n) blank_key) n j blank_key front e.1
        ∙ get_or-replicate (32 - n) (j - n) blank_key blank_key (omega (arith, e.1))
        ∙ sym (past j e.1 less)
    by j less front (inr e) =
        get_or_append_left (take n xs) (replicate (32 - n) blank_key) blank_key j (omega (arith, e.1)) ∙ get_or-take n xs j blank_key e.1

keys-long : (drawn : List ℕ) (own n : ℕ) → length (keys_for drawn own n) ≡ 32
keys-long drawn own zero = refl
keys-long drawn own (suc n) = length-set (keys_for drawn own n) n (key_for drawn own n) ∙ keys-long drawn own n

keys-at : (drawn : List ℕ) (own n j : ℕ) → j < n → n ≤ 32 → get_or (keys_for drawn own n) j blank_key ≡ key_for drawn own j
keys-at drawn own zero j less few = absurd (omega arith)
keys-at drawn own (suc n) j less few = by (λ d. keys-at drawn own n j d (omega arith)) (eqb_tells j n)
  where
    by : (j < n → get_or (keys_for drawn own n) j blank_key ≡ key_for drawn own j) → ((eqb j n ≡ true) × (j ≡ n)) ⊎ ((eqb j n ≡ false) × (j ≡ n → ⊥)) → get_or (keys_for drawn own (suc n)) j blank_key ≡ key_for drawn own j
    by before (inl e) =
        ap (λ i. get_or (keys_for drawn own (suc n)) i blank_key) e.1
        ∙ get_or-set_same (keys_for drawn own n) n (key_for drawn own n) blank_key (omega (arith, keys-long drawn own n))
        ∙ ap (key_for drawn own) (sym e.1)
    by before (inr e) = get_or-set_other (keys_for drawn own n) n j (key_for drawn own n) blank_key e.1 ∙ before (omega (arith, e.1))

keys_past : (drawn : List ℕ) (own n j : ℕ) → n ≤ j → j < 32 → get_or (keys_for drawn own n) j blank_key ≡ blank_key
keys_past drawn own zero j past few = get_or-replicate 32 j blank_key blank_key few
keys_past drawn own (suc n) j past few =
    get_or-set_other (keys_for drawn own n) n j (key_for drawn own n) blank_key (omega arith) ∙ keys_past drawn own n j (omega arith) few

-- keys that were made place by place
pub keys_made : (drawn : List ℕ) (own n : ℕ) (ys : List Key) → n ≤ 32 → length ys ≡ 32 → ((k : ℕ) → k < 32 → get_or ys k blank_key ≡ cond (ltb k n) (key_for drawn own k) blank_key) → ys ≡ keys_for drawn own n
keys_made drawn own n ys few long each =
    ext_get_or blank_key ys (keys_for drawn own n) (long ∙ sym (keys-long drawn own n)) (λ k less. each k (omega (arith, long)) ∙ by k (omega (arith, long)) (leb_tells n k))
  where
    by : (k : ℕ) → k < 32 → ((leb n k ≡ true) × (n ≤ k)) ⊎ ((leb n k ≡ false) × (k < n)) → cond (ltb k n) (key_for drawn own k) blank_key ≡ get_or (keys_for drawn own n) k blank_key
    by k less (inl e) =
        let past : ltb k n ≡ false = grind (arith, nat_tests) in
        ap (λ b. cond b (key_for drawn own k) blank_key) past ∙ sym (keys_past drawn own n k e.1 less)
    by k less (inr e) =
        let below : ltb k n ≡ true = grind (arith, nat_tests) in
        ap (λ b. cond b (key_for drawn own k) blank_key) below ∙ sym (keys-at drawn own n k e.1 few)

-- the key of a pair is the same at both ends
key-same : (drawn : List ℕ) (i j : ℕ) → key_for drawn i j ≡ key_for drawn j i
key-same drawn i j = by (eqb_tells j i)
  where
    by : ((eqb j i ≡ true) × (j ≡ i)) ⊎ ((eqb j i ≡ false) × (j ≡ i → ⊥)) → key_for drawn i j ≡ key_for drawn j i
    by (inl e) = (λ k. key_for drawn i (e.1 k)) ∙ (λ k. key_for drawn (sym e.1 k) i)
    by (inr e) =
        let other : eqb i j ≡ false = grind (arith, nat_tests) in
        ap (λ t. cond {A = Key} t blank_key (record { bytes = part drawn (32 * pair_place i j) 32 })) e.0
        ∙ ap (λ n. record { bytes = part drawn (32 * n) 32 }) (place_same i j (λ z. e.1 (sym z)))
        ∙ sym (ap (λ t. cond {A = Key} t blank_key (record { bytes = part drawn (32 * pair_place j i) 32 })) other)

module _ (p : Plan) (drawn : List ℕ) (few : p.gates ≤ 32) where
  at : (i : ℕ) → i < p.gates → settings_at (all_settings p drawn) i ≡ settings_for p drawn i
  unfolding all_settings
  at i less = get_or-map-range_with_len (settings_for p drawn) 0 p.gates i i (empty_settings 0 0 0) less (omega arith)

  long : length (all_settings p drawn) ≡ p.gates
  unfolding all_settings
  long = length-map-range_with_len (settings_for p drawn) 0 p.gates

  pub agree : Agree (all_settings p drawn)
  agree =
      record {
        numbered = λ i less. ap (λ (s : Settings). s.own) (at i (omega (arith, long)));
        counted = λ i less. ap (λ (s : Settings). s.plan.gates) (at i (omega (arith, long))) ∙ sym long;
        lives = λ i j less less'. ap (λ (s : Settings). s.plan.life) (at i (omega (arith, long)) ∙ refl) ∙ sym (ap (λ (s : Settings). s.plan.life) (at j (omega (arith, long))));
        mosts = λ i j less less'. ap (λ (s : Settings). s.plan.most) (at i (omega (arith, long))) ∙ sym (ap (λ (s : Settings). s.plan.most) (at j (omega (arith, long))));
        tables = λ i j less less'. ap (λ (s : Settings). s.plan.ranges) (at i (omega (arith, long))) ∙ sym (ap (λ (s : Settings). s.plan.ranges) (at j (omega (arith, long))));
        outsides = λ i j less less'. ap (λ (s : Settings). s.plan.outside) (at i (omega (arith, long))) ∙ sym (ap (λ (s : Settings). s.plan.outside) (at j (omega (arith, long))));
        keys = λ i j less less'. ap (λ (s : Settings). key_at s j) (at i (omega (arith, long))) ∙ keys-at drawn i p.gates j (omega (arith, long)) few ∙ key-same drawn i j ∙ sym (ap (λ (s : Settings). key_at s i) (at j (omega (arith, long))) ∙ keys-at drawn j p.gates i (omega (arith, long)) few);
      }

  -- the settings of one gate are allowed, where the plan is
  sound : (own : ℕ) → own < p.gates → drawn_needed p.gates ≤ length drawn → SoundPlan p → Sound (settings_for p drawn own)
  sound own less enough plan =
      record {
        planned = plan;
        numbered = less;
        zeros = ap (λ (k : Key). all_zero k.bytes) (keys-at drawn own p.gates own less few ∙ itself (eqb own own) (grind (arith, nat_tests)));
        sizes = λ i below. ap (λ (k : Key). length k.bytes) (keys-at drawn own p.gates i below few) ∙ size i below (eqb_tells i own);
        keys_padded = record { long = keys-long drawn own p.gates; rest = rest };
      }
    where
      itself : (t : Bool) → t ≡ true → cond {A = Key} t blank_key (record { bytes = part drawn (32 * pair_place own own) 32 }) ≡ blank_key
      itself true e = refl
      itself false e = absurd (let z : ◌≡◌ {A = ℕ} 0 1 = cc in omega arith)

      drawn-long : (a : ℕ) → a + 32 ≤ length drawn → length (part drawn a 32) ≡ 32
      drawn-long a within = length-take-le 32 (drop a drawn) (omega (arith, length-drop a drawn))

      size : (i : ℕ) → i < p.gates → ((eqb i own ≡ true) × (i ≡ own)) ⊎ ((eqb i own ≡ false) × (i ≡ own → ⊥)) → length (key_for drawn own i).bytes ≡ 32
      size i below (inl e) = ap (λ t. length (cond {A = Key} t blank_key (record { bytes = part drawn (32 * pair_place own i) 32 })).bytes) e.0
      size i below (inr e) =
          ap (λ t. length (cond {A = Key} t blank_key (record { bytes = part drawn (32 * pair_place own i) 32 })).bytes) e.0
          ∙ drawn-long (32 * pair_place own i) (omega (arith, pair_within own i p.gates less below (λ z. e.1 (sym z)) few))

      rest : filled p.gates blank_key (keys_for drawn own p.gates) ≡ keys_for drawn own p.gates
      rest = filled-same p.gates (keys_for drawn own p.gates) few (keys-long drawn own p.gates) (λ j past below. keys_past drawn own p.gates j past below)

  pub all_read : drawn_needed p.gates ≤ length drawn → SoundPlan p → AllRead (all_settings p drawn)
  all_read enough plan = λ i less.
      let here : settings_at (all_settings p drawn) i ≡ settings_for p drawn i = at i (omega (arith, long)) in
      ap (λ s. settings_read (bytes_of s)) here ∙ reads_back (settings_for p drawn i) (sound i (omega (arith, long)) enough plan) ∙ ap Ok (sym here)
