-- A plan that is allowed stays so with one gate more. Assumes nothing.
use Rattle.std.proofs.Common.{◌≡◌, ℕ, zero, suc, ◌+◌, ◌-◌, ◌^◌, ◌<◌, ◌≤◌, Bool, true, false, cond, eqb, ◌⊎◌, List, [], ◌∷◌, ◌++◌, length, get_or, take, set, replicate, Some, None, Option, sym, refl, ap, ◌∙◌, subst, inl, inr, append_assoc, arith}
use Rattle.std.proofs.lemmas.List.{length-set, length-take-le, get_or-set_same, get_or-set_other, take_more_set, set_at}
use Rattle.std.proofs.lemmas.Bool.Decides.{eqb_tells}
use Rattle.std.specs.Option.{option_map}
use Rattle.settings.specs.declared.faults.Cause.{Cause}
use Rattle.settings.specs.declared.faults.Cause.TheVariants.{Wrong, Repeats}
use Rattle.settings.specs.declared.plans.Plan.{Plan}
use Rattle.settings.specs.declared.ranges.Range.{Range}
use Rattle.settings.specs.Ranges.{blank_range, range_at, IsPrefix, is_prefix, same_range, first_of, same_below}
use Rattle.settings.specs.Plans.{empty_plan, plan_with, range_cause}
use Rattle.settings.specs.Sound.{Padded, SoundPlan}
use Rattle.settings.proofs.Prefixes.{prefix_decides}

-- a plan with no gates
pub empty_sound : (l m : ℕ) → 1 ≤ l → l ≤ 3600 → 17 ≤ m → m < 2 ^ 32 → SoundPlan (empty_plan l m)
empty_sound l m low high least limit =
    record {
      life_low = low;
      life_high = high;
      most_low = least;
      most_high = omega arith;
      table = record { few = omega arith; prefixes = λ i less. absurd (omega arith); apart = λ i j less below. absurd (omega arith) };
      firsts = λ i less. absurd (omega arith);
      lasts = λ i less. absurd (omega arith);
      outsides = λ i less. absurd (omega arith);
      ranges_padded = record { long = refl; rest = refl };
      outside_padded = record { long = refl; rest = refl };
    }

-- one place more of a padded list is put
pub padded_more : {A : Type 0} (n : ℕ) (blank x : A) (xs : List A) → n < 32 → Padded n blank xs → Padded (n + 1) blank (set xs n x)
padded_more n blank x xs less pad =
    let left : 32 - n ≡ suc (32 - (n + 1)) = omega arith in
    let within : n < length xs = omega (arith, pad.long) in
    let front : length (take n xs) ≡ n = length-take-le n xs (omega arith) in
    let whole : xs ≡ take n xs ++ blank ∷ replicate (32 - (n + 1)) blank = sym pad.rest ∙ ap (λ k. take n xs ++ replicate k blank) left in
    record {
      long = length-set xs n x ∙ pad.long;
      rest =
          ap (λ l. l ++ replicate (32 - (n + 1)) blank) (take_more_set xs n x within)
          ∙ append_assoc (take n xs) (x ∷ []) (replicate (32 - (n + 1)) blank)
          ∙ sym (ap (λ l. set l n x) whole ∙ set_at (take n xs) blank (replicate (32 - (n + 1)) blank) x n front);
    }

-- a range that no gate below a number has
pub other-below : (rs : List Range) (r : Range) (n j : ℕ) → same_below rs r n ≡ None → j < n → same_range (range_at rs j) r ≡ false
other-below rs r zero j none less = absurd (omega arith)
other-below rs r (suc n) j none less =
    by (same_below rs r n) (same_range (range_at rs n) r) refl refl none (λ e d. other-below rs r n j e d) (eqb_tells j n)
  where
    by : (o : Option ℕ) (b : Bool) → same_below rs r n ≡ o → same_range (range_at rs n) r ≡ b → first_of o (cond b (Some n) None) ≡ None → (same_below rs r n ≡ None → j < n → same_range (range_at rs j) r ≡ false) → ((eqb j n ≡ true) × (j ≡ n)) ⊎ ((eqb j n ≡ false) × (j ≡ n → ⊥)) → same_range (range_at rs j) r ≡ false
    by (Some k) b e f clash before side = absurd (let z : ◌≡◌ {A = ℕ} 0 1 = cc in omega arith)
    by None true e f clash before side = absurd (let z : ◌≡◌ {A = ℕ} 0 1 = cc in omega arith)
    by None false e f clash before (inl at) = ap (λ i. same_range (range_at rs i) r) at.1 ∙ f
    by None false e f clash before (inr at) = before e (omega (arith, at.1))

-- a range against which there is no cause
pub cause_none : (p : Plan) (r : Range) → range_cause p r ≡ None → IsPrefix r × (same_below p.ranges r p.gates ≡ None)
unfolding range_cause
cause_none p r none = by (is_prefix r) (same_below p.ranges r p.gates) refl refl none
  where
    by : (b : Bool) (o : Option ℕ) → is_prefix r ≡ b → same_below p.ranges r p.gates ≡ o → cond {A = Option Cause} b (option_map Repeats o) (Some Wrong) ≡ None → IsPrefix r × (same_below p.ranges r p.gates ≡ None)
    by true None e f clash = ((prefix_decides r).0 e, f)
    by true (Some k) e f clash = absurd (let z : ◌≡◌ {A = ℕ} 0 1 = cc in omega arith)
    by false o e f clash = absurd (let z : ◌≡◌ {A = ℕ} 0 1 = cc in omega arith)

-- what holds of every place below n, and of what is put at n, holds of every place below n + 1
pub put_each : {A : Type 0} (P : A → Type 0) (n i : ℕ) (blank x : A) (xs : List A) → n < length xs → P x → (i < n → P (get_or xs i blank)) → i < n + 1 → P (get_or (set xs n x) i blank)
put_each P n i blank x xs within here before less = by (eqb_tells i n)
  where
    by : ((eqb i n ≡ true) × (i ≡ n)) ⊎ ((eqb i n ≡ false) × (i ≡ n → ⊥)) → P (get_or (set xs n x) i blank)
    by (inl e) = subst P (sym (ap (λ k. get_or (set xs n x) k blank) e.1 ∙ get_or-set_same xs n x blank within)) here
    by (inr e) = subst P (sym (get_or-set_other xs n i x blank e.1)) (before (omega (arith, e.1)))

-- one gate more, whose range is a prefix that no earlier gate has
pub more_sound : (p : Plan) (r : Range) (o : ℕ) → SoundPlan p → p.gates < 32 → IsPrefix r → same_below p.ranges r p.gates ≡ None → r.first < 2 ^ 32 → r.last < 2 ^ 32 → o < 2 ^ 32 → SoundPlan (plan_with p r o)
more_sound p r o ok room is other first last out =
    let n : ℕ = p.gates in
    let within : n < length p.ranges = omega (arith, ok.ranges_padded.long) in
    let within' : n < length p.outside = omega (arith, ok.outside_padded.long) in
    record {
      life_low = ok.life_low;
      life_high = ok.life_high;
      most_low = ok.most_low;
      most_high = ok.most_high;
      table =
          record {
            few = omega arith;
            prefixes = λ i less. put_each IsPrefix n i blank_range r p.ranges within is (λ d. ok.table.prefixes i d) less;
            apart = λ i j less below. apart i j less below (eqb_tells j n);
          };
      firsts = λ i less. put_each (λ q. q.first < 2 ^ 32) n i blank_range r p.ranges within first (λ d. ok.firsts i d) less;
      lasts = λ i less. put_each (λ q. q.last < 2 ^ 32) n i blank_range r p.ranges within last (λ d. ok.lasts i d) less;
      outsides = λ i less. put_each (λ q. q < 2 ^ 32) n i 0 o p.outside within' out (λ d. ok.outsides i d) less;
      ranges_padded = padded_more n blank_range r p.ranges room ok.ranges_padded;
      outside_padded = padded_more n 0 o p.outside room ok.outside_padded;
    }
  where
    kept : (i : ℕ) → i < p.gates → range_at (set p.ranges p.gates r) i ≡ range_at p.ranges i
    kept i less = get_or-set_other p.ranges p.gates i r blank_range (omega arith)

    apart : (i j : ℕ) → i < j → j < p.gates + 1 → ((eqb j p.gates ≡ true) × (j ≡ p.gates)) ⊎ ((eqb j p.gates ≡ false) × (j ≡ p.gates → ⊥)) → same_range (range_at (set p.ranges p.gates r) i) (range_at (set p.ranges p.gates r) j) ≡ false
    apart i j less below (inl e) =
        let put : range_at (set p.ranges p.gates r) j ≡ r = ap (range_at (set p.ranges p.gates r)) e.1 ∙ get_or-set_same p.ranges p.gates r blank_range (omega (arith, ok.ranges_padded.long)) in
        (λ k. same_range (kept i (omega (arith, e.1)) k) (put k)) ∙ other-below p.ranges r p.gates i other (omega (arith, e.1))
    apart i j less below (inr e) =
        (λ k. same_range (kept i (omega (arith, e.1)) k) (kept j (omega (arith, e.1)) k)) ∙ ok.table.apart i j less (omega (arith, e.1))
