-- An array that is made by a function of the place. Assumes nothing.
use Rattle.std.proofs.Common.{◌≡◌, ℕ, zero, suc, ◌+◌, ◌<◌, ◌≤◌, true, false, eqb, ◌⊎◌, List, get_or, ap, ◌∙◌, sym, subst, inl, inr, arith}
use Rattle.std.proofs.lemmas.Bool.Decides.{eqb_tells}
use Rattle.std.specs.Array.{IsFromFnResultFrom}
use Rattle.std.specs.Fn.{Called}
use denote.Param.Members.{Mut}

-- where each call leaves the closure as it was and gives h of the place, each place has what h gives
pub from_fn_gives : {F B : Type 0} (g : Mut F (ℕ × Unit {0}) B) (h : ℕ → B) (f : F) → ((i : ℕ) (y : B) (q : F) → Called g f (i, tt) y q → (q ≡ f) × (y ≡ h i)) → (ys : List B) (i n : ℕ) → IsFromFnResultFrom g f ys i n → (k : ℕ) (d : B) → i ≤ k → k < i + n → get_or ys k d ≡ h k
from_fn_gives g h f acts ys i zero all k d low high = absurd (omega arith)
from_fn_gives g h f acts ys i (suc n) all k d low high =
    by (eqb_tells k i) (λ above. from_fn_gives g h f acts ys (i + 1) n (subst (λ p. IsFromFnResultFrom g p ys (i + 1) n) (acts i all.1 all.0 all.3).0 all.4) k d above (omega arith))
  where
    by : ((eqb k i ≡ true) × (k ≡ i)) ⊎ ((eqb k i ≡ false) × (k ≡ i → ⊥)) → (i + 1 ≤ k → get_or ys k d ≡ h k) → get_or ys k d ≡ h k
    by (inl e) later = ap (λ j. get_or ys j d) e.1 ∙ all.2.1 d ∙ (acts i all.1 all.0 all.3).1 ∙ ap h (sym e.1)
    by (inr e) later = later (omega (arith, e.1))
