-- What an iterator has left, call by call. Assumes nothing.
use Rattle.std.proofs.Common.{◌≡◌, List, [], ◌∷◌, Some, None, Option, refl, sym, ap}
use Rattle.std.proofs.lemmas.Iterator.{YieldsList}

module _ {S A B : Type 0} {steps : S → Option A → S → Type 0} {v : A → B} where
  -- it had nothing left, where it gave nothing
  pub had_none : {s t : S} (ys : List B) → YieldsList steps v s ys → steps s None t → ys ≡ []
  had_none [] yields step = refl
  had_none {t = t} (y ∷ ys) yields step = absurd (yields.runs.0 t step)

  -- an item that it gave, and what it has left then
  pub had_some : {s t : S} {x : A} (ys : List B) → YieldsList steps v s ys → steps s (Some x) t → (rest : List B) × (ys ≡ v x ∷ rest) × YieldsList steps v t rest
  had_some {t = t} {x = x} [] yields step = absurd (yields.runs x t step)
  had_some {t = t} {x = x} (y ∷ ys) yields step =
      let was = yields.runs.1 x t step in
      (ys, ap (λ z. z ∷ ys) (sym was.0), record { runs = was.1 })
