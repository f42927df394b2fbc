-- Places in memory that may be empty. Assumes nothing.
use Rattle.std.specs.Prelude.{Bool, false, cond, List, [], ◌∷◌, map, Some, None, Option}

-- the first that passes a test
unfoldable pub first_that : {A : Type 0} → (A → Bool) → List (Option A) → Option A
first_that p [] = None
first_that p (None ∷ xs) = first_that p xs
first_that p (Some x ∷ xs) = cond (p x) (Some x) (first_that p xs)

-- the first that passes a test replaced
unfoldable pub replaced : {A : Type 0} → (A → Bool) → A → List (Option A) → List (Option A)
replaced p y [] = []
replaced p y (None ∷ xs) = None ∷ replaced p y xs
replaced p y (Some x ∷ xs) = cond (p x) (Some y ∷ xs) (Some x ∷ replaced p y xs)

-- a place emptied, if what it holds passes a test
abbrev pub emptied : {A : Type 0} → (A → Bool) → Option A → Option A
emptied p None = None
emptied p (Some x) = cond (p x) None (Some x)

-- each place emptied whose holder passes a test
abbrev pub cleared : {A : Type 0} → (A → Bool) → List (Option A) → List (Option A)
cleared p xs = map (emptied p) xs

-- whether what a place holds passes a test; an empty one doesn't
abbrev pub holds : {A : Type 0} → (A → Bool) → Option A → Bool
holds p None = false
holds p (Some x) = p x
