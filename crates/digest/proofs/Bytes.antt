-- Words as bytes, one after the other.
use Rattle.std.proofs.Common.{◌≡◌, ℕ, suc, ◌<◌, List, [], ◌∷◌, length, get_or, refl, ap₂, ◌++◌, arith}
use Rattle.std.specs.List.{flat_map}
use Rattle.digest.specs.Sha256.{word_bytes, serialized}

-- the bytes of each word, joined
pub words_joined : (ws : List ℕ) (bytes : List (List ℕ)) → length bytes ≡ length ws → ((i : ℕ) → i < length ws → get_or bytes i [] ≡ word_bytes (get_or ws i 0)) → flat_map (λ x. x) bytes ≡ serialized ws
unfolding serialized
words_joined [] [] n each = refl
words_joined [] (b ∷ bytes) n each = cc
words_joined (w ∷ ws) [] n each = cc
words_joined (w ∷ ws) (b ∷ bytes) n each = ap₂ (λ x y. x ++ y) (each 0 (omega arith)) (words_joined ws bytes (omega arith) (λ i h. each (suc i) (omega arith)))
