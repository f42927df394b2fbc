-- Rounds that are repeated: one more at the end, and two states that take them side by side.
use Rattle.std.proofs.Common.{◌≡◌, ℕ, zero, suc, ◌+◌, List, refl, ap, ◌∙◌, add-one, sym}
use Rattle.std.specs.Fn.{iterate}
use Rattle.cipher.specs.declared.rows.Rows.{Rows}
use Rattle.cipher.specs.ChaCha20.{inner_block, inner_blocks}
use Rattle.cipher.specs.Lanes.{quarter_rows, slant_rows, unslant_rows, inner_rows}

iterate-suc : {A : Type 0} (h : A → A) (n : ℕ) (x : A) → iterate h (suc n) x ≡ h (iterate h n x)
iterate-suc h zero x = refl
iterate-suc h (suc n) x = iterate-suc h n (h x)

pub iterate_more : {A : Type 0} (h : A → A) (n : ℕ) (x : A) → h (iterate h n x) ≡ iterate h (n + 1) x
iterate_more h n x = rw add-one (sym (iterate-suc h n x))

iterate-pair : {A B : Type 0} (h : A → A) (k : B → B) (n : ℕ) (x : A) (y : B)
    → iterate (λ (s : A × B). (h s.0, k s.1)) n (x, y) ≡ (iterate h n x, iterate k n y)
iterate-pair h k zero x y = refl
iterate-pair h k (suc n) x y = iterate-pair h k n (h x) (k y)

pub iterate_block : (n : ℕ) (s : List ℕ) → iterate inner_block n s ≡ inner_blocks n s
unfolding inner_blocks
iterate_block zero s = refl
iterate_block (suc n) s = iterate-suc inner_block n s ∙ ap inner_block (iterate_block n s)

iterate-rows : (n : ℕ) (r : Rows) → iterate (λ r. unslant_rows (quarter_rows (slant_rows (quarter_rows r)))) n r ≡ inner_rows n r
unfolding inner_rows
iterate-rows zero r = refl
iterate-rows (suc n) r =
    iterate-suc (λ r. unslant_rows (quarter_rows (slant_rows (quarter_rows r)))) n r
    ∙ ap (λ r. unslant_rows (quarter_rows (slant_rows (quarter_rows r)))) (iterate-rows n r)

-- four states by rows and a fifth, after n rounds
pub iterate_five : (n : ℕ) (r : Rows) (s : List ℕ)
    → iterate (λ (p : Rows × List ℕ). (unslant_rows (quarter_rows (slant_rows (quarter_rows p.0))), inner_block p.1)) n (r, s) ≡ (inner_rows n r, inner_blocks n s)
iterate_five n r s =
    iterate-pair (λ r. unslant_rows (quarter_rows (slant_rows (quarter_rows r)))) inner_block n r s
    ∙ (λ i. (iterate-rows n r i, iterate_block n s i))
