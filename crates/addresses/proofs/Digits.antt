-- How a number is read digit by digit. Assumes nothing.
use Rattle.std.proofs.Common.{◌≡◌, ℕ, ◌+◌, ◌<◌, ◌≤◌, true, false, cond, List, length, get_or, drop, Some, None, ap}
use Rattle.std.proofs.lemmas.List.{drop_more, drop_all}
use Rattle.addresses.specs.Numbers.{and_then, digit_added, digits_from, unfit, number_read}

pub unfit_none : (limit : ℕ) (t : List ℕ) → unfit t ≡ true → number_read limit t ≡ None
unfolding number_read
unfit_none limit t bad = ap (λ b. cond b None (digits_from limit 0 t)) bad

pub fit_is : (limit : ℕ) (t : List ℕ) → unfit t ≡ false → number_read limit t ≡ digits_from limit 0 t
unfolding number_read
fit_is limit t ok = ap (λ b. cond b None (digits_from limit 0 t)) ok

-- by the byte at a place
pub digit_next : (limit n : ℕ) (t : List ℕ) (at : ℕ) → at < length t → digits_from limit n (drop at t) ≡ and_then (digit_added limit n (get_or t at 0)) (λ m. digits_from limit m (drop (at + 1) t))
digit_next limit n t at more = ap (digits_from limit n) (drop_more t at 0 more)

pub digit_end : (limit n : ℕ) (t : List ℕ) (at : ℕ) → length t ≤ at → digits_from limit n (drop at t) ≡ Some n
digit_end limit n t at end = ap (digits_from limit n) (drop_all at t end)
