-- Padded keys, and what is refused for its length.
use Rattle.std.proofs.Common.{◌≡◌, ℕ, ◌+◌, ◌-◌, ◌^◌, ◌<◌, ◌≤◌, Bool, true, false, cond, ltb, List, [], ◌∷◌, ◌++◌, map, length, get_or, take, drop, set, replicate, Ok, Err, Result, sym, refl, ap, ◌∙◌, ap₂, append_assoc, arith, length-append}
use lib.Bits.{bit_xor}
use Rattle.std.proofs.lemmas.List.{append-nil, take_all, drop_all, drop_more, set_at, get_or_at, map_more, length-map, length-take-le}
use Rattle.digest.specs.declared.state.Fault.{Fault}
use Rattle.digest.specs.declared.state.Fault.TheVariants.{TooLong}
use Rattle.digest.specs.Hashers.{limited}
use Rattle.digest.specs.Sha256.{sha256}
use Rattle.digest.specs.Hmac.{short_key, key_block, inner_pad, outer_pad}

-- a byte more of a list that is turned in place
pub turned_more : (f : ℕ → ℕ) (xs ys : List ℕ) (i : ℕ) → i < length xs → ys ≡ map f (take i xs) ++ drop i xs
    → set ys i (f (get_or ys i 0)) ≡ map f (take (i + 1) xs) ++ drop (i + 1) xs
turned_more f xs ys i h e =
    let n : length (map f (take i xs)) ≡ i = length-map (take i xs) f ∙ length-take-le i xs (omega arith) in
    let split : ys ≡ map f (take i xs) ++ (get_or xs i 0 ∷ drop (i + 1) xs) = e ∙ ap (λ r. map f (take i xs) ++ r) (drop_more xs i 0 h) in
    let here : get_or ys i 0 ≡ get_or xs i 0 = ap (λ zs. get_or zs i 0) split ∙ get_or_at (map f (take i xs)) (get_or xs i 0) (drop (i + 1) xs) 0 i n in
    ap₂ (λ zs z. set zs i (f z)) split here
    ∙ set_at (map f (take i xs)) (get_or xs i 0) (drop (i + 1) xs) (f (get_or xs i 0)) i n
    ∙ sym (append_assoc (map f (take i xs)) (f (get_or xs i 0) ∷ []) (drop (i + 1) xs))
    ∙ ap (λ r. r ++ drop (i + 1) xs) (sym (map_more f xs i 0 h))

-- all bytes of a list that is turned in place
pub turned_all : (f : ℕ → ℕ) (xs ys : List ℕ) (i : ℕ) → length xs ≤ i → ys ≡ map f (take i xs) ++ drop i xs → ys ≡ map f xs
turned_all f xs ys i h e = e ∙ ap₂ (λ p q. map f p ++ q) (take_all i xs h) (drop_all i xs h) ∙ append-nil (map f xs)

-- the block of a key of 32 bytes
key-block : (key : List ℕ) → length key ≡ 32 → key_block key ≡ key ++ replicate 32 0
unfolding key_block short_key
key-block key h =
    let short : ltb 64 (length key) ≡ false = ap (λ n. ltb 64 n) h in
    ap (λ b. cond b (sha256 key) key ++ replicate (64 - length (cond b (sha256 key) key)) 0) short ∙ ap (λ n. key ++ replicate (64 - n) 0) h

pub inner_pad_lem : (key : List ℕ) → length key ≡ 32 → inner_pad key ≡ map (λ b. bit_xor b 0x36) (key ++ replicate 32 0)
unfolding inner_pad
inner_pad_lem key h = ap (λ k. map (λ b. bit_xor b 0x36) k) (key-block key h)

pub outer_pad_lem : (key : List ℕ) → length key ≡ 32 → outer_pad key ≡ map (λ b. bit_xor b 0x5c) (key ++ replicate 32 0)
unfolding outer_pad
outer_pad_lem key h = ap (λ k. map (λ b. bit_xor b 0x5c) k) (key-block key h)

length_padded : (f : ℕ → ℕ) (key : List ℕ) → length key ≡ 32 → length (map f (key ++ replicate 32 0)) ≡ 64
length_padded f key h =
    length-map (key ++ replicate 32 0) f ∙ length-append key (replicate 32 0) ∙ ap (λ n. n + 32) h

pub length-inner : (key : List ℕ) → length key ≡ 32 → length (inner_pad key) ≡ 64
length-inner key h = ap length (inner_pad_lem key h) ∙ length_padded (λ b. bit_xor b 0x36) key h

pub length-outer : (key : List ℕ) → length key ≡ 32 → length (outer_pad key) ≡ 64
length-outer key h = ap length (outer_pad_lem key h) ∙ length_padded (λ b. bit_xor b 0x5c) key h

-- what was taken for its length is the value
pub limited-taken : {T : Type 0} (n : ℕ) (value : T) (x : Unit {0}) → Ok x ≡ limited n tt → Ok value ≡ limited n value
limited-taken {T} n value x h = by (ltb n (2 ^ 61)) h
  where
    by : (b : Bool) → ◌≡◌ {A = Result (Unit {0}) Fault} (Ok x) (cond b (Ok tt) (Err TooLong)) → ◌≡◌ {A = Result T Fault} (Ok value) (cond b (Ok value) (Err TooLong))
    by true e = refl
    by false e = let z : ◌≡◌ {A = ℕ} 0 1 = cc in absurd (omega arith)

-- the two padded keys, for the key that is kept of them
pub ruleset padded = (inner_pad_lem, outer_pad_lem)
