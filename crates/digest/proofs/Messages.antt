-- A message that is hashed in pieces: the hash value after more blocks, and what a hasher holds after a piece.
use Rattle.std.proofs.Common.{◌≡◌, ℕ, zero, suc, ◌+◌, ◌-◌, ◌*◌, ◌/◌, ◌%◌, ◌<◌, ◌≤◌, List, [], ◌∷◌, ◌++◌, length, get_or, take, drop, replicate, subst, sym, refl, ap, ◌∙◌, ap₂, append_assoc, zero-add, arith, length-append, length-drop, take-add}
use borrow.Rule.Slice.PartMut.{put_mid}
use Rattle.std.proofs.lemmas.List.{append-nil, take_at, drop_at, take_all, take_more, take-append-le, drop-append-le, take-append-drop, nil_from_length}
use Rattle.std.proofs.lemmas.List.Folds.{concat-append}
use Rattle.std.specs.List.{concat}
use Rattle.std.specs.Simd.{first_chunks}
use Rattle.digest.specs.declared.state.Hasher.{Hasher}
use Rattle.digest.specs.Hashers.{Absorbs, Holds}
use Rattle.digest.specs.Sha256.{initial_hash, compressed, hashed, length_bytes, padding, end_of, last_hash}
use Rattle.digest.proofs.Padding.{length-padding, end_one, end_two, ends_here, ends_later}

pub hashed-add : (a b : ℕ) (h x y : List ℕ) → length x ≡ 64 * a → hashed (a + b) h (x ++ y) ≡ hashed b (hashed a h x) y
unfolding hashed
hashed-add zero b h x y long =
    let none : x ≡ [] = nil_from_length x (omega arith) in
    ap (λ n. hashed n h (x ++ y)) (zero-add b) ∙ ap (λ z. hashed b h (z ++ y)) none
hashed-add (suc a) b h x y long =
    let le : 64 ≤ length x = omega arith in
    let count : suc a + b ≡ suc (a + b) = omega arith in
    let first : take 64 (x ++ y) ≡ take 64 x = take-append-le 64 x y le in
    let more : drop 64 (x ++ y) ≡ drop 64 x ++ y = drop-append-le 64 x y le in
    let left : length (drop 64 x) ≡ 64 * a = length-drop 64 x ∙ omega arith in
    ap (λ n. hashed n h (x ++ y)) count ∙ ap₂ (λ p q. hashed (a + b) (compressed h p) q) first more
    ∙ hashed-add a b (compressed h (take 64 x)) (drop 64 x) y left

pub hashed_push : (n : ℕ) (h x last : List ℕ) → length x ≡ 64 * n → length last ≡ 64 → hashed (n + 1) h (x ++ last) ≡ compressed (hashed n h x) last
unfolding hashed
hashed_push n h x last long full =
    hashed-add n 1 h x last long ∙ ap (λ block. compressed (hashed n h x) block) (take_all 64 last (omega arith))

-- how much of the buffer is full
pub filled : (h : Hasher) (m : List ℕ) → (r : Holds h m) → h.total % 64 ≡ length r.rest
filled h m r =
    let n : length m ≡ length r.front + length r.rest = ap length r.joined ∙ length-append r.front r.rest in
    omega arith

-- what the buffer holds after a piece that fills it
full_block : (block rest piece : List ℕ) → length block ≡ 64 → take (length rest) block ≡ rest → length rest + length piece ≡ 64
    → put_mid (length rest) (length piece) block piece ≡ rest ++ piece
full_block block rest piece long e fits =
    let after : List ℕ = drop (length piece) (drop (length rest) block) in
    let none : after ≡ [] = nil_from_length after (omega (arith, length-drop (length piece) (drop (length rest) block), length-drop (length rest) block)) in
    ap₂ (λ p q. p ++ (piece ++ q)) e none ∙ ap (λ q. rest ++ q) (append-nil piece)

-- a piece that ends a block, which is the rest and the piece
holds-block : (h h' : Hasher) (m piece block : List ℕ) → (r : Holds h m) → block ≡ r.rest ++ piece → length block ≡ 64
    → h'.state ≡ compressed h.state block → h'.total ≡ h.total + length piece → Holds h' (m ++ piece)
holds-block h h' m piece block r eb full hs ht =
    record {
      blocks = r.blocks + 1;
      front = r.front ++ block;
      rest = [];
      joined =
          ap (λ x. x ++ piece) r.joined ∙ append_assoc r.front r.rest piece ∙ ap (λ x. r.front ++ x) (sym eb) ∙ sym (append-nil (r.front ++ block));
      whole = length-append r.front block ∙ omega arith;
      few = omega arith;
      state = hs ∙ ap (λ s. compressed s block) r.state ∙ sym (hashed_push r.blocks initial_hash r.front block r.whole full);
      buffer = refl;
      total = ht ∙ ap (λ k. k + length piece) r.total ∙ sym (length-append m piece);
    }

-- a piece that is a block
pub holds-whole : (h h' : Hasher) (m piece : List ℕ) → Holds h m → h.total % 64 ≡ 0 → length piece ≡ 64
    → h'.state ≡ compressed h.state piece → h'.total ≡ h.total + 64 → Holds h' (m ++ piece)
holds-whole h h' m piece r empty full hs ht =
    let none : r.rest ≡ [] = nil_from_length r.rest (sym (filled h m r) ∙ empty) in
    holds-block h h' m piece piece r (ap (λ x. x ++ piece) (sym none)) full hs (ht ∙ ap (λ k. h.total + k) (sym full))

-- a piece that fills the buffer
pub holds_full : (h h' : Hasher) (m piece block : List ℕ) → Holds h m → length h.block ≡ 64 → h.total % 64 + length piece ≡ 64
    → block ≡ put_mid (h.total % 64) (length piece) h.block piece
    → h'.state ≡ compressed h.state block → h'.total ≡ h.total + length piece → Holds h' (m ++ piece)
holds_full h h' m piece block r long room hb hs ht =
    let at : h.total % 64 ≡ length r.rest = filled h m r in
    let n : length (r.rest ++ piece) ≡ 64 = length-append r.rest piece ∙ omega arith in
    let all : block ≡ r.rest ++ piece =
    hb ∙ ap (λ k. put_mid k (length piece) h.block piece) at ∙ full_block h.block r.rest piece long r.buffer (omega arith) in
    holds-block h h' m piece block r all (ap length all ∙ n) hs ht

-- three pieces, one after the other
pub absorbs_all : (a b c d : Hasher) (first blocks rest part : List ℕ) → Absorbs a b first → Absorbs b c blocks → Absorbs c d rest → part ≡ first ++ (blocks ++ rest) → Absorbs a d part
absorbs_all a b c d first blocks rest part p q r e =
    let long : length part ≡ length first + (length blocks + length rest) =
    ap length e ∙ length-append first (blocks ++ rest) ∙ ap (λ n. length first + n) (length-append blocks rest) in
    record {
      total = omega (arith, p.total, q.total, r.total);
      holds = λ m h.
          subst (λ x. Holds d x)
          (append_assoc (m ++ first) blocks rest ∙ append_assoc m first (blocks ++ rest) ∙ ap (λ x. m ++ x) (sym e))
          (r.holds ((m ++ first) ++ blocks) (q.holds (m ++ first) (p.holds m h)));
    }

-- no block
pub absorbs_none : (h : Hasher) → Absorbs h h []
absorbs_none h = record { total = omega arith; holds = λ m r. subst (λ x. Holds h x) (sym (append-nil m)) r }

-- a block more
pub absorbs_more : (a b c : Hasher) (blocks : List (List ℕ)) (i : ℕ) → i < length blocks → Absorbs a b (concat (take i blocks)) → Absorbs b c (get_or blocks i [])
    → Absorbs a c (concat (take (i + 1) blocks))
absorbs_more a b c blocks i h p q =
    let block : List ℕ = get_or blocks i [] in
    let more : concat (take (i + 1) blocks) ≡ concat (take i blocks) ++ (block ++ []) =
    ap concat (take_more blocks i [] h) ∙ concat-append (take i blocks) (block ∷ []) in
    absorbs_all a b c c (concat (take i blocks)) block [] (concat (take (i + 1) blocks)) p q (absorbs_none c) more

-- chunks, joined
concat_chunks : (n k : ℕ) (xs : List ℕ) → concat (first_chunks n k xs) ≡ take (n * k) xs
concat_chunks n zero xs = let none : 0 ≡ n * 0 = omega arith in ap (λ i. take i xs) none
concat_chunks n (suc k) xs =
    let more : n + n * k ≡ n * suc k = omega arith in
    ap (λ ys. take n xs ++ ys) (concat_chunks n k (drop n xs)) ∙ sym (take-add n (n * k) xs) ∙ ap (λ i. take i xs) more

-- a part: its first bytes, whole blocks, and the rest
pub part_is : (part first others rest : List ℕ) (blocks : List (List ℕ)) (n i : ℕ) → first ≡ take n part → others ≡ drop n part
    → blocks ≡ first_chunks 64 (length others / 64) others → rest ≡ drop (length others / 64 * 64) others → length blocks ≤ i
    → part ≡ first ++ (concat (take i blocks) ++ rest)
part_is part first others rest blocks n i hf ho hb hr all =
    let k : ℕ = length others / 64 in
    let same : 64 * k ≡ k * 64 = omega arith in
    let front : concat (take i blocks) ≡ take (k * 64) others = ap concat (take_all i blocks all ∙ hb) ∙ concat_chunks 64 k others ∙ ap (λ j. take j others) same in
    sym (ap₂ (λ x y. first ++ (x ++ y)) front hr ∙ ap (λ x. first ++ x) (take-append-drop (k * 64) others) ∙ ap₂ (λ x y. x ++ y) hf ho ∙ take-append-drop n part)

-- the hash value after the last blocks, from the state before them
closed : (h : Hasher) (m : List ℕ) → (r : Holds h m) (n : ℕ) → end_of h.total ≡ 64 * n
    → last_hash m ≡ hashed n h.state (r.rest ++ padding h.total)
unfolding last_hash
closed h m r n he =
    let t : h.total ≡ length m = r.total in
    let long : length m ≡ length r.front + length r.rest = ap length r.joined ∙ length-append r.front r.rest in
    let pad : length m % 64 + length (padding (length m)) ≡ end_of (length m) = length-padding (length m) in
    let end : end_of (length m) ≡ 64 * n = ap end_of (sym t) ∙ he in
    let count : (length m + length (padding (length m))) / 64 ≡ r.blocks + n = omega arith in
    let text : m ++ padding (length m) ≡ r.front ++ (r.rest ++ padding h.total) =
    ap₂ (λ x k. x ++ padding k) r.joined (sym t) ∙ append_assoc r.front r.rest (padding h.total) in
    ap₂ (λ k x. hashed k initial_hash x) count text
    ∙ hashed-add r.blocks n initial_hash r.front (r.rest ++ padding h.total) r.whole
    ∙ ap (λ s. hashed n s (r.rest ++ padding h.total)) (sym r.state)

-- what the buffer holds
rest_is : (h : Hasher) (m : List ℕ) → (r : Holds h m) → take (h.total % 64) h.block ≡ r.rest
rest_is h m r = ap (λ k. take k h.block) (filled h m r) ∙ r.buffer

-- one block is left
pub closed_one : (h : Hasher) (m last : List ℕ) → Holds h m → h.total % 64 < 56
    → last ≡ take (h.total % 64) h.block ++ (128 ∷ replicate (63 - h.total % 64) 0)
    → compressed h.state (take 56 last ++ length_bytes (8 * h.total)) ≡ last_hash m
unfolding hashed
closed_one h m last r room e =
    let all : List ℕ = r.rest ++ padding h.total in
    let text : take 56 last ++ length_bytes (8 * h.total) ≡ all =
    ap (λ x. take 56 x ++ length_bytes (8 * h.total)) (e ∙ ap (λ x. x ++ (128 ∷ replicate (63 - h.total % 64) 0)) (rest_is h m r))
    ∙ ends_here r.rest h.total (sym (filled h m r)) room in
    let end : end_of h.total ≡ 64 = end_one h.total room in
    let pad : h.total % 64 + length (padding h.total) ≡ end_of h.total = length-padding h.total in
    let at : h.total % 64 ≡ length r.rest = filled h m r in
    let long : length all ≡ 64 = length-append r.rest (padding h.total) ∙ omega arith in
    ap (λ x. compressed h.state x) (text ∙ sym (take_all 64 all (omega arith))) ∙ sym (closed h m r 1 end)

-- two blocks are left
pub closed_two : (h : Hasher) (m last : List ℕ) → Holds h m → 56 ≤ h.total % 64
    → last ≡ take (h.total % 64) h.block ++ (128 ∷ replicate (63 - h.total % 64) 0) → length last ≡ 64
    → compressed (compressed h.state last) (replicate 56 0 ++ length_bytes (8 * h.total)) ≡ last_hash m
unfolding hashed length_bytes
closed_two h m last r full e long =
    let tail : List ℕ = replicate 56 0 ++ length_bytes (8 * h.total) in
    let all : List ℕ = r.rest ++ padding h.total in
    let text : last ++ tail ≡ all =
    ap (λ x. x ++ tail) (e ∙ ap (λ x. x ++ (128 ∷ replicate (63 - h.total % 64) 0)) (rest_is h m r)) ∙ ends_later r.rest h.total full in
    let first : take 64 all ≡ last = ap (take 64) (sym text) ∙ take_at last tail 64 long in
    let second : take 64 (drop 64 all) ≡ tail = ap (λ x. take 64 (drop 64 x)) (sym text) ∙ ap (take 64) (drop_at last tail 64 long) in
    sym (closed h m r 2 (end_two h.total full) ∙ ap₂ (λ x y. compressed (compressed h.state x) y) first second)

-- a new hasher holds nothing
pub holds_none : (h : Hasher) → h.state ≡ initial_hash → h.total ≡ 0 → Holds h []
unfolding hashed
holds_none h hs ht =
    record { blocks = 0; front = []; rest = []; joined = refl; whole = refl; few = omega arith; state = hs; buffer = refl; total = ht }

-- a hasher with the state after one block holds that block
pub holds-first : (h : Hasher) (block : List ℕ) → length block ≡ 64 → h.state ≡ compressed initial_hash block → h.total ≡ 64 → Holds h block
unfolding hashed
holds-first h block long hs ht =
    record {
      blocks = 1;
      front = block;
      rest = [];
      joined = sym (append-nil block);
      whole = long;
      few = omega arith;
      state = hs ∙ ap (λ b. compressed initial_hash b) (sym (take_all 64 block (omega arith)));
      buffer = refl;
      total = ht ∙ sym long;
    }
