-- Numbers, addresses and prefixes that are written are read back, and what is read is what is
-- written of it. Assumes nothing.
use Rattle.std.proofs.Common.{◌≡◌, ℕ, zero, suc, ◌+◌, ◌-◌, ◌*◌, ◌/◌, ◌%◌, ◌^◌, ◌<◌, ◌≤◌, Bool, true, false, cond, ◌&&◌, eqb, leb, List, [], ◌∷◌, ◌++◌, length, get_or, Some, None, decimal, Option, sym, refl, ap, ◌∙◌, arith, rules}
use Rattle.std.proofs.lemmas.Nat.{shr-shr, div-add-mod'}
use Rattle.std.proofs.lemmas.Fmt.{digits_decimal, digits_value-decimal, first_decimal, decimal_nonempty, decimal_digit, decimal-digits_value}
use Rattle.std.proofs.lemmas.Str.Parse.{IsNumeralModel, numerals_by_fold}
use Rattle.std.proofs.lemmas.Bool.Decides.{nat_tests}
use Rattle.std.specs.Char.{is_ascii_digit}
use Rattle.std.specs.Str.{all_ascii_digits}
use Rattle.addresses.specs.declared.dotted.Prefix.{Prefix}
use Rattle.std.specs.List.{slice_split}
use Rattle.addresses.specs.Marks.{dot, slash, front, behind}
use Rattle.addresses.specs.Numbers.{and_then, digits_from, unfit, number_read}
use Rattle.addresses.specs.Dotted.{bytes_read, address_read, prefix_read}
use Rattle.addresses.specs.Written.{address_text, prefix_text, TextsGiveBack}
use Rattle.addresses.proofs.Cutting.{others, pieces_are}
use Rattle.addresses.proofs.Parts.{part-first, part_more, part_last}

-- the number that digits are after a number
abbrev read_on : ℕ → List ℕ → ℕ
read_on n [] = n
read_on n (c ∷ cs) = read_on (n * 10 + (c - 48)) cs

own : IsNumeralModel (λ ds. all_ascii_digits ds ≡ true) (read_on 0)
own = numerals_by_fold _ (search rules) read_on (search rules)

-- digits only make a number greater
grows : (n : ℕ) (t : List ℕ) → n ≤ read_on n t
grows n [] = omega arith
grows n (c ∷ cs) = omega (arith, grows (n * 10 + (c - 48)) cs)

-- digits up to the limit are read
digits_read : (limit n : ℕ) (t : List ℕ) → all_ascii_digits t ≡ true → read_on n t ≤ limit → digits_from limit n t ≡ Some (read_on n t)
digits_read limit n [] all fits = refl
digits_read limit n (c ∷ cs) all fits =
    let test : (is_ascii_digit c && leb (n * 10 + (c - 48)) limit) ≡ true = grind (arith, nat_tests, grows (n * 10 + (c - 48)) cs) in
    ap (λ b. and_then (cond b (Some (n * 10 + (c - 48))) None) (λ m. digits_from limit m cs)) test ∙ digits_read limit (n * 10 + (c - 48)) cs (grind (arith, nat_tests)) fits

-- what was read is digits up to the limit
pub record Read (limit n m : ℕ) (t : List ℕ) : Type 0 where
  pub all : all_ascii_digits t ≡ true
  pub is : read_on n t ≡ m
  pub fits : m ≤ limit

digits_are : (limit n m : ℕ) (t : List ℕ) → n ≤ limit → digits_from limit n t ≡ Some m → Read limit n m t
digits_are limit n m [] low is = let e : n ≡ m = cc in record { all = refl; is = e; fits = omega arith }
digits_are limit n m (c ∷ cs) low is =
    by (is_ascii_digit c) (leb (n * 10 + (c - 48)) limit) refl refl (λ fits same. digits_are limit (n * 10 + (c - 48)) m cs fits same) is
  where
    by : (a b : Bool) → is_ascii_digit c ≡ a → leb (n * 10 + (c - 48)) limit ≡ b → (n * 10 + (c - 48) ≤ limit → digits_from limit (n * 10 + (c - 48)) cs ≡ Some m → Read limit (n * 10 + (c - 48)) m cs) → and_then (cond (a && b) (Some (n * 10 + (c - 48))) None) (λ k. digits_from limit k cs) ≡ Some m → Read limit n m (c ∷ cs)
    by true true e f further same =
        let rest = further (grind (arith, nat_tests)) same in
        record { all = (λ i. e i && rest.all i); is = rest.is; fits = rest.fits }
    by true false e f further same = absurd (let z : ◌≡◌ {A = ℕ} 0 1 = cc in omega arith)
    by false b e f further same = absurd (let z : ◌≡◌ {A = ℕ} 0 1 = cc in omega arith)

-- a text that begins with no zero is fit
plain : (t : List ℕ) → 0 < length t → 48 < get_or t 0 0 → unfit t ≡ false
plain t some first = grind (arith, nat_tests)

number_back_lem : (limit n : ℕ) → n ≤ limit → n < 2 ^ 64 → number_read limit (decimal n) ≡ Some n
unfolding number_read
number_back_lem limit n low small =
    ap (λ b. cond b None (digits_from limit 0 (decimal n))) (fit n small)
    ∙ digits_read limit 0 (decimal n) (digits_decimal own n small) (omega (arith, digits_value-decimal own n small))
    ∙ ap Some (digits_value-decimal own n small)
  where
    fit : (n : ℕ) → n < 2 ^ 64 → unfit (decimal n) ≡ false
    fit zero small = ap unfit (decimal_digit 0 (omega arith))
    fit (suc n) small = plain (decimal (suc n)) (decimal_nonempty (suc n) small) (first_decimal (suc n) (omega arith) small)

number_is : (limit n : ℕ) (t : List ℕ) → limit < 2 ^ 64 → number_read limit t ≡ Some n → (t ≡ decimal n) × (n ≤ limit)
unfolding number_read
number_is limit n t small is = by (unfit t) refl is
  where
    by : (b : Bool) → unfit t ≡ b → cond b None (digits_from limit 0 t) ≡ Some n → (t ≡ decimal n) × (n ≤ limit)
    by true e same = absurd (let z : ◌≡◌ {A = ℕ} 0 1 = cc in omega arith)
    by false e same =
        let read = digits_are limit 0 n t (omega arith) same in
        (sym (decimal-digits_value own t read.all (grind (arith, nat_tests)) (λ zero. grind (arith, nat_tests)) (omega (arith, read.is, read.fits))) ∙ ap decimal read.is, read.fits)

-- no byte of a text is a mark
abbrev Unmarked : (ℕ → Bool) → List ℕ → Type 0
Unmarked m [] = Unit {0}
Unmarked m (b ∷ bs) = (m b ≡ false) × Unmarked m bs

unmarked_front : (m : ℕ → Bool) (t : List ℕ) → Unmarked m t → front m t ≡ t
unmarked_front m [] clear = refl
unmarked_front m (b ∷ bs) clear = (λ i. cond (clear.0 i) [] (b ∷ unmarked_front m bs clear.1 i))

unmarked_behind : (m : ℕ → Bool) (t : List ℕ) → Unmarked m t → behind m t ≡ None
unmarked_behind m [] clear = refl
unmarked_behind m (b ∷ bs) clear = (λ i. cond (clear.0 i) (Some bs) (unmarked_behind m bs clear.1 i))

-- what stands before and behind the first mark
front_at : (m : ℕ → Bool) (t : List ℕ) (x : ℕ) (r : List ℕ) → Unmarked m t → m x ≡ true → front m (t ++ x ∷ r) ≡ t
front_at m [] x r clear here = ap (λ q. cond q [] (x ∷ front m r)) here
front_at m (b ∷ bs) x r clear here = (λ i. cond (clear.0 i) [] (b ∷ front_at m bs x r clear.1 here i))

behind-at : (m : ℕ → Bool) (t : List ℕ) (x : ℕ) (r : List ℕ) → Unmarked m t → m x ≡ true → behind m (t ++ x ∷ r) ≡ Some r
behind-at m [] x r clear here = ap (λ q. cond q (Some r) (behind m r)) here
behind-at m (b ∷ bs) x r clear here = (λ i. cond (clear.0 i) (Some (bs ++ x ∷ r)) (behind-at m bs x r clear.1 here i))

unmarked_more : (m : ℕ → Bool) (t : List ℕ) (x : ℕ) (r : List ℕ) → Unmarked m t → m x ≡ false → Unmarked m r → Unmarked m (t ++ x ∷ r)
unmarked_more m [] x r clear other rest = (other, rest)
unmarked_more m (b ∷ bs) x r clear other rest = (clear.0, unmarked_more m bs x r clear.1 other rest)

-- digits are no marks
digits_dots : (t : List ℕ) → all_ascii_digits t ≡ true → Unmarked dot t
digits_dots [] all = tt
digits_dots (c ∷ cs) all = (grind (arith, nat_tests), digits_dots cs (grind (arith, nat_tests)))

digits_slashes : (t : List ℕ) → all_ascii_digits t ≡ true → Unmarked slash t
digits_slashes [] all = tt
digits_slashes (c ∷ cs) all = (grind (arith, nat_tests), digits_slashes cs (grind (arith, nat_tests)))

decimal_dots : (n : ℕ) → n < 256 → Unmarked dot (decimal n)
decimal_dots n small = digits_dots (decimal n) (digits_decimal own n (omega arith))

decimal_slashes : (n : ℕ) → n < 256 → Unmarked slash (decimal n)
decimal_slashes n small = digits_slashes (decimal n) (digits_decimal own n (omega arith))

-- one byte and a dot are read, and then what follows
byte_then : (k n b : ℕ) (r : List ℕ) → b < 256 → bytes_read (suc k) n (slice_split dot (decimal b ++ 46 ∷ r)) ≡ bytes_read k (n * 256 + b) (slice_split dot r)
byte_then k n b r small =
    part_more n (decimal b ++ 46 ∷ r) k b r (ap (number_read 255) (front_at dot (decimal b) 46 r (decimal_dots b small) refl) ∙ number_back_lem 255 b (omega arith) (omega arith)) (behind-at dot (decimal b) 46 r (decimal_dots b small) refl)

byte_last : (n b : ℕ) → b < 256 → bytes_read 1 n (slice_split dot (decimal b)) ≡ Some (n * 256 + b)
byte_last n b small =
    part_last n (decimal b) b (ap (number_read 255) (unmarked_front dot (decimal b) (decimal_dots b small)) ∙ number_back_lem 255 b (omega arith) (omega arith)) (unmarked_behind dot (decimal b) (decimal_dots b small))

joined : (n a b c r0 r1 r2 r3 : ℕ) → r3 ≡ c → c * 256 + r2 ≡ b → b * 256 + r1 ≡ a → a * 256 + r0 ≡ n → (((0 * 256 + r3) * 256 + r2) * 256 + r1) * 256 + r0 ≡ n
joined n a b c r0 r1 r2 r3 e3 e2 e1 e0 = omega arith

address_back_lem : (a : ℕ) → a < 2 ^ 32 → address_read (address_text a) ≡ Some a
unfolding address_read
address_back_lem a small =
    byte_then 3 0 (a / 16777216) _ (omega arith)
    ∙ byte_then 2 (0 * 256 + a / 16777216) (a / 65536 % 256) _ (omega arith)
    ∙ byte_then 1 ((0 * 256 + a / 16777216) * 256 + a / 65536 % 256) (a / 256 % 256) _ (omega arith)
    ∙ byte_last (((0 * 256 + a / 16777216) * 256 + a / 65536 % 256) * 256 + a / 256 % 256) (a % 256) (omega arith)
    ∙ ap Some (joined a (a / 256) (a / 65536) (a / 16777216) (a % 256) (a / 256 % 256) (a / 65536 % 256) (a / 16777216) refl (ap (λ q. q * 256 + a / 65536 % 256) (sym (shr-shr a 16 8)) ∙ div-add-mod' (a / 65536) 256) (ap (λ q. q * 256 + a / 256 % 256) (sym (shr-shr a 8 8)) ∙ div-add-mod' (a / 256) 256) (div-add-mod' a 256))

-- a text is its front, the mark, and what stands behind
rejoined : (m : ℕ → Bool) (x : ℕ) → ((b : ℕ) → m b ≡ eqb b x) → (t u : List ℕ) → behind m t ≡ Some u → t ≡ front m t ++ x ∷ u
rejoined m x same [] u is = absurd (let z : ◌≡◌ {A = ℕ} 0 1 = cc in omega arith)
rejoined m x same (b ∷ bs) u is = by (m b) refl (λ e. rejoined m x same bs u e) is
  where
    by : (c : Bool) → m b ≡ c → (behind m bs ≡ Some u → bs ≡ front m bs ++ x ∷ u) → cond c (Some bs) (behind m bs) ≡ Some u → b ∷ bs ≡ cond c [] (b ∷ front m bs) ++ x ∷ u
    by true e rest found =
        let here : b ≡ x = let q : eqb b x ≡ true = sym (same b) ∙ e in grind (arith, nat_tests) in
        let after : bs ≡ u = cc in
        (λ i. here i ∷ after i)
    by false e rest found = ap (λ l. b ∷ l) (rest found)

-- a text with no mark is its front
alone : (m : ℕ → Bool) (t : List ℕ) → behind m t ≡ None → front m t ≡ t
alone m [] none = refl
alone m (b ∷ bs) none = by (m b) (λ e. alone m bs e) none
  where
    by : (c : Bool) → (behind m bs ≡ None → front m bs ≡ bs) → cond c (Some bs) (behind m bs) ≡ None → cond c [] (b ∷ front m bs) ≡ b ∷ bs
    by true rest found = absurd (let z : ◌≡◌ {A = ℕ} 0 1 = cc in omega arith)
    by false rest found = ap (λ l. b ∷ l) (rest found)

-- a byte that was read, and what was read after it
pub record Byte (k n a : ℕ) (t : List ℕ) : Type 0 where
  pub byte : ℕ
  pub rest : List ℕ
  pub small : byte < 256
  pub text : t ≡ decimal byte ++ 46 ∷ rest
  pub then : bytes_read (suc k) (n * 256 + byte) (slice_split dot rest) ≡ Some a

byte_was : (k n a : ℕ) (t : List ℕ) → bytes_read (suc (suc k)) n (slice_split dot t) ≡ Some a → Byte k n a t
byte_was k n a t is = by (number_read 255 (front dot t)) (behind dot t) refl refl (sym (part-first n t (suc k)) ∙ is)
  where
    by : (o : Option ℕ) (p : Option (List ℕ)) → number_read 255 (front dot t) ≡ o → behind dot t ≡ p → and_then o (λ b. bytes_read (suc k) (n * 256 + b) (others dot p)) ≡ Some a → Byte k n a t
    by None p e f same = absurd (let z : ◌≡◌ {A = ℕ} 0 1 = cc in omega arith)
    by (Some b) None e f same = absurd (let z : ◌≡◌ {A = ℕ} 0 1 = cc in omega arith)
    by (Some b) (Some u) e f same =
        let read = number_is 255 b (front dot t) (omega arith) e in
        record { byte = b; rest = u; small = omega (arith, read.1); text = rejoined dot 46 (λ c. refl) t u f ∙ ap (λ l. l ++ 46 ∷ u) read.0; then = same }

pub record Last (n a : ℕ) (t : List ℕ) : Type 0 where
  pub byte : ℕ
  pub small : byte < 256
  pub text : t ≡ decimal byte
  pub is : n * 256 + byte ≡ a

last_was : (n a : ℕ) (t : List ℕ) → bytes_read 1 n (slice_split dot t) ≡ Some a → Last n a t
last_was n a t is = by (number_read 255 (front dot t)) (behind dot t) refl refl (sym (part-first n t 0) ∙ is)
  where
    by : (o : Option ℕ) (p : Option (List ℕ)) → number_read 255 (front dot t) ≡ o → behind dot t ≡ p → and_then o (λ b. bytes_read 0 (n * 256 + b) (others dot p)) ≡ Some a → Last n a t
    by None p e f same = absurd (let z : ◌≡◌ {A = ℕ} 0 1 = cc in omega arith)
    by (Some b) None e f same =
        let read = number_is 255 b (front dot t) (omega arith) e in
        let sum : n * 256 + b ≡ a = cc in
        record { byte = b; small = omega (arith, read.1); text = sym (alone dot t f) ∙ read.0; is = sum }
    by (Some b) (Some u) e f same =
        absurd (let z : ◌≡◌ {A = ℕ} 0 1 = let w : bytes_read 0 (n * 256 + b) (slice_split dot u) ≡ None = ap (bytes_read 0 (n * 256 + b)) (pieces_are dot u) in cc in omega arith)

-- four bytes and the number that they are
bytes_of : (a x y z w : ℕ) → x < 256 → y < 256 → z < 256 → w < 256 → (((0 * 256 + x) * 256 + y) * 256 + z) * 256 + w ≡ a → (x ≡ a / 16777216) × (y ≡ a / 65536 % 256) × (z ≡ a / 256 % 256) × (w ≡ a % 256) × (a < 2 ^ 32)
bytes_of a x y z w sx sy sz sw is = (omega arith, omega arith, omega arith, omega arith, omega arith)

address_is : (a : ℕ) (t : List ℕ) → address_read t ≡ Some a → (t ≡ address_text a) × (a < 2 ^ 32)
unfolding address_read
address_is a t read =
    let p = byte_was 2 0 a t read in
    let q = byte_was 1 (0 * 256 + p.byte) a p.rest p.then in
    let r = byte_was 0 ((0 * 256 + p.byte) * 256 + q.byte) a q.rest q.then in
    let s = last_was (((0 * 256 + p.byte) * 256 + q.byte) * 256 + r.byte) a r.rest r.then in
    let are = bytes_of a p.byte q.byte r.byte s.byte p.small q.small r.small s.small s.is in (
      p.text
          ∙ (λ i. decimal (are.0 i) ++ 46 ∷ q.text i)
          ∙ (λ i. decimal (a / 16777216) ++ 46 ∷ (decimal (are.1 i) ++ 46 ∷ r.text i))
          ∙ (λ i. decimal (a / 16777216) ++ 46 ∷ (decimal (a / 65536 % 256) ++ 46 ∷ (decimal (are.2 i) ++ 46 ∷ s.text i)))
          ∙ (λ i. decimal (a / 16777216) ++ 46 ∷ (decimal (a / 65536 % 256) ++ 46 ∷ (decimal (a / 256 % 256) ++ 46 ∷ decimal (are.3 i)))),
      are.4,
    )

-- an address has no slash
address_slashes : (a : ℕ) → a < 2 ^ 32 → Unmarked slash (address_text a)
address_slashes a small =
    unmarked_more slash (decimal (a / 16777216)) 46 _ (decimal_slashes (a / 16777216) (omega arith)) refl (
    unmarked_more slash (decimal (a / 65536 % 256)) 46 _ (decimal_slashes (a / 65536 % 256) (omega arith)) refl (
    unmarked_more slash (decimal (a / 256 % 256)) 46 _ (decimal_slashes (a / 256 % 256) (omega arith)) refl (
    decimal_slashes (a % 256) (omega arith))))

prefix_back : (p : Prefix) → p.address < 2 ^ 32 → p.bits ≤ 32 → prefix_read (prefix_text p) ≡ Some p
unfolding prefix_read
prefix_back p small few =
    let before : front slash (prefix_text p) ≡ address_text p.address = front_at slash (address_text p.address) 47 (decimal p.bits) (address_slashes p.address small) refl in
    let after : behind slash (prefix_text p) ≡ Some (decimal p.bits) = behind-at slash (address_text p.address) 47 (decimal p.bits) (address_slashes p.address small) refl in
    let read : address_read (front slash (prefix_text p)) ≡ Some p.address = ap address_read before ∙ address_back_lem p.address small in
    let bits : number_read 32 (decimal p.bits) ≡ Some p.bits = number_back_lem 32 p.bits few (omega arith) in
    (λ i. and_then (after i) (λ rest. and_then (read i) (λ a. and_then (number_read 32 rest) (λ n. Some (record { address = a; bits = n })))))
    ∙ (λ i. and_then (bits i) (λ n. Some (record { address = p.address; bits = n })))

prefix_is_lem : (p : Prefix) (t : List ℕ) → prefix_read t ≡ Some p → (t ≡ prefix_text p) × (p.address < 2 ^ 32) × (p.bits ≤ 32)
unfolding prefix_read
prefix_is_lem p t read = by (behind slash t) (address_read (front slash t)) refl refl read
  where
    then : (rest : List ℕ) (a : ℕ) (o : Option ℕ) → behind slash t ≡ Some rest → address_read (front slash t) ≡ Some a → number_read 32 rest ≡ o → and_then o (λ n. Some (record { address = a; bits = n })) ≡ Some p → (t ≡ prefix_text p) × (p.address < 2 ^ 32) × (p.bits ≤ 32)
    then rest a None e f g same = absurd (let z : ◌≡◌ {A = ℕ} 0 1 = cc in omega arith)
    then rest a (Some n) e f g same =
        let address : a ≡ p.address = cc in
        let bits : n ≡ p.bits = cc in
        let first = address_is a (front slash t) f in
        let second = number_is 32 n rest (omega arith) g in (
          rejoined slash 47 (λ c. refl) t rest e ∙ (λ i. first.0 i ++ 47 ∷ second.0 i) ∙ (λ i. address_text (address i) ++ 47 ∷ decimal (bits i)),
          omega (arith, first.1),
          omega (arith, second.1),
        )

    by : (o : Option (List ℕ)) (q : Option ℕ) → behind slash t ≡ o → address_read (front slash t) ≡ q → and_then o (λ rest. and_then q (λ a. and_then (number_read 32 rest) (λ n. Some (record { address = a; bits = n })))) ≡ Some p → (t ≡ prefix_text p) × (p.address < 2 ^ 32) × (p.bits ≤ 32)
    by None q e f same = absurd (let z : ◌≡◌ {A = ℕ} 0 1 = cc in omega arith)
    by (Some rest) None e f same = absurd (let z : ◌≡◌ {A = ℕ} 0 1 = cc in omega arith)
    by (Some rest) (Some a) e f same = then rest a (number_read 32 rest) e f refl same

pub texts_back : TextsGiveBack
texts_back =
    record {
      number_back = number_back_lem;
      number_is = number_is;
      address_back = address_back_lem;
      address_is = address_is;
      prefix_back = prefix_back;
      prefix_is = prefix_is_lem;
    }
