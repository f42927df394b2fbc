-- Reading what was written gives it back. Assumes nothing.
use Rattle.std.proofs.Common.{◌≡◌, ℕ, zero, suc, ◌+◌, ◌-◌, ◌*◌, ◌/◌, ◌%◌, ◌^◌, ◌<◌, ◌≤◌, true, false, cond, not, ◌&&◌, eqb, ◌⊎◌, List, [], ◌∷◌, ◌++◌, length, get_or, take, drop, set, replicate, Some, None, Ok, Err, Option, Result, sym, refl, ap, ◌∙◌, inl, inr, append_assoc, append-nil, add-one, arith}
use Rattle.std.proofs.lemmas.Nat.{shr-shr, div-add-mod'}
use Rattle.std.proofs.lemmas.List.{length-append, length-take-le, take_at, drop_at, drop-drop, set_at, take_more, get_or_append_left, get_or-take}
use Rattle.std.proofs.lemmas.Bool.Decides.{nat_tests, eqb_tells}
use Rattle.std.specs.Option.{option_map}
use Rattle.protocol.specs.Limits.{gates_limit, window_size, life_least, life_limit, most_least, most_limit}
use Rattle.settings.specs.declared.faults.Cause.{Cause}
use Rattle.settings.specs.declared.faults.Cause.TheVariants.{Wrong, Repeats}
use Rattle.settings.specs.declared.faults.Fault.{Fault}
use Rattle.settings.specs.declared.faults.Field.TheVariants as field
use Rattle.settings.specs.declared.plans.Key.{Key}
use Rattle.settings.specs.declared.plans.Settings.{Settings}
use Rattle.settings.specs.declared.ranges.Range.{Range}
use Rattle.settings.specs.Faults.{header_fault, entry_fault, and_then}
use Rattle.settings.specs.Fields.{number_from, part, number_at, bytes_in, number_in, between, checked}
use Rattle.settings.specs.Layout.{version_at, gates_at, own_at, life_at, most_at, window_at, first_at, last_at, outside_at, entry_at}
use Rattle.settings.specs.Ranges.{blank_range, range_at, is_prefix, same_range, same_below}
use Rattle.settings.specs.Plans.{blank_key, range_cause, key_at, outside_of}
use Rattle.settings.specs.Reading.{header_field, header_read, address_field, all_zero, key_checked, range_unless, range_read, entry_read, entries_read, settings_read}
use Rattle.settings.specs.Sound.{filled, SoundPlan, Sound, ReadsBack}
use Rattle.settings.specs.Writing.{two, four, header_bytes, place_bytes, entry_bytes, entries_bytes, bytes_of}
use Rattle.settings.proofs.Below.{none_same}
use Rattle.settings.proofs.Numbers.{number_there, bytes_there}
use Rattle.settings.proofs.Prefixes.{prefix_decides}
use Rattle.settings.proofs.Steps.{after-ok}

number-two : (n : ℕ) → n < 65536 → number_from 0 (two n []) ≡ n
number-two n small = omega arith

joined : (n a b c r0 r1 r2 r3 : ℕ) → r3 ≡ c → c * 256 + r2 ≡ b → b * 256 + r1 ≡ a → a * 256 + r0 ≡ n → (((0 * 256 + r3) * 256 + r2) * 256 + r1) * 256 + r0 ≡ n
joined n a b c r0 r1 r2 r3 e3 e2 e1 e0 = omega arith

number-four : (n : ℕ) → n < 2 ^ 32 → number_from 0 (four n []) ≡ n
number-four n small =
    joined n (n / 256) (n / 65536) (n / 16777216) (n % 256) (n / 256 % 256) (n / 65536 % 256) (n / 16777216 % 256)
    (omega arith)
    (ap (λ q. q * 256 + n / 65536 % 256) (sym (shr-shr n 16 8)) ∙ div-add-mod' (n / 65536) 256)
    (ap (λ q. q * 256 + n / 256 % 256) (sym (shr-shr n 8 8)) ∙ div-add-mod' (n / 256) 256)
    (div-add-mod' n 256)

-- a number that is there and in its range is taken
checked-ok : (fault : Cause → Fault) (bs : List ℕ) (at size least limit n : ℕ) → at + size ≤ length bs → number_at bs at size ≡ n → least ≤ n → n ≤ limit → Ok n ≡ checked fault least limit (number_in bs at size)
checked-ok fault bs at size least limit n there is low high =
    let found : number_in bs at size ≡ Some n = number_there bs at size there ∙ ap Some is in
    let test : between least limit n ≡ true = grind (arith, nat_tests) in
    sym (ap (checked fault least limit) found ∙ ap (λ b. cond {A = Result ℕ Fault} b (Ok n) (Err (fault Wrong))) test)

-- what stands before the entries is read back
header_back : (s : Settings) (rest : List ℕ) → Sound s → Ok (record { gates = s.plan.gates; own = s.own; life = s.plan.life; most = s.plan.most }) ≡ header_read (header_bytes s ++ rest)
unfolding header_read
header_back s rest ok =
    let bs : List ℕ = header_bytes s ++ rest in
    let p = ok.planned in
    let version : Ok 1 ≡ header_field bs field.Version version_at 1 1 1 = checked-ok (header_fault field.Version) bs 0 1 1 1 1 (omega arith) refl (omega arith) (omega arith) in
    let gates : Ok s.plan.gates ≡ header_field bs field.Gates gates_at 1 1 gates_limit = checked-ok (header_fault field.Gates) bs 1 1 1 32 s.plan.gates (omega arith) (omega arith) (omega (arith, ok.numbered)) (omega (arith, p.table.few)) in
    let own : Ok s.own ≡ header_field bs field.Own own_at 1 0 (s.plan.gates - 1) = checked-ok (header_fault field.Own) bs 2 1 0 (s.plan.gates - 1) s.own (omega arith) (omega arith) (omega arith) (omega (arith, ok.numbered)) in
    let life : Ok s.plan.life ≡ header_field bs field.Life life_at 2 life_least life_limit = checked-ok (header_fault field.Life) bs 3 2 1 3600 s.plan.life (omega arith) (number-two s.plan.life (omega (arith, p.life_high))) p.life_low p.life_high in
    let most : Ok s.plan.most ≡ header_field bs field.Most most_at 4 most_least most_limit = checked-ok (header_fault field.Most) bs 5 4 17 4294967295 s.plan.most (omega arith) (number-four s.plan.most (omega (arith, p.most_high))) p.most_low p.most_high in
    let window : Ok 2048 ≡ header_field bs field.Window window_at 2 window_size window_size = checked-ok (header_fault field.Window) bs 9 2 2048 2048 2048 (omega arith) refl (omega arith) (omega arith) in
    sym (after-ok _ version ∙ after-ok _ gates ∙ after-ok _ own ∙ after-ok _ life ∙ after-ok _ most ∙ after-ok _ window)

-- so many bytes behind a front
part_at : (front x : List ℕ) (n at size : ℕ) → length front ≡ n → part (front ++ x) (n + at) size ≡ take size (drop at x)
part_at front x n at size long = ap (take size) (sym (drop-drop at n (front ++ x)) ∙ ap (drop at) (drop_at front x n long))

-- one place more of a list is filled
filled_more : {A : Type 0} (i : ℕ) (blank : A) (xs : List A) → i < 32 → length xs ≡ 32 → set (filled i blank xs) i (get_or xs i blank) ≡ filled (i + 1) blank xs
filled_more i blank xs less long =
    let left : 32 - i ≡ suc (32 - (i + 1)) = omega arith in
    let within : i < length xs = omega arith in
    ap (λ n. set (take i xs ++ replicate n blank) i (get_or xs i blank)) left
    ∙ set_at (take i xs) blank (replicate (32 - (i + 1)) blank) (get_or xs i blank) i (length-take-le i xs (omega arith))
    ∙ sym (ap (λ l. l ++ replicate (32 - (i + 1)) blank) (take_more xs i blank within) ∙ append_assoc (take i xs) (get_or xs i blank ∷ []) (replicate (32 - (i + 1)) blank))

-- the places that are filled are those of the list
filled_at : {A : Type 0} (i j : ℕ) (blank : A) (xs : List A) → j < i → i ≤ length xs → get_or (filled i blank xs) j blank ≡ get_or xs j blank
filled_at i j blank xs less within =
    let long : length (take i xs) ≡ i = length-take-le i xs within in
    get_or_append_left (take i xs) (replicate (32 - i) blank) blank j (omega arith) ∙ get_or-take i xs j blank less

-- an entry behind a front of n bytes
module _ (front key rest : List ℕ) (r : Range) (o n : ℕ) (long : length front ≡ n) (size : length key ≡ 32) where
  abbrev behind : List ℕ
  behind = key ++ (place_bytes r o ++ rest)

  abbrev all-bytes : List ℕ
  all-bytes = front ++ behind

  enough : n + 44 ≤ length all-bytes
  enough = omega (arith, length-append front behind, length-append key (place_bytes r o ++ rest))

  key-read : bytes_in all-bytes n 32 ≡ Some key
  key-read =
      bytes_there all-bytes n 32 (omega (arith, enough))
      ∙ ap (λ l. Some (take 32 l)) (drop_at front behind n long)
      ∙ ap Some (take_at key (place_bytes r o ++ rest) 32 size)

  behind_key : drop 32 behind ≡ place_bytes r o ++ rest
  behind_key = drop_at key (place_bytes r o ++ rest) 32 size

  first_read : r.first < 2 ^ 32 → number_at all-bytes (n + 32) 4 ≡ r.first
  first_read small = ap (number_from 0) (part_at front behind n 32 4 long ∙ ap (take 4) behind_key) ∙ number-four r.first small

  last_read : r.last < 2 ^ 32 → number_at all-bytes (n + 36) 4 ≡ r.last
  last_read small = ap (number_from 0) (part_at front behind n 36 4 long ∙ ap (take 4) (sym (drop-drop 4 32 behind) ∙ ap (drop 4) behind_key)) ∙ number-four r.last small

  outside-read : o < 2 ^ 32 → number_at all-bytes (n + 40) 4 ≡ o
  outside-read small = ap (number_from 0) (part_at front behind n 40 4 long ∙ ap (take 4) (sym (drop-drop 8 32 behind) ∙ ap (drop 8) behind_key)) ∙ number-four o small

-- a key that is zeros in the gate's own entry is taken
key-ok : (own gate : ℕ) (k : Key) (o : Option (List ℕ)) → o ≡ Some k.bytes → (gate ≡ own → all_zero k.bytes ≡ true) → Ok k ≡ key_checked own gate o
key-ok own gate k o found zeros =
    let test : (eqb gate own && not (all_zero k.bytes)) ≡ false = by (eqb_tells gate own) in
    sym (ap (key_checked own gate) found ∙ ap (λ b. cond {A = Result Key Fault} b (Err (entry_fault field.Key gate Wrong)) (Ok k)) test)
  where
    by : ((eqb gate own ≡ true) × (gate ≡ own)) ⊎ ((eqb gate own ≡ false) × (gate ≡ own → ⊥)) → (eqb gate own && not (all_zero k.bytes)) ≡ false
    by (inl e) = λ j. e.0 j && not (zeros e.1 j)
    by (inr e) = λ j. e.0 j && not (all_zero k.bytes)

module _ (s : Settings) (ok : Sound s) where
  -- the settings with the entries of the gates below a number
  abbrev built : ℕ → Settings
  built n =
      record { own = s.own; plan = record { life = s.plan.life; most = s.plan.most; gates = n; ranges = filled n blank_range s.plan.ranges; outside = filled n 0 s.plan.outside }; keys = filled n blank_key s.keys }

  few : s.plan.gates ≤ 32
  few = ok.planned.table.few

  -- an entry is 44 bytes long
  entry_long : (i : ℕ) → i < s.plan.gates → length (entry_bytes s i) ≡ 44
  entry_long i less =
      length-append (key_at s i).bytes (place_bytes (range_at s.plan.ranges i) (outside_of s.plan i)) ∙ ap (λ n. n + 12) (ok.sizes i less)

  entries_long : (n : ℕ) → n ≤ s.plan.gates → length (entries_bytes s n) ≡ 44 * n
  entries_long zero le = refl
  entries_long (suc n) le =
      length-append (entries_bytes s n) (entry_bytes s n) ∙ omega (arith, entries_long n (omega arith), entry_long n (omega arith))

  -- the entry of a gate stands behind those before it
  stands : (i n : ℕ) → i < n → (rest : List ℕ) × (entries_bytes s n ≡ entries_bytes s i ++ (entry_bytes s i ++ rest))
  stands i zero less = absurd (omega arith)
  stands i (suc n) less = by (λ d. stands i n d) (eqb_tells i n)
    where
      by : (i < n → (rest : List ℕ) × (entries_bytes s n ≡ entries_bytes s i ++ (entry_bytes s i ++ rest))) → ((eqb i n ≡ true) × (i ≡ n)) ⊎ ((eqb i n ≡ false) × (i ≡ n → ⊥)) → (rest : List ℕ) × (entries_bytes s (suc n) ≡ entries_bytes s i ++ (entry_bytes s i ++ rest))
      by before' (inl e) = ([], ap (λ k. entries_bytes s k ++ entry_bytes s k) (sym e.1) ∙ ap (λ l. entries_bytes s i ++ l) (sym (append-nil (entry_bytes s i))))
      by before' (inr e) =
          let before = before' (omega (arith, e.1)) in
          (before.0 ++ entry_bytes s n, ap (λ l. l ++ entry_bytes s n) before.1 ∙ append_assoc (entries_bytes s i) (entry_bytes s i ++ before.0) (entry_bytes s n) ∙ ap (λ l. entries_bytes s i ++ l) (append_assoc (entry_bytes s i) before.0 (entry_bytes s n)))

  -- the entry of a gate is added to those before it
  entry_back : (i : ℕ) (bs front rest : List ℕ) → i < s.plan.gates → bs ≡ front ++ (entry_bytes s i ++ rest) → length front ≡ entry_at i → Ok (built (i + 1)) ≡ entry_read bs i (built i)
  unfolding entry_read range_read range_cause
  entry_back i bs front rest less is long =
      let k : Key = key_at s i in
      let r : Range = range_at s.plan.ranges i in
      let o : ℕ = outside_of s.plan i in
      let p : SoundPlan s.plan = ok.planned in
      let rp = p.ranges_padded in
      let size : length k.bytes ≡ 32 = ok.sizes i less in
      let split : bs ≡ all-bytes front k.bytes rest r o (entry_at i) long size = is ∙ ap (λ l. front ++ l) (append_assoc k.bytes (place_bytes r o) rest) in
      let within : entry_at i + 44 ≤ length bs = omega (arith, ap length split, enough front k.bytes rest r o (entry_at i) long size) in
      let keyed : Ok k ≡ key_checked s.own i (bytes_in bs (entry_at i) 32) = key-ok s.own i k _ (ap (λ b. bytes_in b (entry_at i) 32) split ∙ key-read front k.bytes rest r o (entry_at i) long size) (λ e. ap (λ g. all_zero (key_at s g).bytes) e ∙ ok.zeros) in
      let first : Ok r.first ≡ address_field bs field.Range i first_at = checked-ok (entry_fault field.Range i) bs (entry_at i + 32) 4 0 4294967295 r.first (omega arith) (ap (λ b. number_at b (entry_at i + 32) 4) split ∙ first_read front k.bytes rest r o (entry_at i) long size (p.firsts i less)) (omega arith) (omega (arith, p.firsts i less)) in
      let last : Ok r.last ≡ address_field bs field.Range i last_at = checked-ok (entry_fault field.Range i) bs (entry_at i + 36) 4 0 4294967295 r.last (omega arith) (ap (λ b. number_at b (entry_at i + 36) 4) split ∙ last_read front k.bytes rest r o (entry_at i) long size (p.lasts i less)) (omega arith) (omega (arith, p.lasts i less)) in
      let outside : Ok o ≡ address_field bs field.Outside i outside_at = checked-ok (entry_fault field.Outside i) bs (entry_at i + 40) 4 0 4294967295 o (omega arith) (ap (λ b. number_at b (entry_at i + 40) 4) split ∙ outside-read front k.bytes rest r o (entry_at i) long size (p.outsides i less)) (omega arith) (omega (arith, p.outsides i less)) in
      let whole : is_prefix r ≡ true = (prefix_decides r).1 (p.table.prefixes i less) in
      let apart : same_below (filled i blank_range s.plan.ranges) r i ≡ None = none_same _ r i (λ j below. ap (λ q. same_range q r) (filled_at i j blank_range s.plan.ranges below (omega (arith, rp.long, few))) ∙ p.table.apart j i below less) in
      let ranged : Ok r ≡ range_read bs (built i).plan i = sym (after-ok _ first ∙ after-ok _ last ∙ (λ j. range_unless i r (cond {A = Option Cause} (whole j) (option_map Repeats (apart j)) (Some Wrong)))) in
      sym (after-ok _ keyed ∙ after-ok _ ranged ∙ after-ok _ outside ∙ (λ j. Ok (record { own = s.own; plan = record { life = s.plan.life; most = s.plan.most; gates = i + 1; ranges = filled_more i blank_range s.plan.ranges (omega (arith, few)) rp.long j; outside = filled_more i 0 s.plan.outside (omega (arith, few)) p.outside_padded.long j }; keys = filled_more i blank_key s.keys (omega (arith, few)) ok.keys_padded.long j })))

  entries_back : (n : ℕ) → n ≤ s.plan.gates → entries_read (bytes_of s) (built 0) n ≡ Ok (built n)
  unfolding bytes_of
  entries_back zero le = refl
  entries_back (suc n) le =
      let here = stands n s.plan.gates (omega arith) in
      let is : header_bytes s ++ entries_bytes s s.plan.gates ≡ (header_bytes s ++ entries_bytes s n) ++ (entry_bytes s n ++ here.0) = ap (λ l. header_bytes s ++ l) here.1 ∙ sym (append_assoc (header_bytes s) (entries_bytes s n) (entry_bytes s n ++ here.0)) in
      let long : length (header_bytes s ++ entries_bytes s n) ≡ entry_at n = length-append (header_bytes s) (entries_bytes s n) ∙ omega (arith, entries_long n (omega arith)) in
      ap (λ q. and_then q (entry_read (header_bytes s ++ entries_bytes s s.plan.gates) n)) (entries_back n (omega arith))
      ∙ sym (entry_back n (header_bytes s ++ entries_bytes s s.plan.gates) (header_bytes s ++ entries_bytes s n) here.0 (omega arith) is long)
      ∙ ap (λ m. Ok (built m)) (add-one n)

  back : settings_read (bytes_of s) ≡ Ok s
  unfolding settings_read bytes_of
  back =
      let p : SoundPlan s.plan = ok.planned in
      let n : ℕ = s.plan.gates in
      let head = header_back s (entries_bytes s n) ok in
      let long : length (header_bytes s ++ entries_bytes s n) ≡ entry_at n = length-append (header_bytes s) (entries_bytes s n) ∙ omega (arith, entries_long n (omega arith)) in
      let test : eqb (length (header_bytes s ++ entries_bytes s n)) (entry_at n) ≡ true = grind (arith, nat_tests) in
      after-ok _ head
      ∙ after-ok _ (sym (entries_back n (omega arith)))
      ∙ ap (λ b. cond {A = Result Settings Fault} b (Ok (built n)) (Err (header_fault field.End Wrong))) test
      ∙ (λ j. Ok (record { own = s.own; plan = record { life = s.plan.life; most = s.plan.most; gates = n; ranges = p.ranges_padded.rest j; outside = p.outside_padded.rest j }; keys = ok.keys_padded.rest j }))

pub reads_back : ReadsBack
reads_back s ok = back s ok
