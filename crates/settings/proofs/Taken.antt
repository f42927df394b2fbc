-- What was read is allowed, and writing it gives the bytes. Assumes nothing.
use Rattle.std.proofs.Common.{◌≡◌, ℕ, zero, suc, ◌+◌, ◌-◌, ◌*◌, ◌/◌, ◌%◌, ◌<◌, ◌≤◌, Bool, true, false, cond, not, ◌&&◌, eqb, leb, ◌⊎◌, List, [], ◌∷◌, ◌++◌, length, get_or, take, drop, set, Some, None, Ok, Err, Option, Result, sym, refl, ap, ◌∙◌, subst, inl, inr, append_assoc, append-nil, add-one, arith}
use Rattle.std.proofs.lemmas.Nat.{shr-shr}
use Rattle.std.proofs.lemmas.List.{drop-drop, drop_all, length-drop, length-take-le, take-append-drop, get_or-set_same, get_or-set_other}
use Rattle.std.proofs.lemmas.Bool.Decides.{nat_tests, leb_tells, eqb_tells}
use Rattle.std.specs.List.{AllByRecursion}
use Rattle.settings.specs.declared.faults.Cause.{Cause}
use Rattle.settings.specs.declared.faults.Cause.TheVariants.{Wrong, Missing}
use Rattle.settings.specs.declared.faults.Fault.{Fault}
use Rattle.settings.specs.declared.faults.Field.TheVariants as field
use Rattle.settings.specs.declared.plans.Key.{Key}
use Rattle.settings.specs.declared.plans.Plan.{Plan}
use Rattle.settings.specs.declared.plans.Settings.{Settings}
use Rattle.settings.specs.declared.ranges.Range.{Range}
use Rattle.settings.specs.declared.reading.Header.{Header}
use Rattle.settings.specs.Faults.{header_fault, entry_fault, and_then}
use Rattle.settings.specs.Fields.{number_from, part, number_at, bytes_in, number_in, between, checked}
use Rattle.settings.specs.Layout.{first_at, last_at, entry_at}
use Rattle.settings.specs.Ranges.{blank_range}
use Rattle.settings.specs.Plans.{blank_key, empty_settings, settings_with, range_cause, key_at}
use Rattle.settings.specs.Reading.{header_read, address_field, all_zero, key_checked, range_unless, range_read, entry_read, entries_read, settings_read}
use Rattle.settings.specs.Sound.{Padded, SoundPlan, Sound, WritesBack}
use Rattle.settings.specs.Writing.{two, four, header_bytes, place_bytes, entry_bytes, entries_bytes, bytes_of}
use Rattle.settings.proofs.Growing.{empty_sound, padded_more, cause_none, put_each, more_sound}

-- a step that was done after another
then-inv : {A B : Type 0} (r : Result A Fault) (next : A → Result B Fault) (y : B) → and_then r next ≡ Ok y → (x : A) × (r ≡ Ok x) × (next x ≡ Ok y)
then-inv (Ok x) next y e = (x, refl, e)
then-inv (Err f) next y e = absurd (let z : ◌≡◌ {A = ℕ} 0 1 = cc in omega arith)

-- a number that was taken is there and in its range
pub taken : (fault : Cause → Fault) (bs : List ℕ) (at size least limit n : ℕ) → checked fault least limit (number_in bs at size) ≡ Ok n → (at + size ≤ length bs) × (number_at bs at size ≡ n) × (least ≤ n) × (n ≤ limit)
unfolding number_in
taken fault bs at size least limit n e = by (leb_tells (at + size) (length bs)) (between least limit (number_at bs at size)) refl
  where
    by : ((leb (at + size) (length bs) ≡ true) × (at + size ≤ length bs)) ⊎ ((leb (at + size) (length bs) ≡ false) × (length bs < at + size)) → (b : Bool) → between least limit (number_at bs at size) ≡ b → (at + size ≤ length bs) × (number_at bs at size ≡ n) × (least ≤ n) × (n ≤ limit)
    by (inl t) true f =
        let found : checked fault least limit (Some (number_at bs at size)) ≡ Ok n = sym (ap (λ c. checked fault least limit (cond c (Some (number_at bs at size)) None)) t.0) ∙ e in
        let same : ◌≡◌ {A = Result ℕ Fault} (Ok (number_at bs at size)) (Ok n) = sym (ap (λ c. cond {A = Result ℕ Fault} c (Ok (number_at bs at size)) (Err (fault Wrong))) f) ∙ found in
        let is : number_at bs at size ≡ n = cc in
        (t.1, is, grind (arith, nat_tests), grind (arith, nat_tests))
    by (inl t) false f =
        let found : checked fault least limit (Some (number_at bs at size)) ≡ Ok n = sym (ap (λ c. checked fault least limit (cond c (Some (number_at bs at size)) None)) t.0) ∙ e in
        let same : ◌≡◌ {A = Result ℕ Fault} (Err (fault Wrong)) (Ok n) = sym (ap (λ c. cond {A = Result ℕ Fault} c (Ok (number_at bs at size)) (Err (fault Wrong))) f) ∙ found in
        absurd (let z : ◌≡◌ {A = ℕ} 0 1 = cc in omega arith)
    by (inr t) b f =
        let same : ◌≡◌ {A = Result ℕ Fault} (Err (fault Missing)) (Ok n) = sym (ap (λ c. checked fault least limit (cond c (Some (number_at bs at size)) None)) t.0) ∙ e in
        absurd (let z : ◌≡◌ {A = ℕ} 0 1 = cc in omega arith)

-- two and four bytes, from the number that they are
two_is : (a b n : ℕ) (rest : List ℕ) → a < 256 → b < 256 → (0 * 256 + a) * 256 + b ≡ n → two n rest ≡ a ∷ b ∷ rest
two_is a b n rest x y is =
    let p : n / 256 % 256 ≡ a = omega arith in
    let q : n % 256 ≡ b = omega arith in
    λ j. p j ∷ q j ∷ rest

four_is : (a b c d n : ℕ) (rest : List ℕ) → a < 256 → b < 256 → c < 256 → d < 256 → (((0 * 256 + a) * 256 + b) * 256 + c) * 256 + d ≡ n → four n rest ≡ a ∷ b ∷ c ∷ d ∷ rest
four_is a b c d n rest w x y z is =
    let first : n / 256 ≡ ((0 * 256 + a) * 256 + b) * 256 + c = omega arith in
    let second : n / 65536 ≡ (0 * 256 + a) * 256 + b = sym (shr-shr n 8 8) ∙ ap (λ m. m / 256) first ∙ omega arith in
    let third : n / 16777216 ≡ a = sym (shr-shr n 16 8) ∙ ap (λ m. m / 256) second ∙ omega arith in
    let p : n / 16777216 % 256 ≡ a = ap (λ m. m % 256) third ∙ omega arith in
    let q : n / 65536 % 256 ≡ b = ap (λ m. m % 256) second ∙ omega arith in
    let r : n / 256 % 256 ≡ c = ap (λ m. m % 256) first ∙ omega arith in
    let s : n % 256 ≡ d = omega arith in
    λ j. p j ∷ q j ∷ r j ∷ s j ∷ rest

-- what stands before the entries, from the numbers that it holds
header_is : (bs : List ℕ) (g o l m : ℕ) → AllByRecursion (λ b. b < 256) bs → 11 ≤ length bs → number_at bs 0 1 ≡ 1 → number_at bs 1 1 ≡ g → number_at bs 2 1 ≡ o → number_at bs 3 2 ≡ l → number_at bs 5 4 ≡ m → number_at bs 9 2 ≡ 2048 → 1 ∷ g ∷ o ∷ two l (four m (two 2048 (drop 11 bs))) ≡ bs
header_is [] g o l m all long = absurd (omega arith)
header_is (a ∷ []) g o l m all long = absurd (omega arith)
header_is (a ∷ b ∷ []) g o l m all long = absurd (omega arith)
header_is (a ∷ b ∷ c ∷ []) g o l m all long = absurd (omega arith)
header_is (a ∷ b ∷ c ∷ d ∷ []) g o l m all long = absurd (omega arith)
header_is (a ∷ b ∷ c ∷ d ∷ e ∷ []) g o l m all long = absurd (omega arith)
header_is (a ∷ b ∷ c ∷ d ∷ e ∷ f ∷ []) g o l m all long = absurd (omega arith)
header_is (a ∷ b ∷ c ∷ d ∷ e ∷ f ∷ h ∷ []) g o l m all long = absurd (omega arith)
header_is (a ∷ b ∷ c ∷ d ∷ e ∷ f ∷ h ∷ i ∷ []) g o l m all long = absurd (omega arith)
header_is (a ∷ b ∷ c ∷ d ∷ e ∷ f ∷ h ∷ i ∷ k ∷ []) g o l m all long = absurd (omega arith)
header_is (a ∷ b ∷ c ∷ d ∷ e ∷ f ∷ h ∷ i ∷ k ∷ n ∷ []) g o l m all long = absurd (omega arith)
header_is (a ∷ b ∷ c ∷ d ∷ e ∷ f ∷ h ∷ i ∷ k ∷ n ∷ p ∷ rest) g o l m all long = λ v gs os ls ms ws.
    let va : 1 ≡ a = omega arith in
    let gb : g ≡ b = omega arith in
    let oc : o ≡ c = omega arith in
    let window : two 2048 rest ≡ n ∷ p ∷ rest = two_is n p 2048 rest (omega (arith, all)) (omega (arith, all)) ws in
    let most : four m (n ∷ p ∷ rest) ≡ f ∷ h ∷ i ∷ k ∷ n ∷ p ∷ rest = four_is f h i k m (n ∷ p ∷ rest) (omega (arith, all)) (omega (arith, all)) (omega (arith, all)) (omega (arith, all)) ms in
    let life : two l (f ∷ h ∷ i ∷ k ∷ n ∷ p ∷ rest) ≡ d ∷ e ∷ f ∷ h ∷ i ∷ k ∷ n ∷ p ∷ rest = two_is d e l (f ∷ h ∷ i ∷ k ∷ n ∷ p ∷ rest) (omega (arith, all)) (omega (arith, all)) ls in
    (λ j. va j ∷ gb j ∷ oc j ∷ two l (four m (window j))) ∙ (λ j. a ∷ b ∷ c ∷ two l (most j)) ∙ (λ j. a ∷ b ∷ c ∷ life j)

-- a range and an address, from the numbers that they are
place_is : (ys : List ℕ) (r : Range) (o : ℕ) → AllByRecursion (λ b. b < 256) ys → 12 ≤ length ys → number_from 0 (take 4 ys) ≡ r.first → number_from 0 (take 4 (drop 4 ys)) ≡ r.last → number_from 0 (take 4 (drop 8 ys)) ≡ o → place_bytes r o ++ drop 12 ys ≡ ys
place_is [] r o all long = absurd (omega arith)
place_is (a ∷ []) r o all long = absurd (omega arith)
place_is (a ∷ b ∷ []) r o all long = absurd (omega arith)
place_is (a ∷ b ∷ c ∷ []) r o all long = absurd (omega arith)
place_is (a ∷ b ∷ c ∷ d ∷ []) r o all long = absurd (omega arith)
place_is (a ∷ b ∷ c ∷ d ∷ e ∷ []) r o all long = absurd (omega arith)
place_is (a ∷ b ∷ c ∷ d ∷ e ∷ f ∷ []) r o all long = absurd (omega arith)
place_is (a ∷ b ∷ c ∷ d ∷ e ∷ f ∷ g ∷ []) r o all long = absurd (omega arith)
place_is (a ∷ b ∷ c ∷ d ∷ e ∷ f ∷ g ∷ h ∷ []) r o all long = absurd (omega arith)
place_is (a ∷ b ∷ c ∷ d ∷ e ∷ f ∷ g ∷ h ∷ i ∷ []) r o all long = absurd (omega arith)
place_is (a ∷ b ∷ c ∷ d ∷ e ∷ f ∷ g ∷ h ∷ i ∷ k ∷ []) r o all long = absurd (omega arith)
place_is (a ∷ b ∷ c ∷ d ∷ e ∷ f ∷ g ∷ h ∷ i ∷ k ∷ l ∷ []) r o all long = absurd (omega arith)
place_is (a ∷ b ∷ c ∷ d ∷ e ∷ f ∷ g ∷ h ∷ i ∷ k ∷ l ∷ m ∷ rest) r o all long = λ fs ls os.
    let out : four o rest ≡ i ∷ k ∷ l ∷ m ∷ rest = four_is i k l m o rest (omega (arith, all)) (omega (arith, all)) (omega (arith, all)) (omega (arith, all)) os in
    let last : four r.last (i ∷ k ∷ l ∷ m ∷ rest) ≡ e ∷ f ∷ g ∷ h ∷ i ∷ k ∷ l ∷ m ∷ rest = four_is e f g h r.last (i ∷ k ∷ l ∷ m ∷ rest) (omega (arith, all)) (omega (arith, all)) (omega (arith, all)) (omega (arith, all)) ls in
    let first : four r.first (e ∷ f ∷ g ∷ h ∷ i ∷ k ∷ l ∷ m ∷ rest) ≡ a ∷ b ∷ c ∷ d ∷ e ∷ f ∷ g ∷ h ∷ i ∷ k ∷ l ∷ m ∷ rest = four_is a b c d r.first (e ∷ f ∷ g ∷ h ∷ i ∷ k ∷ l ∷ m ∷ rest) (omega (arith, all)) (omega (arith, all)) (omega (arith, all)) (omega (arith, all)) fs in
    (λ j. four r.first (four r.last (out j))) ∙ (λ j. four r.first (last j)) ∙ first

all_drop : (n : ℕ) (xs : List ℕ) → AllByRecursion (λ b. b < 256) xs → AllByRecursion (λ b. b < 256) (drop n xs)
all_drop zero xs all = all
all_drop (suc n) [] all = all
all_drop (suc n) (x ∷ xs) all = all_drop n xs all.1

-- an entry, from the key and the numbers in it
entry_is : (bs : List ℕ) (at : ℕ) (k : List ℕ) (r : Range) (o : ℕ) → AllByRecursion (λ b. b < 256) bs → at + 44 ≤ length bs → part bs at 32 ≡ k → number_at bs (at + 32) 4 ≡ r.first → number_at bs (at + 36) 4 ≡ r.last → number_at bs (at + 40) 4 ≡ o → (k ++ place_bytes r o) ++ drop (at + 44) bs ≡ drop at bs
entry_is bs at k r o all long key first last out =
    let xs : List ℕ = drop at bs in
    let ys : List ℕ = drop 32 xs in
    let here : (n : ℕ) → drop n xs ≡ drop (at + n) bs = λ n. drop-drop n at bs in
    let twelve : 12 ≤ length ys = omega (arith, length-drop 32 xs, length-drop at bs) in
    let e1 : number_from 0 (take 4 ys) ≡ r.first = ap (λ l. number_from 0 (take 4 l)) (here 32) ∙ first in
    let e2 : number_from 0 (take 4 (drop 4 ys)) ≡ r.last = ap (λ l. number_from 0 (take 4 l)) (drop-drop 4 32 xs ∙ here 36) ∙ last in
    let e3 : number_from 0 (take 4 (drop 8 ys)) ≡ o = ap (λ l. number_from 0 (take 4 l)) (drop-drop 8 32 xs ∙ here 40) ∙ out in
    let placed : place_bytes r o ++ drop 12 ys ≡ ys = place_is ys r o (all_drop 32 xs (all_drop at bs all)) twelve e1 e2 e3 in
    append_assoc k (place_bytes r o) (drop (at + 44) bs)
    ∙ ap (λ l. k ++ (place_bytes r o ++ l)) (sym (drop-drop 12 32 xs ∙ here 44))
    ∙ (λ j. sym key j ++ placed j)
    ∙ take-append-drop 32 xs

-- what was read before the entries
pub record HeadIs (bs : List ℕ) (h : Header) : Type 0 where
  pub long : 11 ≤ length bs
  pub version : number_at bs 0 1 ≡ 1
  pub gates : number_at bs 1 1 ≡ h.gates
  pub own : number_at bs 2 1 ≡ h.own
  pub life : number_at bs 3 2 ≡ h.life
  pub most : number_at bs 5 4 ≡ h.most
  pub window : number_at bs 9 2 ≡ 2048
  pub some : 1 ≤ h.gates
  pub few : h.gates ≤ 32
  pub below : h.own ≤ h.gates - 1
  pub life_low : 1 ≤ h.life
  pub life_high : h.life ≤ 3600
  pub most_low : 17 ≤ h.most
  pub most_high : h.most ≤ 4294967295

pub head_is : (bs : List ℕ) (h : Header) → header_read bs ≡ Ok h → HeadIs bs h
unfolding header_read
head_is bs h e =
    let v = then-inv _ _ h e in
    let g = then-inv _ _ h v.2 in
    let o = then-inv _ _ h g.2 in
    let l = then-inv _ _ h o.2 in
    let m = then-inv _ _ h l.2 in
    let w = then-inv _ _ h m.2 in
    let made : ◌≡◌ {A = Header} (record { gates = g.0; own = o.0; life = l.0; most = m.0 }) h = cc w.2 in
    let tv = taken (header_fault field.Version) bs 0 1 1 1 v.0 v.1 in
    let tg = taken (header_fault field.Gates) bs 1 1 1 32 g.0 g.1 in
    let to = taken (header_fault field.Own) bs 2 1 0 (g.0 - 1) o.0 o.1 in
    let tl = taken (header_fault field.Life) bs 3 2 1 3600 l.0 l.1 in
    let tm = taken (header_fault field.Most) bs 5 4 17 4294967295 m.0 m.1 in
    let tw = taken (header_fault field.Window) bs 9 2 2048 2048 w.0 w.1 in
    subst (HeadIs bs) made
    (record {
      long = tw.0;
      version = omega (arith, tv.1, tv.2, tv.3);
      gates = tg.1;
      own = to.1;
      life = tl.1;
      most = tm.1;
      window = omega (arith, tw.1, tw.2, tw.3);
      some = tg.2;
      few = tg.3;
      below = to.3;
      life_low = tl.2;
      life_high = tl.3;
      most_low = tm.2;
      most_high = tm.3;
    })

-- the key of an entry that was taken
key-is : (bs : List ℕ) (at own gate : ℕ) (k : Key) → key_checked own gate (bytes_in bs at 32) ≡ Ok k → (at + 32 ≤ length bs) × (part bs at 32 ≡ k.bytes) × (gate ≡ own → all_zero k.bytes ≡ true)
unfolding bytes_in
key-is bs at own gate k e = by (leb_tells (at + 32) (length bs)) (eqb gate own) (all_zero (part bs at 32)) refl refl
  where
    by : ((leb (at + 32) (length bs) ≡ true) × (at + 32 ≤ length bs)) ⊎ ((leb (at + 32) (length bs) ≡ false) × (length bs < at + 32)) → (b z : Bool) → eqb gate own ≡ b → all_zero (part bs at 32) ≡ z → (at + 32 ≤ length bs) × (part bs at 32 ≡ k.bytes) × (gate ≡ own → all_zero k.bytes ≡ true)
    by (inr t) b z f y =
        let same : ◌≡◌ {A = Result Key Fault} (Err (entry_fault field.Key gate Missing)) (Ok k) = sym (ap (λ c. key_checked own gate (cond c (Some (part bs at 32)) None)) t.0) ∙ e in
        absurd (let w : ◌≡◌ {A = ℕ} 0 1 = cc in omega arith)
    by (inl t) true false f y =
        let found : key_checked own gate (Some (part bs at 32)) ≡ Ok k = sym (ap (λ c. key_checked own gate (cond c (Some (part bs at 32)) None)) t.0) ∙ e in
        let same : ◌≡◌ {A = Result Key Fault} (Err (entry_fault field.Key gate Wrong)) (Ok k) = sym (λ j. cond {A = Result Key Fault} (f j && not (y j)) (Err (entry_fault field.Key gate Wrong)) (Ok (record { bytes = part bs at 32 }))) ∙ found in
        absurd (let w : ◌≡◌ {A = ℕ} 0 1 = cc in omega arith)
    by (inl t) true true f y =
        let found : key_checked own gate (Some (part bs at 32)) ≡ Ok k = sym (ap (λ c. key_checked own gate (cond c (Some (part bs at 32)) None)) t.0) ∙ e in
        let same : ◌≡◌ {A = Result Key Fault} (Ok (record { bytes = part bs at 32 })) (Ok k) = sym (λ j. cond {A = Result Key Fault} (f j && not (y j)) (Err (entry_fault field.Key gate Wrong)) (Ok (record { bytes = part bs at 32 }))) ∙ found in
        let is : ◌≡◌ {A = Key} (record { bytes = part bs at 32 }) k = cc in
        (t.1, ap (λ (q : Key). q.bytes) is, λ here. ap (λ (q : Key). all_zero q.bytes) (sym is) ∙ y)
    by (inl t) false z f y =
        let found : key_checked own gate (Some (part bs at 32)) ≡ Ok k = sym (ap (λ c. key_checked own gate (cond c (Some (part bs at 32)) None)) t.0) ∙ e in
        let same : ◌≡◌ {A = Result Key Fault} (Ok (record { bytes = part bs at 32 })) (Ok k) = sym (λ j. cond {A = Result Key Fault} (f j && not (all_zero (part bs at 32))) (Err (entry_fault field.Key gate Wrong)) (Ok (record { bytes = part bs at 32 }))) ∙ found in
        let is : ◌≡◌ {A = Key} (record { bytes = part bs at 32 }) k = cc in
        (t.1, ap (λ (q : Key). q.bytes) is, λ here. absurd (grind (arith, nat_tests)))

-- what was read of an entry
record EntryIs (bs : List ℕ) (at own gate : ℕ) (p : Plan) (k : Key) (r : Range) (o : ℕ) : Type 0 where
  long : at + 44 ≤ length bs
  key : part bs at 32 ≡ k.bytes
  zeros : gate ≡ own → all_zero k.bytes ≡ true
  first : number_at bs (at + 32) 4 ≡ r.first
  last : number_at bs (at + 36) 4 ≡ r.last
  out : number_at bs (at + 40) 4 ≡ o
  first_small : r.first ≤ 4294967295
  last_small : r.last ≤ 4294967295
  out_small : o ≤ 4294967295
  free : range_cause p r ≡ None

unless_is : (gate : ℕ) (q r : Range) (why : Option Cause) → range_unless gate q why ≡ Ok r → (q ≡ r) × (why ≡ None)
unless_is gate q r None e = (cc, refl)
unless_is gate q r (Some c) e = absurd (let z : ◌≡◌ {A = ℕ} 0 1 = cc in omega arith)

-- a range that was read may be added
pub range_free : (bs : List ℕ) (p : Plan) (gate : ℕ) (r : Range) → range_read bs p gate ≡ Ok r → range_cause p r ≡ None
unfolding range_read
range_free bs p gate r e =
    let f = then-inv (address_field bs field.Range gate first_at) (λ x. and_then (address_field bs field.Range gate last_at) (λ l. range_unless gate (record { first = x; last = l }) (range_cause p (record { first = x; last = l })))) r e in
    let l = then-inv (address_field bs field.Range gate last_at) (λ l. range_unless gate (record { first = f.0; last = l }) (range_cause p (record { first = f.0; last = l }))) r f.2 in
    let u = unless_is gate (record { first = f.0; last = l.0 }) r _ l.2 in
    ap (range_cause p) (sym u.0) ∙ u.1

entry_read_lem : (bs : List ℕ) (i : ℕ) (s t : Settings) → entry_read bs i s ≡ Ok t → (k : Key) × (r : Range) × (o : ℕ) × EntryIs bs (entry_at i) s.own i s.plan k r o × (settings_with s k r o ≡ t)
unfolding entry_read range_read
entry_read_lem bs i s t e =
    let k = then-inv _ _ t e in
    let r = then-inv _ _ t k.2 in
    let o = then-inv _ _ t r.2 in
    let f = then-inv _ _ r.0 r.1 in
    let l = then-inv _ _ r.0 f.2 in
    let u = unless_is i (record { first = f.0; last = l.0 }) r.0 _ l.2 in
    let made : settings_with s k.0 r.0 o.0 ≡ t = cc o.2 in
    let keyed = key-is bs (entry_at i) s.own i k.0 k.1 in
    let tf = taken (entry_fault field.Range i) bs (entry_at i + 32) 4 0 4294967295 f.0 f.1 in
    let tl = taken (entry_fault field.Range i) bs (entry_at i + 36) 4 0 4294967295 l.0 l.1 in
    let to = taken (entry_fault field.Outside i) bs (entry_at i + 40) 4 0 4294967295 o.0 o.1 in
    let firsts : f.0 ≡ r.0.first = ap (λ (q : Range). q.first) u.0 in
    let lasts : l.0 ≡ r.0.last = ap (λ (q : Range). q.last) u.0 in (
      k.0,
      r.0,
      o.0,
      record {
        long = omega (arith, to.0);
        key = keyed.1;
        zeros = keyed.2;
        first = tf.1 ∙ firsts;
        last = tl.1 ∙ lasts;
        out = to.1;
        first_small = omega (arith, tf.3, firsts);
        last_small = omega (arith, tl.3, lasts);
        out_small = to.3;
        free = ap (range_cause s.plan) (sym u.0) ∙ u.1;
      },
      made,
    )

-- what holds of settings with the entries so far
record Upto (bs : List ℕ) (t : Settings) : Type 0 where
  sound : SoundPlan t.plan
  zeros : t.own < t.plan.gates → all_zero (key_at t t.own).bytes ≡ true
  sizes : (i : ℕ) → i < t.plan.gates → length (key_at t i).bytes ≡ 32
  padded : Padded t.plan.gates blank_key t.keys
  written : entries_bytes t t.plan.gates ++ drop (entry_at t.plan.gates) bs ≡ drop 11 bs

module _ (bs : List ℕ) (all : AllByRecursion (λ b. b < 256) bs) where
  grown : (u : Settings) (k : Key) (r : Range) (o : ℕ) → Upto bs u → u.plan.gates < 32 → EntryIs bs (entry_at u.plan.gates) u.own u.plan.gates u.plan k r o → Upto bs (settings_with u k r o)
  grown u k r o so room is =
      let m : ℕ = u.plan.gates in
      let inkeys : m < length u.keys = omega (arith, so.padded.long) in
      let inranges : m < length u.plan.ranges = omega (arith, so.sound.ranges_padded.long) in
      let inout : m < length u.plan.outside = omega (arith, so.sound.outside_padded.long) in
      let free = cause_none u.plan r is.free in
      let size : length k.bytes ≡ 32 = ap length (sym is.key) ∙ length-take-le 32 (drop (entry_at m) bs) (omega (arith, is.long, length-drop (entry_at m) bs)) in
      let added : entry_bytes (settings_with u k r o) m ≡ k.bytes ++ place_bytes r o = (λ j. (get_or-set_same u.keys m k blank_key inkeys j).bytes ++ place_bytes (get_or-set_same u.plan.ranges m r blank_range inranges j) (get_or-set_same u.plan.outside m o 0 inout j)) in
      let next : entry_at (m + 1) ≡ entry_at m + 44 = omega arith in
      let entry : (k.bytes ++ place_bytes r o) ++ drop (entry_at m + 44) bs ≡ drop (entry_at m) bs = entry_is bs (entry_at m) k.bytes r o all is.long is.key is.first is.last is.out in
      record {
        sound = more_sound u.plan r o so.sound room free.0 free.1 (omega (arith, is.first_small)) (omega (arith, is.last_small)) (omega (arith, is.out_small));
        zeros = λ less. zero less (eqb_tells u.own m);
        sizes = λ i less. put_each (λ (q : Key). length q.bytes ≡ 32) m i blank_key k u.keys inkeys size (λ d. so.sizes i d) less;
        padded = padded_more m blank_key k u.keys room so.padded;
        written =
            ap (λ n. entries_bytes (settings_with u k r o) n ++ drop (entry_at (m + 1)) bs) (add-one m)
            ∙ (λ j. (same m (omega arith) j ++ added j) ++ drop (next j) bs)
            ∙ append_assoc (entries_bytes u m) (k.bytes ++ place_bytes r o) (drop (entry_at m + 44) bs)
            ∙ ap (λ l. entries_bytes u m ++ l) entry
            ∙ so.written;
      }
    where
      same : (n : ℕ) → n ≤ u.plan.gates → entries_bytes (settings_with u k r o) n ≡ entries_bytes u n
      same zero le = refl
      same (suc n) le =
          let other : n ≡ u.plan.gates → ⊥ = omega arith in
          (λ j. same n (omega arith) j ++ ((get_or-set_other u.keys u.plan.gates n k blank_key other j).bytes ++ place_bytes (get_or-set_other u.plan.ranges u.plan.gates n r blank_range other j) (get_or-set_other u.plan.outside u.plan.gates n o 0 other j)))

      zero : u.own < u.plan.gates + 1 → ((eqb u.own u.plan.gates ≡ true) × (u.own ≡ u.plan.gates)) ⊎ ((eqb u.own u.plan.gates ≡ false) × (u.own ≡ u.plan.gates → ⊥)) → all_zero (key_at (settings_with u k r o) u.own).bytes ≡ true
      zero less (inl e) =
          ap (λ i. all_zero (get_or (set u.keys u.plan.gates k) i blank_key).bytes) e.1
          ∙ ap (λ (q : Key). all_zero q.bytes) (get_or-set_same u.keys u.plan.gates k blank_key (omega (arith, so.padded.long)))
          ∙ is.zeros (sym e.1)
      zero less (inr e) =
          ap (λ (q : Key). all_zero q.bytes) (get_or-set_other u.keys u.plan.gates u.own k blank_key e.1) ∙ so.zeros (omega (arith, e.1))

  -- all that was read so far
  record Got (s t : Settings) (n : ℕ) : Type 0 where
    so : Upto bs t
    gates : t.plan.gates ≡ n
    own : t.own ≡ s.own
    life : t.plan.life ≡ s.plan.life
    most : t.plan.most ≡ s.plan.most

  entries_got : (s t : Settings) (n : ℕ) → Upto bs s → s.plan.gates ≡ 0 → n ≤ 32 → entries_read bs s n ≡ Ok t → Got s t n
  entries_got s t zero so none few e =
      let is : s ≡ t = cc in
      subst (λ q. Got s q zero) is (record { so = so; gates = none; own = refl; life = refl; most = refl })
  entries_got s t (suc n) so none few e =
      let step = then-inv (entries_read bs s n) (λ q. entry_read bs n q) t e in
      let u : Settings = step.0 in
      let before : Got s u n = entries_got s u n so none (omega arith) step.1 in
      let got = entry_read_lem bs n u t step.2 in
      let at : n ≡ u.plan.gates = sym before.gates in
      let entry = subst (λ i. EntryIs bs (entry_at i) u.own i u.plan got.0 got.1 got.2) at got.3 in
      let after : Upto bs (settings_with u got.0 got.1 got.2) = grown u got.0 got.1 got.2 before.so (omega (arith, before.gates)) entry in
      subst (λ q. Got s q (suc n)) got.4 (record { so = after; gates = omega (arith, before.gates); own = before.own; life = before.life; most = before.most })

ended : (bs : List ℕ) (g : ℕ) (t s : Settings) (b : Bool) → eqb (length bs) (entry_at g) ≡ b → cond {A = Result Settings Fault} b (Ok t) (Err (header_fault field.End Wrong)) ≡ Ok s → (t ≡ s) × (length bs ≡ entry_at g)
ended bs g t s true f e = (cc, grind (arith, nat_tests))
ended bs g t s false f e = absurd (let z : ◌≡◌ {A = ℕ} 0 1 = cc in omega arith)

pub writes_back : WritesBack
unfolding settings_read bytes_of
writes_back bs s all e =
    let head = then-inv _ _ s e in
    let h : Header = head.0 in
    let is : HeadIs bs h = head_is bs h head.1 in
    let entries = then-inv _ _ s head.2 in
    let t : Settings = entries.0 in
    let begun : Settings = empty_settings h.own h.life h.most in
    let start : Upto bs begun = record { sound = empty_sound h.life h.most is.life_low is.life_high is.most_low (omega (arith, is.most_high)); zeros = λ less. absurd (omega arith); sizes = λ i less. absurd (omega arith); padded = record { long = refl; rest = refl }; written = refl } in
    let got : Got bs all begun t h.gates = entries_got bs all begun t h.gates start refl is.few entries.1 in
    let end = ended bs h.gates t s (eqb (length bs) (entry_at h.gates)) refl entries.2 in
    let none : drop (entry_at t.plan.gates) bs ≡ [] = drop_all (entry_at t.plan.gates) bs (omega (arith, end.1, got.gates)) in
    let written : entries_bytes t t.plan.gates ≡ drop 11 bs = sym (append-nil (entries_bytes t t.plan.gates)) ∙ ap (λ l. entries_bytes t t.plan.gates ++ l) (sym none) ∙ got.so.written in
    let sound : Sound t = record { planned = got.so.sound; numbered = omega (arith, got.own, got.gates, is.below, is.some); zeros = got.so.zeros (omega (arith, got.own, got.gates, is.below, is.some)); sizes = got.so.sizes; keys_padded = got.so.padded } in
    let bytes : 1 ∷ t.plan.gates ∷ t.own ∷ two t.plan.life (four t.plan.most (two 2048 (entries_bytes t t.plan.gates))) ≡ bs = ap (λ l. 1 ∷ t.plan.gates ∷ t.own ∷ two t.plan.life (four t.plan.most (two 2048 l))) written ∙ header_is bs t.plan.gates t.own t.plan.life t.plan.most all is.long is.version (is.gates ∙ sym got.gates) (is.own ∙ sym got.own) (is.life ∙ sym got.life) (is.most ∙ sym got.most) is.window in
    (subst Sound end.0 sound, ap (λ q. header_bytes q ++ entries_bytes q q.plan.gates) (sym end.0) ∙ bytes)
