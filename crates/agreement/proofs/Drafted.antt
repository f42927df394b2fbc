-- A plan that is read from a text is allowed. Assumes nothing.
use Rattle.std.proofs.Common.{◌≡◌, ℕ, ◌+◌, ◌^◌, ◌<◌, ◌≤◌, Bool, true, false, cond, eqb, List, [], ◌∷◌, get_or, is_some, Some, None, Ok, Err, codes, Option, Result, refl, ap, ◌∙◌, subst, arith}
use Rattle.std.specs.List.{slice_split}
use Rattle.std.specs.Str.{bytes_eq}
use Rattle.protocol.specs.Limits.{life_least, most_least}
use Rattle.addresses.specs.Dotted.{address_read, prefix_read}
use Rattle.addresses.specs.Numbers.{number_read}
use Rattle.addresses.proofs.Back.{texts_back}
use Rattle.settings.specs.declared.plans.Plan.{Plan}
use Rattle.settings.specs.Plans.{new_plan, add_to}
use Rattle.draft.specs.declared.drafts.Draft.{Draft}
use Rattle.draft.specs.declared.faults.TextFault.{TextFault}
use Rattle.draft.specs.declared.faults.TextFault.TheVariants.{Columns, NotNumber, NotNext, NotPrefix, NotAddress}
use Rattle.draft.specs.Drafts.{and_then, allowed, empty_draft, once_read, life_taken, most_taken, begun_by, begun, numbered, next_gate, new_name, grown, gate_taken, setting_taken, columns_taken, line_taken}
use Rattle.draft.specs.Ranges.{range_of}
use Rattle.draft.specs.Reading.{or_wrong, lines_taken, line_feed, draft_read}
use Rattle.draft.specs.Words.{words_of}
use Rattle.draft.proofs.Steps.{done, was_some, was_plan}
use Rattle.agreement.specs.Drafts.{DraftsAreSound}
use Rattle.settings.specs.Sound.{SoundPlan}
use Rattle.agreement.proofs.Growing.{plans_sound}

-- a draft whose plan is allowed, and whose most fits
record Good (d : Draft) : Type 0 where
  plan : (p : Plan) → d.plan ≡ Some p → SoundPlan p
  most : (m : ℕ) → d.most ≡ Some m → m < 2 ^ 32

-- a draft with its life, and with its most
abbrev lived : Draft → ℕ → Draft
lived d n = record { life = Some n; most = d.most; plan = d.plan; names = d.names }

abbrev limited : Draft → ℕ → Draft
limited d n = record { life = d.life; most = Some n; plan = d.plan; names = d.names }

-- a number that was read once is within its limit
once_fits : (twice : Bool) (limit n : ℕ) (w : List ℕ) → limit < 2 ^ 64 → once_read twice limit w ≡ Ok n → n ≤ limit
once_fits true limit n w small is = absurd (let z : ◌≡◌ {A = ℕ} 0 1 = cc in omega arith)
once_fits false limit n w small is = (texts_back.number_is limit n w small (was_some NotNumber (number_read limit w) n is)).1

life_good : (w : List ℕ) (d e : Draft) → Good d → life_taken w d ≡ Ok e → Good e
unfolding life_taken
life_good w d e good is =
    let one = done (once_read (is_some d.life) 65535 w) (λ n. and_then (allowed (new_plan n most_least)) (λ _. Ok (lived d n))) e is in
    let two = done (allowed (new_plan one.value most_least)) (λ _. Ok (lived d one.value)) e one.then in
    let is' : lived d one.value ≡ e = cc two.then in
    let plan : d.plan ≡ e.plan = ap (λ (x : Draft). x.plan) is' in
    let most : d.most ≡ e.most = ap (λ (x : Draft). x.most) is' in
    record { plan = λ p has. good.plan p (plan ∙ has); most = λ m has. good.most m (most ∙ has) }

most_good : (w : List ℕ) (d e : Draft) → Good d → most_taken w d ≡ Ok e → Good e
unfolding most_taken
most_good w d e good is =
    let one = done (once_read (is_some d.most) 4294967295 w) (λ n. and_then (allowed (new_plan life_least n)) (λ _. Ok (limited d n))) e is in
    let two = done (allowed (new_plan life_least one.value)) (λ _. Ok (limited d one.value)) e one.then in
    let is' : limited d one.value ≡ e = cc two.then in
    let plan : d.plan ≡ e.plan = ap (λ (x : Draft). x.plan) is' in
    let most : Some one.value ≡ e.most = ap (λ (x : Draft). x.most) is' in
    let small = once_fits (is_some d.most) 4294967295 one.value w (omega arith) one.was in
    record { plan = λ p has. good.plan p (plan ∙ has); most = λ m has. let same' : one.value ≡ m = cc (most ∙ has) in omega (arith, small, same') }

begun_good : (d : Draft) (p : Plan) → Good d → begun d ≡ Ok p → SoundPlan p
unfolding begun
begun_good d p good is = by d.plan d.life d.most refl refl is
  where
    by : (o : Option Plan) (l m : Option ℕ) → d.plan ≡ o → d.most ≡ m → begun_by o l m ≡ Ok p → SoundPlan p
    by (Some q) l m e f same = let this : q ≡ p = cc in good.plan p (e ∙ ap Some this)
    by None None m e f same = absurd (let z : ◌≡◌ {A = ℕ} 0 1 = cc in omega arith)
    by None (Some l) None e f same = absurd (let z : ◌≡◌ {A = ℕ} 0 1 = cc in omega arith)
    by None (Some l) (Some m) e f same = plans_sound.begun l m p (good.most m f) (was_plan (new_plan l m) p same)

next_good : (w : List ℕ) (d : Draft) (p : Plan) → Good d → next_gate w d ≡ Ok p → SoundPlan p
unfolding next_gate
next_good w d p good is =
    let one = done (begun d) (λ q. numbered q (number_read 255 w)) p is in
    begun_good d p good (one.was ∙ ap Ok (by one.value (number_read 255 w) one.then))
  where
    by : (q : Plan) (o : Option ℕ) → numbered q o ≡ Ok p → q ≡ p
    by q None same = absurd (let z : ◌≡◌ {A = ℕ} 0 1 = cc in omega arith)
    by q (Some n) same = test (eqb n q.gates) same
      where
        test : (b : Bool) → cond b (Ok q) (Err (NotNext q.gates)) ≡ Ok p → q ≡ p
        test true e = cc
        test false e = absurd (let z : ◌≡◌ {A = ℕ} 0 1 = cc in omega arith)

grown_good : (p q : Plan) (prefix outside : List ℕ) → SoundPlan p → grown p prefix outside ≡ Ok q → SoundPlan q
unfolding grown
grown_good p q prefix outside ok is =
    let one = done _ _ q is in
    let two = done _ _ q one.then in
    let first = texts_back.prefix_is one.value prefix (was_some NotPrefix (prefix_read prefix) one.value one.was) in
    let second = texts_back.address_is two.value outside (was_some NotAddress (address_read outside) two.value two.was) in
    plans_sound.grown p q (range_of one.value) two.value first.1 (omega arith) second.1 ok (was_plan (add_to p (range_of one.value) two.value) q two.then)

gate_good : (n w p o : List ℕ) (d e : Draft) → Good d → gate_taken n w p o d ≡ Ok e → Good e
unfolding gate_taken
gate_good n w p o d e good is =
    let one = done (next_gate n d) _ e is in
    let two = done (new_name d w) _ e one.then in
    let three = done (grown one.value p o) _ e two.then in
    let plan : Some three.value ≡ e.plan = cc three.then in
    let most : d.most ≡ e.most = cc three.then in
    let sound : SoundPlan three.value = grown_good one.value three.value p o (next_good n d one.value good one.was) three.was in
    record { plan = λ q has. let same : three.value ≡ q = cc (plan ∙ has) in subst SoundPlan same sound; most = λ m has. good.most m (most ∙ has) }

setting_good : (n v : List ℕ) (d e : Draft) → Good d → setting_taken n v d ≡ Ok e → Good e
unfolding setting_taken
setting_good n v d e good is = by (bytes_eq n (codes "life")) (bytes_eq n (codes "most")) is
  where
    by : (a b : Bool) → cond a (life_taken v d) (cond b (most_taken v d) (Err Columns)) ≡ Ok e → Good e
    by true b same = life_good v d e good same
    by false true same = most_good v d e good same
    by false false same = absurd (let z : ◌≡◌ {A = ℕ} 0 1 = cc in omega arith)

columns_good : (w : List ℕ) (ws : List (List ℕ)) (d e : Draft) → Good d → columns_taken w ws d ≡ Ok e → Good e
columns_good a [] d e good is = absurd (let z : ◌≡◌ {A = ℕ} 0 1 = cc in omega arith)
columns_good a (b ∷ []) d e good is = setting_good a b d e good is
columns_good a (b ∷ c ∷ []) d e good is = absurd (let z : ◌≡◌ {A = ℕ} 0 1 = cc in omega arith)
columns_good a (b ∷ c ∷ f ∷ []) d e good is = gate_good a b c f d e good is
columns_good a (b ∷ c ∷ f ∷ g ∷ more) d e good is = absurd (let z : ◌≡◌ {A = ℕ} 0 1 = cc in omega arith)

line_good : (ws : List (List ℕ)) (d e : Draft) → Good d → line_taken ws d ≡ Ok e → Good e
line_good [] d e good is = let same : d ≡ e = cc in subst Good same good
line_good (w ∷ ws) d e good is = by (eqb (get_or w 0 0) 35) is
  where
    by : (b : Bool) → cond b (Ok d) (columns_taken w ws d) ≡ Ok e → Good e
    by true same = let this : d ≡ e = cc in subst Good this good
    by false same = columns_good w ws d e good same

lines_good : (n : ℕ) (ls : List (List ℕ)) (d e : Draft) → Good d → lines_taken n ls d ≡ Ok e → Good e
lines_good n [] d e good is = let same : d ≡ e = cc in subst Good same good
lines_good n (l ∷ ls) d e good is = by (line_taken (words_of l) d) refl (λ f ok rest. lines_good (n + 1) ls f e ok rest) is
  where
    by : (r : Result Draft TextFault) → line_taken (words_of l) d ≡ r → ((f : Draft) → Good f → lines_taken (n + 1) ls f ≡ Ok e → Good e) → or_wrong n r (lines_taken (n + 1) ls) ≡ Ok e → Good e
    by (Ok f) was rest same = rest f (line_good (words_of l) d f good was) same
    by (Err x) was rest same = absurd (let z : ◌≡◌ {A = ℕ} 0 1 = cc in omega arith)

pub drafts_sound : DraftsAreSound
unfolding draft_read
drafts_sound text d p read has = (lines_good 0 (slice_split line_feed text) empty_draft d start read).plan p has
  where
    start : Good empty_draft
    start = record { plan = λ q none. absurd (let z : ◌≡◌ {A = ℕ} 0 1 = cc in omega arith); most = λ m none. absurd (let z : ◌≡◌ {A = ℕ} 0 1 = cc in omega arith) }
