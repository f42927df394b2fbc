-- A window that stands for what came says what the list says, and stands for it with one number more. Assumes nothing.
use Rattle.std.proofs.Common.{◌≡◌, ℕ, ◌+◌, ◌%◌, ◌<◌, ◌≤◌, Bool, true, false, cond, not, ◌&&◌, ◌||◌, eqb, ltb, List, [], ◌∷◌, sym, refl, ap, ◌∙◌, subst, ⊎_elim, arith}
use lib.ListN.{get_or-replicate}
use Rattle.gates.specs.Talk.{is_in, larger, lives}
use Rattle.std.proofs.lemmas.Bool.{false≢true, cases_eq, cases_lt, eq-eqb, ne_eqb, ltb-true}
use Rattle.std.proofs.lemmas.Bool.Decides.{nat_tests}
use Rattle.window.specs.Heard.{words, word_bits, span, block, place, bit, too_old, is_marked, verdict_of, passed, raised, noted, blank_at, empty_window}
use Rattle.window.specs.Heard.{look_bits, after_bits, Stands, is_fresh, AsInTalks}
use Rattle.window.specs.declared.state.Window.{Window}
use Rattle.window.specs.declared.state.Verdict.TheVariants.{Fresh, TooOld, Came}
use Rattle.window.proofs.Bits.{bit-zero}
use Rattle.window.proofs.Ring.{marked-length, marked-same, marked_other, cleared-length, passed_kept, passed-clear}

-- no number above the highest came
pub none_above : (w : Window) (top : ℕ) (heard : List ℕ) (n : ℕ) → Stands w top heard → top < n → is_in n heard ≡ false
none_above w top heard n s h = go (is_in n heard) (s.above n)
  where
    go : (b : Bool) → (b ≡ true → n ≤ top) → b ≡ false
    go true f = let l : n ≤ top = f refl in absurd (omega arith)
    go false f = refl

-- a window without a bit set stands for the empty list
pub blank_stands : (top : ℕ) → Stands (blank_at top) top []
unfolding is_in
blank_stands top =
    record {
      highest = refl;
      above = λ n e. absurd (false≢true e);
      whole = refl;
      bits = λ n h k. ap (λ x. bit x (n % word_bits)) (get_or-replicate words (place n) 0 0 (omega arith)) ∙ bit-zero (n % word_bits);
    }

-- and so does the one before any number came
pub empty_stands : Stands empty_window 0 []
empty_stands = blank_stands 0

-- what a window's bits say of a number is what the list says
pub look-stands : (w : Window) (top : ℕ) (heard : List ℕ) (n : ℕ) → Stands w top heard → look_bits w n ≡ verdict_of top heard n
look-stands w top heard n s =
    let above = none_above w top heard n s in
    let within : n ≤ top → top < n + span → is_marked n w.ring ≡ is_in n heard = λ h k. s.bits n (omega arith) (omega arith) in
    rw s.highest (told (is_marked n w.ring) (is_in n heard) above within)
  where
    told : (m i : Bool) → (top < n → i ≡ false) → (n ≤ top → top < n + span → m ≡ i)
        → cond (too_old top n) TooOld (cond (ltb top n) Fresh (cond m Came Fresh)) ≡ cond (too_old top n) TooOld (cond i Came Fresh)
    told m i above within = grind (arith, nat_tests)

-- a number that may come is not too old and did not come
pub fresh_tells : (top : ℕ) (heard : List ℕ) (n : ℕ) → verdict_of top heard n ≡ Fresh → (too_old top n ≡ false) × (is_in n heard ≡ false)
fresh_tells top heard n e = go (too_old top n) (is_in n heard) e
  where
    go : (o i : Bool) → cond o TooOld (cond i Came Fresh) ≡ Fresh → (o ≡ false) × (i ≡ false)
    go o i e = grind arith

-- a number of the ring's blocks is noted
pub noted-stands : (w : Window) (top : ℕ) (heard : List ℕ) (n : ℕ) → Stands w top heard → n ≤ top → top < n + span → Stands (noted n w) top (n ∷ heard)
unfolding is_in
noted-stands w top heard n s h k =
    record {
      highest = s.highest;
      above = λ m e. let f = s.above m in let c = cases_eq n m in grind (arith, nat_tests);
      whole = marked-length n w.ring ∙ s.whole;
      bits = λ m l u. ⊎_elim (same m) (other m l u) (cases_eq m n);
    }
  where
    same : (m : ℕ) → m ≡ n → is_marked m (noted n w).ring ≡ (eqb n m || is_in m heard)
    same m e = rw e (marked-same n w.ring s.whole ∙ sym (ap (λ b. b || is_in n heard) (eq-eqb n n refl)))

    other : (m : ℕ) → block m ≤ block top → block top < block m + words → (m ≡ n → ⊥) → is_marked m (noted n w).ring ≡ (eqb n m || is_in m heard)
    other m l u d =
        marked_other m n w.ring s.whole (omega arith) (omega arith) d ∙ s.bits m l u
        ∙ sym (ap (λ b. b || is_in m heard) (ne_eqb n m (λ e. d (sym e))))

-- the highest number may grow past words, which are cleared
grown_stands : (w : Window) (heard : List ℕ) (n : ℕ) → Stands w w.top heard → w.top < n
    → Stands (record { top = n; ring = passed w.top n w.ring }) n heard
grown_stands w heard n s h =
    record {
      highest = refl;
      above = λ m e. let f = s.above m e in omega arith;
      whole = cleared-length _ _ w.ring ∙ s.whole;
      bits = λ m l u. ⊎_elim (λ k. cleared m k l) (λ k. kept m k u) (cases_lt (block w.top) (block m));
    }
  where
    kept : (m : ℕ) → block m ≤ block w.top → block n < block m + words → is_marked m (passed w.top n w.ring) ≡ is_in m heard
    kept m k u = passed_kept m w.top n w.ring k u ∙ s.bits m k (omega arith)

    cleared : (m : ℕ) → block w.top < block m → block m ≤ block n → is_marked m (passed w.top n w.ring) ≡ is_in m heard
    cleared m k l =
        passed-clear m w.top n w.ring s.whole k l ∙ sym (none_above w w.top heard m s (omega arith))

-- the highest number grows to that of a number above it, and else stays
pub raised-stands : (w : Window) (top : ℕ) (heard : List ℕ) (n : ℕ) → Stands w top heard → Stands (raised n w) (larger top n) heard
raised-stands w top heard n s =
    subst (λ t. Stands w t heard → Stands (raised n w) (larger t n) heard) s.highest (λ own. go own (ltb w.top n) refl) s
  where
    go : Stands w w.top heard → (b : Bool) → ltb w.top n ≡ b
        → Stands (cond b (record { top = n; ring = passed w.top n w.ring }) w) (cond b n w.top) heard
    go own true e = grown_stands w heard n own (ltb-true w.top n e)
    go own false e = own

-- the window stands for the list with one number more, if that is not too old
pub taken-stands : (w : Window) (top : ℕ) (heard : List ℕ) (n : ℕ) → Stands w top heard → too_old top n ≡ false
    → Stands (noted n (raised n w)) (larger top n) (n ∷ heard)
taken-stands w top heard n s young =
    let h : n ≤ larger top n = grind (arith, nat_tests) in
    let k : larger top n < n + span = grind (arith, nat_tests) in
    noted-stands (raised n w) (larger top n) heard n (raised-stands w top heard n s) h k

-- so the window after a number that may come stands for the list with that number
pub after-stands : (w : Window) (top : ℕ) (heard : List ℕ) (n : ℕ) → Stands w top heard → verdict_of top heard n ≡ Fresh
    → Stands (after_bits w n) (larger top n) (n ∷ heard)
after-stands w top heard n s e =
    let young : too_old top n ≡ false = (fresh_tells top heard n e).0 in
    let same : too_old w.top n ≡ false = rw s.highest young in
    rw same (taken-stands w top heard n s young)

-- a number that is too old changes nothing
pub after_old : (w : Window) (n : ℕ) → look_bits w n ≡ TooOld → after_bits w n ≡ w
after_old w n e = go (too_old w.top n) (ltb w.top n) (is_marked n w.ring) e
  where
    go : (o a i : Bool) → cond o TooOld (cond a Fresh (cond i Came Fresh)) ≡ TooOld → cond o w (noted n (raised n w)) ≡ w
    go o a i e = grind arith

-- the verdict is that of a talk of the abstract protocol
pub as_in_talks : AsInTalks
as_in_talks r t now n e = rw e (go (lives r now t) (is_in n t.heard))
  where
    go : (l i : Bool) → (ltb 0 n && (l && (ltb t.top (n + span) && not i))) ≡ (l && is_fresh (cond (too_old t.top n) TooOld (cond i Came Fresh)))
    go l i = grind (arith, nat_tests)
