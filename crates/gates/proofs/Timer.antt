-- The theorems on the timer of a peer. A stretch without a hello, a word and a restart moves only the clock, so that its last deed finds a rule due.
use Rattle.std.proofs.Common.{◌≡◌, ℕ, zero, suc, ◌+◌, ◌<◌, ◌≤◌, max, Bool, true, false, ◌||◌, List, [], ◌∷◌, ◌++◌, take, drop, sym, refl, ap, ◌∙◌, append-nil, arith}
use Rattle.std.proofs.lemmas.Bool.{or_parts, or_right, true≢false}
use Rattle.std.proofs.lemmas.Bool.Decides.{nat_tests}
use Rattle.gates.specs.Lists.{At}
use Rattle.gates.specs.Timer.{Timer, Deed, Ticks, Sends, Queues, Takes, Restarts, after, due, Did, Then, after_hello, timer_of, due_after, Obeys, Exact, keeping, tick_of, ticks, lets_in, queues, takes_word, makes_sure, restarts, has, has_hello, hello_ticks, deeds_of, ticking, owes, Unheard, Timely, Sharp, Prompt, Rising, Kept, until_silence, Shown}

-- A clock has begun, and nothing that a timer remembers is after it.
record Sound (t : Timer) : Type 0 where
  begun : 0 < t.now
  heard_by : t.heard ≤ t.now
  greeted_by : t.greeted ≤ t.now
  fell_by : t.fell ≤ t.now

sound_after : (d : Deed) (t : Timer) → Sound t → Sound (after d t)
sound_after Ticks t s = omega arith
sound_after (Sends aged) t s = omega arith
sound_after Queues t s = omega arith
sound_after (Takes sure) t s = omega arith
sound_after Restarts t s = omega arith

sound_hello : (hello : Bool) (t : Timer) → Sound t → Sound (after_hello hello t)
sound_hello true t s = omega arith
sound_hello false t s = omega arith

sound : (run : List Did) → Sound (timer_of run)
unfolding timer_of
sound [] = omega arith
sound (Then d hello ∷ ds) = sound_hello hello (after d (timer_of ds)) (sound_after d (timer_of ds) (sound ds))

-- From timer t on, n ticks brought timer u, with no hello and no restart.
record Moved (n : ℕ) (t u : Timer) : Type 0 where
  now_so : u.now ≡ t.now + n
  greeted_so : u.greeted ≡ t.greeted
  fell_so : u.fell ≡ t.fell

moved_on : (d : Deed) (n : ℕ) (t u : Timer) → restarts d ≡ false → Moved n t u → Moved (n + tick_of d) t (after d u)
moved_on Ticks n t u r m = omega arith
moved_on (Sends aged) n t u r m = omega arith
moved_on Queues n t u r m = omega arith
moved_on (Takes sure) n t u r m = omega arith
moved_on Restarts n t u r m = grind arith

moved : (before stretch : List Did) → has restarts stretch ≡ false → has_hello stretch ≡ false → Moved (ticks stretch) (timer_of before) (timer_of (stretch ++ before))
unfolding has has_hello ticks timer_of
moved before [] r h = omega arith
moved before (Then d true ∷ ds) r h = absurd (true≢false h)
moved before (Then d false ∷ ds) r h =
    let r' = or_parts (restarts d) (has restarts ds) r in
    moved_on d (ticks ds) (timer_of before) (timer_of (ds ++ before)) r'.0 (moved before ds r'.1 h)

-- The last word taken, and that a hello is owed, over a deed that is neither a taking nor a restart.
heard_on : (d : Deed) (t : Timer) → takes_word d ≡ false → restarts d ≡ false → (after d t).heard ≡ t.heard
heard_on Ticks t k r = refl
heard_on (Sends aged) t k r = refl
heard_on Queues t k r = refl
heard_on (Takes sure) t k r = absurd (true≢false k)
heard_on Restarts t k r = absurd (true≢false r)

owes_on : (d : Deed) (t : Timer) (l o : Bool) → takes_word d ≡ false → restarts d ≡ false → ((l || o) ≡ true → owes t ≡ true) → ((lets_in d || l) || o) ≡ true → owes (after d t) ≡ true
owes_on Ticks t l o k r h e = h e
owes_on (Sends aged) t l o k r h e = refl
owes_on Queues t l o k r h e = grind arith
owes_on (Takes sure) t l o k r h e = absurd (true≢false k)
owes_on Restarts t l o k r h e = absurd (true≢false r)

heard_still : (before stretch : List Did) → has takes_word stretch ≡ false → has restarts stretch ≡ false → (timer_of (stretch ++ before)).heard ≡ (timer_of before).heard
unfolding has timer_of
heard_still before [] k r = refl
heard_still before (Then d hello ∷ ds) k r =
    let k' = or_parts (takes_word d) (has takes_word ds) k in
    let r' = or_parts (restarts d) (has restarts ds) r in
    heard_on d (timer_of (ds ++ before)) k'.0 r'.0 ∙ heard_still before ds k'.1 r'.1

owes_still : (before stretch : List Did) → has takes_word stretch ≡ false → has restarts stretch ≡ false → (has lets_in stretch || owes (timer_of before)) ≡ true → owes (timer_of (stretch ++ before)) ≡ true
unfolding has timer_of
owes_still before [] k r l = l
owes_still before (Then d hello ∷ ds) k r l =
    let k' = or_parts (takes_word d) (has takes_word ds) k in
    let r' = or_parts (restarts d) (has restarts ds) r in
    owes_on d (timer_of (ds ++ before)) (has lets_in ds) (owes (timer_of before)) k'.0 r'.0 (owes_still before ds k'.1 r'.1) l

-- Where a hello is owed after a deed, and all that could put it off is 15 ticks ago, it is due.
due_when_owed : (d : Deed) (t : Timer) → takes_word d ≡ false → restarts d ≡ false → owes (after d t) ≡ true →
    (after d t).fell < (after d t).now → (after d t).heard + 15 ≤ (after d t).now → (after d t).greeted + 15 ≤ (after d t).now → due d (after d t) ≡ true
due_when_owed Ticks t k r o f h g = grind (arith, nat_tests)
due_when_owed (Sends aged) t k r o f h g = grind (arith, nat_tests)
due_when_owed Queues t k r o f h g = grind (arith, nat_tests)
due_when_owed (Takes sure) t k r o f h g = absurd (true≢false k)
due_when_owed Restarts t k r o f h g = absurd (true≢false r)

-- Where the last deed of a stretch without a hello would find one due, and the stretch obeys there, it has a hello.
hello_at_last : (before ds : List Did) (d : Deed) (hello : Bool) → has restarts (Then d hello ∷ ds) ≡ false → (due_after d (ds ++ before) ≡ true → hello ≡ true) →
    (Moved (ticks (Then d hello ∷ ds)) (timer_of before) (after d (timer_of (ds ++ before))) → due_after d (ds ++ before) ≡ true) → has_hello (Then d hello ∷ ds) ≡ true
unfolding has has_hello ticks timer_of
hello_at_last before ds d true r obeys so = refl
hello_at_last before ds d false r obeys so = go (has_hello ds) refl
  where
    go : (b : Bool) → has_hello ds ≡ b → has_hello ds ≡ true
    go true e = e
    go false e =
        let r' = or_parts (restarts d) (has restarts ds) r in
        absurd (true≢false (sym (obeys (so (moved_on d (ticks ds) (timer_of before) (timer_of (ds ++ before)) r'.0 (moved before ds r'.1 e))))))

pub timely : Timely
unfolding has ticks timer_of Obeys
timely before [] u = absurd (omega (arith, u.lasts))
timely before (Then d hello ∷ ds) u =
    let k = or_parts (takes_word d) (has takes_word ds) u.takes_none in
    let r = or_parts (restarts d) (has restarts ds) u.stays_up in
    let s = sound before in
    let h = heard_still before (Then d hello ∷ ds) u.takes_none u.stays_up in
    let o = owes_still before (Then d hello ∷ ds) u.takes_none u.stays_up u.let_in in
    hello_at_last before ds d hello u.stays_up u.obeys.0 λ m.
    due_when_owed d (timer_of (ds ++ before)) k.0 r.0 o (omega arith) (omega arith) (omega arith)

-- That a packet waits, over a deed that neither makes a talk sure nor is a restart.
waits_on : (d : Deed) (t : Timer) (l o : Bool) → makes_sure d ≡ false → restarts d ≡ false → ((l || o) ≡ true → t.waiting ≡ true) → ((queues d || l) || o) ≡ true → (after d t).waiting ≡ true
waits_on Ticks t l o k r h e = h e
waits_on (Sends aged) t l o k r h e = h e
waits_on Queues t l o k r h e = refl
waits_on (Takes sure) t l o k r h e = rw k (h e)
waits_on Restarts t l o k r h e = absurd (true≢false r)

waits_still : (before stretch : List Did) → has makes_sure stretch ≡ false → has restarts stretch ≡ false → (has queues stretch || (timer_of before).waiting) ≡ true → (timer_of (stretch ++ before)).waiting ≡ true
unfolding has timer_of
waits_still before [] k r l = l
waits_still before (Then d hello ∷ ds) k r l =
    let k' = or_parts (makes_sure d) (has makes_sure ds) k in
    let r' = or_parts (restarts d) (has restarts ds) r in
    waits_on d (timer_of (ds ++ before)) (has queues ds) (timer_of before).waiting k'.0 r'.0 (waits_still before ds k'.1 r'.1) l

-- Where waiting packets are looked at after the last deed of a stretch, the stretch has a hello.
prompt_at_last : (before ds : List Did) (d : Deed) (hello : Bool) →
    ((t : Timer) → (after d t).waiting ≡ true → (after d t).fell < (after d t).now → (after d t).greeted + 5 ≤ (after d t).now → due d (after d t) ≡ true) →
    Obeys before (Then d hello ∷ ds) → 5 ≤ ticks (Then d hello ∷ ds) → (has queues (Then d hello ∷ ds) || (timer_of before).waiting) ≡ true →
    has makes_sure (Then d hello ∷ ds) ≡ false → has restarts (Then d hello ∷ ds) ≡ false → has_hello (Then d hello ∷ ds) ≡ true
unfolding timer_of Obeys
prompt_at_last before ds d hello looked y l w k r =
    let s = sound before in
    hello_at_last before ds d hello r y.0 λ m. looked (timer_of (ds ++ before)) (waits_still before (Then d hello ∷ ds) k r w) (omega arith) (omega arith)

pub prompt : Prompt
unfolding has ticks Obeys has_hello
prompt before [] y l w k r = absurd (omega arith)
prompt before (Then Ticks hello ∷ ds) y l w k r = prompt_at_last before ds Ticks hello (λ t e f g. grind (arith, nat_tests)) y l w k r
prompt before (Then (Sends aged) hello ∷ ds) y l w k r = or_right hello (has_hello ds) (prompt before ds y.1 (omega arith) w k r)
prompt before (Then Queues hello ∷ ds) y l w k r = prompt_at_last before ds Queues hello (λ t e f g. grind (arith, nat_tests)) y l w k r
prompt before (Then (Takes sure) hello ∷ ds) y l w k r = or_right hello (has_hello ds) (prompt before ds y.1 (omega arith) w (or_parts sure (has makes_sure ds) k).1 r)
prompt before (Then Restarts hello ∷ ds) y l w k r = absurd (true≢false r)

-- After a deed, where a hello is due, all that was before is at a tick below.
due-above : (d : Deed) (t : Timer) → Sound t → due d (after d t) ≡ true → max t.greeted t.fell < (after d t).now
due-above Ticks t s e = grind (arith, nat_tests)
due-above (Sends aged) t s e = grind (arith, nat_tests)
due-above Queues t s e = grind (arith, nat_tests)
due-above (Takes sure) t s e = absurd (true≢false (sym e))
due-above Restarts t s e = absurd (true≢false (sym e))

-- What a timer remembers of hellos and restarts only grows.
past_on : (d : Deed) (t : Timer) → Sound t → max t.greeted t.fell ≤ max (after d t).greeted (after d t).fell
past_on Ticks t s = omega arith
past_on (Sends aged) t s = omega arith
past_on Queues t s = omega arith
past_on (Takes sure) t s = omega arith
past_on Restarts t s = omega arith

past : (run : List Did) (i a : ℕ) → At i a (hello_ticks run) → a ≤ max (timer_of run).greeted (timer_of run).fell
unfolding hello_ticks timer_of At
past [] i a m = absurd m
past (Then d true ∷ ds) zero a m = omega arith
past (Then d true ∷ ds) (suc i) a m =
    let s = sound_after d (timer_of ds) (sound ds) in
    omega (arith, past ds i a m, past_on d (timer_of ds) (sound ds))
past (Then d false ∷ ds) i a m = omega (arith, past ds i a m, past_on d (timer_of ds) (sound ds))

above : (run : List Did) → Exact [] run → (i k a b : ℕ) → i < k → At i a (hello_ticks run) → At k b (hello_ticks run) → b < a
unfolding hello_ticks At Exact
above [] x i k a b l m n = absurd m
above (Then d true ∷ ds) x zero zero a b l m n = absurd (omega arith)
above (Then d true ∷ ds) x zero (suc k) a b l m n =
    omega (arith, past ds k b n, due-above d (timer_of ds) (sound ds) (rw append-nil at (x.0 refl)))
above (Then d true ∷ ds) x (suc i) zero a b l m n = absurd (omega arith)
above (Then d true ∷ ds) x (suc i) (suc k) a b l m n = above ds x.1 i k a b (omega arith) m n
above (Then d false ∷ ds) x i k a b l m n = above ds x.1 i k a b l m n

begun : (run : List Did) (i a : ℕ) → At i a (hello_ticks run) → 0 < a
unfolding hello_ticks At
begun [] i a m = absurd m
begun (Then d true ∷ ds) zero a m = omega (arith, (sound_after d (timer_of ds) (sound ds)).begun)
begun (Then d true ∷ ds) (suc i) a m = begun ds i a m
begun (Then d false ∷ ds) i a m = begun ds i a m

pub rising : Rising
rising run x = record { above = above run x; begun = begun run }

keeping-obeys : (ds : List Deed) → Obeys [] (keeping ds)
unfolding keeping Obeys
keeping-obeys [] = tt
keeping-obeys (d ∷ ds) = (rw append-nil (λ e. e), keeping-obeys ds)

keeping-exact : (ds : List Deed) → Exact [] (keeping ds)
unfolding keeping Exact
keeping-exact [] = tt
keeping-exact (d ∷ ds) = (rw append-nil (λ e. e), keeping-exact ds)

keeping-same : (ds : List Deed) → deeds_of (keeping ds) ≡ ds
unfolding keeping deeds_of
keeping-same [] = refl
keeping-same (d ∷ ds) = ap (λ (es : List Deed). d ∷ es) (keeping-same ds)

-- two tests of which each gives the other
same_test : (a b : Bool) → (a ≡ true → b ≡ true) → (b ≡ true → a ≡ true) → b ≡ a
same_test a b p q = grind arith

keeping-only : (run : List Did) → Obeys [] run → Exact [] run → run ≡ keeping (deeds_of run)
unfolding keeping deeds_of Obeys Exact
keeping-only [] y x = refl
keeping-only (Then d hello ∷ ds) y x =
    let rest = keeping-only ds y.1 x.1 in
    let all = append-nil ds in
    let h = same_test (due_after d (ds ++ [])) hello y.0 x.0 in
    cc

pub kept : Kept
kept = record { obeys = keeping-obeys; exact = keeping-exact; same = keeping-same; only = keeping-only }

obeys_on_top : (before stretch : List Did) → Obeys [] (stretch ++ before) → Obeys before stretch
unfolding Obeys
obeys_on_top before [] y = tt
obeys_on_top before (Then d hello ∷ ds) y = (rw append-nil at y.0, obeys_on_top before ds y.1)

-- a word is taken at tick 1; then a packet is sent, and one more after each of n ticks
sending : ℕ → List Deed
sending zero = Sends false ∷ Takes false ∷ []
sending (suc n) = Sends false ∷ Ticks ∷ sending n

pub sharp : Sharp
unfolding has has_hello ticks timer_of keeping sending
sharp =
    let run : List Did = keeping (sending 14) in
    let stretch : List Did = take 29 run in
    let before : List Did = drop 29 run in
    let obeys : Obeys [] (stretch ++ before) = keeping-obeys (sending 14) in
    let exact : Exact [] (stretch ++ before) = keeping-exact (sending 14) in
    let unheard : Unheard 14 before stretch = record { obeys = obeys_on_top before stretch obeys; lasts = omega arith; let_in = refl; takes_none = refl; stays_up = refl } in
    (before, stretch, unheard, refl, refl, obeys, exact)

pub shown : Shown
unfolding has has_hello ticks timer_of keeping ticking hello_ticks
shown = record {
  by_queue = (refl, refl);
  by_silence = (refl, refl);
  by_age = (refl, refl);
  after_restart = (refl, refl);
  hellos = refl;
  unheard =
      let run : List Did = keeping (Ticks ∷ until_silence) in
      let stretch : List Did = take 17 run in
      let before : List Did = drop 17 run in
      let obeys : Obeys [] (stretch ++ before) = keeping-obeys (Ticks ∷ until_silence) in
      (before, stretch, record { obeys = obeys_on_top before stretch obeys; lasts = omega arith; let_in = refl; takes_none = refl; stays_up = refl }, refl);
}
