-- When a gate greets another by itself: what it remembers for each peer, what can happen to that, and when a hello is due.
-- Keepalives are no part of it: one that is sent changes nothing here, and one that is got is a word taken. Assumes nothing.
--
-- rule     | condition                                                                                | looked at after     | effect
-- queued   | a packet waits; no hello in the last 5 ticks                                             | a tick, a queueing  | a hello
-- ageing   | this packet went out in a talk over three quarters old; no hello in the last 5 ticks     | a sending           | a hello
-- silent   | a packet went out since the last word taken; no word and no hello in the last 15 ticks   | a tick, a sending   | a hello
-- may_greet | the tick is above that of the last restart                                               | each of these       | else no hello
--
-- One hello serves all the rules that are due. A gate whose drawn bytes are used up sends none. A hello that was due and not sent is not remembered: its rule is
-- looked at again after the next such deed.
use Rattle.std.specs.Prelude.{◌≡◌, ℕ, zero, suc, ◌+◌, ◌<◌, ◌≤◌, Bool, true, false, cond, not, ◌&&◌, ◌||◌, List, [], ◌∷◌, ◌++◌, ◌==◌, nat_lt}
use Rattle.gates.specs.Lists.{At}

-- What a gate remembers for one peer. A tick of 0 says never.
pub record Timer : Type 0 where
  -- the gate's own clock
  pub now : ℕ
  -- the tick of the last word taken from the peer
  pub heard : ℕ
  -- the tick of the last hello to the peer
  pub greeted : ℕ
  -- the tick of the gate's last restart
  pub fell : ℕ
  -- a packet was sent to the peer since the last word taken from it
  pub unanswered : Bool
  -- a packet for the peer is in the queue
  pub waiting : Bool

-- The timer before anything happened.
abbrev pub first_timer : Timer
first_timer = record { now = 1; heard = 0; greeted = 0; fell = 0; unanswered = false; waiting = false }

-- For so many ticks after a hello neither a packet that waits nor an aged talk causes another: its reply may still come.
abbrev pub pause : ℕ
pause = 5

-- For so many ticks after a word or a hello silence causes no hello.
abbrev pub patience : ℕ
patience = 15

-- Something happened in the last n ticks, that is at a tick above now less n; never, where it never happened.
abbrev pub recently : (n now at : ℕ) → Bool
recently n now at = not (at == 0) && nat_lt now (at + n)

-- What happens to a timer.
pub data Deed : Type 0 where
  -- the clock moves on by one tick
  Ticks : Deed
  -- a packet goes out in a talk; aged: with it the talk is more than three quarters of its life, or of its most, old
  Sends : (aged : Bool) → Deed
  -- a packet is put into the queue
  Queues : Deed
  -- a word of the peer is taken; sure: it makes a talk sure, so that the queue is emptied, and each packet of it is a sending that follows
  Takes : (sure : Bool) → Deed
  -- the gate is switched off and on: it keeps its clock and the tick of this, and forgets the rest
  Restarts : Deed

-- The timer after a deed, before the hello that it may cause.
abbrev pub after : Deed → Timer → Timer
after Ticks t = record { now = suc t.now; heard = t.heard; greeted = t.greeted; fell = t.fell; unanswered = t.unanswered; waiting = t.waiting }
after (Sends aged) t = record { now = t.now; heard = t.heard; greeted = t.greeted; fell = t.fell; unanswered = true; waiting = t.waiting }
after Queues t = record { now = t.now; heard = t.heard; greeted = t.greeted; fell = t.fell; unanswered = t.unanswered; waiting = true }
after (Takes sure) t = record { now = t.now; heard = t.now; greeted = t.greeted; fell = t.fell; unanswered = false; waiting = cond sure false t.waiting }
after Restarts t = record { now = t.now; heard = 0; greeted = 0; fell = t.now; unanswered = false; waiting = false }

-- A packet waits, and the peer was not greeted lately.
abbrev pub queued : Timer → Bool
queued t = t.waiting && not (recently pause t.now t.greeted)

-- The packet just sent went out in an aged talk, and the peer was not greeted lately.
abbrev pub ageing : (aged : Bool) → Timer → Bool
ageing aged t = aged && not (recently pause t.now t.greeted)

-- What was sent to the peer is unanswered, and it was neither heard nor greeted for long.
abbrev pub silent : Timer → Bool
silent t = t.unanswered && (not (recently patience t.now t.heard) && not (recently patience t.now t.greeted))

-- A hello needs a tick above that of the last restart, since one may have gone out in that tick and be forgotten.
abbrev pub may_greet : Timer → Bool
may_greet t = nat_lt t.fell t.now

-- A hello is due after a deed, by the timer after it.
abbrev pub due : Deed → Timer → Bool
due Ticks t = may_greet t && (queued t || silent t)
due (Sends aged) t = may_greet t && (ageing aged t || silent t)
due Queues t = may_greet t && queued t
due (Takes sure) t = false
due Restarts t = false

-- A deed, and whether a hello to the peer followed it.
pub data Did : Type 0 where
  Then : Deed → (hello : Bool) → Did

-- The timer after a hello, where there was one.
abbrev pub after_hello : (hello : Bool) → Timer → Timer
after_hello hello t = record { now = t.now; heard = t.heard; greeted = cond hello t.now t.greeted; fell = t.fell; unanswered = t.unanswered; waiting = t.waiting }

-- The timer after all that was done, the latest first, from the first timer.
unfoldable pub timer_of : List Did → Timer
timer_of [] = first_timer
timer_of (Then d hello ∷ ds) = after_hello hello (after d (timer_of ds))

-- A hello is due after this deed, on top of what was done before.
abbrev pub due_after : Deed → List Did → Bool
due_after d ds = due d (after d (timer_of ds))

-- In a stretch on top of what was done before, a hello follows wherever one is due. So it is while drawn bytes last.
unfoldable pub Obeys : (before stretch : List Did) → Type 0
Obeys before [] = Unit {0}
Obeys before (Then d hello ∷ ds) = (due_after d (ds ++ before) ≡ true → hello ≡ true) × Obeys before ds

-- In a stretch on top of what was done before, a hello follows only where one is due. So it always is.
unfoldable pub Exact : (before stretch : List Did) → Type 0
Exact before [] = Unit {0}
Exact before (Then d hello ∷ ds) = (hello ≡ true → due_after d (ds ++ before) ≡ true) × Exact before ds

-- These deeds with a hello wherever one is due, and nowhere else.
unfoldable pub keeping : List Deed → List Did
keeping [] = []
keeping (d ∷ ds) = Then d (due_after d (keeping ds)) ∷ keeping ds

-- 1 for a tick
abbrev pub tick_of : Deed → ℕ
tick_of Ticks = 1
tick_of (Sends aged) = 0
tick_of Queues = 0
tick_of (Takes sure) = 0
tick_of Restarts = 0

-- how many ticks a stretch has
unfoldable pub ticks : List Did → ℕ
ticks [] = 0
ticks (Then d hello ∷ ds) = ticks ds + tick_of d

-- a packet is let in: it is sent or queued
abbrev pub lets_in : Deed → Bool
lets_in Ticks = false
lets_in (Sends aged) = true
lets_in Queues = true
lets_in (Takes sure) = false
lets_in Restarts = false

-- a packet is put into the queue
abbrev pub queues : Deed → Bool
queues Ticks = false
queues (Sends aged) = false
queues Queues = true
queues (Takes sure) = false
queues Restarts = false

-- a word is taken
abbrev pub takes_word : Deed → Bool
takes_word Ticks = false
takes_word (Sends aged) = false
takes_word Queues = false
takes_word (Takes sure) = true
takes_word Restarts = false

-- a word is taken that makes a talk sure
abbrev pub makes_sure : Deed → Bool
makes_sure Ticks = false
makes_sure (Sends aged) = false
makes_sure Queues = false
makes_sure (Takes sure) = sure
makes_sure Restarts = false

-- the gate restarts
abbrev pub restarts : Deed → Bool
restarts Ticks = false
restarts (Sends aged) = false
restarts Queues = false
restarts (Takes sure) = false
restarts Restarts = true

-- a stretch has a deed of this kind
unfoldable pub has : (Deed → Bool) → List Did → Bool
has kind [] = false
has kind (Then d hello ∷ ds) = kind d || has kind ds

-- a hello followed somewhere in a stretch
unfoldable pub has_hello : List Did → Bool
has_hello [] = false
has_hello (Then d hello ∷ ds) = hello || has_hello ds

-- the tick of a hello, where there was one, on top of those before
abbrev pub hello_at : (hello : Bool) → ℕ → List ℕ → List ℕ
hello_at true now ns = now ∷ ns
hello_at false now ns = ns

-- the ticks of all hellos, the latest first
unfoldable pub hello_ticks : List Did → List ℕ
hello_ticks [] = []
hello_ticks (Then d hello ∷ ds) = hello_at hello (after d (timer_of ds)).now (hello_ticks ds)

-- the deeds alone
unfoldable pub deeds_of : List Did → List Deed
deeds_of [] = []
deeds_of (Then d hello ∷ ds) = d ∷ deeds_of ds

-- n ticks on top of other deeds
unfoldable pub ticking : ℕ → List Deed → List Deed
ticking zero ds = ds
ticking (suc n) ds = Ticks ∷ ticking n ds

-- A packet that went out is unanswered, or one waits.
abbrev pub owes : Timer → Bool
owes t = t.unanswered || t.waiting

-- A stretch of n ticks or more, after whatever was done before, in which a packet was let in, or before which one was left unanswered or waiting; in which no word
-- was taken from the peer, the gate did not restart, and a hello followed wherever one was due.
pub record Unheard (n : ℕ) (before stretch : List Did) : Type 0 where
  pub obeys : Obeys before stretch
  pub lasts : n ≤ ticks stretch
  pub let_in : (has lets_in stretch || owes (timer_of before)) ≡ true
  pub takes_none : has takes_word stretch ≡ false
  pub stays_up : has restarts stretch ≡ false

-- In 15 ticks or more of that there is a hello, wherever in them the packet was let in. A stretch may begin and end with any deed: so of two packets, one sent 15
-- ticks after the other with no word taken between, there is a hello with one or between them, and no gate sends for more than 16 ticks to one that it does not
-- hear without a hello.
abbrev pub Timely : Type 0
Timely = (before stretch : List Did) → Unheard 15 before stretch → has_hello stretch ≡ true

-- 15 is the least: there is a run that ends in 14 ticks of that, with a packet let in in them, and without a hello in them, although hellos follow exactly where they
-- are due in all of it.
abbrev pub Sharp : Type 0
Sharp = (before stretch : List Did) × Unheard 14 before stretch × (has lets_in stretch ≡ true) × (has_hello stretch ≡ false) ×
    Obeys [] (stretch ++ before) × Exact [] (stretch ++ before)

-- While a packet waits there is a hello in any 5 ticks, whatever is sent and taken, unless it makes a talk sure.
abbrev pub Prompt : Type 0
Prompt = (before stretch : List Did) → Obeys before stretch → 5 ≤ ticks stretch → (has queues stretch || (timer_of before).waiting) ≡ true →
    has makes_sure stretch ≡ false → has restarts stretch ≡ false → has_hello stretch ≡ true

-- The ticks of a run's hellos, the latest first: each is above all that were before it, so that no two hellos are in one tick, and none is 0.
pub record Rises (run : List Did) : Type 0 where
  pub above : (i k a b : ℕ) → i < k → At i a (hello_ticks run) → At k b (hello_ticks run) → b < a
  pub begun : (i a : ℕ) → At i a (hello_ticks run) → 0 < a

-- Hello ticks rise in every run in which hellos follow only where they are due, over restarts too.
abbrev pub Rising : Type 0
Rising = (run : List Did) → Exact [] run → Rises run

-- Whatever the deeds, hellos can follow exactly where they are due, and in one way only.
pub record Kept : Type 0 where
  pub obeys : (ds : List Deed) → Obeys [] (keeping ds)
  pub exact : (ds : List Deed) → Exact [] (keeping ds)
  pub same : (ds : List Deed) → deeds_of (keeping ds) ≡ ds
  pub only : (run : List Did) → Obeys [] run → Exact [] run → run ≡ keeping (deeds_of run)

-- The timer after a deed on top of others, with a hello wherever one was due.
abbrev pub timer_at : Deed → List Deed → Timer
timer_at d ds = after d (timer_of (keeping ds))

-- A history with hellos by each rule at its edge. A packet is queued at tick 1; nothing comes until tick 5.
abbrev pub until_again : List Deed
until_again = ticking 4 (Queues ∷ [])

-- At tick 7 a reply comes, and the packet goes out; another one goes out at tick 12; nothing comes until tick 21.
abbrev pub until_silence : List Deed
until_silence = ticking 9 (Sends false ∷ ticking 5 (Sends false ∷ Takes true ∷ ticking 2 until_again))

-- Nothing comes until tick 37, when a reply does; the talk ages, and a packet goes out in it at tick 41.
abbrev pub until_ageing : List Deed
until_ageing = Ticks ∷ Sends true ∷ ticking 4 (Takes true ∷ ticking 16 until_silence)

-- Another one goes out in it at tick 42, and a word comes; nothing is done for 20 ticks. At tick 62 a packet goes out, one is queued, and the gate restarts; at tick
-- 63 it restarts again.
abbrev pub until_restart : List Deed
until_restart = Restarts ∷ Ticks ∷ Restarts ∷ Queues ∷ Sends false ∷ ticking 20 (Takes false ∷ Sends true ∷ until_ageing)

-- In that history each rule causes a hello without the others; for a packet that is queued in the tick of a restart there is one at the next tick; and a part of it
-- is as `Timely` asks.
pub record Shown : Type 0 where
  pub by_queue : (due Ticks (timer_at Ticks until_again) ≡ true) × (silent (timer_at Ticks until_again) ≡ false)
  pub by_silence : (due Ticks (timer_at Ticks until_silence) ≡ true) × (queued (timer_at Ticks until_silence) ≡ false)
  pub by_age : (due (Sends true) (timer_at (Sends true) until_ageing) ≡ true) × (silent (timer_at (Sends true) until_ageing) ≡ false)
  pub after_restart : (due Queues (timer_at Queues until_restart) ≡ false) × (queued (timer_at Queues until_restart) ≡ true)
  pub hellos : hello_ticks (keeping (Ticks ∷ Queues ∷ until_restart)) ≡ 64 ∷ 62 ∷ 42 ∷ 37 ∷ 22 ∷ 6 ∷ 1 ∷ []
  pub unheard : (before stretch : List Did) × Unheard 15 before stretch × (keeping (Ticks ∷ until_silence) ≡ stretch ++ before)
