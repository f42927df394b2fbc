-- What is promised of any gates, any packets, and a net that keeps every word and brings anything to anybody. Each statement is a type; its proof is the theorem.
-- Assumes nothing.
use Rattle.std.specs.Prelude.{◌≡◌, ℕ, suc, ◌<◌, ◌≤◌, Bool, true, false, ◌&&◌, ◌||◌, List, [], ◌∷◌, ◌++◌, length, ◌==◌, ◌≢◌}
use Rattle.gates.specs.Lists.{In, At}
use Rattle.gates.specs.Talk.{Inner, Rules, Talk, new_talk, may_come, came}
use Rattle.gates.specs.World.{Word, Hello, Reply, Packet, Empty, Note, World, Ev, Tick, Greets, Puts, Lies, Brings, Restarts, Drops, Stays, is_new, is_talk, note, takes, world}

-- The same packet under the same number in the same talk, seen from the talk's other side.
abbrev pub mirror : Note → Note
mirror o = note o.other o.gate o.other_tag o.gate_tag o.number o.inner

-- somebody who holds gate a's keys has lied about addresses
unfoldable pub lied : ℕ → List Ev → Bool
lied a [] = false
lied a (Tick b ∷ es) = lied a es
lied a (Greets b e t ∷ es) = lied a es
lied a (Puts b x ∷ es) = lied a es
lied a (Lies b e x ∷ es) = b == a || lied a es
lied a (Brings e i t ∷ es) = lied a es
lied a (Restarts b ∷ es) = lied a es
lied a (Drops b m ∷ es) = lied a es
lied a (Stays b m ∷ es) = lied a es

-- A packet from gate a may pass at gate e in a talk: its number may come there, a owns its source, and e owns its destination.
abbrev pub may_pass : Rules → (now a e n : ℕ) → Inner → Talk → Bool
may_pass r now a e n x t = may_come r now n t && (r.owner x.from == a && r.owner x.to == e)

-- From world w to world v a packet under number n came out of talk t at gate e: exactly this note is added, and nothing is changed but this talk, in which n came.
pub record LetOut (e n : ℕ) (t : Talk) (o : Note) (w v : World) : Type 0 where
  pub out_so : v.out ≡ o ∷ w.out
  pub talks_so : (before : List Talk) × (after : List Talk) × ((w.gates e).talks ≡ before ++ (t ∷ after)) × ((v.gates e).talks ≡ before ++ (came n t ∷ after))
  pub waits_so : (v.gates e).waits ≡ (w.gates e).waits
  pub hellos_so : (v.gates e).last_hello ≡ (w.gates e).last_hello
  pub others_so : (j : ℕ) → (j ≢ e) → v.gates j ≡ w.gates j
  pub now_so : v.now ≡ w.now
  pub net_so : v.net ≡ w.net
  pub put_so : v.put ≡ w.put
  pub drawn_so : v.drawn ≡ w.drawn

-- Gate a, at a new tick, greets gate e under tag t; the hello is brought, and then its reply, for which e draws y. (Events stand latest first.)
abbrev pub greeting : (a e t y : ℕ) → List Ev
greeting a e t y = Brings a 0 0 ∷ Brings e 0 y ∷ Greets a e t ∷ Tick a ∷ []

-- these packets are put in at gate a
unfoldable pub put_all : ℕ → List Inner → List Ev
put_all a [] = []
put_all a (p ∷ ps) = Puts a p ∷ put_all a ps

-- After that the packets that waited are put in, and then x, and x is brought.
abbrev pub passing : (a e t y : ℕ) → List Inner → Inner → List Ev
passing a e t y ps x = Brings e 0 0 ∷ Puts a x ∷ (put_all a ps ++ greeting a e t y)

-- THE PROMISE, of the world after any events: what comes out was put in, by whom it says, for here, once; nothing else goes over the net; and it always can.
pub record Whole (r : Rules) (es : List Ev) : Type 0 where
  -- What came out was put in, at the gate that owns its source, for this gate, which owns its destination: the same talk, number and bytes.
  pub was_put : (o : Note) → In o (world r es).out → In (mirror o) (world r es).put × (r.owner o.inner.from ≡ o.other) × (r.owner o.inner.to ≡ o.gate)
  -- What was put in comes out once: no two places of what came out are one that was put in.
  pub once : (i k : ℕ) (o q : Note) → At i o (world r es).out → At k q (world r es).out → mirror o ≡ mirror q → i ≡ k
  -- A packet goes over the net only if it was put in, just so; and unless its gate lied, by its source's owner for its destination's.
  pub nothing_bare : (a e m h n : ℕ) (x : Inner) → In (Packet a e m h n x) (world r es).net →
      In (note a e m h n x) (world r es).put × (lied a es ≡ false → (r.owner x.from ≡ a) × (r.owner x.to ≡ e))
  -- A packet that is brought where its talk is comes out exactly when it may pass, and then nothing else changes; else nothing at all does.
  pub comes_when : (a e m h n i y : ℕ) (x : Inner) (t : Talk) → At i (Packet a e m h n x) (world r es).net → In t ((world r es).gates e).talks → is_talk a h m t ≡ true →
      (may_pass r ((world r es).now e) a e n x t ≡ true → LetOut e n t (note e a h m n x) (world r es) (world r (Brings e i y ∷ es))) ×
      (may_pass r ((world r es).now e) a e n x t ≡ false → world r (Brings e i y ∷ es) ≡ world r es)
  -- Where its talk is not, nothing changes.
  pub no_talk : (a e m h n i y : ℕ) (x : Inner) → At i (Packet a e m h n x) (world r es).net → ((t : Talk) → In t ((world r es).gates e).talks → is_talk a h m t ≡ false) →
      world r (Brings e i y ∷ es) ≡ world r es
  -- It always can: a hello of a new tick and its reply, brought at once, give both gates a talk; and what is then put in where the hello was said, after
  -- whatever waited, fewer than the most, comes out when it is brought, once.
  pub can : (x : Inner) (ps : List Inner) (a e t y : ℕ) → r.owner x.from ≡ a → r.owner x.to ≡ e → (a ≢ e) →
      length ps < r.most → ((p : Inner) → In p ps → (r.owner p.from ≡ a) × (r.owner p.to ≡ e)) →
      is_new t (world r es) ≡ true → is_new y (world r es) ≡ true → (t ≢ y) →
      (((world r (greeting a e t y ++ es)).gates a).talks ≡ new_talk e t y (suc ((world r es).now a)) true ∷ ((world r es).gates a).talks) ×
      (((world r (greeting a e t y ++ es)).gates e).talks ≡ new_talk a y t ((world r es).now e) false ∷ ((world r es).gates e).talks) ×
      ((world r (passing a e t y ps x ++ es)).out ≡ note e a y t (suc (length ps)) x ∷ (world r es).out)

abbrev pub Main : Type 0
Main = (r : Rules) (es : List Ev) → Whole r es

-- TAGS, PAIRS AND NUMBERS, of the world after any events.
pub record Apart (r : Rules) (es : List Ev) : Type 0 where
  -- No tag is had by two talks, at one gate or two.
  pub tags : (a e i k : ℕ) (t u : Talk) → At i t ((world r es).gates a).talks → At k u ((world r es).gates e).talks → t.mine ≡ u.mine → (a ≡ e) × (i ≡ k)
  -- The other side of a talk is at the gate that it is with, and has the same two tags;
  pub pairs : (a e : ℕ) (t u : Talk) → In t ((world r es).gates a).talks → In u ((world r es).gates e).talks → u.theirs ≡ t.mine →
      (e ≡ t.with') × (u.with' ≡ a) × (u.mine ≡ t.theirs)
  -- and there is at most one.
  pub one_side : (a e f i k : ℕ) (t u v : Talk) → In t ((world r es).gates a).talks → At i u ((world r es).gates e).talks → At k v ((world r es).gates f).talks →
      u.theirs ≡ t.mine → v.theirs ≡ t.mine → (e ≡ f) × (i ≡ k)
  -- No packet is sent under number 0 or one above the most,
  pub range : (p : Note) → In p (world r es).put → (0 < p.number) × (p.number ≤ r.most)
  -- and no two are sent under one number of a talk.
  pub numbers : (i k : ℕ) (p q : Note) → At i p (world r es).put → At k q (world r es).put → p.gate_tag ≡ q.gate_tag → p.number ≡ q.number → i ≡ k

abbrev pub AllApart : Type 0
AllApart = (r : Rules) (es : List Ev) → Apart r es

-- Who made a word, and for whom.
abbrev pub by_of : Word → ℕ
by_of (Hello a e t n) = a
by_of (Reply a e t k) = a
by_of (Packet a e m h n x) = a
by_of (Empty a e m h n) = a

abbrev pub for_of : Word → ℕ
for_of (Hello a e t n) = e
for_of (Reply a e t k) = e
for_of (Packet a e m h n x) = e
for_of (Empty a e m h n) = e

-- no tag in a word is 0, and no number
abbrev pub NoZero : Word → Type 0
NoZero (Hello a e t n) = 0 < t
NoZero (Reply a e t k) = (0 < t) × (0 < k)
NoZero (Packet a e m h n x) = (0 < m) × (0 < h) × (0 < n)
NoZero (Empty a e m h n) = (0 < m) × (0 < h) × (0 < n)

-- the word is of a talk: its maker's tag is m, its opener's h, and its number n
abbrev pub OfTalk : (m h n : ℕ) → Word → Type 0
OfTalk m h n (Hello a e t k) = ⊥
OfTalk m h n (Reply a e t k) = ⊥
OfTalk m h n (Packet a e m' h' n' x) = (m' ≡ m) × (h' ≡ h) × (n' ≡ n)
OfTalk m h n (Empty a e m' h' n') = (m' ≡ m) × (h' ≡ h) × (n' ≡ n)

-- every hello of these events is said by and to a gate below this number
unfoldable pub GreetsBelow : ℕ → List Ev → Type 0
GreetsBelow k [] = Unit {0}
GreetsBelow k (Tick a ∷ es) = GreetsBelow k es
GreetsBelow k (Greets a e t ∷ es) = (a < k) × (e < k) × GreetsBelow k es
GreetsBelow k (Puts a x ∷ es) = GreetsBelow k es
GreetsBelow k (Lies a e x ∷ es) = GreetsBelow k es
GreetsBelow k (Brings e i t ∷ es) = GreetsBelow k es
GreetsBelow k (Restarts a ∷ es) = GreetsBelow k es
GreetsBelow k (Drops a m ∷ es) = GreetsBelow k es
GreetsBelow k (Stays a m ∷ es) = GreetsBelow k es

-- WORDS, of the net after any events.
pub record Proper (r : Rules) (es : List Ev) : Type 0 where
  -- No word has a tag of 0 or a number of 0.
  pub no_zero : (x : Word) → In x (world r es).net → NoZero x
  -- No word is made by the gate that it is for.
  pub not_to_self : (x : Word) → In x (world r es).net → by_of x ≢ for_of x
  -- No word stands twice in the net.
  pub once : (i k : ℕ) (x : Word) → At i x (world r es).net → At k x (world r es).net → i ≡ k
  -- A hello's tick is never above its maker's clock.
  pub on_time : (a e t n : ℕ) → In (Hello a e t n) (world r es).net → n ≤ (world r es).now a
  -- No number is used twice by one side of a talk, for packets and keepalives together: so no nonce is.
  pub numbers : (i k m h h' n : ℕ) (x y : Word) → At i x (world r es).net → At k y (world r es).net → OfTalk m h n x → OfTalk m h' n y → i ≡ k
  -- Two words for one opener's tag have the same maker, opener and maker's tag: so a talk can be found by its maker and the opener's tag alone.
  pub opener : (m m' h n n' : ℕ) (x y : Word) → In x (world r es).net → In y (world r es).net → OfTalk m h n x → OfTalk m' h n' y →
      (m ≡ m') × (by_of x ≡ by_of y) × (for_of x ≡ for_of y)
  -- Where all hellos are between gates below k, all words are.
  pub below : (k : ℕ) → GreetsBelow k es → (x : Word) → In x (world r es).net → (by_of x < k) × (for_of x < k)

abbrev pub AllProper : Type 0
AllProper = (r : Rules) (es : List Ev) → Proper r es

-- what comes out when a word is taken at gate e
abbrev pub note_of : ℕ → Word → List Note
note_of e (Hello a f t n) = []
note_of e (Reply a f t k) = []
note_of e (Packet a f m h n x) = note e a h m n x ∷ []
note_of e (Empty a f m h n) = []

-- the event is no delivery of a word
abbrev pub NoDelivery : Ev → Type 0
NoDelivery (Tick a) = Unit {0}
NoDelivery (Greets a e t) = Unit {0}
NoDelivery (Puts a x) = Unit {0}
NoDelivery (Lies a e x) = Unit {0}
NoDelivery (Brings e i t) = ⊥
NoDelivery (Restarts a) = Unit {0}
NoDelivery (Drops a m) = Unit {0}
NoDelivery (Stays a m) = Unit {0}

-- ONE TEST FOR ALL FOUR KINDS: whether a word that is brought is taken, in the world after any events.
pub record Taking (r : Rules) (es : List Ev) : Type 0 where
  -- Taken: what came out grows by exactly its note, or by nothing where it is no packet.
  pub accepted : (e i y : ℕ) (x : Word) → At i x (world r es).net → takes r e y x (world r es) ≡ true → (world r (Brings e i y ∷ es)).out ≡ note_of e x ++ (world r es).out
  -- Not taken: the whole world is as it was.
  pub refused : (e i y : ℕ) (x : Word) → At i x (world r es).net → takes r e y x (world r es) ≡ false → world r (Brings e i y ∷ es) ≡ world r es
  -- Where there is no word, nothing happens.
  pub nothing : (e i y : ℕ) → length (world r es).net ≤ i → world r (Brings e i y ∷ es) ≡ world r es
  -- No other event lets anything out.
  pub no_other : (v : Ev) → NoDelivery v → (world r (v ∷ es)).out ≡ (world r es).out

abbrev pub AllTaking : Type 0
AllTaking = (r : Rules) (es : List Ev) → Taking r es
