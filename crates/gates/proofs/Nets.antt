-- Which words each event adds to the net, and what bringing a word does. Assumes nothing.
use Rattle.std.proofs.Common.{◌≡◌, ℕ, zero, suc, ◌<◌, ◌≤◌, true, false, not, ◌&&◌, eqb, List, [], ◌∷◌, ◌++◌, length, sym, refl, ap, ◌∙◌, subst, le_of_suc-le-suc, arith}
use Rattle.std.proofs.lemmas.Bool.{cond_both, cond-true, cond-false, and_parts, or_parts, eqb-true, eq-eqb, both_ways}
use Rattle.gates.specs.Lists.{At}
use Rattle.gates.specs.Talk.{Inner, Rules, may_send}
use Rattle.gates.specs.World.{Word, Hello, Reply, Packet, Empty, World, Ev, Tick, Greets, Puts, Lies, Brings, Restarts, Drops, Stays, Found, NoTalk, This}
use Rattle.gates.specs.World.{is_new, takes, taken, brings, brings_nth, sends, stays, step, world, for_sending, by_mine}
use Rattle.gates.specs.Promise.{lied, GreetsBelow, note_of, NoDelivery, AllTaking}
use Rattle.gates.proofs.Lists.{Each, each_none, each_cons}
use Rattle.gates.proofs.Talks.{Finds, for_sending_lem}

-- P holds of each word of the net
pub record Words (P : Word → Type 0) (w : World) : Type 0 where
  pub each : Each P w.net

-- P holds of whatever word an event may add
abbrev pub Makes : (P : Word → Type 0) → Rules → Ev → World → Type 0
Makes P r (Tick a) w = Unit {0}
Makes P r (Greets a e t) w = P (Hello a e t (w.now a))
Makes P r (Puts a x) w = (m h n : ℕ) → r.owner x.from ≡ a → P (Packet a (r.owner x.to) m h n x)
Makes P r (Lies a e x) w = (m h n : ℕ) → P (Packet a e m h n x)
Makes P r (Brings e i t) w = (a y k : ℕ) → P (Reply e a y k)
Makes P r (Restarts a) w = Unit {0}
Makes P r (Drops a m) w = Unit {0}
Makes P r (Stays a m) w = (e k h n : ℕ) → P (Empty a e k h n)

words-taken : (P : Word → Type 0) (e new : ℕ) (x : Word) (w : World) → ((a y k : ℕ) → P (Reply e a y k)) → Words P w → Words P (taken e new x w)
words-taken P e new (Hello a f tag n) w p h = record { each = each_cons P (Reply e a new tag) w.net (p a new tag) h.each }
words-taken P e new (Reply a f tag k) w p h = record { each = h.each }
words-taken P e new (Packet a f m k n x) w p h = record { each = h.each }
words-taken P e new (Empty a f m k n) w p h = record { each = h.each }

words-brought : (P : Word → Type 0) (r : Rules) (e i new : ℕ) (xs : List Word) (w : World) → ((a y k : ℕ) → P (Reply e a y k)) → Words P w → Words P (brings_nth r e i new xs w)
unfolding brings_nth
words-brought P r e i new [] w p h = h
words-brought P r e zero new (x ∷ xs) w p h = cond_both (takes r e new x w) (taken e new x w) w (Words P) (λ t. words-taken P e new x w p h) (λ t. h)
words-brought P r e (suc i) new (x ∷ xs) w p h = words-brought P r e i new xs w p h

words-sent : (P : Word → Type 0) (r : Rules) (a e : ℕ) (x : Inner) (f : Found) (w : World) → Finds (λ t. (t.with' ≡ e) × (may_send r (w.now a) t ≡ true)) (w.gates a).talks f →
    ((m h n : ℕ) → P (Packet a e m h n x)) → Words P w → Words P (sends a x f w)
words-sent P r a e x NoTalk w i p h = h
words-sent P r a e x (This t) w i p h =
    record {
      each =
          each_cons
          P
          (Packet a t.with' t.mine t.theirs (suc t.sent) x)
          w.net
          (subst (λ z. P (Packet a z t.mine t.theirs (suc t.sent) x)) (sym i.1.0) (p t.mine t.theirs (suc t.sent)))
          h.each;
    }

words_stay : (P : Word → Type 0) (r : Rules) (a : ℕ) (f : Found) (w : World) → ((e k h n : ℕ) → P (Empty a e k h n)) → Words P w → Words P (stays r a f w)
words_stay P r a NoTalk w p h = h
words_stay P r a (This t) w p h =
    cond_both
    (may_send r (w.now a) t)
    _
    w
    (Words P)
    (λ e. record { each = each_cons P (Empty a t.with' t.mine t.theirs (suc t.sent)) w.net (p t.with' t.mine t.theirs (suc t.sent)) h.each })
    (λ e. h)

pub words_step : (P : Word → Type 0) (r : Rules) (v : Ev) (w : World) → Makes P r v w → Words P w → Words P (step r v w)
words_step P r (Tick a) w p h = record { each = h.each }
words_step P r (Greets a e t) w p h =
    cond_both (is_new t w && not (eqb a e)) _ w (Words P) (λ c. record { each = each_cons P (Hello a e t (w.now a)) w.net p h.each }) (λ c. h)
words_step P r (Puts a x) w p h =
    cond_both
    (eqb (r.owner x.from) a && not (eqb (r.owner x.to) a))
    _
    w
    (Words P)
    (λ c.
    let from = eqb-true (r.owner x.from) a (and_parts (eqb (r.owner x.from) a) (not (eqb (r.owner x.to) a)) c).0 in
    words-sent P r a (r.owner x.to) x _ w (for_sending_lem r (w.now a) (r.owner x.to) (w.gates a).talks) (λ m k n. p m k n from) h)
    (λ c. h)
words_step P r (Lies a e x) w p h = words-sent P r a e x _ w (for_sending_lem r (w.now a) e (w.gates a).talks) p h
words_step P r (Brings e i t) w p h = words-brought P r e i t w.net w p h
words_step P r (Restarts a) w p h = record { each = h.each }
words_step P r (Drops a m) w p h = record { each = h.each }
words_step P r (Stays a m) w p h = words_stay P r a (by_mine m (w.gates a).talks) w p h

-- a hello is between gates below k
abbrev pub HelloBelow : ℕ → Word → Type 0
HelloBelow k (Hello a e t n) = (a < k) × (e < k)
HelloBelow k (Reply a e t n) = Unit {0}
HelloBelow k (Packet a e m h n x) = Unit {0}
HelloBelow k (Empty a e m h n) = Unit {0}

pub hellos-below : (r : Rules) (k : ℕ) (es : List Ev) → GreetsBelow k es → Words (HelloBelow k) (world r es)
unfolding world GreetsBelow
hellos-below r k [] g = record { each = each_none _ }
hellos-below r k (Tick a ∷ es) g = words_step (HelloBelow k) r (Tick a) (world r es) tt (hellos-below r k es g)
hellos-below r k (Greets a e t ∷ es) g = words_step (HelloBelow k) r (Greets a e t) (world r es) (g.0, g.1) (hellos-below r k es g.2)
hellos-below r k (Puts a x ∷ es) g = words_step (HelloBelow k) r (Puts a x) (world r es) (λ m h n e. tt) (hellos-below r k es g)
hellos-below r k (Lies a e x ∷ es) g = words_step (HelloBelow k) r (Lies a e x) (world r es) (λ m h n. tt) (hellos-below r k es g)
hellos-below r k (Brings e i t ∷ es) g = words_step (HelloBelow k) r (Brings e i t) (world r es) (λ a y n. tt) (hellos-below r k es g)
hellos-below r k (Restarts a ∷ es) g = words_step (HelloBelow k) r (Restarts a) (world r es) tt (hellos-below r k es g)
hellos-below r k (Drops a m ∷ es) g = words_step (HelloBelow k) r (Drops a m) (world r es) tt (hellos-below r k es g)
hellos-below r k (Stays a m ∷ es) g = words_step (HelloBelow k) r (Stays a m) (world r es) (λ e j h n. tt) (hellos-below r k es g)

-- a packet of a gate that has not lied is between the owners of its addresses
abbrev pub Honest : Rules → List Ev → Word → Type 0
Honest r es (Hello a e t n) = Unit {0}
Honest r es (Reply a e t n) = Unit {0}
Honest r es (Packet a e m h n x) = lied a es ≡ false → (r.owner x.from ≡ a) × (r.owner x.to ≡ e)
Honest r es (Empty a e m h n) = Unit {0}

lied_less : (a : ℕ) (v : Ev) (es : List Ev) → lied a (v ∷ es) ≡ false → lied a es ≡ false
unfolding lied
lied_less a (Tick b) es e = e
lied_less a (Greets b f t) es e = e
lied_less a (Puts b x) es e = e
lied_less a (Lies b f x) es e = (or_parts (eqb b a) (lied a es) e).1
lied_less a (Brings f i t) es e = e
lied_less a (Restarts b) es e = e
lied_less a (Drops b m) es e = e
lied_less a (Stays b m) es e = e

honest_later : (r : Rules) (v : Ev) (es : List Ev) (x : Word) → Honest r es x → Honest r (v ∷ es) x
honest_later r v es (Hello a e t n) h = tt
honest_later r v es (Reply a e t n) h = tt
honest_later r v es (Packet a e m k n x) h = λ l. h (lied_less a v es l)
honest_later r v es (Empty a e m k n) h = tt

honest_makes : (r : Rules) (v : Ev) (es : List Ev) → Makes (Honest r (v ∷ es)) r v (world r es)
unfolding lied
honest_makes r (Tick a) es = tt
honest_makes r (Greets a e t) es = tt
honest_makes r (Puts a x) es = λ m h n from l. (from, refl)
honest_makes r (Lies a e x) es = λ m h n l. absurd (both_ways (eqb a a) (or_parts (eqb a a) (lied a es) l).0 (eq-eqb a a refl))
honest_makes r (Brings e i t) es = λ a y k. tt
honest_makes r (Restarts a) es = tt
honest_makes r (Drops a m) es = tt
honest_makes r (Stays a m) es = λ e k h n. tt

pub honest : (r : Rules) (es : List Ev) → Words (Honest r es) (world r es)
unfolding world
honest r [] = record { each = each_none _ }
honest r (v ∷ es) =
    words_step (Honest r (v ∷ es)) r v (world r es) (honest_makes r v es) (record { each = λ x i. honest_later r v es x ((honest r es).each x i) })

-- bringing by place is bringing the word that stands there
pub brings-at : (r : Rules) (e i new : ℕ) (x : Word) (xs : List Word) (w : World) → At i x xs → brings_nth r e i new xs w ≡ brings r e new x w
unfolding brings_nth At
brings-at r e i new x [] w h = absurd h
brings-at r e zero new x (y ∷ ys) w h = ap (λ z. brings r e new z w) h
brings-at r e (suc i) new x (y ∷ ys) w h = brings-at r e i new x ys w h

brings-none : (r : Rules) (e i new : ℕ) (xs : List Word) (w : World) → length xs ≤ i → brings_nth r e i new xs w ≡ w
unfolding brings_nth
brings-none r e i new [] w h = refl
brings-none r e zero new (y ∷ ys) w h = absurd (not_under (length ys) h)
  where
    not_under : (n : ℕ) → suc n ≤ 0 → ⊥
    not_under n k = omega arith
brings-none r e (suc i) new (y ∷ ys) w h = brings-none r e i new ys w (le_of_suc-le-suc h)

taken_out : (e new : ℕ) (x : Word) (w : World) → (taken e new x w).out ≡ note_of e x ++ w.out
taken_out e new (Hello a f tag n) w = refl
taken_out e new (Reply a f tag k) w = refl
taken_out e new (Packet a f m h n x) w = refl
taken_out e new (Empty a f m h n) w = refl

-- what came out is as it was
record SameOut (w v : World) : Type 0 where
  pub same : v.out ≡ w.out

sends-out : (a : ℕ) (x : Inner) (f : Found) (w : World) → SameOut w (sends a x f w)
sends-out a x NoTalk w = record { same = refl }
sends-out a x (This t) w = record { same = refl }

stays_out : (r : Rules) (a : ℕ) (f : Found) (w : World) → SameOut w (stays r a f w)
stays_out r a NoTalk w = record { same = refl }
stays_out r a (This t) w = cond_both (may_send r (w.now a) t) _ w (SameOut w) (λ e. record { same = refl }) (λ e. record { same = refl })

no_other : (r : Rules) (w : World) (v : Ev) → NoDelivery v → SameOut w (step r v w)
no_other r w (Tick a) d = record { same = refl }
no_other r w (Greets a e t) d = cond_both (is_new t w && not (eqb a e)) _ w (SameOut w) (λ c. record { same = refl }) (λ c. record { same = refl })
no_other r w (Puts a x) d =
    cond_both
    (eqb (r.owner x.from) a && not (eqb (r.owner x.to) a))
    _
    w
    (SameOut w)
    (λ c. sends-out a x (for_sending r (w.now a) (r.owner x.to) (w.gates a).talks) w)
    (λ c. record { same = refl })
no_other r w (Lies a e x) d = sends-out a x (for_sending r (w.now a) e (w.gates a).talks) w
no_other r w (Brings e i t) d = absurd d
no_other r w (Restarts a) d = record { same = refl }
no_other r w (Drops a m) d = record { same = refl }
no_other r w (Stays a m) d = stays_out r a (by_mine m (w.gates a).talks) w

pub taking : AllTaking
unfolding world
taking r es =
    record {
      accepted =
          λ e i y x h t.
          ap (λ (z : World). z.out) (brings-at r e i y x (world r es).net (world r es) h ∙ cond-true (takes r e y x (world r es)) _ _ t) ∙
          taken_out e y x (world r es);
      refused = λ e i y x h t. brings-at r e i y x (world r es).net (world r es) h ∙ cond-false (takes r e y x (world r es)) _ _ t;
      nothing = λ e i y h. brings-none r e i y (world r es).net (world r es) h;
      no_other = λ v d. (no_other r (world r es) v d).same;
    }
