-- What holds of every world that events make: who drew each tag, what each word has behind it, and what each gate remembers of them. Assumes nothing.
use Rattle.std.proofs.Common.{◌≡◌, ℕ, ◌<◌, ◌≤◌, true, List, sym, refl, ap, ◌∙◌, subst, le_trans}
use Rattle.gates.specs.Lists.{In}
use Rattle.gates.specs.Talk.{Rules, Talk, is_in}
use Rattle.gates.specs.World.{Word, Hello, Reply, Packet, Empty, Wait, Gate, Note, World, note}
use Rattle.gates.specs.Promise.{by_of}
use Rattle.gates.proofs.Lists.{Each, Distinct, distinct_same}
use Rattle.gates.proofs.Talks.{SameTag}

-- the word was made with tag t drawn for it
abbrev pub Draws : ℕ → Word → Type 0
Draws t (Hello a e t' n) = t' ≡ t
Draws t (Reply a e t' k) = t' ≡ t
Draws t (Packet a e m h n x) = ⊥
Draws t (Empty a e m h n) = ⊥

-- the word answers the hello with tag t
abbrev pub Answers : ℕ → Word → Type 0
Answers t (Hello a e t' n) = ⊥
Answers t (Reply a e t' k) = k ≡ t
Answers t (Packet a e m h n x) = ⊥
Answers t (Empty a e m h n) = ⊥

-- the word uses number n of the side of a talk that has tag m
abbrev pub Uses : (m n : ℕ) → Word → Type 0
Uses m n (Hello a e t k) = ⊥
Uses m n (Reply a e t k) = ⊥
Uses m n (Packet a e m' h n' x) = (m' ≡ m) × (n' ≡ n)
Uses m n (Empty a e m' h n') = (m' ≡ m) × (n' ≡ n)

abbrev pub SameDraw : Word → Word → Type 0
SameDraw x y = (t : ℕ) × Draws t x × Draws t y

abbrev pub SameAnswer : Word → Word → Type 0
SameAnswer x y = (t : ℕ) × Answers t x × Answers t y

abbrev pub SameUse : Word → Word → Type 0
SameUse x y = (m : ℕ) × (n : ℕ) × Uses m n x × Uses m n y

-- two notes of one gate's tag and one number
abbrev pub SameNote : Note → Note → Type 0
SameNote o q = (o.gate_tag ≡ q.gate_tag) × (o.number ≡ q.number)

-- where a talk of gate a with gate e by tags m and h comes from: a replied, or a greeted and e replied
pub data Origin (net : List Word) (a e m h : ℕ) : Type 0 where
  answered : In (Reply a e m h) net → Origin net a e m h
  greeted : (n : ℕ) → In (Hello a e m n) net → In (Reply e a h m) net → Origin net a e m h

-- gate a drew tag m
abbrev pub Drew : List Word → (a m : ℕ) → Type 0
Drew net a m = (x : Word) × In x net × Draws m x × (by_of x ≡ a)

-- what each word of the net has behind it
abbrev pub Sound : Rules → World → Word → Type 0
Sound r w (Hello a e t n) = (a ≡ e → ⊥) × (0 < t) × (is_in t w.drawn ≡ true) × (n ≤ w.now a)
Sound r w (Reply e a y t) = (0 < y) × (is_in y w.drawn ≡ true) × ((n : ℕ) × In (Hello a e t n) w.net × (n ≤ (w.gates e).last_hello a))
Sound r w (Packet a e m h n x) = (0 < n) × (n ≤ r.most) × Origin w.net a e m h × In (note a e m h n x) w.put
Sound r w (Empty a e m h n) = (0 < n) × (n ≤ r.most) × Origin w.net a e m h

-- the packet that was sent for what was put in
abbrev pub packet_of : Note → Word
packet_of p = Packet p.gate p.other p.gate_tag p.other_tag p.number p.inner

-- the packet that was brought for what came out
abbrev pub packet_for : Note → Word
packet_for o = Packet o.other o.gate o.other_tag o.gate_tag o.number o.inner

-- what came out was a packet of the net, and its addresses are the two gates'
pub record Owned (r : Rules) (net : List Word) (o : Note) : Type 0 where
  pub word : In (packet_for o) net
  pub source : r.owner o.inner.from ≡ o.other
  pub goal : r.owner o.inner.to ≡ o.gate

-- what gate a remembers of a talk is all there is: no number above `sent` was used in it, and all that came out of it was heard
pub record Had (net : List Word) (out : List Note) (a : ℕ) (t : Talk) : Type 0 where
  pub origin : Origin net a t.with' t.mine t.theirs
  pub used : (x : Word) (n : ℕ) → In x net → Uses t.mine n x → n ≤ t.sent
  pub came-out : (o : Note) → In o out → o.gate_tag ≡ t.mine → is_in o.number t.heard ≡ true

-- a hello that waits was said, and its tag was used for nothing yet
pub record Waiting (net : List Word) (out : List Note) (a : ℕ) (x : Wait) : Type 0 where
  pub said : In (Hello a x.for' x.tag x.at) net
  pub unused : (y : Word) (n : ℕ) → In y net → Uses x.tag n y → ⊥
  pub unheard : (o : Note) → In o out → o.gate_tag ≡ x.tag → ⊥

-- all of one gate's memory
pub record Memory (net : List Word) (out : List Note) (a : ℕ) (g : Gate) : Type 0 where
  pub apart : Distinct SameTag g.talks
  pub unmet : (t : Talk) (x : Wait) → In t g.talks → In x g.waits → t.mine ≡ x.tag → ⊥
  pub talks_had : Each (Had net out a) g.talks
  pub waits_had : Each (Waiting net out a) g.waits

-- the net, and what was put in and came out
pub record Kept (r : Rules) (w : World) : Type 0 where
  pub words : Each (Sound r w) w.net
  pub draws : Distinct SameDraw w.net
  pub answers : Distinct SameAnswer w.net
  pub uses : Distinct SameUse w.net
  pub puts_sent : Each (λ p. In (packet_of p) w.net) w.put
  pub puts_apart : Distinct SameNote w.put
  pub outs_owned : Each (Owned r w.net) w.out
  pub outs_apart : Distinct SameNote w.out
  pub hellos : (e a : ℕ) → (w.gates e).last_hello a ≤ w.now a

pub record Inv (r : Rules) (w : World) : Type 0 where
  pub kept : Kept r w
  pub memory : (a : ℕ) → Memory w.net w.out a (w.gates a)

-- world v has all that world w had, and no clock and no last hello went back
pub record Grows (w v : World) : Type 0 where
  pub net_grows : (x : Word) → In x w.net → In x v.net
  pub put_grows : (p : Note) → In p w.put → In p v.put
  pub drawn_grows : (t : ℕ) → is_in t w.drawn ≡ true → is_in t v.drawn ≡ true
  pub now_grows : (a : ℕ) → w.now a ≤ v.now a
  pub hello_grows : (e a : ℕ) → (w.gates e).last_hello a ≤ (v.gates e).last_hello a

pub origin_grows : {net more : List Word} (a e m h : ℕ) → ((x : Word) → In x net → In x more) → Origin net a e m h → Origin more a e m h
origin_grows a e m h g (answered i) = answered (g _ i)
origin_grows a e m h g (greeted n i j) = greeted n (g _ i) (g _ j)

pub sound_grows : (r : Rules) (w v : World) → Grows w v → (x : Word) → Sound r w x → Sound r v x
sound_grows r w v g (Hello a e t n) s = (s.0, s.1, g.drawn_grows t s.2, le_trans s.3 (g.now_grows a))
sound_grows r w v g (Reply e a y t) s =
    (s.0, g.drawn_grows y s.1, (s.2.0, g.net_grows _ s.2.1, le_trans s.2.2 (g.hello_grows e a)))
sound_grows r w v g (Packet a e m h n x) s = (s.0, s.1, origin_grows a e m h g.net_grows s.2, g.put_grows _ s.3)
sound_grows r w v g (Empty a e m h n) s = (s.0, s.1, origin_grows a e m h g.net_grows s.2)

-- each tag was drawn for one word
pub one-draw : (net : List Word) → Distinct SameDraw net → (t : ℕ) (x y : Word) → In x net → In y net → Draws t x → Draws t y → x ≡ y
one-draw net d t x y i j p q = distinct_same SameDraw (λ u v s. (s.0, s.2, s.1)) net d x y i j (t, p, q)

-- each hello was answered once
pub one_answer : (net : List Word) → Distinct SameAnswer net → (t : ℕ) (x y : Word) → In x net → In y net → Answers t x → Answers t y → x ≡ y
one_answer net d t x y i j p q = distinct_same SameAnswer (λ u v s. (s.0, s.2, s.1)) net d x y i j (t, p, q)

-- and by one gate
pub one_drawer : (net : List Word) → Distinct SameDraw net → (a e m : ℕ) → Drew net a m → Drew net e m → a ≡ e
one_drawer net d a e m p q = sym p.3 ∙ (ap by_of (one-draw net d m p.0 q.0 p.1 q.1 p.2 q.2) ∙ q.3)

pub origin_drew : (net : List Word) (a e m h : ℕ) → Origin net a e m h → Drew net a m
origin_drew net a e m h (answered i) = (_, i, refl, refl)
origin_drew net a e m h (greeted n i j) = (_, i, refl, refl)

module _ (r : Rules) (w : World) (k : Kept r w) where
  pub drew-drawn : (a m : ℕ) → Drew w.net a m → is_in m w.drawn ≡ true
  drew-drawn a m d = of d.0 (k.words d.0 d.1) d.2
    where
      of : (x : Word) → Sound r w x → Draws m x → is_in m w.drawn ≡ true
      of (Hello b e t n) s p = subst (λ v. is_in v w.drawn ≡ true) p s.2
      of (Reply b e t n) s p = subst (λ v. is_in v w.drawn ≡ true) p s.1
      of (Packet b e m' h n x) s p = absurd p
      of (Empty b e m' h n) s p = absurd p

  -- the other side's tag was drawn by the other gate
  pub origin_other : (a e m h : ℕ) → Origin w.net a e m h → Drew w.net e h
  origin_other a e m h (answered i) = (_, (k.words _ i).2.1, refl, refl)
  origin_other a e m h (greeted n i j) = (_, j, refl, refl)

  -- a word of a talk comes from where the talk does
  pub uses_origin : (m n : ℕ) (x : Word) → In x w.net → Uses m n x → (a : ℕ) × (e : ℕ) × (h : ℕ) × Origin w.net a e m h
  uses_origin m n x i u = of x (k.words x i) u
    where
      of : (y : Word) → Sound r w y → Uses m n y → (a : ℕ) × (e : ℕ) × (h : ℕ) × Origin w.net a e m h
      of (Hello b e t n') s p = absurd p
      of (Reply b e t n') s p = absurd p
      of (Packet b e m' h n' z) s p = (b, e, h, subst (λ v. Origin w.net b e v h) p.0 s.2)
      of (Empty b e m' h n') s p = (b, e, h, subst (λ v. Origin w.net b e v h) p.0 s.2)
