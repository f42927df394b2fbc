-- Tags, pairs, numbers and words, read off where each talk and each word comes from. Assumes nothing.
use Rattle.std.proofs.Common.{◌≡◌, ℕ, ◌<◌, sym, refl, ◌∙◌, subst, arith}
use Rattle.gates.specs.Lists.{In, At}
use Rattle.gates.specs.Talk.{Rules, Talk}
use Rattle.gates.specs.World.{Word, Hello, Reply, Packet, Empty, World}
use Rattle.gates.specs.World.{world}
use Rattle.gates.specs.Promise.{by_of, for_of, NoZero, OfTalk, AllApart, AllProper}
use Rattle.gates.proofs.Lists.{distinct_place, at_in}
use Rattle.gates.proofs.Talks.{SameTag}
use Rattle.gates.proofs.Invariant.{Draws, Uses, SameDraw, SameUse, SameNote, Origin, answered, greeted, Drew, Sound, packet_of, Inv}
use Rattle.gates.proofs.Invariant.{one-draw, one_answer, one_drawer, origin_drew, origin_other}
use Rattle.gates.proofs.Steps.{inv}
use Rattle.gates.proofs.Nets.{hellos-below}

-- two words with one tag drawn are of one kind
clash : (a e t n b f s k : ℕ) → Hello a e t n ≡ Reply b f s k → ⊥
clash a e t n b f s k p = let z : ◌≡◌ {A = ℕ} 0 1 = cc in omega arith

module _ (r : Rules) (w : World) (v : Inv r w) where
  drawn-once : (t : ℕ) (x y : Word) → In x w.net → In y w.net → Draws t x → Draws t y → x ≡ y
  drawn-once = one-draw w.net v.kept.draws

  -- the two sides of a talk
  facing : (a e m h b f k : ℕ) → Origin w.net a e m h → Origin w.net b f k m → (b ≡ e) × (f ≡ a) × (k ≡ h)
  facing a e m h b f k (answered i) (answered j) =
      absurd (clash _ _ _ _ _ _ _ _ (drawn-once m _ _ (v.kept.words _ j).2.1 i refl refl))
  facing a e m h b f k (answered i) (greeted n j l) =
      let p : Reply a e m h ≡ Reply f b m k = drawn-once m _ _ i l refl refl in
      (cc, cc, cc)
  facing a e m h b f k (greeted n i j) (answered l) =
      let p : Hello a e m n ≡ Hello f b m _ = drawn-once m _ _ i (v.kept.words _ l).2.1 refl refl in
      let q : Reply e a h m ≡ Reply b f k m = one_answer w.net v.kept.answers m _ _ j l refl refl in
      (cc, cc, cc)
  facing a e m h b f k (greeted n i j) (greeted n' l l') =
      absurd (clash _ _ _ _ _ _ _ _ (drawn-once m _ _ i l' refl refl))

  -- one side of a talk, by its opener's tag
  opening : (a e m h b f k : ℕ) → Origin w.net a e m h → Origin w.net b f k h → (m ≡ k) × (a ≡ b) × (e ≡ f)
  opening a e m h b f k (answered i) (answered j) =
      let p : Reply a e m h ≡ Reply b f k h = one_answer w.net v.kept.answers h _ _ i j refl refl in
      (cc, cc, cc)
  opening a e m h b f k (answered i) (greeted n j l) =
      absurd (clash _ _ _ _ _ _ _ _ (drawn-once h _ _ (v.kept.words _ i).2.1 l refl refl))
  opening a e m h b f k (greeted n i j) (answered l) =
      absurd (clash _ _ _ _ _ _ _ _ (drawn-once h _ _ (v.kept.words _ l).2.1 j refl refl))
  opening a e m h b f k (greeted n i j) (greeted n' l l') =
      let p : Reply e a h m ≡ Reply f b h k = drawn-once h _ _ j l' refl refl in
      (cc, cc, cc)

  talk_origin : (a : ℕ) (t : Talk) → In t (w.gates a).talks → Origin w.net a t.with' t.mine t.theirs
  talk_origin a t i = ((v.memory a).talks_had t i).origin

  -- no tag is had by two talks
  tags-apart : (a e i k : ℕ) (t u : Talk) → At i t (w.gates a).talks → At k u (w.gates e).talks → t.mine ≡ u.mine → (a ≡ e) × (i ≡ k)
  tags-apart a e i k t u p q s =
      let it = at_in i t (w.gates a).talks p in
      let iu = at_in k u (w.gates e).talks q in
      let dt = origin_drew w.net a t.with' t.mine t.theirs (talk_origin a t it) in
      let du = origin_drew w.net e u.with' u.mine u.theirs (talk_origin e u iu) in
      let ae = one_drawer w.net v.kept.draws a e u.mine (subst (λ z. Drew w.net a z) s dt) du in
      (ae, distinct_place SameTag (λ x y h. sym h) (w.gates a).talks (v.memory a).apart i k t u p (subst (λ z. At k u (w.gates z).talks) (sym ae) q) s)

  talks_face : (a e : ℕ) (t u : Talk) → In t (w.gates a).talks → In u (w.gates e).talks → u.theirs ≡ t.mine → (e ≡ t.with') × (u.with' ≡ a) × (u.mine ≡ t.theirs)
  talks_face a e t u i j s =
      facing a t.with' t.mine t.theirs e u.with' u.mine (talk_origin a t i) (subst (λ z. Origin w.net e u.with' u.mine z) s (talk_origin e u j))

  drew_nonzero : (a m : ℕ) → Drew w.net a m → 0 < m
  drew_nonzero a m d = of d.0 (v.kept.words d.0 d.1) d.2
    where
      of : (x : Word) → Sound r w x → Draws m x → 0 < m
      of (Hello b e t n) s p = subst (λ z. 0 < z) p s.1
      of (Reply b e t n) s p = subst (λ z. 0 < z) p s.0
      of (Packet b e k h n x) s p = absurd p
      of (Empty b e k h n) s p = absurd p

  both_nonzero : (a e m h : ℕ) → Origin w.net a e m h → (0 < m) × (0 < h)
  both_nonzero a e m h o = (drew_nonzero a m (origin_drew w.net a e m h o), drew_nonzero e h (origin_other r w v.kept a e m h o))

  no_zero : (x : Word) → Sound r w x → NoZero x
  no_zero (Hello a e t n) s = s.1
  no_zero (Reply e a y t) s = (s.0, (v.kept.words _ s.2.1).1)
  no_zero (Packet a e m h n x) s = let b = both_nonzero a e m h s.2 in (b.0, b.1, s.0)
  no_zero (Empty a e m h n) s = let b = both_nonzero a e m h s.2 in (b.0, b.1, s.0)

  -- a talk is between two gates
  two-gates : (a e m h : ℕ) → Origin w.net a e m h → a ≡ e → ⊥
  two-gates a e m h (answered i) s = (v.kept.words _ (v.kept.words _ i).2.1).0 (sym s)
  two-gates a e m h (greeted n i j) s = (v.kept.words _ i).0 s

  not_to_self : (x : Word) → Sound r w x → by_of x ≡ for_of x → ⊥
  not_to_self (Hello a e t n) s p = s.0 p
  not_to_self (Reply e a y t) s p = (v.kept.words _ s.2.1).0 (sym p)
  not_to_self (Packet a e m h n x) s p = two-gates a e m h s.2 p
  not_to_self (Empty a e m h n) s p = two-gates a e m h s.2 p

  use_place : (i k m n : ℕ) (x y : Word) → At i x w.net → At k y w.net → Uses m n x → Uses m n y → i ≡ k
  use_place i k m n x y p q u l = distinct_place SameUse (λ a b s. (s.0, s.1, s.3, s.2)) w.net v.kept.uses i k x y p q (m, n, u, l)

  draw-place : (i k t : ℕ) (x y : Word) → At i x w.net → At k y w.net → Draws t x → Draws t y → i ≡ k
  draw-place i k t x y p q d l = distinct_place SameDraw (λ a b s. (s.0, s.2, s.1)) w.net v.kept.draws i k x y p q (t, d, l)

  word-once : (i k : ℕ) (x : Word) → At i x w.net → At k x w.net → i ≡ k
  word-once i k (Hello a e t n) p q = draw-place i k t _ _ p q refl refl
  word-once i k (Reply a e t n) p q = draw-place i k t _ _ p q refl refl
  word-once i k (Packet a e m h n x) p q = use_place i k m n _ _ p q (refl, refl) (refl, refl)
  word-once i k (Empty a e m h n) p q = use_place i k m n _ _ p q (refl, refl) (refl, refl)

  of_talk_uses : (m h n : ℕ) (x : Word) → OfTalk m h n x → Uses m n x
  of_talk_uses m h n (Hello a e t k) o = o
  of_talk_uses m h n (Reply a e t k) o = o
  of_talk_uses m h n (Packet a e m' h' n' x) o = (o.0, o.2)
  of_talk_uses m h n (Empty a e m' h' n') o = (o.0, o.2)

  of_talk_origin : (m h n : ℕ) (x : Word) → Sound r w x → OfTalk m h n x → Origin w.net (by_of x) (for_of x) m h
  of_talk_origin m h n (Hello a e t k) s o = absurd o
  of_talk_origin m h n (Reply a e t k) s o = absurd o
  of_talk_origin m h n (Packet a e m' h' n' x) s o = subst (λ z. Origin w.net a e z h) o.0 (subst (λ z. Origin w.net a e m' z) o.1 s.2)
  of_talk_origin m h n (Empty a e m' h' n') s o = subst (λ z. Origin w.net a e z h) o.0 (subst (λ z. Origin w.net a e m' z) o.1 s.2)

  -- where all hellos are between gates below k, so are all words
  module _ (k : ℕ) (hellos : (a e t n : ℕ) → In (Hello a e t n) w.net → (a < k) × (e < k)) where
    reply-below : (e a y t : ℕ) → In (Reply e a y t) w.net → (e < k) × (a < k)
    reply-below e a y t i = let h = hellos a e t _ (v.kept.words _ i).2.1 in (h.1, h.0)

    origin_below : (a e m h : ℕ) → Origin w.net a e m h → (a < k) × (e < k)
    origin_below a e m h (answered i) = reply-below a e m h i
    origin_below a e m h (greeted n i j) = hellos a e m n i

    words-below : (x : Word) → In x w.net → Sound r w x → (by_of x < k) × (for_of x < k)
    words-below (Hello a e t n) i s = hellos a e t n i
    words-below (Reply e a y t) i s = reply-below e a y t i
    words-below (Packet a e m h n x) i s = origin_below a e m h s.2
    words-below (Empty a e m h n) i s = origin_below a e m h s.2

pub apart : AllApart
apart r es =
    let w = world r es in
    let v = inv r es in
    record {
      tags = tags-apart r w v;
      pairs = talks_face r w v;
      one_side =
          λ a e f i k t u y it p q s l.
          let fu = talks_face r w v a e t u it (at_in i u (w.gates e).talks p) s in
          let fy = talks_face r w v a f t y it (at_in k y (w.gates f).talks q) l in
          tags-apart r w v e f i k u y p q (fu.2 ∙ sym fy.2);
      range = λ p i. let s = v.kept.words (packet_of p) (v.kept.puts_sent p i) in (s.0, s.1);
      numbers =
          λ i k p q h l e n. distinct_place SameNote (λ x y s. (sym s.0, sym s.1)) w.put v.kept.puts_apart i k p q h l (e, n);
    }

pub proper : AllProper
proper r es =
    let w = world r es in
    let v = inv r es in
    record {
      no_zero = λ x i. no_zero r w v x (v.kept.words x i);
      not_to_self = λ x i. not_to_self r w v x (v.kept.words x i);
      once = word-once r w v;
      on_time = λ a e t n i. (v.kept.words _ i).3;
      numbers = λ i k m h h' n x y p q o l. use_place r w v i k m n x y p q (of_talk_uses r w v m h n x o) (of_talk_uses r w v m h' n y l);
      opener =
          λ m m' h n n' x y i k o l.
          opening
          r
          w
          v
          (by_of x)
          (for_of x)
          m
          h
          (by_of y)
          (for_of y)
          m'
          (of_talk_origin r w v m h n x (v.kept.words x i) o)
          (of_talk_origin r w v m' h n' y (v.kept.words y k) l);
      below = λ k g x i. words-below r w v k (λ a e t n j. (hellos-below r k es g).each _ j) x i (v.kept.words x i);
    }
