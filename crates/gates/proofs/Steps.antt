-- Each event keeps what holds of every world; so it holds of every run. Assumes nothing.
use Rattle.std.proofs.Common.{◌≡◌, ℕ, zero, suc, ◌+◌, ◌<◌, ◌≤◌, true, false, not, ◌&&◌, eqb, ltb, List, [], ◌∷◌, ◌++◌, sym, refl, ap, ◌∙◌, subst, ⊎_elim, le_trans, le_refl, arith}
use mathlib.Core.List.Memᴰ
use Rattle.std.proofs.lemmas.Bool.{eqb-true, eqb-false, ltb-true, cond_both, or_left, or_right, eq-eqb, both_ways, and_parts, not-true}
use Rattle.gates.specs.Lists.{In}
use Rattle.gates.specs.Talk.{Inner, Rules, Talk, is_in, new_talk, lives, may_come, came, may_send, sent_one}
use Rattle.gates.specs.World.{Word, Hello, Reply, Packet, Empty, Wait, Gate, Note, World, Ev, Tick, Greets, Puts, Lies, Brings, Restarts, Drops, Stays, Found, NoTalk, This}
use Rattle.gates.specs.World.{changed, start, is_new, is_talk, comes_in, change, without_talk, waits_for, without_wait, with_talks, note, becomes, emits, hears, takes, taken, brings, brings_nth, sends, stays, step, world}
use Rattle.gates.specs.Promise.{by_of}
use Rattle.gates.proofs.Lists.{Each, each_none, each_cons, Distinct, distinct_none, distinct_cons}
use Rattle.gates.proofs.Talks.{SameTag, Finds, for_sending_lem, by_mine_lem, comes_in_lem, is_talk_lem, without_talk_lem, distinct_without, waits_for_lem, without_wait_lem}
use Rattle.gates.proofs.Invariant.{Draws, Answers, Uses, SameDraw, SameAnswer, SameUse, SameNote, answered, greeted, Drew, Sound, packet_of, packet_for, Owned, Had, Waiting, Memory, Inv, Grows}
use Rattle.gates.proofs.Invariant.{origin_grows, sound_grows, one-draw, one_drawer, origin_drew, drew-drawn, origin_other, uses_origin}
use Rattle.gates.proofs.Memories.{changed_both, had_net, waiting-net, memory_net, memory_out, memory_fewer, memory_sent, memory_came}

-- a tag that is new is not 0, and is not among the drawn ones
new_parts : (t : ℕ) (w : World) → is_new t w ≡ true → (is_in t w.drawn ≡ false) × (0 < t)
new_parts t w e =
    let p = and_parts (not (is_in t w.drawn)) (not (eqb t 0)) e in
    let z = eqb-false t 0 (not-true (eqb t 0) p.1) in
    (not-true (is_in t w.drawn) p.0, omega arith)

drawn_more : (t : ℕ) (w : World) (s : ℕ) → is_in s w.drawn ≡ true → is_in s (t ∷ w.drawn) ≡ true
unfolding is_in
drawn_more t w s e = or_right (eqb t s) (is_in s w.drawn) e

drawn_this : (t : ℕ) (ts : List ℕ) → is_in t (t ∷ ts) ≡ true
unfolding is_in
drawn_this t ts = or_left (eqb t t) (is_in t ts) (eq-eqb t t refl)

-- who may send has a number left
may_send_most : (r : Rules) (now : ℕ) (t : Talk) → may_send r now t ≡ true → suc t.sent ≤ r.most
may_send_most r now t e =
    ltb-true t.sent r.most (and_parts (lives r now t) (ltb t.sent r.most) (and_parts t.sure (lives r now t && ltb t.sent r.most) e).1).1

-- a number that may come has not come
may_come_new : (r : Rules) (now n : ℕ) (t : Talk) → may_come r now n t ≡ true → is_in n t.heard ≡ false
may_come_new r now n t e =
    let p = and_parts (ltb 0 n) (lives r now t && (ltb t.top (n + r.window) && not (is_in n t.heard))) e in
    let q = and_parts (lives r now t) (ltb t.top (n + r.window) && not (is_in n t.heard)) p.1 in
    not-true (is_in n t.heard) (and_parts (ltb t.top (n + r.window)) (not (is_in n t.heard)) q.1).1

-- every gate's last hello, where one gate's memory was replaced
last_hello_lem : (P : ℕ → Type 0) (a b : ℕ) (g : Gate) (f : ℕ → Gate) (j : ℕ) → (j ≡ a → P (g.last_hello b)) → P ((f j).last_hello b) → P ((changed a g f j).last_hello b)
last_hello_lem P a b g f j y n = changed_both (λ (h : Gate). P (h.last_hello b)) a g f j y (λ ne. n)

module _ (r : Rules) (w : World) (v : Inv r w) where
  -- A tag that was never drawn stands nowhere.
  fresh-draw : (t : ℕ) → is_in t w.drawn ≡ false → (y : Word) → In y w.net → Draws t y → ⊥
  fresh-draw t e y i d = both_ways (is_in t w.drawn) e (drew-drawn r w v.kept (by_of y) t (y, i, d, refl))

  fresh-drew : (t a : ℕ) → is_in t w.drawn ≡ false → Drew w.net a t → ⊥
  fresh-drew t a e d = both_ways (is_in t w.drawn) e (drew-drawn r w v.kept a t d)

  fresh_use : (t n : ℕ) → is_in t w.drawn ≡ false → (y : Word) → In y w.net → Uses t n y → ⊥
  fresh_use t n e y i u = let o = uses_origin r w v.kept t n y i u in fresh-drew t o.0 e (origin_drew w.net o.0 o.1 t o.2 o.3)

  fresh-out : (t : ℕ) → is_in t w.drawn ≡ false → (o : Note) → In o w.out → o.gate_tag ≡ t → ⊥
  fresh-out t e o i s =
      let p = v.kept.words (packet_for o) (v.kept.outs_owned o i).word in
      fresh-drew t o.gate e (subst (λ z. Drew w.net o.gate z) s (origin_other r w v.kept o.other o.gate o.other_tag o.gate_tag p.2))

  talk_drew : (a : ℕ) (t : Talk) → In t (w.gates a).talks → Drew w.net a t.mine
  talk_drew a t i = origin_drew w.net a t.with' t.mine t.theirs ((v.memory a).talks_had t i).origin

  wait_drew : (a : ℕ) (x : Wait) → In x (w.gates a).waits → Drew w.net a x.tag
  wait_drew a x i = (_, ((v.memory a).waits_had x i).said, refl, refl)

  -- no other gate holds a tag that gate a drew
  drew_here : (a j m : ℕ) → (j ≡ a → ⊥) → Drew w.net a m → Drew w.net j m → ⊥
  drew_here a j m ne p q = ne (one_drawer w.net v.kept.draws j a m q p)

  -- A clock moves on.
  tick_inv : (a : ℕ) → Inv r (step r (Tick a) w)
  tick_inv a =
      record {
        kept =
            record {
              words = λ x i. sound_grows r w (step r (Tick a) w) grows x (v.kept.words x i);
              draws = v.kept.draws;
              answers = v.kept.answers;
              uses = v.kept.uses;
              puts_sent = v.kept.puts_sent;
              puts_apart = v.kept.puts_apart;
              outs_owned = v.kept.outs_owned;
              outs_apart = v.kept.outs_apart;
              hellos = λ e b. le_trans (v.kept.hellos e b) (later b);
            };
        memory = v.memory;
      }
    where
      later : (b : ℕ) → w.now b ≤ changed a (suc (w.now a)) w.now b
      later b = changed_both (λ n. w.now b ≤ n) a (suc (w.now a)) w.now b (λ e. let k : w.now b ≡ w.now a = ap w.now e in omega arith) (λ ne. (le_refl _))

      grows : Grows w (step r (Tick a) w)
      grows =
          record {
            net_grows = λ x i. i;
            put_grows = λ p i. i;
            drawn_grows = λ t e. e;
            now_grows = later;
            hello_grows = λ e b. (le_refl _);
          }

  -- A gate's memory is replaced by one that is true, and no word goes out.
  module _ (a : ℕ) (g : Gate) (good : Memory w.net w.out a g) (same : (b : ℕ) → g.last_hello b ≡ (w.gates a).last_hello b) where
    private_grows : Grows w (becomes a g [] [] w)
    private_grows =
        record {
          net_grows = λ x i. i;
          put_grows = λ p i. i;
          drawn_grows = λ t e. e;
          now_grows = λ b. (le_refl _);
          hello_grows = λ j b. last_hello_lem (λ n. (w.gates j).last_hello b ≤ n) a b g w.gates j (λ e. rest j b e) (le_refl _);
        }
      where
        rest : (j b : ℕ) → j ≡ a → (w.gates j).last_hello b ≤ g.last_hello b
        rest j b e = let k : (w.gates j).last_hello b ≡ g.last_hello b = ap (λ z. (w.gates z).last_hello b) e ∙ sym (same b) in omega arith

    becomes_inv : Inv r (becomes a g [] [] w)
    becomes_inv =
        record {
          kept =
              record {
                words = λ x i. sound_grows r w (becomes a g [] [] w) private_grows x (v.kept.words x i);
                draws = v.kept.draws;
                answers = v.kept.answers;
                uses = v.kept.uses;
                puts_sent = v.kept.puts_sent;
                puts_apart = v.kept.puts_apart;
                outs_owned = v.kept.outs_owned;
                outs_apart = v.kept.outs_apart;
                hellos = λ j b. last_hello_lem (λ n. n ≤ w.now b) a b g w.gates j (λ e. subst (λ n. n ≤ w.now b) (sym (same b)) (v.kept.hellos a b)) (v.kept.hellos j b);
              };
          memory =
              λ j.
              changed_both
              (Memory w.net w.out j)
              a
              g
              w.gates
              j
              (λ e. subst (λ k. Memory w.net w.out k g) (sym e) good)
              (λ ne. v.memory j);
        }

  restarts_inv : (a : ℕ) → Inv r (step r (Restarts a) w)
  restarts_inv a = becomes_inv a g (memory_fewer w.net w.out a (w.gates a) g (distinct_none SameTag) (λ t i. absurd (Memᴰ.not-nil i)) (λ y i. absurd (Memᴰ.not-nil i)) (v.memory a)) (λ b. refl)
    where
      g : Gate
      g = record { talks = []; waits = []; last_hello = (w.gates a).last_hello }

  drops_inv : (a m : ℕ) → Inv r (step r (Drops a m) w)
  drops_inv a m =
      becomes_inv
      a
      (with_talks (without_talk m (w.gates a).talks) (w.gates a))
      (memory_fewer
      w.net
      w.out
      a
      (w.gates a)
      (with_talks (without_talk m (w.gates a).talks) (w.gates a))
      (distinct_without m (w.gates a).talks (v.memory a).apart)
      (λ t i. without_talk_lem m (w.gates a).talks t i)
      (λ y i. i)
      (v.memory a))
      (λ b. refl)

  -- A gate's memory is replaced by one that is true, and a word that draws a new tag goes out.
  module _ (a t : ℕ) (g : Gate) (x : Word) (new : is_in t w.drawn ≡ false) (draws-it : (s : ℕ) → Draws s x → s ≡ t) (uses-none : (m n : ℕ) → Uses m n x → ⊥)
      (answers-new : (y : Word) → In y w.net → SameAnswer x y → ⊥) (sound : Sound r (becomes a g (x ∷ []) (t ∷ []) w) x) (good : Memory (x ∷ w.net) w.out a g)
      (up : (b : ℕ) → (w.gates a).last_hello b ≤ g.last_hello b) (on_time : (b : ℕ) → g.last_hello b ≤ w.now b) where
    says_grows : Grows w (becomes a g (x ∷ []) (t ∷ []) w)
    says_grows =
        record {
          net_grows = λ y i. Memᴰ.tail i;
          put_grows = λ p i. i;
          drawn_grows = λ s e. drawn_more t w s e;
          now_grows = λ b. (le_refl _);
          hello_grows =
              λ j b.
              last_hello_lem
              (λ n. (w.gates j).last_hello b ≤ n)
              a
              b
              g
              w.gates
              j
              (λ e. subst (λ k. (w.gates k).last_hello b ≤ g.last_hello b) (sym e) (up b))
              (le_refl _);
        }

    says_inv : Inv r (becomes a g (x ∷ []) (t ∷ []) w)
    says_inv =
        record {
          kept =
              record {
                words = each_cons (Sound r (becomes a g (x ∷ []) (t ∷ []) w)) x w.net sound (λ y i. sound_grows r w _ says_grows y (v.kept.words y i));
                draws = distinct_cons SameDraw x w.net (λ y i s. fresh-draw t new y i (subst (λ z. Draws z y) (draws-it s.0 s.1) s.2)) v.kept.draws;
                answers = distinct_cons SameAnswer x w.net answers-new v.kept.answers;
                uses = distinct_cons SameUse x w.net (λ y i s. uses-none s.0 s.1 s.2) v.kept.uses;
                puts_sent = λ p i. Memᴰ.tail (v.kept.puts_sent p i);
                puts_apart = v.kept.puts_apart;
                outs_owned =
                    λ o i.
                    record {
                      word = Memᴰ.tail (v.kept.outs_owned o i).word;
                      source = (v.kept.outs_owned o i).source;
                      goal = (v.kept.outs_owned o i).goal;
                    };
                outs_apart = v.kept.outs_apart;
                hellos = λ j b. last_hello_lem (λ n. n ≤ w.now b) a b g w.gates j (λ e. on_time b) (v.kept.hellos j b);
              };
          memory =
              λ j.
              changed_both
              (Memory (x ∷ w.net) w.out j)
              a
              g
              w.gates
              j
              (λ e. subst (λ k. Memory (x ∷ w.net) w.out k g) (sym e) good)
              (λ ne. memory_net w.net w.out j (w.gates j) x (λ u n i. uses-none u.mine n) (λ y n i. uses-none y.tag n) (v.memory j));
        }

  -- A hello is made.
  greets_inv : (a e t : ℕ) → (a ≡ e → ⊥) → is_new t w ≡ true →
      Inv r (becomes a (record { talks = (w.gates a).talks; waits = record { for' = e; tag = t; at = w.now a } ∷ (w.gates a).waits; last_hello = (w.gates a).last_hello }) (Hello a e t (w.now a) ∷ []) (t ∷ []) w)
  greets_inv a e t ne isnew =
      says_inv
      a
      t
      g
      (Hello a e t (w.now a))
      p.0
      (λ s d. sym d)
      (λ m n u. u)
      (λ y i s. s.1)
      (ne, p.1, drawn_this t w.drawn, (le_refl _))
      good
      (λ b. (le_refl _))
      (λ b. v.kept.hellos a b)
    where
      p : (is_in t w.drawn ≡ false) × (0 < t)
      p = new_parts t w isnew

      this : Wait
      this = record { for' = e; tag = t; at = w.now a }

      g : Gate
      g = record { talks = (w.gates a).talks; waits = this ∷ (w.gates a).waits; last_hello = (w.gates a).last_hello }

      x : Word
      x = Hello a e t (w.now a)

      good : Memory (x ∷ w.net) w.out a g
      good =
          record {
            apart = (v.memory a).apart;
            unmet =
                λ u y i j s.
                ⊎_elim
                (λ (k : y ≡ this). fresh-drew t a p.0 (subst (λ z. Drew w.net a z) (s ∙ ap (λ (z : Wait). z.tag) k) (talk_drew a u i)))
                (λ k. (v.memory a).unmet u y i k s)
                (Memᴰ.cases_cons j);
            talks_had = λ u i. had_net w.net w.out a u x (λ n k. k) ((v.memory a).talks_had u i);
            waits_had =
                each_cons
                (Waiting (x ∷ w.net) w.out a)
                this
                (w.gates a).waits
                (record {
                  said = Memᴰ.head refl;
                  unused = λ y n i u. ⊎_elim (λ (k : y ≡ x). subst (Uses t n) k u) (λ k. fresh_use t n p.0 y k u) (Memᴰ.cases_cons i);
                  unheard = λ o i s. fresh-out t p.0 o i s;
                })
                (λ y i. waiting-net w.net w.out a y x (λ n k. k) ((v.memory a).waits_had y i));
          }

  -- A hello is taken.
  hello_inv : (e a tag n new : ℕ) → In (Hello a e tag n) w.net → (w.gates e).last_hello a < n → is_new new w ≡ true → Inv r (taken e new (Hello a e tag n) w)
  hello_inv e a tag n new i above isnew =
      says_inv
      e
      new
      g
      x
      p.0
      (λ s d. sym d)
      (λ m k u. u)
      answers-new
      (p.1, drawn_this new w.drawn, (n, Memᴰ.tail i, reached))
      good
      up
      on_time
    where
      p : (is_in new w.drawn ≡ false) × (0 < new)
      p = new_parts new w isnew

      t : Talk
      t = new_talk a new tag (w.now e) false

      g : Gate
      g = record { talks = t ∷ (w.gates e).talks; waits = (w.gates e).waits; last_hello = changed a n (w.gates e).last_hello }

      x : Word
      x = Reply e a new tag

      -- the hello's tick is now the last
      reached : n ≤ (changed e g w.gates e).last_hello a
      reached =
          last_hello'
          (changed_both (λ k. n ≤ k) a n (w.gates e).last_hello a (λ s. (le_refl _)) (λ s. absurd (s refl)))
        where
          last_hello' : n ≤ g.last_hello a → n ≤ (changed e g w.gates e).last_hello a
          last_hello' h = changed_both (λ (k : Gate). n ≤ k.last_hello a) e g w.gates e (λ s. h) (λ s. absurd (s refl))

      -- had the hello been answered before, its tick would not be above the last
      answers-new : (y : Word) → In y w.net → SameAnswer x y → ⊥
      answers-new (Hello b f s k) j q = q.2
      answers-new (Reply f b s k) j q =
          let h = (v.kept.words (Reply f b s k) j).2 in
          let same : Hello b f k h.0 ≡ Hello a e tag n = one-draw w.net v.kept.draws tag _ _ h.1 i (q.2 ∙ sym q.1) refl in
          let nb : b ≡ a = cc in
          let nf : f ≡ e = cc in
          let nn : h.0 ≡ n = cc in
          let late : h.0 ≤ (w.gates e).last_hello a = subst (λ z. h.0 ≤ (w.gates e).last_hello z) nb (subst (λ z. h.0 ≤ (w.gates z).last_hello b) nf h.2) in
          omega arith
      answers-new (Packet b f m h k z) j q = q.2
      answers-new (Empty b f m h k) j q = q.2

      good : Memory (x ∷ w.net) w.out e g
      good =
          record {
            apart = distinct_cons SameTag t (w.gates e).talks (λ u j s. fresh-drew new e p.0 (subst (λ z. Drew w.net e z) (sym s) (talk_drew e u j))) (v.memory e).apart;
            unmet =
                λ u y j k s.
                ⊎_elim
                (λ (l : u ≡ t). fresh-drew new e p.0 (subst (λ z. Drew w.net e z) (sym s ∙ ap (λ (z : Talk). z.mine) l) (wait_drew e y k)))
                (λ l. (v.memory e).unmet u y l k s)
                (Memᴰ.cases_cons j);
            talks_had =
                each_cons
                (Had (x ∷ w.net) w.out e)
                t
                (w.gates e).talks
                (record {
                  origin = answered (Memᴰ.head refl);
                  used = λ y k j u. absurd (⊎_elim (λ (l : y ≡ x). subst (Uses new k) l u) (λ l. fresh_use new k p.0 y l u) (Memᴰ.cases_cons j));
                  came-out = λ o j s. absurd (fresh-out new p.0 o j s);
                })
                (λ u j. had_net w.net w.out e u x (λ k l. l) ((v.memory e).talks_had u j));
            waits_had = λ y j. waiting-net w.net w.out e y x (λ k l. l) ((v.memory e).waits_had y j);
          }

      up : (b : ℕ) → (w.gates e).last_hello b ≤ g.last_hello b
      up b =
          changed_both
          (λ k. (w.gates e).last_hello b ≤ k)
          a
          n
          (w.gates e).last_hello
          b
          (λ s. let k : (w.gates e).last_hello b ≡ (w.gates e).last_hello a = ap (w.gates e).last_hello s in omega arith)
          (λ s. (le_refl _))

      on_time : (b : ℕ) → g.last_hello b ≤ w.now b
      on_time b =
          changed_both
          (λ k. k ≤ w.now b)
          a
          n
          (w.gates e).last_hello
          b
          (λ s. subst (λ k. n ≤ w.now k) (sym s) (v.kept.words (Hello a e tag n) i).3)
          (λ s. v.kept.hellos e b)

  -- A reply is taken.
  reply_inv : (e a tag tag_for new : ℕ) → In (Reply a e tag tag_for) w.net → waits_for (w.now e) a tag_for (w.gates e).waits ≡ true → Inv r (taken e new (Reply a e tag tag_for) w)
  reply_inv e a tag tag_for new i h = becomes_inv e g good (λ b. refl)
    where
      found : (x : Wait) × In x (w.gates e).waits × (x.for' ≡ a) × (x.tag ≡ tag_for)
      found = waits_for_lem (w.now e) a tag_for (w.gates e).waits h

      x : Wait
      x = found.0

      waited : Waiting w.net w.out e x
      waited = (v.memory e).waits_had x found.1

      t : Talk
      t = new_talk a tag_for tag (w.now e) true

      g : Gate
      g = record { talks = t ∷ (w.gates e).talks; waits = without_wait tag_for (w.gates e).waits; last_hello = (w.gates e).last_hello }

      said : In (Hello e a tag_for x.at) w.net
      said = subst (λ z. In (Hello e a z x.at) w.net) found.3 (subst (λ z. In (Hello e z x.tag x.at) w.net) found.2 waited.said)

      good : Memory w.net w.out e g
      good =
          record {
            apart = distinct_cons SameTag t (w.gates e).talks (λ u j s. (v.memory e).unmet u x j found.1 (sym s ∙ sym found.3)) (v.memory e).apart;
            unmet =
                λ u y j k s.
                let l = without_wait_lem tag_for (w.gates e).waits y k in
                ⊎_elim (λ (m : u ≡ t). l.1 (sym s ∙ ap (λ (z : Talk). z.mine) m)) (λ m. (v.memory e).unmet u y m l.0 s) (Memᴰ.cases_cons j);
            talks_had =
                each_cons
                (Had w.net w.out e)
                t
                (w.gates e).talks
                (record {
                  origin = greeted x.at said i;
                  used = λ y n j u. absurd (waited.unused y n j (subst (λ z. Uses z n y) (sym found.3) u));
                  came-out = λ o j s. absurd (waited.unheard o j (s ∙ sym found.3));
                })
                (v.memory e).talks_had;
            waits_had = λ y j. (v.memory e).waits_had y (without_wait_lem tag_for (w.gates e).waits y j).0;
          }

  -- The next number of a talk is used for a word, which may carry what was put in.
  module _ (a : ℕ) (t : Talk) (x : Word) (ps : List Note) (i : In t (w.gates a).talks) (uses-it : (m n : ℕ) → Uses m n x → (m ≡ t.mine) × (n ≡ suc t.sent))
      (draws-none : (s : ℕ) → Draws s x → ⊥) (answers-none : (s : ℕ) → Answers s x → ⊥) (sound : Sound r (emits a t x ps w) x)
      (sent-too : Each (λ p. In (packet_of p) (x ∷ w.net)) (ps ++ w.put)) (apart : Distinct SameNote (ps ++ w.put)) where
    emits_inv : Inv r (emits a t x ps w)
    emits_inv =
        record {
          kept =
              record {
                words = each_cons (Sound r (emits a t x ps w)) x w.net sound (λ y j. sound_grows r w _ grows y (v.kept.words y j));
                draws = distinct_cons SameDraw x w.net (λ y j s. draws-none s.0 s.1) v.kept.draws;
                answers = distinct_cons SameAnswer x w.net (λ y j s. answers-none s.0 s.1) v.kept.answers;
                uses = distinct_cons SameUse x w.net fresh v.kept.uses;
                puts_sent = sent-too;
                puts_apart = apart;
                outs_owned =
                    λ o j.
                    record {
                      word = Memᴰ.tail (v.kept.outs_owned o j).word;
                      source = (v.kept.outs_owned o j).source;
                      goal = (v.kept.outs_owned o j).goal;
                    };
                outs_apart = v.kept.outs_apart;
                hellos = λ j b. last_hello_lem (λ n. n ≤ w.now b) a b g w.gates j (λ e. v.kept.hellos a b) (v.kept.hellos j b);
              };
          memory =
              λ j.
              changed_both
              (Memory (x ∷ w.net) w.out j)
              a
              g
              w.gates
              j
              (λ e. subst (λ k. Memory (x ∷ w.net) w.out k g) (sym e) (memory_sent w.net w.out a (w.gates a) t x i uses-it (v.memory a)))
              (λ ne.
              memory_net
              w.net
              w.out
              j
              (w.gates j)
              x
              (λ u n k l. drew_here a j u.mine ne (subst (λ z. Drew w.net a z) (sym (uses-it u.mine n l).0) (talk_drew a t i)) (talk_drew j u k))
              (λ y n k l. drew_here a j y.tag ne (subst (λ z. Drew w.net a z) (sym (uses-it y.tag n l).0) (talk_drew a t i)) (wait_drew j y k))
              (v.memory j));
        }
      where
        g : Gate
        g = with_talks (change t.mine sent_one (w.gates a).talks) (w.gates a)

        grows : Grows w (emits a t x ps w)
        grows =
            record {
              net_grows = λ y j. Memᴰ.tail j;
              put_grows = λ p j. Memᴰ.append_right ps j;
              drawn_grows = λ s e. e;
              now_grows = λ b. le_refl _;
              hello_grows =
                  λ j b.
                  last_hello_lem
                  (λ n. (w.gates j).last_hello b ≤ n)
                  a
                  b
                  g
                  w.gates
                  j
                  (λ e. subst (λ k. (w.gates k).last_hello b ≤ (w.gates a).last_hello b) (sym e) (le_refl _))
                  (le_refl _);
            }

        fresh : (y : Word) → In y w.net → SameUse x y → ⊥
        fresh y j s =
            let e = uses-it s.0 s.1 s.2 in
            let k : s.1 ≤ t.sent = ((v.memory a).talks_had t i).used y s.1 j (subst (λ z. Uses z s.1 y) e.0 s.3) in
            let l : s.1 ≡ suc t.sent = e.1 in
            omega arith

  -- A packet goes out in a talk.
  sends_inv : (a e : ℕ) (x : Inner) (f : Found) → Finds (λ t. (t.with' ≡ e) × (may_send r (w.now a) t ≡ true)) (w.gates a).talks f → Inv r (sends a x f w)
  sends_inv a e x NoTalk h = v
  sends_inv a e x (This t) h =
      emits_inv
      a
      t
      y
      (p ∷ [])
      h.0
      (λ m n u. (sym u.0, sym u.1))
      (λ s d. d)
      (λ s d. d)
      (omega arith, may_send_most r (w.now a) t h.1.1, origin_grows a t.with' t.mine t.theirs (λ z j. Memᴰ.tail j) ((v.memory a).talks_had t h.0).origin, Memᴰ.head refl)
      (each_cons (λ q. In (packet_of q) (y ∷ w.net)) p w.put (Memᴰ.head refl) (λ q j. Memᴰ.tail (v.kept.puts_sent q j)))
      (distinct_cons
      SameNote
      p
      w.put
      (λ q j s.
      let k : q.number ≤ t.sent = ((v.memory a).talks_had t h.0).used (packet_of q) q.number (v.kept.puts_sent q j) (sym s.0, refl) in
      let l : suc t.sent ≡ q.number = s.1 in
      omega arith)
      v.kept.puts_apart)
    where
      y : Word
      y = Packet a t.with' t.mine t.theirs (suc t.sent) x

      p : Note
      p = note a t.with' t.mine t.theirs (suc t.sent) x

  -- A keepalive goes out in a talk.
  stays_inv : (a m : ℕ) (f : Found) → Finds (λ t. t.mine ≡ m) (w.gates a).talks f → Inv r (stays r a f w)
  stays_inv a m NoTalk h = v
  stays_inv a m (This t) h =
      cond_both
      (may_send r (w.now a) t)
      (emits a t y [] w)
      w
      (Inv r)
      (λ e.
      emits_inv
      a
      t
      y
      []
      h.0
      (λ k n u. (sym u.0, sym u.1))
      (λ s d. d)
      (λ s d. d)
      (omega arith, may_send_most r (w.now a) t e, origin_grows a t.with' t.mine t.theirs (λ z j. Memᴰ.tail j) ((v.memory a).talks_had t h.0).origin)
      (λ q j. Memᴰ.tail (v.kept.puts_sent q j))
      v.kept.puts_apart)
      (λ e. v)
    where
      y : Word
      y = Empty a t.with' t.mine t.theirs (suc t.sent)

  -- A number comes in a talk, and what it carries comes out.
  hears_inv : (e n : ℕ) (t : Talk) (os : List Note) → In t (w.gates e).talks → ((o : Note) → In o os → (o.gate_tag ≡ t.mine) × (o.number ≡ n)) →
      Each (Owned r w.net) (os ++ w.out) → Distinct SameNote (os ++ w.out) → Inv r (hears e t.mine n os w)
  hears_inv e n t os i of owned apart =
      record {
        kept =
            record {
              words = λ x j. sound_grows r w (hears e t.mine n os w) grows x (v.kept.words x j);
              draws = v.kept.draws;
              answers = v.kept.answers;
              uses = v.kept.uses;
              puts_sent = v.kept.puts_sent;
              puts_apart = v.kept.puts_apart;
              outs_owned = owned;
              outs_apart = apart;
              hellos = λ j b. last_hello_lem (λ k. k ≤ w.now b) e b g w.gates j (λ s. v.kept.hellos e b) (v.kept.hellos j b);
            };
        memory =
            λ j.
            changed_both
            (Memory w.net (os ++ w.out) j)
            e
            g
            w.gates
            j
            (λ s. subst (λ k. Memory w.net (os ++ w.out) k g) (sym s) (memory_came w.net w.out os e n (w.gates e) t i of (v.memory e)))
            (λ ne.
            memory_out
            w.net
            w.out
            os
            j
            (w.gates j)
            (λ o u k l s. drew_here e j u.mine ne (subst (λ z. Drew w.net e z) (sym (of o k).0 ∙ s) (talk_drew e t i)) (talk_drew j u l))
            (λ o y k l s. drew_here e j y.tag ne (subst (λ z. Drew w.net e z) (sym (of o k).0 ∙ s) (talk_drew e t i)) (wait_drew j y l))
            (v.memory j));
      }
    where
      g : Gate
      g = with_talks (change t.mine (came n) (w.gates e).talks) (w.gates e)

      grows : Grows w (hears e t.mine n os w)
      grows =
          record {
            net_grows = λ y j. j;
            put_grows = λ p j. j;
            drawn_grows = λ s k. k;
            now_grows = λ b. le_refl _;
            hello_grows =
                λ j b.
                last_hello_lem
                (λ k. (w.gates j).last_hello b ≤ k)
                e
                b
                g
                w.gates
                j
                (λ s. subst (λ k. (w.gates k).last_hello b ≤ (w.gates e).last_hello b) (sym s) (le_refl _))
                (le_refl _);
          }

  -- A packet is taken.
  packet_inv : (e a m h n new : ℕ) (x : Inner) → In (Packet a e m h n x) w.net → comes_in r (w.now e) a h m n (w.gates e).talks ≡ true → r.owner x.from ≡ a → r.owner x.to ≡ e →
      Inv r (taken e new (Packet a e m h n x) w)
  packet_inv e a m h n new x i c from to =
      subst (λ k. Inv r (hears e k n (o ∷ []) w)) of.1 (hears_inv e n t (o ∷ []) f.1 named owned apart)
    where
      o : Note
      o = note e a h m n x

      f : (t : Talk) × In t (w.gates e).talks × (is_talk a h m t ≡ true) × (may_come r (w.now e) n t ≡ true)
      f = comes_in_lem r (w.now e) a h m n (w.gates e).talks c

      t : Talk
      t = f.0

      of : (t.with' ≡ a) × (t.mine ≡ h) × (t.theirs ≡ m)
      of = is_talk_lem a h m t f.2

      named : (q : Note) → In q (o ∷ []) → (q.gate_tag ≡ t.mine) × (q.number ≡ n)
      named = each_cons (λ q. (q.gate_tag ≡ t.mine) × (q.number ≡ n)) o [] (sym of.1, refl) (each_none _)

      owned : Each (Owned r w.net) (o ∷ w.out)
      owned = each_cons (Owned r w.net) o w.out (record { word = i; source = from; goal = to }) v.kept.outs_owned

      apart : Distinct SameNote (o ∷ w.out)
      apart =
          distinct_cons
          SameNote
          o
          w.out
          (λ q j s.
          both_ways
          (is_in n t.heard)
          (may_come_new r (w.now e) n t f.3)
          (subst (λ k. is_in k t.heard ≡ true) (sym s.1) (((v.memory e).talks_had t f.1).came-out q j (sym s.0 ∙ sym of.1))))
          v.kept.outs_apart

  -- A keepalive is taken.
  empty_inv : (e a m h n new : ℕ) → comes_in r (w.now e) a h m n (w.gates e).talks ≡ true → Inv r (taken e new (Empty a e m h n) w)
  empty_inv e a m h n new c =
      let f = comes_in_lem r (w.now e) a h m n (w.gates e).talks c in
      let of = is_talk_lem a h m f.0 f.2 in
      subst (λ k. Inv r (hears e k n [] w)) of.1 (hears_inv e n f.0 [] f.1 (each_none _) v.kept.outs_owned v.kept.outs_apart)

  -- A word of the net is brought.
  brings_inv : (e new : ℕ) (x : Word) → In x w.net → Inv r (brings r e new x w)
  brings_inv e new x i = cond_both (takes r e new x w) (taken e new x w) w (Inv r) (λ t. of x i t) (λ t. v)
    where
      of : (y : Word) → In y w.net → takes r e new y w ≡ true → Inv r (taken e new y w)
      of (Hello a f tag n) j t =
          let p = and_parts (eqb f e) (ltb ((w.gates e).last_hello a) n && is_new new w) t in
          let q = and_parts (ltb ((w.gates e).last_hello a) n) (is_new new w) p.1 in
          hello_inv e a tag n new (subst (λ z. In (Hello a z tag n) w.net) (eqb-true f e p.0) j) (ltb-true ((w.gates e).last_hello a) n q.0) q.1
      of (Reply a f tag tag_for) j t =
          let p = and_parts (eqb f e) (waits_for (w.now e) a tag_for (w.gates e).waits) t in
          reply_inv e a tag tag_for new (subst (λ z. In (Reply a z tag tag_for) w.net) (eqb-true f e p.0) j) p.1
      of (Packet a f m h n z) j t =
          let p = and_parts (eqb f e) (comes_in r (w.now e) a h m n (w.gates e).talks && (eqb (r.owner z.from) a && eqb (r.owner z.to) e)) t in
          let q = and_parts (comes_in r (w.now e) a h m n (w.gates e).talks) (eqb (r.owner z.from) a && eqb (r.owner z.to) e) p.1 in
          let o = and_parts (eqb (r.owner z.from) a) (eqb (r.owner z.to) e) q.1 in
          packet_inv e a m h n new z (subst (λ k. In (Packet a k m h n z) w.net) (eqb-true f e p.0) j) q.0 (eqb-true _ a o.0) (eqb-true _ e o.1)
      of (Empty a f m h n) j t =
          let p = and_parts (eqb f e) (comes_in r (w.now e) a h m n (w.gates e).talks) t in
          empty_inv e a m h n new p.1

  brings_nth_inv : (e i new : ℕ) (xs : List Word) → ((x : Word) → In x xs → In x w.net) → Inv r (brings_nth r e i new xs w)
  unfolding brings_nth
  brings_nth_inv e i new [] sub = v
  brings_nth_inv e zero new (x ∷ xs) sub = brings_inv e new x (sub x (Memᴰ.head refl))
  brings_nth_inv e (suc i) new (x ∷ xs) sub = brings_nth_inv e i new xs (λ y k. sub y (Memᴰ.tail k))

step_inv : (r : Rules) (ev : Ev) (w : World) → Inv r w → Inv r (step r ev w)
step_inv r (Tick a) w v = tick_inv r w v a
step_inv r (Greets a e t) w v =
    cond_both
    (is_new t w && not (eqb a e))
    _
    w
    (Inv r)
    (λ c. let p = and_parts (is_new t w) (not (eqb a e)) c in greets_inv r w v a e t (eqb-false a e (not-true (eqb a e) p.1)) p.0)
    (λ c. v)
step_inv r (Puts a x) w v =
    cond_both
    (eqb (r.owner x.from) a && not (eqb (r.owner x.to) a))
    _
    w
    (Inv r)
    (λ c. sends_inv r w v a (r.owner x.to) x _ (for_sending_lem r (w.now a) (r.owner x.to) (w.gates a).talks))
    (λ c. v)
step_inv r (Lies a e x) w v = sends_inv r w v a e x _ (for_sending_lem r (w.now a) e (w.gates a).talks)
step_inv r (Brings e i t) w v = brings_nth_inv r w v e i t w.net (λ x k. k)
step_inv r (Restarts a) w v = restarts_inv r w v a
step_inv r (Drops a m) w v = drops_inv r w v a m
step_inv r (Stays a m) w v = stays_inv r w v a m _ (by_mine_lem m (w.gates a).talks)

start_inv : (r : Rules) → Inv r start
start_inv r =
    record {
      kept =
          record {
            words = each_none _;
            draws = distinct_none SameDraw;
            answers = distinct_none SameAnswer;
            uses = distinct_none SameUse;
            puts_sent = each_none _;
            puts_apart = distinct_none SameNote;
            outs_owned = each_none _;
            outs_apart = distinct_none SameNote;
            hellos = λ e a. omega arith;
          };
      memory =
          λ a.
          record {
            apart = distinct_none SameTag;
            unmet = λ t x i j s. Memᴰ.not-nil i;
            talks_had = each_none _;
            waits_had = each_none _;
          };
    }

-- It holds of every run.
pub inv : (r : Rules) (es : List Ev) → Inv r (world r es)
unfolding world
inv r [] = start_inv r
inv r (e ∷ es) = step_inv r e (world r es) (inv r es)
