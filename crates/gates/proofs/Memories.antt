-- How a gate's memory stays true while the net and what came out grow, and while its own talks and waiting hellos change. Assumes nothing.
use Rattle.std.proofs.Common.{◌≡◌, ℕ, suc, ◌≤◌, eqb, List, ◌∷◌, ◌++◌, sym, refl, ◌∙◌, subst, ⊎_elim, arith}
use mathlib.Core.List.Memᴰ
use Rattle.std.proofs.lemmas.Bool.{eqb-true, eqb-false, cond_both, or_left, or_right, eq-eqb}
use Rattle.gates.specs.Lists.{In}
use Rattle.gates.specs.Talk.{Talk, is_in, came, sent_one}
use Rattle.gates.specs.World.{Word, Wait, Gate, Note, changed, change, with_talks}
use Rattle.gates.proofs.Lists.{Distinct, distinct_same}
use Rattle.gates.proofs.Talks.{SameTag, each_change, change-from, distinct_change}
use Rattle.gates.proofs.Invariant.{Uses, Had, Waiting, Memory, origin_grows}

-- what holds of a function that was changed at one place
pub changed_both : {A : Type 0} (P : A → Type 0) (a : ℕ) (x : A) (f : ℕ → A) (j : ℕ) → (j ≡ a → P x) → ((j ≡ a → ⊥) → P (f j)) → P (changed a x f j)
changed_both P a x f j y n = cond_both (eqb j a) x (f j) P (λ e. y (eqb-true j a e)) (λ e. n (eqb-false j a e))

-- one more word: a talk whose tag it does not use
pub had_net : (net : List Word) (out : List Note) (a : ℕ) (t : Talk) (x : Word) → ((n : ℕ) → Uses t.mine n x → ⊥) → Had net out a t → Had (x ∷ net) out a t
had_net net out a t x free h =
    record {
      origin = origin_grows a t.with' t.mine t.theirs (λ y i. Memᴰ.tail i) h.origin;
      used = λ y n i u. ⊎_elim (λ (e : y ≡ x). absurd (free n (subst (Uses t.mine n) e u))) (λ k. h.used y n k u) (Memᴰ.cases_cons i);
      came-out = h.came-out;
    }

-- the next number of a talk is used
pub had_sent : (net : List Word) (out : List Note) (a : ℕ) (t : Talk) (x : Word) → ((n : ℕ) → Uses t.mine n x → n ≡ suc t.sent) → Had net out a t →
    Had (x ∷ net) out a (sent_one t)
had_sent net out a t x next h =
    record {
      origin = origin_grows a t.with' t.mine t.theirs (λ y i. Memᴰ.tail i) h.origin;
      used =
          λ y n i u.
          ⊎_elim
          (λ (e : y ≡ x). let k : n ≡ suc t.sent = next n (subst (Uses t.mine n) e u) in omega arith)
          (λ k. let l : n ≤ t.sent = h.used y n k u in omega arith)
          (Memᴰ.cases_cons i);
      came-out = h.came-out;
    }

-- more came out, of other talks
pub had_out : (net : List Word) (out os : List Note) (a : ℕ) (t : Talk) → ((o : Note) → In o os → o.gate_tag ≡ t.mine → ⊥) → Had net out a t → Had net (os ++ out) a t
had_out net out os a t other h =
    record {
      origin = h.origin;
      used = h.used;
      came-out = λ o i e. ⊎_elim (λ k. absurd (other o k e)) (λ k. h.came-out o k e) (Memᴰ.append_cases os i);
    }

-- a number came in a talk, and what came out for it
pub had_came : (net : List Word) (out os : List Note) (a n : ℕ) (t : Talk) → ((o : Note) → In o os → o.number ≡ n) → Had net out a t → Had net (os ++ out) a (came n t)
unfolding is_in
had_came net out os a n t num h =
    record {
      origin = h.origin;
      used = h.used;
      came-out =
          λ o i e.
          ⊎_elim
          (λ k. or_left (eqb n o.number) (is_in o.number t.heard) (eq-eqb n o.number (sym (num o k))))
          (λ k. or_right (eqb n o.number) (is_in o.number t.heard) (h.came-out o k e))
          (Memᴰ.append_cases os i);
    }

-- one more word: a hello that waits, whose tag it does not use
pub waiting-net : (net : List Word) (out : List Note) (a : ℕ) (y : Wait) (x : Word) → ((n : ℕ) → Uses y.tag n x → ⊥) → Waiting net out a y → Waiting (x ∷ net) out a y
waiting-net net out a y x free h =
    record {
      said = Memᴰ.tail h.said;
      unused = λ z n i u. ⊎_elim (λ (e : z ≡ x). free n (subst (Uses y.tag n) e u)) (λ k. h.unused z n k u) (Memᴰ.cases_cons i);
      unheard = h.unheard;
    }

-- more came out, under other tags
pub waiting-out : (net : List Word) (out os : List Note) (a : ℕ) (y : Wait) → ((o : Note) → In o os → o.gate_tag ≡ y.tag → ⊥) → Waiting net out a y →
    Waiting net (os ++ out) a y
waiting-out net out os a y other h =
    record {
      said = h.said;
      unused = h.unused;
      unheard = λ o i e. ⊎_elim (λ k. other o k e) (λ k. h.unheard o k e) (Memᴰ.append_cases os i);
    }

-- one more word, which uses no tag that the gate holds
pub memory_net : (net : List Word) (out : List Note) (a : ℕ) (g : Gate) (x : Word) → ((t : Talk) (n : ℕ) → In t g.talks → Uses t.mine n x → ⊥) →
    ((y : Wait) (n : ℕ) → In y g.waits → Uses y.tag n x → ⊥) → Memory net out a g → Memory (x ∷ net) out a g
memory_net net out a g x ft fw m =
    record {
      apart = m.apart;
      unmet = m.unmet;
      talks_had = λ t i. had_net net out a t x (λ n. ft t n i) (m.talks_had t i);
      waits_had = λ y i. waiting-net net out a y x (λ n. fw y n i) (m.waits_had y i);
    }

-- more came out, under no tag that the gate holds
pub memory_out : (net : List Word) (out os : List Note) (a : ℕ) (g : Gate) → ((o : Note) (t : Talk) → In o os → In t g.talks → o.gate_tag ≡ t.mine → ⊥) →
    ((o : Note) (y : Wait) → In o os → In y g.waits → o.gate_tag ≡ y.tag → ⊥) → Memory net out a g → Memory net (os ++ out) a g
memory_out net out os a g ft fw m =
    record {
      apart = m.apart;
      unmet = m.unmet;
      talks_had = λ t i. had_out net out os a t (λ o k. ft o t k i) (m.talks_had t i);
      waits_had = λ y i. waiting-out net out os a y (λ o k. fw o y k i) (m.waits_had y i);
    }

-- the gate forgets some of what it held
pub memory_fewer : (net : List Word) (out : List Note) (a : ℕ) (g f : Gate) → Distinct SameTag f.talks → ((t : Talk) → In t f.talks → In t g.talks) →
    ((y : Wait) → In y f.waits → In y g.waits) → Memory net out a g → Memory net out a f
memory_fewer net out a g f d ts ws m =
    record {
      apart = d;
      unmet = λ t y i j. m.unmet t y (ts t i) (ws y j);
      talks_had = λ t i. m.talks_had t (ts t i);
      waits_had = λ y i. m.waits_had y (ws y i);
    }

-- the gate uses the next number of its talk t
pub memory_sent : (net : List Word) (out : List Note) (a : ℕ) (g : Gate) (t : Talk) (x : Word) → In t g.talks → ((m n : ℕ) → Uses m n x → (m ≡ t.mine) × (n ≡ suc t.sent)) →
    Memory net out a g → Memory (x ∷ net) out a (with_talks (change t.mine sent_one g.talks) g)
memory_sent net out a g t x i next m =
    record {
      apart = distinct_change t.mine sent_one (λ u. refl) g.talks m.apart;
      unmet = λ u y j k e. let v = change-from t.mine sent_one (λ z. refl) g.talks u j in m.unmet v.0 y v.1 k (v.2 ∙ e);
      talks_had =
          each_change
          (Had (x ∷ net) out a)
          t.mine
          sent_one
          g.talks
          m.apart
          (λ u j s.
          let e = distinct_same SameTag (λ v z k. sym k) g.talks m.apart u t j i s in
          had_sent net out a u x (λ n k. subst (λ (z : Talk). n ≡ suc z.sent) (sym e) (next _ n k).1) (m.talks_had u j))
          (λ u j s. had_net net out a u x (λ n k. s (next _ n k).0) (m.talks_had u j));
      waits_had = λ y j. waiting-net net out a y x (λ n k. m.unmet t y i j (sym (next _ n k).0)) (m.waits_had y j);
    }

-- a number came in a talk of the gate's
pub memory_came : (net : List Word) (out os : List Note) (a n : ℕ) (g : Gate) (t : Talk) → In t g.talks → ((o : Note) → In o os → (o.gate_tag ≡ t.mine) × (o.number ≡ n)) →
    Memory net out a g → Memory net (os ++ out) a (with_talks (change t.mine (came n) g.talks) g)
memory_came net out os a n g t i of m =
    record {
      apart = distinct_change t.mine (came n) (λ u. refl) g.talks m.apart;
      unmet = λ u y j k e. let v = change-from t.mine (came n) (λ z. refl) g.talks u j in m.unmet v.0 y v.1 k (v.2 ∙ e);
      talks_had =
          each_change
          (Had net (os ++ out) a)
          t.mine
          (came n)
          g.talks
          m.apart
          (λ u j s. had_came net out os a n u (λ o k. (of o k).1) (m.talks_had u j))
          (λ u j s. had_out net out os a u (λ o k e. s (sym e ∙ (of o k).0)) (m.talks_had u j));
      waits_had = λ y j. waiting-out net out os a y (λ o k e. m.unmet t y i j (sym (of o k).0 ∙ e)) (m.waits_had y j);
    }
