-- It always can: from every world a hello of a new tick and its reply give a talk, and what is then put in comes out. Assumes nothing.
use Rattle.std.proofs.Common.{◌≡◌, ℕ, suc, ◌+◌, ◌<◌, ◌≤◌, true, false, not, ◌&&◌, ◌||◌, eqb, ltb, leb, List, [], ◌∷◌, ◌++◌, length, sym, refl, ap, ◌∙◌, subst, append_assoc, arith}
use mathlib.Core.List.Memᴰ
use Rattle.std.proofs.lemmas.Bool.{cond-true, cond-false, and_from, and_parts, or_left, or_from, eq-eqb, ne_eqb, not_from_false, not-true, lt-ltb, le-leb}
use Rattle.gates.specs.Lists.{In, At}
use Rattle.gates.specs.Talk.{Inner, Rules, Talk, is_in, new_talk, lives, may_come, may_send, sent_one}
use Rattle.gates.specs.World.{Hello, Reply, Packet, Gate, World, Ev, Tick, Greets, Puts, Brings, This}
use Rattle.gates.specs.World.{changed, is_new, for_sending, is_talk, comes_in, change, waits_for, with_talks, note, becomes, emits, takes, taken, sends, step, world}
use Rattle.gates.specs.Promise.{greeting, put_all, passing}
use Rattle.gates.proofs.Invariant.{Inv}
use Rattle.gates.proofs.Nets.{brings-at}

self : (a : ℕ) → eqb a a ≡ true
self a = eq-eqb a a refl

pub changed_here : {A : Type 0} (a : ℕ) (x : A) (f : ℕ → A) → changed a x f a ≡ x
changed_here a x f = cond-true (eqb a a) x (f a) (self a)

pub changed_there : {A : Type 0} (a : ℕ) (x : A) (f : ℕ → A) (j : ℕ) → (j ≡ a → ⊥) → changed a x f j ≡ f j
changed_there a x f j ne = cond-false (eqb j a) x (f j) (ne_eqb j a ne)

-- the talk at the gate that said hello, after k numbers of it were used
abbrev used : (e t y now k : ℕ) → Talk
used e t y now k = record { with' = e; mine = t; theirs = y; born = now; sent = k; top = 0; heard = []; sure = true }

module _ (r : Rules) (a e t y : ℕ) (two : a ≡ e → ⊥) (before : World) where
  -- Both gates have the talk, k numbers of it were used by the gate that said hello, and nothing more came out.
  record Ready (k : ℕ) (w : World) : Type 0 where
    pub rest_a : List Talk
    pub rest_e : List Talk
    pub at_a : (w.gates a).talks ≡ used e t y (w.now a) k ∷ rest_a
    pub at_e : (w.gates e).talks ≡ new_talk a y t (w.now e) false ∷ rest_e
    pub out_so : w.out ≡ before.out

  may_send_lem : (now k : ℕ) → k < r.most → may_send r now (used e t y now k) ≡ true
  may_send_lem now k h = and_from (leb now (now + r.life)) (ltb k r.most) (le-leb now (now + r.life) (omega arith)) (lt-ltb k r.most h)

  -- a packet that is put in now goes out by this talk
  put_is : (k : ℕ) (w : World) (p : Inner) → Ready k w → k < r.most → r.owner p.from ≡ a → r.owner p.to ≡ e →
      step r (Puts a p) w ≡ emits a (used e t y (w.now a) k) (Packet a e t y (suc k) p) (note a e t y (suc k) p ∷ []) w
  unfolding for_sending
  put_is k w p h less from to =
      cond-true
      (eqb (r.owner p.from) a && not (eqb (r.owner p.to) a))
      _
      w
      (and_from
      (eqb (r.owner p.from) a)
      (not (eqb (r.owner p.to) a))
      (eq-eqb (r.owner p.from) a from)
      (not_from_false (eqb (r.owner p.to) a) (ne_eqb (r.owner p.to) a (λ s. two (sym s ∙ to))))) ∙
      ap (λ f. sends a p f w) found
    where
      t' : Talk
      t' = used e t y (w.now a) k

      found : for_sending r (w.now a) (r.owner p.to) (w.gates a).talks ≡ This t'
      found =
          ap (for_sending r (w.now a) (r.owner p.to)) h.at_a ∙
          cond-true
          (eqb e (r.owner p.to) && may_send r (w.now a) t')
          (This t')
          (for_sending r (w.now a) (r.owner p.to) h.rest_a)
          (and_from (eqb e (r.owner p.to)) (may_send r (w.now a) t') (eq-eqb e (r.owner p.to) (sym to)) (may_send_lem (w.now a) k less))

  emitted : (k : ℕ) (w : World) (p : Inner) → Ready k w → Ready (suc k) (emits a (used e t y (w.now a) k) (Packet a e t y (suc k) p) (note a e t y (suc k) p ∷ []) w)
  unfolding change
  emitted k w p h =
      record {
        rest_a = h.rest_a;
        rest_e = h.rest_e;
        at_a = ap (λ (g : Gate). g.talks) (changed_here a g' w.gates) ∙ (ap (change t sent_one) h.at_a ∙ cond-true (eqb t t) _ _ (self t));
        at_e = ap (λ (g : Gate). g.talks) (changed_there a g' w.gates e (λ s. two (sym s))) ∙ h.at_e;
        out_so = h.out_so;
      }
    where
      g' : Gate
      g' = with_talks (change t sent_one (w.gates a).talks) (w.gates a)

  put_ready : (k : ℕ) (w : World) (p : Inner) → Ready k w → k < r.most → r.owner p.from ≡ a → r.owner p.to ≡ e → Ready (suc k) (step r (Puts a p) w)
  put_ready k w p h less from to = subst (Ready (suc k)) (sym (put_is k w p h less from to)) (emitted k w p h)

  -- what waited is put in
  puts_ready : (es : List Ev) (ps : List Inner) → Ready 0 (world r es) → length ps ≤ r.most → ((p : Inner) → In p ps → (r.owner p.from ≡ a) × (r.owner p.to ≡ e)) →
      Ready (length ps) (world r (put_all a ps ++ es))
  unfolding put_all world
  puts_ready es [] h less own = h
  puts_ready es (p ∷ ps) h less own =
      put_ready
      (length ps)
      (world r (put_all a ps ++ es))
      p
      (puts_ready es ps h (omega arith) (λ q i. own q (Memᴰ.tail i)))
      less
      (own p (Memᴰ.head refl)).0
      (own p (Memᴰ.head refl)).1

  -- what is then put in comes out when it is brought
  comes_out : (k : ℕ) (w : World) (x : Inner) → Ready k w → k < r.most → r.owner x.from ≡ a → r.owner x.to ≡ e →
      (step r (Brings e 0 0) (step r (Puts a x) w)).out ≡ note e a y t (suc k) x ∷ before.out
  unfolding comes_in At is_in
  comes_out k w x h less from to =
      ap (λ z. (step r (Brings e 0 0) z).out) (put_is k w x h less from to) ∙
      (ap (λ (z : World). z.out) (brings-at r e 0 0 (Packet a e t y (suc k) x) w'.net w' refl ∙ cond-true (takes r e 0 (Packet a e t y (suc k) x) w') _ w' taken_so) ∙
      ap (λ z. note e a y t (suc k) x ∷ z) h'.out_so)
    where
      w' : World
      w' = emits a (used e t y (w.now a) k) (Packet a e t y (suc k) x) (note a e t y (suc k) x ∷ []) w

      h' : Ready (suc k) w'
      h' = emitted k w x h

      t' : Talk
      t' = new_talk a y t (w.now e) false

      may : may_come r (w.now e) (suc k) t' ≡ true
      may =
          and_from
          (ltb 0 (suc k))
          (lives r (w.now e) t' && (ltb 0 (suc k + r.window) && true))
          (lt-ltb 0 (suc k) (omega arith))
          (and_from
          (lives r (w.now e) t')
          (ltb 0 (suc k + r.window) && true)
          (le-leb (w.now e) (w.now e + r.life) (omega arith))
          (and_from (ltb 0 (suc k + r.window)) true (lt-ltb 0 (suc k + r.window) (omega arith)) refl))

      comes : comes_in r (w.now e) a y t (suc k) (w'.gates e).talks ≡ true
      comes =
          ap (comes_in r (w.now e) a y t (suc k)) h'.at_e ∙
          (cond-true
          (is_talk a y t t')
          (may_come r (w.now e) (suc k) t')
          (comes_in r (w.now e) a y t (suc k) h'.rest_e)
          (and_from (eqb a a) (eqb y y && eqb t t) (self a) (and_from (eqb y y) (eqb t t) (self y) (self t))) ∙
          may)

      taken_so : takes r e 0 (Packet a e t y (suc k) x) w' ≡ true
      taken_so =
          and_from
          (eqb e e)
          (comes_in r (w.now e) a y t (suc k) (w'.gates e).talks && (eqb (r.owner x.from) a && eqb (r.owner x.to) e))
          (self e)
          (and_from
          (comes_in r (w.now e) a y t (suc k) (w'.gates e).talks)
          (eqb (r.owner x.from) a && eqb (r.owner x.to) e)
          comes
          (and_from (eqb (r.owner x.from) a) (eqb (r.owner x.to) e) (eq-eqb _ a from) (eq-eqb _ e to)))

-- hello and reply of a new tick
module _ (r : Rules) (a e t y : ℕ) (two : a ≡ e → ⊥) (w : World) (v : Inv r w) (new-t : is_new t w ≡ true) (new-y : is_new y w ≡ true) (ty : t ≡ y → ⊥) where
  -- the clock moved on
  abbrev w₁ : World
  w₁ = step r (Tick a) w

  abbrev at : ℕ
  at = w₁.now a

  at-is : at ≡ suc (w.now a)
  at-is = changed_here a (suc (w.now a)) w.now

  -- the hello was made
  abbrev g₂ : Gate
  g₂ = record { talks = (w.gates a).talks; waits = record { for' = e; tag = t; at = at } ∷ (w.gates a).waits; last_hello = (w.gates a).last_hello }

  abbrev w₂ : World
  w₂ = becomes a g₂ (Hello a e t at ∷ []) (t ∷ []) w₁

  greets_so : step r (Greets a e t) w₁ ≡ w₂
  greets_so =
      cond-true (is_new t w₁ && not (eqb a e)) w₂ w₁ (and_from (is_new t w₁) (not (eqb a e)) new-t (not_from_false (eqb a e) (ne_eqb a e two)))

  e₂ : w₂.gates e ≡ w.gates e
  e₂ = changed_there a g₂ w.gates e (λ s. two (sym s))

  -- it was taken
  abbrev w₃ : World
  w₃ = taken e y (Hello a e t at) w₂

  new_y' : is_new y w₂ ≡ true
  unfolding is_in
  new_y' =
      let p = and_parts (not (is_in y w.drawn)) (not (eqb y 0)) new-y in
      and_from
      (not (eqb t y || is_in y w.drawn))
      (not (eqb y 0))
      (not_from_false (eqb t y || is_in y w.drawn) (or_from (eqb t y) (is_in y w.drawn) (ne_eqb t y ty) (not-true (is_in y w.drawn) p.0)))
      p.1

  above : ltb ((w₂.gates e).last_hello a) at ≡ true
  above =
      lt-ltb
      ((w₂.gates e).last_hello a)
      at
      (let p : (w₂.gates e).last_hello a ≡ (w.gates e).last_hello a = ap (λ (g : Gate). g.last_hello a) e₂ in
      let q : (w.gates e).last_hello a ≤ w.now a = v.kept.hellos e a in
      let s : at ≡ suc (w.now a) = at-is in
      omega arith)

  hello_so : step r (Brings e 0 y) w₂ ≡ w₃
  unfolding At
  hello_so =
      brings-at r e 0 y (Hello a e t at) w₂.net w₂ refl ∙
      cond-true
      (takes r e y (Hello a e t at) w₂)
      w₃
      w₂
      (and_from (eqb e e) (ltb ((w₂.gates e).last_hello a) at && is_new y w₂) (self e) (and_from (ltb ((w₂.gates e).last_hello a) at) (is_new y w₂) above new_y'))

  -- its reply was taken
  abbrev w₄ : World
  w₄ = taken a 0 (Reply e a y t) w₃

  g₃ : w₃.gates a ≡ g₂
  g₃ = changed_there e _ w₂.gates a two ∙ changed_here a g₂ w.gates

  waiting : waits_for at e t (w₃.gates a).waits ≡ true
  unfolding waits_for
  waiting =
      ap (λ (g : Gate). waits_for at e t g.waits) g₃ ∙
      or_left
      (eqb e e && (eqb t t && leb at (at + 5)))
      (waits_for at e t (w.gates a).waits)
      (and_from (eqb e e) (eqb t t && leb at (at + 5)) (self e) (and_from (eqb t t) (leb at (at + 5)) (self t) (le-leb at (at + 5) (omega arith))))

  reply_so : step r (Brings a 0 0) w₃ ≡ w₄
  unfolding At
  reply_so =
      brings-at r a 0 0 (Reply e a y t) w₃.net w₃ refl ∙
      cond-true (takes r a 0 (Reply e a y t) w₃) w₄ w₃ (and_from (eqb a a) (waits_for at e t (w₃.gates a).waits) (self a) waiting)

  greeted_so : step r (Brings a 0 0) (step r (Brings e 0 y) (step r (Greets a e t) w₁)) ≡ w₄
  greeted_so = ap (λ z. step r (Brings a 0 0) (step r (Brings e 0 y) z)) greets_so ∙ (ap (step r (Brings a 0 0)) hello_so ∙ reply_so)

  talks_a : (w₄.gates a).talks ≡ new_talk e t y at true ∷ (w.gates a).talks
  talks_a = ap (λ (g : Gate). g.talks) (changed_here a _ w₃.gates) ∙ ap (λ (g : Gate). new_talk e t y at true ∷ g.talks) g₃

  now_e : w₄.now e ≡ w.now e
  now_e = changed_there a (suc (w.now a)) w.now e (λ s. two (sym s))

  talks_e : (w₄.gates e).talks ≡ new_talk a y t (w₄.now e) false ∷ (w.gates e).talks
  talks_e =
      ap (λ (g : Gate). g.talks) (changed_there a _ w₃.gates e (λ s. two (sym s)) ∙ changed_here e _ w₂.gates) ∙
      ap (λ (g : Gate). new_talk a y t (w₄.now e) false ∷ g.talks) e₂

  ready : Ready r a e t y two w 0 w₄
  ready = record { rest_a = (w.gates a).talks; rest_e = (w.gates e).talks; at_a = talks_a; at_e = talks_e; out_so = refl }

module _ (r : Rules) (es : List Ev) (v : Inv r (world r es)) (x : Inner) (ps : List Inner) (a e t y : ℕ) (from : r.owner x.from ≡ a) (to : r.owner x.to ≡ e)
    (two : a ≡ e → ⊥) (less : length ps < r.most) (own : (p : Inner) → In p ps → (r.owner p.from ≡ a) × (r.owner p.to ≡ e))
    (new-t : is_new t (world r es) ≡ true) (new-y : is_new y (world r es) ≡ true) (ty : t ≡ y → ⊥) where
  after : world r (greeting a e t y ++ es) ≡ w₄ r a e t y two (world r es) v new-t new-y ty
  unfolding world
  after = greeted_so r a e t y two (world r es) v new-t new-y ty

  pub can_a : ((world r (greeting a e t y ++ es)).gates a).talks ≡ new_talk e t y (suc ((world r es).now a)) true ∷ ((world r es).gates a).talks
  can_a =
      ap (λ (z : World). (z.gates a).talks) after ∙
      (talks_a r a e t y two (world r es) v new-t new-y ty ∙
      ap (λ n. new_talk e t y n true ∷ ((world r es).gates a).talks) (at-is r a e t y two (world r es) v new-t new-y ty))

  pub can_e : ((world r (greeting a e t y ++ es)).gates e).talks ≡ new_talk a y t ((world r es).now e) false ∷ ((world r es).gates e).talks
  can_e =
      ap (λ (z : World). (z.gates e).talks) after ∙
      (talks_e r a e t y two (world r es) v new-t new-y ty ∙
      ap (λ n. new_talk a y t n false ∷ ((world r es).gates e).talks) (now_e r a e t y two (world r es) v new-t new-y ty))

  pub can-out : (world r (passing a e t y ps x ++ es)).out ≡ note e a y t (suc (length ps)) x ∷ (world r es).out
  unfolding world
  can-out =
      comes_out
      r
      a
      e
      t
      y
      two
      (world r es)
      (length ps)
      (world r ((put_all a ps ++ greeting a e t y) ++ es))
      x
      (rw append_assoc (puts_ready r a e t y two (world r es) (greeting a e t y ++ es) ps (subst (Ready r a e t y two (world r es) 0) (sym after) (ready r a e t y two (world r es) v new-t new-y ty)) (omega arith) own))
      less
      from
      to
