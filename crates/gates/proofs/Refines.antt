-- Gates that run code of the form asked for, and a net, do nothing but runs of the abstract protocol. Assumes nothing.
use Rattle.std.proofs.Common.{◌≡◌, ℕ, zero, suc, ◌<◌, false, not, ◌&&◌, eqb, ◌⊎◌, List, [], ◌∷◌, ◌++◌, sym, refl, ap, ◌∙◌, subst, inl, inr}
use Rattle.std.proofs.lemmas.Bool.{cond_both, and_from, not_from_false, ne_eqb}
use Rattle.gates.specs.Lists.{At}
use Rattle.gates.specs.Talk.{Inner, Rules, is_in, may_send}
use Rattle.gates.specs.World.{Word, Hello, Reply, Packet, Empty, Gate, World, Ev, Tick, Greets, Puts, Lies, Brings, Restarts, Drops, Stays, Found, NoTalk, This}
use Rattle.gates.specs.World.{is_new, for_sending, by_mine, takes, taken, brings_nth, sends, stays, step, world}
use Rattle.gates.specs.Promise.{lied, GreetsBelow}
use Rattle.gates.specs.Code.{Did, OfGate, AllOfGate, AllNew, Follows, Shape, Code, Field, Act, Asks, Brought, did, brings_to, play, NewIn, Fair, Plays, Keeps}
use Rattle.gates.proofs.Memories.{changed_both}
use Rattle.gates.proofs.Can.{changed_there}

-- gate j has its memory and its clock as they were
pub record Untouched (j : ℕ) (w v : World) : Type 0 where
  pub gate_so : v.gates j ≡ w.gates j
  pub now_so : v.now j ≡ w.now j

module _ (r : Rules) (j : ℕ) where
  same : (w : World) → Untouched j w w
  same w = record { gate_so = refl; now_so = refl }

  taken_there : (w : World) (e new : ℕ) (x : Word) → (j ≡ e → ⊥) → Untouched j w (taken e new x w)
  taken_there w e new (Hello a f tag n) ne = record { gate_so = changed_there e _ w.gates j ne; now_so = refl }
  taken_there w e new (Reply a f tag k) ne = record { gate_so = changed_there e _ w.gates j ne; now_so = refl }
  taken_there w e new (Packet a f m h n x) ne = record { gate_so = changed_there e _ w.gates j ne; now_so = refl }
  taken_there w e new (Empty a f m h n) ne = record { gate_so = changed_there e _ w.gates j ne; now_so = refl }

  brought_there : (w : World) (e i new : ℕ) (xs : List Word) → (j ≡ e → ⊥) → Untouched j w (brings_nth r e i new xs w)
  unfolding brings_nth
  brought_there w e i new [] ne = same w
  brought_there w e zero new (x ∷ xs) ne = cond_both (takes r e new x w) _ w (Untouched j w) (λ t. taken_there w e new x ne) (λ t. same w)
  brought_there w e (suc i) new (x ∷ xs) ne = brought_there w e i new xs ne

  sent_there : (w : World) (a : ℕ) (x : Inner) (f : Found) → (j ≡ a → ⊥) → Untouched j w (sends a x f w)
  sent_there w a x NoTalk ne = same w
  sent_there w a x (This t) ne = record { gate_so = changed_there a _ w.gates j ne; now_so = refl }

  stays_there : (w : World) (a : ℕ) (f : Found) → (j ≡ a → ⊥) → Untouched j w (stays r a f w)
  stays_there w a NoTalk ne = same w
  stays_there w a (This t) ne =
      cond_both (may_send r (w.now a) t) _ w (Untouched j w) (λ e. record { gate_so = changed_there a _ w.gates j ne; now_so = refl }) (λ e. same w)

  -- an event touches no gate but its own
  step_there : (w : World) (k a : ℕ) (v : Ev) → OfGate k a v → (j ≡ a → ⊥) → Untouched j w (step r v w)
  step_there w k a (Tick b) o ne = record { gate_so = refl; now_so = changed_there b _ w.now j (λ s. ne (s ∙ o)) }
  step_there w k a (Greets b e t) o ne =
      cond_both
      (is_new t w && not (eqb b e))
      _
      w
      (Untouched j w)
      (λ c. record { gate_so = changed_there b _ w.gates j (λ s. ne (s ∙ o.0)); now_so = refl })
      (λ c. same w)
  step_there w k a (Puts b x) o ne =
      cond_both
      (eqb (r.owner x.from) b && not (eqb (r.owner x.to) b))
      _
      w
      (Untouched j w)
      (λ c. sent_there w b x (for_sending r (w.now b) (r.owner x.to) (w.gates b).talks) (λ s. ne (s ∙ o)))
      (λ c. same w)
  step_there w k a (Lies b e x) o ne = absurd o
  step_there w k a (Brings e i t) o ne = brought_there w e i t w.net (λ s. ne (s ∙ o))
  step_there w k a (Restarts b) o ne = record { gate_so = changed_there b _ w.gates j (λ s. ne (s ∙ o)); now_so = refl }
  step_there w k a (Drops b m) o ne = record { gate_so = changed_there b _ w.gates j (λ s. ne (s ∙ o)); now_so = refl }
  step_there w k a (Stays b m) o ne = stays_there w b (by_mine m (w.gates b).talks) (λ s. ne (s ∙ o))

  pub run_there : (k a : ℕ) (vs es : List Ev) → AllOfGate k a vs → (j ≡ a → ⊥) → Untouched j (world r es) (world r (vs ++ es))
  unfolding AllOfGate world
  run_there k a [] es o ne = same (world r es)
  run_there k a (v ∷ vs) es o ne =
      let first = run_there k a vs es o.1 ne in
      let last = step_there (world r (vs ++ es)) k a v o.0 ne in
      record { gate_so = last.gate_so ∙ first.gate_so; now_so = last.now_so ∙ first.now_so }

step-honest : (k a b : ℕ) (v : Ev) (es : List Ev) → OfGate k a v → lied b es ≡ false → lied b (v ∷ es) ≡ false
unfolding lied
step-honest k a b (Tick d) es o e = e
step-honest k a b (Greets d f t) es o e = e
step-honest k a b (Puts d x) es o e = e
step-honest k a b (Lies d f x) es o e = absurd o
step-honest k a b (Brings f i t) es o e = e
step-honest k a b (Restarts d) es o e = e
step-honest k a b (Drops d m) es o e = e
step-honest k a b (Stays d m) es o e = e

-- nobody lies in a gate's own events
pub run-honest : (k a b : ℕ) (vs es : List Ev) → AllOfGate k a vs → lied b es ≡ false → lied b (vs ++ es) ≡ false
unfolding AllOfGate
run-honest k a b [] es o e = e
run-honest k a b (v ∷ vs) es o e = step-honest k a b v (vs ++ es) o.0 (run-honest k a b vs es o.1 e)

-- and nobody greets or is greeted who is not there
pub run-below : (k a : ℕ) (vs es : List Ev) → a < k → AllOfGate k a vs → GreetsBelow k es → GreetsBelow k (vs ++ es)
unfolding AllOfGate GreetsBelow
run-below k a [] es l o g = g
run-below k a (Tick b ∷ vs) es l o g = run-below k a vs es l o.1 g
run-below k a (Greets b e t ∷ vs) es l o g = (subst (λ z. z < k) (sym o.0.0) l, o.0.1, run-below k a vs es l o.1 g)
run-below k a (Puts b x ∷ vs) es l o g = run-below k a vs es l o.1 g
run-below k a (Lies b e x ∷ vs) es l o g = absurd o.0
run-below k a (Brings e i t ∷ vs) es l o g = run-below k a vs es l o.1 g
run-below k a (Restarts b ∷ vs) es l o g = run-below k a vs es l o.1 g
run-below k a (Drops b m ∷ vs) es l o g = run-below k a vs es l o.1 g
run-below k a (Stays b m ∷ vs) es l o g = run-below k a vs es l o.1 g

module _ (r : Rules) {S C : Type 0} (c : Shape S C) (Stands : (a : ℕ) → S → ℕ → Gate → Type 0) (laws : Code r c Stands) where
  all_new : (ts drawn : List ℕ) (w : World) → w.drawn ≡ drawn → NewIn c ts drawn → AllNew ts w
  unfolding NewIn AllNew
  all_new [] drawn w s n = tt
  all_new (t ∷ ts) drawn w s n = (
    and_from
        (not (is_in t w.drawn))
        (not (eqb t 0))
        (not_from_false (is_in t w.drawn) (subst (λ z. is_in t z ≡ false) (sym s) n.0))
        (not_from_false (eqb t 0) (ne_eqb t 0 n.1)),
    n.2,
    all_new ts drawn w s n.3,
  )

  -- one gate did what its events did: the field goes on standing for the world
  did-plays : (f : Field c) (es vs : List Ev) (a : ℕ) (d : Did S) → a < c.gates → Plays c r Stands f es → AllOfGate c.gates a vs → Follows (Stands a) a (world r es) (world r (vs ++ es)) d → Plays c r Stands (did c a d f) (vs ++ es)
  did-plays f es vs a d there p own fl =
      record {
        stands =
            λ j less.
            changed_both
            (λ s. Stands j s ((world r (vs ++ es)).now j) ((world r (vs ++ es)).gates j))
            a
            d.after
            f.states
            j
            (λ e. subst (λ k. Stands k d.after ((world r (vs ++ es)).now k) ((world r (vs ++ es)).gates k)) (sym e) fl.stands)
            (λ ne.
            let u = run_there r j c.gates a vs es own ne in
            subst
            (λ g. Stands j (f.states j) ((world r (vs ++ es)).now j) g)
            (sym u.gate_so)
            (subst (λ n. Stands j (f.states j) n ((world r es).gates j)) (sym u.now_so) (p.stands j less)));
        net_so = fl.net_so ∙ ap (λ z. d.sent ++ z) p.net_so;
        put_so = fl.put_so ∙ ap (λ z. d.put ++ z) p.put_so;
        out_so = fl.out_so ∙ ap (λ z. d.out ++ z) p.out_so;
        drawn_so = fl.drawn_so ∙ ap (λ z. d.drew ++ z) p.drawn_so;
        below = run-below c.gates a vs es there own p.below;
        honest = λ b. run-honest c.gates a b vs es own (p.honest b);
      }

  -- the word at a place is heard, or there is none
  brought_cases : (a i : ℕ) (ts : List ℕ) (xs : List Word) (f : Field c) →
      ((x : Word) × At i x xs × (brings_to c a i ts xs f ≡ did c a (c.hears a x ts (f.states a)) f)) ⊎ (brings_to c a i ts xs f ≡ f)
  unfolding brings_to At
  brought_cases a i ts [] f = inr refl
  brought_cases a zero ts (x ∷ xs) f = inl (x, refl, refl)
  brought_cases a (suc i) ts (x ∷ xs) f = brought_cases a i ts xs f

  plays : (acts : List (Act c)) → Fair c acts → (es : List Ev) × Plays c r Stands (play c acts) es
  unfolding play Fair world lied GreetsBelow
  plays [] d =
      ([], record { stands = laws.first_stands; net_so = refl; put_so = refl; out_so = refl; drawn_so = refl; below = tt; honest = λ a. refl })
  plays (Asks a x ∷ acts) d =
      let h = plays acts d.2 in
      let s = (play c acts).states a in (
        c.doing a x s ++ h.0,
        did-plays
            (play c acts)
            h.0
            (c.doing a x s)
            a
            (c.does a x s)
            d.0
            h.1
            (laws.doing_own a x s _ _ (h.1.stands a d.0))
            (laws.does_so h.0 a x s d.0 h.1.below (h.1.stands a d.0) (all_new (c.offers x) (play c acts).drawn (world r h.0) h.1.drawn_so d.1)),
      )
  plays (Brought a i ts ∷ acts) d = of (plays acts d.2) (brought_cases a i ts (play c acts).net (play c acts))
    where
      f : Field c
      f = play c acts

      of : ((es : List Ev) × Plays c r Stands f es) →
          (((x : Word) × At i x f.net × (brings_to c a i ts f.net f ≡ did c a (c.hears a x ts (f.states a)) f)) ⊎ (brings_to c a i ts f.net f ≡ f)) →
          (es : List Ev) × Plays c r Stands (brings_to c a i ts f.net f) es
      of h (inl y) =
          let s = f.states a in (
            c.hearing a y.0 ts s i ++ h.0,
            subst
                (λ z. Plays c r Stands z (c.hearing a y.0 ts s i ++ h.0))
                (sym y.2)
                (did-plays
                f
                h.0
                (c.hearing a y.0 ts s i)
                a
                (c.hears a y.0 ts s)
                d.0
                h.1
                (laws.hearing_own a y.0 ts s i _ _ (h.1.stands a d.0))
                (laws.hears_so
                h.0
                a
                y.0
                ts
                s
                i
                d.0
                h.1.below
                (h.1.stands a d.0)
                (subst (λ z. At i y.0 z) (sym h.1.net_so) y.1)
                (all_new ts f.drawn (world r h.0) h.1.drawn_so d.1))),
          )
      of h (inr e) = (h.0, subst (λ z. Plays c r Stands z h.0) (sym e) h.1)

pub code-keeps : (r : Rules) {S C : Type 0} (c : Shape S C) (Stands : (a : ℕ) → S → ℕ → Gate → Type 0) → Code r c Stands → Keeps r c Stands
code-keeps r c Stands laws acts d = plays r c Stands laws acts d
