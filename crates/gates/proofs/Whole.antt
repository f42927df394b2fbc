-- The promise of the whole, from what holds of every world. Assumes nothing.
use Rattle.std.proofs.Common.{◌≡◌, ℕ, Bool, true, false, ◌&&◌, eqb, List, [], ◌∷◌, sym, refl, ap, ◌∙◌, subst}
use Rattle.std.proofs.lemmas.Bool.{cond-true, cond-false, eq-eqb}
use Rattle.gates.specs.Lists.{In, At}
use Rattle.gates.specs.Talk.{Inner, Rules, Talk, may_come, came}
use Rattle.gates.specs.World.{Packet, Gate, Note, World, Ev, Brings, is_talk, comes_in, change, with_talks, note, hears, takes, world}
use Rattle.gates.specs.Promise.{mirror, may_pass, LetOut, Main}
use Rattle.gates.proofs.Lists.{distinct_place}
use Rattle.gates.proofs.Talks.{is_talk_lem, comes_in_talk, comes_in_none, change_splits}
use Rattle.gates.proofs.Invariant.{SameNote, packet_for, Inv}
use Rattle.gates.proofs.Steps.{inv}
use Rattle.gates.proofs.Nets.{honest, brings-at}
use Rattle.gates.proofs.Can.{changed_here, changed_there, can_a, can_e, can-out}

module _ (r : Rules) (es : List Ev) where
  abbrev w : World
  w = world r es

  v : Inv r w
  v = inv r es

  once : (i k : ℕ) (o q : Note) → At i o w.out → At k q w.out → mirror o ≡ mirror q → i ≡ k
  once i k o q p l s =
      distinct_place
      SameNote
      (λ x y e. (sym e.0, sym e.1))
      w.out
      v.kept.outs_apart
      i
      k
      o
      q
      p
      l
      (ap (λ (z : Note). z.other_tag) s, ap (λ (z : Note). z.number) s)

  module _ (a e m h n i y : ℕ) (x : Inner) (p : At i (Packet a e m h n x) w.net) where
    abbrev owners : Bool
    owners = eqb (r.owner x.from) a && eqb (r.owner x.to) e

    -- the packet is taken exactly if its number comes and its addresses are the two gates'
    takes-is : (b : Bool) → comes_in r (w.now e) a h m n (w.gates e).talks ≡ b → takes r e y (Packet a e m h n x) w ≡ (b && owners)
    takes-is b c = ap (λ z. z && (comes_in r (w.now e) a h m n (w.gates e).talks && owners)) (eq-eqb e e refl) ∙ ap (λ z. z && owners) c

    kept : takes r e y (Packet a e m h n x) w ≡ false → world r (Brings e i y ∷ es) ≡ w
    unfolding world
    kept t = brings-at r e i y (Packet a e m h n x) w.net w p ∙ cond-false (takes r e y (Packet a e m h n x) w) _ w t

    accepted : takes r e y (Packet a e m h n x) w ≡ true → world r (Brings e i y ∷ es) ≡ hears e h n (note e a h m n x ∷ []) w
    unfolding world
    accepted t = brings-at r e i y (Packet a e m h n x) w.net w p ∙ cond-true (takes r e y (Packet a e m h n x) w) _ w t

    let_out : (t : Talk) → In t (w.gates e).talks → t.mine ≡ h → LetOut e n t (note e a h m n x) w (hears e h n (note e a h m n x ∷ []) w)
    let_out t j s =
        let split = change_splits h (came n) (w.gates e).talks t (v.memory e).apart j s in
        record {
          out_so = refl;
          talks_so = (split.0, split.1, split.2, ap (λ (z : Gate). z.talks) here ∙ split.3);
          waits_so = ap (λ (z : Gate). z.waits) here;
          hellos_so = ap (λ (z : Gate). z.last_hello) here;
          others_so = λ j' ne. changed_there e g w.gates j' ne;
          now_so = refl;
          net_so = refl;
          put_so = refl;
          drawn_so = refl;
        }
      where
        g : Gate
        g = with_talks (change h (came n) (w.gates e).talks) (w.gates e)

        here : (hears e h n (note e a h m n x ∷ []) w).gates e ≡ g
        here = changed_here e g w.gates

    comes_when : (t : Talk) → In t (w.gates e).talks → is_talk a h m t ≡ true →
        (may_pass r (w.now e) a e n x t ≡ true → LetOut e n t (note e a h m n x) w (world r (Brings e i y ∷ es))) ×
        (may_pass r (w.now e) a e n x t ≡ false → world r (Brings e i y ∷ es) ≡ w)
    comes_when t j s =
        let c = takes-is (may_come r (w.now e) n t) (comes_in_talk r (w.now e) a h m n (w.gates e).talks t (v.memory e).apart j s) in
        (λ q. subst (LetOut e n t (note e a h m n x) w) (sym (accepted (c ∙ q))) (let_out t j (is_talk_lem a h m t s).1), λ q. kept (c ∙ q))

    no_talk : ((t : Talk) → In t (w.gates e).talks → is_talk a h m t ≡ false) → world r (Brings e i y ∷ es) ≡ w
    no_talk none = kept (takes-is false (comes_in_none r (w.now e) a h m n (w.gates e).talks none))

pub main : Main
main r es =
    let u = inv r es in
    record {
      was_put =
          λ o i.
          let own = u.kept.outs_owned o i in
          ((u.kept.words (packet_for o) own.word).3, own.source, own.goal);
      once = once r es;
      nothing_bare = λ a e m h n x i. ((u.kept.words _ i).3, (honest r es).each _ i);
      comes_when = λ a e m h n i y x t p. comes_when r es a e m h n i y x p t;
      no_talk = λ a e m h n i y x p. no_talk r es a e m h n i y x p;
      can =
          λ x ps a e t y from to two less own new-t new-y ty. (
            can_a r es u x ps a e t y from to two less own new-t new-y ty,
            can_e r es u x ps a e t y from to two less own new-t new-y ty,
            can-out r es u x ps a e t y from to two less own new-t new-y ty,
          );
    }
