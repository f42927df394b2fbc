-- Owners that nobody is: a gate does with an address that nobody owns what it does with one of the number of no gate. Assumes nothing.
use Rattle.std.proofs.Common.{◌≡◌, ℕ, ◌<◌, ◌≤◌, Bool, true, false, cond, not, ◌&&◌, eqb, ltb, List, Some, None, Option, sym, refl, ap, ◌∙◌, subst, ap₂, slice_get, arith}
use Rattle.std.specs.Prelude.{unwrap_or}
use Rattle.std.proofs.lemmas.Bool.{cond-false, le-ltb, ne_eqb, and_parts, both_ways}
use Rattle.std.proofs.lemmas.Option.{unwrap_or-slice_get}
use Rattle.protocol.specs.declared.refusals.Refusal.TheVariants.{ForeignAddress, NoRoute}
use Rattle.gates.specs.World.{Gate}
use Rattle.gates.specs.World.{Word as Sealed, Hello as HelloWord, Reply as ReplyWord, Packet as PacketWord, Empty as EmptyWord}
use Rattle.gateway.specs.declared.state.Gateway.{Gateway}
use Rattle.gateway.specs.declared.state.Word.{Word}
use Rattle.gateway.specs.declared.state.Taken.TheVariants.{Out}
use Rattle.gateway.specs.Steps.{between, is_peer, answer, leaves, if_owned, owns, found_talk, packet_talk, heard_after, took, took_after, packet_for, sent_for, put, put_after}
use Rattle.gateway.specs.Steps.{taken as answered-as}
use Rattle.refinement.specs.Relation.{Stands}
use Rattle.refinement.specs.Calls.{all_known, IsOwner, Knows, Numbers, ReadsAs, as_code}
use Rattle.refinement.specs.Sea.{owner_in, owner_at}

-- this gate owns an address in both
owns_same : (s : Gateway) (o : Option ℕ) (n : ℕ) → Numbers s o n → owns s.own (Some n) ≡ owns s.own o
owns_same s (Some g) n h = ap (λ z. eqb z s.own) h
owns_same s None n h = ne_eqb n s.own h.0

-- another gate does
maker_same : (s : Gateway) (e : ℕ) (o : Option ℕ) (n : ℕ) → is_peer e s ≡ true → Numbers s o n → owns e (Some n) ≡ owns e o
maker_same s e (Some g) n p h = ap (λ z. eqb z e) h
maker_same s e None n p h = ne_eqb n e (λ q. both_ways (is_peer e s) (subst (λ z. is_peer z s ≡ false) q h.1) p)

packet_same : (s : Gateway) (by f m h n : ℕ) (source goal : Option ℕ) (u v : ℕ) → Numbers s source u → Numbers s goal v →
    packet_talk by f m h n (Some u) (Some v) s ≡ packet_talk by f m h n source goal s
packet_same s by f m h n source goal u v a b = go (is_peer by s && eqb f s.own) refl
  where
    go : (c : Bool) → (is_peer by s && eqb f s.own) ≡ c → packet_talk by f m h n (Some u) (Some v) s ≡ packet_talk by f m h n source goal s
    go true e =
        ap₂ (λ x y. if_owned (x && y) (found_talk by f m h n s)) (maker_same s by source u (and_parts (is_peer by s) (eqb f s.own) e).0 a) (owns_same s goal v b)
    go false e =
        ap (if_owned (owns by (Some u) && owns s.own (Some v))) (cond-false (is_peer by s && eqb f s.own) _ _ e) ∙
        sym (ap (if_owned (owns by source && owns s.own goal)) (cond-false (is_peer by s && eqb f s.own) _ _ e))

-- a word that the code may have for one of the abstract protocol's is answered as the one that names all owners
pub reads_took : (s : Gateway) (owner : ℕ → ℕ) (x : Sealed) (w : Word) (t : ℕ) → ReadsAs s owner x w → took (as_code (all_known owner) x) t s ≡ took w t s
reads_took s owner (HelloWord a e g n) w t h = ap (λ z. took z t s) h
reads_took s owner (ReplyWord a e g k) w t h = ap (λ z. took z t s) h
reads_took s owner (PacketWord a e m h n x) w t (o, is, from, to) =
    ap (answered-as Out) (packet_same s a e m h n o.source o.goal (owner x.from) (owner x.to) from to) ∙ ap (λ z. took z t s) is
reads_took s owner (EmptyWord a e m h n) w t is = ap (λ z. took z t s) is

pub reads_after : (s : Gateway) (owner : ℕ → ℕ) (x : Sealed) (w : Word) (t : ℕ) → ReadsAs s owner x w → took_after (as_code (all_known owner) x) t s ≡ took_after w t s
reads_after s owner (HelloWord a e g n) w t h = ap (λ z. took_after z t s) h
reads_after s owner (ReplyWord a e g k) w t h = ap (λ z. took_after z t s) h
reads_after s owner (PacketWord a e m h n x) w t (o, is, from, to) =
    ap (heard_after a n s) (packet_same s a e m h n o.source o.goal (owner x.from) (owner x.to) from to) ∙ ap (λ z. took_after z t s) is
reads_after s owner (EmptyWord a e m h n) w t is = ap (λ z. took_after z t s) is

-- a packet of which nobody owns an address is put in as one of which no gate does
pub put_same : (s : Gateway) (source goal : Option ℕ) (u v : ℕ) → Numbers s source u → Numbers s goal v → put (Some u) (Some v) s ≡ put source goal s
put_same s (Some g) (Some e) u v a b = ap₂ (λ x y. put (Some x) (Some y) s) a b
put_same s (Some g) None u v a b = ap (λ z. put (Some z) (Some v) s) a ∙ go (eqb g s.own)
  where
    go : (c : Bool) → answer (cond c (cond (is_peer v s) None (Some NoRoute)) (Some ForeignAddress)) (packet_for (Some g) (Some v) s) ≡ answer (cond c (Some NoRoute) (Some ForeignAddress)) None
    go true = ap (λ z. answer z (packet_for (Some g) (Some v) s)) (cond-false (is_peer v s) None (Some NoRoute) b.1)
    go false = refl
put_same s None goal u v a b = ap (λ z. answer z (packet_for (Some u) (Some v) s)) (cond-false (eqb u s.own) _ (Some ForeignAddress) (ne_eqb u s.own a.0))

pub put_after_same : (s : Gateway) (source goal : Option ℕ) (u v : ℕ) → Numbers s source u → Numbers s goal v → put_after (Some u) (Some v) s ≡ put_after source goal s
put_after_same s (Some g) (Some e) u v a b = ap₂ (λ x y. put_after (Some x) (Some y) s) a b
put_after_same s (Some g) None u v a b = ap (λ z. put_after (Some z) (Some v) s) a ∙ go (eqb g s.own)
  where
    go : (c : Bool) → leaves (cond c (cond (is_peer v s) None (Some NoRoute)) (Some ForeignAddress)) s (sent_for (Some v) s) ≡ leaves (cond c (Some NoRoute) (Some ForeignAddress)) s s
    go true = ap (λ z. leaves z s (sent_for (Some v) s)) (cond-false (is_peer v s) None (Some NoRoute) b.1)
    go false = refl
put_after_same s None goal u v a b = ap (λ z. leaves z s (sent_for (Some v) s)) (cond-false (eqb u s.own) _ (Some ForeignAddress) (ne_eqb u s.own a.0))

-- the number that an owner has among k gates, it has for the memory of each of them
pub numbers_of : (k life most a : ℕ) (s : Gateway) (now : ℕ) (g : Gate) (o : Option ℕ) (n : ℕ) → Stands k life most a s now g → a < k → IsOwner k o n → Numbers s o n
numbers_of k life most a s now g (Some e) n st less h = h
numbers_of k life most a s now g None n st less h =
    let own : s.own ≡ a = st.own_so in
    let all : s.gates ≡ k = st.gates_so in
    (λ q. omega arith, ap (λ b. b && (ltb n 32 && not (eqb n s.own))) (le-ltb n s.gates (omega arith)))

-- a word is read as the one that the code has for it, by what it knows of its owners
pub reads_known : (known : ℕ → Option ℕ) (owner : ℕ → ℕ) (x : Sealed) (s : Gateway) → ((y : ℕ) → Numbers s (known y) (owner y)) → ReadsAs s owner x (as_code known x)
reads_known known owner (HelloWord a e t n) s h = refl
reads_known known owner (ReplyWord a e t k) s h = refl
reads_known known owner (PacketWord a e m r n y) s h = (between (known y.from) (known y.to), refl, h y.from, h y.to)
reads_known known owner (EmptyWord a e m r n) s h = refl

-- what is not known may be the number of a gate that is not there
pub known_or_none : (k : ℕ) (o : Option ℕ) → IsOwner k o (unwrap_or o k)
known_or_none k (Some g) = refl
known_or_none k None = omega arith

-- the table's owner of an address is a gate's, or none, and then the abstract one is nobody's number
pub table_knows : (k : ℕ) (owners : List ℕ) → k ≤ 32 → Knows k (owner_at owners) (owner_in owners)
table_knows k owners few x = go (slice_get owners x) (sym (unwrap_or-slice_get owners x 255))
  where
    go : (o : Option ℕ) → owner_in owners x ≡ unwrap_or o 255 → IsOwner k o (owner_in owners x)
    go (Some g) e = e
    go None e = omega arith

-- whose the abstract owner says an address is, if that is a gate, the table does too
pub known_at : (owners : List ℕ) (x a : ℕ) → owner_in owners x ≡ a → a < 255 → owner_at owners x ≡ Some a
known_at owners x a e l = go (slice_get owners x) (unwrap_or-slice_get owners x 255 ∙ e)
  where
    go : (o : Option ℕ) → unwrap_or o 255 ≡ a → o ≡ Some a
    go (Some g) q = ap Some q
    go None q = absurd (omega arith)
