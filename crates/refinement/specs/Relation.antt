-- For which gate of the abstract protocol a gate's memory stands. A relation: the memory forgets what can no longer matter, and its window says less than the
-- list of all that came. Assumes nothing.
use Rattle.std.specs.Prelude.{◌≡◌, ℕ, ◌%◌, ◌^◌, ◌<◌, ◌≤◌, true, cond, List, [], ◌∷◌, length, Some, None, Option, ◌==◌, slice_index_or}
use Rattle.gates.specs.Lists.{In}
use Rattle.gates.specs.Talk.{Rules}
use Rattle.gates.specs.Talk.{Talk as Session}
use Rattle.gates.specs.World.{Gate, waits_for}
use Rattle.window.specs.Heard.{span}
use Rattle.window.specs.Heard.{Stands as Shows}
use Rattle.gateway.specs.declared.state.Talk.{Talk}
use Rattle.gateway.specs.declared.state.Wait.{Wait}
use Rattle.gateway.specs.declared.state.Peer.{Peer}
use Rattle.gateway.specs.declared.state.Gateway.{Gateway}
use Rattle.gateway.specs.Peers.{is_asked}
use Rattle.gateway.specs.Steps.{peer_at, is_peer}

-- The rules of the abstract protocol that the code keeps: any life, most and owners; the window is the code's.
abbrev pub rules_of : (life most : ℕ) → (ℕ → ℕ) → Rules
rules_of life most owner = record { life = life; most = most; window = span; owner = owner }

-- the talks with gate e, in their order
unfoldable pub with_peer : ℕ → List Session → List Session
with_peer e [] = []
with_peer e (t ∷ ts) = cond (t.with' == e) (t ∷ with_peer e ts) (with_peer e ts)

-- A talk in memory stands for an abstract one: the same tags and numbers, and its window shows what came.
pub record SameTalk (t : Session) (u : Talk) : Type 0 where
  pub mine_so : u.tags.mine ≡ t.mine
  pub theirs_so : u.tags.theirs ≡ t.theirs
  pub born_so : u.born ≡ t.born
  pub sent_so : u.sent ≡ t.sent
  pub sure_so : u.sure ≡ t.sure
  pub window_so : Shows u.window t.top t.heard

-- all places are empty
unfoldable pub Vacant : List (Option Talk) → Type 0
Vacant [] = Unit {0}
Vacant (None ∷ us) = Vacant us
Vacant (Some u ∷ us) = ⊥

-- the places hold just these talks, one by one from the first
unfoldable pub Agrees : List Session → List (Option Talk) → Type 0
Agrees [] us = Vacant us
Agrees (t ∷ ts) [] = ⊥
Agrees (t ∷ ts) (None ∷ us) = ⊥
Agrees (t ∷ ts) (Some u ∷ us) = SameTalk t u × Agrees ts us

-- What is remembered of gate e is what the abstract gate has of it. waits_so: of every tag, from now on, whether its hello can still be answered.
pub record SamePeer (now : ℕ) (g : Gate) (e : ℕ) (p : Peer) : Type 0 where
  pub talks_so : Agrees (with_peer e g.talks) p.talks
  pub three : length p.talks ≡ 3
  pub waits_so : (n t : ℕ) → now ≤ n → waits_for n e t g.waits ≡ is_asked n t p
  pub six : length p.waits ≡ 6
  pub placed : (i : ℕ) (x : Wait) → slice_index_or p.waits i None ≡ Some x → (x.at % 6 ≡ i) × (x.at ≤ now)
  pub hello_so : g.last_hello e ≡ p.last_hello

-- A gate's memory stands for an abstract gate a of k gates, at this tick of its clock.
pub record Stands (k life most a : ℕ) (s : Gateway) (now : ℕ) (g : Gate) : Type 0 where
  pub own_so : s.own ≡ a
  pub gates_so : s.gates ≡ k
  pub life_so : s.terms.life ≡ life
  pub most_so : s.terms.most ≡ most
  pub now_so : s.now ≡ now
  pub clock : s.now < 2 ^ 64
  pub fell_so : s.fell ≤ s.now
  pub table : length s.peers ≡ 32
  pub peers_so : (e : ℕ) → is_peer e s ≡ true → SamePeer now g e (peer_at e s)
  pub known : (t : Session) → In t g.talks → is_peer t.with' s ≡ true
