-- Each public call, by its answer and the memory after, does what its events do. Assumes nothing.
use Rattle.std.proofs.Common.{◌≡◌, ℕ, ◌^◌, ◌<◌, ◌≤◌, List, [], ◌∷◌, ◌++◌, Some, Option, Result, sym, refl, ap, ◌∙◌, subst, arith}
use Rattle.std.proofs.lemmas.List.{get_or-replicate}
use Rattle.protocol.specs.declared.refusals.Refusal.{Refusal}
use Rattle.gates.specs.Lists.{At}
use Rattle.gates.specs.Talk.{Inner}
use Rattle.gates.specs.World.{Ev, Brings, Puts, empty_gate, waits_for, world}
use Rattle.gates.specs.World.{Word as Sealed, Hello as HelloWord, Reply as ReplyWord, Packet as PacketWord, Empty as EmptyWord}
use Rattle.gates.specs.Promise.{by_of, GreetsBelow}
use Rattle.gates.specs.Code.{Follows, AllNew}
use Rattle.gateway.specs.declared.state.Gateway.{Gateway}
use Rattle.gateway.specs.declared.state.Word.{Word}
use Rattle.gateway.specs.declared.state.Taken.{Taken}
use Rattle.gateway.specs.Slots.{first_that}
use Rattle.gateway.specs.Peers.{unknown}
use Rattle.gateway.specs.Steps.{blank, fresh, peer_at, took, took_after, put, put_after, greet, greet_after, ticked, restarted}
use Rattle.refinement.specs.Relation.{rules_of, with_peer, Vacant, Agrees, SamePeer, Stands}
use Rattle.refinement.specs.Calls.{Ticks, Says, Sends, Falls, drawn_of, all_known, Knows, Numbers, ReadsAs, as_code, sent_for, drew_for, out_for, drops_for, hears, hearing, sent_as, put_as, gone_out, drawn_as, does, doing}
use Rattle.refinement.specs.Steps.{TakeFollows, PutFollows, GreetFollows, TickFollows, RestartFollows}
use Rattle.refinement.proofs.Owning.{reads_took, reads_after, put_same, put_after_same, numbers_of, reads_known}
use Rattle.refinement.proofs.Standing.{peer_bound}
use Rattle.refinement.proofs.Asked.{ticks_so, falls_so, says_so, sends_so, empty-place}
use Rattle.refinement.proofs.Taking.{hello_so, reply_so, packet_so, empty_so}

-- any word of the net
pub hears_so : (k life most : ℕ) (few : k ≤ 32) (owner : ℕ → ℕ) (es : List Ev) (a : ℕ) (x : Sealed) (ts : List ℕ) (s : Gateway) (i : ℕ) → GreetsBelow k es →
    Stands k life most a s ((world (rules_of life most owner) es).now a) ((world (rules_of life most owner) es).gates a) → At i x (world (rules_of life most owner) es).net → AllNew ts (world (rules_of life most owner) es) →
    Follows (Stands k life most a) a (world (rules_of life most owner) es) (world (rules_of life most owner) (hearing (all_known owner) a x ts s i ++ es)) (hears (all_known owner) a x ts s)
hears_so k life most few owner es a (HelloWord by f tag n) ts s i b st p new = hello_so k life most few owner es a by f tag n ts s i b st p new
hears_so k life most few owner es a (ReplyWord by f tag to) ts s i b st p new = reply_so k life most few owner es a by f tag to ts s i b st p
hears_so k life most few owner es a (PacketWord by f m h n y) ts s i b st p new = packet_so k life most few owner es a by f m h n y ts s i b st p
hears_so k life most few owner es a (EmptyWord by f m h n) ts s i b st p new = empty_so k life most few owner es a by f m h n ts s i b st p

pub take_follows : (word : Word) (drawn : ℕ) (s : Gateway) (res : Result Taken Refusal) (after : Gateway) → res ≡ took word drawn s → after ≡ took_after word drawn s → TakeFollows word drawn s res after
unfolding TakeFollows
take_follows word drawn s res after er ea k life most owner es a x ts i few b reads is-drawn st p new =
    subst
    (λ d. Follows (Stands k life most a) a (world (rules_of life most owner) es) (world (rules_of life most owner) (hearing (all_known owner) a x ts s i ++ es)) d)
    same
    (hears_so k life most few owner es a x ts s i b st p new)
  where
    r_is : took (as_code (all_known owner) x) (drawn_of ts) s ≡ res
    r_is = reads_took s owner x word (drawn_of ts) reads ∙ (ap (λ d. took word d s) is-drawn ∙ sym er)

    a_is : took_after (as_code (all_known owner) x) (drawn_of ts) s ≡ after
    a_is = reads_after s owner x word (drawn_of ts) reads ∙ (ap (λ d. took_after word d s) is-drawn ∙ sym ea)

    same : hears (all_known owner) a x ts s ≡ record { after = after; sent = sent_for res; put = []; out = out_for a x res; drew = drew_for drawn res }
    same j = record { after = a_is j; sent = sent_for (r_is j); put = []; out = out_for a x (r_is j); drew = drew_for (is-drawn j) (r_is j) }

pub put_follows : (source goal : Option ℕ) (s : Gateway) (res : Result (Option Word) Refusal) (after : Gateway) → res ≡ put source goal s → after ≡ put_after source goal s → PutFollows source goal s res after
unfolding PutFollows
put_follows source goal s res after er ea k life most owner es a x fits from to st =
    subst
    (λ d. Follows (Stands k life most a) a (world (rules_of life most owner) es) (world (rules_of life most owner) (Puts a x ∷ es)) d)
    same
    (sends_so k life most fits owner es a x s st)
  where
    r_is : put (Some (owner x.from)) (Some (owner x.to)) s ≡ res
    r_is = put_same s source goal (owner x.from) (owner x.to) from to ∙ sym er

    a_is : put_after (Some (owner x.from)) (Some (owner x.to)) s ≡ after
    a_is = put_after_same s source goal (owner x.from) (owner x.to) from to ∙ sym ea

    same : does (all_known owner) a (Sends x) s ≡ record { after = after; sent = sent_as x (gone_out res); put = put_as x (gone_out res); out = []; drew = [] }
    same j = record { after = a_is j; sent = sent_as x (gone_out (r_is j)); put = put_as x (gone_out (r_is j)); out = []; drew = [] }

pub greet_follows : (e t : ℕ) (s : Gateway) (res : Option Word) (after : Gateway) → res ≡ greet e t s → after ≡ greet_after e t s → GreetFollows e t s res after
unfolding GreetFollows
greet_follows e t s res after er ea k life most owner es a fits st new =
    subst
    (λ d. Follows (Stands k life most a) a (world (rules_of life most owner) es) (world (rules_of life most owner) (doing a (Says e t) s ++ es)) d)
    (λ j. record { after = sym ea j; sent = sent_as Rattle.refinement.specs.Calls.nothing (sym er j); put = []; out = []; drew = drawn_as t (sym er j) })
    (says_so k life most fits owner es a e t s st new)

pub tick_follows : (s after : Gateway) → after ≡ ticked s → TickFollows s after
unfolding TickFollows
tick_follows s after e k life most owner es a fits st =
    subst
    (λ z. Follows (Stands k life most a) a (world (rules_of life most owner) es) (world (rules_of life most owner) (doing a Ticks s ++ es)) (record { after = z; sent = []; put = []; out = []; drew = [] }))
    (sym e)
    (ticks_so k life most fits owner es a s st)

pub restart_follows : (s after : Gateway) → after ≡ restarted s → RestartFollows s after
unfolding RestartFollows
restart_follows s after e k life most owner es a fits st =
    subst
    (λ z. Follows (Stands k life most a) a (world (rules_of life most owner) es) (world (rules_of life most owner) (doing a Falls s ++ es)) (record { after = z; sent = []; put = []; out = []; drew = [] }))
    (sym e)
    (falls_so k life most fits owner es a s st)

-- any word of the net, at a gate that is there, by what its code knows of who owns which address
pub hears_known : (k life most : ℕ) (few : k ≤ 32) (known : ℕ → Option ℕ) (owner : ℕ → ℕ) → Knows k known owner → (es : List Ev) (a : ℕ) (x : Sealed) (ts : List ℕ) (s : Gateway) (i : ℕ) → a < k → GreetsBelow k es →
    Stands k life most a s ((world (rules_of life most owner) es).now a) ((world (rules_of life most owner) es).gates a) → At i x (world (rules_of life most owner) es).net → AllNew ts (world (rules_of life most owner) es) →
    Follows (Stands k life most a) a (world (rules_of life most owner) es) (world (rules_of life most owner) (hearing known a x ts s i ++ es)) (hears known a x ts s)
unfolding TakeFollows
hears_known k life most few known owner knows es a x ts s i less b st p new =
    subst
    (λ v. Follows (Stands k life most a) a (world (rules_of life most owner) es) (world (rules_of life most owner) ((Brings a i (drawn_of ts) ∷ drops_for a (peer_at (by_of x) s) v) ++ es)) (hears known a x ts s))
    (reads_took s owner x (as_code known x) (drawn_of ts) reads)
    (take_follows (as_code known x) (drawn_of ts) s (took (as_code known x) (drawn_of ts) s) (took_after (as_code known x) (drawn_of ts) s) refl refl k life most owner es a x ts i few b reads refl st p new)
  where
    reads : ReadsAs s owner x (as_code known x)
    reads = reads_known known owner x s (λ y. numbers_of k life most a s _ _ (known y) (owner y) st less (knows y))

-- a packet that is put in there
pub sends_known : (k life most : ℕ) (fits : most < 2 ^ 32) (known : ℕ → Option ℕ) (owner : ℕ → ℕ) → Knows k known owner → (es : List Ev) (a : ℕ) (x : Inner) (s : Gateway) → a < k →
    Stands k life most a s ((world (rules_of life most owner) es).now a) ((world (rules_of life most owner) es).gates a) →
    Follows (Stands k life most a) a (world (rules_of life most owner) es) (world (rules_of life most owner) (Puts a x ∷ es)) (does known a (Sends x) s)
unfolding PutFollows
sends_known k life most fits known owner knows es a x s less st =
    put_follows (known x.from) (known x.to) s (put (known x.from) (known x.to) s) (put_after (known x.from) (known x.to) s) refl refl k life most owner es a x fits (numbers x.from) (numbers x.to) st
  where
    numbers : (y : ℕ) → Numbers s (known y) (owner y)
    numbers y = numbers_of k life most a s _ _ (known y) (owner y) st less (knows y)

-- a gate that was just made stands for one before anything happened
pub start_stands : (k life most a : ℕ) → Stands k life most a (fresh a k life most) 1 empty_gate
unfolding with_peer Agrees Vacant waits_for first_that
start_stands k life most a =
    record {
      own_so = refl;
      gates_so = refl;
      life_so = refl;
      most_so = refl;
      now_so = refl;
      clock = omega arith;
      fell_so = omega arith;
      table = refl;
      peers_so =
          λ e pe.
          subst
          (SamePeer 1 empty_gate e)
          (sym (get_or-replicate 32 e unknown blank (peer_bound e (fresh a k life most) pe)))
          (record {
            talks_so = tt;
            three = refl;
            waits_so = λ n t l. refl;
            six = refl;
            placed = λ i x h. absurd (empty-place 6 i x h);
            hello_so = refl;
          });
      known = λ t i. absurd (mathlib.Core.List.Memᴰ.not-nil i);
    }

-- the same, of a memory that is known to be such a gate's
pub made : (k life most a : ℕ) (s : Gateway) → s ≡ fresh a k life most → Stands k life most a s 1 empty_gate
made k life most a s e = subst (λ z. Stands k life most a z 1 empty_gate) (sym e) (start_stands k life most a)
