-- Gates that were just made are at the beginning of a run; and playing one event more. Assumes nothing.
use Rattle.std.proofs.Common.{◌≡◌, ℕ, ◌+◌, ◌<◌, List, [], ◌∷◌, ◌++◌, length, get_or, take, sym, refl, ap, ◌∙◌, subst, arith}
use Rattle.std.proofs.lemmas.List.{take_more, get_or_default}
use Rattle.std.proofs.lemmas.List.FromFn.{length-map-range_with_len, get_or-map-range_with_len}
use Rattle.gates.specs.World.{empty_gate, world}
use Rattle.gates.specs.Promise.{GreetsBelow, lied}
use Rattle.gateway.specs.declared.state.Gateway.{Gateway}
use Rattle.gateway.specs.Steps.{fresh}
use Rattle.refinement.specs.declared.state.Event.{Event}
use Rattle.refinement.specs.declared.state.EventKind.TheVariants.{Tick}
use Rattle.refinement.specs.declared.state.Letter.{Letter}
use Rattle.refinement.specs.Relation.{Stands}
use Rattle.refinement.specs.Sea.{Books, no_gate, happens, plays, new_gates, at_gate, backwards, words_of, puts_of, outs_of, Plays, Begun}
use Rattle.refinement.proofs.Followed.{start_stands}
use Rattle.refinement.proofs.Playing.{all-plays}
use Rattle.refinement.proofs.Carrying.{played_carried}

plays-append : (owners : List ℕ) (xs ys : List Event) (b : Books) → plays owners (xs ++ ys) b ≡ plays owners ys (plays owners xs b)
unfolding plays
plays-append owners [] ys b = refl
plays-append owners (x ∷ xs) ys b = plays-append owners xs ys (happens owners x b)

plays-one : (owners : List ℕ) (e : Event) (b : Books) → plays owners (e ∷ []) b ≡ happens owners e b
unfolding plays
plays-one owners e b = refl

pub plays-none : (owners : List ℕ) (b : Books) → plays owners [] b ≡ b
unfolding plays
plays-none owners b = refl

-- one event more
plays_more : (owners : List ℕ) (events : List Event) (b : Books) (i : ℕ) (e : Event) → i < length events → e ≡ get_or events i e →
    plays owners (take (i + 1) events) b ≡ happens owners e (plays owners (take i events) b)
plays_more owners events b i e l s =
    ap (λ z. plays owners z b) (take_more events i e l ∙ ap (λ z. take i events ++ (z ∷ [])) (sym s)) ∙
    (plays-append owners (take i events) (e ∷ []) b ∙ plays-one owners e (plays owners (take i events) b))

-- the same, of the event that stands there
pub plays_next : (owners : List ℕ) (events : List Event) (b : Books) (i : ℕ) → i < length events →
    plays owners (take (i + 1) events) b ≡ happens owners (get_or events i (at_gate 0 Tick)) (plays owners (take i events) b)
plays_next owners events b i l =
    plays_more owners events b i (get_or events i (at_gate 0 Tick)) l (get_or_default events i (at_gate 0 Tick) (get_or events i (at_gate 0 Tick)) l)

-- what was played keeps the promise
pub played-keeps : (owners : List ℕ) (events : List Event) (b after : Books) → after ≡ plays owners events b → Plays owners events b after
played-keeps owners events b after e = subst (Plays owners events b) (sym e) (all-plays owners events b)

pub begun : (k life most : ℕ) (gates : List Gateway) (net put out : List Letter) → gates ≡ new_gates k life most k → net ≡ [] → put ≡ [] → out ≡ [] →
    Begun k life most (record { gates = gates; net = net; put = put; out = out })
unfolding Begun world GreetsBelow lied backwards
begun k life most gates net put out g n p o owner =
    record {
      all = ap length g ∙ length-map-range_with_len (λ a. fresh a k life most) 0 k;
      stands = λ a l. subst (λ s. Stands k life most a s 1 empty_gate) (sym (ap (λ z. get_or z a no_gate) g ∙ get_or-map-range_with_len (λ z. fresh z k life most) 0 k a a no_gate l (omega arith))) (start_stands k life most a);
      net_so = sym (ap words_of n);
      put_so = sym (ap puts_of p);
      out_so = sym (ap outs_of o);
      below = tt;
      honest = λ a. refl;
    }

-- for the loop that plays the events
pub ruleset playing = (plays-none, plays_next, played-keeps, played_carried)
