-- What each public call of a gate does in every run of the abstract protocol whose gate its memory stands for: the events that it is, and that the memory after
-- stands for that gate after them, while the net, what was put in, what came out and what was drawn grow by just what the call says. Assumes nothing.
use Rattle.std.specs.Prelude.{◌≡◌, ℕ, ◌^◌, ◌<◌, ◌≤◌, List, [], ◌∷◌, ◌++◌, Option, Result}
use Rattle.protocol.specs.declared.refusals.Refusal.{Refusal}
use Rattle.gates.specs.Lists.{At}
use Rattle.gates.specs.Talk.{Inner}
use Rattle.gates.specs.World.{Ev, Puts, world}
use Rattle.gates.specs.World.{Word as Sealed}
use Rattle.gates.specs.Promise.{GreetsBelow}
use Rattle.gates.specs.Code.{Did, Follows, AllNew}
use Rattle.gateway.specs.declared.state.Gateway.{Gateway}
use Rattle.gateway.specs.declared.state.Word.{Word}
use Rattle.gateway.specs.declared.state.Taken.{Taken}
use Rattle.refinement.specs.Relation.{rules_of, Stands}
use Rattle.refinement.specs.Calls.{Ticks, Says, Falls, drawn_of, all_known, Numbers, ReadsAs, nothing, sent_for, drew_for, out_for, hearing, sent_as, put_as, gone_out, drawn_as, doing}

-- For at most 32 gates, any life, most and owners of addresses, and any word x of the net that the code may have as this word:
unfoldable pub TakeFollows : Word → (drawn : ℕ) → Gateway → Result Taken Refusal → Gateway → Type 0
TakeFollows word drawn s res after =
    (k life most : ℕ) (owner : ℕ → ℕ) (es : List Ev) (a : ℕ) (x : Sealed) (ts : List ℕ) (i : ℕ) → k ≤ 32 → GreetsBelow k es → ReadsAs s owner x word → drawn_of ts ≡ drawn →
    Stands k life most a s ((world (rules_of life most owner) es).now a) ((world (rules_of life most owner) es).gates a) → At i x (world (rules_of life most owner) es).net →
    AllNew ts (world (rules_of life most owner) es) →
    Follows (Stands k life most a) a (world (rules_of life most owner) es) (world (rules_of life most owner) (hearing (all_known owner) a x ts s i ++ es)) (record { after = after; sent = sent_for res; put = []; out = out_for a x res; drew = drew_for drawn res })

-- For any packet between these two owners:
unfoldable pub PutFollows : (source goal : Option ℕ) → Gateway → Result (Option Word) Refusal → Gateway → Type 0
PutFollows source goal s res after =
    (k life most : ℕ) (owner : ℕ → ℕ) (es : List Ev) (a : ℕ) (x : Inner) → most < 2 ^ 32 → Numbers s source (owner x.from) → Numbers s goal (owner x.to) →
    Stands k life most a s ((world (rules_of life most owner) es).now a) ((world (rules_of life most owner) es).gates a) →
    Follows (Stands k life most a) a (world (rules_of life most owner) es) (world (rules_of life most owner) (Puts a x ∷ es)) (record { after = after; sent = sent_as x (gone_out res); put = put_as x (gone_out res); out = []; drew = [] })

-- For a tag that is new:
unfoldable pub GreetFollows : (gate tag : ℕ) → Gateway → Option Word → Gateway → Type 0
GreetFollows e t s res after =
    (k life most : ℕ) (owner : ℕ → ℕ) (es : List Ev) (a : ℕ) → most < 2 ^ 32 → Stands k life most a s ((world (rules_of life most owner) es).now a) ((world (rules_of life most owner) es).gates a) →
    AllNew (t ∷ []) (world (rules_of life most owner) es) →
    Follows (Stands k life most a) a (world (rules_of life most owner) es) (world (rules_of life most owner) (doing a (Says e t) s ++ es)) (record { after = after; sent = sent_as nothing res; put = []; out = []; drew = drawn_as t res })

-- nothing goes in or out
abbrev pub quietly : Gateway → Did Gateway
quietly s = record { after = s; sent = []; put = []; out = []; drew = [] }

unfoldable pub TickFollows : Gateway → Gateway → Type 0
TickFollows s after =
    (k life most : ℕ) (owner : ℕ → ℕ) (es : List Ev) (a : ℕ) → most < 2 ^ 32 → Stands k life most a s ((world (rules_of life most owner) es).now a) ((world (rules_of life most owner) es).gates a) →
    Follows (Stands k life most a) a (world (rules_of life most owner) es) (world (rules_of life most owner) (doing a Ticks s ++ es)) (quietly after)

unfoldable pub RestartFollows : Gateway → Gateway → Type 0
RestartFollows s after =
    (k life most : ℕ) (owner : ℕ → ℕ) (es : List Ev) (a : ℕ) → most < 2 ^ 32 → Stands k life most a s ((world (rules_of life most owner) es).now a) ((world (rules_of life most owner) es).gates a) →
    Follows (Stands k life most a) a (world (rules_of life most owner) es) (world (rules_of life most owner) (doing a Falls s ++ es)) (quietly after)
