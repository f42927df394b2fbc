-- A plan as the rules of the abstract protocol, and who owns what comes out in runs by them. Assumes nothing.
use Rattle.std.specs.Prelude.{◌<◌, List}
use Rattle.gates.specs.Lists.{In}
use Rattle.gates.specs.Talk.{Rules}
use Rattle.gates.specs.World.{Ev, Note, world}
use Rattle.protocol.specs.Limits.{window_size}
use Rattle.settings.specs.declared.plans.Plan.{Plan}
use Rattle.settings.specs.Owners.{Owns}
use Rattle.settings.specs.Plans.{owner_in}
use Rattle.settings.specs.Sound.{SoundPlan}

-- the rules by a plan: an address is owned by whom the plan says
abbrev pub rules_of : Plan → Rules
rules_of p = record { life = p.life; most = p.most; window = window_size; owner = owner_in p }

-- whatever happened, what came out came from an address that is owned by the gate by whom it says it is, for an address that is owned by the gate where it came out
pub record Owned (p : Plan) (es : List Ev) : Type 0 where
  pub source : (o : Note) → In o (world (rules_of p) es).out → o.other < p.gates → Owns p.ranges p.gates o.inner.from o.other
  pub destination : (o : Note) → In o (world (rules_of p) es).out → o.gate < p.gates → Owns p.ranges p.gates o.inner.to o.gate

-- so it is in every run by an allowed plan
abbrev pub RunsAreOwned : Type 0
RunsAreOwned = (p : Plan) → SoundPlan p → (es : List Ev) → Owned p es
