-- Plans and settings, and how a gate's entry is added. Assumes nothing.
use Rattle.std.specs.Prelude.{ℕ, ◌+◌, cond, ◌&&◌, replicate, Some, None, Ok, Err, Option, Result, nat_le, slice_index, slice_index_or, slice_set}
use Rattle.std.specs.Option.{option_map}
use Rattle.settings.specs.declared.faults.Cause.{Cause}
use Rattle.settings.specs.declared.faults.Cause.TheVariants.{Wrong, Repeats}
use Rattle.protocol.specs.Limits.{gates_limit, life_least, life_limit, most_least}
use Rattle.settings.specs.declared.faults.Fault.{Fault}
use Rattle.settings.specs.declared.faults.Field.TheVariants as field
use Rattle.settings.specs.Faults.{header_fault, entry_fault}
use Rattle.settings.specs.declared.plans.Key.{Key}
use Rattle.settings.specs.declared.plans.Plan.{Plan}
use Rattle.settings.specs.declared.plans.Settings.{Settings}
use Rattle.settings.specs.declared.ranges.Range.{Range}
use Rattle.settings.specs.Ranges.{blank_range, is_prefix, same_below, owner_below}

-- the key of zeros: a gate's with itself, and where none was put
abbrev pub blank_key : Key
blank_key = record { bytes = replicate 32 0 }

-- a plan with no gates
abbrev pub empty_plan : ℕ → ℕ → Plan
empty_plan l m = record { life = l; most = m; gates = 0; ranges = replicate 32 blank_range; outside = replicate 32 0 }

-- a plan with one gate more
abbrev pub plan_with : Plan → Range → ℕ → Plan
plan_with p r o =
    record { life = p.life; most = p.most; gates = p.gates + 1; ranges = slice_set p.ranges p.gates r; outside = slice_set p.outside p.gates o }

-- settings with no entries
abbrev pub empty_settings : ℕ → ℕ → ℕ → Settings
empty_settings o l m = record { own = o; plan = empty_plan l m; keys = replicate 32 blank_key }

-- settings with one gate's entry more
abbrev pub settings_with : Settings → Key → Range → ℕ → Settings
settings_with s k r o = record { own = s.own; plan = plan_with s.plan r o; keys = slice_set s.keys s.plan.gates k }

-- why a range may not be added to a plan: it is no whole prefix, or an earlier gate has it
unfoldable pub range_cause : Plan → Range → Option Cause
range_cause p r = cond (is_prefix r) (option_map Repeats (same_below p.ranges r p.gates)) (Some Wrong)

-- a plan with no gates, where life and most are in range
abbrev pub new_plan : ℕ → ℕ → Result Plan Fault
new_plan l m =
    cond (nat_le life_least l && nat_le l life_limit) (cond (nat_le most_least m) (Ok (empty_plan l m)) (Err (header_fault field.Most Wrong))) (Err (header_fault field.Life Wrong))

-- one gate more, unless there is a cause against its range
abbrev pub add_unless : Plan → Range → ℕ → Option Cause → Result Plan Fault
add_unless p r o None = Ok (plan_with p r o)
add_unless p r o (Some why) = Err (entry_fault field.Range p.gates why)

-- one gate more, where there is a place for it and its range may be added
abbrev pub add_to : Plan → Range → ℕ → Result Plan Fault
add_to p r o = cond (nat_le gates_limit p.gates) (Err (header_fault field.Gates Wrong)) (add_unless p r o (range_cause p r))

-- the owner of an address by a plan: the gate with the longest prefix that holds it, or nobody
abbrev pub owner_in : Plan → ℕ → ℕ
owner_in p address = owner_below p.ranges address p.gates

-- the key of a gate's settings with a gate
abbrev pub key_at : Settings → ℕ → Key
key_at s gate = slice_index_or s.keys gate blank_key

-- the address outside of a gate
abbrev pub outside_of : Plan → ℕ → ℕ
outside_of p gate = slice_index p.outside gate
