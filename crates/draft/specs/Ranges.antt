-- The addresses of a prefix as it is written. Assumes nothing.
use Rattle.std.specs.Prelude.{◌+◌, ◌-◌, ◌%◌, ◌^◌}
use Rattle.addresses.specs.declared.dotted.Prefix.{Prefix}
use Rattle.settings.specs.declared.ranges.Range.{Range}

-- as many addresses as the prefix has, from its own on; past the last address there is it goes on
-- at 0, and is no prefix
abbrev pub range_of : Prefix → Range
range_of p = record { first = p.address; last = (p.address + (2 ^ (32 - p.bits) - 1)) % 2 ^ 32 }
