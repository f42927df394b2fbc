-- What all gates share, as promises speak of it. Assumes nothing.
use Rattle.std.specs.Prelude.{ℕ, List}
use Rattle.settings.specs.declared.ranges.Range.{Range}

-- the life of a talk, the most packets that one sends, how many gates there are, and the ranges and the addresses outside in 32 places
pub record Shared : Type 0 where
  pub life : ℕ
  pub most : ℕ
  pub gates : ℕ
  pub ranges : List Range
  pub outside : List ℕ
