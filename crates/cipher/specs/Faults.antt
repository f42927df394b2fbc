-- What a fault is printed as.
-- Assumes nothing.
use Rattle.std.specs.Prelude.{ℕ, List, codes}
use Rattle.cipher.specs.declared.fault.Fault.{Fault}
use Rattle.cipher.specs.declared.fault.Fault.TheVariants.{TooLong, CounterOver}

abbrev pub sentence : Fault → List ℕ
sentence TooLong = codes "the text is longer than 65,536 bytes"
sentence CounterOver = codes "the text takes more blocks than the counter has left"
