use lib.Bits.{bit_xor}
use lib.Lanes.{zip2}
use Rattle.cipher.specs.Lanes.{line_turn}
use Rattle.cipher.proofs.Words.{turned_lanes}
use Rattle.std.proofs.Common.{arith}
use Rattle.cipher.proofs.quarter.U32x16Word.turned.Goals as goal

pub returns : goal.returns
unfolding line_turn
returns c = turned_lanes (zip2 bit_xor c.args.self c.args.a) c.args.n 16 (omega arith)
