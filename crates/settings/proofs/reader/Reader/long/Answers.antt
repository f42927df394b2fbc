use Rattle.std.proofs.Common.{w32}
use Rattle.std.specs.Int.{from_be_bytes}
use Rattle.settings.proofs.Numbers.{be_four, number_made}
use Rattle.settings.proofs.reader.Reader.long.Goals as goal

pub returns : goal.returns
returns c = number_made c.args.self.bytes.now c.args.at 4 c.chunk.result c.map.result (from_be_bytes w32) be_four c.chunk.ensures c.map.ensures.cases
