use Rattle.std.proofs.Common.{w8}
use Rattle.std.specs.Int.{from_be_bytes}
use Rattle.settings.proofs.Numbers.{be_one, number_made}
use Rattle.settings.proofs.reader.Reader.byte.Goals as goal

pub returns : goal.returns
returns c = number_made c.args.self.bytes.now c.args.at 1 c.chunk.result c.map.result (from_be_bytes w8) be_one c.chunk.ensures c.map.ensures.cases
