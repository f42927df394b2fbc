use Rattle.std.proofs.Common.{w16}
use Rattle.std.specs.Int.{from_be_bytes}
use Rattle.settings.proofs.Numbers.{be_two, number_made}
use Rattle.settings.proofs.reader.Reader.short.Goals as goal

pub returns : goal.returns
returns c = number_made c.args.self.bytes.now c.args.at 2 c.chunk.result c.map.result (from_be_bytes w16) be_two c.chunk.ensures c.map.ensures.cases
