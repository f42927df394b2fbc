use Rattle.std.proofs.Common.{sym, arith}
use Rattle.std.proofs.lemmas.List.{take_all}
use Rattle.draft.proofs.names.Name.text.Goals as goal

pub returns-else-length-lt32 : goal.returns-else-length-lt32
returns-else-length-lt32 c = sym (take_all c.args.self.now.length c.args.self.now.bytes (omega arith))
