use Rattle.reading.proofs.Clear.{gates}
use Rattle.reading.proofs.reading_keeps_maker_and_opener.Goals as goal

pub returns : goal.returns
returns c = gates
