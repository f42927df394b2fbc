use Rattle.lines.proofs.Digits.{gives_back}
use Rattle.lines.proofs.hex.decode_gives_back.Goals as goal

pub returns : goal.returns
returns c = gives_back
