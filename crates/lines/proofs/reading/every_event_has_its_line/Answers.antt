use Rattle.lines.proofs.Written.{every_event}
use Rattle.lines.proofs.reading.every_event_has_its_line.Goals as goal

pub returns : goal.returns
returns c = every_event
