use Rattle.window.proofs.Heard.{blank_stands}
use Rattle.window.proofs.state.Window.blank.Goals as goal

pub returns-clause-list : goal.returns-clause-list
returns-clause-list c = blank_stands c.args.top
