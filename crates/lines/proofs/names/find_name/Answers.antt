use Rattle.std.proofs.Common.{◌∙◌, [], ◌∷◌, rules}
use Rattle.lines.specs.declared.names.Name.TheVariants.{Tick, Drawn, Packet, Word, Fall}
use Rattle.lines.proofs.Found.{passed}
use Rattle.lines.proofs.names.find_name.Goals as goal

pub loop-name-preserved : goal.loop-name-preserved
loop-name-preserved c = c.loop-name.invariant ∙ passed c.args.line.now (Tick ∷ Drawn ∷ Packet ∷ Word ∷ Fall ∷ []) c.loop-name.name-index Tick c.loop-name-test.true (search rules)
