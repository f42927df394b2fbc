use Rattle.std.proofs.Common.{◌≡◌, [], ◌∷◌, drop}
use Rattle.lines.specs.declared.names.Name.TheVariants.{Tick, Drawn, Packet, Word, Fall}
use Rattle.lines.specs.Names.{find_name, find_among}
use Rattle.lines.proofs.names.find_name.Given as goal

-- the line begins with none of the names before this one
abbrev pub invariant-loop-name : goal.invariant-loop-name
invariant-loop-name l = find_name l.line ≡ find_among l.line (drop l.name-index (Tick ∷ Drawn ∷ Packet ∷ Word ∷ Fall ∷ []))
