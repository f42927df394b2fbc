use Rattle.std.proofs.Common.{◌≡◌, true, rules}
use Rattle.lines.specs.Names.{starts_with}
use Rattle.lines.proofs.Found.{behind_space}
use Rattle.lines.proofs.names.name_start.Goals as goal

pub returns-in-32 : goal.returns-in-32
returns-in-32 c =
    let begins : starts_with c.args.line.now c.args.name.now ≡ true = search rules in
    behind_space c.args.line.now c.args.name.now c.in_ok-strip_prefix.field-0.now begins (search rules) (search rules) c.in-32.len_at_least (search rules)
