use Rattle.std.proofs.Common.{rules}
use Rattle.digest.proofs.Parts.{limited_sum}
use Rattle.digest.proofs.hashing.sha256.Goals as goal

pub returns : goal.returns
returns c =
    limited_sum c.args.message.now c.finish.result c.new-hasher.result c.update.new.self c.update.result _
    (search rules) (search (rules, c.update.ensures.holds)) c.in_ok-update.was (search (rules, c.finish.ensures)) (search rules) (search rules)
