use Rattle.std.proofs.Common.{◌≡◌, true, false, rules}
use Rattle.std.proofs.lemmas.Iterator.{first_from_Range}
use Rattle.settings.specs.Ranges.{has_length}
use Rattle.settings.proofs.Prefixes.{first_is}
use Rattle.settings.proofs.ranges.Range.prefix_length.Goals as goal

pub returns : goal.returns
returns c =
    first_is c.args.self c.find.result (first_from_Range _ c.find.new.self _ c.find.result (λ k. has_length c.args.self k ≡ true) (λ k. has_length c.args.self k ≡ false) c.find.ensures.ran (λ x q k. search rules) (λ x q k. search rules))
