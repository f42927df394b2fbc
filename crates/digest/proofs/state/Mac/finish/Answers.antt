use Rattle.std.proofs.Common.{◌≡◌, ◌++◌, ap, ◌∙◌}
use Rattle.digest.specs.Hmac.{inner_pad, outer_pad, hmac}
use Rattle.digest.specs.Sha256.{sha256}
use Rattle.digest.proofs.Keys.{length-outer}
use Rattle.digest.proofs.Messages.{holds-first}
use Rattle.digest.proofs.state.Mac.finish.Goals as goal

pub returns : goal.returns
unfolding hmac
returns c key m t =
    let sum : c.finish-sum.result ≡ sha256 (inner_pad key ++ m) = c.finish-sum.ensures (inner_pad key ++ m) t.inner in
    let first = holds-first c.outer_hasher-outer.result (outer_pad key) (length-outer key t.long) (c.outer_hasher-outer.ensures.state ∙ t.outer) c.outer_hasher-outer.ensures.total in
    let both = c.absorb.ensures.holds (outer_pad key) first in
    c.finish.ensures (outer_pad key ++ c.finish-sum.result) both ∙ ap (λ s. sha256 (outer_pad key ++ s)) sum
