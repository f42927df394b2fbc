use Rattle.std.proofs.Common.{◌+◌, ◌<◌, length, sym, ◌∙◌, arith}
use Rattle.std.proofs.lemmas.Grind.{common_steps}
use Rattle.settings.specs.Fields.{bytes_in}
use Rattle.settings.proofs.Numbers.{bytes_cut}
use Rattle.settings.proofs.reader.Reader.chunk.Goals as goal

pub returns-in_err-get : goal.returns-in_err-get
returns-in_err-get g c =
    let cut : length c.args.self.bytes.now < c.args.at + g.row.N = grind (arith, c.in_err-get.ensures) in
    c.from_residual.ensures ∙ sym (bytes_cut c.args.self.bytes.now c.args.at g.row.N cut)

pub returns : goal.returns
unfolding bytes_in
returns g c =
    let a = c.in_ok-get.ensures in
    let b = c.first_chunk.ensures in
    let d = c.copied.ensures in
    grind (arith, common_steps, a, b, d)
