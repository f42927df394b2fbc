use Rattle.std.proofs.Common.{◌≡◌, true, false, refl, arith, rules}
use Rattle.packet.specs.Packets.{is_packet}
use Rattle.packet.proofs.Packets.{long_enough, taken, is_none, refused, test_is}
use Rattle.packet.proofs.reading.read.Goals as goal

pub returns-then-not-is_packet : goal.returns-then-not-is_packet
returns-then-not-is_packet c =
    let failed : is_packet c.args.bytes.now ≡ false = search rules in
    record { value = refused c.args.bytes.now failed; packets = (refl, is_none c.args.bytes.now failed) }

pub address-requires : goal.address-requires
address-requires c =
    let passed : is_packet c.args.bytes.now ≡ true = search rules in
    omega (arith, long_enough c.args.bytes.now passed)

pub address-requires-2 : goal.address-requires-2
address-requires-2 c =
    let passed : is_packet c.args.bytes.now ≡ true = search rules in
    omega (arith, long_enough c.args.bytes.now passed)

pub returns : goal.returns
returns c =
    let passed : is_packet c.args.bytes.now ≡ true = search rules in
    record {
      value = taken c.args.bytes.now c.address.result c.address-2.result passed c.address.ensures c.address-2.ensures;
      packets = (test_is c.args.bytes.now passed, c.address.ensures, c.address-2.ensures);
    }
