use Rattle.std.proofs.Common.{arith}
use Rattle.wire.proofs.Answered.{cond_err, cond_ok, hash_kept, back_kept, packet_wrong, packet-long, packet-told}
use Rattle.wire.proofs.state.TalkKeys.open_packet.Goals as goal

pub returns-in_err-check-clause-after : goal.returns-in_err-check-clause-after
returns-in_err-check-clause-after c pair h = (packet_wrong _ _ _ _ _ _ _ (cond_err _ _ _ _ (c.in_err-check.ensures _ (hash_kept c.args.self.now pair h))).0).1

pub returns-then-end-gt-MAX_PACKET-clause-after : goal.returns-then-end-gt-MAX_PACKET-clause-after
returns-then-end-gt-MAX_PACKET-clause-after c pair h =
    (packet-long _ _ _ _ _ _ _ c.requires (cond_ok _ _ _ _ (c.in_ok-check.ensures _ (hash_kept c.args.self.now pair h))).0 (omega arith)).1

pub returns-clause-after : goal.returns-clause-after
returns-clause-after c pair h =
    (packet-told _ _ _ _ _ _ _ _ _ _ _ c.requires (cond_ok _ _ _ _ (c.in_ok-check.ensures _ (hash_kept c.args.self.now pair h))).0 (omega arith)
    (back_kept c.args.self.now pair h) c.number_nonce.ensures c.turn_short.ensures (omega arith)).1
