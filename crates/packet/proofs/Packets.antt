-- The test for a packet decides exactly whether bytes are one. Assumes nothing.
use Rattle.std.proofs.Common.{◌≡◌, ℕ, ◌≤◌, length, true, false, cond, List, Ok, Err, Result, sym, ap, ◌∙◌, arith}
use Rattle.std.proofs.lemmas.Bool.Decides.{nat_tests}
use Rattle.protocol.specs.declared.refusals.Refusal.{Refusal}
use Rattle.protocol.specs.declared.refusals.Refusal.TheVariants.{BadPacket}
use Rattle.packet.specs.declared.reading.Packet.{Packet}
use Rattle.packet.specs.Packets.{IsPacket, is_packet, packet_in, source_in, destination_in}

pub test_passes : (bs : List ℕ) → IsPacket bs → is_packet bs ≡ true
unfolding is_packet
test_passes bs is = grind (arith, nat_tests)

pub test_is : (bs : List ℕ) → is_packet bs ≡ true → IsPacket bs
unfolding is_packet
test_is bs passed =
    record {
      version = grind (arith, nat_tests);
      long = grind (arith, nat_tests);
      inside = grind (arith, nat_tests);
      whole = grind (arith, nat_tests);
      small = grind (arith, nat_tests);
      right = grind (arith, nat_tests);
    }

-- what is a packet has a whole header, and is taken with its addresses
pub long_enough : (bs : List ℕ) → is_packet bs ≡ true → 20 ≤ length bs
long_enough bs passed = let is = test_is bs passed in omega (arith, is.long, is.inside)

pub taken : (bs : List ℕ) (s d : ℕ) → is_packet bs ≡ true → s ≡ source_in bs → d ≡ destination_in bs → Ok (record { source = s; destination = d }) ≡ packet_in bs
unfolding packet_in
taken bs s d passed from to =
    let addresses : Packet = record { source = source_in bs; destination = destination_in bs } in
    (λ i. Ok (record { source = from i; destination = to i })) ∙ sym (ap (λ t. cond {A = Result Packet Refusal} t (Ok addresses) (Err BadPacket)) passed)

-- what is no packet is refused
pub is_none : (bs : List ℕ) → is_packet bs ≡ false → IsPacket bs → ⊥
is_none bs failed is = clash (sym (test_passes bs is) ∙ failed)
  where
    clash : true ≡ false → ⊥
    clash e = let z : ◌≡◌ {A = ℕ} 0 1 = cc in omega arith

pub refused : (bs : List ℕ) → is_packet bs ≡ false → Err BadPacket ≡ packet_in bs
unfolding packet_in
refused bs failed =
    sym (ap (λ t. cond {A = Result Packet Refusal} t (Ok (record { source = source_in bs; destination = destination_in bs })) (Err BadPacket)) failed)
