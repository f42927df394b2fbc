-- Which bytes are an IPv4 packet that may pass, and the addresses in it (RFC 791, section 3.1). Assumes nothing.
use Rattle.std.specs.Prelude.{◌≡◌, ℕ, ◌+◌, ◌-◌, ◌*◌, ◌/◌, ◌%◌, ◌^◌, ◌≤◌, Bool, cond, ◌&&◌, List, length, take, Ok, Err, Result, ◌==◌, nat_le, slice_index}
use Rattle.protocol.specs.declared.refusals.Refusal.{Refusal}
use Rattle.protocol.specs.declared.refusals.Refusal.TheVariants.{BadPacket}
use Rattle.protocol.specs.Limits.{packet_limit}
use Rattle.packet.specs.declared.reading.Packet.{Packet}
use Rattle.packet.specs.Sums.{ones_sum}

-- a number of two bytes at a place, the high one first
abbrev pub number2 : List ℕ → ℕ → ℕ
number2 bs at = slice_index bs at * 256 + slice_index bs (at + 1)

-- a number of four bytes at a place, the high one first
abbrev pub number4 : List ℕ → ℕ → ℕ
number4 bs at = slice_index bs at * 16777216 + slice_index bs (at + 1) * 65536 + slice_index bs (at + 2) * 256 + slice_index bs (at + 3)

-- Version: the high half of the first byte
abbrev pub version_in : List ℕ → ℕ
version_in bs = slice_index bs 0 / 16

-- IHL, the header's length: the low half of the first byte, in 32-bit words
abbrev pub header_in : List ℕ → ℕ
header_in bs = slice_index bs 0 % 16 * 4

-- Total Length, with the header, in bytes
abbrev pub total_in : List ℕ → ℕ
total_in bs = number2 bs 2

-- Source Address
abbrev pub source_in : List ℕ → ℕ
source_in bs = number4 bs 12

-- Destination Address
abbrev pub destination_in : List ℕ → ℕ
destination_in bs = number4 bs 16

-- Header Checksum: with it, the header's 16-bit numbers add up to all ones (RFC 1071, section 1 (3))
abbrev pub header_sum : List ℕ → ℕ
header_sum bs = ones_sum 0 (take (header_in bs) bs)

-- these bytes are a packet that may pass
pub record IsPacket (bs : List ℕ) : Type 0 where
  pub version : version_in bs ≡ 4
  pub long : 20 ≤ header_in bs
  pub inside : header_in bs ≤ length bs
  pub whole : total_in bs ≡ length bs
  pub small : length bs ≤ packet_limit
  pub right : header_sum bs ≡ 2 ^ 16 - 1

-- whether bytes are a packet that may pass
unfoldable pub is_packet : List ℕ → Bool
is_packet bs =
    (version_in bs == 4) && (nat_le 20 (header_in bs) && (nat_le (header_in bs) (length bs) && (total_in bs == length bs && (nat_le (length bs) packet_limit && header_sum bs == 2 ^ 16 - 1))))

-- the packet that bytes are, or the refusal of all others
unfoldable pub packet_in : List ℕ → Result Packet Refusal
packet_in bs = cond (is_packet bs) (Ok (record { source = source_in bs; destination = destination_in bs })) (Err BadPacket)
