-- Where the parts of a word stand and how long they are. Assumes nothing.
use Rattle.std.specs.Prelude.{ℕ, ◌+◌}
use Rattle.protocol.specs.Limits.{clear_length, field_length, seal_length, packet_limit}

-- where the kind stands, in 1 byte
abbrev pub kind_at : ℕ
kind_at = 0

-- where the maker stands, in 1 byte
abbrev pub maker_at : ℕ
maker_at = 1

-- where the gate that the word is for stands, in 1 byte
abbrev pub opener_at : ℕ
opener_at = 2

-- where the 16 drawn bytes stand in kinds 1 and 2
abbrev pub drawn_at : ℕ
drawn_at = clear_length

-- where the opener's tag stands in kinds 3 and 4, in 8 bytes
abbrev pub tag_at : ℕ
tag_at = clear_length

-- where the number stands in kinds 3 and 4, in 8 bytes
abbrev pub number_at : ℕ
number_at = tag_at + 8

-- where the inside begins; it ends where the sum begins
abbrev pub inside_at : ℕ
inside_at = clear_length + field_length

-- how long a nonce is
abbrev pub nonce_length : ℕ
nonce_length = 12

-- the byte before all that a sum is over
abbrev pub sum_mark : ℕ
sum_mark = 255

-- the longest word with a packet that can pass
abbrev pub word_limit : ℕ
word_limit = seal_length + packet_limit
