-- The limits of the protocol and the lengths of its words. Assumes nothing.
use Rattle.std.specs.Prelude.{ℕ, ◌+◌, ◌-◌, ◌^◌}

-- at most so many gates share one table
abbrev pub gates_limit : ℕ
gates_limit = 32

-- at most so many talks are kept with each other gate
abbrev pub talks_limit : ℕ
talks_limit = 3

-- at most so many packets wait for a talk with each other gate
abbrev pub queue_limit : ℕ
queue_limit = 16

-- the longest packet from inside, in bytes
abbrev pub packet_limit : ℕ
packet_limit = 1280

-- how far below the highest number that came another may still come
abbrev pub window_size : ℕ
window_size = 2048

-- the shortest life of a talk, in ticks
abbrev pub life_least : ℕ
life_least = 1

-- the longest life of a talk, in ticks
abbrev pub life_limit : ℕ
life_limit = 3600

-- the fewest packets after which a talk may be over for sending: one more than can wait
abbrev pub most_least : ℕ
most_least = queue_limit + 1

-- the most packets after which a talk may be over for sending
abbrev pub most_limit : ℕ
most_limit = 2 ^ 32 - 1

-- kind, maker and the gate that a word is for
abbrev pub clear_length : ℕ
clear_length = 1 + 1 + 1

-- 16 drawn bytes, or the opener's tag and the number
abbrev pub field_length : ℕ
field_length = 16

-- the authentication sum
abbrev pub sum_length : ℕ
sum_length = 16

-- a word with nothing inside
abbrev pub seal_length : ℕ
seal_length = clear_length + field_length + sum_length

-- a hello or a reply: two numbers of 8 bytes inside
abbrev pub handshake_length : ℕ
handshake_length = seal_length + (8 + 8)
