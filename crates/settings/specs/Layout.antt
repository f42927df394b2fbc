-- Where the fields of settings stand and how long they are. Assumes nothing.
use Rattle.std.specs.Prelude.{ℕ, ◌+◌, ◌*◌}

-- the only version there is
abbrev pub version_number : ℕ
version_number = 1

-- where the version stands, in 1 byte
abbrev pub version_at : ℕ
version_at = 0

-- where the number of gates stands, in 1 byte
abbrev pub gates_at : ℕ
gates_at = 1

-- where the gate's own number stands, in 1 byte
abbrev pub own_at : ℕ
own_at = 2

-- where the life of a talk stands, in 2 bytes
abbrev pub life_at : ℕ
life_at = 3

-- where the most packets that a talk sends stand, in 4 bytes
abbrev pub most_at : ℕ
most_at = 5

-- where the window stands, in 2 bytes
abbrev pub window_at : ℕ
window_at = 9

-- where the entries of the gates begin
abbrev pub header_size : ℕ
header_size = 11

-- how long a pair key is; an entry begins with it
abbrev pub key_size : ℕ
key_size = 32

-- where in an entry the first address of the range stands, in 4 bytes
abbrev pub first_at : ℕ
first_at = 32

-- where in an entry the last address of the range stands, in 4 bytes
abbrev pub last_at : ℕ
last_at = 36

-- where in an entry the address outside stands, in 4 bytes
abbrev pub outside_at : ℕ
outside_at = 40

-- how long an entry is
abbrev pub entry_size : ℕ
entry_size = 44

-- where the entry of a gate begins; after the last gate's, where settings end
abbrev pub entry_at : ℕ → ℕ
entry_at gate = header_size + entry_size * gate
