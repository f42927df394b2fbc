-- A talk in a gate's memory, and its steps. Assumes nothing.
use Rattle.std.specs.Prelude.{ℕ, ◌+◌, ◌-◌, ◌^◌, min, Bool, true, ◌&&◌, ◌==◌, nat_le, nat_lt}
use Rattle.window.specs.Heard.{empty_window, after_bits}
use Rattle.gateway.specs.declared.state.Tags.{Tags}
use Rattle.gateway.specs.declared.state.Talk.{Talk}

abbrev pub tags : (mine theirs : ℕ) → Tags
tags m h = record { mine = m; theirs = h }

-- The tags as the other gate has them.
abbrev pub swapped : Tags → Tags
swapped t = tags t.theirs t.mine

-- A talk that was just made: nothing was sent in it and nothing has come.
abbrev pub fresh_talk : (mine theirs born : ℕ) → Bool → Talk
fresh_talk m h now s = record { tags = tags m h; born = now; sent = 0; sure = s; window = empty_window }

-- It is not over: no more than its life has passed.
abbrev pub lives : (now life : ℕ) → Talk → Bool
lives now life t = nat_le now (t.born + life)

-- It can be used to send: its gate is sure of it, it is not over, and its numbers are not used up.
abbrev pub may_send : (now life most : ℕ) → Talk → Bool
may_send now life most t = t.sure && (lives now life t && nat_lt t.sent most)

-- These two tags name it.
abbrev pub names : (mine theirs : ℕ) → Talk → Bool
names m h t = t.tags.mine == m && t.tags.theirs == h

-- The talk after a number came in it.
abbrev pub heard_one : ℕ → Talk → Talk
heard_one n t = record { tags = t.tags; born = t.born; sent = t.sent; sure = true; window = after_bits t.window n }

-- The talk after its next number was used.
abbrev pub sent_one : Talk → Talk
sent_one t = record { tags = t.tags; born = t.born; sent = min (t.sent + 1) (2 ^ 32 - 1); sure = t.sure; window = t.window }
