-- What a gate remembers of one other gate, and how it changes. Assumes nothing.
use Rattle.std.specs.Prelude.{ℕ, ◌+◌, ◌%◌, Bool, ◌&&◌, List, ◌∷◌, take, replicate, is_some, Some, None, Option, ◌==◌, nat_eq, nat_le, slice_set}
use Rattle.gateway.specs.declared.state.Talk.{Talk}
use Rattle.gateway.specs.declared.state.Wait.{Wait}
use Rattle.gateway.specs.declared.state.Peer.{Peer}
use Rattle.gateway.specs.Slots.{first_that, replaced, cleared}
use Rattle.gateway.specs.Talks.{may_send, names}

-- A gate of which nothing is known.
abbrev pub unknown : Peer
unknown = record { talks = replicate 3 None; waits = replicate 6 None; last_hello = 0 }

-- What is left of it after a restart: the tick of the last hello taken.
abbrev pub forgotten : Peer → Peer
forgotten p = record { talks = replicate 3 None; waits = replicate 6 None; last_hello = p.last_hello }

abbrev pub with_talks : List (Option Talk) → Peer → Peer
with_talks ts p = record { talks = ts; waits = p.waits; last_hello = p.last_hello }

abbrev pub with_waits : List (Option Wait) → Peer → Peer
with_waits ws p = record { talks = p.talks; waits = ws; last_hello = p.last_hello }

-- The talk that these two tags name.
abbrev pub talk_named : (mine theirs : ℕ) → Peer → Option Talk
talk_named m h p = first_that (names m h) p.talks

-- The latest talk that can be used to send.
abbrev pub for_sending : (now life most : ℕ) → Peer → Option Talk
for_sending now life most p = first_that (may_send now life most) p.talks

-- two talks with one own tag
abbrev pub same_tag : Talk → Talk → Bool
same_tag t u = u.tags.mine == t.tags.mine

-- A talk put in the place of the one with its own tag.
abbrev pub stored : Talk → Peer → Peer
stored t p = with_talks (replaced (same_tag t) t p.talks) p

-- A further talk: it stands first, and takes the place of the oldest of three.
abbrev pub met : Talk → Peer → Peer
met t p = with_talks (Some t ∷ take 2 p.talks) p

-- For so many ticks after its own a hello waits for its reply.
abbrev pub patience : ℕ
patience = 5

-- A hello with this tag can still be answered.
abbrev pub can_answer : (now tag : ℕ) → Wait → Bool
can_answer now t x = x.tag == t && nat_le now (x.at + patience)

-- Such a hello waits.
abbrev pub is_asked : (now tag : ℕ) → Peer → Bool
is_asked now t p = is_some (first_that (can_answer now t) p.waits)

abbrev pub has_tag : ℕ → Wait → Bool
has_tag t x = x.tag == t

-- No hello with this tag waits any longer.
abbrev pub answered : (tag : ℕ) → Peer → Peer
answered t p = with_waits (cleared (has_tag t) p.waits) p

-- A hello waits, in the place of its tick: what stood there was said six ticks before or more, and can no longer be answered.
abbrev pub asked : (tag at : ℕ) → Peer → Peer
asked t n p = with_waits (slice_set p.waits (n % 6) (Some (record { tag = t; at = n }))) p

-- A hello of this tick waits for its reply.
abbrev pub is_greeted : (now : ℕ) → Peer → Bool
is_greeted now p = is_some (first_that (λ x. nat_eq x.at now) p.waits)
