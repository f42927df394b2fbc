-- Closed runs, which the checker plays event by event: a packet comes out of a second gate; and the three incidents, in which nothing comes out that must not.
-- Events stand latest first. Assumes nothing.
use Rattle.std.specs.Prelude.{◌≡◌, ◌/◌, List, [], ◌∷◌, ◌++◌}
use Rattle.gates.specs.Lists.{At}
use Rattle.gates.specs.Talk.{Inner, Rules}
use Rattle.gates.specs.World.{Note, Packet, Ev, Puts, Lies, Brings, Restarts, note, world}
use Rattle.gates.specs.Promise.{greeting}

-- Gate k owns the addresses from 10 * k to 10 * k + 9.
abbrev pub strait : Rules
strait = record { life = 600; most = 100; window = 2048; owner = λ x. x / 10 }

-- "lower the ramp", from an address of gate 0's to one of gate 1's
abbrev pub ramp : Inner
ramp = record { from = 3; to = 12; what = 114 ∷ 97 ∷ 109 ∷ 112 ∷ [] }

-- the same, as if it came from an address of gate 2's
abbrev pub false_ramp : Inner
false_ramp = record { from = 23; to = 12; what = 114 ∷ 97 ∷ 109 ∷ 112 ∷ [] }

-- Gate 0 greets gate 1, puts the packet in, and it is brought.
abbrev pub crossing : List Ev
crossing = Brings 1 0 0 ∷ Puts 0 ramp ∷ greeting 0 1 5 9

abbrev pub crossed : Note
crossed = note 1 0 9 5 1 ramp

-- The first incident: the receiver is switched off and on, and the packet, which the net kept, is brought again; once more after the two gates have a new talk.
abbrev pub met_again : List Ev
met_again = greeting 0 1 6 10 ++ (Brings 1 0 0 ∷ Restarts 1 ∷ crossing)

abbrev pub kept_packet : List Ev
kept_packet = Brings 1 2 0 ∷ met_again

-- The second incident: somebody who holds gate 0's keys seals a packet under gate 2's name, and it is brought.
abbrev pub other_name : List Ev
other_name = Brings 1 0 0 ∷ Lies 0 1 false_ramp ∷ crossing

-- The third incident: gate 1 has forgotten the talk of which gate 0 is sure; what is sent in it is lost; with a new hello the next one comes out.
abbrev pub forgotten : List Ev
forgotten = Brings 1 0 0 ∷ Puts 0 ramp ∷ greeting 0 1 6 10 ++ (Brings 1 0 0 ∷ Puts 0 ramp ∷ Restarts 1 ∷ crossing)

pub record Stories : Type 0 where
  pub a_packet_comes_out : (world strait crossing).out ≡ crossed ∷ []
  pub and_was_put_in : (world strait crossing).put ≡ note 0 1 5 9 1 ramp ∷ []
  -- it is that packet which is brought the second and the third time
  pub kept_first : At 0 (Packet 0 1 5 9 1 ramp) (world strait (Restarts 1 ∷ crossing)).net
  pub kept_again : At 2 (Packet 0 1 5 9 1 ramp) (world strait met_again).net
  pub kept_comes_out_once : (world strait kept_packet).out ≡ crossed ∷ []
  pub other_name_stays_out : (world strait other_name).out ≡ crossed ∷ []
  pub forgotten_comes_back : (world strait forgotten).out ≡ note 1 0 10 6 1 ramp ∷ (crossed ∷ [])
