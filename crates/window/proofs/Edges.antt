-- The table of edges, computed. Assumes nothing.
use Rattle.std.proofs.Common.{refl}
use Rattle.gates.specs.Talk.{is_in}
use Rattle.window.specs.Edges.{Edges, Row, window_of, highest_of}
use Rattle.window.specs.Heard.{cleared}

pub edges : Edges
unfolding Row window_of highest_of cleared is_in
edges =
    record {
      zero_at_first = (refl, refl);
      one_at_first = (refl, refl);
      zero_later = (refl, refl);
      one_again = (refl, refl);
      lowest = (refl, refl);
      below_lowest = (refl, refl);
      lowest_again = (refl, refl);
      past_ring = refl;
      past_ring_two = (refl, refl);
      past_ring_same_word = (refl, refl);
      jump_less_one = (refl, refl);
      jump_span = (refl, refl);
      jump_span_next = (refl, refl);
      jump_one_more = (refl, refl);
      jump_ring = refl;
      jump_ring_same_bit = (refl, refl);
      largest_fresh = (refl, refl);
      largest_again = (refl, refl);
      largest_lowest = (refl, refl);
      largest_below = (refl, refl);
      largest_only = refl;
    }
