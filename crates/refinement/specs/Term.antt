-- The gate's code as the abstract protocol asks for code: its shape, made of the definitions that the contracts cite, and that it is such code. Assumes nothing.
use Rattle.std.specs.Prelude.{ℕ, ◌^◌, ◌<◌, ◌≤◌, List, Option, unwrap_or}
use Rattle.gates.specs.Code.{Shape, Code, Keeps}
use Rattle.gateway.specs.declared.state.Gateway.{Gateway}
use Rattle.gateway.specs.Steps.{fresh}
use Rattle.refinement.specs.Relation.{rules_of, Stands}
use Rattle.refinement.specs.Calls.{Call, offers, all_known, Knows, does, hears, doing, hearing}
use Rattle.refinement.specs.Sea.{owner_in, owner_at}

-- The calls of k gates, by the definitions that their contracts cite, and by what the code knows of who owns which address.
abbrev pub calls : (k life most : ℕ) → (ℕ → Option ℕ) → Shape Gateway Call
calls k life most known =
    record {
      gates = k;
      first = λ a. fresh a k life most;
      offers = offers;
      does = does known;
      hears = hears known;
      doing = doing;
      hearing = hearing known;
    }

-- They are the code that the abstract protocol asks for, also for an address that nobody owns; so any such gates and a net do only its runs.
pub record AsAsked : Type 0 where
  pub code : (k life most : ℕ) (known : ℕ → Option ℕ) (owner : ℕ → ℕ) → Knows k known owner → k ≤ 32 → most < 2 ^ 32 →
      Code (rules_of life most owner) (calls k life most known) (λ a s now g. Stands k life most a s now g)
  pub keeps : (k life most : ℕ) (known : ℕ → Option ℕ) (owner : ℕ → ℕ) → Knows k known owner → k ≤ 32 → most < 2 ^ 32 →
      Keeps (rules_of life most owner) (calls k life most known) (λ a s now g. Stands k life most a s now g)
  -- whatever it knows; where each address is owned; and by a table of owners, as the code reads it
  pub whatever_known : (k : ℕ) (known : ℕ → Option ℕ) → Knows k known (λ x. unwrap_or (known x) k)
  pub where_owned : (k : ℕ) (owner : ℕ → ℕ) → Knows k (all_known owner) owner
  pub by_table : (k : ℕ) (owners : List ℕ) → k ≤ 32 → Knows k (owner_at owners) (owner_in owners)
