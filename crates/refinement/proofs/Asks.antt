-- The calls are the code that the abstract protocol asks for. Assumes nothing.
use Rattle.std.proofs.Common.{ℕ, ◌^◌, ◌<◌, ◌≤◌, Option, refl}
use Rattle.gates.specs.Code.{Code}
use Rattle.gates.proofs.Refines.{code-keeps}
use Rattle.refinement.specs.Relation.{rules_of, Stands}
use Rattle.refinement.specs.Calls.{Knows}
use Rattle.refinement.specs.Term.{calls, AsAsked}
use Rattle.refinement.proofs.Owning.{known_or_none, table_knows}
use Rattle.refinement.proofs.Followed.{start_stands, hears_known}
use Rattle.refinement.proofs.Playing.{does-own, hears-own, does_so}

code : (k life most : ℕ) (known : ℕ → Option ℕ) (owner : ℕ → ℕ) → Knows k known owner → k ≤ 32 → most < 2 ^ 32 → Code (rules_of life most owner) (calls k life most known) (λ a s now g. Stands k life most a s now g)
code k life most known owner knows few fits =
    record {
      first_stands = λ a less. start_stands k life most a;
      doing_own = λ a c s now g st. does-own k life most few fits a c s now g st;
      hearing_own = λ a x ts s i now g st. hears-own k life most few fits known a x ts s i;
      hearing_brings = λ a x ts s i. (_, _, refl);
      does_so = λ es a c s less below st new. does_so k life most fits known owner knows es a c s less st new;
      hears_so = λ es a x ts s i less below st p new. hears_known k life most few known owner knows es a x ts s i less below st p new;
    }

pub as_asked : AsAsked
as_asked =
    record {
      code = code;
      keeps = λ k life most known owner knows few fits. code-keeps (rules_of life most owner) (calls k life most known) (λ a s now g. Stands k life most a s now g) (code k life most known owner knows few fits);
      whatever_known = λ k known x. known_or_none k (known x);
      where_owned = λ k owner x. refl;
      by_table = table_knows;
    }
