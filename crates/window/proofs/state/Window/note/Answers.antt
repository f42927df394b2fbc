use Rattle.std.proofs.Common.{◌≡◌, ◌∷◌, rules, subst}
use Rattle.gates.specs.Talk.{larger}
use Rattle.window.specs.Heard.{noted, raised, Stands}
use Rattle.window.proofs.Heard.{fresh_tells, taken-stands}
use Rattle.window.proofs.state.Window.note.Goals as goal

pub returns-clause-list : goal.returns-clause-list
returns-clause-list c top heard s f =
    let e : noted c.args.n (raised c.args.n c.args.self) ≡ record { top = c.raise-raised.result.top; ring = c.mark.result } = search rules in
    subst (λ v. Stands v (larger top c.args.n) (c.args.n ∷ heard)) e (taken-stands c.args.self top heard c.args.n s (fresh_tells top heard c.args.n f).0)
