-- A plan's places as the two tables that promises speak of, and back. Assumes nothing.
use Rattle.std.specs.Prelude.{◌≡◌, ℕ, List, [], ◌∷◌, map, refl}
use Rattle.settings.specs.declared.plans.Site.{Site}
use Rattle.settings.specs.declared.ranges.Range.{Range}
use Rattle.settings.specs.Shared.{Shared}

-- a life, a most, a number of gates and their places, as what all gates share
abbrev pub shared : ℕ → ℕ → ℕ → List Site → Shared
shared l m n sites = record { life = l; most = m; gates = n; ranges = map (λ s. s.range) sites; outside = map (λ s. s.outside) sites }

-- the places of two tables
abbrev pub sites_of : List Range → List ℕ → List Site
sites_of [] outside = []
sites_of (r ∷ ranges) [] = []
sites_of (r ∷ ranges) (o ∷ outside) = record { range = r; outside = o } ∷ sites_of ranges outside

-- the two tables of places give them back
pub sites_back : (sites : List Site) → sites_of (map (λ s. s.range) sites) (map (λ s. s.outside) sites) ≡ sites
sites_back [] = refl
sites_back (s ∷ sites) = λ i. s ∷ sites_back sites i
