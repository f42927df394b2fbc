-- What is put into one place of a plan shows in both its tables. Assumes nothing.
use Rattle.std.proofs.Common.{◌≡◌, ℕ, ◌+◌, List, ◌++◌, set, ap, ◌∙◌, append_assoc}
use Rattle.std.proofs.lemmas.List.{map-set}
use Rattle.settings.specs.declared.plans.Site.{Site}
use Rattle.settings.specs.declared.ranges.Range.{Range}
use Rattle.settings.specs.Plans.{plan_with}
use Rattle.settings.specs.Sites.{shared}

pub placed : (l m n at : ℕ) (sites : List Site) (r : Range) (o : ℕ) → at ≡ n → shared l m (n + 1) (set sites at (record { range = r; outside = o })) ≡ plan_with (shared l m n sites) r o
placed l m n at sites r o is =
    let site : Site = record { range = r; outside = o } in
    ap (λ i. shared l m (n + 1) (set sites i site)) is
    ∙ (λ j. record { life = l; most = m; gates = n + 1; ranges = map-set (λ (s : Site). s.range) sites n site j; outside = map-set (λ (s : Site). s.outside) sites n site j })

-- pieces that are added one after another
pub joined : (s0 s1 s2 s3 s4 a b c d : List ℕ) → s1 ≡ s0 ++ a → s2 ≡ s1 ++ b → s3 ≡ s2 ++ c → s4 ≡ s3 ++ d → s4 ≡ s0 ++ (a ++ (b ++ (c ++ d)))
joined s0 s1 s2 s3 s4 a b c d one two three four =
    four ∙ ap (λ s. s ++ d) (three ∙ ap (λ s. s ++ c) (two ∙ ap (λ s. s ++ b) one)) ∙ simp append_assoc
