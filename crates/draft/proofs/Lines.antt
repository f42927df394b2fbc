-- The lines of a text, one after another. Assumes nothing.
use Rattle.std.proofs.Common.{◌≡◌, ℕ, ◌+◌, List, [], ◌∷◌, Some, None, Ok, Err, Option, Result, sym, ap, ◌∙◌, arith}
use Rattle.std.proofs.lemmas.Iterator.{YieldsList}
use Rattle.std.specs.List.{enumerate_from}
use Rattle.std.specs.Result.{MatchResult, IsErrAnd}
use Rattle.draft.specs.declared.drafts.Draft.{Draft}
use Rattle.draft.specs.declared.faults.TextFault.{TextFault}
use Rattle.draft.specs.declared.faults.Wrong.{Wrong}
use Rattle.draft.specs.Drafts.{line_taken}
use Rattle.draft.specs.Reading.{or_wrong, lines_taken}
use Rattle.draft.specs.Words.{words_of}

-- an iterator over numbered lines has these left, after so many
abbrev pub Numbered : {S A : Type 0} → (S → Option (ℕ × A) → S → Type 0) → (A → List ℕ) → S → ℕ → List (List ℕ) → Type 0
Numbered steps v s before lines = YieldsList {B = ℕ × List ℕ} steps (λ p. (p.0, v p.1)) s (enumerate_from before lines)

-- what it has left makes of a draft what the text says
pub record Rest {S A : Type 0} (steps : S → Option (ℕ × A) → S → Type 0) (v : A → List ℕ) (s : S) (d : Draft) (r : Result Draft Wrong) : Type 0 where
  pub before : ℕ
  pub lines : List (List ℕ)
  pub yields : Numbered steps v s before lines
  pub read : lines_taken before lines d ≡ r

module _ {S A : Type 0} {steps : S → Option (ℕ × A) → S → Type 0} {v : A → List ℕ} {s : S} {d : Draft} {r : Result Draft Wrong} where
  -- no line is left
  pub line_end : {t : S} → Rest steps v s d r → steps s None t → Ok d ≡ r
  line_end {t = t} rest step = by rest.lines rest.yields rest.read
    where
      by : (ls : List (List ℕ)) → Numbered steps v s rest.before ls → lines_taken rest.before ls d ≡ r → Ok d ≡ r
      by [] yields read = read
      by (l ∷ ls) yields read = absurd (yields.runs.0 t step)

  -- the next line, and what is left behind it
  line_next : {t : S} {x : ℕ × A} (rest : Rest steps v s d r) → steps s (Some x) t → (lines : List (List ℕ)) × Numbered steps v t (rest.before + 1) lines × (x.0 ≡ rest.before) × (or_wrong rest.before (line_taken (words_of (v x.1)) d) (lines_taken (rest.before + 1) lines) ≡ r)
  line_next {t = t} {x = x} rest step = by rest.lines rest.yields rest.read
    where
      by : (ls : List (List ℕ)) → Numbered steps v s rest.before ls → lines_taken rest.before ls d ≡ r → (lines : List (List ℕ)) × Numbered steps v t (rest.before + 1) lines × (x.0 ≡ rest.before) × (or_wrong rest.before (line_taken (words_of (v x.1)) d) (lines_taken (rest.before + 1) lines) ≡ r)
      by [] yields read = absurd (yields.runs x t step)
      by (l ∷ ls) yields read =
          let was = yields.runs.1 x t step in
          let line : v x.1 ≡ l = ap (λ (p : ℕ × List ℕ). p.1) was.0 in (
            ls,
            record { runs = was.1 },
            ap (λ (p : ℕ × List ℕ). p.0) was.0,
            ap (λ w. or_wrong rest.before (line_taken (words_of w) d) (lines_taken (rest.before + 1) ls)) line ∙ read,
          )

  -- a line that is wrong
  pub line_wrong : {t : S} {x : ℕ × A} {e : TextFault} → Rest steps v s d r → steps s (Some x) t → Err e ≡ line_taken (words_of (v x.1)) d → Err (record { line = x.0 + 1; fault = e }) ≡ r
  line_wrong {e = e} rest step wrong =
      let next = line_next rest step in
      (λ i. Err (record { line = next.2 i + 1; fault = e })) ∙ ap (λ q. or_wrong rest.before q (lines_taken (rest.before + 1) next.0)) wrong ∙ next.3

  -- a line that was taken
  pub line_right : {t : S} {x : ℕ × A} {e : Draft} → Rest steps v s d r → steps s (Some x) t → Ok e ≡ line_taken (words_of (v x.1)) d → Rest steps v t e r
  line_right rest step right =
      let next = line_next rest step in
      record {
        before = rest.before + 1;
        lines = next.0;
        yields = next.1;
        read = ap (λ q. or_wrong rest.before q (lines_taken (rest.before + 1) next.0)) right ∙ next.3;
      }

  -- the same, by what was made of its fault
  pub line_failed : {t : S} {x : ℕ × A} {P : TextFault → Wrong → Type 0} (taken : Result Draft TextFault) (made : Result Draft Wrong) (w : Wrong) → Rest steps v s d r → steps s (Some x) t → taken ≡ line_taken (words_of (v x.1)) d → MatchResult taken (λ y. made ≡ Ok y) (λ e. IsErrAnd made (P e)) → ((e : TextFault) (u : Wrong) → P e u → u ≡ record { line = x.0 + 1; fault = e }) → made ≡ Err w → Err w ≡ r
  line_failed (Ok y) made w rest step is told says wrong = absurd (let z : ◌≡◌ {A = ℕ} 0 1 = cc in omega arith)
  line_failed (Err e) (Ok y) w rest step is told says wrong = absurd told
  line_failed (Err e) (Err u) w rest step is told says wrong = let same : u ≡ w = cc in ap Err (sym same ∙ says e u told) ∙ line_wrong rest step is
