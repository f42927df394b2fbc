use Rattle.std.proofs.Common.{◌≡◌, Bor, ℕ, refl, ◌+◌, ◌<◌, false, List, length, get_or, drop, sym, ap, ◌∙◌, add-zero, arith, rules}
use Rattle.std.proofs.lemmas.List.{get_or-drop}
use Rattle.std.proofs.lemmas.Bool.Decides.{nat_tests}
use Rattle.std.specs.Char.{is_ascii_whitespace}
use Rattle.draft.specs.Words.{words_of}
use Rattle.draft.proofs.Worded.{words_skip, words-none, words_next, rest_is}
use Rattle.draft.proofs.words.WordsIterator.next.Goals as goal

pub returns-then-is_empty-clause-steps : goal.returns-then-is_empty-clause-steps
returns-then-is_empty-clause-steps c =
    let told = c.trim_ascii_start-self.ensures.value in
    let none = words-none c.trim_ascii_start-self.result.now (grind (arith, nat_tests)) in
    (words_skip told.0 c.args.self.now.rest.now told.3 (omega (arith, told.2)) ∙ ap words_of (sym told.1) ∙ none, none)

-- the line behind its first blanks begins with none
shown : (line rest : List ℕ) (n : ℕ) → rest ≡ drop n line → length rest + n ≡ length line → 0 < length rest → (n < length line → is_ascii_whitespace (get_or line n 0) ≡ false) → is_ascii_whitespace (get_or rest 0 0) ≡ false
shown line rest n is long some shows =
    ap (λ l. is_ascii_whitespace (get_or l 0 0)) is ∙ ap is_ascii_whitespace (get_or-drop n line 0 0 ∙ ap (λ k. get_or line k 0) (add-zero n)) ∙ shows (omega arith)

pub returns-clause-steps : goal.returns-clause-steps
returns-clause-steps c =
    let told = c.trim_ascii_start-self.ensures.value in
    let t : List ℕ = c.trim_ascii_start-self.result.now in
    let some : 0 < length t = grind (arith, nat_tests) in
    let front = c.cut_where.ensures.front is_ascii_whitespace (λ b r p. search rules) in
    let behind = c.cut_where.ensures.behind is_ascii_whitespace (λ b r p. search rules) in
    words_skip told.0 c.args.self.now.rest.now told.3 (omega (arith, told.2))
    ∙ ap words_of (sym told.1)
    ∙ words_next t c.cut_where.result.0.now c.unwrap_or-self.result.now _ some (shown c.args.self.now.rest.now t told.0 told.1 told.2 some told.4) front behind (ap (λ (x : Bor (List ℕ)). x.now) c.unwrap_or-self.ensures ∙ rest_is c.cut_where.result.1 _ refl)

pub returns-clause-goes : goal.returns-clause-goes
returns-clause-goes c =
    let steps = returns-clause-steps c in
    record { on = λ _. (tt, tt, omega (arith, ap length steps)); keeps = tt; rests = λ _. tt }
