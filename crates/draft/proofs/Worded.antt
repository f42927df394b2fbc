-- The words of a line, one after another. Assumes nothing.
use Rattle.std.proofs.Common.{◌≡◌, Bor, ℕ, filter, zero, suc, ◌<◌, ◌≤◌, true, false, cond, List, [], ◌∷◌, length, get_or, drop, Some, None, Option, sym, refl, ap, ◌∙◌, arith}
use Rattle.std.specs.Char.{is_ascii_whitespace}
use Rattle.std.specs.Option.{unwrap_or, option_map}
use Rattle.std.specs.List.{slice_split, onto_first}
use Rattle.addresses.specs.Marks.{front, behind}
use Rattle.addresses.proofs.Cutting.{others, pieces_are}
use Rattle.draft.specs.Words.{is_word, words_of}

-- blanks at the start of a line make no words
pub words_skip : (n : ℕ) (t : List ℕ) → ((i : ℕ) → i < n → is_ascii_whitespace (get_or t i 0) ≡ true) → n ≤ length t → words_of t ≡ words_of (drop n t)
unfolding words_of
words_skip zero t white within = refl
words_skip (suc n) [] white within = absurd (omega arith)
words_skip (suc n) (b ∷ bs) white within =
    ap (λ c. filter is_word (cond c ([] ∷ slice_split is_ascii_whitespace bs) (onto_first b (slice_split is_ascii_whitespace bs)))) (white 0 (omega arith)) ∙ words_skip n bs (λ i less. white (suc i) (omega arith)) (omega arith)

-- no bytes are no words
pub words-none : (t : List ℕ) → length t ≡ 0 → words_of t ≡ []
unfolding words_of
words-none [] empty = refl
words-none (b ∷ bs) empty = absurd (omega arith)

-- what stands behind the first word
abbrev after : Option (List ℕ) → List (List ℕ)
after None = []
after (Some rest) = words_of rest

-- a line that begins with no blank: its first word, and then the others
words-first : (t : List ℕ) → 0 < length t → is_ascii_whitespace (get_or t 0 0) ≡ false → words_of t ≡ front is_ascii_whitespace t ∷ after (behind is_ascii_whitespace t)
unfolding words_of
words-first [] some first = absurd (omega arith)
words-first (b ∷ bs) some first =
    ap (filter is_word) (pieces_are is_ascii_whitespace (b ∷ bs))
    ∙ (λ i. filter is_word (cond (first i) [] (b ∷ front is_ascii_whitespace bs) ∷ others is_ascii_whitespace (behind is_ascii_whitespace (b ∷ bs))))
    ∙ ap (λ l. (b ∷ front is_ascii_whitespace bs) ∷ l) (by (behind is_ascii_whitespace (b ∷ bs)))
    ∙ sym (λ i. cond (first i) [] (b ∷ front is_ascii_whitespace bs) ∷ after (behind is_ascii_whitespace (b ∷ bs)))
  where
    by : (o : Option (List ℕ)) → filter is_word (others is_ascii_whitespace o) ≡ after o
    by None = refl
    by (Some rest) = refl

-- what stands behind a mark, or else nothing
pub rest_is : (o : Option (Bor (List ℕ))) (none : Bor (List ℕ)) → none.now ≡ [] → (unwrap_or o none).now ≡ unwrap_or (option_map (λ x. x.now) o) []
rest_is None none empty = empty
rest_is (Some rest) none empty = refl

-- the first word, and then those of the rest
pub words_next : (t w rest : List ℕ) (o : Option (List ℕ)) → 0 < length t → is_ascii_whitespace (get_or t 0 0) ≡ false → w ≡ front is_ascii_whitespace t → o ≡ behind is_ascii_whitespace t → rest ≡ unwrap_or o [] → words_of t ≡ w ∷ words_of rest
words_next t w rest o some first is behinds left =
    words-first t some first ∙ (λ i. sym is i ∷ after (sym behinds i)) ∙ ap (λ l. w ∷ l) (by o ∙ ap words_of (sym left))
  where
    by : (p : Option (List ℕ)) → after p ≡ words_of (unwrap_or p [])
    by None = sym (words-none [] refl)
    by (Some u) = refl
