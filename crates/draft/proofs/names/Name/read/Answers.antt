use Rattle.std.proofs.Common.{◌≡◌, ℕ, ◌<◌, ◌≤◌, Bool, true, false, cond, ◌&&◌, leb, List, ◌++◌, length, drop, replicate, Some, None, sym, ap, ◌∙◌, arith, rules}
use Rattle.std.proofs.lemmas.List.{drop-replicate}
use Rattle.std.proofs.lemmas.Bool.Decides.{nat_tests}
use Rattle.std.specs.List.{list_all}
use Rattle.draft.specs.Names.{name_byte, name_of, name_read}
use Rattle.draft.proofs.names.Name.read.Goals as goal

-- by the test on the word
tested : (w : List ℕ) (b : Bool) → (leb (length w) 32 && list_all name_byte w) ≡ b → name_read w ≡ cond b (Some (name_of w)) None
unfolding name_read
tested w b is = ap (λ q. cond q (Some (name_of w)) None) is

too_long : (w : List ℕ) → 32 < length w → (leb (length w) 32 && list_all name_byte w) ≡ false
too_long w long = grind (arith, nat_tests)

no_name : (w : List ℕ) → list_all name_byte w ≡ false → (leb (length w) 32 && list_all name_byte w) ≡ false
no_name w other = grind (arith, nat_tests)

fits : (w : List ℕ) → length w ≤ 32 → list_all name_byte w ≡ true → (leb (length w) 32 && list_all name_byte w) ≡ true
fits w few all = grind (arith, nat_tests)

pub returns-then-word-gt32 : goal.returns-then-word-gt32
returns-then-word-gt32 c = sym (tested c.args.word.now false (too_long c.args.word.now (omega arith)))

pub returns-then-not-all_name : goal.returns-then-not-all_name
returns-then-not-all_name c = sym (tested c.args.word.now false (no_name c.args.word.now (search rules)))

pub returns : goal.returns
returns c =
    let copied : c.copy_from_slice.new.self ≡ c.args.word.now = search rules in
    (λ i. Some (record { bytes = copied i ++ drop (length c.args.word.now) (replicate 32 0); length = length c.args.word.now }))
    ∙ (λ i. Some (record { bytes = c.args.word.now ++ drop-replicate (length c.args.word.now) 32 0 i; length = length c.args.word.now }))
    ∙ sym (tested c.args.word.now true (fits c.args.word.now (omega arith) (search rules)))
