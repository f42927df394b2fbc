-- The line of an event says that event. Assumes nothing.
use Rattle.std.proofs.Common.{◌≡◌, ℕ, ◌+◌, ◌/◌, ◌%◌, ◌<◌, true, false, cond, eqb, leb, List, [], ◌∷◌, ◌++◌, length, get_or, take, Some, None, Err, codes, sym, refl, ap, ◌∙◌, arith, length-append}
use Rattle.std.proofs.lemmas.Slice.Eq.{bytes_eq-Decides}
use Rattle.std.proofs.lemmas.List.{take_at, get_or_at}
use Rattle.std.proofs.lemmas.Bool.Decides.{nat_tests}
use Rattle.std.specs.Char.{is_ascii_whitespace}
use Rattle.std.specs.Str.{bytes_eq}
use Rattle.lines.specs.declared.faults.LineFault.TheVariants.{NothingDrawn}
use Rattle.lines.specs.declared.names.Name.TheVariants.{Drawn, Packet, Word}
use Rattle.lines.specs.Hex.{digit_byte, encoded}
use Rattle.lines.specs.Names.{name_start, or_else}
use Rattle.lines.specs.Reading.{before, trim_end, with, hex_from, says_found, line_says}
use Rattle.lines.specs.Reading.Said.{ticks, drawn, packet, word, falls}
use Rattle.lines.specs.Writing.{name_and_bytes, Bytes, EveryEventHasItsLine}
use Rattle.lines.proofs.Digits.{gives_back}

-- a digit is no blank
digit_shows : (v : ℕ) → v < 16 → is_ascii_whitespace (digit_byte v) ≡ false
digit_shows v small = grind (arith, nat_tests)

before-some : (b : ℕ) (cs : List ℕ) → 0 < length cs → before b cs ≡ b ∷ cs
before-some b [] some = absurd (omega arith)
before-some b (c ∷ cs) some = refl

-- what stands before something that is trimmed and not empty is kept
trim_after : (xs ys : List ℕ) → 0 < length ys → trim_end ys ≡ ys → trim_end (xs ++ ys) ≡ xs ++ ys
trim_after [] ys some kept = kept
trim_after (x ∷ xs) ys some kept = ap (before x) (trim_after xs ys some kept) ∙ before-some x (xs ++ ys) (simp length-append (omega arith))

trim_encoded : (bs : List ℕ) → Bytes bs → trim_end (encoded bs) ≡ encoded bs
trim_encoded [] all = refl
trim_encoded (b ∷ []) all = ap (λ t. before (digit_byte (b / 16)) (cond t [] (digit_byte (b % 16) ∷ []))) (digit_shows (b % 16) (omega arith))
trim_encoded (b ∷ c ∷ bs) all =
    trim_after (digit_byte (b / 16) ∷ digit_byte (b % 16) ∷ []) (encoded (c ∷ bs)) (omega arith) (trim_encoded (c ∷ bs) all.1)

-- a name and a space are found, whatever follows
start-after : (name rest : List ℕ) → name_start (name ++ 32 ∷ rest) name ≡ Some (length name + 1)
start-after name rest =
    let line : List ℕ = name ++ 32 ∷ rest in
    let same : bytes_eq name (take (length name) line) ≡ true = (bytes_eq-Decides name (take (length name) line)).1 (sym (take_at name (32 ∷ rest) (length name) refl)) in
    let longer : eqb (length line) (length name) ≡ false = simp length-append (grind (arith, nat_tests)) in
    let space : eqb (get_or line (length name) 0) 32 ≡ true = ap (λ b. eqb b 32) (get_or_at name 32 rest 0 (length name) refl) in
    λ i. cond (same i) (cond (longer i) (Some (length name)) (cond (space i) (Some (length name + 1)) None)) None

-- a line with some bytes is trimmed as it is
trim_line : (name : List ℕ) (b : ℕ) (bs : List ℕ) → Bytes (b ∷ bs) → trim_end ((name ++ 32 ∷ []) ++ encoded (b ∷ bs)) ≡ (name ++ 32 ∷ []) ++ encoded (b ∷ bs)
trim_line name b bs all = trim_after (name ++ 32 ∷ []) (encoded (b ∷ bs)) (omega arith) (trim_encoded (b ∷ bs) all)

pub every_event : EveryEventHasItsLine
every_event ticks ok = refl
every_event (drawn []) ok = absurd (omega (arith, ok.0))
every_event (drawn (b ∷ bs)) ok =
    let line : List ℕ = name_and_bytes (codes "drawn") (b ∷ bs) in
    let some : leb (length line) 6 ≡ false = grind (arith, nat_tests) in
    ap line_says (trim_line (codes "drawn") b bs ok.1)
    ∙ (λ i. says_found line (or_else Drawn (start-after (codes "drawn") (encoded (b ∷ bs)) i) None))
    ∙ (λ i. cond (some i) (Err NothingDrawn) (with drawn (hex_from line 6)))
    ∙ ap (with drawn) (gives_back 7 (b ∷ bs) ok.1)
every_event (packet []) ok = refl
every_event (packet (b ∷ bs)) ok =
    let line : List ℕ = name_and_bytes (codes "packet") (b ∷ bs) in
    ap line_says (trim_line (codes "packet") b bs ok)
    ∙ (λ i. says_found line (or_else Packet (start-after (codes "packet") (encoded (b ∷ bs)) i) None))
    ∙ ap (with packet) (gives_back 8 (b ∷ bs) ok)
every_event (word []) ok = refl
every_event (word (b ∷ bs)) ok =
    let line : List ℕ = name_and_bytes (codes "word") (b ∷ bs) in
    ap line_says (trim_line (codes "word") b bs ok)
    ∙ (λ i. says_found line (or_else Word (start-after (codes "word") (encoded (b ∷ bs)) i) None))
    ∙ ap (with word) (gives_back 6 (b ∷ bs) ok)
every_event falls ok = refl
