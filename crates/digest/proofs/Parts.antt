-- A code that was begun, and what is refused of the sum of one part. Assumes nothing.
use Rattle.std.proofs.Common.{◌≡◌, ℕ, ◌+◌, true, List, [], ◌++◌, length, is_ok, Ok, Result, sym, ap, ◌∙◌, subst, arith}
use Rattle.std.proofs.lemmas.List.{append-nil}
use Rattle.digest.specs.declared.state.Fault.{Fault}
use Rattle.digest.specs.declared.state.Hasher.{Hasher}
use Rattle.digest.specs.declared.state.Key.{Key}
use Rattle.digest.specs.declared.state.Mac.{Mac}
use Rattle.digest.specs.Hashers.{Holds, Prepared, Taken, limited}
use Rattle.digest.specs.Hmac.{inner_pad}
use Rattle.digest.specs.Sha256.{sha256}
use Rattle.digest.proofs.Keys.{length-inner, limited-taken}
use Rattle.digest.proofs.Messages.{holds-first}

-- a code that was begun has taken nothing
pub begun : (m : Mac) (key : List ℕ) (k : Key) → Prepared k key → m.inner.state ≡ k.inner → m.inner.total ≡ 64 → m.outer ≡ k.outer → Taken m key []
begun m key k p is total outer =
    record {
      long = p.long;
      inner =
          subst (λ x. Holds m.inner x) (sym (append-nil (inner_pad key)))
          (holds-first m.inner (inner_pad key) (length-inner key p.long) (is ∙ p.inner) total);
      outer = outer ∙ p.outer;
    }

-- what was made of a message that was taken is refused exactly if the message is too long
pub limited_is : {T : Type 0} (n : ℕ) (r value : T) (taken : Result (Unit {0}) Fault) (x : Unit {0}) → taken ≡ limited n tt → taken ≡ Ok x → r ≡ value → Ok r ≡ limited n value
limited_is {T} n r value taken x is ok same = ap Ok same ∙ limited-taken n value x (sym ok ∙ is)

-- the sum of one part, and what is refused
pub limited_sum : (m r : List ℕ) (before after : Hasher) (taken : Result (Unit {0}) Fault) (x : Unit {0}) → Holds before [] → ((s : List ℕ) → Holds before s → is_ok taken ≡ true → Holds after (s ++ m))
    → taken ≡ Ok x → ((s : List ℕ) → Holds after s → r ≡ sha256 s) → taken ≡ limited (before.total + length m) tt → before.total ≡ 0
    → Ok r ≡ limited (length m) (sha256 m)
limited_sum m r before after taken x start more ok sum is none =
    let long : before.total + length m ≡ length m = omega arith in
    limited_is (length m) r (sha256 m) taken x (is ∙ ap (λ n. limited n tt) long) ok (sum m (more [] start (ap is_ok ok)))
