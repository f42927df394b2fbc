-- Reading by the keys of one pair and at most one talk. Assumes nothing.
use Rattle.std.proofs.Common.{◌≡◌, ℕ, Bool, true, false, cond, eqb, List, is_some, Some, None, Ok, Err, Option, Result, sym, refl, ap, ◌∙◌, subst, arith}
use Rattle.std.proofs.lemmas.Bool.Decides.{nat_tests}
use Rattle.std.specs.Option.{option_map, ok_or}
use Rattle.protocol.specs.declared.refusals.Refusal.{Refusal}
use Rattle.protocol.specs.declared.refusals.Refusal.TheVariants.{NoTalk}
use Rattle.wire.specs.declared.state.Header.{Header}
use Rattle.wire.specs.declared.state.Header.TheVariants as header
use Rattle.wire.specs.declared.state.PairKeys.{PairKeys}
use Rattle.wire.specs.declared.state.TalkKeys.{TalkKeys}
use Rattle.wire.specs.Keys.{talk_key, TalkHolds}
use Rattle.wire.specs.Words.{Word}
use Rattle.wire.specs.Reading.{maker_in, header_in, hello_under, reply_under, packet_under, empty_under, with_pair, with_talk, Talks, read_by, read_word, one_key, named_by, one_talk, TalkOf}
use Rattle.wire.proofs.Headers.{From, In, header_says}

-- the only gate that is there is the one with a key
there_one : (peer : ℕ) (key : List ℕ) → ◌≡◌ {A = ℕ → Bool} (λ a. is_some (one_key peer key a)) (λ a. eqb a peer)
there_one peer key = λ i a. some (eqb a peer) i
  where
    some : (b : Bool) → is_some (cond b (Some key) None) ≡ b
    some true = refl
    some false = refl

-- a word is read by its header
pub read_by_lem : (own peer : ℕ) (key : List ℕ) (talks : Talks) (w : List ℕ) (h : Result Header Refusal) → h ≡ header_in own (λ a. eqb a peer) w
    → read_word own (one_key peer key) talks w ≡ read_by own (one_key peer key) talks w h
unfolding read_word
read_by_lem own peer key talks w h is =
    ap (λ (there : ℕ → Bool). read_by own (one_key peer key) talks w (header_in own there w)) (there_one peer key) ∙ ap (read_by own (one_key peer key) talks w) (sym is)

-- under the key of the maker, which is the only one
under : (own peer a : ℕ) (key w : List ℕ) (read : ℕ → List ℕ → Result Word Refusal) → a ≡ maker_in w → eqb (maker_in w) peer ≡ true
    → with_pair (one_key peer key a) (read a) ≡ read peer key
under own peer a key w read maker is =
    let at : a ≡ peer = grind (arith, nat_tests) in
    let yes' : eqb a peer ≡ true = grind (arith, nat_tests) in
    ap (λ b. with_pair (cond b (Some key) None) (read a)) yes' ∙ ap (λ x. read x key) at

pub read-hello : (own peer a : ℕ) (key : List ℕ) (talks : Talks) (w : List ℕ) → Ok (header.Hello a) ≡ header_in own (λ a. eqb a peer) w
    → read_word own (one_key peer key) talks w ≡ hello_under own peer w key
read-hello own peer a key talks w is =
    let says : From own (λ a. eqb a peer) w _ a = header_says own (λ a. eqb a peer) w (header.Hello a) (sym is) in
    read_by_lem own peer key talks w (Ok (header.Hello a)) is ∙ under own peer a key w (λ x. hello_under own x w) says.maker says.is

pub read-reply : (own peer a : ℕ) (key : List ℕ) (talks : Talks) (w : List ℕ) → Ok (header.Reply a) ≡ header_in own (λ a. eqb a peer) w
    → read_word own (one_key peer key) talks w ≡ reply_under own peer w key
read-reply own peer a key talks w is =
    let says : From own (λ a. eqb a peer) w _ a = header_says own (λ a. eqb a peer) w (header.Reply a) (sym is) in
    read_by_lem own peer key talks w (Ok (header.Reply a)) is ∙ under own peer a key w (λ x. reply_under own x w) says.maker says.is

pub read-packet : (own peer a h n : ℕ) (key : List ℕ) (talk : Option TalkKeys) (w : List ℕ) → Ok (header.Packet a h n) ≡ header_in own (λ a. eqb a peer) w
    → read_word own (one_key peer key) (one_talk talk) w
    ≡ with_talk (option_map (λ t. t.theirs) (named_by talk h)) (λ m. packet_under own peer h n w (talk_key key m h) m)
read-packet own peer a h n key talk w is =
    let says : In own (λ a. eqb a peer) w _ a h n = header_says own (λ a. eqb a peer) w (header.Packet a h n) (sym is) in
    read_by_lem own peer key (one_talk talk) w (Ok (header.Packet a h n)) is
    ∙ under own peer a key w (λ x pair. with_talk (option_map (λ t. t.theirs) (named_by talk h)) (λ m. packet_under own x h n w (talk_key pair m h) m)) says.from.maker says.from.is

pub read-empty : (own peer a h n : ℕ) (key : List ℕ) (talk : Option TalkKeys) (w : List ℕ) → Ok (header.Empty a h n) ≡ header_in own (λ a. eqb a peer) w
    → read_word own (one_key peer key) (one_talk talk) w
    ≡ with_talk (option_map (λ t. t.theirs) (named_by talk h)) (λ m. empty_under own peer h n w (talk_key key m h) m)
read-empty own peer a h n key talk w is =
    let says : In own (λ a. eqb a peer) w _ a h n = header_says own (λ a. eqb a peer) w (header.Empty a h n) (sym is) in
    read_by_lem own peer key (one_talk talk) w (Ok (header.Empty a h n)) is
    ∙ under own peer a key w (λ x pair. with_talk (option_map (λ t. t.theirs) (named_by talk h)) (λ m. empty_under own x h n w (talk_key pair m h) m)) says.from.maker says.from.is

-- what is answered of a talk that may be there
pub named_err : (o : Option TalkKeys) (e : Refusal) → Err e ≡ ok_or o NoTalk → (None ≡ o) × (e ≡ NoTalk)
named_err None e is = (refl, cc)
named_err (Some t) e is = let z : ◌≡◌ {A = ℕ} 0 1 = cc in absurd (omega arith)

pub named_ok : (o : Option TalkKeys) (t : TalkKeys) → ◌≡◌ {A = Result TalkKeys Refusal} (Ok t) (ok_or o NoTalk) → Some t ≡ o
named_ok None t is = let z : ◌≡◌ {A = ℕ} 0 1 = cc in absurd (omega arith)
named_ok (Some u) t is = cc

-- no talk has the tag
pub talk-none : (talk : Option TalkKeys) (h : ℕ) (read : ℕ → Result Word Refusal) → None ≡ named_by talk h
    → Err NoTalk ≡ with_talk (option_map (λ t. t.theirs) (named_by talk h)) read
talk-none talk h read none = ap (λ o. with_talk (option_map (λ (t : TalkKeys). t.theirs) o) read) none

-- the talk that has the tag is the one that was given
pub record Named (p : PairKeys) (key : List ℕ) (t : TalkKeys) (h : ℕ) : Type 0 where
  pub holds : TalkHolds t key
  pub own : t.side.own ≡ p.side.own
  pub peer : t.side.peer ≡ p.side.peer
  pub mine : t.mine ≡ h

pub talk-named : (p : PairKeys) (key : List ℕ) (talk : Option TalkKeys) (h : ℕ) (t : TalkKeys) → Some t ≡ named_by talk h → TalkOf p key talk → Named p key t h
talk-named p key None h t is of = let z : ◌≡◌ {A = ℕ} 0 1 = cc is in absurd (omega arith)
talk-named p key (Some u) h t is of = by (eqb u.mine h) refl is
  where
    by : (b : Bool) → eqb u.mine h ≡ b → Some t ≡ cond b (Some u) None → Named p key t h
    by false e r = let z : ◌≡◌ {A = ℕ} 0 1 = cc r in absurd (omega arith)
    by true e r =
        let same : u ≡ t = cc r in
        subst (λ x. Named p key x h) same (record { holds = of.0; own = of.1; peer = of.2; mine = grind (arith, nat_tests) })

-- what is read in the talk that has the tag
pub talk_reads : (p : PairKeys) (key : List ℕ) (talk : Option TalkKeys) (h : ℕ) (t : TalkKeys) (read : (own a h : ℕ) → List ℕ → ℕ → Result Word Refusal)
    → Some t ≡ named_by talk h → Named p key t h
    → read t.side.own t.side.peer t.mine (talk_key key t.theirs t.mine) t.theirs
    ≡ with_talk (option_map (λ t. t.theirs) (named_by talk h)) (λ m. read p.side.own p.side.peer h (talk_key key m h) m)
talk_reads p key talk h t read is n =
    let o = n.own in
    let e = n.peer in
    let m = n.mine in
    (λ i. read (o i) (e i) (m i) (talk_key key t.theirs (m i)) t.theirs)
    ∙ ap (λ o. with_talk (option_map (λ (t : TalkKeys). t.theirs) o) (λ m. read p.side.own p.side.peer h (talk_key key m h) m)) is
