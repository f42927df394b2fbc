use Rattle.std.proofs.Common.{rules, ◌≡◌, ℕ, eqb, List, Ok, Err, sym, ap, ◌∙◌}
use Rattle.std.proofs.lemmas.Result.{err_from_is_err_and}
use Rattle.wire.specs.declared.state.Header.TheVariants as header
use Rattle.wire.specs.Keys.{talk_key}
use Rattle.wire.specs.Reading.{header_in, told, left, one_talk, TalkOf, hello_under, reply_under, packet_under, empty_under}
use Rattle.wire.proofs.Headers.{header_says, hello-length, reply-length, packet-length, empty-length}
use Rattle.wire.proofs.Pairs.{read_by_lem, read-hello, read-reply, read-packet, read-empty, named_err, named_ok, talk-none, talk-named, talk_reads}
use Rattle.wire.proofs.Answered.{hello-left, reply-left, empty_left}
use Rattle.wire.proofs.state.PairKeys.open.Goals as goal
use Rattle.wire.proofs.state.PairKeys.open.Goals.{In-Hello, In-Reply, In-Packet, In-Empty}

-- the header that was read is that of a word between the two gates
hello : (c : In-Hello) → Ok (header.Hello c.in-Hello.maker) ≡ header_in c.args.self.now.side.own (λ a. eqb a c.args.self.now.side.peer) c.args.word.now
hello c = sym (ap Ok c.in-Hello.is) ∙ c.in_ok-header_by.ensures (λ a. eqb a c.args.self.now.side.peer) (λ a r small p. search rules)

reply : (c : In-Reply) → Ok (header.Reply c.in-Reply.maker) ≡ header_in c.args.self.now.side.own (λ a. eqb a c.args.self.now.side.peer) c.args.word.now
reply c = sym (ap Ok c.in-Reply.is) ∙ c.in_ok-header_by.ensures (λ a. eqb a c.args.self.now.side.peer) (λ a r small p. search rules)

packet : (c : In-Packet) → Ok (header.Packet c.in-Packet.maker c.in-Packet.tag c.in-Packet.number) ≡ header_in c.args.self.now.side.own (λ a. eqb a c.args.self.now.side.peer) c.args.word.now
packet c = sym (ap Ok c.in-Packet.is) ∙ c.in_ok-header_by.ensures (λ a. eqb a c.args.self.now.side.peer) (λ a r small p. search rules)

empty : (c : In-Empty) → Ok (header.Empty c.in-Empty.maker c.in-Empty.tag c.in-Empty.number) ≡ header_in c.args.self.now.side.own (λ a. eqb a c.args.self.now.side.peer) c.args.word.now
empty c = sym (ap Ok c.in-Empty.is) ∙ c.in_ok-header_by.ensures (λ a. eqb a c.args.self.now.side.peer) (λ a r small p. search rules)

pub returns-in_err-header_by : goal.returns-in_err-header_by
returns-in_err-header_by c =
    let w = c.args.word.now in
    let exit = err_from_is_err_and c.from_residual.result c.from_residual.ensures.1 in
    let head = c.in_err-header_by.ensures (λ a. eqb a c.args.self.now.side.peer) (λ a r small p. search rules) in
    record {
      answer = λ key p t. exit.1 ∙ ap Err exit.2 ∙ sym (ap told (read_by_lem _ _ key (one_talk c.args.talk) w _ head));
      after = λ key p t. sym (ap (left w) (read_by_lem _ _ key (one_talk c.args.talk) w _ head));
    }

pub unwrap-requires : goal.unwrap-requires
unwrap-requires c = c.as_array.ensures.variant.1 (hello-length c.args.word.now (header_says _ (λ a. eqb a c.args.self.now.side.peer) c.args.word.now _ (sym (hello (goal.at.unwrap-requires c).In-Hello))).word)

pub returns-in-Hello : goal.returns-in-Hello
returns-in-Hello c =
    let w = c.args.word.now in
    let same = rw c.unwrap.ensures at c.as_array.ensures.cases in
    let read = λ (key : List ℕ). read-hello _ _ _ key (one_talk c.args.talk) w (hello (goal.at.returns-in-Hello c).In-Hello) in
    record {
      answer = λ key p t. c.open_hello.ensures key p ∙ ap (λ w. told (hello_under c.args.self.now.side.own c.args.self.now.side.peer w key)) same.same ∙ sym (ap told (read key));
      after = λ key p t. hello-left _ _ w key ∙ sym (ap (left w) (read key));
    }

pub unwrap-requires-in-Reply : goal.unwrap-requires-in-Reply
unwrap-requires-in-Reply c = c.as_array-in-Reply.ensures.variant.1 (reply-length c.args.word.now (header_says _ (λ a. eqb a c.args.self.now.side.peer) c.args.word.now _ (sym (reply (goal.at.unwrap-requires-in-Reply c).In-Reply))).word)

pub returns-in-Reply : goal.returns-in-Reply
returns-in-Reply c =
    let w = c.args.word.now in
    let same = rw c.unwrap-in-Reply.ensures at c.as_array-in-Reply.ensures.cases in
    let read = λ (key : List ℕ). read-reply _ _ _ key (one_talk c.args.talk) w (reply (goal.at.returns-in-Reply c).In-Reply) in
    record {
      answer = λ key p t. c.open_reply.ensures key p ∙ ap (λ w. told (reply_under c.args.self.now.side.own c.args.self.now.side.peer w key)) same.same ∙ sym (ap told (read key));
      after = λ key p t. reply-left _ _ w key ∙ sym (ap (left w) (read key));
    }

pub open_packet-requires : goal.open_packet-requires
open_packet-requires c = packet-length c.args.word.now (header_says _ (λ a. eqb a c.args.self.now.side.peer) c.args.word.now _ (sym (packet (goal.at.open_packet-requires c).In-Packet))).from.word

pub unwrap-requires-in-Empty : goal.unwrap-requires-in-Empty
unwrap-requires-in-Empty c = c.as_array-in-Empty.ensures.variant.1 (empty-length c.args.word.now (header_says _ (λ a. eqb a c.args.self.now.side.peer) c.args.word.now _ (sym (empty (goal.at.unwrap-requires-in-Empty c).In-Empty))).from.word)

pub returns-in_err-named-in-Packet : goal.returns-in_err-named-in-Packet
returns-in_err-named-in-Packet c =
    let w = c.args.word.now in
    let exit = err_from_is_err_and c.from_residual-in_err-named-in-Packet.result c.from_residual-in_err-named-in-Packet.ensures.1 in
    let no = named_err _ _ c.in_err-named-in-Packet.ensures in
    let read = λ (key : List ℕ). talk-none c.args.talk c.in-Packet.tag _ no.0 ∙ sym (read-packet _ _ _ _ _ key c.args.talk w (packet (goal.at.returns-in_err-named-in-Packet c).In-Packet)) in
    record {
      answer = λ key p t. exit.1 ∙ ap Err (exit.2 ∙ no.1) ∙ ap told (read key);
      after = λ key p t. ap (left w) (read key);
    }

pub returns-in_err-named-in-Empty : goal.returns-in_err-named-in-Empty
returns-in_err-named-in-Empty c =
    let w = c.args.word.now in
    let exit = err_from_is_err_and c.from_residual-in_err-named-in-Empty.result c.from_residual-in_err-named-in-Empty.ensures.1 in
    let no = named_err _ _ c.in_err-named-in-Empty.ensures in
    let read = λ (key : List ℕ). talk-none c.args.talk c.in-Empty.tag _ no.0 ∙ sym (read-empty _ _ _ _ _ key c.args.talk w (empty (goal.at.returns-in_err-named-in-Empty c).In-Empty)) in
    record {
      answer = λ key p t. exit.1 ∙ ap Err (exit.2 ∙ no.1) ∙ ap told (read key);
      after = λ key p t. ap (left w) (read key);
    }

pub returns-in_ok-named-in-Packet : goal.returns-in_ok-named-in-Packet
returns-in_ok-named-in-Packet c =
    let w = c.args.word.now in
    let keys = c.in_ok-named-in-Packet.field-0 in
    let is = named_ok _ _ c.in_ok-named-in-Packet.ensures in
    let found = λ (key : List ℕ) (t : TalkOf c.args.self.now key c.args.talk). talk-named c.args.self.now key c.args.talk c.in-Packet.tag keys is t in
    let read = λ (key : List ℕ) (t : TalkOf c.args.self.now key c.args.talk).
    talk_reads c.args.self.now key c.args.talk c.in-Packet.tag keys (λ own a h k m. packet_under own a h c.in-Packet.number w k m) is (found key t)
    ∙ sym (read-packet _ _ _ _ _ key c.args.talk w (packet (goal.at.returns-in_ok-named-in-Packet c).In-Packet)) in
    record {
      answer = λ key p t. c.open_packet.ensures.answer key (found key t).holds ∙ ap told (read key t);
      after = λ key p t. c.open_packet.ensures.after key (found key t).holds ∙ ap (left w) (read key t);
    }

pub returns-in_ok-named-in-Empty : goal.returns-in_ok-named-in-Empty
returns-in_ok-named-in-Empty c =
    let w = c.args.word.now in
    let keys = c.in_ok-named-in-Empty.field-0 in
    let is = named_ok _ _ c.in_ok-named-in-Empty.ensures in
    let found = λ (key : List ℕ) (t : TalkOf c.args.self.now key c.args.talk). talk-named c.args.self.now key c.args.talk c.in-Empty.tag keys is t in
    let read = λ (key : List ℕ) (t : TalkOf c.args.self.now key c.args.talk).
    talk_reads c.args.self.now key c.args.talk c.in-Empty.tag keys (λ own a h k m. empty_under own a h c.in-Empty.number w k m) is (found key t)
    ∙ sym (read-empty _ _ _ _ _ key c.args.talk w (empty (goal.at.returns-in_ok-named-in-Empty c).In-Empty)) in
    let same = rw c.unwrap-in-Empty.ensures at c.as_array-in-Empty.ensures.cases in
    record {
      answer = λ key p t. c.open_empty.ensures key (found key t).holds ∙ ap (λ w. told (empty_under keys.side.own keys.side.peer keys.mine c.in-Empty.number w (talk_key key keys.theirs keys.mine) keys.theirs)) same.same ∙ ap told (read key t);
      after = λ key p t. empty_left keys.side.own keys.side.peer keys.mine c.in-Empty.number keys.theirs w (talk_key key keys.theirs keys.mine) ∙ ap (left w) (read key t);
    }
