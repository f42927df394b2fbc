-- Reading looks at one key and one talk. Assumes nothing.
use Rattle.std.proofs.Common.{◌≡◌, Bool, true, false, cond, ◌&&◌, eqb, is_some, Ok, Err, Result, refl, ap, ◌∙◌, ap₂}
use Rattle.protocol.specs.Kinds.{kind_of}
use Rattle.protocol.specs.declared.kinds.Kind.{Kind}
use Rattle.protocol.specs.declared.kinds.Kind.TheVariants as kind
use Rattle.protocol.specs.declared.refusals.Refusal.{Refusal}
use Rattle.protocol.specs.declared.refusals.Refusal.TheVariants.{WrongGate, ZeroTag}
use Rattle.wire.specs.declared.state.Header.TheVariants as header
use Rattle.wire.specs.Keys.{talk_key}
use Rattle.wire.specs.Reading.{maker_in, opener_in, tag_in, number_in, fields_in, header_as, hello_under, reply_under, packet_under, empty_under, with_pair, with_talk, read_by, read_word}
use Rattle.reading.specs.Sealed.{Local}

pub local : Local
unfolding read_word
local own keys keys' talks talks' w ek et = by (kind_of w)
  where
    packet : (b : Bool) → read_by own keys talks w (cond b (Err ZeroTag) (Ok (header.Packet (maker_in w) (tag_in w) (number_in w))))
        ≡ read_by own keys' talks' w (cond b (Err ZeroTag) (Ok (header.Packet (maker_in w) (tag_in w) (number_in w))))
    packet true = refl
    packet false = ap₂ (λ o t. with_pair o (λ pair. with_talk t (λ m. packet_under own (maker_in w) (tag_in w) (number_in w) w (talk_key pair m (tag_in w)) m))) ek et

    empty : (b : Bool) → read_by own keys talks w (cond b (Err ZeroTag) (Ok (header.Empty (maker_in w) (tag_in w) (number_in w))))
        ≡ read_by own keys' talks' w (cond b (Err ZeroTag) (Ok (header.Empty (maker_in w) (tag_in w) (number_in w))))
    empty true = refl
    empty false = ap₂ (λ o t. with_pair o (λ pair. with_talk t (λ m. empty_under own (maker_in w) (tag_in w) (number_in w) w (talk_key pair m (tag_in w)) m))) ek et

    fields : (k : Kind) → read_by own keys talks w (fields_in w k) ≡ read_by own keys' talks' w (fields_in w k)
    fields kind.Hello = ap (λ o. with_pair o (hello_under own (maker_in w) w)) ek
    fields kind.Reply = ap (λ o. with_pair o (reply_under own (maker_in w) w)) ek
    fields kind.Packet = packet (eqb (tag_in w) 0)
    fields kind.Empty = empty (eqb (tag_in w) 0)

    gated : (k : Kind) (b : Bool) → read_by own keys talks w (cond b (fields_in w k) (Err WrongGate)) ≡ read_by own keys' talks' w (cond b (fields_in w k) (Err WrongGate))
    gated k true = fields k
    gated k false = refl

    by : (r : Result Kind Refusal) → read_by own keys talks w (header_as own (λ a. is_some (keys a)) w r) ≡ read_by own keys' talks' w (header_as own (λ a. is_some (keys' a)) w r)
    by (Err e) = refl
    by (Ok k) =
        ap (λ o. read_by own keys talks w (cond (eqb (opener_in w) own && is_some o) (fields_in w k) (Err WrongGate))) ek
        ∙ gated k (eqb (opener_in w) own && is_some (keys' (maker_in w)))
