use Rattle.std.proofs.Common.{◌≡◌, ◌%◌, ◌^◌, ◌∷◌, [], sym, mod-eq_of_lt, arith}
use Rattle.cipher.specs.ChaCha20.{word_at, start_state}
use Rattle.cipher.proofs.Words.{chunk_read}
use Rattle.cipher.proofs.blocks.ChaCha20.state.Goals as goal

pub returns : goal.returns
unfolding start_state word_at
returns c =
    let key = c.args.self.now.key in
    let nonce = c.args.self.now.nonce in
    let k0 = chunk_read key _ 0 _ c.as_chunks.ensures.front (omega arith) c.from_le_bytes.ensures in
    let k1 = chunk_read key _ 1 _ c.as_chunks.ensures.front (omega arith) c.from_le_bytes-2.ensures in
    let k2 = chunk_read key _ 2 _ c.as_chunks.ensures.front (omega arith) c.from_le_bytes-3.ensures in
    let k3 = chunk_read key _ 3 _ c.as_chunks.ensures.front (omega arith) c.from_le_bytes-4.ensures in
    let k4 = chunk_read key _ 4 _ c.as_chunks.ensures.front (omega arith) c.from_le_bytes-5.ensures in
    let k5 = chunk_read key _ 5 _ c.as_chunks.ensures.front (omega arith) c.from_le_bytes-6.ensures in
    let k6 = chunk_read key _ 6 _ c.as_chunks.ensures.front (omega arith) c.from_le_bytes-7.ensures in
    let k7 = chunk_read key _ 7 _ c.as_chunks.ensures.front (omega arith) c.from_le_bytes-8.ensures in
    let n0 = chunk_read nonce _ 0 _ c.as_chunks-2.ensures.front (omega arith) c.from_le_bytes-9.ensures in
    let n1 = chunk_read nonce _ 1 _ c.as_chunks-2.ensures.front (omega arith) c.from_le_bytes-10.ensures in
    let n2 = chunk_read nonce _ 2 _ c.as_chunks-2.ensures.front (omega arith) c.from_le_bytes-11.ensures in
    let counter : c.args.counter % 2 ^ 32 ≡ c.args.counter = mod-eq_of_lt (omega arith) in
    λ i.
    0x61707865 ∷ 0x3320646e ∷ 0x79622d32 ∷ 0x6b206574
    ∷ k0 i ∷ k1 i ∷ k2 i ∷ k3 i ∷ k4 i ∷ k5 i ∷ k6 i ∷ k7 i ∷ sym counter i ∷ n0 i ∷ n1 i ∷ n2 i ∷ []
