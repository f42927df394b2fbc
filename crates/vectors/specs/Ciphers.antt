-- Vectors of RFC 8439 for ChaCha20, as facts about the definitions.
-- Assumes nothing.
use Rattle.std.specs.Prelude.{◌≡◌, ℕ, List, [], ◌∷◌, replicate}
use Rattle.cipher.specs.ChaCha20.{quarter_round, block, encrypt}

-- the bytes 0 to 31
abbrev pub count_key : List ℕ
count_key =
    0 ∷ 1 ∷ 2 ∷ 3 ∷ 4 ∷ 5 ∷ 6 ∷ 7 ∷ 8 ∷ 9 ∷ 10 ∷ 11 ∷ 12 ∷ 13 ∷ 14 ∷ 15 ∷ 16 ∷ 17 ∷ 18 ∷ 19 ∷ 20 ∷ 21 ∷ 22 ∷ 23
    ∷ 24 ∷ 25 ∷ 26 ∷ 27 ∷ 28 ∷ 29 ∷ 30 ∷ 31 ∷ []

-- 2.3.2: the nonce
abbrev pub block_nonce : List ℕ
block_nonce =
    0 ∷ 0 ∷ 0 ∷ 9 ∷ 0 ∷ 0 ∷ 0 ∷ 74 ∷ 0 ∷ 0 ∷ 0 ∷ 0 ∷ []

-- 2.3.2: the block
abbrev pub block_bytes : List ℕ
block_bytes =
    16 ∷ 241 ∷ 231 ∷ 228 ∷ 209 ∷ 59 ∷ 89 ∷ 21 ∷ 80 ∷ 15 ∷ 221 ∷ 31 ∷ 163 ∷ 32 ∷ 113 ∷ 196 ∷ 199 ∷ 209 ∷ 244 ∷ 199 ∷ 51 ∷ 192 ∷ 104 ∷ 3
    ∷ 4 ∷ 34 ∷ 170 ∷ 154 ∷ 195 ∷ 212 ∷ 108 ∷ 78 ∷ 210 ∷ 130 ∷ 100 ∷ 70 ∷ 7 ∷ 159 ∷ 170 ∷ 9 ∷ 20 ∷ 194 ∷ 215 ∷ 5 ∷ 217 ∷ 139 ∷ 2 ∷ 162
    ∷ 181 ∷ 18 ∷ 156 ∷ 209 ∷ 222 ∷ 22 ∷ 78 ∷ 185 ∷ 203 ∷ 208 ∷ 131 ∷ 232 ∷ 162 ∷ 80 ∷ 60 ∷ 78 ∷ []

-- 2.4.2: the nonce
abbrev pub text_nonce : List ℕ
text_nonce =
    0 ∷ 0 ∷ 0 ∷ 0 ∷ 0 ∷ 0 ∷ 0 ∷ 74 ∷ 0 ∷ 0 ∷ 0 ∷ 0 ∷ []

-- 2.4.2: the text
abbrev pub plain_text : List ℕ
plain_text =
    76 ∷ 97 ∷ 100 ∷ 105 ∷ 101 ∷ 115 ∷ 32 ∷ 97 ∷ 110 ∷ 100 ∷ 32 ∷ 71 ∷ 101 ∷ 110 ∷ 116 ∷ 108 ∷ 101 ∷ 109 ∷ 101 ∷ 110 ∷ 32 ∷ 111 ∷ 102 ∷ 32
    ∷ 116 ∷ 104 ∷ 101 ∷ 32 ∷ 99 ∷ 108 ∷ 97 ∷ 115 ∷ 115 ∷ 32 ∷ 111 ∷ 102 ∷ 32 ∷ 39 ∷ 57 ∷ 57 ∷ 58 ∷ 32 ∷ 73 ∷ 102 ∷ 32 ∷ 73 ∷ 32 ∷ 99
    ∷ 111 ∷ 117 ∷ 108 ∷ 100 ∷ 32 ∷ 111 ∷ 102 ∷ 102 ∷ 101 ∷ 114 ∷ 32 ∷ 121 ∷ 111 ∷ 117 ∷ 32 ∷ 111 ∷ 110 ∷ 108 ∷ 121 ∷ 32 ∷ 111 ∷ 110 ∷ 101 ∷ 32
    ∷ 116 ∷ 105 ∷ 112 ∷ 32 ∷ 102 ∷ 111 ∷ 114 ∷ 32 ∷ 116 ∷ 104 ∷ 101 ∷ 32 ∷ 102 ∷ 117 ∷ 116 ∷ 117 ∷ 114 ∷ 101 ∷ 44 ∷ 32 ∷ 115 ∷ 117 ∷ 110 ∷ 115
    ∷ 99 ∷ 114 ∷ 101 ∷ 101 ∷ 110 ∷ 32 ∷ 119 ∷ 111 ∷ 117 ∷ 108 ∷ 100 ∷ 32 ∷ 98 ∷ 101 ∷ 32 ∷ 105 ∷ 116 ∷ 46 ∷ []

-- 2.4.2: the text as it is encrypted
abbrev pub cipher_text : List ℕ
cipher_text =
    110 ∷ 46 ∷ 53 ∷ 154 ∷ 37 ∷ 104 ∷ 249 ∷ 128 ∷ 65 ∷ 186 ∷ 7 ∷ 40 ∷ 221 ∷ 13 ∷ 105 ∷ 129 ∷ 233 ∷ 126 ∷ 122 ∷ 236 ∷ 29 ∷ 67 ∷ 96 ∷ 194
    ∷ 10 ∷ 39 ∷ 175 ∷ 204 ∷ 253 ∷ 159 ∷ 174 ∷ 11 ∷ 249 ∷ 27 ∷ 101 ∷ 197 ∷ 82 ∷ 71 ∷ 51 ∷ 171 ∷ 143 ∷ 89 ∷ 61 ∷ 171 ∷ 205 ∷ 98 ∷ 179 ∷ 87
    ∷ 22 ∷ 57 ∷ 214 ∷ 36 ∷ 230 ∷ 81 ∷ 82 ∷ 171 ∷ 143 ∷ 83 ∷ 12 ∷ 53 ∷ 159 ∷ 8 ∷ 97 ∷ 216 ∷ 7 ∷ 202 ∷ 13 ∷ 191 ∷ 80 ∷ 13 ∷ 106 ∷ 97
    ∷ 86 ∷ 163 ∷ 142 ∷ 8 ∷ 138 ∷ 34 ∷ 182 ∷ 94 ∷ 82 ∷ 188 ∷ 81 ∷ 77 ∷ 22 ∷ 204 ∷ 248 ∷ 6 ∷ 129 ∷ 140 ∷ 233 ∷ 26 ∷ 183 ∷ 121 ∷ 55 ∷ 54
    ∷ 90 ∷ 249 ∷ 11 ∷ 191 ∷ 116 ∷ 163 ∷ 91 ∷ 230 ∷ 180 ∷ 11 ∷ 142 ∷ 237 ∷ 242 ∷ 120 ∷ 94 ∷ 66 ∷ 135 ∷ 77 ∷ []

-- A.1, 1: the block of a key, a counter and a nonce of zeros
abbrev pub zero_block : List ℕ
zero_block =
    118 ∷ 184 ∷ 224 ∷ 173 ∷ 160 ∷ 241 ∷ 61 ∷ 144 ∷ 64 ∷ 93 ∷ 106 ∷ 229 ∷ 83 ∷ 134 ∷ 189 ∷ 40 ∷ 189 ∷ 210 ∷ 25 ∷ 184 ∷ 160 ∷ 141 ∷ 237 ∷ 26
    ∷ 168 ∷ 54 ∷ 239 ∷ 204 ∷ 139 ∷ 119 ∷ 13 ∷ 199 ∷ 218 ∷ 65 ∷ 89 ∷ 124 ∷ 81 ∷ 87 ∷ 72 ∷ 141 ∷ 119 ∷ 36 ∷ 224 ∷ 63 ∷ 184 ∷ 216 ∷ 74 ∷ 55
    ∷ 106 ∷ 67 ∷ 184 ∷ 244 ∷ 21 ∷ 24 ∷ 161 ∷ 28 ∷ 195 ∷ 135 ∷ 182 ∷ 105 ∷ 178 ∷ 238 ∷ 101 ∷ 134 ∷ []

-- A.1, 3: the key
abbrev pub one_key : List ℕ
one_key =
    0 ∷ 0 ∷ 0 ∷ 0 ∷ 0 ∷ 0 ∷ 0 ∷ 0 ∷ 0 ∷ 0 ∷ 0 ∷ 0 ∷ 0 ∷ 0 ∷ 0 ∷ 0 ∷ 0 ∷ 0 ∷ 0 ∷ 0 ∷ 0 ∷ 0 ∷ 0 ∷ 0
    ∷ 0 ∷ 0 ∷ 0 ∷ 0 ∷ 0 ∷ 0 ∷ 0 ∷ 1 ∷ []

-- A.1, 3: the block
abbrev pub one_block : List ℕ
one_block =
    58 ∷ 235 ∷ 82 ∷ 36 ∷ 236 ∷ 248 ∷ 73 ∷ 146 ∷ 155 ∷ 157 ∷ 130 ∷ 141 ∷ 177 ∷ 206 ∷ 212 ∷ 221 ∷ 131 ∷ 32 ∷ 37 ∷ 232 ∷ 1 ∷ 139 ∷ 129 ∷ 96
    ∷ 184 ∷ 34 ∷ 132 ∷ 243 ∷ 201 ∷ 73 ∷ 170 ∷ 90 ∷ 142 ∷ 202 ∷ 0 ∷ 187 ∷ 180 ∷ 167 ∷ 59 ∷ 218 ∷ 209 ∷ 146 ∷ 181 ∷ 196 ∷ 47 ∷ 115 ∷ 242 ∷ 253
    ∷ 78 ∷ 39 ∷ 54 ∷ 68 ∷ 200 ∷ 179 ∷ 97 ∷ 37 ∷ 166 ∷ 74 ∷ 221 ∷ 235 ∷ 0 ∷ 108 ∷ 19 ∷ 160 ∷ []

-- A.1, 5: the nonce
abbrev pub two_nonce : List ℕ
two_nonce =
    0 ∷ 0 ∷ 0 ∷ 0 ∷ 0 ∷ 0 ∷ 0 ∷ 0 ∷ 0 ∷ 0 ∷ 0 ∷ 2 ∷ []

-- A.1, 5: the block
abbrev pub two_block : List ℕ
two_block =
    194 ∷ 198 ∷ 77 ∷ 55 ∷ 140 ∷ 213 ∷ 54 ∷ 55 ∷ 74 ∷ 226 ∷ 4 ∷ 185 ∷ 239 ∷ 147 ∷ 63 ∷ 205 ∷ 26 ∷ 139 ∷ 34 ∷ 136 ∷ 179 ∷ 223 ∷ 164 ∷ 150
    ∷ 114 ∷ 171 ∷ 118 ∷ 91 ∷ 84 ∷ 238 ∷ 39 ∷ 199 ∷ 138 ∷ 151 ∷ 14 ∷ 14 ∷ 149 ∷ 92 ∷ 20 ∷ 243 ∷ 168 ∷ 142 ∷ 116 ∷ 27 ∷ 151 ∷ 194 ∷ 134 ∷ 247
    ∷ 95 ∷ 143 ∷ 194 ∷ 153 ∷ 232 ∷ 20 ∷ 131 ∷ 98 ∷ 250 ∷ 25 ∷ 138 ∷ 57 ∷ 83 ∷ 27 ∷ 237 ∷ 109 ∷ []

-- The vectors of the sections that the fields name.
pub record ChaCha20Vectors : Type 0 where
  -- 2.1.1: the quarter round of four words
  pub quarter : quarter_round 0 1 2 3 (0x11111111 ∷ 0x01020304 ∷ 0x9b8d6f43 ∷ 0x01234567 ∷ []) ≡ 0xea2a92f4 ∷ 0xcb1cf8ce ∷ 0x4581472e ∷ 0x5881c4bb ∷ []
  -- 2.3.2
  pub published : block count_key 1 block_nonce ≡ block_bytes
  -- 2.4.2
  pub text : encrypt count_key 1 text_nonce plain_text ≡ cipher_text
  -- 2.4: what is encrypted twice is the text
  pub twice : encrypt count_key 1 text_nonce cipher_text ≡ plain_text
  -- A.1, 1, 3 and 5
  pub zeros : block (replicate 32 0) 0 (replicate 12 0) ≡ zero_block
  pub one : block one_key 1 (replicate 12 0) ≡ one_block
  pub two : block (replicate 32 0) 0 two_nonce ≡ two_block
