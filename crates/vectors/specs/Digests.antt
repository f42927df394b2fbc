-- Vectors of RFC 6234 for SHA-256 and of RFC 4231 for HMAC-SHA-256, as facts about the definitions.
-- Assumes nothing.
use Rattle.std.specs.Prelude.{◌≡◌, ℕ, List, [], ◌∷◌, ◌++◌, replicate}
use Rattle.digest.specs.Hmac.{hmac}
use Rattle.digest.specs.Sha256.{sha256}

-- RFC 6234, 8.5, 1: the message
abbrev pub abc : List ℕ
abc =
    97 ∷ 98 ∷ 99 ∷ []

-- RFC 6234, 8.5, 1: its SHA-256
abbrev pub abc_sum : List ℕ
abc_sum =
    186 ∷ 120 ∷ 22 ∷ 191 ∷ 143 ∷ 1 ∷ 207 ∷ 234 ∷ 65 ∷ 65 ∷ 64 ∷ 222 ∷ 93 ∷ 174 ∷ 34 ∷ 35 ∷ 176 ∷ 3 ∷ 97 ∷ 163 ∷ 150 ∷ 23 ∷ 122 ∷ 156
    ∷ 180 ∷ 16 ∷ 255 ∷ 97 ∷ 242 ∷ 0 ∷ 21 ∷ 173 ∷ []

-- RFC 6234, 8.5, 2: the message, which takes two blocks
abbrev pub two_blocks : List ℕ
two_blocks =
    97 ∷ 98 ∷ 99 ∷ 100 ∷ 98 ∷ 99 ∷ 100 ∷ 101 ∷ 99 ∷ 100 ∷ 101 ∷ 102 ∷ 100 ∷ 101 ∷ 102 ∷ 103 ∷ 101 ∷ 102 ∷ 103 ∷ 104 ∷ 102 ∷ 103 ∷ 104 ∷ 105
    ∷ 103 ∷ 104 ∷ 105 ∷ 106 ∷ 104 ∷ 105 ∷ 106 ∷ 107 ∷ 105 ∷ 106 ∷ 107 ∷ 108 ∷ 106 ∷ 107 ∷ 108 ∷ 109 ∷ 107 ∷ 108 ∷ 109 ∷ 110 ∷ 108 ∷ 109 ∷ 110 ∷ 111
    ∷ 109 ∷ 110 ∷ 111 ∷ 112 ∷ 110 ∷ 111 ∷ 112 ∷ 113 ∷ []

-- RFC 6234, 8.5, 2: its SHA-256
abbrev pub two_blocks_sum : List ℕ
two_blocks_sum =
    36 ∷ 141 ∷ 106 ∷ 97 ∷ 210 ∷ 6 ∷ 56 ∷ 184 ∷ 229 ∷ 192 ∷ 38 ∷ 147 ∷ 12 ∷ 62 ∷ 96 ∷ 57 ∷ 163 ∷ 60 ∷ 228 ∷ 89 ∷ 100 ∷ 255 ∷ 33 ∷ 103
    ∷ 246 ∷ 236 ∷ 237 ∷ 212 ∷ 25 ∷ 219 ∷ 6 ∷ 193 ∷ []

-- the SHA-256 of the empty message
abbrev pub empty_sum : List ℕ
empty_sum =
    227 ∷ 176 ∷ 196 ∷ 66 ∷ 152 ∷ 252 ∷ 28 ∷ 20 ∷ 154 ∷ 251 ∷ 244 ∷ 200 ∷ 153 ∷ 111 ∷ 185 ∷ 36 ∷ 39 ∷ 174 ∷ 65 ∷ 228 ∷ 100 ∷ 155 ∷ 147 ∷ 76
    ∷ 164 ∷ 149 ∷ 153 ∷ 27 ∷ 120 ∷ 82 ∷ 184 ∷ 85 ∷ []

-- RFC 4231, 4.2: the message
abbrev pub hi_there : List ℕ
hi_there =
    72 ∷ 105 ∷ 32 ∷ 84 ∷ 104 ∷ 101 ∷ 114 ∷ 101 ∷ []

-- RFC 4231, 4.2: its code
abbrev pub hi_there_code : List ℕ
hi_there_code =
    176 ∷ 52 ∷ 76 ∷ 97 ∷ 216 ∷ 219 ∷ 56 ∷ 83 ∷ 92 ∷ 168 ∷ 175 ∷ 206 ∷ 175 ∷ 11 ∷ 241 ∷ 43 ∷ 136 ∷ 29 ∷ 194 ∷ 0 ∷ 201 ∷ 131 ∷ 61 ∷ 167
    ∷ 38 ∷ 233 ∷ 55 ∷ 108 ∷ 46 ∷ 50 ∷ 207 ∷ 247 ∷ []

-- RFC 4231, 4.3: the key
abbrev pub jefe : List ℕ
jefe =
    74 ∷ 101 ∷ 102 ∷ 101 ∷ []

-- RFC 4231, 4.3: the message
abbrev pub question : List ℕ
question =
    119 ∷ 104 ∷ 97 ∷ 116 ∷ 32 ∷ 100 ∷ 111 ∷ 32 ∷ 121 ∷ 97 ∷ 32 ∷ 119 ∷ 97 ∷ 110 ∷ 116 ∷ 32 ∷ 102 ∷ 111 ∷ 114 ∷ 32 ∷ 110 ∷ 111 ∷ 116 ∷ 104
    ∷ 105 ∷ 110 ∷ 103 ∷ 63 ∷ []

-- RFC 4231, 4.3: its code
abbrev pub question_code : List ℕ
question_code =
    91 ∷ 220 ∷ 193 ∷ 70 ∷ 191 ∷ 96 ∷ 117 ∷ 78 ∷ 106 ∷ 4 ∷ 36 ∷ 38 ∷ 8 ∷ 149 ∷ 117 ∷ 199 ∷ 90 ∷ 0 ∷ 63 ∷ 8 ∷ 157 ∷ 39 ∷ 57 ∷ 131
    ∷ 157 ∷ 236 ∷ 88 ∷ 185 ∷ 100 ∷ 236 ∷ 56 ∷ 67 ∷ []

-- The vectors that the fields name.
pub record Sha256Vectors : Type 0 where
  pub empty : sha256 [] ≡ empty_sum
  -- RFC 6234, 8.5
  pub one : sha256 abc ≡ abc_sum
  pub two : sha256 two_blocks ≡ two_blocks_sum
  -- RFC 4231, 4.2 and 4.3
  pub first : hmac (replicate 20 11) hi_there ≡ hi_there_code
  pub second : hmac jefe question ≡ question_code
  -- zeros after a short key change nothing
  pub filled : hmac (replicate 20 11 ++ replicate 12 0) hi_there ≡ hi_there_code
