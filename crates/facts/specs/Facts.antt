-- Document 01, 'Twelve facts for proof': each a question, and its answer in document 01's numbers. The questions are asked of the definitions that the contracts cite. Definitions only.
use Rattle.std.specs.Prelude.{false, List, [], ◌∷◌, ℕ, Float, Result, Ok}
use Rattle.std.specs.Float.{binary32}
use Rattle.std.specs.Float.Ieee.{neg, round, of_bits, to_bits}
use Rattle.float.specs.Arithmetic.{0f, 1f}
use Rattle.float.specs.Root.{square_root}
use Rattle.vector.specs.declared.Vec3.{Vec3}
use Rattle.vector.specs.Halton.{of_whole, radical_inverse}
use Rattle.vector.specs.Vector.{vec}
use Rattle.clusters.specs.Keys.{normal_bucket}
use Rattle.transfer.specs.Room.{Room, Light, clusters_of, rows_of, room_of, light_of}
use Rattle.accept.specs.declared.refusal.Refusal.{Refusal}
use Rattle.solve.specs.declared.SolveStats.{SolveStats}
use Rattle.solve.specs.Answers.{solve_answer}

-- the decimal p / q: its nearest f32
abbrev pub decimal : ℕ → ℕ → Float
decimal p q = round binary32 false p q

-- the same float for each channel
abbrev pub grey : Float → List Float
grey x = x ∷ x ∷ x ∷ []

-- room Q of document 01: one surfel of albedo 0.5, area 1 and direct light 1; one cluster of area 1 with member 0; one link of weight 0.5
abbrev pub room_q : Room
room_q =
    room_of 1 (grey (decimal 1 2)) (1f ∷ []) (grey 1f) (clusters_of 1 1 (1f ∷ []) (0 ∷ []) (1 ∷ []) (0 ∷ []))
    (rows_of 1 (0 ∷ 1 ∷ []) (0 ∷ []) (decimal 1 2 ∷ []))

-- its light after a reset: irr is zero, rad the direct light
abbrev pub light_q : Light
light_q = light_of (grey 0f) (grey 1f)

-- what a fact asks
pub data Question : Type 0 where
  -- Halton's point of this number in base 2
  halton : ℕ → Question
  -- the root of a float
  root : Float → Question
  -- the bits of the root of the float with these bits
  root_bits : ℕ → Question
  -- the bucket of a normal
  bucket : Vec3 → Question
  -- what a solve of room Q with this limit answers, called after a reset
  solve_q : ℕ → Question

-- how it is answered: by a float, by its bits, by a number, by a solve's answer
pub data Answer : Type 0 where
  value : Float → Answer
  bits : ℕ → Answer
  number : ℕ → Answer
  solved : Result SolveStats Refusal → Answer

-- the answer that the definitions give
abbrev pub answer_to : Question → Answer
answer_to (halton i) = value (radical_inverse 2 i)
answer_to (root x) = value (square_root x)
answer_to (root_bits b) = bits (to_bits binary32 (square_root (of_bits binary32 b)))
answer_to (bucket n) = number (normal_bucket n)
answer_to (solve_q limit) = solved (solve_answer room_q limit light_q (grey 0f)).0

-- the twelve
abbrev pub facts : List (Question × Answer)
facts =
    (halton 1, value (decimal 5 10))
    ∷ (halton 2, value (decimal 25 100))
    ∷ (halton 3, value (decimal 75 100))
    ∷ (halton 6, value (decimal 375 1000))
    ∷ (root (of_whole 4), value (of_whole 2))
    ∷ (root_bits 0x4000_0000, bits 0x3fb5_04f3)
    ∷ (root_bits 0x0000_0001, bits 0x1a35_04f3)
    ∷ (bucket (vec 1f 1f 1f), number 0)
    ∷ (bucket (vec (neg 1f) 1f 0f), number 1)
    ∷ (bucket (vec 0f 1f 1f), number 2)
    ∷ (bucket (vec 0f 0f (neg 1f)), number 5)
    ∷ (solve_q 3, solved (Ok (record { bounces = 3; change = decimal 15625 1000000 })))
    ∷ []
