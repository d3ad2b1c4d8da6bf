-- Items at the front of an array, and zeros after them. Definitions only.
use Rattle.std.specs.Prelude.{ℕ, List, ◌≡◌, ◌≤◌, ◌++◌, ◌-◌, length, take, replicate}

-- the first count of m places hold items, and each place after those is zero, so that the items and m tell all of them
pub record Held (m : ℕ) (places : List ℕ) (count : ℕ) : Type 0 where
  pub fits : count ≤ m
  pub zeros : take count places ++ replicate (m - length (take count places)) 0 ≡ places
  pub counted : length (take count places) ≡ count
