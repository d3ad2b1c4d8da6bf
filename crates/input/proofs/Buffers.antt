-- A buffer of zeros has as many places as it was made with. The number is a variable here, since a long buffer can't be computed place by place. Assumes nothing.
use Rattle.std.proofs.Common.{◌≡◌, ℕ, sym, length}
use lib.ListN.{replicate, length-replicate}

pub length_zeros : (n : ℕ) → n ≡ length {A = ℕ} (replicate n 0)
length_zeros n = sym (length-replicate n 0)
