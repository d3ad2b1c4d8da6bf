-- The measure of the cycle of calls {whole_root}: the number of bits left.
use Rattle.float.proofs.root.+whole_root.Given as goal

-- proposed from what the function passes where it calls itself
abbrev pub decreases-whole_root : goal.decreases-whole_root
decreases-whole_root l = l.left
