-- `placement::chaining::Kept::free` meets its contract. The cells that the loops have passed have no point that is too close; the one at which they break has. Assumes nothing.
use mathlib.Core.Bool.{true}
use mathlib.Core.Path.{◌≡◌}
use Rattle.vector.specs.Flat.{vec_at}
use Rattle.placement.proofs.Crowded.{Layers, Rows, Row}
use Rattle.placement.proofs.chaining.Kept.free.Given as goal

abbrev pub invariant-loop-x : goal.invariant-loop-x
invariant-loop-x l = (l.alone ≡ true) × Layers l.self.s l.at (vec_at l.self.p.now) l.self.count l.z × Rows l.self.s l.at (vec_at l.self.p.now) l.self.count l.z l.y × Row l.self.s l.at (vec_at l.self.p.now) l.self.count l.z l.y l.x

abbrev pub invariant-loop-y : goal.invariant-loop-y
invariant-loop-y l = (l.alone ≡ true) × Layers l.self.s l.at (vec_at l.self.p.now) l.self.count l.z × Rows l.self.s l.at (vec_at l.self.p.now) l.self.count l.z l.y

abbrev pub invariant-search : goal.invariant-search
invariant-search l = (l.alone ≡ true) × Layers l.self.s l.at (vec_at l.self.p.now) l.self.count l.z
