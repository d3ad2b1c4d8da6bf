-- What a function beneath `pair_of` answers. No public contract rests on it. Definitions only.
use Rattle.std.specs.Prelude.{cond, Option, Some, None}
use Rattle.clusters.specs.declared.Cluster.{Cluster}
use Rattle.links.specs.declared.Receiver.{Receiver}
use Rattle.links.specs.declared.Facing.{Facing}
use Rattle.links.specs.Pairs.{distance, direction, factor, faces}

-- how a surfel and a cluster face each other, none where they do not
unfoldable pub facing : Receiver → Cluster → Option Facing
facing a c = cond (faces a c) (Some (record { r = distance a c; dir = direction a c; factor = factor a c })) None
