-- Bounces one after the other: document 01, 'The solve'. Definitions only.
use Rattle.std.specs.Prelude.{Bool, cond, ◌&&◌, List, ℕ, zero, suc, ◌+◌, eqb, ltb, Float}
use Rattle.std.specs.Float.{binary32}
use Rattle.std.specs.Float.Ieee.{lt, of_bits}
use Rattle.float.specs.Arithmetic.{0f}
use Rattle.vector.specs.Flat.{written}
use Rattle.transfer.specs.Room.{Room, Light}
use Rattle.solve.specs.Bounce.{cluster_light, bounce, change}

-- a run so far: the bounces made, the last change, 0 where there was none, and the light
pub record Run : Type 0 where
  pub bounces : ℕ
  pub last : Float
  pub light : Light

-- no bounce made yet
abbrev pub no_bounce : Light → Run
no_bounce l = record { bounces = 0; last = 0f; light = l }

-- one bounce more
unfoldable pub next : Room → Run → Run
next r q = record { bounces = q.bounces + 1; last = change r q.light.rad; light = bounce r q.light }

-- 0.0001, which the last change has to be under
abbrev pub change_limit : Float
change_limit = of_bits binary32 0x38d1_b717

-- a run stops early: it made a bounce, and its last change is under 0.0001
unfoldable pub stopped : ℕ → Float → Bool
stopped bounces last = ltb 0 bounces && lt last change_limit

-- document 01's 'settled', what a report says of a run
abbrev pub settled : ℕ → Float → Bool
settled bounces last = stopped bounces last

-- at most m bounces more, none once it has stopped
unfoldable pub more : Room → ℕ → Run → Run
more r zero q = q
more r (suc m) q = cond (stopped q.bounces q.last) q (more r m (next r q))

-- a run so far that goes on by at most m bounces; without clusters, by none
abbrev pub onward : Room → ℕ → Run → Run
onward r m q = cond (eqb r.clusters.nc 0) q (more r m q)

-- a run of at most m bounces from the light l
unfoldable pub run : Room → ℕ → Light → Run
run r m l = onward r m (no_bounce l)

-- k bounces from the light l
unfoldable pub bounced : Room → ℕ → Light → Light
bounced r zero l = l
bounced r (suc k) l = bounce r (bounced r k l)

-- what the list s holds after k bounces: the cluster light of the last, or as it was where there was none
unfoldable pub clusters_after : Room → ℕ → Light → List Float → List Float
clusters_after r zero l s = s
clusters_after r (suc k) l s = written (cluster_light r.clusters r.area (bounced r k l).rad) r.clusters.nc s
