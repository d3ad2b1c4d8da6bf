-- The key of a surfel: document 01, 'The rows' (key (voxel x, y, z, normal bucket)), in the order of the Rust's float steps. Definitions only.
use Rattle.std.specs.Prelude.{cond, ◌&&◌, ℕ, ◌+◌, ◌*◌, Float}
use Rattle.std.specs.Float.{binary32}
use Rattle.std.specs.Float.Ieee.{of_bits, le}
use Rattle.float.specs.Arithmetic.{◌-f◌, ◌*f◌, ◌/f◌, 0f}
use Rattle.float.specs.Cells.{cell}
use Rattle.float.specs.Order.{greater}
use Rattle.float.specs.Sign.{abs}
use Rattle.vector.specs.declared.Vec3.{Vec3}
use Rattle.vector.specs.Halton.{of_whole}
use Rattle.vector.specs.Vector.{vec}
use Rattle.clusters.specs.declared.Voxels.{Voxels}

-- the axis along which n is longest, x before y before z where two are as long, and its sign: 0 and 1 for x, 2 and 3 for y, 4 and 5 for z
unfoldable pub normal_bucket : Vec3 → ℕ
normal_bucket n =
    cond (le (abs n.y) (abs n.x) && le (abs n.z) (abs n.x)) (cond (le 0f n.x) 0 1)
    (cond (le (abs n.z) (abs n.y)) (cond (le 0f n.y) 2 3) (cond (le 0f n.z) 4 5))

-- how many voxels a unit of length takes on an axis from lo to hi: res over the extent, which counts as 0.000001 at least
unfoldable pub per_unit : ℕ → Float → Float → Float
per_unit res lo hi = of_whole res /f greater (hi -f lo) (of_bits binary32 0x3586_37bd)

-- the box from lo to hi, res voxels on each axis
unfoldable pub voxels_of : Vec3 → Vec3 → ℕ → Voxels
voxels_of lo hi res =
    record {
      lo = lo;
      inv = vec (per_unit res lo.x hi.x) (per_unit res lo.y hi.y) (per_unit res lo.z hi.z);
      res = res;
    }

-- how many keys there are: six for each voxel
abbrev pub keys : ℕ → ℕ
keys res = res * res * res * 6

-- the key (x, y, z, bucket) as one number, in whose order x counts first, then y, then z, then the bucket
abbrev pub key_number : ℕ → ℕ → ℕ → ℕ → ℕ → ℕ
key_number res x y z bucket = ((x * res + y) * res + z) * 6 + bucket

-- the key of a surfel at p with the normal n; coordinates clamp into the box
unfoldable pub key_of : Voxels → Vec3 → Vec3 → ℕ
key_of v p n =
    key_number v.res (cell ((p.x -f v.lo.x) *f v.inv.x) v.res) (cell ((p.y -f v.lo.y) *f v.inv.y) v.res)
    (cell ((p.z -f v.lo.z) *f v.inv.z) v.res) (normal_bucket n)
