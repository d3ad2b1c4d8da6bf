-- The surfel at a point of the surface: document 01, 'Placement' (a surfel's albedo is its material's albedo × (1 − metallic); a material number outside the table means albedo 0.8,
-- metallic 0). A material has four floats: albedo, metallic. Definitions only.
use Rattle.std.specs.Prelude.{cond, List, ℕ, ◌+◌, ◌*◌, ltb, Float}
use Rattle.std.specs.Float.{binary32}
use Rattle.std.specs.Float.Ieee.{of_bits}
use Rattle.float.specs.Arithmetic.{◌-f◌, ◌*f◌, ◌/f◌, 0f, 1f}
use Rattle.float.specs.Column.{float_at}
use Rattle.vector.specs.declared.Vec3.{Vec3}
use Rattle.vector.specs.Vector.{vec, scaled, zero_vec}
use Rattle.tables.specs.Tables.{Scene}
use Rattle.field.specs.Nearest.{dist_mat}
use Rattle.field.specs.Gradient.{normal}
use Rattle.seeds.specs.declared.Material.{Material}
use Rattle.seeds.specs.declared.Spacing.{Spacing}
use Rattle.seeds.specs.declared.Surfel.{Surfel}

-- what is not in the table: albedo 0.8, metallic 0
abbrev pub plain : Material
plain =
    let grey = of_bits binary32 0x3f4c_cccd in
    record { albedo = vec grey grey grey; metallic = 0f }

-- material number k of so many: its floats stand from place 4 k on
unfoldable pub material_at : ℕ → List Float → ℕ → Material
material_at mats l k =
    cond (ltb k mats)
    (record { albedo = vec (float_at l (4 * k)) (float_at l (4 * k + 1)) (float_at l (4 * k + 2)); metallic = float_at l (4 * k + 3) })
    plain

-- albedo × (1 - metallic)
unfoldable pub diffuse_albedo : Material → Vec3
diffuse_albedo m = scaled m.albedo (1f -f m.metallic)

-- least distance × least distance / 0.65
unfoldable pub area_of : Spacing → Float
area_of s = s.d_min *f s.d_min /f of_bits binary32 0x3f26_6666

-- the surfel at p: the normal there, the albedo of what is nearest, and no light yet
unfoldable pub surfel_at : Scene → ℕ → List Float → Spacing → Vec3 → Surfel
surfel_at scene mats materials s p =
    record {
      p = p;
      n = normal scene p;
      albedo = diffuse_albedo (material_at mats materials (dist_mat scene p).mat);
      area = area_of s;
      direct = zero_vec;
      irr = zero_vec;
      rad = zero_vec;
    }
