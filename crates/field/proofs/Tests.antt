-- One test of `project` in the words of the code: what its calls gave, each with its equation. Assumes nothing.
use Rattle.std.specs.Prelude.{Some, None}
use mathlib.Core.Bool.{Bool, true, false}
use mathlib.Core.Path.{◌≡◌, refl, sym, ◌∙◌}
use Prim.Native.Nat.{ℕ, suc}
use lib.Ieee.{Float, lt, le}
use lib.Ieee.Scale.{finite}
use Rattle.float.specs.Sign.{abs}
use Rattle.float.proofs.Signs.{clash}
use Rattle.vector.specs.declared.Vec3.{Vec3}
use Rattle.vector.specs.Vector.{minus, scaled}
use Rattle.sdf.proofs.Spared.{le_not_lt}
use Rattle.tables.specs.Tables.{Scene}
use Rattle.field.specs.Nearest.{dist}
use Rattle.field.specs.Gradient.{normal}
use Rattle.field.specs.Projection.{confirmed, moved, project_from}

-- what is less is not at least
pub lt_not_le : (x y : Float) → lt x y ≡ true → le y x ≡ false
lt_not_le x y h = by _ refl
  where
    by : (b : Bool) → le y x ≡ b → b ≡ false
    by true g = clash (sym h ∙ le_not_lt y x g)
    by false g = refl

-- the second test repeats the first, so a point that passed the one passes the other
pub confirmed_near : (s : Scene) (eps : Float) (p : Vec3) {d a : Float} → d ≡ dist s p → a ≡ abs d → lt a eps ≡ true → confirmed s eps p ≡ Some p
unfolding confirmed
confirmed_near s eps p ed ea g = rw (← ed, ← ea, lt_not_le _ eps g)

-- `project`: the distance d at p, with n tests left
module _ (s : Scene) (eps diag : Float) (left n : ℕ) (p : Vec3) (d a : Float) (el : n ≡ suc left) (ed : d ≡ dist s p) (ea : a ≡ abs d) where
  pub project_near : lt a eps ≡ true → Some p ≡ project_from s eps diag n p
  unfolding project_from
  project_near g = rw (sym (confirmed_near s eps p ed ea g), el, ← ed, ← ea, g)

  pub project_lost : lt a eps ≡ false → finite d ≡ false → None ≡ project_from s eps diag n p
  unfolding project_from
  project_lost g f = rw (el, ← ed, ← ea, g, f)

  pub project_far : lt a eps ≡ false → finite d ≡ true → lt diag a ≡ true → None ≡ project_from s eps diag n p
  unfolding project_from
  project_far g f b = rw (el, ← ed, ← ea, g, f, b)

  pub project_on : lt a eps ≡ false → finite d ≡ true → lt diag a ≡ false → (q : Vec3) → q ≡ minus p (scaled (normal s p) d)
      → project_from s eps diag n p ≡ project_from s eps diag left q
  unfolding project_from moved
  project_on g f b q e = rw (el, ← ed, ← ea, g, f, b, ← e)

pub project_end : (s : Scene) (eps diag : Float) (p : Vec3) → None ≡ project_from s eps diag 0 p
unfolding project_from
project_end s eps diag p = refl
