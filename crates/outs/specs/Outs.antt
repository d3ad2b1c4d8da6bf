-- The C interface: document 01, 'Refused calls'. A vector is three floats, and the numbers of an answer are written through references; what those hold, as a function is called
-- and as it returns, is read here as the struct that the answer has. Definitions only.
use Rattle.std.specs.Prelude.{ℕ, Float, Result, Ok, Err}
use Rattle.accept.specs.Refusal.{number_of}
use Rattle.accept.specs.declared.refusal.Refusal.{Refusal}
use Rattle.vector.specs.declared.Vec3.{Vec3}
use Rattle.vector.specs.Flat.{Moments, Out}
use Rattle.vector.specs.Vector.{vec}
use Rattle.grid.specs.declared.Dims.{Dims}
use Rattle.scene.specs.declared.Closure.{Closure}
use Rattle.field.specs.declared.DistHit.{DistHit}
use Rattle.scene.specs.declared.Hit.{Hit}
use Rattle.scene.specs.declared.Shadow.{Shadow}
use Rattle.solve.specs.declared.SolveStats.{SolveStats}
use Rattle.clusters.specs.declared.Clustered.{Clustered}
use Rattle.formfactor.specs.declared.Built.{Built}

-- what an answer leaves where the outs are those of its struct, from what they held: a refusal its number, else 0 and the answer
abbrev pub left : {A : Type 0} → Result A Refusal → A → ℕ × A
left (Ok a) held = (0, a)
left (Err refusal) held = (number_of refusal, held)

-- what the outs of a ray hold: hit is 1 or 0, at is where the scene was met, evals how many distances were evaluated
pub record TraceOut : Type 0 where
  pub hit : ℕ
  pub at : Hit
  pub evals : ℕ

-- a distance and a material
abbrev pub dist_outs : Out Float → Out ℕ → Moments DistHit
dist_outs d mat =
    record {
      entry = record { d = d.entry.now; mat = mat.entry.now };
      exit = record { d = d.exit.now; mat = mat.exit.now };
    }

-- a vector
abbrev pub vec_outs : Out Float → Out Float → Out Float → Moments Vec3
vec_outs x y z =
    record {
      entry = vec x.entry.now y.entry.now z.entry.now;
      exit = vec x.exit.now y.exit.now z.exit.now;
    }

-- a hit: how far along, the point, the normal and the material
abbrev pub hit_outs : Out Float → Out Float → Out Float → Out Float → Out Float → Out Float → Out Float → Out ℕ → Moments Hit
hit_outs t px py pz nx ny nz mat =
    let p = vec_outs px py pz in
    let n = vec_outs nx ny nz in
    record {
      entry = record { t = t.entry.now; p = p.entry; n = n.entry; mat = mat.entry.now };
      exit = record { t = t.exit.now; p = p.exit; n = n.exit; mat = mat.exit.now };
    }

-- whether something was hit, the hit, and how many distances were evaluated
abbrev pub trace_outs : Out ℕ → Moments Hit → Out ℕ → Moments TraceOut
trace_outs hit h evals =
    record {
      entry = record { hit = hit.entry.now; at = h.entry; evals = evals.entry.now };
      exit = record { hit = hit.exit.now; at = h.exit; evals = evals.exit.now };
    }

-- how much of a light is seen, and how many distances were evaluated
abbrev pub shadow_outs : Out Float → Out ℕ → Moments Shadow
shadow_outs visibility evals =
    record {
      entry = record { visibility = visibility.entry.now; evals = evals.entry.now };
      exit = record { visibility = visibility.exit.now; evals = evals.exit.now };
    }

-- the open part, and how many distances were evaluated
abbrev pub closure_outs : Out Float → Out ℕ → Moments Closure
closure_outs sky evals =
    record {
      entry = record { sky = sky.entry.now; evals = evals.entry.now };
      exit = record { sky = sky.exit.now; evals = evals.exit.now };
    }

-- how many cells a grid has on each axis
abbrev pub dims_outs : Out ℕ → Out ℕ → Out ℕ → Moments Dims
dims_outs x y z =
    record {
      entry = record { x = x.entry.now; y = y.entry.now; z = z.entry.now };
      exit = record { x = x.exit.now; y = y.exit.now; z = z.exit.now };
    }

-- what the outs of a reading hold: seen is 1 or 0, and the light
pub record ReadingOut : Type 0 where
  pub seen : ℕ
  pub light : Vec3

-- whether the light is seen, and the light
abbrev pub reading_outs : Out ℕ → Out Float → Out Float → Out Float → Moments ReadingOut
reading_outs seen x y z =
    let light = vec_outs x y z in
    record {
      entry = record { seen = seen.entry.now; light = light.entry };
      exit = record { seen = seen.exit.now; light = light.exit };
    }

-- how many bounces a solve made, and its last change
abbrev pub stats_outs : Out ℕ → Out Float → Moments SolveStats
stats_outs bounces change =
    record {
      entry = record { bounces = bounces.entry.now; change = change.entry.now };
      exit = record { bounces = bounces.exit.now; change = change.exit.now };
    }

-- how many clusters there are, and how many members they have in all
abbrev pub clustered_outs : Out ℕ → Out ℕ → Moments Clustered
clustered_outs made listed =
    record {
      entry = record { clusters = made.entry.now; members = listed.entry.now };
      exit = record { clusters = made.exit.now; members = listed.exit.now };
    }

-- what was built, and the row that did not fit
pub record BuildOut : Type 0 where
  pub built : Built
  pub row : ℕ

abbrev pub build_outs : Out ℕ → Out Float → Out ℕ → Out ℕ → Moments BuildOut
build_outs links mean evals row =
    record {
      entry = record { built = record { links = links.entry.now; mean_row_sum = mean.entry.now; evals = evals.entry.now }; row = row.entry.now };
      exit = record { built = record { links = links.exit.now; mean_row_sum = mean.exit.now; evals = evals.exit.now }; row = row.exit.now };
    }
