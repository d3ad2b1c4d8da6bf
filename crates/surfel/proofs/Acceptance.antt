-- What a reading that is not refused says of its tables. Assumes nothing.
use mathlib.Core.Bool.{true, ◌&&◌, and-eq-true_iff}
use mathlib.Core.List.{[], ◌∷◌}
use mathlib.Core.Path.{◌≡◌}
use Prim.Native.Nat.{ℕ, ◌*◌, ◌≤◌}
use lib.Dec.{leb}
use lib.ListN.{length}
use Rattle.std.specs.Prelude.{Ok}
use Rattle.std.specs.List.{All}
use native.Mathlib.Omega.{arith}
use Rattle.vector.specs.declared.Vec3.{Vec3}
use borrow.Author.Tests.{leb-true}
use Rattle.accept.specs.Limits.{max_surfels}
use Rattle.accept.specs.Tables.{at_most, holds, column}
use Rattle.accept.proofs.Bounded.{three_each}
use Rattle.accept.proofs.Every.{conj_each}
use Rattle.grid.specs.declared.checks.Own.{Own}
use Rattle.grid.specs.Lent.{Grid}
use Rattle.grid.specs.Checks.{sized, tables_hold, list_fits}
use Rattle.grid.specs.Visiting.{visited}
use Rattle.grid.proofs.Nearby.{accepted, visited_below}
use Rattle.surfel.specs.Checks.{Probes, probes_own, probes_lent, check_all, columns_hold, points_within, check}
use Rattle.surfel.specs.Gathering.{Surfels}
use Rattle.surfel.specs.Needs.{Accepted, Named}

-- each test of a reading that is not refused passed
pub record Answered (g : Grid) (s : Surfels) (own : Own) : Type 0 where
  pub few_passed : own.few ≡ true
  pub ranged_passed : own.ranged ≡ true
  pub columns_passed : columns_hold g.n s ≡ true
  pub lent_passed : own.lent ≡ true
  pub points_passed : points_within g.n s ≡ true
  pub floats_passed : own.floats ≡ true
  pub fits_passed : list_fits g ≡ true

-- as one that is not refused says
pub not_refused : (g : Grid) (s : Surfels) (own : Own) → check g s own ≡ Ok tt → Answered g s own
unfolding check
not_refused g s own e =
    let of-grid : Own = record { few = own.few; ranged = own.ranged; lent = columns_hold g.n s && own.lent; floats = points_within g.n s && own.floats } in
    let t = accepted g of-grid e in
    let counts = (and-eq-true_iff (at_most g.n max_surfels) own.few).0 t.0 in
    let ranges = (and-eq-true_iff (sized g.lo g.hi g.side) own.ranged).0 t.1.0 in
    let lengths = (and-eq-true_iff (tables_hold g) (columns_hold g.n s && own.lent)).0 t.1.1.0 in
    let columns = (and-eq-true_iff (columns_hold g.n s) own.lent).0 lengths.1 in
    let within = (and-eq-true_iff (points_within g.n s) own.floats).0 t.1.1.1.0 in
    record {
      few_passed = counts.1;
      ranged_passed = ranges.1;
      columns_passed = columns.0;
      lent_passed = columns.1;
      points_passed = within.0;
      floats_passed = within.1;
      fits_passed = t.1.1.1.1.0;
    }

-- and so its tables are accepted
pub answered_accepted : (g : Grid) (s : Surfels) (own : Own) → check g s own ≡ Ok tt → Accepted g s
unfolding columns_hold
answered_accepted g s own e =
    let a = not_refused g s own e in
    let h = conj_each (column s.p g.n ∷ column s.normals g.n ∷ column s.irr g.n ∷ []) a.columns_passed in
    record {
      fits = a.fits_passed;
      p_held = three_each (length s.p) g.n h.0;
      normals_held = three_each (length s.normals) g.n h.1.0;
      irr_held = three_each (length s.irr) g.n h.1.1.0;
    }

-- slices that hold the probes have room for what is seen, and for the light
lent_room : (count p normals seen light : ℕ) → probes_lent count p normals seen light ≡ true → (count ≤ seen) × (3 * count ≤ light)
unfolding probes_lent
lent_room count p normals seen light e =
    let h = conj_each (holds p count 3 ∷ holds normals count 3 ∷ leb count seen ∷ holds light count 3 ∷ []) e in
    (leb-true _ _ h.1.1.0, three_each light count h.1.1.1.0)

-- probes that are not refused read tables that are accepted, into slices with room for each
pub all_accepted : (g : Grid) (s : Surfels) (q : Probes) (seen light : ℕ) → check_all g s q seen light ≡ Ok tt
    → Accepted g s × (q.count ≤ seen) × (3 * q.count ≤ light)
all_accepted g s q seen light e =
    let own = probes_own q seen light in
    let room = lent_room q.count (length q.p) (length q.normals) seen light (not_refused g s own e).lent_passed in
    (answered_accepted g s own e, room.0, room.1)

-- whose numbers near a point name surfels
pub visited_named : (g : Grid) (s : Surfels) (p : Vec3) (reach : ℕ) → Accepted g s → All (Named s) (visited g p reach)
visited_named g s p reach a k d h =
    let below = visited_below g p reach a.fits k d h in
    record { p_in = omega (arith, below, a.p_held); normals_in = omega (arith, below, a.normals_held); irr_in = omega (arith, below, a.irr_held) }
