-- `solve::bouncing::Bouncing::update_rad` meets its contract. The loop has stored the rad of the first i surfels, and has the greatest step of it. Assumes nothing.
use mathlib.Core.Path.{◌≡◌, refl}
use Prim.Native.Nat.{◌<◌}
use borrow.Author.Rules.{rules}
use Rattle.vector.specs.Flat.{vec_at}
use Rattle.vector.proofs.Replaced.{written_none, written_put, at_next}
use Rattle.solve.specs.Bounce.{rad_of}
use Rattle.solve.proofs.Chunked.{read_at}
use Rattle.solve.proofs.Lighted.{steps_none, steps_more}
use Rattle.solve.proofs.bouncing.Bouncing.update_rad.Goals as goal

pub loop-i-init : goal.loop-i-init
loop-i-init c = (written_none _ _, steps_none _ _ refl)

pub loop-i-preserved : goal.loop-i-preserved
loop-i-preserved c =
    let r = c.args.self.now.room.now in
    let held = c.args.self.now.held in
    let i = c.loop-i.i in
    let few : i < r.n = search rules in
    let direct : c.from-in-loop-i.result ≡ vec_at r.direct i = read_at r.direct (rw (← c.room.view_is) c.as_chunks-2.ensures.front) held.directs few c.from-in-loop-i.ensures in
    let albedo : c.from.result ≡ vec_at r.albedo i = read_at r.albedo (rw (← c.room.view_is) c.as_chunks-3.ensures.front) held.albedos few c.from.ensures in
    let arriving : c.from-arriving.result ≡ vec_at c.args.irr.now i = read_at c.args.irr.now c.as_chunks.ensures.front c.requires.irr_held few c.from-arriving.ensures in
    let new : c.plus-new.result ≡ rad_of r.direct r.albedo i (vec_at c.args.irr.now i) = rw (c.plus-new.ensures, c.times-reflected.ensures, direct, albedo, arriving) in (
      written_put _ i _ c.loop-i.invariant.0 (search rules) new c.put.ensures,
      steps_more _ _ i c.loop-i.invariant.1 (at_next _ i _ c.loop-i.invariant.0 c.at.ensures) new c.step.ensures c.max-change.ensures,
    )
