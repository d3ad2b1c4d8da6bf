-- `clusters::grouping::run_end` meets its contract. The numbers past `at` are read up to the first with another key. Assumes nothing.
use Rattle.std.proofs.Common.{◌≡◌, ◌<◌, arith, rules, tests}
use Rattle.std.proofs.lemmas.Iterator.{YieldsList-from_slice, IsFirst-from_position}
use Rattle.std.proofs.lemmas.Iterator.Adapters.{serves_from_places}
use Rattle.accept.specs.Tables.{number_at}
use Rattle.clusters.specs.Grouping.{surfel_key}
use Rattle.clusters.proofs.Runs.{following_below, run_to}
use Rattle.clusters.proofs.grouping.run_end.Goals as goal

pub position-requires-clause-callable : goal.position-requires-clause-callable
position-requires-clause-callable c =
    let v = c.len-n.ensures.value in
    let r = c.requires.numbers in
    serves_from_places (YieldsList-from_slice _ c.iter.ensures.rest) (λ x q k. search (rules, tests))
    (λ x k h e. let b : x.now < c.args.d.now.surfels.n = following_below _ c.args.at c.args.order.now c.requires.at_lt_n r.held r.below x.now k (rw v at h) (rw v at e) in
    λ _ _ _ _ _ w _. omega (arith, w.ensures, b))

pub returns : goal.returns
returns c =
    let v = c.len-n.ensures.value in
    let s = c.args.d.now.surfels in
    let key = surfel_key s c.args.d.now.voxels in
    let l = c.args.order.now in
    let o = c.surfel_key-c.result in
    let k : o ≡ key (number_at l c.args.at) = rw c.wide.ensures at c.surfel_key-c.ensures in
    let f = IsFirst-from_position _ _ c.position.result (λ i. key i ≡ o → ⊥) (λ i. key i ≡ o) c.position.ensures.ran (YieldsList-from_slice _ c.iter.ensures.rest) (λ x q k. search (rules, tests)) (λ x q k. search (rules, tests)) in
    run_to s.n c.args.at l c.requires.at_lt_n c.requires.numbers.held key c.position.result c.map_or.result (rw (v, k) at f) (rw (← v) (search (rules, tests)))
