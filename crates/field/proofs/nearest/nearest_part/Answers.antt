-- `field::nearest::nearest_part` meets its contract. The loop has compared the first j parts; one passed over would have changed nothing. Assumes nothing.
use Rattle.field.proofs.Passed.{best_asked, best_kept}
use Rattle.field.specs.Nearest.{part_hit}
use Rattle.tables.specs.Tables.{prim_of}
use Rattle.vector.proofs.Sums.{fold_more}
use borrow.Author.Rules.{rules}
use mathlib.Core.Bool.{not}
use mathlib.Core.Path.{ap, ◌∙◌}
use Rattle.field.proofs.nearest.nearest_part.Goals as goal

pub loop-j-preserved : goal.loop-j-preserved
loop-j-preserved c =
    let a = c.args in
    let shape = prim_of a.scene.now in
    let b = c.shape_at-base.ensures ∙ ap shape c.wide.ensures in (
      search rules,
      fold_more _ _ _ _ c.loop-j.invariant.1 (ap (part_hit _ _) c.part_at-part.ensures)
          (elim c.if-not-far.branch [ goal.then-not-far w ↦ best_asked _ _ _ _ w.part_hit.ensures w.nearer-best.ensures w.best-is | goal.else-not-far w ↦ best_kept shape a.p c.part_at-part.result c.loop-j.best b c.far.ensures (ap not w.if-not-far.false) w.best-is ]),
    )
