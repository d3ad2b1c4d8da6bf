-- `lines::Line::with` meets its contract. A text that fits comes after what the line holds. Assumes nothing.
use Rattle.text.proofs.Held.{held_more}
use Rattle.lines.proofs.joining.Line.with.Goals as goal

pub invariant_of-result : goal.invariant_of-result
invariant_of-result c =
    (held_more 64 _ _ _ _ _ c.self.invariant c.self.view_is c.requires c.put.ensures).0

pub returns : goal.returns
returns c =
    (held_more 64 _ _ _ _ _ c.self.invariant c.self.view_is c.requires c.put.ensures).1
