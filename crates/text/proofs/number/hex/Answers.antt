-- `text::hex` meets its contract. The array has eight places, and `spell` fills them all. Assumes nothing.
use mathlib.Core.Path.{◌∙◌}
use mathlib.Core.List.{append-nil}
use Rattle.text.proofs.number.hex.Goals as goal

pub returns : goal.returns
returns c =
    c.spell.ensures ∙ append-nil _
