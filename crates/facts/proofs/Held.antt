-- Document 01's twelve facts hold: the checker computes the definitions. Assumes nothing.
use mathlib.Core.List.{map}
use mathlib.Core.Path.{◌≡◌, refl}
use lib.Ieee.{add, sub, mul, div, lt, le, is_nan, neg, of_int, of_bits, of_fields, to_bits, round, units, odd, span, climb, size}
use Rattle.float.specs.Order.{greater}
use Rattle.float.specs.Root.{square_root, root_of, whole_root, root_in}
use Rattle.float.specs.Sign.{abs}
use Rattle.vector.specs.Flat.{rows, replaced}
use Rattle.vector.specs.Fold.{fold}
use Rattle.vector.specs.Halton.{radical_inverse, inverse_from}
use Rattle.vector.specs.Vector.{plus, minus, scaled, times, over, absolutes, greatest}
use Rattle.accept.specs.Every.{every}
use Rattle.accept.specs.Ranges.{all_within}
use Rattle.accept.specs.Refusal.{checked}
use Rattle.accept.specs.Tables.{holds, all_below, monotone, ascends, all_ascend, contiguous}
use Rattle.clusters.specs.Keys.{normal_bucket}
use Rattle.transfer.specs.Checks.{counts_within, surfels_hold, clusters_hold, rows_hold, floats_fit, numbers_fit, check}
use Rattle.solve.specs.Answers.{solve_answer}
use Rattle.solve.specs.Bounce.{cluster_light, row_light, new_irr, new_rad, bounce, greatest_step, change}
use Rattle.solve.specs.Runs.{next, stopped, more, run, clusters_after}
use Rattle.facts.specs.Facts.{Question, Answer, answer_to, facts}

-- each question has the answer that stands beside it
pub facts_hold : map (λ (fact : Question × Answer). answer_to fact.0) facts ≡ map (λ (fact : Question × Answer). fact.1) facts
unfolding radical_inverse inverse_from square_root root_of whole_root root_in normal_bucket solve_answer check counts_within surfels_hold clusters_hold rows_hold floats_fit numbers_fit checked every all_within holds all_below monotone ascends all_ascend contiguous run more next stopped change greatest_step new_rad new_irr bounce cluster_light row_light clusters_after rows replaced fold plus minus scaled times over absolutes greatest greater abs add sub mul div lt le is_nan neg of_int of_bits of_fields to_bits round units odd span climb size
facts_hold = refl
