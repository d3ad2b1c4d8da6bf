-- A part of the surfels built by itself, with the same clusters and scene: what a host may rely on that builds parts on several threads, or shows progress. The entry's answers are those
-- of Answers, so this speaks of any calls. Definitions only; proofs/Parted has the theorems.
use Rattle.std.specs.Prelude.{List, ◌≡◌, ℕ, ◌+◌, ◌*◌, ◌≤◌, ◌<◌, Float, take, drop, Ok}
use Rattle.std.proofs.Math.Seq.{slice}
use Rattle.vector.specs.declared.Vec3.{Vec3}
use Rattle.accept.specs.Tables.{number_at}
use Rattle.formfactor.specs.declared.Built.{Built}
use Rattle.formfactor.specs.Lent.{Setting, receiver_at, setting_of}
use Rattle.formfactor.specs.Answers.{build_answer}

-- q has surfels of t, from surfel a on, with the same scene, diagonal and clusters; where its lists have them is free
pub record PartOf (t : Setting) (a : ℕ) (q : Setting) : Type 0 where
  pub same_scene : q.scene ≡ t.scene
  pub same_diag : q.diag ≡ t.diag
  pub same_emitters : q.emitters ≡ t.emitters
  pub receivers : (i : ℕ) → i < q.n → receiver_at q.p q.normals i ≡ receiver_at t.p t.normals (a + i)
  pub inside : a + q.n ≤ t.n

-- m surfels from surfel a on, by slices of exactly their floats
abbrev pub cut_out : Setting → ℕ → ℕ → Setting
cut_out t a m = setting_of t.scene t.diag m (take (3 * m) (drop (3 * a) t.p)) (take (3 * m) (drop (3 * a) t.normals)) t.emitters

-- a call that is not refused: the bounds, the slices as they were lent, and what it told. Of the bounds the rows use the diagonal, which is the setting's
pub record DoneCall (t : Setting) : Type 0 where
  pub lo : Vec3
  pub hi : Vec3
  pub starts : List ℕ
  pub cluster : List ℕ
  pub weight : List Float
  pub link : ℕ
  pub scratch : ℕ
  pub told : Built
  pub done : (build_answer lo hi t starts cluster weight link scratch).0 ≡ Ok told

-- the starts and the links that it left
abbrev pub starts_left : {t : Setting} → DoneCall t → List ℕ
starts_left {t} c = (build_answer c.lo c.hi t c.starts c.cluster c.weight c.link c.scratch).1

abbrev pub clusters_left : {t : Setting} → DoneCall t → List ℕ
clusters_left {t} c = (build_answer c.lo c.hi t c.starts c.cluster c.weight c.link c.scratch).2

abbrev pub weights_left : {t : Setting} → DoneCall t → List Float
weights_left {t} c = (build_answer c.lo c.hi t c.starts c.cluster c.weight c.link c.scratch).3

-- row i of the part is row a + i of the whole: its starts are shifted by start a, and its links are those from start a up to start a + n, n being the part's surfels
pub record RowsOfPart (t : Setting) (a : ℕ) (q : Setting) (whole : DoneCall t) (piece : DoneCall q) : Type 0 where
  pub starts : (i : ℕ) → i ≤ q.n → number_at (starts_left whole) a + number_at (starts_left piece) i ≡ number_at (starts_left whole) (a + i)
  pub clusters : take piece.told.links (clusters_left piece) ≡ slice (number_at (starts_left whole) a) (number_at (starts_left whole) (a + q.n)) (clusters_left whole)
  pub weights : take piece.told.links (weights_left piece) ≡ slice (number_at (starts_left whole) a) (number_at (starts_left whole) (a + q.n)) (weights_left whole)

-- a part built by itself, with so many evaluations: its surfels are those from one cut up to another
pub record Piece (t : Setting) (from to evals : ℕ) : Type 0 where
  pub setting : Setting
  pub of : PartOf t from setting
  pub up_to : from + setting.n ≡ to
  pub call : DoneCall setting
  pub told_evals : call.told.evals ≡ evals
