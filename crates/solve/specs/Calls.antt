-- Solves as the continuation law speaks of them: document 01, 'The solve', and demand 3. A call is all that the entry can be handed, as lent, with the fields of the surfels that it
-- is not handed; what it does is `solve_answer`, which the entry's contract equates with the code. Definitions only.
use Rattle.std.specs.Prelude.{List, ℕ, ◌+◌, ◌*◌, Float, take, Result}
use Rattle.accept.specs.declared.refusal.Refusal.{Refusal}
use Rattle.solve.specs.declared.SolveStats.{SolveStats}
use Rattle.transfer.specs.Room.{Clusters, Rows, Room, Light}
use Rattle.solve.specs.Answers.{solve_answer}

-- every field of the surfels, a column each
pub record Surfels : Type 0 where
  pub p : List Float
  pub normals : List Float
  pub albedo : List Float
  pub area : List Float
  pub direct : List Float
  pub irr : List Float
  pub rad : List Float

-- a room with its light: what a solve reads and what it writes, and the surfels' points and normals, which no solve is handed
pub record LitRoom : Type 0 where
  pub p : List Float
  pub normals : List Float
  pub room : Room
  pub light : Light

-- its surfels
abbrev pub surfels : LitRoom → Surfels
surfels g =
    record {
      p = g.p;
      normals = g.normals;
      albedo = g.room.albedo;
      area = g.room.area;
      direct = g.room.direct;
      irr = g.light.irr;
      rad = g.light.rad;
    }

-- the room with other light, and all else as it is
abbrev pub with_light : LitRoom → Light → LitRoom
with_light g l = record { p = g.p; normals = g.normals; room = g.room; light = l }

-- a call of the entry: the room and its light as lent, the limit, and the scratch as lent
pub record Call : Type 0 where
  pub handed : LitRoom
  pub limit : ℕ
  pub scratch : List Float

-- what it answers, the light that it leaves, and the scratch
abbrev pub outcome : Call → Result SolveStats Refusal × Light × List Float
outcome c = solve_answer c.handed.room c.limit c.handed.light c.scratch

-- the room as it leaves it: the entry can write no other list
abbrev pub left : Call → LitRoom
left c = with_light c.handed (outcome c).1

-- lists cut to their need: nc clusters and their members, n + 1 starts and the links, n surfels
abbrev pub cut_clusters : Clusters → Clusters
cut_clusters cs =
    record {
      nc = cs.nc;
      members = cs.members;
      area = take cs.nc cs.area;
      first = take cs.nc cs.first;
      count = take cs.nc cs.count;
      member = take cs.members cs.member;
    }

abbrev pub cut_rows : ℕ → Rows → Rows
cut_rows n rs =
    record { links = rs.links; starts = take (n + 1) rs.starts; cluster = take rs.links rs.cluster; weight = take rs.links rs.weight }

abbrev pub cut_room : Room → Room
cut_room r =
    record {
      n = r.n;
      albedo = take (3 * r.n) r.albedo;
      area = take r.n r.area;
      direct = take (3 * r.n) r.direct;
      clusters = cut_clusters r.clusters;
      rows = cut_rows r.n r.rows;
    }

abbrev pub cut_light : ℕ → Light → Light
cut_light n l = record { irr = take (3 * n) l.irr; rad = take (3 * n) l.rad }

-- a room cut to its need: what it holds past it is no part of the room
abbrev pub cut : LitRoom → LitRoom
cut g =
    record {
      p = take (3 * g.room.n) g.p;
      normals = take (3 * g.room.n) g.normals;
      room = cut_room g.room;
      light = cut_light g.room.n g.light;
    }
