-- Document 01, 'Refused calls': the limits of 1, 2, 3 and 5. A float is given by its bits, the one nearest the decimal. Definitions only.
use Rattle.std.specs.Prelude.{List, [], ◌∷◌, ℕ, Float}
use Rattle.std.specs.Float.{binary32}
use Rattle.std.specs.Float.Ieee.{of_bits}

-- surfels, members, points or target: 400,000
abbrev pub max_surfels : ℕ
max_surfels = 400000

-- clusters: 65,536
abbrev pub max_clusters : ℕ
max_clusters = 65536

-- primitives, planes, objects or materials: 256
abbrev pub max_entries : ℕ
max_entries = 256

-- bounces: 4,096
abbrev pub max_bounces : ℕ
max_bounces = 4096

-- links: 16,777,216
abbrev pub max_links : ℕ
max_links = 16777216

-- cluster resolution: 1 to 64
abbrev pub min_resolution : ℕ
min_resolution = 1

abbrev pub max_resolution : ℕ
max_resolution = 64

-- reach: 0 to 511
abbrev pub max_reach : ℕ
max_reach = 511

-- bytes of a room file: 64 to 268,435,456, in `roomlight` to 65,536
abbrev pub min_file : ℕ
min_file = 64

abbrev pub max_file : ℕ
max_file = 268435456

abbrev pub max_program_file : ℕ
max_program_file = 65536

-- coordinates, normals, plane heights and bounds, either way from zero: 10,000
abbrev pub max_coordinate : Float
max_coordinate = of_bits binary32 0x461c_4000

-- primitive radii and box half-sizes: 10,000
abbrev pub max_length : Float
max_length = of_bits binary32 0x461c_4000

-- albedo and metallic: 1
abbrev pub max_albedo : Float
max_albedo = of_bits binary32 0x3f80_0000

-- surfel area, direct and cluster radius: 1,000,000
abbrev pub max_amount : Float
max_amount = of_bits binary32 0x4974_2400

-- cluster area: 1e12
abbrev pub max_cluster_area : Float
max_cluster_area = of_bits binary32 0x5368_d4a5

-- weight: 2
abbrev pub max_weight : Float
max_weight = of_bits binary32 0x4000_0000

-- cell: 0.0001 to 10,000
abbrev pub min_cell : Float
min_cell = of_bits binary32 0x38d1_b717

abbrev pub max_cell : Float
max_cell = of_bits binary32 0x461c_4000

-- radius of a reading: 10,000
abbrev pub max_radius : Float
max_radius = of_bits binary32 0x461c_4000

-- the limits of counts, and of floats, in the order in which they stand here
abbrev pub count_limits : List ℕ
count_limits =
    max_surfels
    ∷ max_clusters
    ∷ max_entries
    ∷ max_bounces
    ∷ max_links
    ∷ min_resolution
    ∷ max_resolution
    ∷ max_reach
    ∷ min_file
    ∷ max_file
    ∷ max_program_file
    ∷ []

abbrev pub float_limits : List Float
float_limits =
    max_coordinate ∷ max_length ∷ max_albedo ∷ max_amount ∷ max_cluster_area ∷ max_weight ∷ min_cell ∷ max_cell ∷ max_radius ∷ []
