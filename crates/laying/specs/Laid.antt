-- What laying a plan answers and leaves in the memory handed in.
use Rattle.std.specs.Prelude.{◌≡◌, ◌<◌, ◌≤◌, List, ◌++◌, length, drop}
use Rattle.scene.specs.Cells.{Scene}
use Rattle.plan.specs.declared.records.CopyRecord.{CopyRecord}
use Rattle.plan.specs.declared.records.Edge.{Edge}
use Rattle.forest.specs.Forest.{laid_copies, laid_edges}
use Rattle.laying.specs.declared.laying.LaidCounts.{LaidCounts}
use Rattle.laying.specs.declared.fault.LayFault.{LayFault}
use Rattle.laying.specs.declared.fault.LayFault.TheVariants.{Copies, Edges}

-- the plan of s stands in the memory, which had room for it, and nothing past it changed
pub record Laid (s : Scene) (n : LaidCounts) (copies copies' : List CopyRecord) (edges edges' : List Edge)
    : Type 0 where
  pub copy_count : n.copies ≡ length (laid_copies s)
  pub edge_count : n.edges ≡ length (laid_edges s)
  pub copy_room : length (laid_copies s) ≤ length copies
  pub edge_room : length (laid_edges s) ≤ length edges
  pub copies_laid : copies' ≡ laid_copies s ++ drop n.copies copies
  pub edges_laid : edges' ≡ laid_edges s ++ drop n.edges edges

-- which memory is too short, the copies' looked at first
abbrev pub Short : Scene → List CopyRecord → List Edge → LayFault → Type 0
Short s copies edges (Copies needed) = (needed ≡ length (laid_copies s)) × (length copies < needed)
Short s copies edges (Edges needed) =
    (needed ≡ length (laid_edges s)) × (length (laid_copies s) ≤ length copies) × (length edges < needed)

-- a plan of s is not laid, and the memory is as it was
pub record Unlaid (s : Scene) (f : LayFault) (copies copies' : List CopyRecord) (edges edges' : List Edge)
    : Type 0 where
  pub short : Short s copies edges f
  pub copies_kept : copies' ≡ copies
  pub edges_kept : edges' ≡ edges
