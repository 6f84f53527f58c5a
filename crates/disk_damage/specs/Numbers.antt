-- THE SECTORS OF A LIST, and numbers as text.
use Rattle.std.specs.Prelude.{◌≡◌, ℕ, Bool, false, List, [], ◌∷◌, ◌++◌, codes, decimal, filter, length, replicate}
use Rattle.std.specs.List.{range_with_len}
use Rattle.page_layout.specs.declared.geometry.Geometry.{Geometry}
use Rattle.page_layout.specs.Page.{Image}
use Rattle.lost_sectors.specs.Lost.{Adds, is_listed_in, is_lost, lost_sectors}

-- the sectors that are listed, rising
unfoldable pub listed_sectors : List Bool → List ℕ
listed_sectors lost = filter (is_listed_in lost) (range_with_len 0 (length lost))

-- WHERE NONE WAS LISTED BEFORE they are the lost sectors of the store's pages
abbrev pub ListedLaw : Type 0
ListedLaw = (g : Geometry) (image : Image) (mark : ℕ) (lost : List Bool) → Adds (is_lost g image mark) 0 g.sectors (replicate g.sectors false) lost → listed_sectors lost ≡ lost_sectors g image mark

-- each number between two texts
unfoldable pub between : (front end : List ℕ) → List ℕ → List ℕ
between front end [] = []
between front end (n ∷ ns) = front ++ (decimal n ++ (end ++ between front end ns))

-- how many there are, and each on a line of its own
abbrev pub counted_lines : (head line : List ℕ) → List ℕ → List ℕ
counted_lines head line ns = head ++ (decimal (length ns) ++ (codes "\n" ++ between line (codes "\n") ns))

-- the numbers with a comma between two
abbrev pub with_commas : List ℕ → List ℕ
with_commas [] = []
with_commas (n ∷ ns) = decimal n ++ between (codes ",") [] ns
