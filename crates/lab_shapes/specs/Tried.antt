-- Which arrangements are tried where no geometry fits a dump as it stands.
use Rattle.std.specs.Prelude.{◌≡◌, ◌⊎◌, ◌↔◌, ℕ, ◌-◌, ◌/◌, ◌%◌, ◌<◌, ◌==◌, nat_lt, if◌then◌else◌, false, List, [], ◌∷◌, get_or, Option, Some, None}
use Rattle.std.specs.List.{Contains}
use Rattle.lab_arrange.specs.declared.arrangement.Arrangement.{Arrangement}
use Rattle.lab_arrange.specs.declared.arrangement.Spares.{Spares}
use Rattle.lab_arrange.specs.declared.arrangement.Spares.TheVariants.{Block, Die}
use Rattle.lab_shapes.specs.declared.tried.Way.{Way}
use Rattle.lab_shapes.specs.declared.tried.Way.TheVariants.{Cut, Order}

-- how many bytes a header may have that is tried, or a tail: a power of two from 16 to 65536
abbrev pub around_sizes : List ℕ
around_sizes = 16 ∷ 32 ∷ 64 ∷ 128 ∷ 256 ∷ 512 ∷ 1024 ∷ 2048 ∷ 4096 ∷ 8192 ∷ 16384 ∷ 32768 ∷ 65536 ∷ []

-- nothing stands around the pages, or a header, or a tail
abbrev pub IsAround : (header tail : Option ℕ) → Type 0
IsAround None None = Unit {0}
IsAround (Some n) None = Contains around_sizes n
IsAround None (Some n) = Contains around_sizes n
IsAround (Some n) (Some m) = ⊥

-- AN ORDER OF THE BYTES IS TRIED where nothing was cut off, and at most a header or a tail stands around the pages: each of them.
pub record IsUncut (a : Arrangement) : Type 0 where
  pub around : IsAround a.header a.tail
  pub whole : a.cut ≡ None

-- in order, with so many bytes cut off
abbrev pub cut_by : ℕ → Arrangement
cut_by n = record { header = None; tail = None; cut = Some n; spares = None; spare_first = false; swapped = false; inverted = false; planes = false }

-- in order, with some bytes cut off, fewer than the largest block has, of 256 pages of 4352 bytes
abbrev pub HasBytesCutOff : Arrangement → Type 0
HasBytesCutOff a = (n : ℕ) × (0 < n) × (n < 1114112) × (a ≡ cut_by n)

-- AN ARRANGEMENT IS TRIED: each order of the bytes with nothing cut off, and pages in order with some bytes cut off.
abbrev pub IsTried : Arrangement → Type 0
IsTried a = IsUncut a ⊎ HasBytesCutOff a

-- ---- one way after another

-- an arrangement is of a way of trying: it is that order, or in order with some bytes cut off
abbrev pub IsOfWay : Way → Arrangement → Type 0
IsOfWay (Order b) a = a ≡ b
IsOfWay Cut a = HasBytesCutOff a

-- the way is one that is tried
abbrev pub IsTriedWay : Way → Type 0
IsTriedWay (Order a) = IsUncut a
IsTriedWay Cut = Unit {0}

-- ---- their numbers

abbrev pub around_of : ℕ → Option ℕ × Option ℕ
around_of n = if n == 0 then (None, None) else (if nat_lt n 14 then (Some (get_or around_sizes (n - 1) 0), None) else (None, Some (get_or around_sizes (n - 14) 0)))

abbrev pub spares_of : ℕ → Option Spares
spares_of n = if n == 1 then Some Block else (if n == 2 then Some Die else None)

-- the order of a number
-- Law: those of the numbers below 1296 are just those that are tried (`TriedLaw`).
unfoldable pub numbered : ℕ → Arrangement
numbered n = record {
  header = (around_of (n / 48)).0;
  tail = (around_of (n / 48)).1;
  cut = None;
  spares = spares_of (n % 3);
  spare_first = n / 3 % 2 == 1;
  swapped = n / 6 % 2 == 1;
  inverted = n / 12 % 2 == 1;
  planes = n / 24 % 2 == 1;
}

-- the way of a number: the orders come first
abbrev pub way_numbered : ℕ → Way
way_numbered n = if nat_lt n 1296 then Order (numbered n) else Cut

abbrev pub TriedLaw : Type 0
TriedLaw = (a : Arrangement) → IsUncut a ↔ ((n : ℕ) × (n < 1296) × (numbered n ≡ a))
