-- What the word of `repair` says of how many bits of a page may be turned.
use Rattle.std.specs.Prelude.{◌≡◌, ℕ, ◌<◌, ◌≤◌, List, Option, Some, None}
use Rattle.std.specs.Borrow.{Bor}
use Rattle.page_layout.specs.declared.geometry.Geometry.{Geometry}
use Rattle.page_layout.specs.Geometry.{page_bytes}
use Rattle.program_words.specs.Numbers.{number_of}
use Rattle.lab_commands.specs.declared.text.LabFault.{LabFault}
use Rattle.lab_commands.specs.declared.text.LabFault.TheVariants as fault

-- one or two
abbrev pub IsCount : ℕ → Type 0
IsCount bits = (1 ≤ bits) × (bits ≤ 2)

-- the word says one or two, and two of pages of at most 600 bytes alone; without a word it is one
abbrev pub AreBitsAt : Option (Bor (List ℕ)) → Geometry → ℕ → Type 0
AreBitsAt None g bits = bits ≡ 1
AreBitsAt (Some word) g bits = (number_of word.now ≡ Some bits) × IsCount bits × (bits ≡ 2 → page_bytes g ≤ 600)

-- there is a word, and it is no number, or another one, or two where the pages have more bytes
abbrev pub AreNoBits : Option (Bor (List ℕ)) → Geometry → LabFault → Type 0
AreNoBits None g told = ⊥
AreNoBits (Some word) g (fault.BadNumber told) = (told.now ≡ word.now) × (number_of word.now ≡ None)
AreNoBits (Some word) g fault.BitRange = (bits : ℕ) × (number_of word.now ≡ Some bits) × (¬ IsCount bits)
AreNoBits (Some word) g fault.PageSize = (number_of word.now ≡ Some 2) × (600 < page_bytes g)
AreNoBits (Some word) g _ = ⊥
