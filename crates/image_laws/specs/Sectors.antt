-- What is shown of a sector, and which pages share its greatest sequence.
use Rattle.std.specs.Prelude.{◌≡◌, ℕ, ◌≤◌, List, Option, Some, None, get_or}
use Rattle.page_layout.specs.declared.geometry.Geometry.{Geometry}
use Rattle.page_layout.specs.declared.record.Record.{Record}
use Rattle.page_layout.specs.declared.record.Kind.TheVariants as kind
use Rattle.page_layout.specs.declared.record.Key.{Key}
use Rattle.page_layout.specs.Page.{Image, Page, page}
use Rattle.page_layout.specs.Sound.{record_of}
use Rattle.page_layout.specs.Key.{key_of}
use Rattle.page_layout.specs.Newest.{AreTied}
use Rattle.image_check.specs.Sector.{NamesRows, NamesLowest, ShowsSector, HoldsSector, MayShow, MayRead}
use Rattle.image_check.specs.declared.scan.SectorFault.TheVariants.{SequenceRepeated}

-- ONE TIE: the rows that are named where pages of a sector share its greatest sequence are two alone
abbrev pub OneTieLaw : Type 0
OneTieLaw = (image : Image) (n a b c d : ℕ) → NamesRows image n (SequenceRepeated a b) → NamesLowest image n (SequenceRepeated a b)
    → NamesRows image n (SequenceRepeated c d) → NamesLowest image n (SequenceRepeated c d) → (a ≡ c) × (b ≡ d)

-- A TIE IS AT THE TOP: pages of a key that share a sequence are tied only where no sound page of it has a greater one
abbrev pub TopTieLaw : Type 0
TopTieLaw = (marks : List (Option Record)) (key : Key) (a b row : ℕ) (r s : Record) → AreTied marks key a b → get_or marks a None ≡ Some r → get_or marks row None ≡ Some s
    → key_of s ≡ key → s.sequence ≤ r.sequence

-- NO OTHER PAGE IS SHOWN than one of the sector itself, neither a trim nor a page of another sector, a mapping or a table, and it is shown whole
abbrev pub ShownLaw : Type 0
ShownLaw = (n : ℕ) (p : Page) (bytes : List ℕ) (r : Record) → ShowsSector n p bytes → record_of p ≡ Some r
    → (r.kind ≡ kind.Sector) × (r.number ≡ n) × (bytes ≡ p.body)

-- the same of what a program is given to read
abbrev pub HeldLaw : Type 0
HeldLaw = (n : ℕ) (bytes : List ℕ) (h : HoldsSector n bytes) (r : Record) → record_of (page bytes h.spare) ≡ Some r → (r.kind ≡ kind.Sector) × (r.number ≡ n)

-- WHAT MAY BE SHOWN MAY BE READ
abbrev pub ShownReadLaw : Type 0
ShownReadLaw = (g : Geometry) (n : ℕ) (scratch bytes : List ℕ) → MayShow g n scratch bytes → MayRead g n bytes
