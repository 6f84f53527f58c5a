-- What a record in memory keeps of a die's programs and erases: a note of each, and its pages, one after another.
use Rattle.std.specs.Prelude.{◌≡◌, ℕ, zero, suc, ◌+◌, ◌*◌, ◌≤◌, ◌==◌, List, [], ◌∷◌, length, take, drop, get_or, Option, Some, None, if◌then◌else◌}
use Rattle.page_layout.specs.declared.geometry.Geometry.{Geometry}
use Rattle.page_layout.specs.Geometry.{page_bytes}
use Rattle.page_layout.specs.Page.{Page}
use Rattle.page_layout.specs.Flash.{Operation, Program, Erase, no_page}
use Rattle.page_layout.specs.Recording.{Recording, noted}
use Rattle.onfi_cycles.specs.Cycles.{page_of}
use Rattle.nand_die.specs.declared.tape.Note.{Note}
use Rattle.nand_die.specs.declared.tape.Note.TheVariants as note

-- the first n pages of these bytes
abbrev pub pages_of : Geometry → ℕ → List ℕ → List Page
pages_of g zero bytes = []
pages_of g (suc n) bytes = page_of g (take (page_bytes g) bytes) ∷ pages_of g n (drop (page_bytes g) bytes)

-- how many pages are kept of an operation: of a program the one handed in and what it left, of an erase what it left of the block
abbrev pub width : ℕ → Note → ℕ
width pages (note.Program row passed) = 2
width pages (note.Erase block passed) = pages

abbrev pub width_of : ℕ → List Note → ℕ
width_of pages [] = 0
width_of pages (n ∷ notes) = width pages n + width_of pages notes

-- the operation of a note, whose pages are the first of these
abbrev pub operation_of : ℕ → Note → List Page → Operation
operation_of pages (note.Program row passed) ps = Program row (get_or ps 0 no_page) passed (get_or ps 1 no_page)
operation_of pages (note.Erase block passed) ps = Erase block passed (take pages ps)

abbrev pub log_of_notes : ℕ → List Note → List Page → List Operation
log_of_notes pages [] ps = []
log_of_notes pages (n ∷ notes) ps = operation_of pages n ps ∷ log_of_notes pages notes (drop (width pages n) ps)

-- the log of notes whose pages are these bytes
abbrev pub noted_log : Geometry → List Note → List ℕ → List Operation
noted_log g notes bytes = log_of_notes g.pages notes (pages_of g (width_of g.pages notes) bytes)

-- a record in memory: what it tells, of what die, how many operations it has room for yet, and the page of a program that is to come
pub record TapeValue : Type 0 where
  pub geometry : Geometry
  pub recording : Recording
  pub free : ℕ
  pub kept : List ℕ

-- what is true of its fields: its lists are as long as they say, and there is room for all the operations
pub record IsTape (g : Geometry) (kept : List ℕ) (notes : List Note) (bytes : List ℕ) (notes_len bytes_len room notes_capacity bytes_capacity : ℕ) : Type 0 where
  pub kept_whole : length kept ≡ page_bytes g
  pub notes_counted : notes_len ≡ length notes
  pub bytes_counted : bytes_len ≡ length bytes
  pub bytes_whole : length bytes ≡ width_of g.pages notes * page_bytes g
  pub within : length notes ≤ room
  pub notes_room : room ≤ notes_capacity
  pub bytes_room : room * ((g.pages + 2) * page_bytes g) ≤ bytes_capacity

-- what a die tells by its record, if it has one, and how many operations it has room for
abbrev pub told_by : Option TapeValue → Option Recording
told_by None = None
told_by (Some t) = Some t.recording

abbrev pub tape_room_left : Option TapeValue → ℕ
tape_room_left None = 0
tape_room_left (Some t) = t.free

-- a record after one operation more: past the room it ends
abbrev pub next_record : ℕ → Operation → Option Recording → Option Recording
next_record room op told = if room == 0 then None else noted (op ∷ []) told

-- a record of a die of this geometry
abbrev pub IsTapeOf : Geometry → Option TapeValue → Type 0
IsTapeOf g None = Unit {0}
IsTapeOf g (Some t) = t.geometry ≡ g

-- whose next program is of this page
abbrev pub HasPageToCome : List ℕ → Option TapeValue → Type 0
HasPageToCome page None = Unit {0}
HasPageToCome page (Some t) = t.kept ≡ page
