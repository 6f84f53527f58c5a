-- The lines of the reports, in words.
use Rattle.std.specs.Prelude.{ℕ, zero, suc, ◌/◌, ◌==◌, ◌&&◌, not, if◌then◌else◌, Bool, true, false, List, [], ◌++◌, codes, Option, Some, None, option_map}
use Rattle.std.specs.Fmt.{decimal}
use Rattle.std.specs.Option.{is_none}
use Rattle.certificate.specs.declared.block_state.BlockState.{BlockState}
use Rattle.lab_dump.specs.declared.held.KeyState.{KeyState}
use Rattle.lab_dump.specs.declared.held.KeyState.TheVariants as state
use Rattle.lab_dump.specs.declared.held.SectorShown.{SectorShown}
use Rattle.lab_dump.specs.declared.held.SectorShown.TheVariants as shown
use Rattle.lab_dump.specs.declared.fit.Fit.{Fit}
use Rattle.lab_dump.specs.declared.fit.TableSays.{TableSays}
use Rattle.lab_dump.specs.declared.fit.TableSays.TheVariants.{Agrees, Short, Silent, Differs}
use Rattle.lab_dump.specs.declared.doubts.Doubts.{Doubts}
use Rattle.lab_dump.specs.declared.rows.Rows.{Rows}
use Rattle.lab_dump.specs.declared.history.SectorPage.{SectorPage}
use Rattle.lab_dump.specs.declared.history.Wrote.{Wrote}
use Rattle.lab_dump.specs.declared.history.Wrote.TheVariants as wrote
use Rattle.page_layout.specs.declared.geometry.Geometry.{Geometry}
use Rattle.page_layout.specs.declared.record.Record.{Record}
use Rattle.page_layout.specs.declared.record.Kind.{Kind}
use Rattle.page_layout.specs.declared.record.Kind.TheVariants as kind
use Rattle.lab_dump.specs.declared.said.SaidPage.{SaidPage}
use Rattle.lab_dump.specs.Doubts.{most_older}
use Rattle.lab_correct.specs.declared.found.FoundFit.{FoundFit}
use Rattle.lab_shapes.specs.declared.find.ArrangedFit.{ArrangedFit}
use Rattle.lab_shapes.specs.Words.{arrangement_words}
use Rattle.lab_mend.specs.declared.mending.Made.{Made}
use Rattle.lab_mend.specs.declared.mending.Made.TheVariants as made
use Rattle.lab_mend.specs.declared.merging.RowTally.{RowTally}
use Rattle.lab_mend.specs.declared.pairs.BitTurn.{BitTurn}
use Rattle.lab_mend.specs.declared.pairs.BitTurn.TheVariants as turn
use Rattle.lab_mend.specs.declared.trial.Trial.{Trial}
use Rattle.lab_mend.specs.declared.trial.Trial.TheVariants as trial
use Rattle.lab_commands.specs.declared.lines.Label.{Label}
use Rattle.lab_commands.specs.declared.lines.Label.TheVariants as label
use Rattle.lab_commands.specs.declared.lines.Sort.{Sort}
use Rattle.lab_commands.specs.declared.lines.Sort.TheVariants as sort
use Rattle.lab_commands.specs.declared.lines.Line.{Line}
use Rattle.lab_commands.specs.declared.lines.Line.TheVariants.{Pages, NumberRange, Repeated, NotFormatted, TableDamaged, LastSequence, Tied, Missing, Block, PlainBlock, Lost}
use Rattle.lab_commands.specs.declared.lines.Line.TheVariants.{OfRows, Factory, Rewritten, Holes, Outside, Mended, MendedCount, Differ, Unsound, Merged, Age, AgeOfRows}
use Rattle.lab_commands.specs.declared.lines.Line.TheVariants.{LostRow, Corrected, Arranged}
use Rattle.lab_commands.specs.declared.lines.Line.TheVariants as line

-- ---- words

abbrev pub label_words : Label → List ℕ
label_words label.Sector = codes "sector"
label_words label.Translation = codes "translation"
label_words label.Table = codes "table"

abbrev pub sort_words : Sort → List ℕ
sort_words sort.Data = codes "data"
sort_words sort.Trim = codes "trim"
sort_words sort.Translation = codes "translation"
sort_words sort.Table = codes "table"
sort_words sort.Erased = codes "erased"
sort_words sort.Unsound = codes "unsound"

abbrev pub class_words : ℕ → List ℕ
class_words c =
    if c == 0 then codes "free" else (if c == 1 then codes "data" else (if c == 2 then codes "mapping" else (
    if c == 3 then codes "closed" else (if c == 4 then codes "factory" else codes "grown"))))

-- what the table of blocks says of the number of blocks
abbrev pub says_words : TableSays → List ℕ
says_words Agrees = codes "agrees"
says_words Short = codes "short"
says_words Silent = codes "silent"
says_words Differs = codes "differs"

-- what a mended page is: a sound one, or an erased one
abbrev pub made_words : Made → List ℕ
made_words made.Sound = codes "mended"
made_words made.Erased = codes "erased"

-- what came of the page of a row that was to be mended
abbrev pub turn_words : ℕ → BitTurn → List ℕ
turn_words row (turn.One t) = made_words t.made ++ (codes " row " ++ (decimal row ++ (codes " bit " ++ decimal t.bit)))
turn_words row (turn.Two b) = codes "mended row " ++ (decimal row ++ (codes " bits " ++ (decimal b.low ++ (codes " " ++ decimal b.high))))
turn_words row turn.Tied = codes "tied row " ++ decimal row
turn_words row turn.Nothing = codes "tried row " ++ decimal row

-- ---- parts of lines

-- the five numbers of a geometry, as the words of a command write them
abbrev pub five_numbers_words : Fit → List ℕ
five_numbers_words f =
    decimal f.data_bytes ++ (codes "," ++ (decimal f.spare_bytes ++ (codes "," ++ (decimal f.pages ++ (codes "," ++ (decimal f.blocks ++ (codes "," ++ decimal f.sectors)))))))

-- the sound pages of those that were looked at, and those neither sound nor erased
abbrev pub looked_words : Fit → List ℕ
looked_words f = codes " looked " ++ (decimal f.looked ++ (codes " sound " ++ (decimal f.sound.0 ++ (codes " unsound " ++ decimal f.unsound))))

-- what the table of blocks says, and the sectors that all pages tell of
abbrev pub told_words : Fit → List ℕ
told_words f = codes " table " ++ (says_words f.table ++ (codes " blocks " ++ (decimal f.blocks_told ++ (codes " sectors " ++ decimal f.sectors_told))))

-- both behind the number of those that were looked at
abbrev pub counted_words : Fit → List ℕ
counted_words f = decimal f.looked ++ (codes " sound " ++ (decimal f.sound.0 ++ (codes " unsound " ++ (decimal f.unsound ++ told_words f))))

-- a geometry that fits, with all that is told of it
abbrev pub fit_words : Fit → List ℕ
fit_words f = codes "geometry " ++ (five_numbers_words f ++ (looked_words f ++ told_words f))

-- what comes first where the pages stand with their codes: the command that makes the dump without them, of this geometry
abbrev pub first_words : Fit → List ℕ
first_words f = codes " codes hamming: first nandlab correct " ++ (five_numbers_words f ++ codes " DUMP OUT")

-- a geometry that fits, as the dump stands or with codes
abbrev pub found_words : FoundFit → List ℕ
found_words found = if found.coded then fit_words found.fit ++ first_words found.fit else fit_words found.fit

-- what comes first where the dump stands in another arrangement: the command that puts it in order, of this geometry, but for the words
abbrev pub arrange_words : Fit → List ℕ
arrange_words f = codes " arranged: first nandlab arrange " ++ (five_numbers_words f ++ codes " DUMP OUT --from ")

-- a geometry that fits in another arrangement, and its words
abbrev pub arranged_fit_words : ArrangedFit → List ℕ
arranged_fit_words found = fit_words found.fit ++ (arrange_words found.fit ++ arrangement_words found.arrangement)

-- a block, its state, and its pages that are neither erased nor sound
abbrev pub block_words : ℕ → BlockState → ℕ → List ℕ
block_words block s unsound =
    codes "block " ++ (decimal block ++ (codes " class " ++ (class_words s.class ++ (codes " pointer " ++ (decimal s.pointer ++ (codes " live " ++ (
    decimal s.live ++ (codes " wear " ++ (decimal s.wear ++ (codes " unsound " ++ decimal unsound))))))))))

-- how many rows of a merge there are of each kind
abbrev pub tally_words : ℕ → RowTally → List ℕ
tally_words differ t =
    codes "sound " ++ (decimal t.sound ++ (codes " differ " ++ (decimal differ ++ (codes " majority " ++ (decimal t.majority ++ (
    codes " turned " ++ (decimal t.turned ++ (codes " erased " ++ (decimal t.erased ++ (codes " unsound " ++ decimal t.unsound))))))))))

-- a row of which so many of the bits are turned in which its readings differ
abbrev pub turned_words : List ℕ → (row turned differing : ℕ) → List ℕ
turned_words words row turned differing = words ++ (decimal row ++ (codes " bits " ++ (decimal turned ++ (codes " of " ++ decimal differing))))

-- what came of the pages that were tried of a row
abbrev pub trial_words : ℕ → Trial → List ℕ
trial_words row (trial.Taken n d) = turned_words (codes "turned row ") row n d
trial_words row (trial.Tied n d) = turned_words (codes "tied row ") row n d
trial_words row (trial.Nothing d) = codes "tried row " ++ (decimal row ++ (codes " bits " ++ decimal d))

-- how many pages were tried at most, and how often a wrong one is taken by chance: as often of 2 ^ 64 times, since a seal has 8 bytes or more
abbrev pub tries_words : ℕ → List ℕ
tries_words n =
    codes "tries " ++ (decimal n ++ (codes ": by a seal of 8 bytes a wrong page is taken by chance in at most " ++ (decimal n ++ codes " of 18446744073709551616 cases")))

-- how many bits of a chip's dump were turned back, in how many rows, and how many rows have lost chunks
abbrev pub corrected_words : ℕ → ℕ → ℕ → List ℕ
corrected_words bits rows lost = codes "turned " ++ (decimal bits ++ (codes " rows " ++ (decimal rows ++ (codes " lost " ++ decimal lost))))

-- how far the array may be from the last write: it is that of every page, or lacks sectors, or so many may be older
abbrev pub whole_words : ℕ → List ℕ
whole_words outside =
    if outside == 0 then codes ": the array is that of every page that was programmed"
    else codes ": of these sectors the array is that of every page that was programmed"

abbrev pub claim_words : Doubts → List ℕ
claim_words d =
    if most_older d == 0
    then whole_words d.outside
    else (codes ": at most " ++ (decimal (most_older d) ++ codes " sectors may be older than the last write"))

-- what it rests on besides, where there are pages of blocks that were written again
abbrev pub moved_words : ℕ → List ℕ
moved_words n = if n == 0 then [] else codes ", nor a newest one in a rewritten block"

-- the same behind how many pages are neither erased nor sound, and before what it rests on
abbrev pub age_words : Doubts → List ℕ
age_words d = codes "unsound " ++ (decimal d.unsound ++ (claim_words d ++ (codes ", if no page was lost behind the last one of its block" ++ moved_words d.rewritten)))

-- what an array as of a sequence is
abbrev pub until_words : ℕ → ℕ → List ℕ
until_words last unsound = codes "unsound " ++ (decimal unsound ++ (codes ": as of sequence " ++ (decimal last ++ codes ", the newest of what is still there")))

-- what a page of a sector does
abbrev pub wrote_words : Wrote → List ℕ
wrote_words wrote.Data = codes "data"
wrote_words wrote.Trim = codes "trim"

-- a sound page of a sector, in its block
abbrev pub page_words : SectorPage → ℕ → List ℕ
page_words page block =
    codes "page row " ++ (decimal page.row ++ (codes " block " ++ (decimal block ++ (codes " sequence " ++ (decimal page.sequence.0 ++ (
    codes " version " ++ (decimal page.version ++ (codes " " ++ wrote_words page.wrote))))))))

-- what a page is of, by its record
abbrev pub kind_words : Kind → List ℕ
kind_words kind.Sector = codes "sector"
kind_words kind.Trim = codes "trim"
kind_words kind.Translation = codes "translation"
kind_words kind.Table = codes "table"

-- whether what a page says is newer than what is shown
abbrev pub newer_words : Bool → List ℕ
newer_words newer = if newer then codes " newer" else codes " not newer"

-- what a record says, and what stands behind it
abbrev pub record_words : Record → List ℕ → List ℕ
record_words r behind = codes " says " ++ (kind_words r.kind ++ (codes " " ++ (decimal r.number ++ (codes " sequence " ++ (decimal r.sequence ++ behind)))))

-- what a page says that is neither erased nor sound
abbrev pub said_words : SaidPage → List ℕ
said_words page = codes "unsound row " ++ (decimal page.row ++ record_words page.says (newer_words page.newer))

-- how many such pages say something that count as unsound, and at most how many sectors may be older, if that is so, of which none says something newer
abbrev pub legible_words : ℕ → ℕ → List ℕ
legible_words legible others =
    codes "legible " ++ (decimal legible ++ (codes ": if what these pages say is so, at most " ++ (decimal others ++ codes " sectors may be older that are not said newer here")))

-- how many sectors are shown as pages have them that are not sound
abbrev pub damaged_words : ℕ → List ℕ
damaged_words n = codes "damaged " ++ (decimal n ++ codes ": so many sectors are shown as an unsound page reads, nothing sound that counts being newer")

-- how many are shown of a page that no reading has
abbrev pub origin_words : ℕ → List ℕ
origin_words n = codes "mended " ++ (decimal n ++ codes ": so many sectors are shown of a page that none of the readings has in its row")

-- how many pages of a sector are still there, and how many pages are neither erased nor sound
abbrev pub history_words : ℕ → ℕ → List ℕ
history_words pages unsound = codes "history " ++ (decimal pages ++ (codes " unsound " ++ (decimal unsound ++ codes ": of what is still there, newest first")))

-- a line, without its line feed
unfoldable pub line_words : Line → List ℕ
line_words (Pages sort count) = codes "pages " ++ (sort_words sort ++ (codes " " ++ decimal count))
line_words (NumberRange pages) = codes "reason NumberRange pages " ++ decimal pages
line_words (Repeated first second) = codes "reason SequenceRepeated row " ++ (decimal first ++ (codes " row " ++ decimal second))
line_words (NotFormatted page) = codes "reason NotFormatted table " ++ decimal page
line_words (TableDamaged page) = codes "reason TableDamaged table " ++ decimal page
line_words (LastSequence pages) = codes "reason NextSequence pages " ++ decimal pages
line_words (Tied of number) = codes "tied " ++ (label_words of ++ (codes " " ++ decimal number))
line_words (Missing of number) = codes "missing " ++ (label_words of ++ (codes " " ++ decimal number))
line_words (Block block s unsound) = block_words block s unsound
line_words (PlainBlock block unsound) = codes "block " ++ (decimal block ++ (codes " unsound " ++ decimal unsound))
line_words (Lost sector) = codes "lost sector " ++ decimal sector
line_words (line.Fit found) = found_words found
line_words (line.ArrangedFit found) = arranged_fit_words found
line_words (Mended row turn) = turn_words row turn
line_words (MendedCount n) = codes "mended " ++ decimal n
line_words (LostRow row chunks) = codes "lost row " ++ (decimal row ++ (codes " chunks " ++ decimal chunks))
line_words (Corrected bits rows lost) = corrected_words bits rows lost
line_words (Arranged rows) = codes "arranged " ++ decimal rows
line_words (Differ row) = codes "differ row " ++ decimal row
line_words (Unsound row) = codes "unsound row " ++ decimal row
line_words (line.Tried row t) = trial_words row t
line_words (Merged differ t) = tally_words differ t
line_words (line.Tries n) = tries_words n
line_words (Age d) = age_words d
line_words (line.AgeUntil last n) = until_words last n
line_words (line.Page page block) = page_words page block
line_words (line.History pages n) = history_words pages n
line_words (AgeOfRows n) = codes "unsound " ++ (decimal n ++ codes ": of these rows alone, of others nothing is told")
line_words (OfRows rows) = codes "rows " ++ (decimal rows.first ++ (codes ".." ++ decimal rows.end))
line_words (Factory n) = codes "factory " ++ decimal n
line_words (Rewritten n) = codes "rewritten " ++ decimal n
line_words (Holes n) = codes "holes " ++ decimal n
line_words (Outside n) = codes "outside " ++ decimal n
line_words (line.Says page) = said_words page
line_words (line.Legible legible others) = legible_words legible others
line_words (line.Damaged n) = damaged_words n
line_words (line.Origin n) = origin_words n

-- ---- which lines there are

-- a count of pages that are a reason, where there are some
abbrev pub outside_line : ℕ → Option Line
outside_line zero = None
outside_line (suc n) = Some (NumberRange (suc n))

abbrev pub last_line : ℕ → Option Line
last_line zero = None
last_line (suc n) = Some (LastSequence (suc n))

-- pages of bad blocks that leave nothing open, where there are some
abbrev pub factory_line : ℕ → Option Line
factory_line zero = None
factory_line (suc n) = Some (Factory (suc n))

abbrev pub rewritten_line : ℕ → Option Line
rewritten_line zero = None
rewritten_line (suc n) = Some (Rewritten (suc n))

-- pages that were lost, or that are of a sector past the last one, where there are some
abbrev pub hole_line : ℕ → Option Line
hole_line zero = None
hole_line (suc n) = Some (Holes (suc n))

abbrev pub past_line : ℕ → Option Line
past_line zero = None
past_line (suc n) = Some (Outside (suc n))

-- the pages that were tried, where there are some
abbrev pub tries_line : ℕ → Option Line
tries_line zero = None
tries_line (suc n) = Some (line.Tries (suc n))

-- how far the array is from the last write, or what it is as of a sequence
abbrev pub age_line : Option ℕ → Doubts → Line
age_line None d = Age d
age_line (Some last) d = line.AgeUntil last d.unsound

-- a page of a sector, with its block
abbrev pub page_line : Geometry → SectorPage → Line
page_line g page = line.Page page (page.row / g.pages)

-- a page that says something newer than what is shown, of the whole array alone
abbrev pub newer_line : Option ℕ → SaidPage → Option Line
newer_line last page = if page.newer && is_none last then Some (line.Says page) else None

-- the pages that say something, if there are some, of the whole array alone
abbrev pub legible_line : Option ℕ → ℕ → ℕ → Option Line
legible_line last legible others = if is_none last && not (legible == 0) then Some (line.Legible legible others) else None

-- the sectors that are shown as pages have them that are not sound, where there are some
abbrev pub damaged_line : ℕ → Option Line
damaged_line zero = None
damaged_line (suc n) = Some (line.Damaged (suc n))

-- the rows that were asked for, where not all are
abbrev pub rows_line : Option Rows → Option Line
rows_line rows = option_map OfRows rows

abbrev pub repeated_line : Option (ℕ × ℕ) → Option Line
repeated_line rows = option_map (λ pair. Repeated pair.0 pair.1) rows

-- what a table page is a reason for: it has no newest page, or one that isn't well formed
abbrev pub table_line : ℕ → KeyState → Bool → Option Line
table_line page state.Found true = None
table_line page state.Found false = Some (TableDamaged page)
table_line page state.Absent formed = Some (NotFormatted page)
table_line page state.Tied formed = Some (NotFormatted page)

-- a key that is tied, or that has no sound page where it should have one
abbrev pub key_line : Label → ℕ → KeyState → Option Line
key_line of number state.Found = None
key_line of number state.Tied = Some (Tied of number)
key_line label.Sector number state.Absent = None
key_line label.Translation number state.Absent = Some (Missing label.Translation number)
key_line label.Table number state.Absent = Some (Missing label.Table number)

-- a sector of which two pages share the greatest sequence
abbrev pub tie_line : ℕ → SectorShown → Option Line
tie_line n shown.Absent = None
tie_line n shown.Found = None
tie_line n shown.Damaged = None
tie_line n shown.Tied = Some (Tied label.Sector n)

-- a block, with its state where that is known
abbrev pub block_line : ℕ → Option BlockState → ℕ → Option Line
block_line block (Some s) unsound = Some (Block block s unsound)
block_line block None unsound = Some (PlainBlock block unsound)

-- a sector that has lost a page
abbrev pub lost_line : ℕ → Bool → Option Line
lost_line n true = Some (Lost n)
lost_line n false = None
