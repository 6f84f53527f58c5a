-- The lines of the reports, as JSON values: objects, each with its members by rising name. `line` says which line it is.
use Rattle.std.specs.Prelude.{ℕ, List, [], ◌∷◌, ◌++◌, codes, Bool, true, if◌then◌else◌}
use Rattle.std.specs.Fmt.{decimal}
use Rattle.serde_json.specs.Data.{Data, Members, boolean, number, unsigned, string, array, object, item, no_items, member, no_members}
use Rattle.certificate.specs.declared.block_state.BlockState.{BlockState}
use Rattle.lab_dump.specs.declared.fit.Fit.{Fit}
use Rattle.lab_dump.specs.declared.doubts.Doubts.{Doubts}
use Rattle.lab_dump.specs.declared.rows.Rows.{Rows}
use Rattle.lab_dump.specs.declared.history.SectorPage.{SectorPage}
use Rattle.lab_dump.specs.declared.said.SaidPage.{SaidPage}
use Rattle.lab_dump.specs.Doubts.{most_older}
use Rattle.lab_correct.specs.declared.found.FoundFit.{FoundFit}
use Rattle.lab_shapes.specs.declared.find.ArrangedFit.{ArrangedFit}
use Rattle.lab_shapes.specs.Words.{arrangement_words}
use Rattle.serde_json.specs.Written.{members_text}
use Rattle.lab_mend.specs.declared.merging.RowTally.{RowTally}
use Rattle.lab_mend.specs.declared.pairs.BitPair.{BitPair}
use Rattle.lab_mend.specs.declared.pairs.BitTurn.{BitTurn}
use Rattle.lab_mend.specs.declared.pairs.BitTurn.TheVariants as turn
use Rattle.lab_mend.specs.declared.trial.Trial.{Trial}
use Rattle.lab_mend.specs.declared.trial.Trial.TheVariants as trial
use Rattle.lab_mend.specs.declared.mending.Made.{Made}
use Rattle.lab_commands.specs.declared.lines.Label.{Label}
use Rattle.lab_commands.specs.declared.lines.Sort.{Sort}
use Rattle.lab_commands.specs.declared.lines.Line.{Line}
use Rattle.lab_commands.specs.declared.lines.Line.TheVariants.{Pages, NumberRange, Repeated, NotFormatted, TableDamaged, LastSequence, Tied, Missing, Block, PlainBlock, Lost}
use Rattle.lab_commands.specs.declared.lines.Line.TheVariants.{OfRows, Factory, Rewritten, Holes, Outside, Mended, MendedCount, Differ, Unsound, Merged, Age, AgeOfRows}
use Rattle.lab_commands.specs.declared.lines.Line.TheVariants.{LostRow, Corrected, Arranged}
use Rattle.lab_commands.specs.declared.lines.Line.TheVariants as line
use Rattle.lab_commands.specs.Lines.{class_words, kind_words, label_words, made_words, says_words, sort_words, wrote_words}

abbrev pub count : ℕ → Data
count n = number (unsigned n)

abbrev pub text : List ℕ → Data
text t = string t

-- ---- objects

abbrev pub pages_data : Sort → ℕ → Data
pages_data s n = object (member (codes "count") (count n) (member (codes "line") (text (codes "pages")) (member (codes "sort") (text (sort_words s)) no_members)))

-- a reason that tells of so many pages
abbrev pub reason_pages_data : List ℕ → ℕ → Data
reason_pages_data reason n =
    object (member (codes "line") (text (codes "reason")) (member (codes "pages") (count n) (member (codes "reason") (text reason) no_members)))

abbrev pub repeated_data : ℕ → ℕ → Data
repeated_data first second =
    object (member (codes "line") (text (codes "reason")) (member (codes "reason") (text (codes "SequenceRepeated")) (
    member (codes "rows") (array (item (count first) (item (count second) no_items))) no_members)))

-- a reason that tells of a table page
abbrev pub reason_table_data : List ℕ → ℕ → Data
reason_table_data reason page =
    object (member (codes "line") (text (codes "reason")) (member (codes "reason") (text reason) (member (codes "table") (count page) no_members)))

-- a key that is tied or missing
abbrev pub key_data : List ℕ → Label → ℕ → Data
key_data name of n = object (member (codes "key") (text (label_words of)) (member (codes "line") (text name) (member (codes "number") (count n) no_members)))

abbrev pub block_data : ℕ → BlockState → ℕ → Data
block_data block s n =
    object (member (codes "block") (count block) (member (codes "class") (text (class_words s.class)) (member (codes "line") (text (codes "block")) (
    member (codes "live") (count s.live) (member (codes "pointer") (count s.pointer) (member (codes "unsound") (count n) (
    member (codes "wear") (count s.wear) no_members)))))))

abbrev pub plain_block_data : ℕ → ℕ → Data
plain_block_data block n =
    object (member (codes "block") (count block) (member (codes "line") (text (codes "block")) (member (codes "unsound") (count n) no_members)))

abbrev pub lost_data : ℕ → Data
lost_data n = object (member (codes "line") (text (codes "lost")) (member (codes "sector") (count n) no_members))

-- the five numbers of a geometry
abbrev pub geometry_data : Fit → Data
geometry_data f = array (item (count f.data_bytes) (item (count f.spare_bytes) (item (count f.pages) (item (count f.blocks) (item (count f.sectors) no_items)))))

-- its members behind the first one and the one of codes
abbrev pub fit_members : Fit → Members
fit_members f =
    member (codes "geometry") (geometry_data f) (member (codes "line") (text (codes "geometry")) (
    member (codes "looked") (count f.looked) (member (codes "sectors_told") (count f.sectors_told) (member (codes "sound") (count f.sound.0) (
    member (codes "table") (text (says_words f.table)) (member (codes "unsound") (count f.unsound) no_members))))))

abbrev pub fit_data : Fit → Data
fit_data f = object (member (codes "blocks_told") (count f.blocks_told) (fit_members f))

-- one whose pages stand with their codes
abbrev pub coded_fit_data : Fit → Data
coded_fit_data f = object (member (codes "blocks_told") (count f.blocks_told) (member (codes "codes") (text (codes "hamming")) (fit_members f)))

-- a geometry that fits, as the dump stands or with codes
abbrev pub found_data : FoundFit → Data
found_data found = if found.coded then coded_fit_data found.fit else fit_data found.fit

-- one that fits in another arrangement
abbrev pub arranged_fit_data : ArrangedFit → Data
arranged_fit_data found =
    object (member (codes "arrange") (text (arrangement_words found.arrangement)) (member (codes "blocks_told") (count found.fit.blocks_told) (fit_members found.fit)))

-- its text behind the words
abbrev pub arranged_rest : Fit → List ℕ
arranged_rest f = 34 ∷ members_text true (member (codes "blocks_told") (count f.blocks_told) (fit_members f))

-- how its text goes on behind the first member, up to the one of the five numbers
abbrev pub front_words : Bool → List ℕ
front_words coded = if coded then codes ",\"codes\":\"hamming\"" else []

-- and from that one on
abbrev pub fit_rest_words : Fit → List ℕ
fit_rest_words f = members_text true (fit_members f)

-- what stands behind the name of the number of pages that were looked at
abbrev pub counts_words : Fit → List ℕ
counts_words f =
    decimal f.looked ++ (codes ",\"sectors_told\":" ++ (decimal f.sectors_told ++ (codes ",\"sound\":" ++ (decimal f.sound.0 ++ (
    codes ",\"table\":\"" ++ (says_words f.table ++ (codes "\",\"unsound\":" ++ (decimal f.unsound ++ codes "}"))))))))

abbrev pub mended_data : Made → ℕ → ℕ → Data
mended_data how row bit = object (member (codes "bit") (count bit) (member (codes "line") (text (made_words how)) (member (codes "row") (count row) no_members)))

-- the rows that were asked for
abbrev pub rows_data : Rows → Data
rows_data rows = object (member (codes "end") (count rows.end) (member (codes "first") (count rows.first) (member (codes "line") (text (codes "rows")) no_members)))

-- so many pages, under the name of their line
abbrev pub doubt_data : List ℕ → ℕ → Data
doubt_data name n = object (member (codes "line") (text name) (member (codes "pages") (count n) no_members))

abbrev pub mended_count_data : ℕ → Data
mended_count_data n = object (member (codes "line") (text (codes "repaired")) (member (codes "mended") (count n) no_members))

-- a row with so many lost chunks
abbrev pub lost_row_data : ℕ → ℕ → Data
lost_row_data row chunks = object (member (codes "chunks") (count chunks) (member (codes "line") (text (codes "lost_row")) (member (codes "row") (count row) no_members)))

-- how many pages were put in order
abbrev pub arranged_data : ℕ → Data
arranged_data rows = object (member (codes "line") (text (codes "arranged")) (member (codes "rows") (count rows) no_members))

-- how many bits were turned back, in how many rows, and how many rows have lost chunks
abbrev pub corrected_data : ℕ → ℕ → ℕ → Data
corrected_data bits rows lost =
    object (member (codes "line") (text (codes "corrected")) (member (codes "lost") (count lost) (member (codes "rows") (count rows) (member (codes "turned") (count bits) no_members))))

-- a row of which two sound pages differ, or which is unsound
abbrev pub row_data : List ℕ → ℕ → Data
row_data name row = object (member (codes "line") (text name) (member (codes "row") (count row) no_members))

-- a row of which these two bits are turned
abbrev pub pair_data : ℕ → BitPair → Data
pair_data row b =
    object (member (codes "bits") (array (item (count b.low) (item (count b.high) no_items))) (member (codes "line") (text (codes "mended")) (member (codes "row") (count row) no_members)))

-- what came of the page of a row that was to be mended
abbrev pub turn_data : ℕ → BitTurn → Data
turn_data row (turn.One t) = mended_data t.made row t.bit
turn_data row (turn.Two b) = pair_data row b
turn_data row turn.Tied = row_data (codes "tied_row") row
turn_data row turn.Nothing = row_data (codes "tried") row

-- a row of which so many of the bits are turned in which its readings differ
abbrev pub turned_data : List ℕ → (row turned differing : ℕ) → Data
turned_data name row turned differing =
    object (member (codes "bits") (count differing) (member (codes "line") (text name) (member (codes "row") (count row) (member (codes "turned") (count turned) no_members))))

-- one of which none of the pages that were tried is sound
abbrev pub nothing_data : ℕ → ℕ → Data
nothing_data row differing = object (member (codes "bits") (count differing) (member (codes "line") (text (codes "tried")) (member (codes "row") (count row) no_members)))

-- what came of the pages that were tried of a row
abbrev pub tried_data : ℕ → Trial → Data
tried_data row (trial.Taken n d) = turned_data (codes "turned") row n d
tried_data row (trial.Tied n d) = turned_data (codes "tied_row") row n d
tried_data row (trial.Nothing d) = nothing_data row d

-- how many pages were tried at most, by a seal of so many bits
abbrev pub tries_data : ℕ → Data
tries_data n = object (member (codes "line") (text (codes "tries")) (member (codes "seal_bits") (count 64) (member (codes "tries") (count n) no_members)))

abbrev pub merged_data : ℕ → RowTally → Data
merged_data differ t =
    object (member (codes "differ") (count differ) (member (codes "erased") (count t.erased) (member (codes "line") (text (codes "merged")) (
    member (codes "majority") (count t.majority) (member (codes "sound") (count t.sound) (member (codes "turned") (count t.turned) (
    member (codes "unsound") (count t.unsound) no_members)))))))

-- at most so many sectors may be older, and so many pages are neither erased nor sound
abbrev pub age_data : Doubts → Data
age_data d =
    object (member (codes "line") (text (codes "age")) (member (codes "older") (count (most_older d)) (member (codes "unsound") (count d.unsound) no_members)))

-- of the array as of this sequence, where so many pages are neither erased nor sound
abbrev pub age_until_data : ℕ → ℕ → Data
age_until_data last n = object (member (codes "line") (text (codes "until")) (member (codes "sequence") (count last) (member (codes "unsound") (count n) no_members)))

-- a sound page of a sector, in its block
abbrev pub page_data : SectorPage → ℕ → Data
page_data page block =
    object (member (codes "block") (count block) (member (codes "kind") (text (wrote_words page.wrote)) (member (codes "line") (text (codes "page")) (
    member (codes "row") (count page.row) (member (codes "sequence") (count page.sequence.0) (member (codes "version") (count page.version) no_members))))))

-- how many pages of a sector are still there, and how many pages are neither erased nor sound
abbrev pub history_data : ℕ → ℕ → Data
history_data pages n = object (member (codes "line") (text (codes "history")) (member (codes "pages") (count pages) (member (codes "unsound") (count n) no_members)))

-- what a page says that is neither erased nor sound
abbrev pub said_data : SaidPage → Data
said_data page =
    object (member (codes "kind") (text (kind_words page.says.kind)) (member (codes "line") (text (codes "says")) (member (codes "newer") (boolean page.newer) (
    member (codes "number") (count page.says.number) (member (codes "row") (count page.row) (member (codes "sequence") (count page.says.sequence) no_members))))))

-- how many pages say something, and at most how many others may be older if that is so
abbrev pub legible_data : ℕ → ℕ → Data
legible_data legible others = object (member (codes "legible") (count legible) (member (codes "line") (text (codes "legible")) (member (codes "others") (count others) no_members)))

-- how many sectors are shown as pages have them that are not sound
abbrev pub damaged_data : ℕ → Data
damaged_data n = object (member (codes "damaged") (count n) (member (codes "line") (text (codes "damaged")) no_members))

-- how many are shown of a page that no reading has
abbrev pub origin_data : ℕ → Data
origin_data n = object (member (codes "line") (text (codes "origin")) (member (codes "mended") (count n) no_members))

-- how JSON writes a truth
abbrev pub truth_words : Bool → List ℕ
truth_words is = if is then codes "true" else codes "false"

abbrev pub rows_age_data : ℕ → Data
rows_age_data n = object (member (codes "line") (text (codes "rows_age")) (member (codes "unsound") (count n) no_members))

-- what a document begins with
abbrev pub head_data : List ℕ → Data
head_data command =
    object (member (codes "command") (text command) (member (codes "line") (text (codes "command")) (member (codes "program") (text (codes "nandlab")) no_members)))

-- ---- all lines

unfoldable pub line_data : Line → Data
line_data (Pages sort n) = pages_data sort n
line_data (NumberRange n) = reason_pages_data (codes "NumberRange") n
line_data (Repeated first second) = repeated_data first second
line_data (NotFormatted page) = reason_table_data (codes "NotFormatted") page
line_data (TableDamaged page) = reason_table_data (codes "TableDamaged") page
line_data (LastSequence n) = reason_pages_data (codes "NextSequence") n
line_data (Tied of n) = key_data (codes "tied") of n
line_data (Missing of n) = key_data (codes "missing") of n
line_data (Block block s n) = block_data block s n
line_data (PlainBlock block n) = plain_block_data block n
line_data (Lost n) = lost_data n
line_data (line.Fit found) = found_data found
line_data (line.ArrangedFit found) = arranged_fit_data found
line_data (Mended row turn) = turn_data row turn
line_data (MendedCount n) = mended_count_data n
line_data (LostRow row chunks) = lost_row_data row chunks
line_data (Corrected bits rows lost) = corrected_data bits rows lost
line_data (Arranged rows) = arranged_data rows
line_data (Differ row) = row_data (codes "differ") row
line_data (Unsound row) = row_data (codes "unsound") row
line_data (line.Tried row t) = tried_data row t
line_data (Merged differ t) = merged_data differ t
line_data (line.Tries n) = tries_data n
line_data (Age d) = age_data d
line_data (line.AgeUntil last n) = age_until_data last n
line_data (line.Page page block) = page_data page block
line_data (line.History pages n) = history_data pages n
line_data (AgeOfRows n) = rows_age_data n
line_data (OfRows rows) = rows_data rows
line_data (Factory n) = doubt_data (codes "factory") n
line_data (Rewritten n) = doubt_data (codes "rewritten") n
line_data (Holes n) = doubt_data (codes "holes") n
line_data (Outside n) = doubt_data (codes "outside") n
line_data (line.Says page) = said_data page
line_data (line.Legible legible others) = legible_data legible others
line_data (line.Damaged n) = damaged_data n
line_data (line.Origin n) = origin_data n
