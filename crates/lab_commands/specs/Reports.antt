-- What each command says.
use Rattle.std.specs.Prelude.{ℕ, ◌+◌, Bool, false, List, [], ◌∷◌, ◌++◌, length, get_or, map, slice_get, count_by, codes, Option, Some, None, option_map, option_and_then}
use Rattle.page_layout.specs.declared.geometry.Geometry.{Geometry}
use Rattle.page_layout.specs.Geometry.{translation_pages, table_pages}
use Rattle.certificate.specs.declared.block_state.BlockState.{BlockState}
use Rattle.lab_dump.specs.declared.held.KeyState.{KeyState}
use Rattle.lab_dump.specs.declared.held.KeyState.TheVariants as state
use Rattle.lab_dump.specs.declared.held.SectorShown.{SectorShown}
use Rattle.lab_dump.specs.declared.held.SectorShown.TheVariants as shown
use Rattle.lab_dump.specs.Held.{damaged_of, shown_in}
use Rattle.lab_dump.specs.declared.compare.Compared.{Compared}
use Rattle.lab_mend.specs.declared.merging.RowTally.{RowTally}
use Rattle.lab_mend.specs.declared.merging.TriedRow.{TriedRow}
use Rattle.lab_mend.specs.Tries.{tries_in}
use Rattle.lab_correct.specs.declared.correcting.Loss.{Loss}
use Rattle.lab_correct.specs.declared.found.FoundFit.{FoundFit}
use Rattle.lab_shapes.specs.declared.find.ArrangedFit.{ArrangedFit}
use Rattle.lab_mend.specs.declared.repairing.Mend.{Mend}
use Rattle.lab_dump.specs.declared.mark.MapMark.{MapMark}
use Rattle.lab_origin.specs.Origin.{is_mended}
use Rattle.lab_mend.specs.Repairing.{mended_count}
use Rattle.lab_dump.specs.declared.survey.DieSurvey.{DieSurvey}
use Rattle.lab_dump.specs.Doubts.{most_others}
use Rattle.lab_dump.specs.declared.doubts.Unsettled.{Unsettled}
use Rattle.lab_dump.specs.declared.said.SaidPage.{SaidPage}
use Rattle.lab_dump.specs.declared.rows.Rows.{Rows}
use Rattle.lab_dump.specs.declared.history.SectorPage.{SectorPage}
use Rattle.lab_commands.specs.declared.lines.Label.{Label}
use Rattle.lab_commands.specs.declared.lines.Label.TheVariants as label
use Rattle.lab_commands.specs.declared.lines.Sort.TheVariants as sort
use Rattle.lab_commands.specs.declared.lines.Line.{Line}
use Rattle.lab_commands.specs.declared.lists.Lines.{Lines}
use Rattle.lab_commands.specs.declared.lists.Lines.TheVariants as lists
use Rattle.lab_commands.specs.declared.lines.Line.TheVariants as line
use Rattle.lab_commands.specs.declared.document.ReportForm.{ReportForm}
use Rattle.lab_commands.specs.Document.{head_text, if_text, line_text, tail_text, text_below}
use Rattle.lab_commands.specs.Lines.{age_line, block_line, damaged_line, factory_line, hole_line, key_line, last_line, legible_line, lost_line, newer_line, outside_line, page_line, past_line, repeated_line, rewritten_line, rows_line, table_line, tie_line, tries_line}

-- ---- lists

-- keys that stand one behind another in a list of states, from this place on
abbrev pub key_line_at : Label → List KeyState → ℕ → ℕ → Option Line
key_line_at of states from n = key_line of n (get_or states (from + n) state.Absent)

abbrev pub table_at : List KeyState → ℕ → List Bool → ℕ → Option Line
table_at states from formed u = table_line u (get_or states (from + u) state.Absent) (get_or formed u false)

abbrev pub state_at : Option (List BlockState) → ℕ → Option BlockState
state_at None b = None
state_at (Some states) b = slice_get states b

abbrev pub block_line_at : Option (List BlockState) → List ℕ → ℕ → Option Line
block_line_at states unsound b = block_line b (state_at states b) (get_or unsound b 0)

abbrev pub lost_at : List Bool → ℕ → Option Line
lost_at lost n = lost_line n (get_or lost n false)

abbrev pub tie_at : List SectorShown → ℕ → Option Line
tie_at states n = tie_line n (get_or states n shown.Absent)

abbrev pub page_line_at : Geometry → List SectorPage → ℕ → Option Line
page_line_at g pages n = option_map (page_line g) (slice_get pages n)

abbrev pub fit_at : List FoundFit → ℕ → Option Line
fit_at fits n = option_map line.Fit (slice_get fits n)

abbrev pub mend_at : List Mend → ℕ → Option Line
mend_at mends n = option_map (λ m. line.Mended m.row m.turn) (slice_get mends n)

abbrev pub lost_row_at : List Loss → ℕ → Option Line
lost_row_at losses n = option_map (λ l. line.LostRow l.row l.chunks) (slice_get losses n)

abbrev pub differ_at : List ℕ → ℕ → Option Line
differ_at rows n = option_map line.Differ (slice_get rows n)

abbrev pub unsound_at : List ℕ → ℕ → Option Line
unsound_at rows n = option_map line.Unsound (slice_get rows n)

abbrev pub tried_at : List TriedRow → ℕ → Option Line
tried_at tried n = option_map (λ r. line.Tried r.row r.trial) (slice_get tried n)

abbrev pub said_at : List SaidPage → ℕ → Option Line
said_at pages n = option_map line.Says (slice_get pages n)

-- the line of one that says something newer than what is shown, of the whole array alone
abbrev pub newer_at : Option ℕ → List SaidPage → ℕ → Option Line
newer_at last pages n = option_and_then (newer_line last) (slice_get pages n)

-- lines that may be there, in their order
abbrev pub some_at : List (Option Line) → ℕ → Option Line
some_at lines n = get_or lines n None

-- the line of each number of a list
abbrev pub line_at : Lines → ℕ → Option Line
line_at (lists.Fixed lines) = some_at lines.now
line_at (lists.Keys of states from count) = key_line_at of states.now from
line_at (lists.Tables states from formed count) = table_at states.now from formed.now
line_at (lists.Blocks survey count) = block_line_at (option_map (λ states. states.items) survey.now.blocks) survey.now.unsound.items
line_at (lists.Losses lost count) = lost_at lost.now
line_at (lists.Ties held count) = tie_at (map shown_in held.now)
line_at (lists.Pages g pages) = page_line_at g.now pages.now
line_at (lists.Fits fits) = fit_at fits.now
line_at (lists.Mends mends) = mend_at mends.now
line_at (lists.LostRows losses) = lost_row_at losses.now
line_at (lists.Conflicts rows) = differ_at rows.now
line_at (lists.Unsound rows) = unsound_at rows.now
line_at (lists.Tried rows) = tried_at rows.now
line_at (lists.Said pages) = said_at pages.now
line_at (lists.Newer last pages) = newer_at last pages.now

-- how many numbers there are
abbrev pub line_count : Lines → ℕ
line_count (lists.Fixed lines) = length lines.now
line_count (lists.Keys of states from count) = count
line_count (lists.Tables states from formed count) = count
line_count (lists.Blocks survey count) = count
line_count (lists.Losses lost count) = count
line_count (lists.Ties held count) = count
line_count (lists.Pages g pages) = length pages.now
line_count (lists.Fits fits) = length fits.now
line_count (lists.Mends mends) = length mends.now
line_count (lists.LostRows losses) = length losses.now
line_count (lists.Conflicts rows) = length rows.now
line_count (lists.Unsound rows) = length rows.now
line_count (lists.Tried rows) = length rows.now
line_count (lists.Said pages) = length pages.now
line_count (lists.Newer last pages) = length pages.now

abbrev pub some_text : ReportForm → List (Option Line) → List ℕ
some_text form lines = text_below form (some_at lines) (length lines)

-- ---- what a dump leaves open

-- the pages of bad blocks that leave nothing open, those that were lost, those of a sector past the last one, those that say something, and how far the array may be from the
-- last write, or what it is as of a sequence
abbrev pub doubt_lines : Option ℕ → Unsettled → List (Option Line)
doubt_lines last left =
    factory_line left.doubts.factory ∷ rewritten_line left.doubts.rewritten ∷ hole_line left.doubts.holes ∷ past_line left.doubts.outside
    ∷ legible_line last left.legible (most_others left.doubts left.legible) ∷ Some (age_line last left.doubts) ∷ []

abbrev pub doubts_text : ReportForm → Option ℕ → Unsettled → List ℕ
doubts_text form last left = some_text form (doubt_lines last left)

-- the same behind the pages that say something newer than what is shown, where the array is the whole one
abbrev pub left_text : ReportForm → Option ℕ → Unsettled → List ℕ
left_text form last left = text_below form (newer_at last left.said.items) (length left.said.items) ++ doubts_text form last left

-- ---- survey

-- the pages of each sort, and the reasons against a mount but for the tables
abbrev pub count_lines : DieSurvey → List (Option Line)
count_lines s =
    Some (line.Pages sort.Data s.counts.sectors) ∷ Some (line.Pages sort.Trim s.counts.trims) ∷ Some (line.Pages sort.Translation s.counts.translations)
    ∷ Some (line.Pages sort.Table s.counts.tables) ∷ Some (line.Pages sort.Erased s.counts.erased) ∷ Some (line.Pages sort.Unsound s.counts.unsound)
    ∷ outside_line s.counts.outside ∷ repeated_line s.repeated ∷ last_line s.counts.last ∷ []

-- the place of the first table page among the keys
abbrev pub first_table : Geometry → ℕ
first_table g = g.sectors + translation_pages g

-- the table pages that are a reason against a mount, and the keys that are tied or missing
unfoldable pub keys_text : ReportForm → Geometry → List KeyState → List Bool → List ℕ
keys_text form g states formed =
    text_below form (table_at states (first_table g) formed) (table_pages g)
    ++ (text_below form (key_line_at label.Sector states 0) g.sectors
    ++ (text_below form (key_line_at label.Translation states g.sectors) (translation_pages g) ++ text_below form (key_line_at label.Table states (first_table g)) (table_pages g)))

abbrev pub blocks_text : ReportForm → Geometry → DieSurvey → List ℕ
blocks_text form g s = text_below form (block_line_at (option_map (λ states. states.items) s.blocks) s.unsound.items) g.blocks

-- its last lines: what the dump leaves open, or where some rows alone were looked at, how many of them are neither erased nor sound
abbrev pub age_text : ReportForm → Option Rows → DieSurvey → List ℕ
age_text form None s = doubts_text form None s.left
age_text form (Some rows) s = line_text form (line.AgeOfRows s.counts.unsound)

-- what a survey ends with: what pages say that are neither erased nor sound, and the last lines
abbrev pub ending_text : ReportForm → Option Rows → DieSurvey → List ℕ
ending_text form rows s = text_below form (said_at s.left.said.items) (length s.left.said.items) ++ age_text form rows s

-- all lines of a survey
unfoldable pub survey_lines : ReportForm → Geometry → Option Rows → DieSurvey → List ℕ
survey_lines form g rows s =
    if_text form (rows_line rows) ++ (some_text form (count_lines s) ++ (keys_text form g s.keys.items s.formed.items
    ++ (blocks_text form g s ++ ending_text form rows s)))

abbrev pub survey_text : ReportForm → Geometry → Option Rows → DieSurvey → List ℕ
survey_text form g rows s = head_text form (codes "survey") ++ (survey_lines form g rows s ++ tail_text form)

-- ---- the others

abbrev pub losses_text : ReportForm → Geometry → List Bool → List ℕ
losses_text form g lost = text_below form (lost_at lost) g.sectors

abbrev pub compare_text : ReportForm → Geometry → Compared → List ℕ
compare_text form g told = head_text form (codes "compare") ++ (losses_text form g told.lost.items ++ (left_text form None told.left ++ tail_text form))

-- the sectors that are tied, and how many are shown as pages have them that are not sound, by how all sectors are shown
abbrev pub ties_text : ReportForm → Geometry → List SectorShown → List ℕ
ties_text form g states = text_below form (tie_at states) g.sectors ++ if_text form (damaged_line (damaged_of states))

-- of an array, as of a sequence where one is said
abbrev pub array_text : ReportForm → Geometry → Option ℕ → List SectorShown → Unsettled → List ℕ
array_text form g last states left = head_text form (codes "array") ++ (ties_text form g states ++ (left_text form last left ++ tail_text form))

-- of the sound pages of a sector, beside so many pages that are neither erased nor sound
abbrev pub history_text : ReportForm → Geometry → List SectorPage → ℕ → List ℕ
history_text form g pages unsound =
    head_text form (codes "history") ++ (text_below form (page_line_at g pages) (length pages) ++ (line_text form (line.History (length pages) unsound) ++ tail_text form))

abbrev pub fits_text : ReportForm → List FoundFit → Option ArrangedFit → List ℕ
fits_text form fits turned =
    head_text form (codes "geometry") ++ (text_below form (fit_at fits) (length fits) ++ (if_text form (option_map line.ArrangedFit turned) ++ tail_text form))

-- of the one in another arrangement
abbrev pub arranged_fit_text : ReportForm → ArrangedFit → List ℕ
arranged_fit_text form found = head_text form (codes "geometry") ++ (line_text form (line.ArrangedFit found) ++ tail_text form)

-- what came of the pages that were to be mended, how many pages were tried, and how many were mended
abbrev pub repair_text : ReportForm → ℕ → List Mend → List ℕ
repair_text form tries mends =
    head_text form (codes "repair") ++ (text_below form (mend_at mends) (length mends)
    ++ (if_text form (tries_line tries) ++ (line_text form (line.MendedCount (mended_count mends)) ++ tail_text form)))

abbrev pub correct_text : ReportForm → ℕ → ℕ → List Loss → List ℕ
correct_text form turned touched losses =
    head_text form (codes "correct") ++ (text_below form (lost_row_at losses) (length losses) ++ (line_text form (line.Corrected turned touched (length losses)) ++ tail_text form))

-- how many sectors are shown of a page that no reading has, by the mark of each
abbrev pub origin_text : ReportForm → List MapMark → List ℕ
origin_text form marks = head_text form (codes "origin") ++ (line_text form (line.Origin (count_by is_mended marks)) ++ tail_text form)

-- the rows that differ, those that are unsound, those of which pages were tried, how many pages, and how many rows there are of each kind
abbrev pub merge_text : ReportForm → List ℕ → List ℕ → List TriedRow → RowTally → List ℕ
merge_text form conflicts unsound tried t =
    head_text form (codes "merge") ++ (text_below form (differ_at conflicts) (length conflicts)
    ++ (text_below form (unsound_at unsound) (length unsound) ++ (text_below form (tried_at tried) (length tried)
    ++ (if_text form (tries_line (tries_in tried)) ++ (line_text form (line.Merged (length conflicts) t) ++ tail_text form)))))

-- how many pages were put in order
abbrev pub arrange_text : ReportForm → ℕ → List ℕ
arrange_text form rows = head_text form (codes "arrange") ++ (line_text form (line.Arranged rows) ++ tail_text form)
